-- Symbols by name: among the nodes and on the symbol list.
use Rattle.std.specs.Prelude.{ℕ, zero, suc, ◌+◌, ◌≤◌, ◌<◌, ◌≡◌, refl, Bool, true, false, ◌&&◌, List, [], ◌∷◌, ◌++◌, eqb}
use Rattle.std.proofs.Common.{arith, add-zero, zero-add, sym, ap, ◌∙◌, subst, eq-eqb, ne_eqb, eqb-true}
use Rattle.std.proofs.Math.Option.{Option, none, some}
use lib.ListN.{length, take, drop, get_or, set, get_or-append}
use Rattle.std.proofs.Math.Seq.{get_or-append_seam}
use Rattle.std.proofs.lemmas.Bool.{eqb-false}
use Rattle.definition.specs.Run.{pick}
use Rattle.definition.specs.Node.{Row, nil, bool, fixnum, symbol, array, hash, object, string, user, float, bignum, absent, present, kind, words, equal, KIND, START, LENGTH, symbol_kind}
use Rattle.definition.specs.Arena.{range, name_of, named, find_symbol}
use Rattle.lists.specs.Ranges.{range_more}
use Rattle.load_state.specs.Holds.{Plain, Symbolic, Fit, AllFit, AllSymbolic, Names, find_listed}

-- a test that did not hold
pub untrue : {A : Type 0} → false ≡ true → A
untrue e = absurd (subst test e tt)
  where
    test : Bool → Type 0
    test true = ⊥
    test false = Unit {0}

-- ---- one row

pub plain_kind : (r : Row) → Plain r → eqb (kind r) symbol_kind ≡ false
plain_kind r p = ne_eqb (kind r) symbol_kind p

pub symbolic_kind : (r : Row) → Symbolic r → eqb (kind r) symbol_kind ≡ true
symbolic_kind r p = eq-eqb (kind r) symbol_kind p

-- a row of another kind is no symbol's
pub other_kind : (r : Row) → eqb (kind r) symbol_kind ≡ false → Plain r
other_kind r e = eqb-false (kind r) symbol_kind e

-- the first word is the kind
pub kind_word : (r : Row) → get_or (words r) KIND 0 ≡ kind r
unfolding kind words
kind_word nil = refl
kind_word (bool true) = refl
kind_word (bool false) = refl
kind_word (fixnum w) = refl
kind_word (symbol s l) = refl
kind_word (array s n w) = refl
kind_word (hash s n d w) = refl
kind_word (object s n c) = refl
kind_word (string s l absent w) = refl
kind_word (string s l (present q n) w) = refl
kind_word (user s l c absent) = refl
kind_word (user s l c (present q n)) = refl
kind_word (float s l) = refl
kind_word (bignum low high true) = refl
kind_word (bignum low high false) = refl

plain_named : (bytes name : List ℕ) (r : Row) → Plain r → named bytes name r ≡ false
unfolding named
plain_named bytes name r p = rw (plain_kind r p) refl

-- a symbol's name is among the bytes
pub symbol_name : (n : ℕ) (bytes : List ℕ) (r : Row) → Symbolic r → Fit n r → (name_of bytes r ≡ take (get_or (words r) LENGTH 0) (drop (get_or (words r) START 0) bytes)) × (get_or (words r) START 0 + get_or (words r) LENGTH 0 ≤ n)
unfolding name_of range pick
symbol_name n bytes r p f = (rw (symbolic_kind r p) refl, f p)

-- a name is the same among more bytes
pub name_more : (b bs : List ℕ) (r : Row) → Fit (length b) r → name_of (b ++ bs) r ≡ name_of b r
unfolding name_of pick
name_more b bs r f = go (eqb (kind r) symbol_kind) refl
  where
    go : (t : Bool) → eqb (kind r) symbol_kind ≡ t → pick t (range (b ++ bs) (get_or (words r) START 0) (get_or (words r) LENGTH 0)) [] ≡ pick t (range b (get_or (words r) START 0) (get_or (words r) LENGTH 0)) []
    go true e = range_more b bs _ _ (f (eqb-true (kind r) symbol_kind e))
    go false e = refl

named_more : (b bs name : List ℕ) (r : Row) → Fit (length b) r → named (b ++ bs) name r ≡ named b name r
unfolding named
named_more b bs name r f = ap (λ (x : List ℕ). eqb (kind r) symbol_kind && equal name x) (name_more b bs r f)

-- nil is no symbol
pub nil_plain : Plain nil
unfolding kind
nil_plain e = omega arith

pub fit_any : (n : ℕ) (rows : List Row) (i : ℕ) → AllFit n rows → Fit n (get_or rows i nil)
fit_any n [] i f = λ p. absurd (nil_plain p)
fit_any n (r ∷ rows) zero f = f 0 (omega arith)
fit_any n (r ∷ rows) (suc i) f = fit_any n rows i (λ j l. f (suc j) (omega arith))

-- a symbol's node is there
pub symbolic_below : (rows : List Row) (i : ℕ) → Symbolic (get_or rows i nil) → i < length rows
symbolic_below [] i p = absurd (nil_plain p)
symbolic_below (r ∷ rows) zero p = omega arith
symbolic_below (r ∷ rows) (suc i) p = let l = symbolic_below rows i p in omega arith

-- ---- the searches

or_else : Option ℕ → Option ℕ → Option ℕ
or_else (some i) o = some i
or_else none o = o

pick_else : (t : Bool) (i : ℕ) (a b : Option ℕ) → pick t (some i) (or_else a b) ≡ or_else (pick t (some i) a) b
unfolding pick or_else
pick_else true i a b = refl
pick_else false i a b = refl

-- rows that are named alike
find_alike : (b b' name : List ℕ) (rows rows' : List Row) (i : ℕ) → length rows ≡ length rows' → ((j : ℕ) → named b name (get_or rows j nil) ≡ named b' name (get_or rows' j nil)) → find_symbol b name rows i ≡ find_symbol b' name rows' i
unfolding find_symbol
find_alike b b' name [] [] i e h = refl
find_alike b b' name [] (r' ∷ rows') i e h = absurd (omega arith)
find_alike b b' name (r ∷ rows) [] i e h = absurd (omega arith)
find_alike b b' name (r ∷ rows) (r' ∷ rows') i e h =
    ap (λ (t : Bool). pick t (some i) (find_symbol b name rows (suc i))) (h 0)
    ∙ ap (λ (o : Option ℕ). pick (named b' name r') (some i) o) (find_alike b b' name rows rows' (suc i) (omega arith) (λ j. h (suc j)))

listed_alike : (b b' name : List ℕ) (rows rows' : List Row) (l : List ℕ) → ((i : ℕ) → i < length l → named b name (get_or rows (get_or l i 0) nil) ≡ named b' name (get_or rows' (get_or l i 0) nil)) → find_listed b name rows l ≡ find_listed b' name rows' l
unfolding find_listed
listed_alike b b' name rows rows' [] h = refl
listed_alike b b' name rows rows' (x ∷ l) h =
    ap (λ (t : Bool). pick t (some x) (find_listed b name rows l)) (h 0 (omega arith))
    ∙ ap (λ (o : Option ℕ). pick (named b' name (get_or rows' x nil)) (some x) o) (listed_alike b b' name rows rows' l (λ i k. h (suc i) (omega arith)))

find_snoc : (b name : List ℕ) (rows : List Row) (r : Row) (i : ℕ) → find_symbol b name (rows ++ (r ∷ [])) i ≡ or_else (find_symbol b name rows i) (pick (named b name r) (some (i + length rows)) none)
unfolding find_symbol or_else
find_snoc b name [] r i = ap (λ (k : ℕ). pick (named b name r) (some k) none) (sym (add-zero i))
find_snoc b name (x ∷ rows) r i =
    let e : suc i + length rows ≡ i + suc (length rows) = omega arith in
    ap (λ (o : Option ℕ). pick (named b name x) (some i) o) (find_snoc b name rows r (suc i) ∙ ap (λ (k : ℕ). or_else (find_symbol b name rows (suc i)) (pick (named b name r) (some k) none)) e)
    ∙ pick_else (named b name x) i _ _

listed_snoc : (b name : List ℕ) (rows : List Row) (l : List ℕ) (h : ℕ) → find_listed b name rows (l ++ (h ∷ [])) ≡ or_else (find_listed b name rows l) (pick (named b name (get_or rows h nil)) (some h) none)
unfolding find_listed or_else
listed_snoc b name rows [] h = refl
listed_snoc b name rows (x ∷ l) h =
    ap (λ (o : Option ℕ). pick (named b name (get_or rows x nil)) (some x) o) (listed_snoc b name rows l h)
    ∙ pick_else (named b name (get_or rows x nil)) x _ _

or_none : (o : Option ℕ) → or_else o none ≡ o
unfolding or_else
or_none (some i) = refl
or_none none = refl

pick_true : (t : Bool) (i : ℕ) (o : Option ℕ) → pick t (some i) o ≡ none → (t ≡ false) × (o ≡ none)
unfolding pick
pick_true true i o e = absurd (subst full e tt)
  where
    full : Option ℕ → Type 0
    full (some i) = Unit {0}
    full none = ⊥
pick_true false i o e = (refl, e)

not_named : (b name : List ℕ) (rows : List Row) (i j : ℕ) → find_symbol b name rows i ≡ none → j < length rows → named b name (get_or rows j nil) ≡ false
unfolding find_symbol
not_named b name [] i j e l = absurd (omega arith)
not_named b name (r ∷ rows) i zero e l = (pick_true (named b name r) i _ e).0
not_named b name (r ∷ rows) i (suc j) e l = not_named b name rows (suc i) j (pick_true (named b name r) i _ e).1 (omega arith)

-- ---- the names that are held

pub names_bytes : (b bs : List ℕ) (rows : List Row) (l : List ℕ) → AllFit (length b) rows → Names b rows l → Names (b ++ bs) rows l
names_bytes b bs rows l f h name =
    find_alike (b ++ bs) b name rows rows 0 refl (λ j. named_more b bs name (get_or rows j nil) (fit_any (length b) rows j f))
    ∙ h name
    ∙ listed_alike b (b ++ bs) name rows rows l (λ i k. sym (named_more b bs name (get_or rows (get_or l i 0) nil) (fit_any (length b) rows (get_or l i 0) f)))

-- a row more
rows_more : (rows : List Row) (r : Row) (l : List ℕ) → AllSymbolic rows l → (i : ℕ) → i < length l → get_or (rows ++ (r ∷ [])) (get_or l i 0) nil ≡ get_or rows (get_or l i 0) nil
rows_more rows r l y i k = get_or-append rows (r ∷ []) nil (get_or l i 0) (symbolic_below rows (get_or l i 0) (y i k))

pub symbolic_more : (rows : List Row) (r : Row) (l : List ℕ) → AllSymbolic rows l → AllSymbolic (rows ++ (r ∷ [])) l
symbolic_more rows r l y i k = subst Symbolic (sym (rows_more rows r l y i k)) (y i k)

listed_more : (b name : List ℕ) (rows : List Row) (r : Row) (l : List ℕ) → AllSymbolic rows l → find_listed b name (rows ++ (r ∷ [])) l ≡ find_listed b name rows l
listed_more b name rows r l y = listed_alike b b name (rows ++ (r ∷ [])) rows l (λ i k. ap (named b name) (rows_more rows r l y i k))

pub names_more : (b : List ℕ) (rows : List Row) (r : Row) (l : List ℕ) → Plain r → AllSymbolic rows l → Names b rows l → Names b (rows ++ (r ∷ [])) l
unfolding pick
names_more b rows r l p y h name =
    find_snoc b name rows r 0
    ∙ ap (λ (t : Bool). or_else (find_symbol b name rows 0) (pick t (some (0 + length rows)) none)) (plain_named b name r p)
    ∙ or_none (find_symbol b name rows 0)
    ∙ h name
    ∙ sym (listed_more b name rows r l y)

-- a row changed
row_set : (P : Row → Type 0) (rows : List Row) (k : ℕ) (r : Row) (j : ℕ) → k < length rows → P r → P (get_or rows j nil) → P (get_or (set rows k r) j nil)
row_set P [] k r j l p q = absurd (omega arith)
row_set P (x ∷ rows) zero r zero l p q = p
row_set P (x ∷ rows) zero r (suc j) l p q = q
row_set P (x ∷ rows) (suc k) r zero l p q = q
row_set P (x ∷ rows) (suc k) r (suc j) l p q = row_set P rows k r j (omega arith) p q

pub plain_set : (rows : List Row) (k : ℕ) (r : Row) (j : ℕ) → k < length rows → Plain r → Plain (get_or rows j nil) → Plain (get_or (set rows k r) j nil)
plain_set rows k r j l p q = row_set Plain rows k r j l p q

-- one row in two lists of rows: the same, or both are no symbol's
alike_set : (b name : List ℕ) (rows : List Row) (k : ℕ) (r : Row) (j : ℕ) → Plain r → Plain (get_or rows k nil) → named b name (get_or (set rows k r) j nil) ≡ named b name (get_or rows j nil)
alike_set b name [] k r j p q = refl
alike_set b name (x ∷ rows) zero r zero p q = plain_named b name r p ∙ sym (plain_named b name x q)
alike_set b name (x ∷ rows) zero r (suc j) p q = refl
alike_set b name (x ∷ rows) (suc k) r zero p q = refl
alike_set b name (x ∷ rows) (suc k) r (suc j) p q = alike_set b name rows k r j p q

symbolic_row : (rows : List Row) (k : ℕ) (r : Row) (j : ℕ) → Plain (get_or rows k nil) → Symbolic (get_or rows j nil) → Symbolic (get_or (set rows k r) j nil)
symbolic_row [] k r j p q = q
symbolic_row (x ∷ rows) zero r zero p q = absurd (p q)
symbolic_row (x ∷ rows) zero r (suc j) p q = q
symbolic_row (x ∷ rows) (suc k) r zero p q = q
symbolic_row (x ∷ rows) (suc k) r (suc j) p q = symbolic_row rows k r j p q

pub symbolic_set : (rows : List Row) (k : ℕ) (r : Row) (l : List ℕ) → Plain (get_or rows k nil) → AllSymbolic rows l → AllSymbolic (set rows k r) l
symbolic_set rows k r l p y i u = symbolic_row rows k r (get_or l i 0) p (y i u)

pub names_set : (b : List ℕ) (rows : List Row) (k : ℕ) (r : Row) (l : List ℕ) → Plain r → Plain (get_or rows k nil) → Names b rows l → Names b (set rows k r) l
names_set b rows k r l p q h name =
    find_alike b b name (set rows k r) rows 0 (lib.ListN.length-set rows k r) (λ j. alike_set b name rows k r j p q)
    ∙ h name
    ∙ sym (listed_alike b b name (set rows k r) rows l (λ i u. alike_set b name rows k r (get_or l i 0) p q))

-- a symbol more, on the list
symbolic_snoc : (rows : List Row) (l : List ℕ) (h : ℕ) → AllSymbolic rows l → Symbolic (get_or rows h nil) → AllSymbolic rows (l ++ (h ∷ []))
symbolic_snoc rows [] h y p zero k = p
symbolic_snoc rows [] h y p (suc i) k = absurd (omega arith)
symbolic_snoc rows (x ∷ l) h y p zero k = y 0 (omega arith)
symbolic_snoc rows (x ∷ l) h y p (suc i) k = symbolic_snoc rows l h (λ j u. y (suc j) (omega arith)) p i (omega arith)

pub symbolic_known : (rows : List Row) (l : List ℕ) (h : ℕ) → Symbolic (get_or rows h nil) → AllSymbolic rows l → AllSymbolic rows (l ++ (h ∷ []))
symbolic_known rows l h p y = symbolic_snoc rows l h y p

pub names_known : (b : List ℕ) (rows : List Row) (l : List ℕ) (h : ℕ) → Symbolic (get_or rows h nil) → Names b rows l → Names b rows (l ++ (h ∷ []))
unfolding or_else pick
names_known b rows l h p y name = y name ∙ go (find_listed b name rows l) refl ∙ sym (listed_snoc b name rows l h)
  where
    go : (o : Option ℕ) → find_listed b name rows l ≡ o → find_listed b name rows l ≡ or_else (find_listed b name rows l) (pick (named b name (get_or rows h nil)) (some h) none)
    go (some i) e = e ∙ ap (λ (o : Option ℕ). or_else o (pick (named b name (get_or rows h nil)) (some h) none)) (sym e)
    go none e =
        e
        ∙ ap (λ (t : Bool). pick t (some h) none) (sym (not_named b name rows 0 h (y name ∙ e) (symbolic_below rows h p)))
        ∙ ap (λ (o : Option ℕ). or_else o (pick (named b name (get_or rows h nil)) (some h) none)) (sym e)

row_last : (rows : List Row) (r : Row) → get_or (rows ++ (r ∷ [])) (length rows) nil ≡ r
row_last rows r = get_or-append_seam rows r [] nil

pub symbolic_new : (rows : List Row) (r : Row) (l : List ℕ) → Symbolic r → AllSymbolic rows l → AllSymbolic (rows ++ (r ∷ [])) (l ++ (length rows ∷ []))
symbolic_new rows r l p y = symbolic_snoc (rows ++ (r ∷ [])) l (length rows) (symbolic_more rows r l y) (subst Symbolic (sym (row_last rows r)) p)

pub names_new : (b : List ℕ) (rows : List Row) (r : Row) (l : List ℕ) → AllSymbolic rows l → Names b rows l → Names b (rows ++ (r ∷ [])) (l ++ (length rows ∷ []))
names_new b rows r l y h name =
    find_snoc b name rows r 0
    ∙ ap (λ (k : ℕ). or_else (find_symbol b name rows 0) (pick (named b name r) (some k) none)) (zero-add (length rows))
    ∙ ap (λ (o : Option ℕ). or_else o (pick (named b name r) (some (length rows)) none)) (h name ∙ sym (listed_more b name rows r l y))
    ∙ ap (λ (x : Row). or_else (find_listed b name (rows ++ (r ∷ [])) l) (pick (named b name x) (some (length rows)) none)) (sym (row_last rows r))
    ∙ sym (listed_snoc b name (rows ++ (r ∷ [])) l (length rows))
