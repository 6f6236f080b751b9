-- The symbol list and the nodes: the entries that are above all before them are the symbols, in the order of their numbers.
use Prim.Native.Nat.{ℕ, zero, suc, ◌+◌, ◌≤◌, ◌<◌}
use native.Mathlib.Omega.{arith}
use Rattle.std.proofs.Common.{zero-add, ap, ◌∙◌, subst, inl, inr, drop_of_length-le, drop-cons, lt-ltb, le-ltb, ltb-false}
use Rattle.std.specs.Prelude.{◌≡◌, Bool, ◌⊎◌, length, drop, set, ltb, eqb}
use Rattle.std.proofs.Math.Path.{refl, sym}
use Rattle.std.proofs.Math.Bool.{true, false}
use mathlib.Core.List.{List, [], ◌∷◌, ◌++◌, append-nil}
use Rattle.std.proofs.Math.Option.{Option, none, some}
use Rattle.std.proofs.Math.ListN.{get_or}
use Rattle.definition.specs.Run.{pick}
use Rattle.definition.specs.Node.{Row, nil, kind, symbol_kind}
use Rattle.definition.specs.Arena.{named, find_symbol, compared_with, compared_among}
use Rattle.load_state.specs.Holds.{Plain, Symbolic, AllBelow, AllFit, Interned, symbols_in, risen}
use Rattle.load_state.specs.Names.{nil_plain, plain_kind, symbolic_kind, symbolic_below, symbolic_more, symbolic_set, symbolic_known, symbolic_new, names_bytes, names_more, names_set, names_known, names_new}

-- ---- the symbols among the nodes

symbols_snoc : (i : ℕ) (rows : List Row) (r : Row) → symbols_in i (rows ++ (r ∷ [])) ≡ symbols_in i rows ++ pick (eqb (kind r) symbol_kind) ((i + length rows) ∷ []) []
unfolding symbols_in pick
symbols_snoc i [] r =
    let e : i ≡ i + 0 = omega arith in
    ap (λ (k : ℕ). pick (eqb (kind r) symbol_kind) (k ∷ []) []) e
symbols_snoc i (x ∷ rows) r =
    let e : suc i + length rows ≡ i + suc (length rows) = omega arith in
    ap (λ (l : List ℕ). pick (eqb (kind x) symbol_kind) (i ∷ l) l) (symbols_snoc (suc i) rows r ∙ ap (λ (k : ℕ). symbols_in (suc i) rows ++ pick (eqb (kind r) symbol_kind) (k ∷ []) []) e)
    ∙ move (eqb (kind x) symbol_kind) (symbols_in (suc i) rows) _
  where
    move : (t : Bool) (l m : List ℕ) → pick t (i ∷ (l ++ m)) (l ++ m) ≡ pick t (i ∷ l) l ++ m
    move true l m = refl
    move false l m = refl

symbols_set : (i : ℕ) (rows : List Row) (k : ℕ) (r : Row) → Plain r → Plain (get_or rows k nil) → symbols_in i (set rows k r) ≡ symbols_in i rows
unfolding symbols_in
symbols_set i [] k r p q = refl
symbols_set i (x ∷ rows) zero r p q = ap (λ (t : Bool). pick t (i ∷ symbols_in (suc i) rows) (symbols_in (suc i) rows)) (plain_kind r p ∙ sym (plain_kind x q))
symbols_set i (x ∷ rows) (suc k) r p q = ap (λ (l : List ℕ). pick (eqb (kind x) symbol_kind) (i ∷ l) l) (symbols_set (suc i) rows k r p q)

Among : ℕ → List ℕ → Type 0
Among h [] = ⊥
Among h (x ∷ l) = (h ≡ x) ⊎ Among h l

symbolic_among : (i j : ℕ) (rows : List Row) → Symbolic (get_or rows j nil) → Among (i + j) (symbols_in i rows)
unfolding symbols_in pick Among
symbolic_among i j [] p = absurd (nil_plain p)
symbolic_among i zero (r ∷ rows) p = rw (symbolic_kind r p) (inl (omega arith))
symbolic_among i (suc j) (r ∷ rows) p = go (eqb (kind r) symbol_kind) (rw e (symbolic_among (suc i) j rows p))
  where
    e : i + suc j ≡ suc i + j
    e = omega arith

    go : (t : Bool) → Among (i + suc j) (symbols_in (suc i) rows) → Among (i + suc j) (pick t (i ∷ symbols_in (suc i) rows) (symbols_in (suc i) rows))
    go true a = inr a
    go false a = a

-- ---- the entries that rise

risen_low : (h t : ℕ) (l : List ℕ) → h < t → risen t (l ++ (h ∷ [])) ≡ risen t l
unfolding risen pick
risen_low h t [] k = rw (lt-ltb h t k) refl
risen_low h t (x ∷ l) k = go (ltb x t) refl (risen_low h t l k) (λ u. risen_low h (suc x) l u)
  where
    go : (b : Bool) → ltb x t ≡ b → risen t (l ++ (h ∷ [])) ≡ risen t l → (h < suc x → risen (suc x) (l ++ (h ∷ [])) ≡ risen (suc x) l) → pick b (risen t (l ++ (h ∷ []))) (x ∷ risen (suc x) (l ++ (h ∷ []))) ≡ pick b (risen t l) (x ∷ risen (suc x) l)
    go true e p q = p
    go false e p q = let y = ltb-false x t e in ap (λ (m : List ℕ). x ∷ m) (q (omega (arith, k, y)))

-- an entry that was there already
risen_known : (h t : ℕ) (l : List ℕ) → Among h (risen t l) → risen t (l ++ (h ∷ [])) ≡ risen t l
unfolding risen pick Among
risen_known h t [] a = absurd a
risen_known h t (x ∷ l) a = go (ltb x t) a (λ u. risen_known h t l u) (λ u. risen_known h (suc x) l u)
  where
    go : (b : Bool) → Among h (pick b (risen t l) (x ∷ risen (suc x) l)) → (Among h (risen t l) → risen t (l ++ (h ∷ [])) ≡ risen t l) → (Among h (risen (suc x) l) → risen (suc x) (l ++ (h ∷ [])) ≡ risen (suc x) l) → pick b (risen t (l ++ (h ∷ []))) (x ∷ risen (suc x) (l ++ (h ∷ []))) ≡ pick b (risen t l) (x ∷ risen (suc x) l)
    go true a p q = p a
    go false (inl e) p q = ap (λ (m : List ℕ). x ∷ m) (risen_low h (suc x) l (omega (arith, e)))
    go false (inr a) p q = ap (λ (m : List ℕ). x ∷ m) (q a)

-- an entry above all
risen_new : (n t : ℕ) (l : List ℕ) → t ≤ n → AllBelow n l → risen t (l ++ (n ∷ [])) ≡ risen t l ++ (n ∷ [])
unfolding risen pick
risen_new n t [] k b = rw (le-ltb n t k) refl
risen_new n t (x ∷ l) k b = go (ltb x t) (risen_new n t l k (λ i u. b (suc i) (omega arith))) (risen_new n (suc x) l (omega (arith, b 0 (omega arith))) (λ i u. b (suc i) (omega arith)))
  where
    go : (c : Bool) → risen t (l ++ (n ∷ [])) ≡ risen t l ++ (n ∷ []) → risen (suc x) (l ++ (n ∷ [])) ≡ risen (suc x) l ++ (n ∷ []) → pick c (risen t (l ++ (n ∷ []))) (x ∷ risen (suc x) (l ++ (n ∷ []))) ≡ pick c (risen t l) (x ∷ risen (suc x) l) ++ (n ∷ [])
    go true p q = p
    go false p q = ap (λ (m : List ℕ). x ∷ m) q

-- ---- the list is kept

pub interned_bytes : (b bs : List ℕ) (rows : List Row) (l : List ℕ) → AllFit (length b) rows → Interned b rows l → Interned (b ++ bs) rows l
interned_bytes b bs rows l f I = record { symbolic = I.symbolic; names = names_bytes b bs rows l f I.names; ascending = I.ascending }

pub interned_more : (b : List ℕ) (rows : List Row) (r : Row) (l : List ℕ) → Plain r → Interned b rows l → Interned b (rows ++ (r ∷ [])) l
unfolding pick
interned_more b rows r l p I = record {
  symbolic = symbolic_more rows r l I.symbolic;
  names = names_more b rows r l p I.symbolic I.names;
  ascending = I.ascending ∙ sym (symbols_snoc 0 rows r ∙ ap (λ (t : Bool). symbols_in 0 rows ++ pick t ((0 + length rows) ∷ []) []) (plain_kind r p) ∙ append-nil (symbols_in 0 rows));
}

pub interned_set : (b : List ℕ) (rows : List Row) (k : ℕ) (r : Row) (l : List ℕ) → Plain r → Plain (get_or rows k nil) → Interned b rows l → Interned b (set rows k r) l
interned_set b rows k r l p q I = record {
  symbolic = symbolic_set rows k r l q I.symbolic;
  names = names_set b rows k r l p q I.names;
  ascending = I.ascending ∙ sym (symbols_set 0 rows k r p q);
}

pub interned_known : (b : List ℕ) (rows : List Row) (l : List ℕ) (h : ℕ) → Symbolic (get_or rows h nil) → Interned b rows l → Interned b rows (l ++ (h ∷ []))
interned_known b rows l h p I = record {
  symbolic = symbolic_known rows l h p I.symbolic;
  names = names_known b rows l h p I.names;
  ascending = risen_known h 0 l (rw I.ascending (subst (λ (k : ℕ). Among k (symbols_in 0 rows)) (zero-add h) (symbolic_among 0 h rows p))) ∙ I.ascending;
}

pub interned_new : (b : List ℕ) (rows : List Row) (r : Row) (l : List ℕ) → Symbolic r → Interned b rows l → Interned b (rows ++ (r ∷ [])) (l ++ (length rows ∷ []))
unfolding pick
interned_new b rows r l p I = record {
  symbolic = symbolic_new rows r l p I.symbolic;
  names = names_new b rows r l I.symbolic I.names;
  ascending =
      risen_new (length rows) 0 l (omega arith) (λ i u. symbolic_below rows (get_or l i 0) (I.symbolic i u))
      ∙ ap (λ (m : List ℕ). m ++ (length rows ∷ [])) I.ascending
      ∙ sym (symbols_snoc 0 rows r ∙ ap (λ (t : Bool). symbols_in 0 rows ++ pick t ((0 + length rows) ∷ []) []) (symbolic_kind r p) ∙ ap (λ (k : ℕ). symbols_in 0 rows ++ (k ∷ [])) (zero-add (length rows)));
}

-- ---- a search that counts

-- one symbol looked at, and then the rest
abbrev pub seek : List ℕ → List ℕ → ℕ → Row → Option ℕ × ℕ → Option ℕ × ℕ
seek b name h r rest = (pick (named b name r) (some h) rest.0, compared_with b name r + pick (named b name r) 0 rest.1)

-- what a search over nodes of these numbers finds, and the bytes that it compares
unfoldable pub searched : List ℕ → List ℕ → List Row → List ℕ → Option ℕ × ℕ
searched b name rows [] = (none, 0)
searched b name rows (h ∷ l) = seek b name h (get_or rows h nil) (searched b name rows l)

-- what is no symbol is not looked at
passed : (b name : List ℕ) (i : ℕ) (r : Row) (rest : Option ℕ × ℕ) → eqb (kind r) symbol_kind ≡ false → seek b name i r rest ≡ rest
unfolding named compared_with pick
passed b name i r rest e = rw e (λ j. (rest.0, zero-add rest.1 j))

module _ (b name : List ℕ) (all : List Row) where
  -- with the row r, of number i, before those that are searched so
  searched_row : (r : Row) (rows : List Row) (i : ℕ) → get_or all i nil ≡ r → (t : Bool) → eqb (kind r) symbol_kind ≡ t → searched b name all (symbols_in (suc i) rows) ≡ (find_symbol b name rows (suc i), compared_among b name rows) → searched b name all (pick t (i ∷ symbols_in (suc i) rows) (symbols_in (suc i) rows)) ≡ seek b name i r (find_symbol b name rows (suc i), compared_among b name rows)
  unfolding searched pick
  searched_row r rows i h true e p = λ k. seek b name i (h k) (p k)
  searched_row r rows i h false e p = p ∙ sym (passed b name i r _ e)

  searched_rows : (rows : List Row) (i : ℕ) → ((j : ℕ) → get_or all (i + j) nil ≡ get_or rows j nil) → searched b name all (symbols_in i rows) ≡ (find_symbol b name rows i, compared_among b name rows)
  unfolding searched symbols_in find_symbol compared_among
  searched_rows [] i h = refl
  searched_rows (r ∷ rows) i h =
      let z : i ≡ i + 0 = omega arith in
      searched_row r rows i (ap (λ (k : ℕ). get_or all k nil) z ∙ h 0) (eqb (kind r) symbol_kind) refl (searched_rows rows (suc i) (λ j. let e : suc i + j ≡ i + suc j = omega arith in rw e (h (suc j))))

-- over the symbol list it finds and compares what the definition does
pub searched_list : {b : List ℕ} {rows : List Row} {l : List ℕ} (name : List ℕ) → Interned b rows l → searched b name rows (risen 0 l) ≡ (find_symbol b name rows 0, compared_among b name rows)
searched_list {b} {rows} name I = ap (searched b name rows) I.ascending ∙ searched_rows b name rows rows 0 (λ j. let e : 0 + j ≡ j = omega arith in ap (λ (k : ℕ). get_or rows k nil) e)

-- one turn: an entry that was met, one that was not, and the end
pub risen_met : (l : List ℕ) (i t : ℕ) → i < length l → get_or l i 0 < t → risen t (drop i l) ≡ risen t (drop (i + 1) l)
unfolding risen pick
risen_met l i t k h =
    let e : suc i ≡ i + 1 = omega arith in
    ap (risen t) (drop-cons l i 0 k)
    ∙ ap (λ (b : Bool). pick b (risen t (drop (suc i) l)) (get_or l i 0 ∷ risen (suc (get_or l i 0)) (drop (suc i) l))) (lt-ltb (get_or l i 0) t h)
    ∙ ap (λ (j : ℕ). risen t (drop j l)) e

pub risen_next : (l : List ℕ) (i t : ℕ) → i < length l → t ≤ get_or l i 0 → risen t (drop i l) ≡ get_or l i 0 ∷ risen (get_or l i 0 + 1) (drop (i + 1) l)
unfolding risen pick
risen_next l i t k h =
    let e : suc i ≡ i + 1 = omega arith in
    let f : suc (get_or l i 0) ≡ get_or l i 0 + 1 = omega arith in
    ap (risen t) (drop-cons l i 0 k)
    ∙ ap (λ (b : Bool). pick b (risen t (drop (suc i) l)) (get_or l i 0 ∷ risen (suc (get_or l i 0)) (drop (suc i) l))) (le-ltb (get_or l i 0) t h)
    ∙ λ j. get_or l i 0 ∷ risen (f j) (drop (e j) l)

pub risen_end : (l : List ℕ) (i t : ℕ) → length l ≤ i → risen t (drop i l) ≡ []
unfolding risen
risen_end l i t k = ap (risen t) (drop_of_length-le l k)
