-- What a table holds after a store: one law for each way a list grows or changes.
use Rattle.std.specs.Prelude.{ℕ, zero, suc, ◌+◌, ◌-◌, ◌*◌, ◌≤◌, ◌<◌, ◌≡◌, refl, List, [], ◌∷◌, ◌++◌, length, take, drop, set, get_or, replicate}
use Rattle.std.proofs.Common.{arith, suc-add, add-suc, zero-add, sym, ap, ◌∙◌, append_assoc, append-nil, length-append, length-set, length-take, take-append-drop, drop_at, get_or-append-add}
use Rattle.std.proofs.Math.ListN.{get_or-append}
use Rattle.std.proofs.lemmas.List.Edits.{sets, sets-eq}
use Rattle.std.proofs.Math.Seq.{length-sets, take-append_seam, get_or-append_seam}
use Rattle.std.proofs.lemmas.List.{set-append_left}
use Rattle.definition.specs.Node.{Row, nil, words, flat, width}
use Rattle.store.specs.Laws.{cleared, cleared_after}
use Rattle.lists.specs.Words.{length_words, length_flat}
use Rattle.load_state.specs.Holds.{Begins}

-- the list and what stands behind it
pub split : {n : ℕ} {l t : List ℕ} → Begins n l t → t ≡ l ++ drop (length l) t
split {n} {l} {t} p = sym (take-append-drop (length l) t) ∙ ap (λ (x : List ℕ). x ++ drop (length l) t) p.same

joined : {l t : List ℕ} (r : List ℕ) → t ≡ l ++ r → take (length l) t ≡ l
joined {l} {t} r e = ap (λ (x : List ℕ). take (length l) x) e ∙ take-append_seam l r

-- no list yet
pub none : {n : ℕ} (t : List ℕ) → length t ≡ n → Begins n [] t
none t e = record { fits = omega arith; sized = e; same = refl }

pub push : {n : ℕ} {l t : List ℕ} (vs : List ℕ) → Begins n l t → length l + length vs ≤ n → Begins n (l ++ vs) (sets t (length l) vs)
push {n} {l} {t} vs p h = record {
  fits = simp length-append h;
  sized = length-sets t (length l) vs ∙ p.sized;
  same = joined (drop (length l + length vs) t) (sets-eq vs t (length l) (omega (arith, p.sized)) ∙ ap (λ (x : List ℕ). x ++ vs ++ drop (length l + length vs) t) p.same);
}

pub put : {n : ℕ} {l t : List ℕ} (i v : ℕ) → Begins n l t → i < length l → Begins n (set l i v) (set t i v)
put {n} {l} {t} i v p h = record {
  fits = simp length-set p.fits;
  sized = length-set t i v ∙ p.sized;
  same = joined (drop (length l) t) (ap (λ (x : List ℕ). set x i v) (split p) ∙ set-append_left l _ i v h);
}

sets_append_left : (vs l r : List ℕ) (i : ℕ) → i + length vs ≤ length l → sets (l ++ r) i vs ≡ sets l i vs ++ r
sets_append_left [] l r i h = refl
sets_append_left (v ∷ vs) l r i h =
    ap (λ (x : List ℕ). sets x (suc i) vs) (set-append_left l r i v (omega arith))
    ∙ sets_append_left vs (set l i v) r (suc i) (simp length-set (omega arith))

set_append_add : (a b : List ℕ) (j v : ℕ) → set (a ++ b) (length a + j) v ≡ a ++ set b j v
set_append_add [] b j v = rw zero-add
set_append_add (x ∷ a) b j v = rw suc-add (ap (λ (l : List ℕ). x ∷ l) (set_append_add a b j v))

sets_append_add : (vs a b : List ℕ) (j : ℕ) → sets (a ++ b) (length a + j) vs ≡ a ++ sets b j vs
sets_append_add [] a b j = refl
sets_append_add (v ∷ vs) a b j =
    ap (λ (x : List ℕ). sets x (suc (length a + j)) vs) (set_append_add a b j v)
    ∙ ap (λ (k : ℕ). sets (a ++ set b j v) k vs) (sym (add-suc (length a) j))
    ∙ sets_append_add vs a (set b j v) (suc j)

pub flat_snoc : (rs : List Row) (r : Row) → flat (rs ++ (r ∷ [])) ≡ flat rs ++ words r
unfolding flat
flat_snoc [] r = append-nil (words r)
flat_snoc (x ∷ rs) r = ap (λ (l : List ℕ). words x ++ l) (flat_snoc rs r) ∙ sym (append_assoc (words x) (flat rs) (words r))

flat_set : (rs : List Row) (i : ℕ) (r : Row) → i < length rs → flat (set rs i r) ≡ sets (flat rs) (i * width) (words r)
unfolding flat
flat_set [] i r h = absurd (omega arith)
flat_set (x ∷ rs) zero r h =
    sym (sets-eq (words r) (words x ++ flat rs) 0 (omega (arith, length-append (words x) (flat rs), length_words r, length_words x))
    ∙ ap (λ (l : List ℕ). words r ++ l) (drop_at (words x) (flat rs) (0 + length (words r)) (omega (arith, length_words r, length_words x))))
flat_set (x ∷ rs) (suc i) r h =
    ap (λ (l : List ℕ). words x ++ l) (flat_set rs i r (omega arith))
    ∙ sym (ap (λ (k : ℕ). sets (words x ++ flat rs) k (words r)) (omega (arith, length_words x)) ∙ sets_append_add (words r) (words x) (flat rs) (i * width))

pub put_row : {n : ℕ} {t : List ℕ} (rs : List Row) (i : ℕ) (r : Row) → Begins n (flat rs) t → i < length rs → Begins n (flat (set rs i r)) (sets t (i * width) (words r))
put_row {n} {t} rs i r p h =
    let le : i * width + length (words r) ≤ length (flat rs) = omega (arith, length_words r, length_flat rs) in
    rw flat_set (record {
      fits = simp length-sets p.fits;
      sized = length-sets t (i * width) (words r) ∙ p.sized;
      same = joined (drop (length (flat rs)) t) (ap (λ (x : List ℕ). sets x (i * width) (words r)) (split p) ∙ sets_append_left (words r) (flat rs) _ (i * width) le);
    })

pub push_row : {t : List ℕ} (n : ℕ) (rs : List Row) (r : Row) → Begins (n * width) (flat rs) t → length rs < n → Begins (n * width) (flat (rs ++ (r ∷ []))) (sets t (length rs * width) (words r))
push_row {t} n rs r p h =
    let e : length (flat rs) ≡ length rs * width = length_flat rs in
    rw (flat_snoc, ← e) (push (words r) p (omega (arith, length_words r)))

-- what is read back
pub at_held : {n : ℕ} {l t : List ℕ} (i : ℕ) → Begins n l t → i < length l → get_or t i 0 ≡ get_or l i 0
at_held {n} {l} {t} i p h = ap (λ (x : List ℕ). get_or x i 0) (split p) ∙ get_or-append l _ 0 i h

-- a word of a row
pub flat_word : (rs : List Row) (i j : ℕ) → i < length rs → j < width → get_or (flat rs) (i * width + j) 0 ≡ get_or (words (get_or rs i nil)) j 0
unfolding flat
flat_word [] i j l m = absurd (omega arith)
flat_word (r ∷ rs) zero j l m =
    let e : 0 * width + j ≡ j = omega arith in
    rw e (get_or-append (words r) (flat rs) 0 j (omega (arith, length_words r)))
flat_word (r ∷ rs) (suc i) j l m =
    let e : suc i * width + j ≡ length (words r) + (i * width + j) = omega (arith, length_words r) in
    rw e (get_or-append-add (words r) (flat rs) (i * width + j) 0 ∙ flat_word rs i j (omega arith) m)

-- the rest zeroed: the list and then zeros
pub padded : {n : ℕ} {l t t' : List ℕ} (k : ℕ) → Begins n l t → k ≡ length l → t' ≡ cleared k t → t' ≡ l ++ replicate (n - length l) 0
padded {n} {l} {t} k p e f =
    f
    ∙ ap (λ (j : ℕ). cleared j t) e
    ∙ cleared_after (length l) t (omega (arith, p.fits, p.sized))
    ∙ λ i. p.same i ++ replicate (p.sized i - length l) 0

-- the first word of a store
pub sets_first : (l : List ℕ) (i x : ℕ) (xs : List ℕ) → i + suc (length xs) ≤ length l → get_or (sets l i (x ∷ xs)) i 0 ≡ x
sets_first l i x xs h =
    let k : length (take i l) ≡ i = simp length-take (omega arith) in
    let e : sets l i (x ∷ xs) ≡ take i l ++ (x ∷ xs) ++ drop (i + suc (length xs)) l = sets-eq (x ∷ xs) l i h in
    let m : i < length (take i l ++ (x ∷ xs)) = simp length-append (omega (arith, k)) in
    ap (λ (y : List ℕ). get_or y i 0) e
    ∙ get_or-append (take i l ++ (x ∷ xs)) _ 0 i m
    ∙ ap (λ (j : ℕ). get_or (take i l ++ (x ∷ xs)) j 0) (sym k)
    ∙ get_or-append_seam (take i l) x xs 0
