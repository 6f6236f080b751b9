-- Stores past the used part of a table: the part before them, the part written, and a table's rows.
use Rattle.std.specs.Prelude.{ℕ, zero, suc, ◌+◌, ◌*◌, ◌≤◌, ◌<◌, ◌≡◌, refl, List, [], ◌∷◌, ◌++◌, length, set, take, drop}
use Rattle.std.proofs.Common.{ap, sym, ◌∙◌, append_assoc, length-append, length-take-le, take_at, drop_at, arith}
use Rattle.std.proofs.lemmas.List.{take-set-le}
use Rattle.std.proofs.lemmas.List.Edits.{sets, sets-eq}
use Rattle.definition.specs.Node.{Row, words, row, rows, width}
use Rattle.definition.specs.Arena.{range}
use Rattle.definition.specs.Build.{words_at}
use Rattle.lists.specs.Words.{length_words}
use Rattle.lists.specs.Tables.{words_next}

-- ---- stores

pub range_set : (l : List ℕ) (s n i v : ℕ) → s + n ≤ i → range (set l i v) s n ≡ range l s n
unfolding range
range_set l zero n i v h = take-set-le n l i v (omega arith)
range_set [] (suc s) n i v h = refl
range_set (x ∷ l) (suc s) n zero v h = absurd (omega arith)
range_set (x ∷ l) (suc s) n (suc i) v h = range_set l s n i v (omega arith)

-- what lies before the stores
pub range_before : (vs l : List ℕ) (s n i : ℕ) → s + n ≤ i → range (sets l i vs) s n ≡ range l s n
range_before [] l s n i h = refl
range_before (v ∷ vs) l s n i h = range_before vs (set l i v) s n (suc i) (omega arith) ∙ range_set l s n i v h

pub take_before : (vs l : List ℕ) (n i : ℕ) → n ≤ i → take n (sets l i vs) ≡ take n l
unfolding range
take_before vs l n i h = range_before vs l 0 n i (omega arith)

-- the used part with what is stored after it
pub take_stored : (vs l : List ℕ) (i : ℕ) → i + length vs ≤ length l → take (i + length vs) (sets l i vs) ≡ take i l ++ vs
take_stored vs l i h =
    ap (take (i + length vs)) (sets-eq vs l i h)
    ∙ take_at (take i l ++ vs) (drop (i + length vs) l) (i + length vs) (omega (arith, length-append (take i l) vs, length-take-le i l (omega arith)))

-- what is stored
pub range_stored : (vs l : List ℕ) (i n : ℕ) → length vs ≡ n → i + n ≤ length l → range (sets l i vs) i n ≡ vs
unfolding range
range_stored vs l i n e h =
    ap (λ (t : List ℕ). take n (drop i t)) (sets-eq vs l i (omega arith) ∙ append_assoc (take i l) vs (drop (i + length vs) l))
    ∙ ap (take n) (drop_at (take i l) (vs ++ drop (i + length vs) l) i (length-take-le i l (omega arith)))
    ∙ take_at vs (drop (i + length vs) l) n e

-- ---- a node's words

pub words_before : (r : Row) (t : List ℕ) (n i : ℕ) → i < n → words_at (sets t (n * width) (words r)) i ≡ words_at t i
unfolding words_at range
words_before r t n i h = range_before (words r) t (i * width) width (n * width) (omega arith)

pub words_stored : (r : Row) (t : List ℕ) (n : ℕ) → n * width + width ≤ length t → words_at (sets t (n * width) (words r)) n ≡ words r
unfolding words_at range
words_stored r t n h = range_stored (words r) t (n * width) width (length_words r) h

-- ---- rows

pub rows_same : (n : ℕ) (t u : List ℕ) → ((i : ℕ) → i < n → words_at u i ≡ words_at t i) → rows n u ≡ rows n t
unfolding rows words_at
rows_same zero t u e = refl
rows_same (suc n) t u e =
    let h : row (take width u) ≡ row (take width t) = ap row (e 0 (omega arith)) in
    let k : rows n (drop width u) ≡ rows n (drop width t) = rows_same n (drop width t) (drop width u) (λ i l. words_next u i ∙ e (suc i) (omega arith) ∙ sym (words_next t i)) in
    λ i. h i ∷ k i

pub rows_last : (n : ℕ) (t : List ℕ) → rows (n + 1) t ≡ rows n t ++ (row (words_at t n) ∷ [])
unfolding rows words_at
rows_last zero t = refl
rows_last (suc n) t =
    let z : suc n + 1 ≡ suc (n + 1) = omega arith in
    let k : rows (n + 1) (drop width t) ≡ rows n (drop width t) ++ (row (words_at t (suc n)) ∷ []) = rows_last n (drop width t) ∙ ap (λ (ws : List ℕ). rows n (drop width t) ++ (row ws ∷ [])) (words_next t n) in
    ap (λ (m : ℕ). rows m t) z ∙ ap (λ (l : List Row). row (take width t) ∷ l) k
