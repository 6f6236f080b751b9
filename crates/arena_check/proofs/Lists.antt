-- One turn of each loop of the check.
use Prim.Native.Nat.{ℕ, suc, ◌+◌, ◌*◌, ◌≤◌, ◌<◌}
use native.Mathlib.Omega.{arith}
use native.Mathlib.Numerals.{add-one}
use mathlib.Core.Bool.{Bool, true, false}
use mathlib.Core.List.{List, ◌∷◌}
use mathlib.Core.Path.{◌≡◌, refl, sym, ap, ◌∙◌}
use lib.Dec.{eqb}
use lib.ListN.{length, get_or, take, drop, get_or-eq_default, drop_of_length-le}
use lib.Seq.{get_or-take, get_or-drop, drop-cons}
use borrow.Author.Tests.{lt-ltb, le-ltb, eq-eqb, eqb-true}
use Rattle.definition.specs.Run.{pick}
use Rattle.definition.specs.Node.{Row, nil, kind, row, row_of, rows, width}
use Rattle.definition.specs.Arena.{Arena, node, range, firsts, all_below, all_names, is_name}
use Rattle.lists.specs.Ranges.{range_step, range_end}
use Rattle.lists.specs.Rows.{kind_of, kind_is}
use Rattle.lists.specs.Tables.{length_rows, rows_at}
use Rattle.arena_check.proofs.Rows.{same_test}

-- ---- members below a count

module _ (l : List ℕ) (count i : ℕ) where
  pub below_on : i < length l → get_or l i 0 < count → all_below count (drop i l) ≡ all_below count (drop (i + 1) l)
  unfolding all_below pick
  below_on h t = ap (all_below count) (drop-cons l i 0 h) ∙ rw (lt-ltb _ _ t, add-one i) refl

  pub below_not : i < length l → count ≤ get_or l i 0 → false ≡ all_below count (drop i l)
  unfolding all_below pick
  below_not h t = sym (ap (all_below count) (drop-cons l i 0 h) ∙ rw (le-ltb _ _ t) refl)

  pub below_all : length l ≤ i → true ≡ all_below count (drop i l)
  unfolding all_below
  below_all h = sym (ap (all_below count) (drop_of_length-le l {i = i} h))

-- ---- names

-- a row is of a kind other than nil's exactly where word 0 is that
pub kind_test : (x : ℕ) → 0 < x → x ≤ 10 → (k a b s n c f w : ℕ) → eqb (kind (row_of k a b s n c f w)) x ≡ eqb k x
kind_test x h l k a b s n c f w =
    same_test _ _
    (λ e. eq-eqb k x (kind_is k a b s n c f w x (eqb-true (kind (row_of k a b s n c f w)) x e) h))
    (λ e. let q = eqb-true k x e in eq-eqb _ x (kind_of k a b s n c f w (omega (arith, q)) ∙ q))

first_word : (t : List ℕ) (i : ℕ) → get_or (take width (drop (i * width) t)) 0 0 ≡ get_or t (i * width) 0
first_word t i = get_or-take width (drop (i * width) t) 0 0 (omega arith) ∙ get_or-drop (i * width) t 0 0 ∙ ap (λ (k : ℕ). get_or t k 0) (omega arith)

-- a name is a node below the count whose word 0 is 3
pub name_at : (A : Arena) (n : ℕ) (t : List ℕ) (i : ℕ) → A.nodes ≡ rows n t → i < n → eqb (get_or t (i * width) 0) 3 ≡ is_name A i
unfolding is_name node row
name_at A n t i e h =
    sym (ap (λ (l : List Row). eqb (kind (get_or l i nil)) 3) e
    ∙ ap (λ (r : Row). eqb (kind r) 3) (rows_at n t i h)
    ∙ kind_test 3 (omega arith) (omega arith) _ _ _ _ _ _ _ _
    ∙ ap (λ (k : ℕ). eqb k 3) (first_word t i))

pub no_name : (A : Arena) (n : ℕ) (t : List ℕ) (i : ℕ) → A.nodes ≡ rows n t → n ≤ i → false ≡ is_name A i
unfolding is_name node kind
no_name A n t i e h =
    sym (ap (λ (l : List Row). eqb (kind (get_or l i nil)) 3) e ∙ ap (λ (r : Row). eqb (kind r) 3) (get_or-eq_default (rows n t) nil {n = i} (rw (length_rows n t) h)))

-- the first of each pair
module _ (A : Arena) (l : List ℕ) (start n i : ℕ) (h : start + n * 2 ≤ length l) where
  abbrev left : ℕ → List ℕ
  left k = drop k (range l start (n * 2))

  step : i < n → left (i * 2) ≡ get_or l (start + i * 2) 0 ∷ get_or l (start + suc (i * 2)) 0 ∷ left (suc (suc (i * 2)))
  step k =
      range_step l start (n * 2) (i * 2) h (omega arith)
      ∙ ap (λ (t : List ℕ). get_or l (start + i * 2) 0 ∷ t) (range_step l start (n * 2) (suc (i * 2)) h (omega arith))

  again : suc (suc (i * 2)) ≡ (i + 1) * 2
  again = omega arith

  pub names_on : i < n → true ≡ is_name A (get_or l (start + i * 2) 0) → all_names A (firsts (left (i * 2))) ≡ all_names A (firsts (left ((i + 1) * 2)))
  unfolding all_names firsts pick
  names_on k t =
      ap (λ (m : List ℕ). all_names A (firsts m)) (step k)
      ∙ ap (λ (b : Bool). pick b (all_names A (firsts (left (suc (suc (i * 2)))))) false) (sym t)
      ∙ ap (λ (k : ℕ). all_names A (firsts (left k))) again

  pub names_not : i < n → false ≡ is_name A (get_or l (start + i * 2) 0) → false ≡ all_names A (firsts (left (i * 2)))
  unfolding all_names firsts pick
  names_not k t =
      sym (ap (λ (m : List ℕ). all_names A (firsts m)) (step k)
      ∙ ap (λ (b : Bool). pick b (all_names A (firsts (left (suc (suc (i * 2)))))) false) (sym t))

  pub names_all : n ≤ i → true ≡ all_names A (firsts (left (i * 2)))
  unfolding all_names firsts
  names_all k = sym (ap (λ (m : List ℕ). all_names A (firsts m)) (range_end l start (n * 2) (i * 2) h (omega arith)))
