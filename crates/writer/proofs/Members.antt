-- The entries of a list of members one after the other, and values by their levels.
use Prim.Native.Nat.{ℕ, suc, ◌+◌, ◌-◌, ◌≤◌, ◌<◌}
use native.Mathlib.Omega.{arith}
use mathlib.Core.Path.{◌≡◌, refl, sym, ap, ◌∙◌, subst}
use mathlib.Core.List.{List}
use lib.ListN.{length, get_or}
use lib.Seq.{get_or-take}
use Rattle.definition.specs.Run.{pure, refuse}
use Rattle.definition.specs.Arena.{Arena, node, range}
use Rattle.definition.specs.Dump.{Writer, ◌>>◌, write_elements, write_value, write_row, write_level}
use Rattle.definition.specs.declared.Refusal.TheVariants.{TooDeep}
use Rattle.lists.specs.Lists.{At, at_lt, at_get_d, get_d_at}
use Rattle.lists.specs.Ranges.{length_range, range_get, range_has, range_next, range_none}
use Rattle.well_formed.specs.Right.{ListIn}
use Rattle.writer.specs.Held.{Listed}

-- ---- entries of a range

-- the table's entry is the arena's
pub listed_at : {A : Arena} {re : List ℕ} (j : ℕ) → Listed A re → j < length A.references → get_or A.references j 0 ≡ get_or re j 0
listed_at {A} {re} j L h = ap (λ (x : List ℕ). get_or x j 0) L.references_same ∙ get_or-take (length A.references) re j 0 h

-- ---- elements

-- those from the i-th on
pub list_rest : {A : Arena} (start n i : ℕ) → i ≤ n → ListIn A start n → ListIn A (start + i) (n - i)
list_rest {A} start n i h I = record { inside = omega (arith, I.inside); below = below }
  where
    below : (k v : ℕ) → At (range A.references (start + i) (n - i)) k v → v < length A.nodes
    below k v a =
        let lt : k < n - i = omega (arith, at_lt (range A.references (start + i) (n - i)) k v a, length_range A.references (start + i) (n - i) (omega (arith, I.inside))) in
        let z : start + i + k ≡ start + (i + k) = omega arith in
        let q : get_or A.references (start + (i + k)) 0 ≡ v = ap (λ (j : ℕ). get_or A.references j 0) (sym z) ∙ sym (range_get A.references (start + i) (n - i) k lt) ∙ get_d_at (range A.references (start + i) (n - i)) k 0 v a in
        I.below (i + k) v (subst (λ (x : ℕ). At (range A.references start n) (i + k) x) q (range_has A.references start n (i + k) I.inside (omega arith)))

module _ {A : Arena} {re : List ℕ} (start n i v : ℕ) (L : Listed A re) (I : ListIn A start n) (h : i < n) (e : v ≡ get_or re (start + i) 0) where
  entry : get_or A.references (start + i) 0 ≡ v
  entry = listed_at (start + i) L (omega (arith, I.inside)) ∙ sym e

  pub member_below : v < length A.nodes
  member_below = I.below i v (subst (λ (x : ℕ). At (range A.references start n) i x) entry (range_has A.references start n i I.inside h))

  pub element_next : (inner : ℕ → Writer) → write_elements inner (range A.references (start + i) (n - i)) ≡ inner v >> write_elements inner (range A.references (start + (i + 1)) (n - (i + 1)))
  unfolding write_elements
  element_next inner =
      let a : n - i ≡ suc (n - (i + 1)) = omega arith in
      let b : suc (start + i) ≡ start + (i + 1) = omega arith in
      let here : At A.references (start + i) v = subst (λ (x : ℕ). At A.references (start + i) x) entry (at_get_d A.references (start + i) 0 (omega (arith, I.inside))) in
      ap (λ (k : ℕ). write_elements inner (range A.references (start + i) k)) a
      ∙ ap (write_elements inner) (range_next A.references (start + i) (n - (i + 1)) v here)
      ∙ λ j. inner v >> write_elements inner (range A.references (b j) (n - (i + 1)))

pub elements_begin : (inner : ℕ → Writer) (l : List ℕ) (start n : ℕ) → write_elements inner (range l start n) ≡ write_elements inner (range l (start + 0) (n - 0))
elements_begin inner l start n =
    let a : start ≡ start + 0 = omega arith in
    let b : n ≡ n - 0 = omega arith in
    λ j. write_elements inner (range l (a j) (b j))

pub elements_end : (inner : ℕ → Writer) (l : List ℕ) (s n i : ℕ) → n ≤ i → write_elements inner (range l s (n - i)) ≡ pure tt
unfolding write_elements
elements_end inner l s n i h =
    let a : n - i ≡ 0 = omega arith in
    ap (λ (k : ℕ). write_elements inner (range l s k)) a ∙ ap (write_elements inner) (range_none l s)

-- ---- a value by its levels

pub value_deep : (room : ℕ) (A : Arena) (limit levels v : ℕ) → levels ≡ 0 → write_value room A limit levels v ≡ refuse (TooDeep limit)
unfolding write_value refuse
value_deep room A limit levels v e = rw e refl

pub value_row : (room : ℕ) (A : Arena) (limit levels v : ℕ) → (levels ≡ 0 → ⊥) → write_value room A limit levels v ≡ write_row room A (write_level limit (levels - 1)) (write_value room A limit (levels - 1)) v (node A v)
unfolding write_value
value_row room A limit levels v n =
    let e : levels ≡ suc (levels - 1) = omega arith in
    subst (λ (k : ℕ). write_value room A limit k v ≡ write_row room A (write_level limit (levels - 1)) (write_value room A limit (levels - 1)) v (node A v)) (sym e) refl
