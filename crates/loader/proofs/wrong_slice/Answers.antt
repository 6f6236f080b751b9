-- The proof of wrong_slice.
use Prim.Native.Nat.{ℕ}
use mathlib.Core.Bool.{Bool}
use mathlib.Core.Path.{◌≡◌, refl, sym, ◌∙◌}
use mathlib.Core.List.{[]}
use Rattle.lists.specs.Slices.{no_slice, slice, lowest_none, short, tables_right}
use Rattle.loader.specs.Lengths.{wrong, Allowed}
use Rattle.loader.proofs.wrong_slice.Goals as goal

allowed : (n r b y o l i : ℕ) (t : Bool) → wrong n r b y o l i t ≡ 0 → Allowed n r b y o i t
allowed n r b y o l i w e =
    let (t, e₃) = tables_right n r b _ e in
    let (b₄, e₄) = lowest_none 3 _ _ e₃ in
    let (b₅, e₅) = lowest_none 4 _ _ e₄ in
    let (_, e₇) = lowest_none 6 _ _ e₅ in
    let (b₈, e₈) = lowest_none 7 _ _ e₇ in
    let (b₁₁, _) = lowest_none 10 _ _ e₈ in
    record { whole = t.whole; one = t.one; nodes_small = t.nodes_small; references_small = t.references_small; bytes_small = t.bytes_small; symbols_small = short y b₄; objects_small = short o b₅; input_small = short i b₈; buckets_right = b₁₁ }

pub returns : goal.returns
returns c =
    let a = c.args in
    let e = c.wrong_table.ensures.named _
    (slice 4 _ c.first_wrong-5.ensures c.too_long.ensures
    (slice 5 _ c.first_wrong-4.ensures c.too_long-2.ensures
    (slice 7 _ c.first_wrong-3.ensures refl
    (slice 8 _ c.first_wrong-2.ensures c.too_long-3.ensures
    (slice 11 [] c.first_wrong.ensures refl no_slice))))) in
    record { value = e; allowed = λ z. allowed _ _ _ _ _ a.limit a.input a.buckets (sym e ∙ z) }
