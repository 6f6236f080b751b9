-- The proof of wrong_slice.
use Prim.Native.Nat.{ℕ, ◌/◌}
use mathlib.Core.Bool.{◌||◌}
use mathlib.Core.List.{[]}
use mathlib.Core.Path.{◌≡◌, refl, sym, ◌∙◌}
use lib.Dec.{ltb}
use borrow.Author.Tests.{ltb-false}
use Rattle.definition.specs.Node.{width}
use Rattle.definition.specs.Slice.{SCRATCH}
use Rattle.lists.specs.Joined.{or_none}
use Rattle.lists.specs.Slices.{no_slice, slice, lowest_none, short, tables_right}
use Rattle.dumper.specs.Lengths.{wrong, Allowed}
use Rattle.dumper.proofs.wrong_slice.Goals as goal

allowed : (n r b o l s : ℕ) → wrong n r b o l s ≡ 0 → Allowed n r b o s
allowed n r b o l s e =
    let (t, e₃) = tables_right n r b _ e in
    let (b₆, e₆) = lowest_none 5 _ _ e₃ in
    let (b₇, e₇) = lowest_none 6 _ _ e₆ in
    let (x, y) = or_none _ _ (lowest_none 9 _ _ e₇).0 in
    record { nodes_small = t.nodes_small; references_small = t.references_small; bytes_small = t.bytes_small; output_small = short o b₆; scratch_small = short s x; scratch_fits = ltb-false s (n / width) y }

pub returns : goal.returns
returns c =
    let a = c.args in
    let e = c.wrong_table.ensures.named _
    (slice 6 _ c.first_wrong-3.ensures c.too_long.ensures
    (slice 7 _ c.first_wrong-2.ensures refl
    (slice SCRATCH [] c.first_wrong.ensures (λ i. c.too_long-2.ensures i || ltb a.scratch (a.nodes / width)) no_slice))) in
    record { value = e; allowed = λ z. allowed _ _ _ _ a.limit a.scratch (sym e ∙ z) }
