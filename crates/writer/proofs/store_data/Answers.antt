-- The proof of store_data.
use native.Mathlib.Omega.{arith}
use mathlib.Core.Path.{refl, ◌∙◌}
use lib.ListN.{length-set}
use Rattle.definition.specs.Integer.{low_bytes}
use Rattle.writer.proofs.Integers.{stored_after}
use Rattle.writer.proofs.store_data.Goals as goal

pub store_low-requires : goal.store_low-requires
store_low-requires c =
    let a = c.args in
    omega (arith, c.requires, length-set a.output.now a.at a.k)

pub shape_of-output : goal.shape_of-output
shape_of-output c =
    c.store_low.auto.output ∙ length-set c.args.output.now _ _

pub returns : goal.returns
returns c =
    let a = c.args in
    let store_low = c.store_low in
    record { output_after = stored_after a.output.now a.at a.k (low_bytes a.n a.v) store_low.ensures; value = refl }
