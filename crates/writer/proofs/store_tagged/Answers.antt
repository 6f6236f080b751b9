-- The proof of store_tagged.
use native.Mathlib.Omega.{arith}
use mathlib.Core.Path.{◌∙◌}
use lib.ListN.{length-set}
use Rattle.definition.specs.Integer.{integer_bytes}
use Rattle.writer.proofs.Integers.{stored_after}
use Rattle.writer.proofs.store_tagged.Goals as goal

pub shape_of-output : goal.shape_of-output
shape_of-output c =
    c.store_fixnum.auto.output ∙ length-set c.args.output.now _ _

pub returns : goal.returns
returns c =
    let a = c.args in
    let store-fixnum = c.store_fixnum in
    record { output_after = stored_after a.output.now a.at a.k (integer_bytes a.v) store-fixnum.ensures.output_after; value = omega (arith, store-fixnum.ensures.value) }
