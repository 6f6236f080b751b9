-- The proof of data_bytes.
use native.Mathlib.Omega.{arith}
use mathlib.Core.Path.{refl}
use lib.Count.{leading_le}
use Rattle.definition.specs.Integer.{fewest}
use Rattle.writer.proofs.Integers.{fewest_most, fewest_some}
use Rattle.writer.proofs.data_bytes.Goals as goal

pub overflow_sub-result : goal.overflow_sub-result
overflow_sub-result c =
    let l = leading_le 32 c.args.v in
    omega (arith, l)

pub returns : goal.returns
unfolding fewest
returns c =
    let v = c.args.v in
    record { value = refl; upper_bound = (fewest_most v, λ h. fewest_some v h (omega arith)) }
