-- The proof of line_cost.
use native.Mathlib.Nat.{mul-le-mul}
use native.Mathlib.Omega.{arith}
use Rattle.definition.specs.Cost.{line_cost}
use Rattle.batch_cost.proofs.line_cost.Goals as goal

pub overflow_mul-kilograms : goal.overflow_mul-kilograms
overflow_mul-kilograms c =
    omega (arith, mul-le-mul c.requires.0 c.requires.1)

pub rounded-requires : goal.rounded-requires
rounded-requires c =
    mul-le-mul c.requires.0 c.requires.1

pub returns : goal.returns
unfolding line_cost
returns c =
    c.rounded.ensures
