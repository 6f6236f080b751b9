-- The proof of double.
use native.Mathlib.Omega.{arith}
use native.Mathlib.Nat.{pow-le-pow_right}
use mathlib.Core.Path.{refl}
use Rattle.definition.specs.Weight.{with_sign, quotient}
use Rattle.decimal.proofs.Laws.{exact}
use Rattle.decimal.proofs.double.Goals as goal

pub int_to_float-q : goal.int_to_float-q
int_to_float-q c = exact _ (omega (arith, c.requires.0))

pub int_to_float-q-2 : goal.int_to_float-q-2
int_to_float-q-2 c = exact _ (rw c.pow.ensures (pow-le-pow_right {n = 10} (omega arith) {i = c.args.places} {j = 15} c.requires.1))

pub returns-then-minus : goal.returns-then-minus
unfolding with_sign quotient
returns-then-minus c =
    let a = c.args in
    rw (c.if-minus.true, c.pow.ensures) refl

pub returns-else-minus : goal.returns-else-minus
unfolding with_sign quotient
returns-else-minus c =
    let a = c.args in
    rw (c.if-minus.false, c.pow.ensures) refl
