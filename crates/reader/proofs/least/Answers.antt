-- The proof of least.
use native.Mathlib.Omega.{arith}
use mathlib.Core.Path.{◌≡◌, refl}
use Rattle.definition.specs.Run.{pick}
use Rattle.reader.specs.Integers.{least}
use Rattle.reader.proofs.least.Goals as goal

pub returns-in-1 : goal.returns-in-1
unfolding least pick
returns-in-1 c =
    let e = c.in-1.is in
    rw e refl

pub returns-in-2 : goal.returns-in-2
unfolding least pick
returns-in-2 c =
    let e = c.in-2.is in
    rw e refl

pub returns-in-3 : goal.returns-in-3
unfolding least pick
returns-in-3 c =
    let e = c.in-3.is in
    rw e refl

pub returns-in_default : goal.returns-in_default
unfolding least pick
returns-in_default c =
    let e : c.args.n ≡ 4 = omega arith in
    rw e refl
