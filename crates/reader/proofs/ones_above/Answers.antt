-- The proof of ones_above.
use native.Mathlib.Omega.{arith}
use mathlib.Core.Path.{◌≡◌, refl}
use Rattle.reader.proofs.ones_above.Goals as goal

pub returns-in-1 : goal.returns-in-1
returns-in-1 c =
    let e = c.in-1.is in
    rw e refl

pub returns-in-2 : goal.returns-in-2
returns-in-2 c =
    let e = c.in-2.is in
    rw e refl

pub returns-in-3 : goal.returns-in-3
returns-in-3 c =
    let e = c.in-3.is in
    rw e refl

pub returns-in_default : goal.returns-in_default
returns-in_default c =
    let e : c.args.n ≡ 4 = omega arith in
    rw e refl
