-- The proof of little.
use native.Mathlib.Omega.{arith}
use mathlib.Core.Path.{◌≡◌}
use Rattle.reader.proofs.Bytes.{one, two, three, four, low_one, low_two, low_three, low_four}
use Rattle.reader.proofs.little.Goals as goal

pub returns-then-n-eq1 : goal.returns-then-n-eq1
returns-then-n-eq1 c =
    let c-args = c.args in
    let e = c.if-n-eq1.true in
    let l = c-args.input.now in
    let at = c-args.at in
    let x = c.byte-one.ensures in
    record { value = rw e (omega (arith, one l 0 at (omega arith), x.0)); upper_bound = rw e (omega arith); input_value = rw e (low_one l at _ (omega arith) (omega (arith, x))) }

pub returns-then-n-eq2 : goal.returns-then-n-eq2
returns-then-n-eq2 c =
    let c-args = c.args in
    let e = c.if-n-eq2.true in
    let l = c-args.input.now in
    let at = c-args.at in
    let x = c.byte-one.ensures in
    let y = c.byte.ensures in
    record { value = rw e (omega (arith, two l 0 at (omega arith), x.0, y.0)); upper_bound = rw e (omega arith); input_value = rw e (low_two l at _ (omega arith) (omega (arith, x)) (omega (arith, x, y))) }

pub returns-then-n-eq3 : goal.returns-then-n-eq3
returns-then-n-eq3 c =
    let c-args = c.args in
    let e = c.if-n-eq3.true in
    let l = c-args.input.now in
    let at = c-args.at in
    let x = c.byte-one.ensures in
    let y = c.byte.ensures in
    let z = c.byte-2.ensures in
    record { value = rw e (omega (arith, three l 0 at (omega arith), x.0, y.0, z.0)); upper_bound = rw e (omega arith); input_value = rw e (low_three l at _ (omega arith) (omega (arith, x)) (omega (arith, x, y)) (omega (arith, x, y, z))) }

pub returns : goal.returns
returns c =
    let c-args = c.args in
    let e : c-args.n ≡ 4 = omega arith in
    let l = c-args.input.now in
    let at = c-args.at in
    let x = c.byte-one.ensures in
    let y = c.byte.ensures in
    let z = c.byte-2.ensures in
    let v = c.byte-3.ensures in
    record { value = rw e (omega (arith, four l 0 at (omega arith), x.0, y.0, z.0, v.0)); upper_bound = rw e (omega arith); input_value = rw e (low_four l at _ (omega arith) (omega (arith, x)) (omega (arith, x, y)) (omega (arith, x, y, z)) (omega (arith, x, y, z, v))) }
