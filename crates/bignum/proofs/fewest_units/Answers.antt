-- The proof of fewest_units.
use native.Mathlib.Omega.{arith}
use mathlib.Core.Path.{refl}
use borrow.Author.Tests.{eq-eqb, ne_eqb, lt-ltb, le-ltb}
use Rattle.definition.specs.Run.{pick}
use Rattle.definition.specs.Magnitude.{fewest_units}
use Rattle.bignum.proofs.fewest_units.Goals as goal

pub returns-then-m-eq0 : goal.returns-then-m-eq0
unfolding fewest_units pick
returns-then-m-eq0 c = let m = c.args.m in record { value = rw (eq-eqb m 0 (omega arith)) refl; upper_bound = omega arith }

pub returns-then-m-lt65536 : goal.returns-then-m-lt65536
unfolding fewest_units pick
returns-then-m-lt65536 c = let m = c.args.m in record { value = rw (ne_eqb m 0 (omega arith), lt-ltb m 65536 (omega arith)) refl; upper_bound = omega arith }

pub returns-then-m-lt4294967296 : goal.returns-then-m-lt4294967296
unfolding fewest_units pick
returns-then-m-lt4294967296 c = let m = c.args.m in record { value = rw (ne_eqb m 0 (omega arith), le-ltb m 65536 (omega arith), lt-ltb m 4294967296 (omega arith)) refl; upper_bound = omega arith }

pub returns-then-m-lt281474976710656 : goal.returns-then-m-lt281474976710656
unfolding fewest_units pick
returns-then-m-lt281474976710656 c =
    let m = c.args.m in
    record { value = rw (ne_eqb m 0 (omega arith), le-ltb m 65536 (omega arith), le-ltb m 4294967296 (omega arith), lt-ltb m 281474976710656 (omega arith)) refl; upper_bound = omega arith }

pub returns : goal.returns
unfolding fewest_units pick
returns c =
    let m = c.args.m in
    record { value = rw (ne_eqb m 0 (omega arith), le-ltb m 65536 (omega arith), le-ltb m 4294967296 (omega arith), le-ltb m 281474976710656 (omega arith)) refl; upper_bound = omega arith }
