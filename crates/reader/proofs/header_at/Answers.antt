-- The proof of header_at.
use native.Mathlib.Omega.{arith}
use mathlib.Core.Path.{ap}
use lib.Dec.{eqb}
use Rattle.reader.proofs.Headers.{short, good, bad_major, bad_minor}
use Rattle.reader.proofs.header_at.Goals as goal

pub returns-then-input-at-lt2 : goal.returns-then-input-at-lt2
returns-then-input-at-lt2 c =
    record { reads = short _ _ c.if-input-at-lt2.true; at_in_bounds = tt }

pub returns-then-major-ne4 : goal.returns-then-major-ne4
returns-then-major-ne4 c =
    let a = c.byte-major.ensures in
    let b = c.byte-minor.ensures in
    record { reads = bad_major _ _ _ (omega arith) a.0 b.0 c.invalid_version.ensures c.if-major-ne4.true; at_in_bounds = tt }

pub returns-then-minor-gt8 : goal.returns-then-minor-gt8
returns-then-minor-gt8 c =
    let a = c.byte-major.ensures in
    let b = c.byte-minor.ensures in
    record { reads = bad_minor _ _ _ (omega arith) a.0 b.0 c.invalid_version-then-minor-gt8.ensures c.if-minor-gt8.true; at_in_bounds = tt }

pub returns : goal.returns
returns c =
    let a = c.byte-major.ensures in
    let b = c.byte-minor.ensures in
    record { reads = good _ _ (omega arith) (omega (arith, a.0)) (omega (arith, b.0)) (ap (λ x. eqb x 8) b.0); at_in_bounds = omega arith }
