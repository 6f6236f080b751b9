-- The proof of read_units.
use native.Mathlib.Omega.{arith}
use Rattle.definition.specs.Load.{read_count}
use Rattle.lists.specs.Runs.{err_is}
use Rattle.load_state.specs.Laws.{held}
use Rattle.load_state.specs.Needs.{at_inside}
use Rattle.leaf_reader.proofs.Bignums.{units_refused, units_over, units_missing, units_read}
use Rattle.leaf_reader.proofs.read_units.Goals as goal

pub returns-in_err-n : goal.returns-in_err-n
returns-in_err-n c =
    rw (err_is c.from_residual.result c.from_residual.ensures.1) (record { leads = λ room limit b T. units_refused b (c.in_err-n.ensures.meets room limit T); upper_bound = tt })

pub returns-then-n-gt-UNITS : goal.returns-then-n-gt-UNITS
returns-then-n-gt-UNITS c =
    record { leads = λ room limit b T. units_over b _ (c.in_ok-n.ensures.meets room limit T) c.if-n-gt-UNITS.true (c.too_big.ensures limit); upper_bound = tt }

pub overflow_sub-input : goal.overflow_sub-input
overflow_sub-input c =
    at_inside (held {m = λ room. read_count _} {m' = λ room. _} c.requires.held (λ room. c.in_ok-n.ensures.meets room 0 _))

pub returns-then-input-c : goal.returns-then-input-c
returns-then-input-c c =
    record { leads = λ room limit b T. units_missing b _ (c.in_ok-n.ensures.meets room limit T) c.if-n-gt-UNITS.false c.if-input-c.true; upper_bound = tt }

pub returns : goal.returns
returns c =
    let r = c.in_ok-n.ensures in
    let inside = at_inside (held {m = λ room. read_count _} {m' = λ room. _} c.requires.held (λ room. r.meets room 0 _)) in
    record { leads = λ room limit b T. units_read b _ (r.meets room limit T) c.if-n-gt-UNITS.false; upper_bound = (c.if-n-gt-UNITS.false, omega (arith, inside, c.if-input-c.false)) }
