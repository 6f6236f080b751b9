-- The proof of check_pair_names.
use native.Mathlib.Omega.{arith}
use mathlib.Core.Path.{◌∙◌}
use Rattle.lists.specs.Runs.{err_is}
use Rattle.call_check.proofs.Tests.{pair_names_on, pair_names_not, pair_names_end}
use Rattle.call_check.proofs.check_pair_names.Goals as goal

pub loop-i-preserved : goal.loop-i-preserved
loop-i-preserved c =
    let l = c.args.pairs.now in
    λ L e f. c.loop-i.invariant L e f ∙ pair_names_on L l c.loop-i.i (omega arith) (c.in_ok-check_name.ensures L e f)

pub returns-in_err-check_name : goal.returns-in_err-check_name
returns-in_err-check_name c =
    let l = c.args.pairs.now in
    λ L e f. rw (err_is c.from_residual.result c.from_residual.ensures.1) (c.loop-i.invariant L e f ∙ pair_names_not L l c.loop-i.i (omega arith) _ (c.in_err-check_name.ensures L e f))

pub returns : goal.returns
returns c = λ L e f. c.loop-i.invariant L e f ∙ pair_names_end L c.args.pairs.now c.loop-i.i (omega arith)
