-- The proof of check_handles_at.
use mathlib.Core.Path.{◌∙◌}
use Rattle.lists.specs.Runs.{err_is}
use Rattle.call_check.proofs.Tests.{handles_on, handles_not, handles_end}
use Rattle.call_check.proofs.check_handles_at.Goals as goal

pub loop-h-preserved : goal.loop-h-preserved
loop-h-preserved c =
    let l = c.args.handles.now in
    λ L e. c.loop-h.invariant L e ∙ handles_on L l c.loop-h.h-index c.loop-h-test.true (c.in_ok-check_handle.ensures.says L e)

pub returns-in_err-check_handle : goal.returns-in_err-check_handle
returns-in_err-check_handle c =
    let l = c.args.handles.now in
    λ L e. rw (err_is c.from_residual.result c.from_residual.ensures.1) (c.loop-h.invariant L e ∙ handles_not L l c.loop-h.h-index c.loop-h-test.true _ (c.in_err-check_handle.ensures.says L e))

pub returns : goal.returns
returns c = λ L e. c.loop-h.invariant L e ∙ handles_end L c.args.handles.now c.loop-h.h-index c.loop-h-test.false
