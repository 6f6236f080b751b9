-- The proof of begin_handles.
use mathlib.Core.Path.{refl}
use mathlib.Core.List.{[], ◌∷◌}
use Rattle.definition.specs.Build.{lent, check_handles, handles_checked}
use Rattle.lists.specs.Runs.{err_is}
use Rattle.call_check.proofs.Answers.{says_on, below_if, others_on, others_stop}
use Rattle.call_check.proofs.begin_handles.Goals as goal

pub returns : goal.returns
returns c =
    let a = c.args in
    let L = lent a.nodes.now a.references.now a.bytes.now a.counts in
    let r = c.check_handle.result in
    let begun = c.in_ok-begin_handle.ensures in
    record { says = says_on r (handles_checked (a.first ∷ a.second ∷ [])) (check_handles (a.second ∷ [])) L (others_on L a.first (a.second ∷ []) begun.says) (c.check_handle.ensures.says L refl); below = (below_if r _ _ begun.fits_if.1, c.check_handle.ensures.below) }

pub returns-in_err-begin_handle : goal.returns-in_err-begin_handle
returns-in_err-begin_handle c =
    let a = c.args in
    let L = lent a.nodes.now a.references.now a.bytes.now a.counts in
    rw (err_is c.from_residual.result c.from_residual.ensures.1) (record { says = others_stop L a.first (a.second ∷ []) _ c.in_err-begin_handle.ensures.says; below = (tt, tt) })
