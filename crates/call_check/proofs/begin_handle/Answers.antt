-- The proof of begin_handle.
use mathlib.Core.Path.{refl}
use mathlib.Core.List.{[], ◌∷◌}
use Rattle.definition.specs.Build.{lent, check_handles, handles_checked}
use Rattle.lists.specs.Runs.{err_is}
use Rattle.call_check.proofs.Tests.{none_lowest}
use Rattle.call_check.proofs.Answers.{says_on, fit_if, handle_on, handle_stop}
use Rattle.call_check.proofs.begin_handle.Goals as goal

pub returns : goal.returns
returns c =
    let a = c.args in
    let L = lent a.nodes.now a.references.now a.bytes.now a.counts in
    let r = c.check_handle.result in
    let begun = c.in_ok-begin.ensures in
    record { says = says_on r (handles_checked (a.h ∷ [])) (check_handles (a.h ∷ [])) L (handle_on L a.h (begun.by_index [] none_lowest)) (c.check_handle.ensures.says L refl); fits_if = (fit_if r begun.fits_if, c.check_handle.ensures.below) }

pub returns-in_err-begin : goal.returns-in_err-begin
returns-in_err-begin c =
    let a = c.args in
    let L = lent a.nodes.now a.references.now a.bytes.now a.counts in
    rw (err_is c.from_residual.result c.from_residual.ensures.1) (record { says = handle_stop L a.h _ (c.in_err-begin.ensures.by_index [] none_lowest); fits_if = (tt, tt) })
