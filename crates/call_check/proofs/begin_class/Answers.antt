-- The proof of begin_class.
use mathlib.Core.Path.{refl}
use mathlib.Core.List.{◌∷◌}
use Rattle.definition.specs.Node.{optional_node}
use Rattle.definition.specs.Build.{lent, check_handles, handles_checked}
use Rattle.lists.specs.Runs.{err_is}
use Rattle.call_check.proofs.Answers.{says_on, below_if, fit_if, others_on, others_stop}
use Rattle.call_check.proofs.begin_class.Goals as goal

pub returns : goal.returns
returns c =
    let a = c.args in
    let L = lent a.nodes.now a.references.now a.bytes.now a.counts in
    let r = c.check_optional.result in
    let begun = c.in_ok-begin_handle.ensures in
    record { says = says_on r (handles_checked (a.h ∷ optional_node a.class)) (check_handles (optional_node a.class)) L (others_on L a.h (optional_node a.class) begun.says) (c.check_optional.ensures L refl); fits_if = (fit_if r begun.fits_if.0, below_if r _ _ begun.fits_if.1) }

pub returns-in_err-begin_handle : goal.returns-in_err-begin_handle
returns-in_err-begin_handle c =
    let a = c.args in
    let L = lent a.nodes.now a.references.now a.bytes.now a.counts in
    rw (err_is c.from_residual.result c.from_residual.ensures.1) (record { says = others_stop L a.h (optional_node a.class) _ c.in_err-begin_handle.ensures.says; fits_if = (tt, tt) })
