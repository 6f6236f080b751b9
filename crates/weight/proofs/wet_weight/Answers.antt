-- The proof of wet_weight.
use mathlib.Core.Path.{sym, ap, ◌∙◌}
use mathlib.Core.List.{[], ◌∷◌}
use Rattle.definition.specs.Build.{lent}
use Rattle.definition.specs.Weight.{weighed_done, weighed_answer}
use Rattle.lists.specs.Runs.{err_is}
use Rattle.well_formed.specs.Checks.{was_checked}
use Rattle.weight.proofs.Rows.{is_inside, has_it}
use Rattle.weight.proofs.Steps.{no_handles, both_handles}
use Rattle.weight.proofs.wet_weight.Goals as goal

pub returns-in_err-begin_handles : goal.returns-in_err-begin_handles
unfolding weighed_answer weighed_done
returns-in_err-begin_handles c =
    let a = c.args in
    let L = lent a.nodes.now a.references.now a.bytes.now a.counts in
    rw (err_is c.from_residual.result c.from_residual.ensures.1) (sym (ap weighed_done (no_handles L a.dry a.moisture _ c.in_err-begin_handles.ensures.says)))

pub weigh_nodes-requires : goal.weigh_nodes-requires
weigh_nodes-requires c =
    let a = c.args in
    let L = lent a.nodes.now a.references.now a.bytes.now a.counts in
    let e = c.in_ok-begin_handles.ensures in
    let k = was_checked (a.dry ∷ a.moisture ∷ []) L e.says in
    (is_inside L a.dry k e.below.0, is_inside L a.moisture k e.below.1)

pub returns : goal.returns
returns c =
    let a = c.args in
    let L = lent a.nodes.now a.references.now a.bytes.now a.counts in
    let e = c.in_ok-begin_handles.ensures in
    let k = was_checked (a.dry ∷ a.moisture ∷ []) L e.says in
    c.weigh_nodes.ensures L (has_it L a.dry k e.below.0) (has_it L a.moisture k e.below.1) ∙ sym (ap weighed_done (both_handles L a.dry a.moisture e.says))
