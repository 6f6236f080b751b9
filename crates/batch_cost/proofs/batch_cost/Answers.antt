-- The proof of batch_cost.
use mathlib.Core.Path.{sym, ap, ◌∙◌}
use mathlib.Core.List.{[], ◌∷◌}
use Rattle.definition.specs.Build.{lent}
use Rattle.definition.specs.Cost.{cost_done, cost_answer}
use Rattle.lists.specs.Runs.{err_is}
use Rattle.well_formed.specs.Checks.{was_checked}
use Rattle.batch_cost.proofs.Steps.{no_handles, both_handles}
use Rattle.batch_cost.proofs.batch_cost.Goals as goal

pub returns-in_err-begin_handles : goal.returns-in_err-begin_handles
unfolding cost_done cost_answer
returns-in_err-begin_handles c =
    let a = c.args in
    let L = lent a.nodes.now a.references.now a.bytes.now a.counts in
    rw (err_is c.from_residual.result c.from_residual.ensures.1) (sym (ap cost_done (no_handles L a.recipe a.prices _ c.in_err-begin_handles.ensures.says)))

pub cost_nodes-requires : goal.cost_nodes-requires
cost_nodes-requires c =
    let a = c.args in
    let L = lent a.nodes.now a.references.now a.bytes.now a.counts in
    let e = c.in_ok-begin_handles.ensures in
    (was_checked (a.recipe ∷ a.prices ∷ []) L e.says, e.below.0, e.below.1)

pub returns : goal.returns
returns c =
    let a = c.args in
    let L = lent a.nodes.now a.references.now a.bytes.now a.counts in
    c.cost_nodes.ensures ∙ sym (ap cost_done (both_handles L a.recipe a.prices c.in_ok-begin_handles.ensures.says))
