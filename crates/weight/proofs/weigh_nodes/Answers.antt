-- The proof of weigh_nodes.
use mathlib.Core.Path.{sym, ap, ◌∙◌}
use Rattle.definition.specs.Weight.{weighed_done, weighed_answer}
use Rattle.definition.specs.declared.Weighing.{Weighing}
use Rattle.std.specs.Prelude.{Ok}
use Rattle.lists.specs.Runs.{err_is}
use Rattle.weight.proofs.Steps.{no_dry, no_moisture, wrong_moisture, weighed}
use Rattle.weight.proofs.weigh_nodes.Goals as goal

pub returns-in_err-d : goal.returns-in_err-d
unfolding weighed_answer weighed_done
returns-in_err-d c =
    let a = c.args in
    λ L k l. rw (err_is c.from_residual.result c.from_residual.ensures.1) (sym (ap weighed_done (no_dry L a.dry a.moisture _ (c.in_err-d.ensures L k))))

pub returns-in_err-m : goal.returns-in_err-m
unfolding weighed_answer weighed_done
returns-in_err-m c =
    let a = c.args in
    λ L k l. rw (err_is c.from_residual-in_err-m.result c.from_residual-in_err-m.ensures.1) (sym (ap weighed_done (no_moisture L a.dry a.moisture _ (c.in_ok-d.ensures L k) _ (c.in_err-m.ensures L l))))

pub returns-in_err-check_moisture : goal.returns-in_err-check_moisture
unfolding weighed_answer weighed_done
returns-in_err-check_moisture c =
    let a = c.args in
    λ L k l. rw (err_is c.from_residual-in_err-check_moisture.result c.from_residual-in_err-check_moisture.ensures.1) (sym (ap weighed_done (wrong_moisture L a.dry a.moisture _ (c.in_ok-d.ensures L k) _ (c.in_ok-m.ensures L l) _ (c.in_err-check_moisture.ensures L))))

pub returns : goal.returns
unfolding weighed_answer weighed_done
returns c =
    let a = c.args in
    λ L k l. ap (λ (w : Weighing). weighed_answer (Ok w)) c.weigh.ensures ∙ sym (ap weighed_done (weighed L a.dry a.moisture _ (c.in_ok-d.ensures L k) _ (c.in_ok-m.ensures L l) (c.in_ok-check_moisture.ensures L)))
