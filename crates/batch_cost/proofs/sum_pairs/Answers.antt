-- The proof of sum_pairs.
use native.Mathlib.Omega.{arith}
use mathlib.Core.Path.{sym, ap, ◌∙◌}
use Rattle.definition.specs.Cost.{cost_done, cost_answer}
use Rattle.batch_cost.specs.Tables.{lines_at}
use Rattle.lists.specs.Runs.{err_is}
use Rattle.batch_cost.proofs.Lines.{lines_length, all_summed}
use Rattle.batch_cost.proofs.sum_pairs.Goals as goal

pub returns-in_err-cents : goal.returns-in_err-cents
unfolding cost_done cost_answer
returns-in_err-cents c =
    λ L. rw (err_is c.from_residual.result c.from_residual.ensures.1) (sym (ap cost_done (c.loop-i.invariant.1 L ∙ c.in_err-cents.ensures _ L)))

pub returns : goal.returns
unfolding cost_done cost_answer
returns c =
    let a = c.args in
    λ L. sym (ap cost_done (c.loop-i.invariant.1 L ∙ all_summed (lines_at a.nodes.now a.bytes.now a.recipe.now) (lines_at a.nodes.now a.bytes.now a.prices.now) c.loop-i.i c.loop-i.cents L (omega (arith, lines_length a.nodes.now a.bytes.now a.recipe.now, c.loop-i-test.false))))
