-- The proof of cost_nodes.
use native.Mathlib.Omega.{arith}
use mathlib.Core.Path.{sym, ap, ◌∙◌}
use Rattle.definition.specs.Build.{lent}
use Rattle.definition.specs.Cost.{surviving, sum, cost_done, cost_answer}
use Rattle.lists.specs.Runs.{err_is}
use Rattle.batch_cost.proofs.Rows.{in_table, listed, length_list}
use Rattle.batch_cost.proofs.Hashes.{held_here, recipe_told, prices_told}
use Rattle.batch_cost.proofs.Steps.{no_recipe, no_prices, costs}
use Rattle.batch_cost.proofs.cost_nodes.Goals as goal

pub check_recipe_at-requires : goal.check_recipe_at-requires
check_recipe_at-requires c =
    let a = c.args in
    let L = lent a.nodes.now a.references.now a.bytes.now a.counts in
    (in_table L c.requires.0, c.requires.1, λ p. listed L c.requires.0 a.recipe c.requires.1 p)

pub returns-in_err-check_recipe_at : goal.returns-in_err-check_recipe_at
unfolding cost_done cost_answer
returns-in_err-check_recipe_at c =
    let a = c.args in
    let L = lent a.nodes.now a.references.now a.bytes.now a.counts in
    rw (err_is c.from_residual.result c.from_residual.ensures.1) (sym (ap cost_done (no_recipe L a.recipe a.prices _ (c.in_err-check_recipe_at.ensures L (held_here L c.requires.0)))))

pub check_prices_at-requires : goal.check_prices_at-requires
check_prices_at-requires c =
    let a = c.args in
    let L = lent a.nodes.now a.references.now a.bytes.now a.counts in
    (in_table L c.requires.0, c.requires.2, λ p. listed L c.requires.0 a.prices c.requires.2 p)

pub returns-in_err-check_prices_at : goal.returns-in_err-check_prices_at
unfolding cost_done cost_answer
returns-in_err-check_prices_at c =
    let a = c.args in
    let L = lent a.nodes.now a.references.now a.bytes.now a.counts in
    let H = held_here L c.requires.0 in
    rw (err_is c.from_residual-in_err-check_prices_at.result c.from_residual-in_err-check_prices_at.ensures.1) (sym (ap cost_done (no_prices L a.recipe a.prices (c.in_ok-check_recipe_at.ensures L H) _ (c.in_err-check_prices_at.ensures L H))))

pub list_of-requires : goal.list_of-requires
list_of-requires c =
    let a = c.args in
    let L = lent a.nodes.now a.references.now a.bytes.now a.counts in
    (recipe_told L a.recipe c.requires.0 c.requires.1 (c.in_ok-check_recipe_at.ensures L (held_here L c.requires.0))).0.list

pub list_of-requires-2 : goal.list_of-requires-2
list_of-requires-2 c =
    let a = c.args in
    let L = lent a.nodes.now a.references.now a.bytes.now a.counts in
    (prices_told L a.prices c.requires.0 c.requires.2 (c.in_ok-check_prices_at.ensures L (held_here L c.requires.0))).list

pub sum_pairs-requires : goal.sum_pairs-requires
sum_pairs-requires c =
    let a = c.args in
    let L = lent a.nodes.now a.references.now a.bytes.now a.counts in
    let H = held_here L c.requires.0 in
    let r = recipe_told L a.recipe c.requires.0 c.requires.1 (c.in_ok-check_recipe_at.ensures L H) in
    let p = prices_told L a.prices c.requires.0 c.requires.2 (c.in_ok-check_prices_at.ensures L H) in
    rw (c.list_of.ensures, c.list_of-2.ensures) (r.0.pairs_judged, p.pairs_judged, omega (arith, length_list a.nodes.now a.references.now a.recipe r.0.list, r.1))

pub returns : goal.returns
returns c =
    let a = c.args in
    let L = lent a.nodes.now a.references.now a.bytes.now a.counts in
    let H = held_here L c.requires.0 in
    let e = c.in_ok-check_recipe_at.ensures L H in
    let f = c.in_ok-check_prices_at.ensures L H in
    let r = recipe_told L a.recipe c.requires.0 c.requires.1 e in
    let p = prices_told L a.prices c.requires.0 c.requires.2 f in
    let all = c.sum_pairs.ensures L in
    (rw (c.list_of.ensures, c.list_of-2.ensures) at all) ∙ sym (ap cost_done (costs L a.recipe a.prices e f ∙ (λ j. sum (surviving (p.pairs_told j)) 0 (surviving (r.0.pairs_told j)) L)))
