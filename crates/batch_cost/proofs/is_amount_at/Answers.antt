-- The proof of is_amount_at.
use mathlib.Core.Path.{◌∙◌}
use borrow.Author.Tests.{le-ltb}
use Rattle.batch_cost.proofs.Rows.{amount_test, no_amount}
use Rattle.batch_cost.proofs.is_amount_at.Goals as goal

pub returns-then-i-count : goal.returns-then-i-count
returns-then-i-count c =
    let a = c.args in
    λ A e. amount_test A a.count a.nodes.now e a.h c.if-i-count.true

pub returns-else-i-count : goal.returns-else-i-count
returns-else-i-count c =
    let a = c.args in
    λ A e. le-ltb a.h a.count c.if-i-count.false ∙ no_amount A a.count a.nodes.now e a.h c.if-i-count.false
