-- The proof of is_name_at.
use mathlib.Core.Path.{◌∙◌}
use borrow.Author.Tests.{le-ltb}
use Rattle.arena_check.proofs.Lists.{name_at, no_name}
use Rattle.arena_check.proofs.is_name_at.Goals as goal

pub returns-then-at-count : goal.returns-then-at-count
returns-then-at-count c =
    let a = c.args in
    λ A e. name_at A a.count a.nodes.now a.i e c.if-at-count.true

pub returns-else-at-count : goal.returns-else-at-count
returns-else-at-count c =
    let a = c.args in
    λ A e. le-ltb _ _ c.if-at-count.false ∙ no_name A a.count a.nodes.now a.i e c.if-at-count.false
