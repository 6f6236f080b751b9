-- The proof of is_hash_at.
use mathlib.Core.Path.{◌∙◌}
use borrow.Author.Tests.{le-ltb}
use Rattle.costing.proofs.Shape.{hash_at, no_hash}
use Rattle.costing.proofs.is_hash_at.Goals as goal

pub returns-then-i-count : goal.returns-then-i-count
returns-then-i-count c =
    let a = c.args in
    λ A e. hash_at A a.count a.nodes.now a.h e c.if-i-count.true

pub returns-else-i-count : goal.returns-else-i-count
returns-else-i-count c =
    let a = c.args in
    λ A e. le-ltb a.h a.count c.if-i-count.false ∙ no_hash A a.count a.nodes.now a.h e c.if-i-count.false
