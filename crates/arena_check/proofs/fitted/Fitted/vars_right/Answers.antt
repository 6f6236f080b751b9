-- The proof of vars_right.
use mathlib.Core.Path.{◌∙◌}
use borrow.Author.Tests.{eq-eqb}
use Rattle.arena_check.proofs.Rights.{vars_none, vars_some}
use Rattle.arena_check.proofs.fitted.Fitted.vars_right.Goals as goal

pub returns-then-f-eq0 : goal.returns-then-f-eq0
returns-then-f-eq0 c =
    let a = c.args in
    λ A H. eq-eqb _ _ c.if-f-eq0.true ∙ vars_none A a.f a.start a.n c.if-f-eq0.true

pub returns-else-f-eq0 : goal.returns-else-f-eq0
returns-else-f-eq0 c =
    let a = c.args in
    λ A H. c.pairs_right.ensures A H ∙ vars_some A a.f a.start a.n c.if-f-eq0.false
