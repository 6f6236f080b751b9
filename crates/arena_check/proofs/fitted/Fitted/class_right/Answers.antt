-- The proof of class_right.
use mathlib.Core.Path.{◌∙◌}
use borrow.Author.Tests.{eq-eqb}
use Rattle.arena_check.proofs.Rights.{class_none, class_some}
use Rattle.arena_check.proofs.fitted.Fitted.class_right.Goals as goal

pub returns-then-w-eq0 : goal.returns-then-w-eq0
returns-then-w-eq0 c = λ A H. eq-eqb _ _ c.if-w-eq0.true ∙ class_none A _ c.if-w-eq0.true

pub returns-else-w-eq0 : goal.returns-else-w-eq0
returns-else-w-eq0 c = λ A H. c.is_name.ensures A H ∙ class_some A _ c.if-w-eq0.false
