-- The proof of number_right_at.
use mathlib.Core.Bool.{not}
use mathlib.Core.Path.{ap, ◌∙◌}
use borrow.Author.Tests.{le-ltb, ne_eqb}
use Rattle.arena_check.proofs.Rights.{number_minus, number_plus, number_past}
use Rattle.arena_check.proofs.number_right_at.Goals as goal

pub returns-then-sign-ne1 : goal.returns-then-sign-ne1
returns-then-sign-ne1 c =
    ap not (ne_eqb _ _ c.if-sign-ne1.true) ∙ number_plus c.magnitude_of-m.ensures _ c.if-m-lt-TOO_BIG.true c.if-sign-ne1.true

pub returns-else-sign-ne1 : goal.returns-else-sign-ne1
returns-else-sign-ne1 c = number_minus c.magnitude_of-m.ensures _ c.if-m-lt-TOO_BIG.true c.if-sign-ne1.false

pub returns-else-m-lt-TOO_BIG : goal.returns-else-m-lt-TOO_BIG
returns-else-m-lt-TOO_BIG c = le-ltb _ _ c.if-m-lt-TOO_BIG.false ∙ number_past c.magnitude_of-m.ensures c.args.sign c.if-m-lt-TOO_BIG.false
