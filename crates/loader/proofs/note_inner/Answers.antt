-- The proof of note_inner.
use mathlib.Core.Path.{sym, ◌∙◌}
use Rattle.loader.proofs.Variables.{after_takes, after_other}
use Rattle.loader.proofs.note_inner.Goals as goal

pub returns-then-takes_next : goal.returns-then-takes_next
returns-then-takes_next c room T inner = after_takes inner (sym c.takes_next.ensures ∙ c.if-takes_next.true)

pub returns : goal.returns
returns c room T inner = after_other inner (sym c.takes_next.ensures ∙ c.if-takes_next.false)
