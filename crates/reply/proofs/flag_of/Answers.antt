-- The proof of flag_of.
use mathlib.Core.Path.{sym, ap}
use Rattle.reply.specs.Reply.{flag}
use Rattle.reply.proofs.flag_of.Goals as goal

pub returns-then-b : goal.returns-then-b
unfolding flag
returns-then-b c = sym (ap flag c.if-b.true)

pub returns-else-b : goal.returns-else-b
unfolding flag
returns-else-b c = sym (ap flag c.if-b.false)
