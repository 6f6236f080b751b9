-- The proof of refusal.
use mathlib.Core.Path.{sym, ap}
use Rattle.writer.specs.Held.{stopped}
use Rattle.dump.proofs.refusal.Goals as goal

pub returns-in-NoSpace : goal.returns-in-NoSpace
unfolding stopped
returns-in-NoSpace c = sym (ap (stopped c.args.limit) c.in-NoSpace.is)

pub returns-in-TooDeep : goal.returns-in-TooDeep
unfolding stopped
returns-in-TooDeep c = sym (ap (stopped c.args.limit) c.in-TooDeep.is)
