use Rattle.std.proofs.Common.{ap, sym}
use Rattle.definition.specs.Load.{counts_left}
use Rattle.refusal.proofs.Left.{nil_left}
use Rattle.refusal.proofs.counts_left.Goals as goal

pub returns-in-BadTables : goal.returns-in-BadTables
unfolding counts_left
returns-in-BadTables c = sym (ap counts_left c.in-BadTables.is)

pub returns-in_default : goal.returns-in_default
returns-in_default c = nil_left c.args.q c.in_default.not-BadTables
