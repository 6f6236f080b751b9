-- The proof of kind_of.
use mathlib.Core.Path.{sym, ap}
use Rattle.reply.specs.Reply.{reading_kind}
use Rattle.reply.proofs.kind_of.Goals as goal

pub returns-in-NotANumber : goal.returns-in-NotANumber
unfolding reading_kind
returns-in-NotANumber c = ap reading_kind (sym c.in-NotANumber.is)

pub returns-in-Whole : goal.returns-in-Whole
unfolding reading_kind
returns-in-Whole c = ap reading_kind (sym c.in-Whole.is)

pub returns-in-Double : goal.returns-in-Double
unfolding reading_kind
returns-in-Double c = ap reading_kind (sym c.in-Double.is)
