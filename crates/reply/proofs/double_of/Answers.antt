-- The proof of double_of.
use mathlib.Core.Path.{sym, ap}
use lib.Ieee.{of_bits, of_fields, odd}
use Rattle.reply.specs.Reply.{reading_double}
use Rattle.reply.proofs.double_of.Goals as goal

pub returns-in-NotANumber : goal.returns-in-NotANumber
unfolding reading_double of_bits of_fields odd
returns-in-NotANumber c = ap reading_double (sym c.in-NotANumber.is)

pub returns-in-Whole : goal.returns-in-Whole
unfolding reading_double of_bits of_fields odd
returns-in-Whole c = ap reading_double (sym c.in-Whole.is)

pub returns-in-Double : goal.returns-in-Double
unfolding reading_double
returns-in-Double c = ap reading_double (sym c.in-Double.is)
