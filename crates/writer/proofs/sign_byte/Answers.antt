-- The proof of sign_byte.
use mathlib.Core.Path.{sym, ap}
use Rattle.definition.specs.Magnitude.{sign_byte}
use Rattle.writer.proofs.sign_byte.Goals as goal

pub returns-then-minus : goal.returns-then-minus
unfolding sign_byte
returns-then-minus c = sym (ap sign_byte c.if-minus.true)

pub returns-else-minus : goal.returns-else-minus
unfolding sign_byte
returns-else-minus c = sym (ap sign_byte c.if-minus.false)
