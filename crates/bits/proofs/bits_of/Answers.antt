-- The proof of bits_of.
use mathlib.Core.Path.{ap, ◌∙◌}
use Rattle.definition.specs.Build.{bits}
use Rattle.bits.proofs.Bits.{passed, unsigned_is}
use Rattle.bits.proofs.bits_of.Goals as goal

pub returns : goal.returns
returns c = c.cast_unsigned.ensures ∙ unsigned_is _ ∙ ap bits (passed c.ranges.value)
