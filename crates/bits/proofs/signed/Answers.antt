-- The proof of signed.
use mathlib.Core.Path.{◌∙◌}
use Rattle.bits.proofs.Bits.{passed, signed_is}
use Rattle.bits.proofs.signed.Goals as goal

pub returns : goal.returns
returns c = passed {z = c.cast_signed.result} (record { sfits = c.cast_signed.type_inv }) ∙ c.cast_signed.ensures ∙ signed_is c.args.x
