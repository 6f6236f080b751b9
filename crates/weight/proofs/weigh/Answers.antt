-- The proof of weigh.
use mathlib.Core.Path.{refl}
use lib.Ieee as Ieee
use Rattle.definition.specs.Weight.{wet, weigh}
use Rattle.weight.proofs.weigh.Goals as goal

pub returns : goal.returns
unfolding Ieee.of_bits wet weigh
returns c = refl
