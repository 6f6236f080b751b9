-- The proof of is_wrappable.
use mathlib.Core.Path.{refl}
use Rattle.leaf_reader.specs.Classes.{wrappable}
use Rattle.leaf_reader.proofs.is_wrappable.Goals as goal

pub returns : goal.returns
unfolding wrappable
returns c = refl
