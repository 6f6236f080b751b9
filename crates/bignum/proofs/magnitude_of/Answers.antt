-- The proof of magnitude_of.
use borrow.Author.Rules.{rules}
use Rattle.definition.specs.Magnitude.{magnitude}
use Rattle.bignum.proofs.magnitude_of.Goals as goal

pub returns : goal.returns
unfolding magnitude
returns c = search rules
