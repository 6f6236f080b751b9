-- The proof of rounded.
use borrow.Author.Rules.{rules}
use Rattle.definition.specs.Cost as C
use Rattle.batch_cost.proofs.rounded.Goals as goal

pub returns : goal.returns
unfolding C.rounded
returns c = search rules
