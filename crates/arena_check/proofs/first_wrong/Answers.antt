-- The proof of first_wrong.
use borrow.Author.Rules.{rules}
use Rattle.definition.specs.Run.{pick}
use Rattle.arena_check.proofs.first_wrong.Goals as goal

pub returns-then-wrong : goal.returns-then-wrong
unfolding pick
returns-then-wrong c = search rules

pub returns-else-wrong : goal.returns-else-wrong
unfolding pick
returns-else-wrong c = search rules
