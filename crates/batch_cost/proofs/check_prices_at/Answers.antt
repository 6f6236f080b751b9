-- The proof of check_prices_at.
use Rattle.definition.specs.Cost.{check_entries, check_prices}
use Rattle.call_check.proofs.Answers.{says_on}
use Rattle.batch_cost.proofs.Hashes.{prices_no, prices_yes}
use Rattle.batch_cost.proofs.check_prices_at.Goals as goal

pub returns-then-nodes-h-ne-HASH : goal.returns-then-nodes-h-ne-HASH
returns-then-nodes-h-ne-HASH c =
    λ L H. prices_no L c.args.h H c.requires.1 c.if-nodes-h-ne-HASH.true

pub list_of-requires : goal.list_of-requires
list_of-requires c =
    c.requires.2 c.if-nodes-h-ne-HASH.false

pub returns : goal.returns
returns c =
    let h = c.args.h in
    λ L H. says_on c.check_entries_at.result (check_prices h) (check_entries _) L (prices_yes L h H c.requires.1 c.if-nodes-h-ne-HASH.false) (rw c.list_of.ensures at (c.check_entries_at.ensures L H.nodes_are H.count_is))
