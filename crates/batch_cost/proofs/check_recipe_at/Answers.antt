-- The proof of check_recipe_at.
use Rattle.definition.specs.Cost.{check_entries, check_recipe}
use Rattle.call_check.proofs.Answers.{says_on}
use Rattle.batch_cost.proofs.Hashes.{recipe_no, recipe_many, recipe_yes}
use Rattle.batch_cost.proofs.check_recipe_at.Goals.{then-nodes-at-ne-HASH-via-then-nodes-at-ne-HASH, then-nodes-at-ne-HASH-via-else-nodes-at-ne-HASH+then-nodes-at-gt-PAIRS}
use Rattle.batch_cost.proofs.check_recipe_at.Goals as goal

pub returns-then-nodes-at-ne-HASH : goal.returns-then-nodes-at-ne-HASH
returns-then-nodes-at-ne-HASH c =
    λ L H. elim c.then-nodes-at-ne-HASH.branch [
      | then-nodes-at-ne-HASH-via-then-nodes-at-ne-HASH w ↦ recipe_no L c.args.h H c.requires.1 w.if-nodes-at-ne-HASH.true
      | then-nodes-at-ne-HASH-via-else-nodes-at-ne-HASH+then-nodes-at-gt-PAIRS w ↦ recipe_many L c.args.h H c.requires.1 w.if-nodes-at-ne-HASH.false w.if-nodes-at-gt-PAIRS.true
    ]

pub list_of-requires : goal.list_of-requires
list_of-requires c =
    c.requires.2 c.if-nodes-at-ne-HASH.false

pub returns : goal.returns
returns c =
    let h = c.args.h in
    λ L H. says_on c.check_entries_at.result (check_recipe h) (check_entries _) L (recipe_yes L h H c.requires.1 c.if-nodes-at-ne-HASH.false c.if-nodes-at-gt-PAIRS.false) (rw c.list_of.ensures at (c.check_entries_at.ensures L H.nodes_are H.count_is))
