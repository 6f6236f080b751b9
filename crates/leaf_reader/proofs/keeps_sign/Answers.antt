-- The proof of keeps_sign.
use Rattle.leaf_reader.proofs.Bignums.{plus_kept, minus_kept}
use Rattle.leaf_reader.proofs.keeps_sign.Goals as goal

pub returns-then-b : goal.returns-then-b
returns-then-b c = plus_kept _ _ c.requires c.if-b.true

pub returns : goal.returns
returns c = minus_kept _ _ c.if-b.false
