-- The proof of dry_at.
use lib.Ieee as Ieee
use Rattle.lists.specs.Runs.{err_is}
use Rattle.weight.proofs.Steps.{dry_below, dry_is, dry_not}
use Rattle.weight.proofs.dry_at.Goals as goal

pub returns-in_err-x : goal.returns-in_err-x
returns-in_err-x c =
    λ L k. rw (err_is c.from_residual.result c.from_residual.ensures.1) (dry_not L c.args.h _ (c.in_err-x.ensures L k))

pub returns-then-x : goal.returns-then-x
unfolding Ieee.of_bits
returns-then-x c =
    λ L k. dry_below L c.args.h _ (c.in_ok-x.ensures L k) c.if-x.true

pub returns : goal.returns
unfolding Ieee.of_bits
returns c =
    λ L k. dry_is L c.args.h _ (c.in_ok-x.ensures L k) c.if-x.false
