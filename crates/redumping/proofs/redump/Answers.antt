-- The proof of redump.
use mathlib.Core.Path.{ap}
use Rattle.definition.specs.Load.{LoadAnswer}
use Rattle.lists.specs.Runs.{err_is}
use Rattle.redumping.proofs.Laws.{dumped, handed_on}
use Rattle.redumping.proofs.redump.Goals as goal

pub returns-in_err-loaded : goal.returns-in_err-loaded
returns-in_err-loaded c =
    let left = c.in_err-loaded.ensures in
    record { output_after = rw (err_is c.from_residual.result c.from_residual.ensures.1) (handed_on _ _ _ _ _ (ap (λ (a : LoadAnswer). a.answer) left.answer)); objects_after = left.lent }

pub returns : goal.returns
returns c =
    let left = c.in_ok-loaded.ensures in
    record { output_after = dumped _ _ _ _ _ _ left.answer left.lent c.dump.ensures; objects_after = left.lent }
