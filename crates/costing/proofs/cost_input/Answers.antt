-- The proof of cost_input.
use mathlib.Core.Path.{ap}
use Rattle.definition.specs.Load.{LoadAnswer}
use Rattle.lists.specs.Runs.{err_is}
use Rattle.costing.proofs.Loads.{well_formed, costed, handed_on}
use Rattle.costing.proofs.cost_input.Goals as goal

pub returns-in_err-loaded : goal.returns-in_err-loaded
returns-in_err-loaded c =
    let left = c.in_err-loaded.ensures in
    record { value = rw (err_is c.from_residual.result c.from_residual.ensures.1) (handed_on _ _ _ (ap (λ (a : LoadAnswer). a.answer) left.answer)); objects_after = left.lent }

pub cost_root-requires : goal.cost_root-requires
cost_root-requires c =
    let left = c.in_ok-loaded.ensures in
    well_formed _ _ _ _ left.answer left.lent

pub returns : goal.returns
returns c =
    let left = c.in_ok-loaded.ensures in
    record { value = costed _ _ _ _ left.answer left.lent c.cost_root.ensures; objects_after = left.lent }
