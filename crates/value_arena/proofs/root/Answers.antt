-- The proof of root.
use mathlib.Core.List.{[]}
use Rattle.definition.specs.Build.{lent}
use Rattle.lists.specs.Runs.{err_is}
use Rattle.call_check.proofs.Tests.{none_lowest}
use Rattle.value_arena.proofs.Getters.{root_ok, root_no}
use Rattle.value_arena.proofs.root.Goals as goal

pub returns : goal.returns
returns c =
    let a = c.args in
    let L = lent a.nodes.now a.references.now a.bytes.now a.counts in
    root_ok L (c.in_ok-begin.ensures.by_index [] none_lowest)

pub returns-in_err-begin : goal.returns-in_err-begin
returns-in_err-begin c =
    let a = c.args in
    let L = lent a.nodes.now a.references.now a.bytes.now a.counts in
    rw (err_is c.from_residual.result c.from_residual.ensures.1) (root_no L _ (c.in_err-begin.ensures.by_index [] none_lowest))
