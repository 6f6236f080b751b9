-- The proof of create_plain.
use mathlib.Core.List.{[]}
use Rattle.definition.specs.Build.{lent, check}
use Rattle.value_arena.specs.Calls.{plain}
use Rattle.call_check.proofs.Tests.{none_lowest}
use Rattle.value_arena.proofs.Building.{build_on, build_stop}
use Rattle.value_arena.proofs.create_plain.Goals as goal

pub returns : goal.returns
unfolding plain
returns c =
    let a = c.args in
    let L = lent a.nodes.now a.references.now a.bytes.now a.counts in
    λ m row s e. build_on (check []) _ L (c.in_ok-begin.ensures.by_index [] none_lowest)
    (build_on (m) _ L (rw c.in_ok-test.was at s)
    (c.add_plain.ensures a.references.now a.bytes.now row e))

pub returns-in_err-test : goal.returns-in_err-test
unfolding plain
returns-in_err-test c =
    let a = c.args in
    let L = lent a.nodes.now a.references.now a.bytes.now a.counts in
    λ m row s e. build_on (check []) _ L (c.in_ok-begin.ensures.by_index [] none_lowest)
    (build_stop (m) _ L _ c.from_residual-in_err-test.ensures.1 (rw c.in_err-test.was at s))

pub returns-in_err-begin : goal.returns-in_err-begin
unfolding plain
returns-in_err-begin c =
    let a = c.args in
    let L = lent a.nodes.now a.references.now a.bytes.now a.counts in
    λ m row s e. build_stop (check []) _ L _ c.from_residual.ensures.1 (c.in_err-begin.ensures.by_index [] none_lowest)
