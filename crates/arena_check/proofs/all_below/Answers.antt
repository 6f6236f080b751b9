-- The proof of all_below.
use mathlib.Core.Path.{sym, ◌∙◌}
use Rattle.arena_check.proofs.Lists.{below_on, below_not, below_all}
use Rattle.arena_check.proofs.all_below.Goals as goal

pub loop-m-preserved : goal.loop-m-preserved
loop-m-preserved c =
    let a = c.args in
    c.loop-m.invariant ∙ below_on a.references.now a.count c.loop-m.m-index c.loop-m-test.true c.if-count-m.false

pub returns-then-count-m : goal.returns-then-count-m
returns-then-count-m c =
    let a = c.args in
    below_not a.references.now a.count c.loop-m.m-index c.loop-m-test.true c.if-count-m.true ∙ sym c.loop-m.invariant

pub returns : goal.returns
returns c =
    let a = c.args in
    below_all a.references.now a.count c.loop-m.m-index c.loop-m-test.false ∙ sym c.loop-m.invariant
