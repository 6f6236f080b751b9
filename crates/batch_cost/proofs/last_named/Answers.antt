-- The proof of last_named.
use native.Mathlib.Omega.{arith}
use Prim.Native.Nat.{◌-◌}
use mathlib.Core.Path.{sym, ◌∙◌}
use Rattle.batch_cost.specs.Tables.{name_at}
use Rattle.batch_cost.proofs.Lines.{search_start, search_here, search_on, search_end}
use Rattle.batch_cost.proofs.last_named.Goals as goal

pub loop-i-init : goal.loop-i-init
loop-i-init c =
    let a = c.args in
    search_start a.nodes.now a.bytes.now a.entries.now (name_at a.nodes.now a.bytes.now a.h)

pub same_name-requires : goal.same_name-requires
same_name-requires c =
    (c.requires.1, (c.requires.0 (c.loop-i.i - 1) (omega (arith, c.loop-i-test.true, c.loop-i.auto.i))).0)

pub returns-then-same_name : goal.returns-then-same_name
returns-then-same_name c =
    let a = c.args in
    record { value = search_here a.nodes.now a.bytes.now a.entries.now _ c.loop-i.i c.loop-i-test.true c.loop-i.auto.i c.if-same_name.ensures ∙ sym c.loop-i.invariant; result_in_bounds = omega (arith, c.loop-i-test.true, c.loop-i.auto.i) }

pub loop-i-preserved : goal.loop-i-preserved
loop-i-preserved c =
    let a = c.args in
    c.loop-i.invariant ∙ search_on a.nodes.now a.bytes.now a.entries.now _ c.loop-i.i c.loop-i-test.true c.loop-i.auto.i c.if-same_name.ensures

pub returns : goal.returns
returns c =
    let a = c.args in
    record { value = search_end a.nodes.now a.bytes.now a.entries.now _ c.loop-i.i c.loop-i-test.false ∙ sym c.loop-i.invariant; result_in_bounds = tt }
