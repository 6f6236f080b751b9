-- The proof of find_named.
use native.Mathlib.Omega.{arith}
use mathlib.Core.Path.{sym, ◌∙◌}
use Rattle.node_adder.proofs.Names.{find_on, find_here, find_none, nodes_counted}
use Rattle.node_adder.proofs.find_named.Goals as goal

pub is_named-requires : goal.is_named-requires
is_named-requires c =
    (omega arith, c.requires.1, c.requires.2)

pub returns-then-is_named : goal.returns-then-is_named
returns-then-is_named c =
    let a = c.args in
    λ A e f s. find_here A a.name.now c.loop-i.i (rw (nodes_counted A a.count a.nodes.now e) (omega arith)) (sym c.if-is_named.true ∙ c.is_named.ensures A e f s) ∙ sym (c.loop-i.invariant A e f s)

pub loop-i-preserved : goal.loop-i-preserved
loop-i-preserved c =
    let a = c.args in
    λ A e f s. c.loop-i.invariant A e f s ∙ find_on A a.name.now c.loop-i.i (rw (nodes_counted A a.count a.nodes.now e) (omega arith)) (sym c.if-is_named.false ∙ c.is_named.ensures A e f s)

pub returns : goal.returns
returns c =
    let a = c.args in
    λ A e f s. find_none A a.name.now c.loop-i.i (rw (nodes_counted A a.count a.nodes.now e) (omega arith)) ∙ sym (c.loop-i.invariant A e f s)
