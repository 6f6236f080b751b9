-- The proof of check_nodes.
use native.Mathlib.Omega.{arith}
use mathlib.Core.Path.{sym, ◌∙◌}
use Rattle.arena_check.proofs.Rights.{faulty_on, faulty_here, faulty_none, faulty_start}
use Rattle.arena_check.proofs.fitted.Fitted.check_nodes.Goals as goal

pub loop-i-init : goal.loop-i-init
loop-i-init c =
    let t = c.args.self in
    λ A H. faulty_start A t.nodes.now t.count

pub loop-i-preserved : goal.loop-i-preserved
loop-i-preserved c =
    let t = c.args.self in
    λ A H. c.loop-i.invariant A H ∙ faulty_on A t.nodes.now t.count c.loop-i.i (omega arith) (c.if-not-node_right.ensures A H)

pub returns-then-not-node_right : goal.returns-then-not-node_right
returns-then-not-node_right c =
    let t = c.args.self in
    λ A H. faulty_here A t.nodes.now t.count c.loop-i.i (omega arith) (c.if-not-node_right.ensures A H) ∙ sym (c.loop-i.invariant A H)

pub returns : goal.returns
returns c =
    let t = c.args.self in
    λ A H. faulty_none A t.nodes.now t.count c.loop-i.i (omega arith) ∙ sym (c.loop-i.invariant A H)
