-- The proof of add_plain.
use Rattle.node_adder.proofs.Adding.{plain_in, plain_out}
use Rattle.node_adder.proofs.add_plain.Goals as goal

pub returns : goal.returns
returns c =
    let a = c.args in
    λ re by row e. plain_in a.nodes.now re by a.counts row _ _ c.put_node.ensures e c.if-nodes-at.false

pub returns-then-nodes-at : goal.returns-then-nodes-at
returns-then-nodes-at c =
    let a = c.args in
    λ re by row e. plain_out a.nodes.now re by a.counts row c.if-nodes-at.true
