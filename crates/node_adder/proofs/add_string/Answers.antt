-- The proof of add_string.
use Rattle.node_adder.proofs.Adding.{string_in, string_out, string_full}
use Rattle.node_adder.proofs.add_string.Goals as goal

pub returns : goal.returns
returns c =
    let a = c.args in
    let s = a.source.now in
    λ re row e. string_in a.nodes.now re a.bytes.now a.counts s row _ _ _ c.put_node.ensures c.copy_to.ensures (e _) c.if-bytes-to.false c.if-nodes-at.false

pub returns-then-nodes-at : goal.returns-then-nodes-at
returns-then-nodes-at c =
    let a = c.args in
    λ re row e. string_full a.nodes.now re a.bytes.now a.counts a.source.now row c.if-bytes-to.false c.if-nodes-at.true

pub returns-then-bytes-to : goal.returns-then-bytes-to
returns-then-bytes-to c =
    let a = c.args in
    λ re row e. string_out a.nodes.now re a.bytes.now a.counts a.source.now row c.if-bytes-to.true
