-- The proof of cost_root.
use native.Mathlib.Omega.{arith}
use mathlib.Core.Path.{sym, ap, ◌∙◌}
use Rattle.definition.specs.Build.{lent}
use Rattle.definition.specs.Cost.{cost_answer, cost_done}
use Rattle.costing.proofs.Shape.{root_inside, nodes_inside, not_array, other_number, two_inside, two_elements}
use Rattle.costing.proofs.cost_root.Goals.{then-nodes-at-ne-ARRAY-via-then-nodes-at-ne-ARRAY, then-nodes-at-ne-ARRAY-via-else-nodes-at-ne-ARRAY+then-nodes-at-ne-ELEMENTS}
use Rattle.costing.proofs.cost_root.Goals as goal

pub bounds-nodes-at : goal.bounds-nodes-at
bounds-nodes-at c =
    let a = c.args in
    omega (arith, root_inside (lent a.nodes.now a.references.now a.bytes.now a.counts) c.requires)

pub bounds-nodes-at-else-nodes-at-ne-ARRAY : goal.bounds-nodes-at-else-nodes-at-ne-ARRAY
bounds-nodes-at-else-nodes-at-ne-ARRAY c =
    let a = c.args in
    omega (arith, root_inside (lent a.nodes.now a.references.now a.bytes.now a.counts) c.requires)

pub returns-then-nodes-at-ne-ARRAY : goal.returns-then-nodes-at-ne-ARRAY
unfolding cost_answer cost_done
returns-then-nodes-at-ne-ARRAY c =
    let a = c.args in
    let L = lent a.nodes.now a.references.now a.bytes.now a.counts in
    elim c.then-nodes-at-ne-ARRAY.branch [
      | then-nodes-at-ne-ARRAY-via-then-nodes-at-ne-ARRAY w ↦ sym (ap cost_done (not_array L c.requires w.if-nodes-at-ne-ARRAY.true))
      | then-nodes-at-ne-ARRAY-via-else-nodes-at-ne-ARRAY+then-nodes-at-ne-ELEMENTS w ↦ sym (ap cost_done (other_number L c.requires w.if-nodes-at-ne-ARRAY.false w.if-nodes-at-ne-ELEMENTS.true))
    ]

pub bounds-references-start : goal.bounds-references-start
bounds-references-start c =
    let a = c.args in
    let L = lent a.nodes.now a.references.now a.bytes.now a.counts in
    omega (arith, two_inside L c.requires c.if-nodes-at-ne-ARRAY.false c.if-nodes-at-ne-ELEMENTS.false)

pub bounds-references-start-2 : goal.bounds-references-start-2
bounds-references-start-2 c =
    let a = c.args in
    let L = lent a.nodes.now a.references.now a.bytes.now a.counts in
    omega (arith, two_inside L c.requires c.if-nodes-at-ne-ARRAY.false c.if-nodes-at-ne-ELEMENTS.false)

pub cost_pair-requires : goal.cost_pair-requires
cost_pair-requires c =
    let a = c.args in
    nodes_inside (lent a.nodes.now a.references.now a.bytes.now a.counts) c.requires

pub returns : goal.returns
returns c =
    let a = c.args in
    let L = lent a.nodes.now a.references.now a.bytes.now a.counts in
    c.cost_pair.ensures ∙ sym (ap cost_done (two_elements L c.requires c.if-nodes-at-ne-ARRAY.false c.if-nodes-at-ne-ELEMENTS.false))
