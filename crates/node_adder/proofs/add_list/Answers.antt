-- The proof of add_list.
use Prim.Native.Nat.{ℕ}
use mathlib.Core.Path.{sym, ap, ◌∙◌}
use mathlib.Core.List.{[], ◌∷◌}
use Rattle.node_adder.proofs.Adding.{list_in, list_out, list_full}
use Rattle.node_adder.proofs.add_list.Goals as goal

pub returns : goal.returns
returns c =
    let a = c.args in
    λ by row e. list_in a.nodes.now a.references.now by a.counts a.source.now row _ _ _ c.put_node.ensures c.copy_to.ensures (e _ ∙ ap (λ (k : ℕ). a.k ∷ 0 ∷ 0 ∷ a.counts.references ∷ k ∷ a.name ∷ a.default ∷ 0 ∷ []) (sym c.entry_count.ensures.value)) c.if-references-to.false c.if-nodes-at.false

pub returns-then-nodes-at : goal.returns-then-nodes-at
returns-then-nodes-at c =
    let a = c.args in
    λ by row e. list_full a.nodes.now a.references.now by a.counts a.source.now row c.if-references-to.false c.if-nodes-at.true

pub returns-then-references-to : goal.returns-then-references-to
returns-then-references-to c =
    let a = c.args in
    λ by row e. list_out a.nodes.now a.references.now by a.counts a.source.now row c.if-references-to.true
