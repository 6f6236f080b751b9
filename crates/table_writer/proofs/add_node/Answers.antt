-- The proof of add_node.
use native.Mathlib.Omega.{arith}
use Prim.Native.Nat.{◌+◌, ◌*◌, ◌≤◌}
use mathlib.Core.List.{[], ◌∷◌}
use lib.ListN.{length}
use Rattle.definition.specs.Node.{width}
use Rattle.table_writer.proofs.Added.{row_added, row_full, stored_free}
use Rattle.table_writer.proofs.add_node.Goals as goal

pub returns-then-c-at : goal.returns-then-c-at
returns-then-c-at c =
    record { by_index = λ input room limit row re by sy ob e f. row_full row c.if-c-at.true; upper_bound = tt }

pub returns : goal.returns
returns c =
    let c-put-node = c.put_node in
    let c-if1 = c.if-c-at in
    let a = c.args in
    let l = a.c.now in
    let h : l.nodes * width + width ≤ length a.nodes.now = omega (arith, c-if1.false) in record {
      by_index = λ input room limit row re by sy ob e f. row_added row _ e f c-if1.false c-put-node.ensures;
      upper_bound = (
        (omega arith, omega arith),
        λ n. stored_free a.nodes.now l.nodes a.kind (a.a ∷ a.b ∷ 0 ∷ a.n ∷ a.name ∷ 0 ∷ a.class ∷ []) c-put-node.ensures h n,
      );
    }
