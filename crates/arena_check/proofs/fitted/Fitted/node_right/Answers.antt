-- The proof of node_right.
use native.Mathlib.Omega.{arith}
use Prim.Native.Nat.{◌*◌}
use mathlib.Core.Path.{◌∙◌}
use Rattle.arena_check.proofs.Rights.{node_words, node_fixnum, node_in, node_out}
use Rattle.definition.specs.Node.{width}
use Rattle.arena_check.proofs.fitted.Fitted.node_right.Goals as goal

pub returns-then-k-eq-FIXNUM : goal.returns-then-k-eq-FIXNUM
returns-then-k-eq-FIXNUM c =
    let a = c.args in
    λ A H. c.all_zero.ensures ∙ node_fixnum A _ _ _ _ _ _ _ _ _ (node_words a.self.nodes.now (a.i * width) (omega arith)) c.if-k-eq-FIXNUM.true

pub is_row_of-requires : goal.is_row_of-requires
is_row_of-requires c = c.if-k-eq-FIXNUM.false

pub returns-then-is_row_of : goal.returns-then-is_row_of
returns-then-is_row_of c =
    let a = c.args in
    λ A H. c.row_right.ensures A H ∙ node_in A _ _ _ _ _ _ _ _ _ (node_words a.self.nodes.now (a.i * width) (omega arith)) c.if-is_row_of.ensures

pub returns-else-is_row_of : goal.returns-else-is_row_of
returns-else-is_row_of c =
    let a = c.args in
    λ A H. c.if-is_row_of.false ∙ node_out A _ _ _ _ _ _ _ _ _ (node_words a.self.nodes.now (a.i * width) (omega arith)) c.if-is_row_of.ensures
