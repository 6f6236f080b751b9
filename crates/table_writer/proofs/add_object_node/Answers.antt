-- The proof of add_object_node.
use native.Mathlib.Omega.{arith}
use mathlib.Core.Path.{sym, subst}
use Rattle.std.proofs.lemmas.Result.{IfOk-weaker}
use Rattle.definition.specs.Load.{add_object_node}
use Rattle.lists.specs.Runs.{err_is}
use Rattle.load_state.specs.Holds.{Free}
use Rattle.load_state.specs.Laws.{lead_first, lead_after, lead_stop}
use Rattle.table_writer.proofs.add_object_node.Goals as goal

pub returns-in_err-h : goal.returns-in_err-h
unfolding add_object_node
returns-in_err-h c =
    rw (err_is c.from_residual.result c.from_residual.ensures.1) (record { by_index = λ input room limit row re by sy e f. lead_stop (lead_first _ (c.in_err-h.ensures.by_index input room limit row re by sy _ e f)); upper_bound = tt })

pub returns : goal.returns
unfolding add_object_node
returns c =
    let n = c.in_ok-h.ensures in
    let u = n.upper_bound in
    let o = c.add_object.ensures in record {
      by_index = λ input room limit row re by sy e f.
          lead_after (lead_first _ (n.by_index input room limit row re by sy _ e f)).led (o.by_index input room limit _ re by sy);
      upper_bound = IfOk-weaker c.add_object.result _ _ (λ v q. ((omega (arith, u.0, q.0, q.1), omega (arith, u.0, q.0)), λ k. subst (Free c.add_node.new.nodes) (sym q.0) (u.1 k))) o.value;
    }
