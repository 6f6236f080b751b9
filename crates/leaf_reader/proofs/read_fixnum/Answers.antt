-- The proof of read_fixnum.
use native.Mathlib.Omega.{arith}
use mathlib.Core.Path.{refl}
use Rattle.std.proofs.lemmas.Result.{IfOk-weaker}
use Rattle.definition.specs.Node.{fixnum, words, kind}
use Rattle.definition.specs.Load.{read_fixnum, read_integer}
use Rattle.lists.specs.Runs.{err_is}
use Rattle.load_state.specs.Laws.{held, lead_first, lead_after, lead_stop}
use Rattle.load_state.specs.Needs.{space_fits}
use Rattle.load_state.specs.Names.{other_kind}
use Rattle.leaf_reader.proofs.read_fixnum.Goals as goal

pub returns-in_err-n : goal.returns-in_err-n
unfolding read_fixnum
returns-in_err-n c =
    rw (err_is c.from_residual.result c.from_residual.ensures.1) (record { meets = λ room limit re by sy ob. lead_stop (lead_first _ (c.in_err-n.ensures.meets room limit _)); upper_bound = tt })

pub add_node-requires : goal.add_node-requires
add_node-requires c =
    let H = held {m = λ room. read_integer _} {m' = λ room. _} c.requires.4 (λ room. c.in_ok-n.ensures.meets room 0 _) in
    (omega arith, space_fits H)

pub returns : goal.returns
unfolding read_fixnum kind words
returns c =
    let k = c.add_node.ensures in
    record { meets = λ room limit re by sy ob. lead_after (lead_first _ (c.in_ok-n.ensures.meets room limit _)).led (k.by_index _ room limit (fixnum _) re by sy ob refl (other_kind (fixnum 0) refl)); upper_bound = IfOk-weaker c.add_node.result _ _ (λ h q. q.0) k.upper_bound }
