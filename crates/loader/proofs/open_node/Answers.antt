-- The proof of open_node.
use native.Mathlib.Omega.{arith}
use mathlib.Core.Path.{refl}
use Rattle.std.proofs.lemmas.Result.{IfOk-weaker}
use Rattle.definition.specs.Node.{nil, words}
use Rattle.load_state.specs.Names.{nil_plain}
use Rattle.loader.proofs.open_node.Goals as goal

pub returns : goal.returns
unfolding words
returns c =
    let k = c.add_object_node.ensures in
    record { by_index = λ input room limit re by sy. k.by_index input room limit nil re by sy refl nil_plain; upper_bound = IfOk-weaker c.add_object_node.result _ _ (λ h q. (q.0, q.1 (omega arith))) k.upper_bound }
