-- The proof of read_text.
use native.Mathlib.Omega.{arith}
use Prim.Native.Nat.{ℕ}
use mathlib.Core.Path.{ap, ◌∙◌}
use mathlib.Core.List.{[], ◌∷◌}
use Rattle.std.proofs.lemmas.Result.{IfOk-weaker}
use Rattle.definition.specs.Load.{read_text, read_byte_string, add_bytes}
use Rattle.lists.specs.Runs.{err_is}
use Rattle.load_state.specs.Laws.{held, lead_first, lead_after, lead_stop}
use Rattle.load_state.specs.Needs.{span_length, space_fits}
use Rattle.leaf_reader.proofs.read_text.Goals as goal

pub returns-in_err-n : goal.returns-in_err-n
unfolding read_text
returns-in_err-n c =
    rw (err_is c.from_residual.result c.from_residual.ensures.1) (record { by_index = λ room limit row re sy ws pl. lead_stop (lead_first _ (c.in_err-n.ensures.spans room limit _)); upper_bound = tt })

pub add_bytes-requires : goal.add_bytes-requires
add_bytes-requires c =
    let H = held {m = λ room. read_byte_string _} {m' = λ room. _} c.requires.2 (λ room. c.in_ok-n.ensures.spans room 0 _) in
    let n = c.in_ok-n.ensures.upper_bound in
    (n.0, n.1, omega arith, omega arith)

pub returns-in_err-start : goal.returns-in_err-start
unfolding read_text
returns-in_err-start c =
    rw (err_is c.from_residual-in_err-start.result c.from_residual-in_err-start.ensures.1) (record {
      by_index = λ room limit row re sy ws pl.
          lead_after (lead_first _ (c.in_ok-n.ensures.spans room limit _)).led
          (lead_stop (lead_first _ (c.in_err-start.ensures.meets room limit _ _ _ _)));
      upper_bound = tt;
    })

pub add_object_node-requires : goal.add_object_node-requires
add_object_node-requires c =
    let p = c.requires in
    let H = held {m = λ room. read_byte_string _} {m' = λ room. _} p.2 (λ room. c.in_ok-n.ensures.spans room 0 _) in
    let G = held {m = λ room. add_bytes room _} {m' = λ room. _} H (λ room. c.in_ok-start.ensures.meets room 0 _ _ _ _) in
    (omega (arith, p.2), space_fits G)

pub returns : goal.returns
unfolding read_text
returns c =
    let a = c.args in
    let n = c.in_ok-n.ensures.upper_bound in
    let st = c.in_ok-start.start in
    let e = span_length a.input.now c.read_byte_string.new.c c.in_ok-n.n n.0 n.1 in record {
      by_index = λ room limit row re sy ws pl.
          lead_after (lead_first _ (c.in_ok-n.ensures.spans room limit _)).led
          (lead_after (lead_first _ (c.in_ok-start.ensures.meets room limit _ _ _ _)).led
          (c.add_object_node.ensures.by_index _ room limit (row st _) _ _ _ (ws st _ ∙ ap (λ (k : ℕ). a.kind ∷ st ∷ k ∷ 0 ∷ 0 ∷ a.name ∷ 0 ∷ a.class ∷ []) e) (pl st _)));
      upper_bound = IfOk-weaker c.add_object_node.result _ _ (λ h q. q.0) c.add_object_node.ensures.upper_bound;
    }
