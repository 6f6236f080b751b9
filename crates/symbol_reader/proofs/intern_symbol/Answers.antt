-- The proof of intern_symbol.
use native.Mathlib.Omega.{arith}
use mathlib.Core.Path.{refl}
use Rattle.std.proofs.lemmas.Result.{IfOk-weaker}
use Rattle.definition.specs.Load.{add_bytes}
use Rattle.lists.specs.Runs.{err_is}
use Rattle.load_state.specs.Laws.{held, lead_first, lead_after, lead_stop}
use Rattle.symbol_reader.proofs.Names.{known, unknown}
use Rattle.load_state.specs.Needs.{space_fits, span_length}
use Rattle.symbol_reader.proofs.intern_symbol.Goals as goal

pub returns-in-Some-clause-meets : goal.returns-in-Some-clause-meets
returns-in-Some-clause-meets c =
    λ room limit re ob y. rw c.in-Some.is (lead_after (known _ c.in-Some.h) (c.add_symbol.ensures.by_index _ room limit _ re _ ob (λ s G. rw c.in-Some.is at (y s _ refl G))))

pub returns-in-Some-clause-upper_bound : goal.returns-in-Some-clause-upper_bound
returns-in-Some-clause-upper_bound c =
    let l = rw c.in-Some.is at c.requires.2 in
    IfOk-weaker c.add_symbol.result _ _ (λ v q. (omega (arith, q.0, q.1, l), omega (arith, q.0))) c.add_symbol.ensures.value

pub returns-in_err-start-in-None : goal.returns-in_err-start-in-None
returns-in_err-start-in-None c =
    rw (err_is c.from_residual.result c.from_residual.ensures.1) (record { meets = λ room limit re ob y. rw c.in-None.is (lead_after (unknown _) (lead_stop (lead_first _ (c.in_err-start-in-None.ensures.meets room limit _ _ _ _)))); upper_bound = tt })

pub add_symbol_node-requires : goal.add_symbol_node-requires
add_symbol_node-requires c =
    let F = held {m = λ room. add_bytes room _} {m' = λ room. _} c.requires.3.2 (λ room. c.in_ok-start-in-None.ensures.meets room 0 _ _ _ _) in
    (omega (arith, c.requires.3.2), space_fits F, c.in_ok-start-in-None.ensures.n_bound.0)

pub returns-in_ok-start-in-None-clause-meets : goal.returns-in_ok-start-in-None-clause-meets
returns-in_ok-start-in-None-clause-meets c =
    let p = c.requires in
    let e = span_length c.args.input.now c.args.c.now c.args.n p.0 p.1 in
    λ room limit re ob y. rw c.in-None.is (lead_after (unknown _) (lead_after (lead_first _ (c.in_ok-start-in-None.ensures.meets room limit _ _ _ _)).led (c.add_symbol_node.ensures.by_index _ room limit _ re _ ob e)))
