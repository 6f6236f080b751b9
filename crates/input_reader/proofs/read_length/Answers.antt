-- The proof of read_length.
use native.Mathlib.Omega.{arith}
use Rattle.definition.specs.Load.{read_byte_string, read_count}
use Rattle.lists.specs.Runs.{err_is}
use Rattle.load_state.specs.Laws.{held, lead_first, lead_after, lead_stop}
use Rattle.load_state.specs.Needs.{at_inside}
use Rattle.input_reader.proofs.Input.{span_missing}
use Rattle.input_reader.proofs.read_length.Goals as goal

pub returns-in_err-n : goal.returns-in_err-n
unfolding read_byte_string
returns-in_err-n c =
    rw (err_is c.from_residual.result c.from_residual.ensures.1) (record { leads = λ room limit T. lead_stop (lead_first _ (c.in_err-n.ensures.meets room limit T)); result_in_bounds = tt })

pub overflow_sub-input : goal.overflow_sub-input
overflow_sub-input c =
    at_inside (held {m = λ room. read_count _} {m' = λ room. _} c.requires.held (λ room. c.in_ok-n.ensures.meets room 0 _))

pub returns-then-input-c : goal.returns-then-input-c
unfolding read_byte_string
returns-then-input-c c =
    record { leads = λ room limit T. lead_after (lead_first _ (c.in_ok-n.ensures.meets room limit T)).led (span_missing _ c.if-input-c.true); result_in_bounds = tt }

pub returns : goal.returns
unfolding read_byte_string
returns c =
    let r = c.in_ok-n.ensures in
    let inside = at_inside (held {m = λ room. read_count _} {m' = λ room. _} c.requires.held (λ room. r.meets room 0 _)) in
    record { leads = λ room limit T. lead_first _ (r.meets room limit T); result_in_bounds = (omega (arith, inside, c.if-input-c.false), r.upper_bound) }
