-- The proof of read_byte_string.
use borrow.Author.Rules.{rules}
use native.Mathlib.Omega.{arith}
use Rattle.definition.specs.Load.{read_byte_string}
use Rattle.lists.specs.Runs.{err_is}
use Rattle.load_state.specs.Laws.{held, lead_after, lead_stop}
use Rattle.load_state.specs.Needs.{at_inside}
use Rattle.input_reader.proofs.Input.{span_read}
use Rattle.input_reader.proofs.read_byte_string.Goals as goal

pub returns-in_err-n : goal.returns-in_err-n
returns-in_err-n c =
    rw (err_is c.from_residual.result c.from_residual.ensures.1) (record { spans = λ room limit T. lead_stop (c.in_err-n.ensures.leads room limit T); upper_bound = tt })

pub overflow_add-c : goal.overflow_add-c
overflow_add-c c =
    let r = c.in_ok-n.ensures.result_in_bounds in
    search rules

pub returns : goal.returns
returns c =
    let r = c.in_ok-n.ensures in
    let inside = at_inside (held {m = λ room. read_byte_string _} {m' = λ room. _} c.requires.held (λ room. r.leads room 0 _)) in
    let l = r.result_in_bounds in
    record { spans = λ room limit T. lead_after (r.leads room limit T).led (span_read _ inside (omega (arith, l))); upper_bound = (omega arith, omega (arith, l), l.1) }
