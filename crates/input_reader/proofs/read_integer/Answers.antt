-- The proof of read_integer.
use native.Mathlib.Omega.{arith}
use mathlib.Core.Path.{sym, ◌∙◌}
use Rattle.lists.specs.Runs.{err_is}
use Rattle.input_reader.proofs.Input.{integer_whole, integer_other, integer_against, integer_cut, integer_gone}
use Rattle.input_reader.proofs.read_integer.Goals as goal

pub returns-then-input-at : goal.returns-then-input-at
returns-then-input-at c =
    record { meets = λ room limit T. integer_gone c.if-input-at.true; fits = tt }

pub returns-then-input-at-2 : goal.returns-then-input-at-2
returns-then-input-at-2 c =
    record { meets = λ room limit T. integer_cut c.if-input-at.false (omega (arith, c.integer_size-n.ensures)); fits = tt }

pub returns-then-in_form : goal.returns-then-in_form
returns-then-in_form c =
    let n = c.integer_size-n.ensures in
    let w = c.integer_at-w.ensures in
    record { meets = λ room limit T. rw n (integer_whole _ (omega (arith, n, c.if-input-at-2.false)) w.value (sym c.if-in_form.true ∙ c.in_form.ensures _ w.value w.at_value) (omega arith)); fits = omega arith }

pub returns-in_err-check_sign : goal.returns-in_err-check_sign
returns-in_err-check_sign c =
    let n = c.integer_size-n.ensures in
    rw (err_is c.from_residual.result c.from_residual.ensures.1) (record { meets = λ room limit T. integer_against _ (omega (arith, n, c.if-input-at-2.false)) c.integer_at-w.ensures.value c.in_err-check_sign.ensures; fits = tt })

pub returns : goal.returns
returns c =
    let n = c.integer_size-n.ensures in
    let w = c.integer_at-w.ensures in
    record { meets = λ room limit T. rw n (integer_other _ (omega (arith, n, c.if-input-at-2.false)) w.value (sym c.if-in_form.false ∙ c.in_form.ensures _ w.value w.at_value) c.in_ok-check_sign.ensures); fits = omega arith }
