-- The proof of read_header.
use Rattle.lists.specs.Runs.{err_is}
use Rattle.input_reader.proofs.Input.{header_read, header_older, header_stop}
use Rattle.input_reader.proofs.read_header.Goals as goal

pub returns-in_err-form : goal.returns-in_err-form
returns-in_err-form c =
    λ room limit T. rw (err_is c.from_residual.result c.from_residual.ensures.1) (header_stop c.in_err-form.ensures.reads)

pub returns-then-form : goal.returns-then-form
returns-then-form c =
    let k = c.in_ok-form.ensures in
    λ room limit T. header_read k.at_in_bounds (rw c.if-form.true at k.reads)

pub returns : goal.returns
returns c =
    let k = c.in_ok-form.ensures in
    λ room limit T. header_older k.at_in_bounds (rw c.if-form.false at k.reads)
