-- The proof of write_fixnum.
use native.Mathlib.Omega.{arith}
use mathlib.Core.Path.{sym}
use Rattle.definition.specs.Integer.{integer_bytes}
use Rattle.writer.proofs.Steps.{chunk_stored, no_chunk}
use Rattle.writer.proofs.write_fixnum.Goals as goal

pub returns-then-at-output : goal.returns-then-at-output
returns-then-at-output c =
    let a = c.args in
    let fixnum-size = c.fixnum_size-n in
    let if1 = c.if-n-output in
    let if2 = c.if-at-output in
    let store-fixnum = c.store_fixnum-c in
    λ A room limit sc. chunk_stored (integer_bytes a.v) _ (sym fixnum-size.ensures) (omega (arith, if1.true, if2.true)) store-fixnum.ensures.output_after

pub returns-else-at-output : goal.returns-else-at-output
returns-else-at-output c =
    let a = c.args in
    let fixnum-size = c.fixnum_size-n in
    let if1 = c.if-n-output in
    λ A room limit sc. no_chunk (integer_bytes a.v) _ (sym fixnum-size.ensures) (omega (arith, if1.true, c.if-at-output.false))

pub returns-else-n-output : goal.returns-else-n-output
returns-else-n-output c =
    let a = c.args in
    let fixnum-size = c.fixnum_size-n in
    λ A room limit sc. no_chunk (integer_bytes a.v) _ (sym fixnum-size.ensures) (omega (arith, c.if-n-output.false))
