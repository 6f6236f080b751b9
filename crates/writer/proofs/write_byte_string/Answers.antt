-- The proof of write_byte_string.
use native.Mathlib.Omega.{arith}
use mathlib.Core.Path.{refl}
use lib.ListN.{take, drop}
use Rattle.definition.specs.Integer.{integer_bytes}
use Rattle.writer.specs.Laws.{part_stop, part_after}
use Rattle.writer.proofs.Names.{string_stored, string_long, string_full}
use Rattle.writer.proofs.write_byte_string.Goals as goal

pub returns-in_err-write_fixnum : goal.returns-in_err-write_fixnum
returns-in_err-write_fixnum c =
    let a = c.args in
    λ A room limit sc. part_stop (integer_bytes a.n) (take a.n (drop a.start a.bytes.now)) c.from_residual.ensures (c.in_err-write_fixnum.ensures A room limit sc)

pub returns-then-at-output : goal.returns-then-at-output
returns-then-at-output c =
    let a = c.args in
    let pre = c.requires in
    let if2 = c.if-count-output in
    let if3 = c.if-at-output in
    λ A room limit sc. part_after (integer_bytes a.n) (take a.n (drop a.start a.bytes.now)) (c.in_ok-write_fixnum.ensures A room limit sc) (string_stored a.bytes.now a.start a.n _ refl pre refl (omega arith) if2.true if3.true c.copy_to.ensures)

pub returns-else-at-output : goal.returns-else-at-output
returns-else-at-output c =
    let a = c.args in
    let pre = c.requires in
    let if2 = c.if-count-output in
    λ A room limit sc. part_after (integer_bytes a.n) (take a.n (drop a.start a.bytes.now)) (c.in_ok-write_fixnum.ensures A room limit sc) (string_full a.bytes.now a.start a.n _ refl pre if2.true c.if-at-output.false)

pub returns-else-count-output : goal.returns-else-count-output
returns-else-count-output c =
    let a = c.args in
    let pre = c.requires in
    λ A room limit sc. part_after (integer_bytes a.n) (take a.n (drop a.start a.bytes.now)) (c.in_ok-write_fixnum.ensures A room limit sc) (string_long a.bytes.now a.start a.n _ refl pre c.if-count-output.false)
