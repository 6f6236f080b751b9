-- The proof of write_tagged.
use native.Mathlib.Omega.{arith}
use Prim.Native.Nat.{suc}
use mathlib.Core.Path.{sym, ap}
use mathlib.Core.List.{◌∷◌}
use Rattle.definition.specs.Integer.{integer_bytes}
use Rattle.writer.proofs.Steps.{tagged_stored, no_chunk}
use Rattle.writer.proofs.write_tagged.Goals as goal

pub returns-then-at-output : goal.returns-then-at-output
returns-then-at-output c =
    let a = c.args in
    let fixnum-size = c.fixnum_size-n in
    let if1 = c.if-n-output in
    let if2 = c.if-at-output in
    let store-tagged = c.store_tagged-c in
    λ A room limit sc. tagged_stored a.k (integer_bytes a.v) (omega (arith, fixnum-size.ensures, if1.true, if2.true)) store-tagged.ensures.output_after store-tagged.ensures.value

pub returns-else-at-output : goal.returns-else-at-output
returns-else-at-output c =
    let a = c.args in
    let fixnum-size = c.fixnum_size-n in
    let if1 = c.if-n-output in
    λ A room limit sc. no_chunk (a.k ∷ integer_bytes a.v) _ (ap suc (sym fixnum-size.ensures)) (omega (arith, if1.true, c.if-at-output.false))

pub returns-else-n-output : goal.returns-else-n-output
returns-else-n-output c =
    let a = c.args in
    let fixnum-size = c.fixnum_size-n in
    λ A room limit sc. no_chunk (a.k ∷ integer_bytes a.v) _ (ap suc (sym fixnum-size.ensures)) (omega (arith, c.if-n-output.false))
