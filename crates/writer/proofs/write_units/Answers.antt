-- The proof of write_units.
use native.Mathlib.Omega.{arith}
use Prim.Native.Nat.{◌*◌}
use Rattle.definition.specs.Integer.{low_bytes}
use Rattle.lists.specs.Words.{length_low}
use Rattle.writer.proofs.Steps.{chunk_stored, no_chunk}
use Rattle.writer.proofs.write_units.Goals as goal

pub returns-then-at-output : goal.returns-then-at-output
returns-then-at-output c =
    let a = c.args in
    λ A room limit sc. chunk_stored (low_bytes (a.n * 2) a.m) _ (omega (arith, length_low (a.n * 2) a.m)) (omega (arith, c.if-k-output.true, c.if-at-output.true)) c.store_units.ensures

pub returns-else-at-output : goal.returns-else-at-output
returns-else-at-output c =
    let a = c.args in
    λ A room limit sc. no_chunk (low_bytes (a.n * 2) a.m) _ (length_low (a.n * 2) a.m) (omega (arith, c.if-k-output.true, c.if-at-output.false))

pub returns-else-k-output : goal.returns-else-k-output
returns-else-k-output c =
    let a = c.args in
    λ A room limit sc. no_chunk (low_bytes (a.n * 2) a.m) _ (length_low (a.n * 2) a.m) (omega (arith, c.if-k-output.false))
