-- The proof of write_byte.
use Rattle.writer.specs.Laws.{went}
use Rattle.writer.proofs.Steps.{chunk, no_chunk}
use native.Mathlib.Omega.{arith}
use mathlib.Core.Path.{refl}
use mathlib.Core.List.{[], ◌∷◌}
use Rattle.writer.proofs.write_byte.Goals as goal

pub returns-then-at-output : goal.returns-then-at-output
returns-then-at-output c =
    λ A room limit sc. went (chunk (c.args.b ∷ []) 1 refl (omega (arith, c.if-at-output.true)))

pub returns : goal.returns
returns c =
    λ A room limit sc. no_chunk (c.args.b ∷ []) 1 refl (omega (arith, c.if-at-output.false))
