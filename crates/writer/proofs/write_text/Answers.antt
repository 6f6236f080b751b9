-- The proof of write_text.
use mathlib.Core.List.{[], ◌∷◌}
use Rattle.writer.specs.Laws.{part_stop, part_after}
use Rattle.writer.proofs.write_text.Goals as goal

pub returns-in_err-write_byte : goal.returns-in_err-write_byte
returns-in_err-write_byte c = λ A room limit sc. part_stop (c.args.k ∷ []) _ c.from_residual.ensures (c.in_err-write_byte.ensures A room limit sc)

pub returns : goal.returns
returns c = λ A room limit sc. part_after (c.args.k ∷ []) _ (c.in_ok-write_byte.ensures A room limit sc) (c.write_byte_string.ensures A room limit sc)
