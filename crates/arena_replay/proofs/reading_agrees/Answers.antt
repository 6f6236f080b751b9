-- The proof of reading_agrees.
use mathlib.Core.Path.{ap, ◌∙◌}
use Rattle.std.specs.Prelude.{Ok}
use Rattle.arena_replay.proofs.Laws.{reading_off_nan}
use Rattle.arena_replay.proofs.reading_agrees.Goals as goal

pub same_double-requires : goal.same_double-requires
same_double-requires c =
    reading_off_nan _ _ c.reading-r.ensures (c.in-Ok.is ∙ ap Ok c.in-Double.is)
