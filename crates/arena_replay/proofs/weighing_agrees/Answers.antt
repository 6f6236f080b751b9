-- The proof of weighing_agrees.
use Rattle.arena_replay.proofs.Laws.{weighing_off_nan}
use Rattle.arena_replay.proofs.weighing_agrees.Goals as goal

pub same_double-requires : goal.same_double-requires
same_double-requires c =
    (weighing_off_nan _ _ _ c.wet_weight-r.ensures c.in-Ok.is).0

pub same_double-requires-then-same_double : goal.same_double-requires-then-same_double
same_double-requires-then-same_double c =
    (weighing_off_nan _ _ _ c.wet_weight-r.ensures c.in-Ok.is).1

pub same_double-requires-then-same_double-2 : goal.same_double-requires-then-same_double-2
same_double-requires-then-same_double-2 c =
    (weighing_off_nan _ _ _ c.wet_weight-r.ensures c.in-Ok.is).2
