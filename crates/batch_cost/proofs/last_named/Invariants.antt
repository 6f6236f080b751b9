-- What lasts in the loop of last_named.
use mathlib.Core.Path.{◌≡◌}
use lib.ListN.{take}
use Rattle.batch_cost.specs.Tables.{name_at, lines_at, last}
use Rattle.batch_cost.proofs.last_named.Given as goal

abbrev pub invariant-loop-i : goal.invariant-loop-i
invariant-loop-i l =
    last (name_at l.nodes l.bytes l.h) (lines_at l.nodes l.bytes l.entries) ≡ last (name_at l.nodes l.bytes l.h) (take l.i (lines_at l.nodes l.bytes l.entries))
