-- What lasts in the loop of check_handles_at.
use mathlib.Core.Path.{◌≡◌}
use lib.ListN.{drop}
use Rattle.definition.specs.Build.{Lent, check_handles}
use Rattle.call_check.proofs.check_handles_at.Given as goal

abbrev pub invariant-loop-h : goal.invariant-loop-h
invariant-loop-h l =
    (L : Lent) → L.counts.nodes ≡ l.count → check_handles l.handles L ≡ check_handles (drop l.h-index l.handles) L
