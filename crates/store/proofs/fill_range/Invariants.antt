-- What lasts in the loop of fill_range.
use mathlib.Core.Path.{◌≡◌}
use mathlib.Core.List.{◌++◌}
use lib.ListN.{drop, replicate}
use Rattle.store.proofs.fill_range.Given as goal

abbrev pub invariant-loop-x : goal.invariant-loop-x
invariant-loop-x g l =
    l.x-items ≡ replicate l.x-index l.value ++ drop l.x-index l.initial.x-items
