-- What lasts in the loop of sum_pairs.
use Prim.Native.Nat.{◌*◌, ◌≤◌}
use mathlib.Core.Path.{◌≡◌}
use lib.ListN.{drop}
use Rattle.definition.specs.Build.{Lent}
use Rattle.definition.specs.Cost.{surviving, sum}
use Rattle.batch_cost.specs.Tables.{lines_at}
use Rattle.batch_cost.proofs.sum_pairs.Given as goal

abbrev pub invariant-loop-i : goal.invariant-loop-i
invariant-loop-i l =
    (l.cents ≤ l.i * 4611686014132421) × ((L : Lent) → sum (surviving (lines_at l.nodes l.bytes l.prices)) 0 (surviving (lines_at l.nodes l.bytes l.recipe)) L ≡ sum (surviving (lines_at l.nodes l.bytes l.prices)) l.cents (surviving (drop l.i (lines_at l.nodes l.bytes l.recipe))) L)
