-- What lasts in the loop of check_pair_names.
use Prim.Native.Nat.{◌*◌}
use mathlib.Core.Path.{◌≡◌}
use lib.ListN.{drop}
use Rattle.definition.specs.Arena.{firsts}
use Rattle.definition.specs.Build.{Lent, check_names}
use Rattle.call_check.proofs.check_pair_names.Given as goal

abbrev pub invariant-loop-i : goal.invariant-loop-i
invariant-loop-i l =
    (L : Lent) → L.tables.nodes ≡ l.nodes → L.counts.nodes ≡ l.count → check_names (firsts l.pairs) L ≡ check_names (firsts (drop (l.i * 2) l.pairs)) L
