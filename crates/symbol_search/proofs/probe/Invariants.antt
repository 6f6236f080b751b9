-- What lasts in the loop of probe.
use Prim.Native.Nat.{ℕ, ◌+◌, ◌%◌, ◌≤◌}
use mathlib.Core.Path.{◌≡◌}
use mathlib.Core.List.{List}
use lib.ListN.{length}
use Rattle.definition.specs.State.{Room, State}
use Rattle.load_state.specs.declared.Progress.{Progress}
use Rattle.load_state.specs.Holds.{lent, by_buckets, Holds, span}
use Rattle.symbol_search.specs.Search.{Passing}
use Rattle.symbol_search.proofs.probe.Given as goal

abbrev pub invariant-loop-p : goal.invariant-loop-p
invariant-loop-p l =
    (l.p ≤ length l.buckets) × (l.i ≡ (l.start + l.p) % length l.buckets) × ((room : Room) (s : State) (re sy ob : List ℕ) (k : Progress) → Holds l.input room s (lent l.nodes re l.bytes (by_buckets sy l.buckets) ob) k → Passing s (span l.input l.at l.n) l.buckets l.start l.p)
