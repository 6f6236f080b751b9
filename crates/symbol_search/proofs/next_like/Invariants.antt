-- What lasts in the loop of next_like.
use Prim.Native.Nat.{ℕ, ◌≤◌}
use mathlib.Core.Path.{◌≡◌}
use mathlib.Core.List.{List}
use lib.ListN.{drop}
use Rattle.definition.specs.State.{Room, State}
use Rattle.load_state.specs.declared.Progress.{Progress}
use Rattle.load_state.specs.Holds.{lent, by_list, Holds, find_listed}
use Rattle.symbol_search.specs.Search.{Ends}
use Rattle.symbol_search.proofs.next_like.Given as goal

abbrev pub invariant-loop-i : goal.invariant-loop-i
invariant-loop-i l =
    (l.from ≤ l.i) × (l.i ≤ l.count) ×
    ((room : Room) (s : State) (input re ob : List ℕ) (k : Progress) (name : List ℕ) → k.symbols ≡ l.count → Holds input room s (lent l.nodes re l.bytes (by_list l.symbols) ob) k → Ends name l.n l.last →
    find_listed s.bytes name s.nodes (drop l.from s.symbols) ≡ find_listed s.bytes name s.nodes (drop l.i s.symbols))
