-- What lasts in the loop of find_symbol, and why it ends.
use Prim.Native.Nat.{ℕ, ◌-◌}
use mathlib.Core.Path.{◌≡◌}
use mathlib.Core.List.{List}
use lib.ListN.{drop}
use Rattle.definition.specs.State.{Room, State}
use Rattle.load_state.specs.declared.Progress.{Progress}
use Rattle.load_state.specs.Holds.{lent, by_list, Holds, find_listed, span}
use Rattle.symbol_search.proofs.find_symbol.Given as goal

abbrev pub invariant-loop-i : goal.invariant-loop-i
invariant-loop-i l =
    (room : Room) (s : State) (re ob : List ℕ) (k : Progress) → k.symbols ≡ l.count → Holds l.input room s (lent l.nodes re l.bytes (by_list l.symbols) ob) k →
    find_listed s.bytes (span l.input l.at l.n) s.nodes s.symbols ≡ find_listed s.bytes (span l.input l.at l.n) s.nodes (drop l.i s.symbols)

abbrev pub decreases-loop-i : goal.decreases-loop-i
decreases-loop-i l =
    l.count - l.i
