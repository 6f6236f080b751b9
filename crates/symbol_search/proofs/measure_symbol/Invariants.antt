-- What lasts in the loop of measure_symbol.
use Prim.Native.Nat.{ℕ}
use mathlib.Core.Path.{◌≡◌}
use mathlib.Core.List.{List}
use Rattle.definition.specs.State.{Room, State}
use Rattle.load_state.specs.declared.Progress.{Progress}
use Rattle.load_state.specs.Holds.{lent, by_list, Holds, span}
use Rattle.symbol_search.proofs.Turns.{Turned}
use Rattle.symbol_search.proofs.measure_symbol.Given as goal

abbrev pub invariant-loop-i : goal.invariant-loop-i
invariant-loop-i l =
    (l.total ≡ l.initial.total) ×
    ((room : Room) (s : State) (re ob : List ℕ) (k : Progress) → k.symbols ≡ l.count → Holds l.input room s (lent l.nodes re l.bytes (by_list l.symbols) ob) k → Turned s (span l.input l.at l.n) l.initial.total l.sum l.next l.i)
