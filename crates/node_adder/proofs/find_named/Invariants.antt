-- What lasts in the loop of find_named.
use mathlib.Core.Path.{◌≡◌}
use lib.ListN.{drop, take}
use Rattle.definition.specs.Node.{rows}
use Rattle.definition.specs.Arena.{Arena, find_symbol}
use Rattle.node_adder.specs.Added.{SymbolsIn}
use Rattle.node_adder.proofs.find_named.Given as goal

abbrev pub invariant-loop-i : goal.invariant-loop-i
invariant-loop-i l =
    (A : Arena) → A.nodes ≡ rows l.count l.nodes → A.bytes ≡ take l.stored l.bytes → SymbolsIn A → find_symbol A.bytes l.name A.nodes 0 ≡ find_symbol A.bytes l.name (drop l.i A.nodes) l.i
