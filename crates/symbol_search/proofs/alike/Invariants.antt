-- What lasts in the loop of alike.
use Prim.Native.Nat.{◌+◌, ◌≤◌}
use mathlib.Core.Path.{◌≡◌}
use lib.ListN.{take, drop}
use Rattle.definition.specs.Node.{equal}
use Rattle.definition.specs.Arena.{bytes_compared}
use Rattle.symbol_search.proofs.alike.Given as goal

abbrev pub invariant-loop-i : goal.invariant-loop-i
invariant-loop-i l =
    (l.i ≤ l.n) × (equal (take l.n (drop l.from l.input)) (take l.n (drop l.to l.bytes)) ≡ equal (drop l.i (take l.n (drop l.from l.input))) (drop l.i (take l.n (drop l.to l.bytes)))) × (bytes_compared (take l.n (drop l.from l.input)) (take l.n (drop l.to l.bytes)) ≡ l.i + bytes_compared (drop l.i (take l.n (drop l.from l.input))) (drop l.i (take l.n (drop l.to l.bytes))))
