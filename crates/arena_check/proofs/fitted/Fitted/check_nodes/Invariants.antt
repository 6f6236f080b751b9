-- What lasts in the loop of check_nodes.
use Prim.Native.Nat.{◌-◌, ◌*◌}
use mathlib.Core.Path.{◌≡◌}
use lib.ListN.{drop}
use Rattle.definition.specs.Arena.{Arena, faulty}
use Rattle.definition.specs.Node.{width}
use Rattle.arena_check.specs.Held.{Held}
use Rattle.arena_check.proofs.fitted.Fitted.check_nodes.Given as goal

abbrev pub invariant-loop-i : goal.invariant-loop-i
invariant-loop-i l =
    (A : Arena) → Held A l.self → faulty A l.self.count 0 l.self.nodes.now ≡ faulty A (l.self.count - l.i) l.i (drop (l.i * width) l.self.nodes.now)
