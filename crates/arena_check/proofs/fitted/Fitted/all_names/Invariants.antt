-- What lasts in the loop of all_names.
use Prim.Native.Nat.{◌*◌}
use mathlib.Core.Path.{◌≡◌}
use lib.ListN.{drop}
use Rattle.definition.specs.Arena.{Arena, all_names, firsts, range}
use Rattle.arena_check.specs.Held.{Held}
use Rattle.arena_check.proofs.fitted.Fitted.all_names.Given as goal

abbrev pub invariant-loop-i : goal.invariant-loop-i
invariant-loop-i l =
    let t = l.self in
    (A : Arena) → Held A t → all_names A (firsts (range t.references.now l.start (l.n * 2))) ≡ all_names A (firsts (drop (l.i * 2) (range t.references.now l.start (l.n * 2))))
