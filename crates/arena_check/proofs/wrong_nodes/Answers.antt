-- The proof of wrong_nodes.
use native.Mathlib.Omega.{arith}
use Rattle.std.proofs.lemmas.Bool.Decides.{nat_tests}
use Rattle.definition.specs.Arena.{bad_nodes}
use Rattle.arena_check.proofs.wrong_nodes.Goals.{then-too_long, else-too_long}
use Rattle.arena_check.proofs.wrong_nodes.Goals as goal

pub returns-then-n-eq0 : goal.returns-then-n-eq0
unfolding bad_nodes
returns-then-n-eq0 c = elim c.if-too_long.branch [ then-too_long w ↦ grind (arith, nat_tests) | else-too_long w ↦ grind (arith, nat_tests) ]

pub returns-else-n-eq0 : goal.returns-else-n-eq0
unfolding bad_nodes
returns-else-n-eq0 c = grind (arith, nat_tests)
