-- The proof of check_class.
use native.Mathlib.Omega.{arith}
use Rattle.std.proofs.lemmas.Bool.Decides.{nat_tests}
use Rattle.definition.specs.Build.{takes_class}
use Rattle.call_check.proofs.Tests.{class_on, class_not}
use Rattle.call_check.proofs.check_class.Goals as goal

pub returns-in-4 : goal.returns-in-4
unfolding takes_class
returns-in-4 c =
    let a = c.args in
    λ L e f. class_on L a.nodes.now a.count a.h e f c.requires.0 (grind (arith, nat_tests))

pub returns-in-4-2 : goal.returns-in-4-2
unfolding takes_class
returns-in-4-2 c =
    let a = c.args in
    λ L e f. class_on L a.nodes.now a.count a.h e f c.requires.0 (grind (arith, nat_tests))

pub returns-in_default : goal.returns-in_default
unfolding takes_class
returns-in_default c =
    let a = c.args in
    λ L e f. class_not L a.nodes.now a.count a.h e f c.requires.0 (grind (arith, nat_tests))

pub returns-in_default-2 : goal.returns-in_default-2
unfolding takes_class
returns-in_default-2 c =
    let a = c.args in
    λ L e f. class_not L a.nodes.now a.count a.h e f c.requires.0 (grind (arith, nat_tests))
