-- The proof of check_class_name.
use Prim.Native.Nat.{◌-◌}
use mathlib.Core.List.{[], ◌∷◌}
use Rattle.definition.specs.Node.{optional_node}
use Rattle.definition.specs.Build.{check_names}
use Rattle.call_check.proofs.Answers.{says_on}
use Rattle.call_check.proofs.Tests.{optional_none, optional_some, no_names}
use Rattle.call_check.proofs.check_class_name.Goals as goal

pub returns-then-class-eq0 : goal.returns-then-class-eq0
returns-then-class-eq0 c =
    let a = c.args in
    λ L e f. optional_none check_names L a.class (no_names L) c.if-class-eq0.true

pub returns : goal.returns
returns c =
    let w = c.args.class in
    λ L e f. says_on c.check_name.result (check_names (optional_node w)) (check_names ((w - 1) ∷ [])) L (optional_some check_names L w c.if-class-eq0.false) (c.check_name.ensures L e f)
