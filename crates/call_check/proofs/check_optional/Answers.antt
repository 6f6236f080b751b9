-- The proof of check_optional.
use Prim.Native.Nat.{◌-◌}
use mathlib.Core.List.{[], ◌∷◌}
use Rattle.definition.specs.Node.{optional_node}
use Rattle.definition.specs.Build.{check_handles}
use Rattle.call_check.proofs.Answers.{says_on}
use Rattle.call_check.proofs.Tests.{optional_none, optional_some, no_handles}
use Rattle.call_check.proofs.check_optional.Goals as goal

pub returns-then-word-eq0 : goal.returns-then-word-eq0
returns-then-word-eq0 c =
    let a = c.args in
    λ L e. optional_none check_handles L a.word (no_handles L) c.if-word-eq0.true

pub returns : goal.returns
returns c =
    let w = c.args.word in
    λ L e. says_on c.check_handle.result (check_handles (optional_node w)) (check_handles ((w - 1) ∷ [])) L (optional_some check_handles L w c.if-word-eq0.false) (c.check_handle.ensures.says L e)
