-- The proof of check_object_names.
use mathlib.Core.List.{◌∷◌}
use Rattle.definition.specs.Arena.{firsts}
use Rattle.definition.specs.Build.{check_names}
use Rattle.lists.specs.Runs.{err_is}
use Rattle.call_check.proofs.Answers.{says_on}
use Rattle.call_check.proofs.Tests.{names_then, names_stop}
use Rattle.call_check.proofs.check_object_names.Goals as goal

pub returns : goal.returns
returns c =
    let a = c.args in
    let names = firsts a.pairs.now in
    λ L e f. says_on c.check_pair_names.result (check_names (a.name ∷ names)) (check_names names) L (names_then L a.name names (c.in_ok-check_name.ensures L e f)) (c.check_pair_names.ensures L e f)

pub returns-in_err-check_name : goal.returns-in_err-check_name
returns-in_err-check_name c =
    let a = c.args in
    λ L e f. rw (err_is c.from_residual.result c.from_residual.ensures.1) (names_stop L a.name (firsts a.pairs.now) _ (c.in_err-check_name.ensures L e f))
