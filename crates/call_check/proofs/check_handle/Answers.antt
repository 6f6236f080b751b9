-- The proof of check_handle.
use mathlib.Core.Path.{◌∙◌}
use mathlib.Core.List.{[]}
use Rattle.call_check.proofs.Tests.{handle_on, handle_not, no_handles}
use Rattle.call_check.proofs.check_handle.Goals as goal

pub returns-then-h-count : goal.returns-then-h-count
returns-then-h-count c =
    let a = c.args in
    let l = c.if-h-count.true in
    record { says = λ L e. handle_on L a.count a.h [] e l ∙ no_handles L; below = l }

pub returns-else-h-count : goal.returns-else-h-count
returns-else-h-count c =
    let a = c.args in
    record { says = λ L e. handle_not L a.count a.h [] e c.if-h-count.false; below = tt }
