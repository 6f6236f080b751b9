-- The proof of check_name.
use mathlib.Core.Path.{sym, ◌∙◌}
use mathlib.Core.List.{[]}
use Rattle.definition.specs.Build.{held}
use Rattle.call_check.proofs.Tests.{name_on, name_not, no_names, held_nodes}
use Rattle.call_check.proofs.check_name.Goals as goal

pub returns-then-is_name_at : goal.returns-then-is_name_at
returns-then-is_name_at c =
    let a = c.args in
    λ L e f. name_on L a.h [] (sym c.if-is_name_at.true ∙ c.is_name_at.ensures (held L) (held_nodes L _ _ e f)) ∙ no_names L

pub returns-else-is_name_at : goal.returns-else-is_name_at
returns-else-is_name_at c =
    let a = c.args in
    λ L e f. name_not L a.h [] (sym c.if-is_name_at.false ∙ c.is_name_at.ensures (held L) (held_nodes L _ _ e f))
