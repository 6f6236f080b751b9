-- The proof of create_array.
use mathlib.Core.Path.{refl}
use mathlib.Core.List.{[], ◌∷◌}
use lib.ListN.{length}
use Rattle.definition.specs.Node.{array, words}
use Rattle.definition.specs.Build.{lent, check, check_handles, member_slice, create_array}
use Rattle.value_arena.proofs.Building.{build_on, build_stop}
use Rattle.value_arena.proofs.create_array.Goals as goal

pub returns : goal.returns
unfolding create_array words
returns c =
    let a = c.args in
    let L = lent a.nodes.now a.references.now a.bytes.now a.counts in
    build_on (check (member_slice a.members.now ∷ [])) _ L (c.in_ok-begin.ensures.by_index _ (c.wrong_members.ensures a.members.now refl))
    (build_on (check_handles a.members.now) _ L (c.in_ok-check_handles_at.ensures L refl)
    (c.add_list.ensures a.bytes.now (λ b r. array r (length a.members.now) 0) (λ b. refl)))

pub returns-in_err-check_handles_at : goal.returns-in_err-check_handles_at
unfolding create_array
returns-in_err-check_handles_at c =
    let a = c.args in
    let L = lent a.nodes.now a.references.now a.bytes.now a.counts in
    build_on (check (member_slice a.members.now ∷ [])) _ L (c.in_ok-begin.ensures.by_index _ (c.wrong_members.ensures a.members.now refl))
    (build_stop (check_handles a.members.now) _ L _ c.from_residual-in_err-check_handles_at.ensures.1 (c.in_err-check_handles_at.ensures L refl))

pub returns-in_err-begin : goal.returns-in_err-begin
unfolding create_array
returns-in_err-begin c =
    let a = c.args in
    let L = lent a.nodes.now a.references.now a.bytes.now a.counts in
    build_stop (check (member_slice a.members.now ∷ [])) _ L _ c.from_residual.ensures.1 (c.in_err-begin.ensures.by_index _ (c.wrong_members.ensures a.members.now refl))
