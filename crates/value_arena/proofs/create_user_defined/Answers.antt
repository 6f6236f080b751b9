-- The proof of create_user_defined.
use mathlib.Core.Path.{refl}
use mathlib.Core.List.{[], ◌∷◌}
use lib.ListN.{length}
use Rattle.definition.specs.Node.{user, absent, words}
use Rattle.definition.specs.Build.{lent, check, check_handles, check_names, byte_slice, create_user_defined}
use Rattle.value_arena.proofs.Building.{build_on, build_stop}
use Rattle.value_arena.proofs.create_user_defined.Goals as goal

pub returns : goal.returns
unfolding create_user_defined words
returns c =
    let a = c.args in
    let L = lent a.nodes.now a.references.now a.bytes.now a.counts in
    build_on (check (byte_slice a.value.now ∷ [])) _ L (c.in_ok-begin.ensures.by_index _ (c.wrong_bytes.ensures a.value.now refl))
    (build_on (check_handles (a.name ∷ [])) _ L (c.in_ok-check_handle.ensures.says L refl)
    (build_on (check_names (a.name ∷ [])) _ L (c.in_ok-check_name.ensures L refl refl)
    (c.add_string.ensures a.references.now (λ b r. user b (length a.value.now) a.name absent) (λ l. refl))))

pub returns-in_err-check_name : goal.returns-in_err-check_name
unfolding create_user_defined
returns-in_err-check_name c =
    let a = c.args in
    let L = lent a.nodes.now a.references.now a.bytes.now a.counts in
    build_on (check (byte_slice a.value.now ∷ [])) _ L (c.in_ok-begin.ensures.by_index _ (c.wrong_bytes.ensures a.value.now refl))
    (build_on (check_handles (a.name ∷ [])) _ L (c.in_ok-check_handle.ensures.says L refl)
    (build_stop (check_names (a.name ∷ [])) _ L _ c.from_residual-in_err-check_name.ensures.1 (c.in_err-check_name.ensures L refl refl)))

pub returns-in_err-check_handle : goal.returns-in_err-check_handle
unfolding create_user_defined
returns-in_err-check_handle c =
    let a = c.args in
    let L = lent a.nodes.now a.references.now a.bytes.now a.counts in
    build_on (check (byte_slice a.value.now ∷ [])) _ L (c.in_ok-begin.ensures.by_index _ (c.wrong_bytes.ensures a.value.now refl))
    (build_stop (check_handles (a.name ∷ [])) _ L _ c.from_residual-in_err-check_handle.ensures.1 (c.in_err-check_handle.ensures.says L refl))

pub returns-in_err-begin : goal.returns-in_err-begin
unfolding create_user_defined
returns-in_err-begin c =
    let a = c.args in
    let L = lent a.nodes.now a.references.now a.bytes.now a.counts in
    build_stop (check (byte_slice a.value.now ∷ [])) _ L _ c.from_residual.ensures.1 (c.in_err-begin.ensures.by_index _ (c.wrong_bytes.ensures a.value.now refl))
