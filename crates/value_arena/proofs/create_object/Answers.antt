-- The proof of create_object.
use Prim.Native.Nat.{◌/◌}
use mathlib.Core.Path.{refl, ◌∙◌}
use mathlib.Core.List.{[], ◌∷◌}
use lib.ListN.{length}
use Rattle.definition.specs.Node.{object, words}
use Rattle.definition.specs.Arena.{firsts}
use Rattle.definition.specs.Build.{lent, check, check_handles, check_names, pair_slice, create_object}
use Rattle.call_check.proofs.Tests.{handles_app, handles_stop}
use Rattle.value_arena.proofs.Building.{build_on, build_stop}
use Rattle.value_arena.proofs.create_object.Goals as goal

pub check_object_names-requires : goal.check_object_names-requires
check_object_names-requires c =
    let f = c.in_ok-begin.ensures.fits_if in
    (f.fits.nodes_fit, c.wrong_pairs.ensures.n_value f.none_more)

pub returns : goal.returns
unfolding create_object words
returns c =
    let a = c.args in
    let L = lent a.nodes.now a.references.now a.bytes.now a.counts in
    build_on (check (pair_slice a.pairs.now ∷ [])) _ L (c.in_ok-begin.ensures.by_index _ (c.wrong_pairs.ensures.by_index a.pairs.now refl))
    (build_on (check_handles (a.name ∷ a.pairs.now)) _ L (handles_app (a.name ∷ []) a.pairs.now L (c.in_ok-check_handle.ensures.says L refl) ∙ c.in_ok-check_handles_at.ensures L refl)
    (build_on (check_names (a.name ∷ firsts a.pairs.now)) _ L (c.in_ok-check_object_names.ensures L refl refl)
    (c.add_list.ensures a.bytes.now (λ b r. object r (length a.pairs.now / 2) a.name) (λ b. refl))))

pub returns-in_err-check_object_names : goal.returns-in_err-check_object_names
unfolding create_object
returns-in_err-check_object_names c =
    let a = c.args in
    let L = lent a.nodes.now a.references.now a.bytes.now a.counts in
    build_on (check (pair_slice a.pairs.now ∷ [])) _ L (c.in_ok-begin.ensures.by_index _ (c.wrong_pairs.ensures.by_index a.pairs.now refl))
    (build_on (check_handles (a.name ∷ a.pairs.now)) _ L (handles_app (a.name ∷ []) a.pairs.now L (c.in_ok-check_handle.ensures.says L refl) ∙ c.in_ok-check_handles_at.ensures L refl)
    (build_stop (check_names (a.name ∷ firsts a.pairs.now)) _ L _ c.from_residual-in_err-check_object_names.ensures.1 (c.in_err-check_object_names.ensures L refl refl)))

pub returns-in_err-check_handles_at : goal.returns-in_err-check_handles_at
unfolding create_object
returns-in_err-check_handles_at c =
    let a = c.args in
    let L = lent a.nodes.now a.references.now a.bytes.now a.counts in
    build_on (check (pair_slice a.pairs.now ∷ [])) _ L (c.in_ok-begin.ensures.by_index _ (c.wrong_pairs.ensures.by_index a.pairs.now refl))
    (build_stop (check_handles (a.name ∷ a.pairs.now)) _ L _ c.from_residual-in_err-check_handles_at.ensures.1 (handles_app (a.name ∷ []) a.pairs.now L (c.in_ok-check_handle.ensures.says L refl) ∙ c.in_err-check_handles_at.ensures L refl))

pub returns-in_err-check_handle : goal.returns-in_err-check_handle
unfolding create_object
returns-in_err-check_handle c =
    let a = c.args in
    let L = lent a.nodes.now a.references.now a.bytes.now a.counts in
    build_on (check (pair_slice a.pairs.now ∷ [])) _ L (c.in_ok-begin.ensures.by_index _ (c.wrong_pairs.ensures.by_index a.pairs.now refl))
    (build_stop (check_handles (a.name ∷ a.pairs.now)) _ L _ c.from_residual-in_err-check_handle.ensures.1 (handles_stop (a.name ∷ []) a.pairs.now L _ (c.in_err-check_handle.ensures.says L refl)))

pub returns-in_err-begin : goal.returns-in_err-begin
unfolding create_object
returns-in_err-begin c =
    let a = c.args in
    let L = lent a.nodes.now a.references.now a.bytes.now a.counts in
    build_stop (check (pair_slice a.pairs.now ∷ [])) _ L _ c.from_residual.ensures.1 (c.in_err-begin.ensures.by_index _ (c.wrong_pairs.ensures.by_index a.pairs.now refl))
