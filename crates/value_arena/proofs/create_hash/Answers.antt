-- The proof of create_hash.
use Prim.Native.Nat.{◌/◌}
use mathlib.Core.Path.{refl, ◌∙◌}
use mathlib.Core.List.{[], ◌∷◌, ◌++◌}
use lib.ListN.{length}
use Rattle.definition.specs.Node.{hash, words, optional_node}
use Rattle.definition.specs.Build.{lent, check, check_handles, pair_slice, create_hash}
use Rattle.call_check.proofs.Tests.{handles_app, handles_stop}
use Rattle.value_arena.proofs.Building.{build_on, build_stop}
use Rattle.value_arena.proofs.create_hash.Goals as goal

pub returns : goal.returns
unfolding create_hash words
returns c =
    let a = c.args in
    let L = lent a.nodes.now a.references.now a.bytes.now a.counts in
    let ks = optional_node a.default in
    build_on (check (pair_slice a.pairs.now ∷ [])) _ L (c.in_ok-begin.ensures.by_index _ (c.wrong_pairs.ensures.by_index a.pairs.now refl))
    (build_on (check_handles (a.pairs.now ++ ks)) _ L (handles_app a.pairs.now ks L (c.in_ok-check_handles_at.ensures L refl) ∙ c.in_ok-check_optional.ensures L refl)
    (c.add_list.ensures a.bytes.now (λ b r. hash r (length a.pairs.now / 2) a.default 0) (λ b. refl)))

pub returns-in_err-check_optional : goal.returns-in_err-check_optional
unfolding create_hash
returns-in_err-check_optional c =
    let a = c.args in
    let L = lent a.nodes.now a.references.now a.bytes.now a.counts in
    let ks = optional_node a.default in
    build_on (check (pair_slice a.pairs.now ∷ [])) _ L (c.in_ok-begin.ensures.by_index _ (c.wrong_pairs.ensures.by_index a.pairs.now refl))
    (build_stop (check_handles (a.pairs.now ++ ks)) _ L _ c.from_residual-in_err-check_optional.ensures.1 (handles_app a.pairs.now ks L (c.in_ok-check_handles_at.ensures L refl) ∙ c.in_err-check_optional.ensures L refl))

pub returns-in_err-check_handles_at : goal.returns-in_err-check_handles_at
unfolding create_hash
returns-in_err-check_handles_at c =
    let a = c.args in
    let L = lent a.nodes.now a.references.now a.bytes.now a.counts in
    let ks = optional_node a.default in
    build_on (check (pair_slice a.pairs.now ∷ [])) _ L (c.in_ok-begin.ensures.by_index _ (c.wrong_pairs.ensures.by_index a.pairs.now refl))
    (build_stop (check_handles (a.pairs.now ++ ks)) _ L _ c.from_residual-in_err-check_handles_at.ensures.1 (handles_stop a.pairs.now ks L _ (c.in_err-check_handles_at.ensures L refl)))

pub returns-in_err-begin : goal.returns-in_err-begin
unfolding create_hash
returns-in_err-begin c =
    let a = c.args in
    let L = lent a.nodes.now a.references.now a.bytes.now a.counts in
    build_stop (check (pair_slice a.pairs.now ∷ [])) _ L _ c.from_residual.ensures.1 (c.in_err-begin.ensures.by_index _ (c.wrong_pairs.ensures.by_index a.pairs.now refl))
