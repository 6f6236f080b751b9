-- The proof of create_text.
use mathlib.Core.Path.{refl}
use mathlib.Core.List.{[], ◌∷◌}
use Rattle.definition.specs.Build.{lent, check, byte_slice}
use Rattle.value_arena.specs.Calls.{text}
use Rattle.value_arena.proofs.Building.{build_on, build_stop}
use Rattle.value_arena.proofs.create_text.Goals as goal

pub returns : goal.returns
unfolding text
returns c =
    let a = c.args in
    let L = lent a.nodes.now a.references.now a.bytes.now a.counts in
    λ row e. build_on (check (byte_slice a.value.now ∷ [])) _ L (c.in_ok-begin.ensures.by_index _ (c.wrong_bytes.ensures a.value.now refl))
    (c.add_string.ensures a.references.now row e)

pub returns-in_err-begin : goal.returns-in_err-begin
unfolding text
returns-in_err-begin c =
    let a = c.args in
    let L = lent a.nodes.now a.references.now a.bytes.now a.counts in
    λ row e. build_stop (check (byte_slice a.value.now ∷ [])) _ L _ c.from_residual.ensures.1 (c.in_err-begin.ensures.by_index _ (c.wrong_bytes.ensures a.value.now refl))
