-- The proof of create_float.
use mathlib.Core.Path.{refl}
use lib.ListN.{length}
use Rattle.definition.specs.Node.{float, words}
use Rattle.definition.specs.Build.{create_float}
use Rattle.value_arena.specs.Calls.{text}
use Rattle.value_arena.proofs.create_float.Goals as goal

pub returns : goal.returns
unfolding create_float text words
returns c =
    let a = c.args in
    c.create_text.ensures (λ b r. float b (length a.value.now)) (λ l. refl)
