-- The proof of create_string.
use mathlib.Core.Path.{refl}
use lib.ListN.{length}
use Rattle.definition.specs.Node.{string, absent, words}
use Rattle.definition.specs.Build.{create_string}
use Rattle.value_arena.specs.Calls.{text}
use Rattle.value_arena.proofs.create_string.Goals as goal

pub returns : goal.returns
unfolding create_string text words
returns c =
    let a = c.args in
    c.create_text.ensures (λ b r. string b (length a.value.now) absent 0) (λ l. refl)
