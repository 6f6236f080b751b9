-- The proof of create_new_symbol.
use mathlib.Core.Path.{refl}
use lib.ListN.{length}
use Rattle.definition.specs.Node.{symbol, words}
use Rattle.definition.specs.Build.{create_new_symbol, add_symbol}
use Rattle.value_arena.specs.Calls.{text}
use Rattle.value_arena.proofs.create_new_symbol.Goals as goal

pub returns : goal.returns
unfolding create_new_symbol add_symbol text words
returns c =
    let a = c.args in
    c.create_text.ensures (λ b r. symbol b (length a.name.now)) (λ l. refl)
