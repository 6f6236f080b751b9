-- The proof of create_bool.
use mathlib.Core.Path.{refl}
use Rattle.definition.specs.Run.{pure, next, ◌>>=◌}
use Rattle.definition.specs.Node.{bool, words}
use Rattle.definition.specs.Build.{create_bool}
use Rattle.value_arena.specs.Calls.{plain}
use Rattle.value_arena.proofs.Building.{bool_word}
use Rattle.value_arena.proofs.create_bool.Goals as goal

pub returns : goal.returns
unfolding create_bool plain words pure next ◌>>=◌
returns c = c.create_plain.ensures (pure tt) (bool c.args.value) refl (bool_word c.args.value)
