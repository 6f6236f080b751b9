-- The proof of create_nil.
use mathlib.Core.Path.{refl}
use Rattle.definition.specs.Run.{pure, next, ◌>>=◌}
use Rattle.definition.specs.Node.{nil, words}
use Rattle.definition.specs.Build.{create_nil}
use Rattle.value_arena.specs.Calls.{plain}
use Rattle.value_arena.proofs.create_nil.Goals as goal

pub returns : goal.returns
unfolding create_nil plain words pure next ◌>>=◌
returns c = c.create_plain.ensures (pure tt) nil refl refl
