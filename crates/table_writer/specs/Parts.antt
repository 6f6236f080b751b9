-- What is added as one, of the definition's steps.
use Rattle.std.specs.Prelude.{ℕ}
use Rattle.definition.specs.Run.{◌>>=◌}
use Rattle.definition.specs.Node.{symbol}
use Rattle.definition.specs.State.{Room, Reader}
use Rattle.definition.specs.Load.{add_node, add_symbol}

-- a symbol's node, put on the symbol list
abbrev pub new_symbol : Room → ℕ → ℕ → Reader ℕ
new_symbol room start n = add_node room (symbol start n) >>= add_symbol room
