-- The header and the root value.
use Rattle.std.specs.Prelude.{ℕ, List}
use Rattle.definition.specs.Run.{◌>>=◌}
use Rattle.definition.specs.State.{Room, Reader}
use Rattle.definition.specs.Load.{read_header, read_value}

-- what load does, from the first byte on
abbrev pub whole : List ℕ → Room → ℕ → Reader ℕ
whole input room limit = read_header input >>= λ _. read_value input room limit limit
