-- The whole of a dump's writing: the header and the root.
use Rattle.std.specs.Prelude.{ℕ, [], ◌∷◌}
use Rattle.definition.specs.Arena.{Arena}
use Rattle.definition.specs.Dump.{Writer, ◌>>◌, write, write_value}

abbrev pub whole : ℕ → Arena → ℕ → Writer
whole room A limit = write room (4 ∷ 8 ∷ []) >> write_value room A limit limit A.root
