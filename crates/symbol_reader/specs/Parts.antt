-- A name after its search.
use Rattle.std.specs.Prelude.{ℕ, List, Option}
use Rattle.definition.specs.Run.{◌>>=◌}
use Rattle.definition.specs.State.{Room, Reader}
use Rattle.definition.specs.Load.{read_bytes, intern, intern_as, add_symbol}
use Rattle.symbol_search.specs.Search.{answered}

-- a name of n bytes, put on the symbol list; the same after its search, which answered r
abbrev pub read_name : List ℕ → Room → ℕ → Reader ℕ
read_name input room n = read_bytes input n >>= λ name. intern room name >>= add_symbol room

abbrev pub add_name : Room → List ℕ → Option ℕ → Reader ℕ
add_name room name r = intern_as room name (answered r) >>= add_symbol room
