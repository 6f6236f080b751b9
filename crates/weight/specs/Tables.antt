-- A node in a table.
use Rattle.std.specs.Prelude.{ℕ, ◌+◌, ◌*◌, ◌≤◌, ◌≡◌, List, length, get_or, take}
use Rattle.definition.specs.Node.{width, row, START, LENGTH}
use Rattle.definition.specs.Arena.{node}
use Rattle.definition.specs.Build.{Lent, held, words_at}

-- node h is in the table, and a Float's bytes are among those stored
abbrev pub Inside : List ℕ → List ℕ → ℕ → ℕ → Type 0
Inside nodes bytes stored h =
    (h * width + width ≤ length nodes)
    × (get_or nodes (h * width) 0 ≡ 9 → get_or nodes (h * width + START) 0 + get_or nodes (h * width + LENGTH) 0 ≤ stored)
    × (stored ≤ length bytes)

-- what is lent has these bytes stored, and node h as this table has it
abbrev pub Has : Lent → List ℕ → List ℕ → ℕ → ℕ → Type 0
Has L nodes bytes stored h = ((held L).bytes ≡ take stored bytes) × (node (held L) h ≡ row (words_at nodes h))
