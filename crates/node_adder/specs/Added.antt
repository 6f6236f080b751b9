-- A list's entries, and a symbol found.
use Rattle.std.specs.Prelude.{ℕ, ◌+◌, ◌/◌, ◌≤◌, Bool, true, false, ◌≡◌, length, Option, Some, None}
use Rattle.definition.specs.Node.{symbol}
use Rattle.definition.specs.Arena.{Arena, node}
use Rattle.std.proofs.Math.Option as M

-- how many entries m words are
abbrev pub entries : Bool → ℕ → ℕ
entries true m = m / 2
entries false m = m

-- the node found, as the definition answers it
abbrev pub found : Option ℕ → M.Option ℕ
found (Some i) = M.some i
found None = M.none

-- every symbol's bytes are among those stored
abbrev pub SymbolsIn : Arena → Type 0
SymbolsIn A = (i s l : ℕ) → node A i ≡ symbol s l → s + l ≤ length A.bytes
