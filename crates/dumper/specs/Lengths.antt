-- The lengths of slices that a dump takes.
use Rattle.std.specs.Prelude.{ℕ, ◌/◌, ◌≤◌, ◌||◌, [], ◌∷◌, ltb}
use Rattle.definition.specs.Node.{width}
use Rattle.definition.specs.Arena.{too_long, bad_nodes, lowest}
use Rattle.definition.specs.Slice.{BYTES, LIMIT, NODES, OUTPUT, REFERENCES, SCRATCH, greatest_length, greatest_limit}

-- the lowest wrong slice's number by the lengths lent, or 0
abbrev pub wrong : ℕ → ℕ → ℕ → ℕ → ℕ → ℕ → ℕ
wrong nodes references bytes output limit scratch = lowest ((NODES, bad_nodes nodes) ∷ (REFERENCES, too_long references) ∷ (BYTES, too_long bytes) ∷ (OUTPUT, too_long output) ∷ (LIMIT, ltb greatest_limit limit) ∷ (SCRATCH, too_long scratch || ltb scratch (nodes / width)) ∷ [])

-- lengths that a dump takes
pub record Allowed (nodes references bytes output scratch : ℕ) : Type 0 where
  pub nodes_small : nodes ≤ greatest_length
  pub references_small : references ≤ greatest_length
  pub bytes_small : bytes ≤ greatest_length
  pub output_small : output ≤ greatest_length
  pub scratch_small : scratch ≤ greatest_length
  pub scratch_fits : nodes / width ≤ scratch
