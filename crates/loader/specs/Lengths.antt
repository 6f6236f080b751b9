-- The lengths lent.
use Rattle.std.specs.Prelude.{ℕ, ◌*◌, ◌/◌, ◌≤◌, ◌≡◌, Bool, false, [], ◌∷◌, ltb}
use Rattle.definition.specs.Arena.{lowest, bad_nodes, too_long}
use Rattle.definition.specs.Node.{width}
use Rattle.definition.specs.Slice.{greatest_length}
use Rattle.definition.specs.Slice as Slice

-- the lowest wrong slice's number, or 0; of the bucket table it is told whether it is wrong
abbrev pub wrong : ℕ → ℕ → ℕ → ℕ → ℕ → ℕ → ℕ → Bool → ℕ
wrong nodes references bytes symbols objects limit input buckets = lowest ((Slice.NODES, bad_nodes nodes) ∷ (Slice.REFERENCES, too_long references) ∷ (Slice.BYTES, too_long bytes) ∷ (Slice.SYMBOLS, too_long symbols) ∷ (Slice.OBJECTS, too_long objects) ∷ (Slice.LIMIT, ltb Slice.greatest_limit limit) ∷ (Slice.INPUT, too_long input) ∷ (Slice.BUCKETS, buckets) ∷ [])

-- lengths that a load takes: whole nodes, at least one, none too large, and a bucket table that is not wrong
pub record Allowed (nodes references bytes symbols objects input : ℕ) (buckets : Bool) : Type 0 where
  pub whole : nodes / width * width ≡ nodes
  pub one : 1 ≤ nodes / width
  pub nodes_small : nodes ≤ greatest_length
  pub references_small : references ≤ greatest_length
  pub bytes_small : bytes ≤ greatest_length
  pub symbols_small : symbols ≤ greatest_length
  pub objects_small : objects ≤ greatest_length
  pub input_small : input ≤ greatest_length
  pub buckets_right : buckets ≡ false
