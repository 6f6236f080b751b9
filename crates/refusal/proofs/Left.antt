-- The counts that a refusal other than BAD-TABLES leaves.
use Rattle.std.specs.Prelude.{ℕ, ◌≡◌, refl}
use Rattle.definition.specs.Arena.{counts_of}
use Rattle.definition.specs.Load.{counts_left}
use Rattle.definition.specs.declared.Refusal.{Refusal}
use Rattle.definition.specs.declared.Refusal.TheVariants.{BadTables}

pub nil_left : (q : Refusal) → ((slice : ℕ) → q ≡ BadTables slice → ⊥) → counts_of 1 0 0 0 ≡ counts_left q
unfolding counts_left
nil_left (BadTables slice) h = elim (h slice refl) [ ]
nil_left q h = refl
