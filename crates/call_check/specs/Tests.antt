-- A test's answer in code beside the definition's outcome, and what an accepted one says.
use Rattle.std.specs.Prelude.{ℕ, ◌<◌, ◌≡◌, Result, Ok, Err}
use Rattle.definition.specs.Run.{Run, ok, refused}
use Rattle.definition.specs.Build.{Lent}
use Rattle.definition.specs.declared.Counts.{Counts}
use Rattle.definition.specs.declared.Refusal.{Refusal}
use Rattle.lists.specs.Slices.{Small}
use Rattle.arena_check.specs.Held.{Fits}

-- the answer is that of m, which changes nothing
abbrev pub Says : {A : Type 0} → Result A Refusal → Run Lent A → Lent → Type 0
Says (Ok x) m L = m L ≡ ok x L
Says (Err q) m L = m L ≡ refused q

-- tables that 1 doesn't refuse, no other wrong slice, and counts within the tables
pub record Fit (nodes references bytes more : ℕ) (c : Counts) : Type 0 where
  pub small : Small nodes references bytes
  pub none_more : more ≡ 0
  pub fits : Fits nodes references bytes c

abbrev pub FitsIf : Result (Unit {0}) Refusal → ℕ → ℕ → ℕ → ℕ → Counts → Type 0
FitsIf (Ok u) n r b more c = Fit n r b more c
FitsIf (Err q) n r b more c = Unit {0}

-- an accepted handle is below the count
abbrev pub Below : Result (Unit {0}) Refusal → ℕ → ℕ → Type 0
Below (Ok u) h count = h < count
Below (Err q) h count = Unit {0}
