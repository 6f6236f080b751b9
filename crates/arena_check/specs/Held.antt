-- The arena that tables and counts hold, as the check sees it.
use Rattle.std.specs.Prelude.{ℕ, ◌*◌, ◌≤◌, ◌<◌, ◌≡◌, length, take, Result, Ok, Err}
use Rattle.std.proofs.Math.Option.{Option, none, some}
use Rattle.definition.specs.Node.{width, rows}
use Rattle.definition.specs.Arena.{Arena}
use Rattle.arena_check.specs.declared.fitted.Fitted.{Fitted}
use Rattle.definition.specs.declared.Counts.{Counts}
use Rattle.definition.specs.declared.Fault.{Fault}

-- A's nodes and references are those of the tables, and it has as many bytes as counted
pub record Held (A : Arena) (t : Fitted) : Type 0 where
  pub nodes_same : A.nodes ≡ rows t.count t.nodes.now
  pub references_same : A.references ≡ take t.used t.references.now
  pub bytes_same : length A.bytes ≡ t.stored

-- the fault that the check finds, if any
abbrev pub checked : Result (Unit {0}) Fault → Option Fault
checked (Ok u) = none
checked (Err f) = some f

-- counts within tables of these lengths
pub record Fits (nodes references bytes : ℕ) (c : Counts) : Type 0 where
  pub nodes_fit : c.nodes * width ≤ nodes
  pub references_fit : c.references ≤ references
  pub bytes_fit : c.bytes ≤ bytes
  pub root_fits : c.root < c.nodes

abbrev pub FitIf : Result (Unit {0}) Fault → ℕ → ℕ → ℕ → Counts → Type 0
FitIf (Ok u) n r b c = Fits n r b c
FitIf (Err f) n r b c = Unit {0}
