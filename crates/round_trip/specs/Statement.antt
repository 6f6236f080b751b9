-- Demand 3 as a statement about the calls: which graphs have the same bytes, and what comes of loading and dumping them again.
use Rattle.std.specs.Prelude.{ℕ, ◌≤◌, ◌<◌, ◌≡◌, ◌↔◌, List, [], length, take}
use Rattle.std.proofs.Math.Option.{some}
use Rattle.std.proofs.Math.ListN.{get_elem?}
use Rattle.definition.specs.Arena.{Tables, Arena, arena}
use Rattle.definition.specs.Load.{Lists, load_wrong, load_call}
use Rattle.definition.specs.Dump.{dump_wrong, dump_call}
use Rattle.definition.specs.Graph.{SameGraph}
use Rattle.definition.specs.Refused.{Accepted}
use Rattle.definition.specs.declared.Counts.{Counts}

-- every entry is a byte: the type of the input slice
abbrev pub AreBytes : List ℕ → Type 0
AreBytes input = (k v : ℕ) → get_elem? input k ≡ some v → v < 256

-- tables, lists and limit that 1 doesn't refuse (the empty input is one that it doesn't refuse)
abbrev pub LoadAllowed : Lists → ℕ → Type 0
LoadAllowed T limit = load_wrong [] T limit ≡ 0

-- "no smaller", in entries
pub record NoSmaller (T U : Lists) : Type 0 where
  pub nodes : length T.nodes ≤ length U.nodes
  pub references : length T.references ≤ length U.references
  pub bytes : length T.bytes ≤ length U.bytes
  pub symbols : length T.symbols ≤ length U.symbols
  pub objects : length T.objects ≤ length U.objects

-- a load of the input, with these tables and lists and this limit
module _ (input : List ℕ) (T : Lists) (limit : ℕ) where
  abbrev pub LoadAccepted : Type 0
  LoadAccepted = (load_call input T limit).answer.answer ≡ Accepted

  -- how many bytes of the input it used
  abbrev pub used : ℕ
  used = (load_call input T limit).answer.used

  -- the tables as it left them, and its counts
  abbrev pub tables : Tables
  tables = record { nodes = (load_call input T limit).lent.nodes; references = (load_call input T limit).lent.references; bytes = (load_call input T limit).lent.bytes }

  abbrev pub counts : Counts
  counts = (load_call input T limit).answer.counts

  -- the arena that it filled
  abbrev pub filled : Arena
  filled = arena tables counts

-- scratch, output and limit that 1 doesn't refuse for these tables
abbrev pub DumpAllowed : Tables → List ℕ → List ℕ → ℕ → Type 0
DumpAllowed T scratch output limit = dump_wrong T scratch output limit ≡ 0

-- a dump of tables and counts, with this scratch, output and limit
module _ (T : Tables) (c : Counts) (scratch output : List ℕ) (limit : ℕ) where
  abbrev pub DumpAccepted : Type 0
  DumpAccepted = (dump_call T c scratch output limit).answer.answer ≡ Accepted

  -- exactly the bytes that it wrote
  abbrev pub written : List ℕ
  written = take (dump_call T c scratch output limit).answer.written (dump_call T c scratch output limit).output

-- C, which dumping the arena P wrote, is loaded with these tables and lists and this limit
pub record Again (P : Arena) (C : List ℕ) (T : Lists) (limit : ℕ) : Type 1 where
  -- "Loading C .. succeeds, uses all its bytes"
  pub accepted : LoadAccepted C T limit
  pub all_used : used C T limit ≡ length C
  -- "fills an arena with P's graph"
  pub same : SameGraph P (filled C T limit)
  -- "dumping that under the same limit writes exactly C", with any allowed scratch and any allowed output that C fits
  pub dumps : (scratch output : List ℕ) → DumpAllowed (tables C T limit) scratch output limit → length C ≤ length output
      → DumpAccepted (tables C T limit) (counts C T limit) scratch output limit × (written (tables C T limit) (counts C T limit) scratch output limit ≡ C)

-- X and Y are loaded by any accepted calls, the arenas filled are P and Q; dumping them is accepted, under any limits, with any scratch and outputs, and writes C and D
abbrev pub RoundTrip : Type 1
RoundTrip =
    (X Y : List ℕ) (T U : Lists) (limit_x limit-y : ℕ) → AreBytes X → AreBytes Y → LoadAccepted X T limit_x → LoadAccepted Y U limit-y
    → (scratch_p scratch-q output_p output-q : List ℕ) (limit_p limit-q : ℕ)
    → DumpAccepted (tables X T limit_x) (counts X T limit_x) scratch_p output_p limit_p
    → DumpAccepted (tables Y U limit-y) (counts Y U limit-y) scratch-q output-q limit-q
    → let P : Arena = filled X T limit_x in
    let Q : Arena = filled Y U limit-y in
    let C : List ℕ = written (tables X T limit_x) (counts X T limit_x) scratch_p output_p limit_p in
    let D : List ℕ = written (tables Y U limit-y) (counts Y U limit-y) scratch-q output-q limit-q in
    ((C ≡ D) ↔ SameGraph P Q) × ((T' : Lists) (limit : ℕ) → LoadAllowed T' limit → NoSmaller T T' → limit_p ≤ limit → Again P C T' limit)
