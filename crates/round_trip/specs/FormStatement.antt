-- Dump form (02, 2.2) as a statement about the calls: what load's yes or no says, and what it is worth to somebody who signs bytes.
use Rattle.std.specs.Prelude.{ℕ, ◌≤◌, ◌≡◌, true, false, ◌↔◌, List, length, take}
use Rattle.definition.specs.Load.{Lists, load_call}
use Rattle.definition.specs.Graph.{SameGraph}
use Rattle.definition.specs.Refused.{Refused}
use Rattle.definition.specs.declared.Refusal.{Refusal}
use Rattle.round_trip.specs.Statement.{AreBytes, LoadAllowed, NoSmaller, LoadAccepted, used, tables, counts, filled, DumpAllowed, DumpAccepted, written}

-- a load of the input, with these tables and lists and this limit
module _ (input : List ℕ) (T : Lists) (limit : ℕ) where
  abbrev pub Yes : Type 0
  Yes = (load_call input T limit).answer.form ≡ true

  -- "the very bytes that load used"
  abbrev pub used_bytes : List ℕ
  used_bytes = take (used input T limit) input

  -- scratch and output that 1 doesn't refuse under load's limit, the output "enough": of at least the bytes used
  abbrev pub Enough : List ℕ → List ℕ → Type 0
  Enough scratch output = DumpAllowed (tables input T limit) scratch output limit × (used input T limit ≤ length output)

  -- "dumping the loaded arena, under load's limit", is accepted and "writes the very bytes that load used"
  abbrev pub WritesUsed : List ℕ → List ℕ → Type 0
  WritesUsed scratch output =
      DumpAccepted (tables input T limit) (counts input T limit) scratch output limit
      × (written (tables input T limit) (counts input T limit) scratch output limit ≡ used_bytes)

-- "yes exactly when dumping the loaded arena, under load's limit and with enough output, writes the very bytes that load used": with any scratch and output that are enough, and so with all of them
abbrev pub YesExactlyWhen : Type 0
YesExactlyWhen =
    (X : List ℕ) (T : Lists) (limit : ℕ) → AreBytes X → LoadAccepted X T limit
    → (Yes X T limit ↔ ((scratch output : List ℕ) → Enough X T limit scratch output → WritesUsed X T limit scratch output))
    × ((scratch output : List ℕ) → Enough X T limit scratch output → (Yes X T limit ↔ WritesUsed X T limit scratch output))

-- "A refused load says no"
abbrev pub RefusedSaysNo : Type 0
RefusedSaysNo = (X : List ℕ) (T : Lists) (limit : ℕ) (r : Refusal) → (load_call X T limit).answer.answer ≡ Refused r → (load_call X T limit).answer.form ≡ false

-- two loads that say yes and filled arenas with the same graph used the same bytes: a graph has at most one form
abbrev pub AtMostOneForm : Type 1
AtMostOneForm =
    (X Y : List ℕ) (T U : Lists) (limit_x limit-y : ℕ) → AreBytes X → AreBytes Y → LoadAccepted X T limit_x → LoadAccepted Y U limit-y
    → Yes X T limit_x → Yes Y U limit-y → SameGraph (filled X T limit_x) (filled Y U limit-y) → used_bytes X T limit_x ≡ used_bytes Y U limit-y

-- it has one only where it can be dumped: if a load that says yes filled an arena with X's graph, dumping X's arena under that load's limit, with any allowed scratch and any allowed output of at least the bytes that it used, is accepted and writes these
abbrev pub FormIsDumped : Type 1
FormIsDumped =
    (X Y : List ℕ) (T U : Lists) (limit_x limit-y : ℕ) → AreBytes Y → LoadAccepted X T limit_x → LoadAccepted Y U limit-y → Yes Y U limit-y → SameGraph (filled X T limit_x) (filled Y U limit-y)
    → (scratch output : List ℕ) → DumpAllowed (tables X T limit_x) scratch output limit-y → used Y U limit-y ≤ length output
    → DumpAccepted (tables X T limit_x) (counts X T limit_x) scratch output limit-y × (written (tables X T limit_x) (counts X T limit_x) scratch output limit-y ≡ used_bytes Y U limit-y)

-- and where it can be dumped it has one. X is loaded, and the arena filled is dumped under any limit, with any scratch and output: both are accepted, and C is written. Among all inputs that hold this graph just those that begin with C are in dump form: C is (loaded with tables, lists and limit as demand 3 asks), and any load that says yes and filled an arena with the same graph used the bytes C
abbrev pub OneForm : Type 1
OneForm =
    (X : List ℕ) (T : Lists) (limit_x : ℕ) → AreBytes X → LoadAccepted X T limit_x
    → (scratch output : List ℕ) (limit_p : ℕ) → DumpAccepted (tables X T limit_x) (counts X T limit_x) scratch output limit_p
    → let C : List ℕ = written (tables X T limit_x) (counts X T limit_x) scratch output limit_p in
    ((T' : Lists) (limit : ℕ) → LoadAllowed T' limit → NoSmaller T T' → limit_p ≤ limit → Yes C T' limit)
    × ((Y : List ℕ) (U : Lists) (limit-y : ℕ) → AreBytes Y → LoadAccepted Y U limit-y → Yes Y U limit-y → (SameGraph (filled X T limit_x) (filled Y U limit-y) ↔ (used_bytes Y U limit-y ≡ C)))
