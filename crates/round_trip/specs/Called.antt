-- Demand 3 and dump form of load and dump as a user calls them: a call is known by its contract alone, the answer and what is lent as it then stands.
use Rattle.std.specs.Prelude.{ℕ, ◌≤◌, ◌≡◌, true, ◌↔◌, List, length, take}
use Rattle.std.proofs.Common.{sym, ap, ◌∙◌, subst}
use Rattle.definition.specs.Arena.{Tables, Arena, arena}
use Rattle.definition.specs.Load.{Lists, LoadCall, load_call}
use Rattle.definition.specs.Dump.{DumpCall, dump_call}
use Rattle.definition.specs.Graph.{SameGraph}
use Rattle.definition.specs.Refused.{Accepted}
use Rattle.definition.specs.declared.Counts.{Counts}
use Rattle.definition.specs.Load.{LoadAnswer}
use Rattle.definition.specs.Dump.{DumpAnswer}
use Rattle.round_trip.specs.Statement.{AreBytes, LoadAllowed, NoSmaller, DumpAllowed, Again, filled, tables, counts, written}
use Rattle.round_trip.specs.Theorem.{round_trip}
use Rattle.round_trip.specs.FormTheorem.{yes_exactly_when}

-- ---- a call

-- load was called: its answer, the tables and lists as they then stand, and what the function ensures of them
pub record LoadDone (input : List ℕ) (T : Lists) (limit : ℕ) : Type 0 where
  pub answer : LoadAnswer
  pub lent : Lists
  pub ensures : record { answer = answer; lent = lent } ≡ load_call input T limit

-- dump likewise
pub record DumpDone (T : Tables) (c : Counts) (scratch output : List ℕ) (limit : ℕ) : Type 0 where
  pub answer : DumpAnswer
  pub scratch_after : List ℕ
  pub output_after : List ℕ
  pub ensures : record { answer = answer; scratch = scratch_after; output = output_after } ≡ dump_call T c scratch output limit

abbrev tables_in : LoadCall → Tables
tables_in k = record { nodes = k.lent.nodes; references = k.lent.references; bytes = k.lent.bytes }

abbrev bytes_in : DumpCall → List ℕ
bytes_in k = take k.answer.written k.output

module _ {input : List ℕ} {T : Lists} {limit : ℕ} (x : LoadDone input T limit) where
  -- the arena that the call left
  abbrev pub tables_after : Tables
  tables_after = tables_in (record { answer = x.answer; lent = x.lent })

  abbrev pub arena_after : Arena
  arena_after = arena tables_after x.answer.counts

  same_tables : tables_after ≡ tables input T limit
  same_tables = ap tables_in x.ensures

  same_arena : arena_after ≡ filled input T limit
  same_arena = ap (λ (k : LoadCall). arena (tables_in k) k.answer.counts) x.ensures

-- the bytes that a call of dump wrote
abbrev pub bytes_written : {T : Tables} {c : Counts} {scratch output : List ℕ} {limit : ℕ} → DumpDone T c scratch output limit → List ℕ
bytes_written p = take p.answer.written p.output_after

-- ---- the statement

pub record AgainDone (P : Arena) (C : List ℕ) {T : Lists} {limit : ℕ} (z : LoadDone C T limit) : Type 1 where
  pub accepted : z.answer.answer ≡ Accepted
  pub all_used : z.answer.used ≡ length C
  pub same : SameGraph P (arena_after z)
  pub dumps : (scratch output : List ℕ) → DumpAllowed (tables_after z) scratch output limit → length C ≤ length output → (d : DumpDone (tables_after z) z.answer.counts scratch output limit) → (d.answer.answer ≡ Accepted) × (bytes_written d ≡ C)

-- x and y are accepted loads, p and q accepted dumps of the arenas that they left
abbrev pub RoundTripDone : Type 1
RoundTripDone =
    (X Y : List ℕ) (T U : Lists) (limit_x limit-y : ℕ) → AreBytes X → AreBytes Y → (x : LoadDone X T limit_x) (y : LoadDone Y U limit-y) → x.answer.answer ≡ Accepted → y.answer.answer ≡ Accepted
    → (scratch_p scratch-q output_p output-q : List ℕ) (limit_p limit-q : ℕ) (p : DumpDone (tables_after x) x.answer.counts scratch_p output_p limit_p) (q : DumpDone (tables_after y) y.answer.counts scratch-q output-q limit-q)
    → p.answer.answer ≡ Accepted → q.answer.answer ≡ Accepted
    → ((bytes_written p ≡ bytes_written q) ↔ SameGraph (arena_after x) (arena_after y))
    × ((T' : Lists) (limit : ℕ) → LoadAllowed T' limit → NoSmaller T T' → limit_p ≤ limit → (z : LoadDone (bytes_written p) T' limit) → AgainDone (arena_after x) (bytes_written p) z)

-- x is an accepted load, d a dump of the arena that it left under its limit, with scratch and output that are allowed, the output of at least the bytes used
abbrev pub YesExactlyWhenDone : Type 0
YesExactlyWhenDone =
    (X : List ℕ) (T : Lists) (limit : ℕ) → AreBytes X → (x : LoadDone X T limit) → x.answer.answer ≡ Accepted
    → (scratch output : List ℕ) → DumpAllowed (tables_after x) scratch output limit → x.answer.used ≤ length output → (d : DumpDone (tables_after x) x.answer.counts scratch output limit)
    → ((x.answer.form ≡ true) ↔ ((d.answer.answer ≡ Accepted) × (bytes_written d ≡ take x.answer.used X)))

-- ---- the proof

-- a dump of what a load left is the dump of what its definition leaves
module _ {input : List ℕ} {T : Lists} {limit l : ℕ} {scratch output : List ℕ} (x : LoadDone input T limit) (p : DumpDone (tables_after x) x.answer.counts scratch output l) where
  same_dump : record { answer = p.answer; scratch = p.scratch_after; output = p.output_after } ≡ dump_call (tables input T limit) (counts input T limit) scratch output l
  same_dump = p.ensures ∙ ap (λ (k : LoadCall). dump_call (tables_in k) k.answer.counts scratch output l) x.ensures

  same_bytes : bytes_written p ≡ written (tables input T limit) (counts input T limit) scratch output l
  same_bytes = ap bytes_in same_dump

again_done : (P : Arena) (C : List ℕ) {T : Lists} {limit : ℕ} (z : LoadDone C T limit) → Again P C T limit → AgainDone P C z
again_done P C {T} {limit} z a = record {
  accepted = ap (λ (k : LoadCall). k.answer.answer) z.ensures ∙ a.accepted;
  all_used = ap (λ (k : LoadCall). k.answer.used) z.ensures ∙ a.all_used;
  same = subst (SameGraph P) (sym (same_arena z)) a.same;
  dumps = λ scratch output al h d.
      let r = a.dumps scratch output (subst (λ (t : Tables). DumpAllowed t scratch output limit) (same_tables z) al) h in
      (ap (λ (k : DumpCall). k.answer.answer) (same_dump z d) ∙ r.0, same_bytes z d ∙ r.1);
}

pub round_trip_done : RoundTripDone
round_trip_done X Y T U limit_x limit-y bx by x y ax ay scratch_p scratch-q output_p output-q limit_p limit-q p q ap' aq =
    let lx = sym (ap (λ (k : LoadCall). k.answer.answer) x.ensures) ∙ ax in
    let ly = sym (ap (λ (k : LoadCall). k.answer.answer) y.ensures) ∙ ay in
    let dp = sym (ap (λ (k : DumpCall). k.answer.answer) (same_dump x p)) ∙ ap' in
    let dq = sym (ap (λ (k : DumpCall). k.answer.answer) (same_dump y q)) ∙ aq in
    let r = round_trip X Y T U limit_x limit-y bx by lx ly scratch_p scratch-q output_p output-q limit_p limit-q dp dq in
    let P = filled X T limit_x in
    let Q = filled Y U limit-y in (
      (
        λ e. subst (λ (A : Arena). SameGraph A (arena_after y)) (sym (same_arena x)) (subst (SameGraph P) (sym (same_arena y)) (r.0.0 (sym (same_bytes x p) ∙ e ∙ same_bytes y q))),
        λ s. same_bytes x p ∙ r.0.1 (subst (λ (A : Arena). SameGraph A Q) (same_arena x) (subst (SameGraph (arena_after x)) (same_arena y) s)) ∙ sym (same_bytes y q),
      ),
      λ T' limit al up h z.
          again_done (arena_after x) (bytes_written p) z (subst (λ (A : Arena). Again A (bytes_written p) T' limit) (sym (same_arena x)) (subst (λ (c : List ℕ). Again P c T' limit) (sym (same_bytes x p)) (r.1 T' limit al up h))),
    )

pub yes_exactly_when_done : YesExactlyWhenDone
yes_exactly_when_done X T limit by x ax scratch output al en d =
    let lx = sym (ap (λ (k : LoadCall). k.answer.answer) x.ensures) ∙ ax in
    let used-same = ap (λ (k : LoadCall). k.answer.used) x.ensures in
    let form-same = ap (λ (k : LoadCall). k.answer.form) x.ensures in
    let accepted-same = ap (λ (k : DumpCall). k.answer.answer) (same_dump x d) in
    let r = (yes_exactly_when X T limit by lx).1 scratch output (subst (λ (t : Tables). DumpAllowed t scratch output limit) (same_tables x) al, subst (λ (n : ℕ). n ≤ length output) used-same en) in (
      λ y. let (a, w) = r.0 (sym form-same ∙ y) in (accepted-same ∙ a, same_bytes x d ∙ w ∙ ap (λ (n : ℕ). take n X) (sym used-same)),
      λ (a, w). form-same ∙ r.1 (sym accepted-same ∙ a, sym (same_bytes x d) ∙ w ∙ ap (λ (n : ℕ). take n X) used-same),
    )
