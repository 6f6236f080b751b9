-- Two inputs with the same graph are redumped to the same bytes, and only they; an input is in dump form exactly where it is redumped to the bytes that load used.
use Rattle.std.specs.Prelude.{ℕ, ◌≤◌, Bool, true, false, ◌≡◌, refl, ◌↔◌, List, ltb, length, take}
use Rattle.std.proofs.Common.{sym, ap, ◌∙◌, arith, ltb-false}
use Rattle.definition.specs.Run.{pick}
use Rattle.definition.specs.Load.{Lists, LoadCall, load_call}
use Rattle.definition.specs.Dump.{DumpCall, dump_call}
use Rattle.definition.specs.Graph.{SameGraph}
use Rattle.definition.specs.Refused.{Answer}
use Rattle.definition.specs.Refused.{Accepted, Refused}
use Rattle.lists.specs.Lists.{apart}
use Rattle.round_trip.specs.Statement.{AreBytes, LoadAccepted, filled, tables, counts}
use Rattle.round_trip.specs.Theorem.{round_trip}
use Rattle.round_trip.specs.FormTheorem.{accepted_form}
use Rattle.console.specs.Call.{too_long, input_call}
use Rattle.redumping.specs.Redump.{redump_loaded, redump_after, redump_call}

-- an accepted redump loaded its input and dumped what was loaded
record Done (input : List ℕ) (T : Lists) (scratch output : List ℕ) : Type 0 where
  short : length input ≤ 16384
  called : input_call input T ≡ load_call input T 64
  loaded : LoadAccepted input T 64
  same : redump_call input T scratch output ≡ dump_call (tables input T 64) (counts input T 64) scratch output 64

done : (input : List ℕ) (T : Lists) (scratch output : List ℕ) → (redump_call input T scratch output).answer.answer ≡ Accepted → Done input T scratch output
unfolding redump_call input_call pick redump_loaded
done input T scratch output = long (ltb 16384 (length input)) refl
  where
    answered : (r : Answer) → (load_call input T 64).answer.answer ≡ r → (d : DumpCall) → d ≡ redump_loaded r (tables input T 64) (counts input T 64) scratch output → d.answer.answer ≡ Accepted → ((load_call input T 64).answer.answer ≡ Accepted) × (d ≡ dump_call (tables input T 64) (counts input T 64) scratch output 64)
    answered Accepted e d q a = (e, q)
    answered (Refused r) e d q a = let z : Refused r ≡ Accepted = sym (ap (λ (k : DumpCall). k.answer.answer) q) ∙ a in apart (cc)

    after : Bool → DumpCall
    after b = redump_after (pick b (too_long T) (load_call input T 64)) scratch output

    long : (b : Bool) → ltb 16384 (length input) ≡ b → (after (ltb 16384 (length input))).answer.answer ≡ Accepted → Done input T scratch output
    long true e a = let z : (after true).answer.answer ≡ Accepted = sym (ap (λ (b : Bool). (after b).answer.answer) e) ∙ a in apart (cc)
    long false e a =
        let p : redump_call input T scratch output ≡ redump_after (load_call input T 64) scratch output = ap after e in
        let r = answered (load_call input T 64).answer.answer refl (redump_call input T scratch output) p a in
        record { short = ltb-false 16384 (length input) e; called = ap (λ (b : Bool). pick b (too_long T) (load_call input T 64)) e; loaded = r.0; same = r.1 }

-- the bytes that redump puts out
abbrev pub redumped : List ℕ → Lists → List ℕ → List ℕ → List ℕ
redumped input T scratch output = take (redump_call input T scratch output).answer.written (redump_call input T scratch output).output

pub same_bytes : (X Y : List ℕ) (T U : Lists) (scratch-x scratch-y output-x output-y : List ℕ) → AreBytes X → AreBytes Y
    → (redump_call X T scratch-x output-x).answer.answer ≡ Accepted → (redump_call Y U scratch-y output-y).answer.answer ≡ Accepted
    → (redumped X T scratch-x output-x ≡ redumped Y U scratch-y output-y) ↔ SameGraph (filled X T 64) (filled Y U 64)
same_bytes X Y T U scratch-x scratch-y output-x output-y bx by ax ay =
    let x = done X T scratch-x output-x ax in
    let y = done Y U scratch-y output-y ay in
    let r = (round_trip X Y T U 64 64 bx by x.loaded y.loaded scratch-x scratch-y output-x output-y 64 64 (sym (ap (λ (k : DumpCall). k.answer.answer) x.same) ∙ ax) (sym (ap (λ (k : DumpCall). k.answer.answer) y.same) ∙ ay)).0 in
    let p : redumped X T scratch-x output-x ≡ take (dump_call (tables X T 64) (counts X T 64) scratch-x output-x 64).answer.written (dump_call (tables X T 64) (counts X T 64) scratch-x output-x 64).output = ap (λ (k : DumpCall). take k.answer.written k.output) x.same in
    let q : redumped Y U scratch-y output-y ≡ take (dump_call (tables Y U 64) (counts Y U 64) scratch-y output-y 64).answer.written (dump_call (tables Y U 64) (counts Y U 64) scratch-y output-y 64).output = ap (λ (k : DumpCall). take k.answer.written k.output) y.same in
    (λ e. r.0 (sym p ∙ e ∙ q), λ s. p ∙ r.1 s ∙ sym q)

-- what the programs form and redump say of one input: load's answer is yes exactly where the bytes put out are those that load used
pub form_redumped : (X : List ℕ) (T : Lists) (scratch output : List ℕ) → AreBytes X → (redump_call X T scratch output).answer.answer ≡ Accepted → 16384 ≤ length output
    → (((input_call X T).answer.form ≡ true) ↔ (redumped X T scratch output ≡ take (input_call X T).answer.used X))
form_redumped X T scratch output bx ax h =
    let x = done X T scratch output ax in
    let r = accepted_form X T 64 bx x.loaded scratch output (sym (ap (λ (k : DumpCall). k.answer.answer) x.same) ∙ ax) (omega (arith, x.short, h)) in
    let p : redumped X T scratch output ≡ take (dump_call (tables X T 64) (counts X T 64) scratch output 64).answer.written (dump_call (tables X T 64) (counts X T 64) scratch output 64).output = ap (λ (k : DumpCall). take k.answer.written k.output) x.same in
    let f : (input_call X T).answer.form ≡ (load_call X T 64).answer.form = ap (λ (k : LoadCall). k.answer.form) x.called in
    let u : take (input_call X T).answer.used X ≡ take (load_call X T 64).answer.used X = ap (λ (k : LoadCall). take k.answer.used X) x.called in
    (λ y. p ∙ r.0 (sym f ∙ y) ∙ sym u, λ e. f ∙ r.1 (sym p ∙ e ∙ u))
