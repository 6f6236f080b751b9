-- Dump form, proved.
use Rattle.std.specs.Prelude.{ℕ, suc, zero, ◌/◌, ◌≤◌, ◌≡◌, refl, false, ◌↔◌, List, [], ◌∷◌, ◌++◌, take, drop, replicate}
use Rattle.std.proofs.Math.Path.{ap}
use Rattle.std.proofs.Common.{subst, sym as psym, ◌∙◌, append-nil, take-append-drop, length-append, length-drop, arith, le-ltb}
use Rattle.std.proofs.Math.ListN.{length, length-replicate}
use Rattle.std.proofs.Math.Seq.{take-append_seam}
use Rattle.definition.specs.Run.{Outcome, ok, refused, pick}
use Rattle.definition.specs.Arena.{Arena, Tables, too_long, bad_nodes, lowest}
use Rattle.definition.specs.State.{State}
use Rattle.definition.specs.Load.{Lists, room_of, begin, load, load_wrong, load_done, load_if, load_call}
use Rattle.definition.specs.Dump.{dump_wrong}
use Rattle.definition.specs.Node.{width}
use Rattle.definition.specs.Slice.{greatest_length, greatest_limit}
use Rattle.definition.specs.Refused.{Refused}
use Rattle.definition.specs.Dump.{DumpAnswer}
use Rattle.definition.specs.Load.{LoadAnswer}
use Rattle.lists.specs.Lists.{apart}
use Rattle.lists.specs.Slices.{lowest_none, short}
use Rattle.graph.specs.Forest.{Node, fresh}
use Rattle.graph.specs.Describe.{E, Says}
use Rattle.graph.specs.Build.{num}
use Rattle.graph.specs.View.{arena_of, state_seen}
use Rattle.dump_forest.specs.Same.{graph_of}
use Rattle.dump_forest.specs.Call.{call_accepted}
use Rattle.states.specs.States.{seen_root}
use Rattle.load_forest.specs.Sound.{LoadWrites, load_writes}
use Rattle.load_forest.specs.Call.{AcceptedLoad, load_allowed, load_accepted, accepted_load, load_used, call_arena, call_well_formed, call_used, load_lengths}
use Rattle.load_text.specs.Back.{describes}
use Rattle.round_trip.specs.Statement.{AreBytes, LoadAllowed, NoSmaller, LoadAccepted, used, tables, counts, DumpAllowed, DumpAccepted, written}
use Rattle.round_trip.specs.FormStatement.{Yes, used_bytes, Enough, WritesUsed, YesExactlyWhen, RefusedSaysNo, AtMostOneForm, FormIsDumped, OneForm}
use Rattle.round_trip.specs.Graphs.{dump_sees_graph}
use Rattle.round_trip.specs.Theorem.{back, trip, same_load, up_refl, dumps_text, room_largest, room_larger, input_allowed, round_trip}

-- ---- an accepted load's answer

module _ (X : List ℕ) (T : Lists) (limit : ℕ) (a : AcceptedLoad X T limit) where
  form_is : (load_call X T limit).answer.form ≡ a.state.notes.form
  form_is = ap (λ (r : LoadAnswer). r.form) a.answered

  used_is : used X T limit ≡ a.state.at
  used_is = ap (λ (r : LoadAnswer). r.used) a.answered

-- ---- from yes to the bytes

-- what a canonical forest built from nothing is described by it
built_says : (input : List ℕ) (limit h : ℕ) (s : State) (x : LoadWrites input limit h s) → Says (graph_of (arena_of s h)) x.forest
unfolding state_seen
built_says input limit h s x =
    (num (state_seen s), subst (λ (L : List Node). E L x.forest (h ∷ []) fresh (num (state_seen s))) (psym (seen_root s h)) (describes x.forest h (state_seen begin) (state_seen s) refl refl x.built))

-- the header and the text are the bytes used
text_used : (X C : List ℕ) (n : ℕ) → n ≤ length X → X ≡ C ++ drop n X → (C ≡ take n X) × (length C ≡ n)
text_used X C n h e =
    let l : length C ≡ n = omega (arith, ap length e, length-append C (drop n X), length-drop n X) in
    (psym (ap (take n) e ∙ ap (λ (k : ℕ). take k (C ++ drop n X)) (psym l) ∙ take-append_seam C (drop n X)), l)

yes_writes : (X : List ℕ) (T : Lists) (limit : ℕ) → AreBytes X → LoadAccepted X T limit → Yes X T limit → (scratch output : List ℕ) → Enough X T limit scratch output → WritesUsed X T limit scratch output
yes_writes X T limit by l y scratch output (al, en) =
    let a = load_accepted X T limit l in
    let s = a.state in
    let x = load_writes X (room_of T) limit a.root s by a.loads (psym (form_is X T limit a) ∙ y) in
    let C : List ℕ = 0x04 ∷ 0x08 ∷ x.bytes in
    let (e, n) = text_used X C s.at (load_used X (room_of T) limit a.root s a.loads) x.reads in
    let says = subst (λ (A : Arena). Says (graph_of A) x.forest) (psym (call_arena X T limit a)) (built_says X limit a.root s x) in
    let (d, w) = dumps_text (tables X T limit) (counts X T limit) limit x.forest x.bytes (call_well_formed X T limit a) x.writes says scratch output al (omega (arith, en, used_is X T limit a, n)) in
    (d, w ∙ e ∙ ap (λ (k : ℕ). take k X) (psym (used_is X T limit a)))

-- ---- from the bytes to yes

writes_yes : (X : List ℕ) (T : Lists) (limit : ℕ) → AreBytes X → LoadAccepted X T limit → (scratch output : List ℕ) → WritesUsed X T limit scratch output → Yes X T limit
writes_yes X T limit by l scratch output (d, w) =
    let a = load_accepted X T limit l in
    let t = trip X T limit by l scratch output limit d in
    let y = drop (used X T limit) X in
    let b = back _ (room_of T) _ limit t y (room_of T) limit (up_refl (room_of T)) (room_largest X T limit a.none_wrong) (omega arith) in
    let e : 0x04 ∷ 0x08 ∷ (t.text ++ y) ≡ X = ap (λ (c : List ℕ). c ++ y) (psym t.is ∙ w) ∙ take-append-drop (used X T limit) X in
    let (p, q) = same_load _ a.root b.root a.state b.state a.loads (subst (λ (i : List ℕ). load i (room_of T) limit ≡ ok b.root b.state) e b.runs) in
    form_is X T limit a ∙ ap (λ (s : State). s.notes.form) q ∙ b.form

-- ---- scratch and output that are enough

-- no slice of a dump is wrong
none_wrong : (T : Tables) (scratch output : List ℕ) (limit : ℕ) → bad_nodes (length T.nodes) ≡ false → too_long (length T.references) ≡ false → too_long (length T.bytes) ≡ false
    → length output ≤ greatest_length → limit ≤ greatest_limit → length scratch ≤ greatest_length → length T.nodes / width ≤ length scratch → dump_wrong T scratch output limit ≡ 0
unfolding dump_wrong lowest too_long pick
none_wrong T scratch output limit n r b o l s m =
    rw (n, r, b, le-ltb greatest_length (length output) o, le-ltb greatest_limit limit l, le-ltb greatest_length (length scratch) s, le-ltb (length scratch) (length T.nodes / width) m)

module _ (X : List ℕ) (T : Lists) (limit : ℕ) (a : AcceptedLoad X T limit) where
  abbrev some_scratch : List ℕ
  some_scratch = replicate (length (tables X T limit).nodes / width) 0

  output_enough : (output : List ℕ) → length output ≤ greatest_length → used X T limit ≤ length output → Enough X T limit some_scratch output
  unfolding load_wrong
  output_enough output short enough =
      let al = load_allowed X T limit a.none_wrong in
      let (n, e₁) = lowest_none 0 _ _ a.none_wrong in
      let (r, e₂) = lowest_none 1 _ _ e₁ in
      let (b, e₃) = lowest_none 2 _ _ e₂ in
      let ls = load_lengths X T limit a.root a.state a.none_wrong a.loads in
      let q₁ = ap (λ (t : Lists). length t.nodes) a.left ∙ ls.nodes_length in
      let q₂ = ap (λ (t : Lists). length t.references) a.left ∙ ls.references_length in
      let q₃ = ap (λ (t : Lists). length t.bytes) a.left ∙ ls.bytes_length in
      let k₁ = length-replicate {A = ℕ} (length (tables X T limit).nodes / width) 0 in
      (none_wrong (tables X T limit) some_scratch output limit (rw q₁ n) (rw q₂ r) (rw q₃ b) short al.limit_most (omega (arith, k₁, q₁, al.nodes_most)) (omega (arith, k₁)), enough)

  abbrev some_output : List ℕ
  some_output = replicate (used X T limit) 0

  some_enough : Enough X T limit some_scratch some_output
  some_enough =
      let k = length-replicate {A = ℕ} (used X T limit) 0 in
      let u = load_used X (room_of T) limit a.root a.state a.loads in
      output_enough some_output (omega (arith, k, u, used_is X T limit a, (load_allowed X T limit a.none_wrong).input_most)) (omega (arith, k))

-- ---- the statements

pub yes_exactly_when : YesExactlyWhen
yes_exactly_when X T limit by l =
    let a = load_accepted X T limit l in (
      (yes_writes X T limit by l, λ f. writes_yes X T limit by l (some_scratch X T limit a) (some_output X T limit a) (f _ _ (some_enough X T limit a))),
      λ scratch output en. (λ y. yes_writes X T limit by l y scratch output en, writes_yes X T limit by l scratch output),
    )

-- of a dump that is known to be accepted, only the bytes are asked
pub accepted_form : (X : List ℕ) (T : Lists) (limit : ℕ) → AreBytes X → LoadAccepted X T limit → (scratch output : List ℕ) → DumpAccepted (tables X T limit) (counts X T limit) scratch output limit → length X ≤ length output
    → (Yes X T limit ↔ (written (tables X T limit) (counts X T limit) scratch output limit ≡ used_bytes X T limit))
accepted_form X T limit by l scratch output d h =
    let n = (call_accepted (tables X T limit) (counts X T limit) scratch output limit d).no_wrong in
    let r = (yes_exactly_when X T limit by l).1 scratch output (n, omega (arith, h, call_used X T limit (load_accepted X T limit l))) in
    (λ y. (r.0 y).1, λ w. r.1 (d, w))

pub refused_says_no : RefusedSaysNo
unfolding load_call load_if load_done
refused_says_no X T limit r e = by_wrong (load_wrong X T limit) e
  where
    by_outcome : (o : Outcome State ℕ) → (load_done T o).answer.answer ≡ Refused r → (load_done T o).answer.form ≡ false
    by_outcome (ok h s) e = apart (cc)
    by_outcome (refused q) e = refl

    by_wrong : (n : ℕ) → (load_if n X T limit).answer.answer ≡ Refused r → (load_if n X T limit).answer.form ≡ false
    by_wrong zero e = by_outcome (load X (room_of T) limit) e
    by_wrong (suc n) e = refl

-- what was dumped says yes
dumped_yes : (X : List ℕ) (T : Lists) (limit_x : ℕ) → AreBytes X → LoadAccepted X T limit_x → (scratch output : List ℕ) (limit_p : ℕ) → DumpAccepted (tables X T limit_x) (counts X T limit_x) scratch output limit_p
    → (T' : Lists) (limit : ℕ) → LoadAllowed T' limit → NoSmaller T T' → limit_p ≤ limit → Yes (written (tables X T limit_x) (counts X T limit_x) scratch output limit_p) T' limit
dumped_yes X T limit_x bx lx scratch output limit_p d T' limit al up h =
    let t = trip X T limit_x bx lx scratch output limit_p d in
    let C = written (tables X T limit_x) (counts X T limit_x) scratch output limit_p in
    let w : load_wrong C T' limit ≡ 0 = input_allowed C T' limit t.length_most al in
    let b = back _ (room_of T) C limit_p t [] (room_of T') limit (room_larger T T' up) (room_largest C T' limit w) h in
    let e : 0x04 ∷ 0x08 ∷ (t.text ++ []) ≡ C = ap (λ (x : List ℕ). 0x04 ∷ 0x08 ∷ x) (append-nil t.text) ∙ psym t.is in
    let r = subst (λ (i : List ℕ). load i (room_of T') limit ≡ ok b.root b.state) e b.runs in
    let a = accepted_load C T' limit b.root b.state w r in
    let (p, q) = same_load _ a.root b.root a.state b.state a.loads r in
    form_is C T' limit a ∙ ap (λ (s : State). s.notes.form) q ∙ b.form

pub one_form : OneForm
one_form X T limit_x bx lx scratch output limit_p d = (
  dumped_yes X T limit_x bx lx scratch output limit_p d,
  λ Y U limit-y by ly y.
      let a = load_accepted Y U limit-y ly in
      let (e, w) = yes_writes Y U limit-y by ly y _ _ (some_enough Y U limit-y a) in
      let r = (round_trip X Y T U limit_x limit-y bx by lx ly scratch (some_scratch Y U limit-y a) output (some_output Y U limit-y a) limit_p limit-y d e).0 in
      (λ g. psym w ∙ psym (r.1 g), λ c. r.0 (psym c ∙ psym w)),
)

pub at_most_one_form : AtMostOneForm
at_most_one_form X Y T U limit_x limit-y bx by lx ly x y g =
    let (d, w) = yes_writes X T limit_x bx lx x _ _ (some_enough X T limit_x (load_accepted X T limit_x lx)) in
    psym w ∙ psym (((one_form X T limit_x bx lx _ _ limit_x d).1 Y U limit-y by ly y).0 g)

-- an output that 1 does not refuse is not too long
output_most : (T : Tables) (scratch output : List ℕ) (limit : ℕ) → DumpAllowed T scratch output limit → length output ≤ greatest_length
unfolding dump_wrong
output_most T scratch output limit e = short (length output) (lowest_none 5 _ _ (lowest_none 2 _ _ (lowest_none 1 _ _ (lowest_none 0 _ _ e).1).1).1).0

pub form_is_dumped : FormIsDumped
form_is_dumped X Y T U limit_x limit-y by lx ly y g scratch output al en =
    let a = load_accepted X T limit_x lx in
    let b = load_accepted Y U limit-y ly in
    let other : List ℕ = replicate (length output) 0 in
    let k : length other ≡ length output = length-replicate {A = ℕ} (length output) 0 in
    let enough = output_enough Y U limit-y b other (omega (arith, k, output_most (tables X T limit_x) scratch output limit-y al)) (omega (arith, k, en)) in
    let (d, w) = yes_writes Y U limit-y by ly y _ _ enough in
    let (p, q) = dump_sees_graph (tables X T limit_x) (tables Y U limit-y) (counts X T limit_x) (counts Y U limit-y) (call_well_formed X T limit_x a) (call_well_formed Y U limit-y b) g scratch _ output other limit-y al enough.0 (psym k) in
    let e : written (tables X T limit_x) (counts X T limit_x) scratch output limit-y ≡ written (tables Y U limit-y) (counts Y U limit-y) (some_scratch Y U limit-y b) other limit-y = λ i. take (p i).written (q i) in
    (ap (λ (r : DumpAnswer). r.answer) p ∙ d, e ∙ w)
