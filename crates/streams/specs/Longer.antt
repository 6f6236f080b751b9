-- An input that goes on: load's answer, and what it leaves, depend on the bytes used alone; an answer other than SHORT-INPUT stays.
use Rattle.std.specs.Prelude.{ℕ, zero, suc, ◌≤◌, ◌<◌, ◌≡◌, refl, ◌≢◌, List, ◌++◌, length, take, drop}
use Rattle.std.proofs.Common.{ap, sym, ◌∙◌, take-append-drop, length-append, length-take, take-take, length-take-le, arith}
use Rattle.definition.specs.Run.{Outcome, ok, refused}
use Rattle.definition.specs.Slice.{greatest_length}
use Rattle.definition.specs.State.{State}
use Rattle.definition.specs.Load.{Lists, LoadCall, room_of, load, load_wrong, load_done, load_if, load_call}
use Rattle.definition.specs.Refused.{Answer}
use Rattle.definition.specs.Refused.{Refused}
use Rattle.definition.specs.Load.{LoadAnswer}
use Rattle.definition.specs.declared.Refusal.{Refusal}
use Rattle.definition.specs.declared.Refusal.TheVariants.{ShortInput}
use Rattle.lists.specs.Lists.{apart}
use Rattle.lists.specs.Offsets.{wrong_same}
use Rattle.load_forest.specs.Call.{AcceptedLoad, load_allowed, load_accepted, load_used, call_used, call_done}
use Rattle.round_trip.specs.Statement.{LoadAccepted, used}
use Rattle.streams.specs.Readers as R
use Rattle.streams.specs.Readers.{Alike, same, both, short, stopped, ended}

-- "No lent slice .. has more than 2,147,483,647 entries"
abbrev pub Lendable : List ℕ → Type 0
Lendable input = length input ≤ greatest_length

-- what a load of the input answers: accepted, or a refusal
abbrev pub answered : List ℕ → Lists → ℕ → Answer
answered input T limit = (load_call input T limit).answer.answer

-- ---- more behind the input

done_same : (T : Lists) {n start : ℕ} {o p : Outcome State ℕ} → Alike n start o p → (load_done T o).answer.answer ≢ Refused ShortInput → load_done T p ≡ load_done T o
unfolding load_done
done_same T (same a t h) ne = refl
done_same T (both r) ne = refl
done_same T (short x) ne = absurd (ne refl)

-- an answer other than 4 stays: the counts, the bytes used and all that is lent too
pub goes_on : (input more : List ℕ) (T : Lists) (limit : ℕ) → Lendable (input ++ more) → answered input T limit ≢ Refused ShortInput → load_call (input ++ more) T limit ≡ load_call input T limit
unfolding load_call load_if
goes_on input more T limit h ne = rw (wrong_same (input ++ more) input T limit h (omega (arith, length-append input more))) (by (load_wrong input T limit) ne)
  where
    by : (wrong : ℕ) → (load_if wrong input T limit).answer.answer ≢ Refused ShortInput → load_if wrong (input ++ more) T limit ≡ load_if wrong input T limit
    by zero ne = done_same T (R.load input more (room_of T) limit) ne
    by (suc slice) ne = refl

pub accepted_goes_on : (input more : List ℕ) (T : Lists) (limit : ℕ) → Lendable (input ++ more) → LoadAccepted input T limit → load_call (input ++ more) T limit ≡ load_call input T limit
accepted_goes_on input more T limit h a = goes_on input more T limit h (λ e. apart (cc))

-- BAD-TABLES is among the refusals that stay
pub refused_goes_on : (input more : List ℕ) (T : Lists) (limit : ℕ) → Lendable (input ++ more) → (r : Refusal) → answered input T limit ≡ Refused r → r ≢ ShortInput
    → load_call (input ++ more) T limit ≡ load_call input T limit
refused_goes_on input more T limit h r a ne = goes_on input more T limit h (λ e. ne (cc))

-- ---- the first bytes of an input

lendable_take : (k : ℕ) (input : List ℕ) → Lendable input → Lendable (take k input)
lendable_take k input h = omega (arith, length-take k input)

-- a longer prefix is loaded as a shorter one that was not refused with 4
pub prefix_goes_on : (input : List ℕ) (i j : ℕ) (T : Lists) (limit : ℕ) → i ≤ j → Lendable input → answered (take i input) T limit ≢ Refused ShortInput
    → load_call (take j input) T limit ≡ load_call (take i input) T limit
prefix_goes_on input i j T limit h l ne =
    let z : take i input ++ drop i (take j input) ≡ take j input = rw (← (take-take i j input h)) (take-append-drop i (take j input)) in
    rw z at (goes_on (take i input) (drop i (take j input)) T limit (rw z (lendable_take j input l)) ne)

-- so every longer prefix is refused alike
pub refused_alike : (input : List ℕ) (i j : ℕ) (T : Lists) (limit : ℕ) → i ≤ j → Lendable input → (r : Refusal) → answered (take i input) T limit ≡ Refused r → r ≢ ShortInput
    → load_call (take j input) T limit ≡ load_call (take i input) T limit
refused_alike input i j T limit h l r a ne = prefix_goes_on input i j T limit h l (λ e. ne (cc))

-- ---- an accepted load, and the load of its input's first bytes

module _ (input : List ℕ) (T : Lists) (limit : ℕ) (a : AcceptedLoad input T limit) (k : ℕ) where
  abbrev first : List ℕ
  first = take k input

  first_alike : Alike (length first) 0 (load first (room_of T) limit) (load input (room_of T) limit)
  first_alike = rw (take-append-drop k input) at (R.load first (drop k input) (room_of T) limit)

  first_allowed : load_wrong first T limit ≡ 0
  first_allowed = let m = (load_allowed input T limit a.none_wrong).input_most in wrong_same first input T limit (lendable_take k input m) m ∙ a.none_wrong

ended_within : {n start : ℕ} {o p : Outcome State ℕ} (h : ℕ) (s : State) → s.at ≤ n → p ≡ ok h s → Alike n start o p → o ≡ ok h s
ended_within h s l e (same a t x) = e
ended_within h s l e (both r) = e
ended_within h s l e (short (stopped r)) = apart (cc)
ended_within h s l e (short (ended a t x)) = let z : t ≡ s = cc in absurd (omega (arith, ap (λ (q : State). q.at) z))

ended_past : {n start : ℕ} {o p : Outcome State ℕ} (h : ℕ) (s : State) → n < s.at → p ≡ ok h s → ((b : ℕ) (t : State) → o ≡ ok b t → t.at ≤ n) → Alike n start o p → o ≡ refused ShortInput
ended_past h s l e f (same b t x) = let z : t ≡ s = cc in absurd (omega (arith, ap (λ (q : State). q.at) z, f b t refl))
ended_past h s l e f (both r) = apart (cc)
ended_past h s l e f (short x) = refl

-- the bytes used, loaded alone
pub used_alone : (input : List ℕ) (T : Lists) (limit : ℕ) → LoadAccepted input T limit → load_call (take (used input T limit) input) T limit ≡ load_call input T limit
used_alone input T limit l =
    let a = load_accepted input T limit l in
    let u = used input T limit in
    let e : u ≡ a.state.at = ap (λ (r : LoadAnswer). r.used) a.answered in
    let n : length (take u input) ≡ u = length-take-le u input (call_used input T limit a) in
    let o = ended_within a.root a.state (omega arith) a.loads (first_alike input T limit a u) in
    call_done (take u input) T limit (first_allowed input T limit a u) ∙ ap (load_done T) (o ∙ sym a.loads) ∙ sym (call_done input T limit a.none_wrong)

-- fewer bytes than are used are refused with 4
pub cut_short : (input : List ℕ) (k : ℕ) (T : Lists) (limit : ℕ) → LoadAccepted input T limit → k < used input T limit → answered (take k input) T limit ≡ Refused ShortInput
unfolding load_done
cut_short input k T limit l h =
    let a = load_accepted input T limit l in
    let e : used input T limit ≡ a.state.at = ap (λ (r : LoadAnswer). r.used) a.answered in
    let o = ended_past a.root a.state (omega (arith, length-take k input)) a.loads (load_used (take k input) (room_of T) limit) (first_alike input T limit a k) in
    ap (λ (c : LoadCall). c.answer.answer) (call_done (take k input) T limit (first_allowed input T limit a k) ∙ ap (load_done T) o)

-- two inputs that begin with the bytes that the first one's load used are loaded alike
pub used_decide : (X Y : List ℕ) (T : Lists) (limit : ℕ) → LoadAccepted X T limit → Lendable Y → take (used X T limit) Y ≡ take (used X T limit) X → load_call Y T limit ≡ load_call X T limit
used_decide X Y T limit l m e =
    let u = used X T limit in
    let p : load_call (take u Y) T limit ≡ load_call X T limit = ap (λ (i : List ℕ). load_call i T limit) e ∙ used_alone X T limit l in
    let z = take-append-drop u Y in
    rw z at (accepted_goes_on (take u Y) (drop u Y) T limit (rw z m) (ap (λ (c : LoadCall). c.answer.answer) p ∙ l)) ∙ p

-- a refused load uses none
pub refused_none : (input : List ℕ) (T : Lists) (limit : ℕ) (r : Refusal) → answered input T limit ≡ Refused r → used input T limit ≡ 0
unfolding load_call load_if load_done
refused_none input T limit r e = by_wrong (load_wrong input T limit) e
  where
    by_outcome : (o : Outcome State ℕ) → (load_done T o).answer.answer ≡ Refused r → (load_done T o).answer.used ≡ 0
    by_outcome (ok h s) e = apart (cc)
    by_outcome (refused q) e = refl

    by_wrong : (wrong : ℕ) → (load_if wrong input T limit).answer.answer ≡ Refused r → (load_if wrong input T limit).answer.used ≡ 0
    by_wrong zero e = by_outcome (load input (room_of T) limit) e
    by_wrong (suc slice) e = refl
