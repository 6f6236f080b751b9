-- A Bignum: its sign byte, its count of units, the magnitude that they say, and what is noted of it.
use Prim.Native.Nat.{ℕ, ◌+◌, ◌-◌, ◌*◌, ◌/◌, ◌%◌, ◌≤◌, ◌<◌}
use native.Mathlib.Omega.{arith}
use mathlib.Core.Path.{◌≡◌, refl, sym, ap, ◌∙◌}
use mathlib.Core.Bool.{Bool, true, false, not, ◌&&◌, ◌||◌}
use mathlib.Core.List.{List, [], ◌∷◌}
use mathlib.Core.Logic.{◌⊎◌, inl, inr}
use lib.Dec.{leb, eqb}
use lib.ListN.{length, get_or, take, drop}
use borrow.Author.Tests.{eqb-true, eqb-false, ne_eqb, eq-eqb, lt-ltb, le-ltb, le-leb, lt-leb}
use Rattle.definition.specs.Run.{pure, refuse, pick, ◌>>=◌}
use Rattle.definition.specs.Integer.{little, low_bytes}
use Rattle.definition.specs.Magnitude.{fits, sign, sign_byte, fewest_units, unit_bytes, bignum_row}
use Rattle.definition.specs.Kind.{PLUS, MINUS}
use Rattle.definition.specs.Node.{words, equal}
use Rattle.definition.specs.State.{Room, Reader, noted}
use Rattle.definition.specs.Load.{note, read_count, read_sign, read_unit_count, read_magnitude, add_bignum, add_object_node}
use Rattle.definition.specs.declared.Refusal.TheVariants.{BadSign, TooBig}
use Rattle.lists.specs.Magnitudes.{as_written}
use Rattle.std.specs.Prelude.{Result, Ok, Err, MatchResult, IfOk}
use Rattle.reader.specs.declared.Stop.{Stop}
use Rattle.reader.specs.Answers.{refusal_at, stop}
use Rattle.load_state.specs.declared.Progress.{Progress}
use Rattle.load_state.specs.Holds.{Lent, Goes, Leads, Meets, span_of}
use Rattle.leaf_reader.specs.Parts.{read_number, WORD}
use Rattle.load_state.specs.Laws.{still, given, goes_to, goes_first, lead_part, lead_first, lead_after, lead_stop, lead_as, met_as, refuses}
use Rattle.input_reader.proofs.Input.{lost, byte_goes, byte_missing, span_read, span_missing}

-- ---- the sign byte

abbrev IsSign : ℕ → Type 0
IsSign b = (b ≡ PLUS) ⊎ (b ≡ MINUS)

-- a byte is one or it is not
is_sign : (b : ℕ) → IsSign b ⊎ (IsSign b → ⊥)
is_sign b = go (eqb b PLUS) (eqb b MINUS) refl refl
  where
    neither : (b ≡ PLUS → ⊥) → (b ≡ MINUS → ⊥) → IsSign b → ⊥
    neither p q (inl e) = p e
    neither p q (inr e) = q e

    go : (t u : Bool) → eqb b PLUS ≡ t → eqb b MINUS ≡ u → IsSign b ⊎ (IsSign b → ⊥)
    go true u e f = inl (inl (eqb-true b PLUS e))
    go false true e f = inl (inr (eqb-true b MINUS f))
    go false false e f = inr (neither (eqb-false b PLUS e) (eqb-false b MINUS f))

module _ {input : List ℕ} {room : Room} {T : Lent} {c : Progress} (b : ℕ) (q : get_or input c.at 0 ≡ b) (l : c.at < length input) where
  signed : Goes input room (read_sign input) T c (pick (eqb b PLUS || eqb b MINUS) (pure b) (refuse (BadSign b))) T (record c { at = c.at + 1 })
  unfolding read_sign
  signed = goes_first _ (goes_to (ap pure q) (byte_goes l))

  sign_read : {limit : ℕ} → IsSign b → Meets input room limit (read_sign input) T c (Ok b) T (record c { at = c.at + 1 })
  unfolding pick
  sign_read (inl e) = given (goes_to (rw e refl) signed)
  sign_read (inr e) = given (goes_to (rw e refl) signed)

  sign_other : {limit : ℕ} {T' : Lent} {c' : Progress} {m' : ℕ → Reader ℕ} {s : Stop} → refusal_at limit s.code ≡ BadSign b → (IsSign b → ⊥) → Leads input room limit (read_sign input) m' T c (Err s) T' c'
  unfolding pick
  sign_other h f = lead_after (goes_to (simp (ne_eqb b PLUS (λ e. f (inl e)), ne_eqb b MINUS (λ e. f (inr e)))) signed) (refuses (BadSign b) h)

  -- by the answer that says which it is
  pub sign_answered : {limit : ℕ} (r : Result ℕ Stop) → MatchResult r (λ v. IsSign b × (v ≡ b)) (λ s. (IsSign b → ⊥) × ((l : ℕ) → refusal_at l s.code ≡ BadSign b)) → Meets input room limit (read_sign input) T c r T (record c { at = c.at + 1 })
  sign_answered (Ok v) (y, k) = met_as k (sign_read y)
  sign_answered {limit} (Err s) (n, k) = sign_other (k limit) n

pub sign_said : (b : ℕ) (r : Result ℕ Stop) → MatchResult r (λ v. IsSign b × (v ≡ b)) (λ s. (IsSign b → ⊥) × ((l : ℕ) → refusal_at l s.code ≡ BadSign b)) → IfOk r (λ v. IsSign v)
sign_said b (Ok v) (y, k) = rw k y
sign_said b (Err s) q = tt

pub sign_missing : {input : List ℕ} {room : Room} {limit : ℕ} {T T' : Lent} {c c' : Progress} {m' : ℕ → Reader ℕ} → length input ≤ c.at → Leads input room limit (read_sign input) m' T c (Err (stop 4 0)) T' c'
unfolding read_sign
sign_missing {T = T} {c = c} l = lead_stop {T' = T} {c' = c} (lead_first {a = λ v. v} _ (byte_missing l))

-- ---- the count of units, by what reading a count answered

module _ {input : List ℕ} {room : Room} {limit : ℕ} {T T' : Lent} {c c' : Progress} (b : ℕ) where
  pub units_refused : {T'' : Lent} {c'' : Progress} {m' : ℕ → Reader ℕ} {q : Stop} → Meets input room limit (read_count input) T c (Err q) T' c' → Leads input room limit (read_number input room b) m' T c (Err q) T'' c''
  unfolding read_unit_count
  units_refused k = lead_stop (lead_part _ (lead_first _ k))

  module _ (n : ℕ) (k : Meets input room limit (read_count input) T c (Ok n) T' c') where
    -- the count is tested, and the rest is left
    counted : Goes input room (read_number input room b) T c (pick (leb n 4) (pure n) (refuse (TooBig n)) >>= read_magnitude input room b) T' c'
    unfolding read_unit_count
    counted = (lead_part _ (lead_first _ k)).led

    pub units_read : n ≤ 4 → Leads input room limit (read_number input room b) (read_magnitude input room b) T c (Ok n) T' c'
    unfolding pick pure ◌>>=◌ Rattle.definition.specs.Run.next
    units_read h = given (rw (le-leb n 4 h) at counted)

    pub units_over : {T'' : Lent} {c'' : Progress} {m' : ℕ → Reader ℕ} {s : Stop} → 4 < n → refusal_at limit s.code ≡ TooBig n → Leads input room limit (read_number input room b) m' T c (Err s) T'' c''
    unfolding pick
    units_over h e =
        lead_after counted (lead_stop {T' = T'} {c' = c'}
        (lead_part (read_magnitude input room b) (lead_as (rw (lt-leb n 4 h) refl) (refuses {V = ℕ} {m' = λ _. refuse (TooBig n)} (TooBig n) e))))

    pub units_missing : {T'' : Lent} {c'' : Progress} {m' : ℕ → Reader ℕ} → n ≤ 4 → length input - c'.at < n * 2 → Leads input room limit (read_number input room b) m' T c (Err (stop 4 0)) T'' c''
    unfolding read_magnitude
    units_missing h l =
        lead_after (units_read h).led (lead_stop {T' = T'} {c' = c'} (lead_first {V = ℕ} {a = λ _. []} _ (span_missing (n * 2) l)))

-- ---- the magnitude

module _ {input : List ℕ} {room : Room} {T : Lent} {c : Progress} (b n m : ℕ) (h : c.at + n * 2 ≤ length input) (f : n ≤ 4) (v : m ≡ little (take (n * 2) (drop c.at input)) 0) (w : take (n * 2) (drop c.at input) ≡ low_bytes (n * 2) m) where
  -- the units are passed, and say m
  said : Goes input room (read_magnitude input room b n) T c (pick (fits m) (add_bignum room b (low_bytes (n * 2) m) m) (refuse (TooBig n))) T (record c { at = c.at + n * 2 })
  unfolding read_magnitude
  said =
      let a : c.at + n * 2 - n * 2 ≡ c.at = omega arith in
      let e : span_of input (record c { at = c.at + n * 2 }) (n * 2) ≡ low_bytes (n * 2) m = ap (λ (x : ℕ). take (n * 2) (drop x input)) a ∙ w in
      let d : little (low_bytes (n * 2) m) 0 ≡ m = sym (v ∙ ap (λ (x : List ℕ). little x 0) w) in
      goes_to (rw (e, d) refl) (lead_first _ (span_read {limit = 0} (n * 2) (omega arith) (omega arith))).led

  pub magnitude_read : m < 9223372036854775808 → Goes input room (read_magnitude input room b n) T c (add_bignum room b (low_bytes (n * 2) m) m) T (record c { at = c.at + n * 2 })
  unfolding fits pick
  magnitude_read l = goes_to (rw (lt-ltb m 9223372036854775808 l) refl) said

  pub magnitude_over : {limit : ℕ} {T' : Lent} {c' : Progress} {m' : ℕ → Reader ℕ} {s : Stop} → 9223372036854775808 ≤ m → refusal_at limit s.code ≡ TooBig n → Leads input room limit (read_magnitude input room b n) m' T c (Err s) T' c'
  unfolding fits pick
  magnitude_over l e = lead_after (goes_to (rw (le-ltb m 9223372036854775808 l) refl) said) (refuses (TooBig n) e)

-- ---- what is noted

module _ (b m : ℕ) where
  -- dump writes the sign byte b, but not a minus on zero
  pub plus_kept : IsSign b → (b ≡ MINUS → ⊥) → true ≡ eqb b (sign_byte (sign (eqb b MINUS) m))
  unfolding sign sign_byte
  plus_kept (inl e) f = rw e refl
  plus_kept (inr e) f = absurd (f e)

  pub minus_kept : b ≡ MINUS → not (eqb m 0) ≡ eqb b (sign_byte (sign (eqb b MINUS) m))
  unfolding sign sign_byte
  minus_kept e = rw e (go (not (eqb m 0)))
    where
      go : (t : Bool) → t ≡ eqb MINUS (sign_byte t)
      go true = refl
      go false = refl

  -- are the sign byte and n units those that dump writes?
  abbrev kept : ℕ → Bool
  kept n = eqb b (sign_byte (sign (eqb b MINUS) m)) && equal (low_bytes (n * 2) m) (unit_bytes m)

  pub kept_as : {x : ℕ} {k t : Bool} (n : ℕ) → k ≡ eqb b (sign_byte (sign (eqb b MINUS) m)) → x ≡ fewest_units m → k && eqb n x ≡ t → kept n ≡ t
  kept_as n e g q = rw (← e, as_written n m, ← g) q

module _ {input : List ℕ} {room : Room} {T : Lent} {c : Progress} (b n m : ℕ) where
  pub bignum_kept : kept b m n ≡ true → Goes input room (add_bignum room b (low_bytes (n * 2) m) m) T c (add_object_node room (bignum_row (eqb b MINUS) m)) T c
  unfolding add_bignum note ◌>>=◌ Rattle.definition.specs.Run.next
  bignum_kept e = still (λ s H. ap (λ (t : Bool). add_object_node room (bignum_row (eqb b MINUS) m) (noted t s)) e)

  pub bignum_other : kept b m n ≡ false → Goes input room (add_bignum room b (low_bytes (n * 2) m) m) T c (add_object_node room (bignum_row (eqb b MINUS) m)) T (record c { form = false })
  unfolding add_bignum note ◌>>=◌ Rattle.definition.specs.Run.next
  bignum_other e = lost (λ s H. ap (λ (t : Bool). add_object_node room (bignum_row (eqb b MINUS) m) (noted t s)) e)

-- ---- the node's words

module _ (b m : ℕ) where
  pub plus_words : sign (eqb b MINUS) m ≡ false → words (bignum_row (eqb b MINUS) m) ≡ 10 ∷ m % WORD ∷ m / WORD ∷ 0 ∷ 0 ∷ 0 ∷ 0 ∷ 0 ∷ []
  unfolding bignum_row words
  plus_words e = rw e refl

  pub minus_words : sign (eqb b MINUS) m ≡ true → words (bignum_row (eqb b MINUS) m) ≡ 10 ∷ m % WORD ∷ m / WORD ∷ 0 ∷ 1 ∷ 0 ∷ 0 ∷ 0 ∷ []
  unfolding bignum_row words
  minus_words e = rw e refl

  -- zero is plus
  pub zero_plus : m ≡ 0 → sign (eqb b MINUS) m ≡ false
  unfolding sign
  zero_plus z = go (eqb b MINUS) (eq-eqb m 0 z)
    where
      go : (t : Bool) → eqb m 0 ≡ true → t && not (eqb m 0) ≡ false
      go true e = rw e refl
      go false e = refl
