-- What is read from the input: bytes, integers, the header.
use Prim.Native.Nat.{ℕ, ◌+◌, ◌-◌, ◌≤◌, ◌<◌}
use native.Mathlib.Omega.{arith}
use mathlib.Core.Path.{◌≡◌, refl, sym}
use mathlib.Core.Bool.{Bool, true, false}
use mathlib.Core.List.{List, [], ◌∷◌}
use lib.ListN.{length, get_or}
use Rattle.std.specs.Prelude.{Ok, Err}
use borrow.Author.Tests.{lt-ltb, le-ltb, le-leb, lt-leb}
use Rattle.definition.specs.Run.{ok, pure, pick}
use Rattle.definition.specs.Integer.{value, wrong_sign, integer_bytes}
use Rattle.definition.specs.Arena.{range}
use Rattle.definition.specs.State.{Room, State, Reader, at_set, noted}
use Rattle.definition.specs.Load.{read_byte, read_bytes, read_integer, read_header}
use Rattle.definition.specs.declared.Refusal.TheVariants.{ShortInput, WrongSign}
use Rattle.reader.specs.declared.Stop.{Stop}
use Rattle.reader.specs.Answers.{refusal_at, stop, at_short, Reads}
use Rattle.reader.specs.Integers.{form_at, size_at, word_at, wrong_at, dumped_at, dumped_agrees, integer_read, integer_wrong, integer_short, integer_none, integer_small}
use Rattle.load_state.specs.declared.Progress.{Progress}
use Rattle.load_state.specs.Holds.{Lent, Holds, Goes, Leads, Meets, Spans}
use Rattle.load_state.specs.Laws.{denied, given}
use Rattle.load_state.specs.Changed.{grown_rows, form_lost, at_changed, went}
use Rattle.load_state.specs.Behind.{behind_still}

module _ {input : List ℕ} {room : Room} {c : Progress} {T : Lent} where
  -- only the offset is moved
  pub moved : {A : Type 0} {m : Reader A} {a : A} (n : ℕ) → c.at ≤ n → n ≤ length input → ((s : State) → Holds input room s T c → m s ≡ ok a (at_set n s)) → Goes input room m T c (pure a) T (record c { at = n })
  moved n g h e = record { goes = λ s H. went (at_changed H (omega (arith, H.counted.count_at)) h) (e s H) (grown_rows refl (omega arith)) (behind_still refl refl refl refl refl); counts = refl }

  -- what is read is not in dump form
  pub lost : {A : Type 0} {m m' : Reader A} → ((s : State) → Holds input room s T c → m s ≡ m' (noted false s)) → Goes input room m T c m' T (record c { form = false })
  lost e = record { goes = λ s H. record { state = noted false s; holds = form_lost H; same = e s H; grown = grown_rows refl (omega arith); behind = behind_still refl refl refl refl refl }; counts = refl }

  pub moved_lost : {A : Type 0} {m : Reader A} {a : A} (n : ℕ) → c.at ≤ n → n ≤ length input → ((s : State) → Holds input room s T c → m s ≡ ok a (noted false (at_set n s))) → Goes input room m T c (pure a) T (record c { at = n; form = false })
  moved_lost n g h e = record { goes = λ s H. went (form_lost (at_changed H (omega (arith, H.counted.count_at)) h)) (e s H) (grown_rows refl (omega arith)) (behind_still refl refl refl refl refl); counts = refl }

  pub byte_goes : c.at < length input → Goes input room (read_byte input) T c (pure (get_or input c.at 0)) T (record c { at = c.at + 1 })
  unfolding read_byte pick
  byte_goes l = moved (c.at + 1) (omega arith) (omega arith) (λ s H. let k : c.at ≡ s.at = H.counted.count_at in simp (k, lt-ltb s.at (length input) (omega arith)))

  -- an integer whose bytes are all there
  integer_there : (t : Bool) (v : ℕ) → c.at + size_at input c.at ≤ length input → v ≡ word_at input c.at → t ≡ dumped_at input c.at → wrong_at input c.at ≡ false → (s : State) → Holds input room s T c → read_integer input s ≡ ok v (noted t (at_set (c.at + size_at input c.at) s))
  integer_there t v h e q a s H =
      let k = H.counted.count_at in
      rw (q, e, k) (integer_read input s (rw k at h) (rw k at a))

module _ {input : List ℕ} {room : Room} {limit : ℕ} {c : Progress} {T : Lent} where
  pub byte_missing : {V : Type 0} {T' : Lent} {c' : Progress} {m' : V → Reader ℕ} → length input ≤ c.at → Leads input room limit (read_byte input) m' T c (Err (stop 4 0)) T' c'
  unfolding read_byte pick
  byte_missing l = denied ShortInput (at_short limit) (record { refuses = λ s H. let le : length input ≤ s.at = omega arith in simp (le-ltb _ _ le) })

  pub span_read : (n : ℕ) → c.at ≤ length input → n ≤ length input - c.at → Spans input room limit (read_bytes input n) T c (Ok n) T (record c { at = c.at + n })
  unfolding read_bytes range pick
  span_read n i l =
      given
      (moved (c.at + n) (omega arith) (omega arith) (λ s H.
      let k : c.at ≡ s.at = H.counted.count_at in
      let le : n ≤ length input - s.at = omega arith in
      let b : c.at + n - n ≡ s.at = omega arith in
      simp (le-leb _ _ le, b) (rw k refl)))

  pub span_missing : {V : Type 0} (n : ℕ) {T' : Lent} {c' : Progress} {m' : V → Reader (List ℕ)} → length input - c.at < n → Leads input room limit (read_bytes input n) m' T c (Err (stop 4 0)) T' c'
  unfolding read_bytes pick
  span_missing n l = denied ShortInput (at_short limit) (record { refuses = λ s H. let lt : length input - s.at < n = omega arith in simp (lt-leb _ _ lt) })

  -- an integer whose bytes are all there, in dump form or in another; one of one byte; one whose bytes are not
  pub integer_whole : (v : ℕ) → c.at + size_at input c.at ≤ length input → v ≡ word_at input c.at → true ≡ dumped_at input c.at → v < 4294967296 → Meets input room limit (read_integer input) T c (Ok v) T (record c { at = c.at + size_at input c.at })
  integer_whole v h e q f =
      let a = dumped_agrees input c.at (omega (arith, e, f)) (sym q) in
      given (moved (c.at + size_at input c.at) (omega arith) h (integer_there true v h e q a))

  pub integer_other : (v : ℕ) → c.at + size_at input c.at ≤ length input → v ≡ word_at input c.at → false ≡ dumped_at input c.at → wrong_sign (get_or input c.at 0) v ≡ false → Meets input room limit (read_integer input) T c (Ok v) T (record c { at = c.at + size_at input c.at; form = false })
  integer_other v h e q w = given (moved_lost (c.at + size_at input c.at) (omega arith) h (integer_there false v h e q (rw e at w)))

  -- its size byte is against its sign
  pub integer_against : {V : Type 0} (v : ℕ) {T' : Lent} {c' : Progress} {m' : V → Reader ℕ} {q : Stop} → c.at + size_at input c.at ≤ length input → v ≡ word_at input c.at → (wrong_sign (get_or input c.at 0) v ≡ true) × ((l : ℕ) → refusal_at l q.code ≡ WrongSign (get_or input c.at 0)) → Leads input room limit (read_integer input) m' T c (Err q) T' c'
  integer_against v h e w = denied (WrongSign _) (w.1 limit) (record { refuses = λ s H. let o = H.counted.count_at in rw o (integer_wrong input s (rw o at h) (rw (e, o) at w.0)) })

  pub integer_one : (v : ℕ) → c.at < length input → form_at input c.at ≡ value v → integer_bytes v ≡ get_or input c.at 0 ∷ [] → v < 4294967296 → Meets input room limit (read_integer input) T c (Ok v) T (record c { at = c.at + 1 })
  integer_one v h e b f =
      given
      (moved (c.at + 1) (omega arith) (omega arith) (λ s H. let k = H.counted.count_at in rw k (integer_small input s v (rw k at e) f (rw k at b) (omega arith))))

  pub integer_cut : {V : Type 0} {T' : Lent} {c' : Progress} {m' : V → Reader ℕ} → c.at < length input → length input - c.at < size_at input c.at → Leads input room limit (read_integer input) m' T c (Err (stop 4 0)) T' c'
  integer_cut h l = denied ShortInput (at_short limit) (record { refuses = λ s H. let k = H.counted.count_at in let g : length input < c.at + size_at input c.at = omega arith in integer_short input s (rw k at g) (omega arith) })

  pub integer_gone : {V : Type 0} {T' : Lent} {c' : Progress} {m' : V → Reader ℕ} → length input ≤ c.at → Leads input room limit (read_integer input) m' T c (Err (stop 4 0)) T' c'
  integer_gone l = denied ShortInput (at_short limit) (record { refuses = λ s H. integer_none input s (omega arith) })

-- ---- the header

module _ {input : List ℕ} {room : Room} {limit : ℕ} {T : Lent} {c : Progress} where
  pub header_read : c.at + 2 ≤ length input → Reads (read_header input) c.at (Ok true) (c.at + 2) → Meets input room limit (read_header input) T c (Ok tt) T (record c { at = c.at + 2 })
  header_read h k = given (moved (c.at + 2) (omega arith) h (λ s H. k s (sym H.counted.count_at)))

  -- an older version
  pub header_older : c.at + 2 ≤ length input → Reads (read_header input) c.at (Ok false) (c.at + 2) → Meets input room limit (read_header input) T c (Ok tt) T (record c { at = c.at + 2; form = false })
  header_older h k = given (moved_lost (c.at + 2) (omega arith) h (λ s H. k s (sym H.counted.count_at)))

  pub header_stop : {T' : Lent} {c' : Progress} {q : Stop} → Reads (read_header input) c.at (Err q) (c.at + 2) → Meets input room limit (read_header input) T c (Err q) T' c'
  header_stop k = record { led = record { refuses = λ s H. k limit s (sym H.counted.count_at) } }
