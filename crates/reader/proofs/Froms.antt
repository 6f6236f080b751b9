-- A reader's answers at an offset, by what the definition's readers do there.
use Prim.Native.Nat.{ℕ, ◌+◌, ◌-◌, ◌≤◌, ◌<◌}
use native.Mathlib.Omega.{arith}
use mathlib.Core.Path.{◌≡◌, refl, sym, ap, ◌∙◌}
use mathlib.Core.Bool.{Bool, true, false, ◌&&◌}
use mathlib.Core.List.{List}
use lib.ListN.{length, get_or, take, drop, length-drop}
use lib.Seq.{length-take-le}
use borrow.Author.Tests.{lt-ltb, le-ltb, le-leb, lt-leb}
use Rattle.definition.specs.Run.{ok, refused, pure, refuse, pick, next, ◌>>=◌}
use Rattle.definition.specs.Integer.{low_bytes, wrong_sign}
use Rattle.definition.specs.Slice.{INPUT}
use Rattle.definition.specs.Arena.{range, too_long}
use Rattle.definition.specs.State.{Reader, noted}
use Rattle.definition.specs.Load.{read_byte, read_bytes, read_header, read_integer, read_count, read_byte_string}
use Rattle.definition.specs.Reader.{starting, read_at, taken, header_taken, spanned}
use Rattle.definition.specs.Refused.{Accepted}
use Rattle.definition.specs.declared.Refusal.{Refusal}
use Rattle.definition.specs.declared.Refusal.TheVariants.{BadTables, ShortInput, NegativeCount}
use Rattle.lists.specs.Runs.{err_is}
use Rattle.reader.specs.From.{taken_as, not_taken, no_text, byte_from, header_from, integer_from, text_from}
use Rattle.reader.specs.Integers.{Whole, size_at, data_at, word_at, dumped_at, sign_checked, integer_read, integer_wrong}
use Rattle.reader.specs.Answers.{refusal_at, coded, at_wrong_sign}

-- at the start all is in dump form
and_true : (t : Bool) → (t && true) ≡ t
and_true true = refl
and_true false = refl

-- ---- the length of the whole input

pub read_allowed : {A : Type 0} (input : List ℕ) (at : ℕ) (m : Reader A) → too_long (length input) ≡ false → read_at input at m ≡ m (starting at)
unfolding read_at pick
read_allowed input at m e = rw e refl

pub read_denied : {A : Type 0} (input : List ℕ) (at : ℕ) (m : Reader A) → too_long (length input) ≡ true → read_at input at m ≡ refused (BadTables INPUT)
unfolding read_at pick
read_denied input at m e = rw e refl

-- these, and what `?` hands up
pub ruleset tested = (read_allowed, read_denied, err_is)

module _ (input : List ℕ) (at : ℕ) where
  -- ---- a byte and the header

  pub byte_there : at < length input → taken_as (get_or input at 0) (at + 1) true ≡ byte_from input at
  unfolding taken read_byte pick
  byte_there l = simp (lt-ltb _ _ l)

  pub byte_none : length input ≤ at → not_taken ShortInput at ≡ byte_from input at
  unfolding taken read_byte pick
  byte_none l = simp (le-ltb _ _ l)

  pub header_past : length input < at → not_taken ShortInput at ≡ header_from input at
  unfolding header_taken read_header read_byte ◌>>=◌ next pick
  header_past l = let h : length input ≤ at = omega arith in simp (le-ltb _ _ h)

  pub header_refused : {q : Refusal} → read_header input (starting at) ≡ refused q → not_taken q at ≡ header_from input at
  unfolding header_taken
  header_refused e = sym (ap (header_taken at) e)

  pub header_there : (t : Bool) {p : ℕ} → read_header input (starting at) ≡ ok tt (noted t (starting p)) → taken_as 0 p t ≡ header_from input at
  unfolding header_taken
  header_there t {p} e = sym (ap (header_taken at) e ∙ ap (taken_as 0 p) (and_true t))

  -- ---- an integer

  -- what its first byte and its 32 bits say in one number
  pub integer_checked : {w r : ℕ} → at + size_at input at ≤ length input → w ≡ word_at input at → data_at input at ≡ low_bytes (size_at input at - 1) w → w < 4294967296 → r ≡ sign_checked (get_or input at 0) w → get_or input at 0 ≤ 255 → (4294967296 ≤ r → read_integer input (starting at) ≡ refused (refusal_at 0 r)) × (r < 4294967296 → Whole input at r)
  unfolding sign_checked pick
  integer_checked {w} {r} h e d u c b = go (wrong_sign (get_or input at 0) w) refl c
    where
      go : (t : Bool) → wrong_sign (get_or input at 0) w ≡ t → r ≡ pick t (coded 19 (get_or input at 0)) w → (4294967296 ≤ r → read_integer input (starting at) ≡ refused (refusal_at 0 r)) × (r < 4294967296 → Whole input at r)
      go true q f =
          (λ l. integer_wrong input (starting at) h (rw e at q) ∙ ap refused (sym (ap (refusal_at 0) f ∙ at_wrong_sign 0 _ b)), λ l. absurd (omega (arith, f)))
      go false q f =
          (λ l. absurd (omega (arith, f)), λ l. record { inside = h; agrees = rw e at q; word = f ∙ e; low = rw f d })

  pub integer_whole : {w n : ℕ} {t : Bool} → Whole input at w → n ≡ size_at input at → t ≡ dumped_at input at → read_integer input (starting at) ≡ ok w (noted t (starting (at + n)))
  integer_whole k e q = rw (e, k.word, q) (integer_read input (starting at) k.inside k.agrees)

  pub integer_there : (t : Bool) {w p : ℕ} → read_integer input (starting at) ≡ ok w (noted t (starting p)) → taken_as w p t ≡ integer_from input at
  unfolding taken
  integer_there t {w} {p} e = sym (ap (taken at) e ∙ ap (taken_as w p) (and_true t))

  -- ---- a byte string

  pub text_refused : {q : Refusal} → read_integer input (starting at) ≡ refused q → no_text q at ≡ text_from input at
  unfolding spanned read_byte_string read_count ◌>>=◌ next
  text_refused e = simp e

  module _ (t : Bool) {w p : ℕ} (e : read_integer input (starting at) ≡ ok w (noted t (starting p))) where
    pub text_negative : 2147483648 ≤ w → no_text (NegativeCount w) at ≡ text_from input at
    unfolding spanned read_byte_string read_count ◌>>=◌ next pick refuse
    text_negative h = simp (e, le-ltb _ _ h)

    pub text_short : w < 2147483648 → length input - p < w → no_text ShortInput at ≡ text_from input at
    unfolding spanned read_byte_string read_count read_bytes ◌>>=◌ next pick pure
    text_short l h = simp (e, lt-ltb _ _ l, lt-leb _ _ h)

    pub text_there : w < 2147483648 → w ≤ length input - p → record { answer = Accepted; start = p; length = w; offset = p + w; form = t } ≡ text_from input at
    unfolding spanned read_byte_string read_count read_bytes range ◌>>=◌ next pick pure
    text_there l h =
        let k : length (take w (drop p input)) ≡ w = length-take-le w (drop p input) (simp length-drop h) in
        let m : p + w - w ≡ p = omega arith in
        simp (e, lt-ltb _ _ l, le-leb _ _ h, k, m, and_true t)
