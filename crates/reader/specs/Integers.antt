-- An integer that stands at an offset: how many bytes it takes, its 32 bits, whether its size byte is against their sign, and whether dump writes it so.
use Prim.Native.Nat.{ℕ, suc, ◌+◌, ◌-◌, ◌%◌, ◌^◌, ◌≤◌, ◌<◌}
use native.Mathlib.Omega.{arith}
use Rattle.std.specs.Prelude.{Bool, ◌≡◌, get_or, take, drop}
use Rattle.std.proofs.Math.Bool.{true, false}
use Rattle.std.proofs.Math.Path.{refl, sym}
use Rattle.std.proofs.Common.{◌∙◌}
use mathlib.Core.List.{List, [], ◌∷◌}
use Rattle.std.proofs.Math.Dec.{leb, eqb}
use Rattle.std.proofs.Math.ListN.{length}
use borrow.Author.Tests.{lt-ltb, le-ltb, le-leb, lt-leb, ne_eqb, eqb-true, eqb-false, leb-true, leb-false}
use Rattle.definition.specs.Run.{ok, refused, pure, refuse, pick, next, ◌>>=◌}
use Rattle.definition.specs.Integer.{Form, value, data_bytes, form, little, low_bytes, wrong_sign, integer_bytes}
use Rattle.definition.specs.Node.{equal}
use Rattle.definition.specs.Arena.{range}
use Rattle.definition.specs.State.{State, at_set, noted}
use Rattle.definition.specs.Load.{note, integer_of, read_byte, read_bytes, read_form, read_integer}
use Rattle.definition.specs.declared.Refusal.TheVariants.{ShortInput, WrongSign}
use Rattle.lists.specs.Integers.{same_form, form_agrees}
use Rattle.reader.specs.Answers.{coded}

-- how many bytes the form has, the first one included
unfoldable pub size_of : Form → ℕ
size_of (value w) = 1
size_of (data_bytes n above) = suc n

-- its 32 bits, by the bytes after the first
unfoldable pub word_of : List ℕ → Form → ℕ
word_of rest (value w) = w
word_of rest (data_bytes n above) = little (take n rest) above

-- the bytes after the first that are its own
unfoldable pub data_of : List ℕ → Form → List ℕ
data_of rest (value w) = []
data_of rest (data_bytes n above) = take n rest

-- does dump write it so? b is its first byte
abbrev pub as_dumped : List ℕ → ℕ → Form → Bool
as_dumped rest b f = equal (b ∷ data_of rest f) (integer_bytes (word_of rest f))

-- of the integer at an offset: the form that its first byte says; how many bytes it takes; those after the first; its 32 bits; is its size byte against their sign; does dump write it so?
abbrev pub form_at : List ℕ → ℕ → Form
form_at input at = form (get_or input at 0)

abbrev pub size_at : List ℕ → ℕ → ℕ
size_at input at = size_of (form_at input at)

abbrev pub data_at : List ℕ → ℕ → List ℕ
data_at input at = data_of (drop (at + 1) input) (form_at input at)

abbrev pub word_at : List ℕ → ℕ → ℕ
word_at input at = word_of (drop (at + 1) input) (form_at input at)

abbrev pub wrong_at : List ℕ → ℕ → Bool
wrong_at input at = wrong_sign (get_or input at 0) (word_at input at)

abbrev pub dumped_at : List ℕ → ℕ → Bool
dumped_at input at = as_dumped (drop (at + 1) input) (get_or input at 0) (form_at input at)

-- all its bytes are there and its size byte is not against its sign; r is its 32 bits, and its data bytes are r's lowest
pub record Whole (input : List ℕ) (at r : ℕ) : Type 0 where
  pub inside : at + size_at input at ≤ length input
  pub agrees : wrong_at input at ≡ false
  pub word : r ≡ word_at input at
  pub low : data_at input at ≡ low_bytes (size_at input at - 1) r

-- the 32 bits w after the first byte b in one number, with refusals above them
unfoldable pub sign_checked : ℕ → ℕ → ℕ
sign_checked b w = pick (wrong_sign b w) (coded 19 b) w

-- one that dump writes so has the sign that its size byte tells
pub dumped_agrees : (input : List ℕ) (at : ℕ) → word_at input at < 4294967296 → dumped_at input at ≡ true → wrong_at input at ≡ false
dumped_agrees input at u e = form_agrees (word_at input at) (get_or input at 0) _ u e

-- the least number that dump writes with n data bytes; of a negative number, -1 minus it
unfoldable pub least : ℕ → ℕ
least n = pick (eqb n 1) 123 (pick (eqb n 2) 256 (pick (eqb n 3) 65536 16777216))

-- ---- what the first byte says

module _ (b : ℕ) where
  pub of_zero : b ≡ 0 → form b ≡ value 0
  unfolding form pick
  of_zero e = rw e

  pub of_few : (b ≡ 0 → ⊥) → b ≤ 4 → form b ≡ data_bytes b 0
  unfolding form pick
  of_few n h = simp (ne_eqb b 0 n, le-leb b 4 h)

  pub of_plus : 4 < b → b ≤ 127 → form b ≡ value (b - 5)
  unfolding form pick
  of_plus n h = let z : b ≡ 0 → ⊥ = omega arith in simp (ne_eqb b 0 z, lt-leb b 4 n, le-leb b 127 h)

  pub of_minus : 127 < b → b ≤ 250 → form b ≡ value (b + 4294967045)
  unfolding form pick
  of_minus n h =
      let z : b ≡ 0 → ⊥ = omega arith in
      let f : 4 < b = omega arith in
      let g : b ≤ 251 = omega arith in
      let e : (2 ^ 32 + b - 251) % 2 ^ 32 ≡ b + 4294967045 = omega arith in
      simp (ne_eqb b 0 z, lt-leb b 4 f, lt-leb b 127 n, le-leb b 251 g, e)

  pub of_251 : b ≡ 251 → form b ≡ value 0
  unfolding form pick
  of_251 e = rw e

  pub of_many : 251 < b → form b ≡ data_bytes (256 - b) (256 ^ (b - 252) - 1)
  unfolding form pick
  of_many h =
      let z : b ≡ 0 → ⊥ = omega arith in
      let f : 4 < b = omega arith in
      let g : 127 < b = omega arith in
      simp (ne_eqb b 0 z, lt-leb b 4 f, lt-leb b 127 g, lt-leb b 251 h)

-- ---- how many bytes

module _ (b : ℕ) where
  pub size_few : b ≤ 4 → 1 + b ≡ size_of (form b)
  unfolding size_of
  size_few h = go (eqb b 0) refl
    where
      go : (t : Bool) → eqb b 0 ≡ t → 1 + b ≡ size_of (form b)
      go true e = let z = eqb-true b 0 e in rw (of_zero b z) (omega arith)
      go false e = rw (of_few b (eqb-false b 0 e) h) (omega arith)

  pub size_one : 4 < b → b ≤ 251 → 1 ≡ size_of (form b)
  unfolding size_of form pick
  size_one l h = go (leb b 127) refl
    where
      z : b ≡ 0 → ⊥
      z = omega (arith, l)

      go : (t : Bool) → leb b 127 ≡ t → 1 ≡ size_of (form b)
      go true e = simp (ne_eqb b 0 z, lt-leb b 4 l, e)
      go false e = simp (ne_eqb b 0 z, lt-leb b 4 l, e, le-leb b 251 h)

  pub size_many : 251 < b → b ≤ 255 → 257 - b ≡ size_of (form b)
  unfolding size_of
  size_many l h = rw (of_many b l) (omega arith)

  -- five bytes are enough
  pub size_small : size_of (form b) ≤ 5
  unfolding size_of
  size_small = go (leb b 4) refl
    where
      many : (t : Bool) → leb b 251 ≡ t → 4 < b → size_of (form b) ≤ 5
      many true e l = omega (arith, size_one l (leb-true b 251 e))
      many false e l = rw (of_many b (leb-false b 251 e)) (omega (arith, leb-false b 251 e))

      go : (t : Bool) → leb b 4 ≡ t → size_of (form b) ≤ 5
      go true e = omega (arith, size_few (leb-true b 4 e), leb-true b 4 e)
      go false e = many (leb b 251) refl (leb-false b 4 e)

-- there is a first byte
some_byte : (f : Form) → 1 ≤ size_of f
unfolding size_of
some_byte (value w) = omega arith
some_byte (data_bytes n above) = omega arith

pub size_some : (b : ℕ) → 1 ≤ size_of (form b)
size_some b = some_byte (form b)

-- ---- the integer reader

module _ (input : List ℕ) (s : State) (b : ℕ) where
  -- with all its bytes there it comes to what they tell
  form_there : (f : Form) → s.at < length input → s.at + size_of f ≤ length input → read_form input b f (at_set (s.at + 1) s) ≡ integer_of b (data_of (drop (s.at + 1) input) f) (word_of (drop (s.at + 1) input) f) (at_set (s.at + size_of f) s)
  unfolding read_form size_of word_of data_of read_bytes range ◌>>=◌ next pick
  form_there (value w) l h = refl
  form_there (data_bytes n above) l h =
      let le : n ≤ length input - (s.at + 1) = omega arith in
      let e : s.at + 1 + n ≡ s.at + suc n = omega arith in
      simp (le-leb _ _ le, e)

  form_short : (f : Form) → s.at < length input → length input < s.at + size_of f → read_form input b f (at_set (s.at + 1) s) ≡ refused ShortInput
  unfolding read_form size_of read_bytes ◌>>=◌ next pick
  form_short (value w) l h = absurd (omega arith)
  form_short (data_bytes n above) l h = let lt : length input - (s.at + 1) < n = omega arith in simp (lt-leb _ _ lt)

module _ (input : List ℕ) (s : State) where
  integer_there : s.at + size_at input s.at ≤ length input → read_integer input s ≡ integer_of (get_or input s.at 0) (data_at input s.at) (word_at input s.at) (at_set (s.at + size_at input s.at) s)
  unfolding read_integer read_byte ◌>>=◌ next pick
  integer_there h =
      let l : s.at < length input = omega (arith, size_some (get_or input s.at 0)) in
      simp (lt-ltb _ _ l) (form_there input s (get_or input s.at 0) (form_at input s.at) l h)

  -- all its bytes are there
  pub integer_read : s.at + size_at input s.at ≤ length input → wrong_at input s.at ≡ false → read_integer input s ≡ ok (word_at input s.at) (noted (dumped_at input s.at) (at_set (s.at + size_at input s.at) s))
  unfolding integer_of note pure ◌>>=◌ next pick
  integer_read h e = integer_there h ∙ rw e refl

  -- and its size byte is against its sign
  pub integer_wrong : s.at + size_at input s.at ≤ length input → wrong_at input s.at ≡ true → read_integer input s ≡ refused (WrongSign (get_or input s.at 0))
  unfolding integer_of refuse pick
  integer_wrong h e = integer_there h ∙ rw e refl

  -- one is missing
  pub integer_short : length input < s.at + size_at input s.at → s.at < length input → read_integer input s ≡ refused ShortInput
  unfolding read_integer read_byte ◌>>=◌ next pick
  integer_short h l = simp (lt-ltb _ _ l) (form_short input s (get_or input s.at 0) (form_at input s.at) l h)

  pub integer_none : length input ≤ s.at → read_integer input s ≡ refused ShortInput
  unfolding read_integer read_byte ◌>>=◌ next pick
  integer_none h = simp (le-ltb _ _ h)

  -- an integer of one byte, which dump writes so
  pub integer_small : (w : ℕ) → form_at input s.at ≡ value w → w < 4294967296 → integer_bytes w ≡ get_or input s.at 0 ∷ [] → s.at < length input → read_integer input s ≡ ok w (at_set (s.at + 1) s)
  unfolding read_integer read_byte read_form integer_of note pure ◌>>=◌ next pick
  integer_small w e u f l =
      let q = sym (same_form w f) in
      simp (lt-ltb _ _ l, e, form_agrees w _ [] u q, q)
