-- The digits that a text begins with, and the number that they say.
use Prim.Native.Nat.{ℕ, suc, ◌+◌, ◌-◌, ◌*◌, ◌^◌, ◌≤◌, ◌<◌}
use native.Mathlib.Omega.{arith}
use native.Mathlib.Nat.{pow-suc, pow-le-pow_right, mul-le-mul_left, mul-le-mul_right, mul_assoc, mul_comm, le_trans, le_of_eq}
use mathlib.Core.Path.{◌≡◌, refl, sym, ap, ◌∙◌}
use mathlib.Core.Bool.{Bool, true, false, cond, ◌&&◌}
use mathlib.Core.List.{List, [], ◌∷◌}
use lib.ListN.{length, get_or, take, drop, length-take, drop_of_length-le}
use lib.Seq.{drop-cons, take-length}
use lib.Dec.{T, ltb, leb, le→leb}
use lib.IntN.{pos}
use lib.Ieee.{binary64, in_float}
use lib.Pow.{pow-add}
use borrow.Author.Tests.{leb-true}
use Rattle.std.specs.List.{prefix_len}
use Rattle.std.specs.Char.{is_ascii_digit}
use Rattle.definition.specs.Run.{pick}
use Rattle.definition.specs.Weight.{is_digit, digits, whole_number}
use Rattle.lists.specs.Joined.{and_left, and_right}

-- ---- digits

-- as the code counts them
pub count_is : (t : List ℕ) → prefix_len is_ascii_digit t ≡ length (digits t)
unfolding digits is_digit pick
count_is [] = refl
count_is (b ∷ bs) = go (leb 0x30 b && leb b 0x39) (count_is bs)
  where
    go : (x : Bool) → prefix_len is_ascii_digit bs ≡ length (digits bs) → cond x (1 + prefix_len is_ascii_digit bs) 0 ≡ length (pick x (b ∷ digits bs) [])
    go true more = omega (arith, more)
    go false more = refl

-- they are all that they begin with
pub digits_all : (t : List ℕ) → digits (digits t) ≡ digits t
unfolding digits pick
digits_all [] = refl
digits_all (b ∷ bs) = go (is_digit b) refl (digits_all bs)
  where
    go : (x : Bool) → is_digit b ≡ x → digits (digits bs) ≡ digits bs → digits (pick x (b ∷ digits bs) []) ≡ pick x (b ∷ digits bs) []
    go true e more = ap (λ (y : Bool). pick y (b ∷ digits (digits bs)) []) e ∙ ap (λ (l : List ℕ). b ∷ l) more
    go false e more = refl

-- and stand in front
pub digits_taken : (t : List ℕ) → take (length (digits t)) t ≡ digits t
unfolding digits pick
digits_taken [] = refl
digits_taken (b ∷ bs) = go (is_digit b) (digits_taken bs)
  where
    go : (x : Bool) → take (length (digits bs)) bs ≡ digits bs → take (length (pick x (b ∷ digits bs) [])) (b ∷ bs) ≡ pick x (b ∷ digits bs) []
    go true more = ap (λ (l : List ℕ). b ∷ l) more
    go false more = refl

-- a text of digits alone
pub digits_whole : (t : List ℕ) → length (digits t) ≡ length t → digits t ≡ t
digits_whole t e = sym (digits_taken t) ∙ ap (λ (n : ℕ). take n t) e ∙ take-length t

-- its first, and what follows
first : (b : ℕ) (bs : List ℕ) → digits (b ∷ bs) ≡ b ∷ bs → (is_digit b ≡ true) × (digits bs ≡ bs)
unfolding digits pick
first b bs = go (is_digit b) refl
  where
    go : (x : Bool) → is_digit b ≡ x → pick x (b ∷ digits bs) [] ≡ b ∷ bs → (is_digit b ≡ true) × (digits bs ≡ bs)
    go true e q = (e, ap (drop 1) q)
    go false e q = absurd (omega (arith, ap length q))

-- a digit's byte
pub digit_byte : (b : ℕ) → is_digit b ≡ true → (0x30 ≤ b) × (b ≤ 0x39)
unfolding is_digit
digit_byte b e = (leb-true 0x30 b (and_left (leb 0x30 b) (leb b 0x39) e), leb-true b 0x39 (and_right (leb 0x30 b) (leb b 0x39) e))

-- ---- the number

-- m and the digits of t from place i on make what n and all of them make, in room for those that are left
pub record Says (t : List ℕ) (n m i : ℕ) : Type 0 where
  pub left : digits (drop i t) ≡ drop i t
  pub value : whole_number n t ≡ whole_number m (drop i t)
  pub room : (m + 1) * 10 ^ (length t - i) ≤ (n + 1) * 10 ^ length t

-- ten of a number's steps are one with a place more
tenfold : (m k : ℕ) → (m + 1) * 10 ^ suc k ≡ (m * 10 + 10) * 10 ^ k
tenfold m k = ap (λ (y : ℕ). (m + 1) * y) (pow-suc 10 k ∙ mul_comm (10 ^ k) 10) ∙ sym (mul_assoc (m + 1) 10 (10 ^ k)) ∙ ap (λ (y : ℕ). y * 10 ^ k) (omega arith)

module _ (t : List ℕ) (n m i : ℕ) (s : Says t n m i) (h : i < length t) where
  abbrev x : ℕ
  x = get_or t i 0

  here : drop i t ≡ x ∷ drop (i + 1) t
  here = let k : suc i ≡ i + 1 = omega arith in drop-cons t i 0 h ∙ ap (λ (j : ℕ). x ∷ drop j t) k

  parts : (is_digit x ≡ true) × (digits (drop (i + 1) t) ≡ drop (i + 1) t)
  parts = first x (drop (i + 1) t) (sym (ap digits here) ∙ s.left ∙ here)

  pub digit_here : (0x30 ≤ x) × (x ≤ 0x39)
  digit_here = digit_byte x parts.0

  more : length t - i ≡ suc (length t - (i + 1))
  more = omega arith

  pub room_here : (B : ℕ) → (n + 1) * 10 ^ length t ≤ B → m * 10 + 10 ≤ B
  room_here B b =
      let k = length t - (i + 1) in
      let p : 1 ≤ 10 ^ k = pow-le-pow_right {n = 10} (omega arith) {i = 0} {j = k} (omega arith) in
      let q : (m * 10 + 10) * 1 ≤ (m * 10 + 10) * 10 ^ k = mul-le-mul_left (m * 10 + 10) p in
      omega (arith, q, tenfold m k, rw more at s.room, b)

  -- with the digit read
  pub says_more : Says t n (m * 10 + (x - 0x30)) (i + 1)
  unfolding whole_number
  says_more =
      let k = length t - (i + 1) in
      let u : m * 10 + (x - 0x30) + 1 ≤ m * 10 + 10 = omega (arith, digit_here.0, digit_here.1) in
      record {
        left = parts.1;
        value = s.value ∙ ap (whole_number m) here;
        room = le_trans (mul-le-mul_right (10 ^ k) u) (le_trans (le_of_eq (sym (tenfold m k))) (rw more at s.room));
      }

-- with all read
pub says_all : (t : List ℕ) (n m i : ℕ) → Says t n m i → length t ≤ i → (m ≡ whole_number n t) × (m + 1 ≤ (n + 1) * 10 ^ length t)
unfolding whole_number
says_all t n m i s h =
    let k : length t - i ≡ 0 = omega arith in
    (sym (s.value ∙ ap (whole_number m) (drop_of_length-le t h)), omega (arith, rw k at s.room))

-- to begin with
pub says_begun : (t : List ℕ) (n : ℕ) → digits t ≡ t → Says t n n 0
says_begun t n e = let k : length t - 0 ≡ length t = omega arith in record { left = e; value = refl; room = rw k (omega arith) }

-- ---- room for fifteen digits

fifteen : (k : ℕ) → k ≤ 15 → 10 ^ k ≤ 10 ^ 15
fifteen k h = pow-le-pow_right {n = 10} (omega arith) {i = k} {j = 15} h

pub room_first : (a : ℕ) → a ≤ 15 → (0 + 1) * 10 ^ a ≤ 10 ^ 15
room_first a h = omega (arith, fifteen a h)

pub room_second : (r a b : ℕ) → a + b ≤ 15 → r + 1 ≤ (0 + 1) * 10 ^ a → (r + 1) * 10 ^ b ≤ 10 ^ 15
room_second r a b h e =
    let u : r + 1 ≤ 10 ^ a = omega (arith, e) in
    le_trans (mul-le-mul_right (10 ^ b) u) (le_trans (le_of_eq (sym (pow-add 10 a b))) (fifteen (a + b) h))

-- a number of fifteen digits is a double
pub exact : (n : ℕ) → n ≤ 10 ^ 15 → T (in_float binary64 (pos n))
unfolding in_float
exact n h = le→leb n 9007199254740992 (omega (arith, h))

-- what the test of the digits' number says
pub few_all : (n k : ℕ) → ltb 0 n && leb (n + k) 15 ≡ true → n + k ≤ 15
few_all n k e = leb-true (n + k) 15 (and_right (ltb 0 n) (leb (n + k) 15) e)

-- a text begins with no more digits than it has bytes
pub digits_most : (t : List ℕ) → length (digits t) ≤ length t
digits_most t = omega (arith, length-take (length (digits t)) t, ap length (digits_taken t))
