-- A text by what the code finds in it: where its digits end, and whether it is a number's.
use Prim.Native.Nat.{ℕ, ◌+◌, ◌-◌, ◌*◌, ◌<◌}
use native.Mathlib.Omega.{arith}
use mathlib.Core.Path.{◌≡◌, refl, sym, ap, ◌∙◌}
use mathlib.Core.Bool.{Bool, true, false, ◌&&◌}
use mathlib.Core.List.{List, [], ◌∷◌, ◌++◌}
use mathlib.Core.Option.{none, some}
use lib.Dec.{ltb, leb, eqb}
use lib.ListN.{length, get_or, take, drop, length-drop}
use lib.Seq.{drop-cons, take_all}
use borrow.Author.Tests.{ltb-true, leb-true, eqb-true, lt-ltb, le-leb, eq-eqb, ne_eqb}
use Rattle.definition.specs.Run.{pick}
use Rattle.definition.specs.Weight.{digits, after_digits, fraction_of, decimal_if, unsigned, decimal, whole_number, with_sign, quotient, double, text_reading}
use Rattle.definition.specs.declared.Reading.TheVariants.{Double, NotANumber}
use Rattle.lists.specs.Joined.{and_left, and_right}
use Rattle.decimal.proofs.Laws.{digits_all, digits_taken, digits_whole, digits_most}

-- the number of digits one after the other
number_append : (n : ℕ) (xs ys : List ℕ) → whole_number n (xs ++ ys) ≡ whole_number (whole_number n xs) ys
unfolding whole_number
number_append n [] ys = refl
number_append n (x ∷ xs) ys = number_append (n * 10 + (x - 0x30)) xs ys

-- two ways to ask the same
same_test : (a b : Bool) → (a ≡ true → b ≡ true) → (b ≡ true → a ≡ true) → a ≡ b
same_test true true p q = refl
same_test true false p q = sym (p refl)
same_test false true p q = q refl
same_test false false p q = refl

pub no_bytes : (l : List ℕ) → length l ≡ 0 → l ≡ []
no_bytes [] q = refl
no_bytes (x ∷ l) q = absurd (omega (arith, q))

-- all but the first
pub rest_is : (l : List ℕ) → take (length l - 1) (drop 1 l) ≡ drop 1 l
rest_is l = take_all (length l - 1) (drop 1 l) (omega (arith, length-drop 1 l))

-- ---- with digits before the point and after it

module _ (minus : Bool) (whole part : List ℕ) where
  abbrev few : Bool
  few = ltb 0 (length whole) && leb (length whole + length part) 15

  told : text_reading (decimal_if minus whole (some part)) ≡ pick few (Double (with_sign minus (quotient (whole_number (whole_number 0 whole) part) (length part)))) NotANumber
  unfolding decimal_if text_reading double pick
  told = go few
    where
      go : (b : Bool) → text_reading (pick b (some (record { minus = minus; whole = whole; fraction = part })) none) ≡ pick b (Double (with_sign minus (quotient (whole_number (whole_number 0 whole) part) (length part)))) NotANumber
      go true = ap (λ (n : ℕ). Double (with_sign minus (quotient n (length part)))) (number_append 0 whole part)
      go false = refl

  pub is_number : few ≡ true → (x : ℕ) → x ≡ whole_number (whole_number 0 whole) part → Double (with_sign minus (quotient x (length part))) ≡ text_reading (decimal_if minus whole (some part))
  unfolding pick
  is_number e x f =
      ap (λ (n : ℕ). Double (with_sign minus (quotient n (length part)))) f
      ∙ sym (told ∙ ap (λ (b : Bool). pick b (Double (with_sign minus (quotient (whole_number (whole_number 0 whole) part) (length part)))) NotANumber) e)

  pub no_number : few ≡ false → NotANumber ≡ text_reading (decimal_if minus whole (some part))
  unfolding pick
  no_number e = sym (told ∙ ap (λ (b : Bool). pick b (Double (with_sign minus (quotient (whole_number (whole_number 0 whole) part) (length part)))) NotANumber) e)

-- ---- what stands after the whole digits, of which there are n

module _ (t : List ℕ) (minus : Bool) (n : ℕ) (p : n ≡ length (digits t)) (whole rest : List ℕ) (w : whole ≡ take n t) (r : rest ≡ drop n t) where
  whole_is : whole ≡ digits t
  whole_is = w ∙ ap (λ (k : ℕ). take k t) p ∙ digits_taken t

  pub whole_digits : digits whole ≡ whole
  whole_digits = ap digits whole_is ∙ digits_all t ∙ sym whole_is

  by_rest : (l : List ℕ) → rest ≡ l → text_reading (unsigned minus t) ≡ text_reading (decimal_if minus whole (fraction_of l))
  unfolding unsigned after_digits
  by_rest l e =
      ap (λ (x : List ℕ). text_reading (decimal_if minus x (fraction_of (drop (length (digits t)) t)))) (sym whole_is)
      ∙ ap (λ (x : List ℕ). text_reading (decimal_if minus whole (fraction_of x))) (ap (λ (k : ℕ). drop k t) (sym p) ∙ sym r ∙ e)

  -- nothing
  pub ends_whole : length rest ≡ 0 → text_reading (decimal_if minus whole (some rest)) ≡ text_reading (unsigned minus t)
  unfolding fraction_of
  ends_whole e = let none_left = no_bytes rest e in ap (λ (l : List ℕ). text_reading (decimal_if minus whole (some l))) none_left ∙ sym (by_rest [] none_left)

  module _ (h : 0 < length rest) where
    abbrev mark : ℕ
    mark = get_or rest 0 0

    -- another byte than a point
    pub no_point : (mark ≡ 0x2E → ⊥) → NotANumber ≡ text_reading (unsigned minus t)
    unfolding fraction_of decimal_if text_reading pick
    no_point q = sym (by_rest (mark ∷ drop 1 rest) (drop-cons rest 0 0 h) ∙ rw (ne_eqb mark 0x2E q) refl)

    module _ (e : mark ≡ 0x2E) (part : List ℕ) (q : part ≡ drop 1 rest) (k : ℕ) (c : k ≡ length (digits part)) where
      abbrev found : Bool
      found = ltb 0 (length part) && eqb k (length part)

      abbrev asked : Bool
      asked = leb 1 (length (digits part)) && eqb (length (after_digits part)) 0

      left : length (after_digits part) ≡ length part - length (digits part)
      unfolding after_digits
      left = length-drop (length (digits part)) part

      found_asked : asked ≡ found
      found_asked =
          same_test asked found
          (λ g.
          let some_digits = leb-true 1 (length (digits part)) (and_left _ _ g) in
          let rest_none = eqb-true (length (after_digits part)) 0 (and_right (leb 1 (length (digits part))) _ g) in
          rw (lt-ltb 0 (length part) (omega (arith, some_digits, digits_most part)), eq-eqb k (length part) (omega (arith, rest_none, left, digits_most part, c))) refl)
          (λ g.
          let some_bytes = ltb-true 0 (length part) (and_left _ _ g) in
          let all = eqb-true k (length part) (and_right (ltb 0 (length part)) _ g) in
          rw (le-leb 1 (length (digits part)) (omega (arith, some_bytes, all, c)), eq-eqb (length (after_digits part)) 0 (omega (arith, all, left, c))) refl)

      by_point : text_reading (unsigned minus t) ≡ text_reading (decimal_if minus whole (pick found (some (digits part)) none))
      unfolding fraction_of
      by_point =
          by_rest (mark ∷ part) (drop-cons rest 0 0 h ∙ ap (λ (l : List ℕ). mark ∷ l) (sym q))
          ∙ ap (λ (x : Bool). text_reading (decimal_if minus whole (pick (x && leb 1 (length (digits part)) && eqb (length (after_digits part)) 0) (some (digits part)) none))) (eq-eqb mark 0x2E e)
          ∙ ap (λ (x : Bool). text_reading (decimal_if minus whole (pick x (some (digits part)) none))) found_asked

      -- digits to the end, and one at least
      pub part_digits : found ≡ true → digits part ≡ part
      part_digits f = digits_whole part (sym c ∙ eqb-true k (length part) (and_right (ltb 0 (length part)) _ f))

      pub ends_part : found ≡ true → text_reading (decimal_if minus whole (some part)) ≡ text_reading (unsigned minus t)
      unfolding pick
      ends_part f =
          ap (λ (l : List ℕ). text_reading (decimal_if minus whole (some l))) (sym (part_digits f))
          ∙ sym (by_point ∙ ap (λ (b : Bool). text_reading (decimal_if minus whole (pick b (some (digits part)) none))) f)

      pub no_part : found ≡ false → NotANumber ≡ text_reading (unsigned minus t)
      unfolding pick decimal_if text_reading
      no_part f = sym (by_point ∙ ap (λ (b : Bool). text_reading (decimal_if minus whole (pick b (some (digits part)) none))) f)

-- ---- the minus

pub no_text : (t : List ℕ) → length t ≡ 0 → NotANumber ≡ text_reading (decimal t)
unfolding decimal text_reading
no_text [] e = refl
no_text (b ∷ t) e = absurd (omega (arith, e))

pub with_minus : (t : List ℕ) → 0 < length t → get_or t 0 0 ≡ 0x2D → text_reading (unsigned true (drop 1 t)) ≡ text_reading (decimal t)
unfolding decimal pick
with_minus [] h e = absurd (omega (arith, h))
with_minus (b ∷ t) h e = sym (ap text_reading (ap (λ (x : Bool). pick x (unsigned true t) (unsigned false (b ∷ t))) (eq-eqb b 0x2D e)))

pub without_minus : (t : List ℕ) → 0 < length t → (get_or t 0 0 ≡ 0x2D → ⊥) → text_reading (unsigned false t) ≡ text_reading (decimal t)
unfolding decimal pick
without_minus [] h n = absurd (omega (arith, h))
without_minus (b ∷ t) h n = sym (ap text_reading (ap (λ (x : Bool). pick x (unsigned true t) (unsigned false (b ∷ t))) (ne_eqb b 0x2D n)))
