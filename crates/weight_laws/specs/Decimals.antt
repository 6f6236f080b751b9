-- The double of a decimal: one rounding, so the nearest; its sign, and how small and how large it can be. And the double of a whole reading, which is exact.
use Rattle.std.specs.Prelude.{ℕ, zero, suc, ◌+◌, ◌-◌, ◌*◌, ◌^◌, ◌≤◌, ◌<◌, ◌≡◌, refl, Bool, true, false, not, cond, List, ◌++◌, ◌⊎◌, ◌↔◌, T, ltb, leb, eqb, ℤ, pos, negsuc, length, Float}
use Rattle.std.proofs.Common.{le_trans, le_of_eq, le_of_lt, lt_of_lt_of_le, lt_irrefl, mul-one, one-mul, zero-mul, mul-le-mul_left, mul-le-mul_right, mul-pos, pow-suc, arith, sym, ap, ◌∙◌, subst, true≢false, inl, inr, lit≤, lit<, length-append, leb-true, ltb-true, ltb-false, ne_eqb}
use Rattle.std.proofs.Math.Nat.{pow-le-pow_right}
use Rattle.std.proofs.Math.Option.{some}
use Rattle.std.specs.Int.Signed.{mag}
use Rattle.std.specs.Float.{nan, inf, fin, Format, binary64}
use Rattle.std.specs.Float.Ieee.{up, down, unlike, round, neg, div, of_int}
use Rattle.std.specs.Float.Ieee.Fits.{up_pos, down_pos}
use Rattle.std.specs.Float.Ieee.Exact.{HasValue, round_exact}
use Rattle.std.specs.Float.Ieee.Back.{round_whole}
use Rattle.std.specs.Float.Ieee.Scale.{finite, round_same, round_under}
use Rattle.std.specs.Float.Ieee.Positive.{num, den, den_pos}
use Rattle.definition.specs.Run.{pick}
use Rattle.definition.specs.Refused.{signed}
use Rattle.definition.specs.Weight.{is_digit, Decimal, decimal, whole_number, with_sign, quotient, double, apart, Nearest}
use Rattle.lists.specs.Joined.{and_right}
use Rattle.weight_laws.specs.Values.{value_finite, own_value, cross, zero_num}
use Rattle.weight_laws.specs.Rounding.{rounded_near, fraction_twice, double_twice}
use Rattle.weight_laws.specs.Nearest.{round_nearest}
use Rattle.weight_laws.specs.Grammar.{Digits, last, digit, Proper, decimal_sound}

-- ---- its two numbers: the digits as one number, and the power of ten that it is divided by

abbrev pub number : Decimal → ℕ
number d = whole_number 0 (d.whole ++ d.fraction)

abbrev pub power : Decimal → ℕ
power d = 10 ^ length d.fraction

digits_append : (ds es : List ℕ) → Digits ds → Digits es → Digits (ds ++ es)
digits_append ds es last h = h
digits_append ds es (digit {bs = bs} t k) h = digit t (digits_append bs es k h)

digit_below : (b : ℕ) → is_digit b ≡ true → b - 0x30 ≤ 9
unfolding is_digit
digit_below b h = omega (arith, leb-true b 0x39 (and_right (leb 0x30 b) (leb b 0x39) h))

whole_number_below : (bs : List ℕ) (n : ℕ) → Digits bs → whole_number n bs < (n + 1) * 10 ^ length bs
unfolding whole_number
whole_number_below bs n last = omega arith
whole_number_below bs n (digit {b = b} {bs = rest} t h) =
    let m = n * 10 + (b - 0x30) in
    let small : m + 1 ≤ (n + 1) * 10 = omega (arith, digit_below b t) in
    lt_of_lt_of_le (whole_number_below rest m h) (le_trans (mul-le-mul_right (10 ^ length rest) small) (le_of_eq (ten n (10 ^ length rest) ∙ ap (λ (z : ℕ). (n + 1) * z) (sym (pow-suc 10 (length rest))))))
  where
    ten : (n q : ℕ) → (n + 1) * 10 * q ≡ (n + 1) * (q * 10)
    ten n q = omega arith

pub number_below : (d : Decimal) → Proper d → number d < 10 ^ 15
number_below d p =
    lt_of_lt_of_le (whole_number_below (d.whole ++ d.fraction) 0 (digits_append d.whole d.fraction p.whole_digits p.fraction_digits))
    (le_trans (le_of_eq (one-mul (10 ^ length (d.whole ++ d.fraction)))) (pow-le-pow_right {n = 10} (omega arith) (le_trans (le_of_eq (length-append d.whole d.fraction)) p.few)))

pub power_below : (d : Decimal) → Proper d → power d ≤ 10 ^ 14
power_below d p =
    let few : length d.fraction ≤ 14 = omega (arith, p.some_whole, p.few) in
    pow-le-pow_right {n = 10} (omega arith) few

power_pos : (k : ℕ) → 0 < 10 ^ k
power_pos zero = omega arith
power_pos (suc k) = omega (arith, power_pos k, pow-suc 10 k)

-- ---- a quotient of doubles is a fraction rounded once

pub exact : (n : ℕ) → n ≤ 2 ^ 53 → HasValue (of_int binary64 (pos n)) false n 1
unfolding of_int
exact n h = round_whole binary64 false n h

not_zero : (m u c a d : ℕ) → 0 < a → 0 < d → m * u * c ≡ a * d → m ≡ 0 → ⊥
not_zero m u c a d A D e z = lt_irrefl 0 (subst (λ (x : ℕ). 0 < x) (sym e ∙ ap (λ (x : ℕ). x * u * c) z ∙ ap (λ (x : ℕ). x * c) (zero-mul u) ∙ zero-mul c) (mul-pos A D))

-- a / c over b / d, by any fractions that the doubles equal
pub div_at : (f : Format) (x y : Float) (s : Bool) (a c b d : ℕ) → 0 < c → 0 < d → 0 < b → HasValue x s a c → HasValue y false b d → div f x y ≡ round f s (a * d) (c * b)
unfolding div
div_at f nan y s a c b d C D B v w = absurd v
div_at f (inf t) y s a c b d C D B v w = absurd v
div_at f (fin t m e) nan s a c b d C D B v w = absurd w
div_at f (fin t m e) (inf u) s a c b d C D B v w = absurd w
div_at f (fin t m e) (fin true n g) s a c b d C D B v w = absurd (true≢false w.0)
div_at f (fin t m e) (fin false n g) s a c b d C D B v w =
    ap (λ (z : Bool). cond z (cond (eqb m 0) nan (inf (unlike t false))) (round f (unlike t false) (m * up e * down g) (n * up g * down e))) (ne_eqb n 0 N)
    ∙ ap (λ (z : Bool). round f z (m * up e * down g) (n * up g * down e)) (same t ∙ v.0)
    ∙ round_same f s (m * up e * down g) (n * up g * down e) (a * d) (c * b) (mul-pos (mul-pos (above n N) (up_pos g)) (down_pos e)) (mul-pos C B)
    (crossed (m * up e) (down e) (n * up g) (down g) a c b d v.1 w.1)
  where
    same : (t : Bool) → unlike t false ≡ t
    same true = refl
    same false = refl

    N : n ≡ 0 → ⊥
    N = not_zero n (up g) d b (down g) B (down_pos g) w.1

    above : (n : ℕ) → (n ≡ 0 → ⊥) → 0 < n
    above n h = omega arith

    crossed : (x p y q a c b d : ℕ) → x * c ≡ a * p → y * d ≡ b * q → x * q * (c * b) ≡ a * d * (y * p)
    crossed x p y q a c b d v w = omega (arith, ap (λ (z : ℕ). z * (q * b)) v, ap (λ (z : ℕ). z * (a * p)) w)

pub quotient_rounds : (n k : ℕ) → n ≤ 2 ^ 53 → 10 ^ k ≤ 2 ^ 53 → quotient n k ≡ round binary64 false n (10 ^ k)
unfolding quotient
quotient_rounds n k h l =
    div_at binary64 (of_int binary64 (pos n)) (of_int binary64 (pos (10 ^ k))) false n 1 (10 ^ k) 1 (omega arith) (omega arith) (power_pos k) (exact n h) (exact (10 ^ k) l)
    ∙ ap (λ (z : ℕ). round binary64 false z (1 * 10 ^ k)) (mul-one n)
    ∙ ap (λ (z : ℕ). round binary64 false n z) (one-mul (10 ^ k))

-- ---- how small and how large the doubles of readings are

-- x is finite with the sign s, and 0, or from 2 ^ -48 to 2 ^ 51 in size
pub record Plain (s : Bool) (x : Float) : Type 0 where
  pub value : HasValue x s (num x) (den x)
  pub small : (num x ≡ 0) ⊎ (den x ≤ num x * 2 ^ 48)
  pub large : num x ≤ 2 ^ 51 * den x

-- zero, rounded, is a zero of its sign
pub round_zero : (s : Bool) (c : ℕ) → 0 < c → HasValue (round binary64 s 0 c) s 0 c
round_zero s c C = round_exact binary64 s 0 c 0 0 C (lit< tt) (lit< tt) (sym (zero-mul c))

-- a zero
plain_zero : (x : Float) (s : Bool) (c : ℕ) → 0 < c → HasValue x s 0 c → Plain s x
plain_zero x s c C v =
    let z = zero_num x s c C v in
    record { value = own_value x s 0 c v; small = inl z; large = subst (λ (m : ℕ). m ≤ 2 ^ 51 * den x) (sym z) (omega arith) }

-- a whole number of at most 31 digits
plain_whole : (x : Float) (s : Bool) (n : ℕ) → n ≤ 2 ^ 31 → HasValue x s n 1 → Plain s x
plain_whole x s zero h v = plain_zero x s 1 (omega arith) v
plain_whole x s (suc n) h v =
    let e = cross x s (suc n) 1 v in
    record { value = own_value x s (suc n) 1 v; small = inr (omega (arith, e)); large = omega (arith, e, mul-le-mul_right (den x) h) }

-- n / c from 10 ^ -14 to 10 ^ 15
near_small : (n c m d : ℕ) → 1 ≤ n → c ≤ 10 ^ 14 → n * d ≤ 2 * (m * c) → d ≤ m * 2 ^ 48
near_small n c m d N C h = omega (arith, h, mul-le-mul_right d N, mul-le-mul_left m C)

near_large : (n c m d : ℕ) → 1 ≤ c → n ≤ 10 ^ 15 → m * c ≤ 2 * (n * d) → m ≤ 2 ^ 51 * d
near_large n c m d C N h = omega (arith, h, mul-le-mul_left m C, mul-le-mul_right d N)

wide_small : (n c : ℕ) → 1 ≤ n → c ≤ 10 ^ 14 → c ≤ n * 2 ^ 100
wide_small n c N C = omega arith

wide_large : (n c : ℕ) → 1 ≤ c → n ≤ 10 ^ 15 → n ≤ 2 ^ 100 * c
wide_large n c C N = omega arith

-- ---- whole readings

-- from -2 ^ 31 to 2 ^ 31 - 1: `mag` is n of `pos n`, which is n, and of `negsuc n`, which is - n - 1
pub signed_range : (w : ℕ) → mag (signed w) < 2 ^ 31
unfolding signed pick
signed_range w = go (ltb w 2147483648) refl
  where
    go : (t : Bool) → ltb w 2147483648 ≡ t → mag (pick t (pos w) (negsuc (4294967295 - w))) < 2 ^ 31
    go true e = ltb-true w 2147483648 e
    go false e = omega (arith, ltb-false w 2147483648 e)

-- x is the integer z
abbrev pub Is : Float → ℤ → Type 0
Is x (pos n) = HasValue x false n 1
Is x (negsuc n) = HasValue x true (suc n) 1

pub whole_exact : (z : ℤ) → mag z < 2 ^ 31 → Is (of_int binary64 z) z
unfolding of_int
whole_exact (pos n) h = round_whole binary64 false n (le_trans (le_of_lt h) (lit≤ tt))
whole_exact (negsuc n) h = round_whole binary64 true (suc n) (le_trans h (lit≤ tt))

pub signed_exact : (w : ℕ) → Is (of_int binary64 (signed w)) (signed w)
signed_exact w = whole_exact (signed w) (signed_range w)

abbrev pub negative : ℤ → Bool
negative (pos n) = false
negative (negsuc n) = true

pub whole_plain : (w : ℕ) → Plain (negative (signed w)) (of_int binary64 (signed w))
whole_plain w = at (signed w) (signed_range w)
  where
    at : (z : ℤ) → mag z < 2 ^ 31 → Plain (negative z) (of_int binary64 z)
    at (pos n) h = plain_whole (of_int binary64 (pos n)) false n (le_of_lt h) (whole_exact (pos n) h)
    at (negsuc n) h = plain_whole (of_int binary64 (negsuc n)) true (suc n) h (whole_exact (negsuc n) h)

-- ---- decimals

-- before the sign is set
quotient_plain : (n c : ℕ) → 1 ≤ c → c ≤ 10 ^ 14 → n ≤ 10 ^ 15 → Plain false (round binary64 false n c) × ((num (round binary64 false n c) ≡ 0) ↔ (n ≡ 0))
quotient_plain zero c C D N =
    let v = round_zero false c C in
    (plain_zero (round binary64 false 0 c) false c C v, ((λ e. refl), λ e. zero_num (round binary64 false 0 c) false c C v))
quotient_plain (suc n) c C D N =
    let x = round binary64 false (suc n) c in
    let r = rounded_near (suc n) c C (wide_small (suc n) c (omega arith) D) (wide_large (suc n) c C N) in
    let small = near_small (suc n) c (num x) (den x) (omega arith) D (fraction_twice r) in
    (record { value = r.value; small = inr small; large = near_large (suc n) c (num x) (den x) C N (double_twice r) }, ((λ e. absurd (omega (arith, small, e, den_pos x))), λ e. absurd (omega (arith, e))))

rounded : (d : Decimal) → Proper d → quotient (number d) (length d.fraction) ≡ round binary64 false (number d) (power d)
rounded d p = quotient_rounds (number d) (length d.fraction) (le_trans (le_of_lt (number_below d p)) (lit≤ tt)) (le_trans (power_below d p) (lit≤ tt))

sized : (d : Decimal) → Proper d → Plain false (quotient (number d) (length d.fraction)) × ((num (quotient (number d) (length d.fraction)) ≡ 0) ↔ (number d ≡ 0))
sized d p =
    subst (λ (x : Float). Plain false x × ((num x ≡ 0) ↔ (number d ≡ 0))) (sym (rounded d p))
    (quotient_plain (number d) (power d) (power_pos (length d.fraction)) (power_below d p) (le_of_lt (number_below d p)))

-- a sign changes no size
with_sign_num : (s : Bool) (x : Float) → num (with_sign s x) ≡ num x
unfolding with_sign neg
with_sign_num false x = refl
with_sign_num true nan = refl
with_sign_num true (inf s) = refl
with_sign_num true (fin s m e) = refl

with_sign_den : (s : Bool) (x : Float) → den (with_sign s x) ≡ den x
unfolding with_sign neg
with_sign_den false x = refl
with_sign_den true nan = refl
with_sign_den true (inf s) = refl
with_sign_den true (fin s m e) = refl

with_sign_value : (s : Bool) (x : Float) (a c : ℕ) → HasValue x false a c → HasValue (with_sign s x) s a c
unfolding with_sign neg
with_sign_value false x a c h = h
with_sign_value true nan a c h = absurd h
with_sign_value true (inf s) a c h = absurd h
with_sign_value true (fin s m e) a c h = (ap not h.0, h.1)

-- finite, with the decimal's sign, and of its size
pub double_plain : (d : Decimal) → Proper d → Plain d.minus (double d)
unfolding double
double_plain d p =
    let x = quotient (number d) (length d.fraction) in
    let q = (sized d p).0 in
    record {
      value = own_value (with_sign d.minus x) d.minus (num x) (den x) (with_sign_value d.minus x (num x) (den x) q.value);
      small = subst (λ (m : ℕ). (m ≡ 0) ⊎ (den (with_sign d.minus x) ≤ m * 2 ^ 48)) (sym (with_sign_num d.minus x))
          (subst (λ (c : ℕ). (num x ≡ 0) ⊎ (c ≤ num x * 2 ^ 48)) (sym (with_sign_den d.minus x)) q.small);
      large = subst (λ (m : ℕ). m ≤ 2 ^ 51 * den (with_sign d.minus x)) (sym (with_sign_num d.minus x))
          (subst (λ (c : ℕ). num x ≤ 2 ^ 51 * c) (sym (with_sign_den d.minus x)) q.large);
    }

-- zero just where its digits are
pub double_zero : (d : Decimal) → Proper d → (num (double d) ≡ 0) ↔ (number d ≡ 0)
unfolding double
double_zero d p = subst (λ (m : ℕ). (m ≡ 0) ↔ (number d ≡ 0)) (sym (with_sign_num d.minus (quotient (number d) (length d.fraction)))) (sized d p).1

pub plain_finite : (s : Bool) (x : Float) → Plain s x → T (finite x)
plain_finite s x p = value_finite x s (num x) (den x) p.value

-- of all finite doubles none is nearer to what the text says
pub double_nearest : (d : Decimal) → Proper d → Nearest (double d) (number d) (power d)
unfolding double
double_nearest d p =
    let x = quotient (number d) (length d.fraction) in
    let fine = subst (λ (z : Float). T (finite z)) (rounded d p) (plain_finite false x (sized d p).0) in
    let near = subst (λ (z : Float). Nearest z (number d) (power d)) (sym (rounded d p)) (round_nearest (number d) (power d) (power_pos (length d.fraction)) (round_under binary64 (number d) (power d) fine)) in (
      plain_finite d.minus (double d) (double_plain d p),
      λ y t z.
          subst (λ (m : ℕ). apart (m * power d) (number d * den (with_sign d.minus x)) * den y ≤ apart (num y * power d) (number d * den y) * den (with_sign d.minus x)) (sym (with_sign_num d.minus x))
          (subst (λ (c : ℕ). apart (num x * power d) (number d * c) * den y ≤ apart (num y * power d) (number d * den y) * c) (sym (with_sign_den d.minus x)) (near.1 y t z)),
    )

-- a text that reads as a number
pub reading_nearest : (text : List ℕ) (d : Decimal) → decimal text ≡ some d → Nearest (double d) (number d) (power d)
reading_nearest text d e = double_nearest d (decimal_sound text d e).1

pub reading_plain : (text : List ℕ) (d : Decimal) → decimal text ≡ some d → Plain d.minus (double d)
reading_plain text d e = double_plain d (decimal_sound text d e).1
