-- How far a rounded fraction lies from the fraction: half of the last digit kept, and what that is of the result in the normal range.
use Prim.Native.Nat.{ℕ, zero, suc, ◌+◌, ◌-◌, ◌*◌, ◌/◌, ◌%◌, ◌^◌, ◌≤◌, ◌<◌, compare, Ordering}
use Rattle.std.proofs.Common.{le_trans, le_of_eq, lt_of_le_of_lt, mul_comm, mul_assoc, mul-le-mul_left, mul-le-mul_right, mul-pos, div-add-mod', mod-lt, le-div_iff_mul-le, le_of_mul-le-mul_right, arith, sym, ap, ◌∙◌, subst, leb→le, eqb→eq, lit≤, lit<, pow-add, pow_pos}
use Rattle.std.proofs.Math.Nat.{lt_of_mul-lt-mul_left, mul-sub, pow-succ'}
use Rattle.std.specs.Prelude.{◌≡◌, Bool, true, false, not, T, leb, Float}
use Rattle.std.proofs.Math.Dec.{is_le, compare_is_eq, nleb→lt}
use Rattle.std.specs.Float.{Format, binary64}
use Rattle.std.specs.Float.Ieee.{prec, low, size, nearest, round}
use Rattle.std.specs.Float.Ieee.Digits.{size_reaches}
use Rattle.std.specs.Float.Ieee.Fits.{two, two-le_pos}
use Rattle.std.specs.Float.Ieee.Nearest.{closest, nearest-ge}
use Rattle.std.specs.Float.Ieee.Order.{drop, kept}
use Rattle.std.specs.Float.Ieee.Scale.{grid, overflow, round_val, normal_of_fraction}
use Rattle.std.specs.Float.Ieee.Exact.{HasValue}
use Rattle.std.specs.Float.Ieee.Positive.{num, den}
use Rattle.weight_laws.specs.Values.{own_value, cross}

-- ---- the nearest whole number is at most a half away

-- at a tie the quotient or the next number, which both are a half away
tie : (q t r u n : ℕ) → q * u + r ≡ n → r * 2 ≡ u → t < 2 → (2 * (n - (q + t) * u) ≤ u) × (2 * ((q + t) * u - n) ≤ u)
tie q zero r u n e h l = omega arith
tie q (suc zero) r u n e h l = omega arith
tie q (suc (suc t)) r u n e h l = absurd (omega arith)

half_away : (o : Ordering) (q r u n : ℕ) → q * u + r ≡ n → r < u → (T (is_le o) → r * 2 ≤ u) → (T (not (is_le o)) → u < r * 2) → (T (compare_is_eq o) → r * 2 ≡ u)
    → (2 * (n - nearest q o * u) ≤ u) × (2 * (nearest q o * u - n) ≤ u)
half_away Ordering.lt q r u n e l x y z = let h = x tt in omega arith
half_away Ordering.eq q r u n e l x y z = tie q (q % 2) r u n e (z tt) (mod-lt q (omega arith))
half_away Ordering.gt q r u n e l x y z = let h = y tt in omega arith

pub closest_half : (n u : ℕ) → 0 < u → (2 * (n - closest n u * u) ≤ u) × (2 * (closest n u * u - n) ≤ u)
closest_half n u U =
    half_away (compare (n % u * 2) u) (n / u) (n % u) u n (div-add-mod' n u) (mod-lt n U) (leb→le (n % u * 2) u) (nleb→lt (n % u * 2) u) (eqb→eq (n % u * 2) u)

-- ---- in the normal range: n / c has at least p digits before the point

leading : (z p : ℕ) → 0 < p → p ≤ z → p - 1 + (z - p) < z
leading z p P h = omega arith

-- it is 2 ^ (p - 1) units at least, as is what is kept of it
pub floor : (p n c : ℕ) → 0 < p → 0 < c → p ≤ size (n / c) → 2 ^ (p - 1) * (c * 2 ^ drop p n c) ≤ n
floor p n c P C h =
    let k = drop p n c in
    let w : 2 ^ (p - 1) * 2 ^ k ≤ n / c = le_trans (le_of_eq (sym (pow-add 2 (p - 1) k))) (size_reaches (n / c) (p - 1 + k) (leading (size (n / c)) p P h)) in
    le_trans (le_of_eq (ap (λ (x : ℕ). 2 ^ (p - 1) * x) (mul_comm c (2 ^ k)) ∙ sym (mul_assoc (2 ^ (p - 1)) (2 ^ k) c))) ((le-div_iff_mul-le C).0 w)

kept_floor : (t n u : ℕ) → 0 < u → t * u ≤ n → t ≤ closest n u
kept_floor t n u U h = le_trans ((le-div_iff_mul-le U).1 h) (nearest-ge (n / u) (compare (n % u * 2) u))

-- with t for 2 ^ (p - 1), q units u for n
below_at : (t q u n : ℕ) → t ≤ q → 2 * (n - q * u) ≤ u → 2 * t * (n - q * u) ≤ q * u
below_at t q u n h k =
    le_trans (le_of_eq (ap (λ (x : ℕ). x * (n - q * u)) (mul_comm 2 t) ∙ mul_assoc t 2 (n - q * u)))
    (le_trans (mul-le-mul_left t k) (mul-le-mul_right u h))

-- above n is more than t units, since n is at least that
above_at : (t q u n : ℕ) → t * u ≤ n → 2 * (q * u - n) ≤ u → (2 * t + 2) * (q * u - n) ≤ q * u
above_at t q u n h k = go (leb (q * u) n) (leb→le (q * u) n) (nleb→lt (q * u) n)
  where
    go : (b : Bool) → (T b → q * u ≤ n) → (T (not b) → n < q * u) → (2 * t + 2) * (q * u - n) ≤ q * u
    go true x y =
        let z : q * u - n ≡ 0 = omega (arith, x tt) in
        subst (λ (d : ℕ). (2 * t + 2) * d ≤ q * u) (sym z) (omega arith)
    go false x y =
        let more : suc t ≤ q = lt_of_mul-lt-mul_left u (omega (arith, h, y tt)) in
        le_trans (le_of_eq (ap (λ (d : ℕ). d * (q * u - n)) (twice t) ∙ mul_assoc (suc t) 2 (q * u - n))) (le_trans (mul-le-mul_left (suc t) k) (mul-le-mul_right u more))
      where
        twice : (t : ℕ) → 2 * t + 2 ≡ suc t * 2
        twice t = omega arith

power : (p : ℕ) → 0 < p → 2 * 2 ^ (p - 1) ≡ 2 ^ p
power p P = sym (pow-succ' 2 (p - 1)) ∙ ap (λ (x : ℕ). 2 ^ x) (whole p P)
  where
    whole : (p : ℕ) → 0 < p → suc (p - 1) ≡ p
    whole p P = omega arith

-- the result in units, times c
pub kept_over : (p n c : ℕ) → kept p n c * 2 ^ drop p n c * c ≡ kept p n c * (c * 2 ^ drop p n c)
kept_over p n c = mul_assoc (kept p n c) (2 ^ drop p n c) c ∙ ap (λ (x : ℕ). kept p n c * x) (mul_comm (2 ^ drop p n c) c)

-- a fraction above its rounded value: the distance is at most the value's 2 ^ prec'th part
pub rounded_below : (f : Format) (a c : ℕ) → 0 < c → prec f ≤ size (a * 2 ^ low f / c) → 2 ^ prec f * (a * 2 ^ low f - grid f a c * c) ≤ grid f a c * c
rounded_below f a c C h =
    let p = prec f in
    let P : 0 < p = two-le_pos p (two f) in
    let n = a * 2 ^ low f in
    let u = c * 2 ^ drop p n c in
    let U : 0 < u = mul-pos C (pow_pos (drop p n c)) in
    subst (λ (x : ℕ). 2 ^ p * (n - x) ≤ x) (sym (kept_over p n c))
    (subst (λ (t : ℕ). t * (n - kept p n c * u) ≤ kept p n c * u) (power p P)
    (below_at (2 ^ (p - 1)) (kept p n c) u n (kept_floor (2 ^ (p - 1)) n u U (floor p n c P C h)) (closest_half n u U).0))

-- below it: less still
pub rounded_above : (f : Format) (a c : ℕ) → 0 < c → prec f ≤ size (a * 2 ^ low f / c) → (2 ^ prec f + 2) * (grid f a c * c - a * 2 ^ low f) ≤ grid f a c * c
rounded_above f a c C h =
    let p = prec f in
    let P : 0 < p = two-le_pos p (two f) in
    let n = a * 2 ^ low f in
    let u = c * 2 ^ drop p n c in
    let U : 0 < u = mul-pos C (pow_pos (drop p n c)) in
    subst (λ (x : ℕ). (2 ^ p + 2) * (x - n) ≤ x) (sym (kept_over p n c))
    (subst (λ (t : ℕ). (t + 2) * (kept p n c * u - n) ≤ kept p n c * u) (power p P)
    (above_at (2 ^ (p - 1)) (kept p n c) u n (floor p n c P C h) (closest_half n u U).1))

-- ---- a double that a fraction rounds to

-- x is not negative, and as near to a / c as the normal range has it; as products: 1 + 2 ^ -53 times x is a / c at least, and (1 + 2 ^ -53) / (1 + 2 ^ -52) times x at most
pub record Near (a c : ℕ) (x : Float) : Type 0 where
  pub value : HasValue x false (num x) (den x)
  pub under : 2 ^ 53 * (a * den x) ≤ (2 ^ 53 + 1) * (num x * c)
  pub over : (2 ^ 53 + 1) * (num x * c) ≤ (2 ^ 53 + 2) * (a * den x)

-- x = m / d is g / l
under_at : (N a c l g m d : ℕ) → 0 < l → m * l ≡ g * d → N * (a * l - g * c) ≤ g * c → N * (a * d) ≤ (N + 1) * (m * c)
under_at N a c l g m d L e h =
    let h₁ : N * (a * l) ≤ (N + 1) * (g * c) = omega (arith, h, mul-sub N (a * l) (g * c)) in
    le_of_mul-le-mul_right {k = l} (omega (arith, mul-le-mul_right d h₁, ap (λ (z : ℕ). z * c) e, ap (λ (z : ℕ). N * (z * c)) e)) L

over_at : (N a c l g m d : ℕ) → 0 < l → m * l ≡ g * d → (N + 2) * (g * c - a * l) ≤ g * c → (N + 1) * (m * c) ≤ (N + 2) * (a * d)
over_at N a c l g m d L e h =
    let h₁ : (N + 1) * (g * c) ≤ (N + 2) * (a * l) = omega (arith, h, mul-sub (N + 2) (g * c) (a * l)) in
    le_of_mul-le-mul_right {k = l} (omega (arith, mul-le-mul_right d h₁, ap (λ (z : ℕ). z * c) e, ap (λ (z : ℕ). N * (z * c)) e)) L

-- a fraction above t / b is normal, one below b doesn't overflow
normal_at : (t b l a c : ℕ) → t * b ≤ l → c ≤ a * b → t * c ≤ a * l
normal_at t b l a c h k = omega (arith, mul-le-mul_left t k, mul-le-mul_left a h)

small_at : (N b l v a c g : ℕ) → 0 < c → 2 * b * l < v → a ≤ b * c → (N + 2) * (g * c - a * l) ≤ g * c → g < v
small_at N b l v a c g C h k r =
    let twice : g * c ≤ 2 * (a * l) = half (g * c) (a * l) (le_trans (mul-le-mul_right (g * c - a * l) (le_two N)) r) in
    lt_of_le_of_lt (le_of_mul-le-mul_right {k = c} (omega (arith, twice, mul-le-mul_right l k)) C) h
  where
    le_two : (N : ℕ) → 2 ≤ N + 2
    le_two N = omega arith

    half : (x y : ℕ) → 2 * (x - y) ≤ x → x ≤ 2 * y
    half x y h = omega arith

-- every fraction from 2 ^ -100 to 2 ^ 100 does that
pub rounded_near : (a c : ℕ) → 0 < c → c ≤ a * 2 ^ 100 → a ≤ 2 ^ 100 * c → Near a c (round binary64 false a c)
rounded_near a c C small large =
    let normal = normal_of_fraction binary64 a c C (normal_at (2 ^ 52) (2 ^ 100) (2 ^ 1074) a c (lit≤ tt) small) in
    let g = grid binary64 a c in
    let above = rounded_above binary64 a c C normal in
    let x = round binary64 false a c in
    let v = round_val binary64 a c (small_at (2 ^ 53) (2 ^ 100) (2 ^ 1074) (overflow binary64) a c g C (lit< tt) large above) in
    let e = cross x false g (2 ^ 1074) v in
    record {
      value = own_value x false g (2 ^ 1074) v;
      under = under_at (2 ^ 53) a c (2 ^ 1074) g (num x) (den x) (pow_pos 1074) e (rounded_below binary64 a c C normal);
      over = over_at (2 ^ 53) a c (2 ^ 1074) g (num x) (den x) (pow_pos 1074) e above;
    }

-- for what needs no more: neither is more than twice the other
pub fraction_twice : {a c : ℕ} {x : Float} → Near a c x → a * den x ≤ 2 * (num x * c)
fraction_twice {a} {c} {x} r = at (a * den x) (num x * c) r.under
  where
    at : (y z : ℕ) → 2 ^ 53 * y ≤ (2 ^ 53 + 1) * z → y ≤ 2 * z
    at y z h = omega arith

pub double_twice : {a c : ℕ} {x : Float} → Near a c x → num x * c ≤ 2 * (a * den x)
double_twice {a} {c} {x} r = at (num x * c) (a * den x) r.over
  where
    at : (y z : ℕ) → (2 ^ 53 + 1) * y ≤ (2 ^ 53 + 2) * z → y ≤ 2 * z
    at y z h = omega arith
