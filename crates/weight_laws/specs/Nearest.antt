-- A rounded fraction that doesn't overflow is the nearest double, subnormal ones included: no finite double is nearer to the fraction.
use Rattle.std.specs.Prelude.{ℕ, zero, suc, ◌+◌, ◌-◌, ◌*◌, ◌/◌, ◌%◌, ◌^◌, ◌≤◌, ◌<◌, ◌≡◌, refl, Bool, true, false, not, ◌&&◌, T, ltb, leb, eqb, ℤ, pos, negsuc, Float}
use Rattle.std.proofs.Common.{le_trans, le_of_eq, mul_comm, mul_assoc, mul_right_comm, mul-one, mul-le-mul_right, mul-pos, zero-mul, le_of_mul-le-mul_right, le_of_lt, not-le_of_lt, eq-zero-or-pos, arith, sym, ap, ◌∙◌, subst, inl, inr, ltb→lt, leb→le, pow-add, pow_pos, pow_mono, shl_lt}
use Rattle.std.proofs.Math.Nat.{mul-sub}
use Rattle.std.proofs.Math.Dec.{nleb→lt}
use Rattle.std.proofs.Math.Pow.{pow-lt}
use Rattle.std.specs.Float.{nan, inf, fin, Format, binary64}
use Rattle.std.specs.Float.Ieee.{prec, emax, low, up, down, size, round, fits}
use Rattle.std.specs.Float.Ieee.Digits.{back}
use Rattle.std.specs.Float.Ieee.Fits.{two, two-le_pos, and_l, and_r}
use Rattle.std.specs.Float.Ieee.Order.{drop, kept}
use Rattle.std.specs.Float.Ieee.Scale.{grid, overflow, finite, round_val}
use Rattle.std.specs.Float.Ieee.Positive.{num, den}
use Rattle.definition.specs.Weight.{apart, Nearest}
use Rattle.weight_laws.specs.Values.{value_finite, cross}
use Rattle.weight_laws.specs.Rounding.{closest_half, floor, kept_over}

-- ---- distances

pub apart_mul : (a b k : ℕ) → apart (a * k) (b * k) ≡ apart a b * k
unfolding apart
apart_mul a b k = omega (arith, mul-sub k a b, mul-sub k b a)

-- of all multiples of u the closest is the nearest
among_multiples : (q j u n : ℕ) → 2 * (n - q * u) ≤ u → 2 * (q * u - n) ≤ u → apart (q * u) n ≤ apart (j * u) n
unfolding apart
among_multiples q j u n h k = go (leb j q) (leb q j) (leb→le j q) (nleb→lt j q) (leb→le q j) (nleb→lt q j)
  where
    go : (x y : Bool) → (T x → j ≤ q) → (T (not x) → q < j) → (T y → q ≤ j) → (T (not y) → j < q) → q * u - n + (n - q * u) ≤ j * u - n + (n - j * u)
    go true true a b c d = let e : j ≡ q = omega (arith, a tt, c tt) in subst (λ (z : ℕ). q * u - n + (n - q * u) ≤ z * u - n + (n - z * u)) (sym e) (omega arith)
    go true false a b c d = farther (q * u) (j * u) u n (omega (arith, mul-le-mul_right u (d tt))) h k
      where
        farther : (x y u n : ℕ) → y + u ≤ x → 2 * (n - x) ≤ u → 2 * (x - n) ≤ u → x - n + (n - x) ≤ y - n + (n - y)
        farther x y u n l h k = omega arith
    go false y a b c d = farther (q * u) (j * u) u n (omega (arith, mul-le-mul_right u (b tt))) h k
      where
        farther : (x y u n : ℕ) → x + u ≤ y → 2 * (n - x) ≤ u → 2 * (x - n) ≤ u → x - n + (n - x) ≤ y - n + (n - y)
        farther x y u n l h k = omega arith

-- what lies below t, itself not above n, is no nearer to n than t is
below_floor : (y t n : ℕ) → y ≤ t → t ≤ n → apart t n ≤ apart y n
unfolding apart
below_floor y t n h k = omega arith

-- ---- a number of p digits and zeros after them, against what is kept

-- no fewer zeros than were dropped, if it is 2 ^ (p - 1) units at least
zeros : (p m j k : ℕ) → 0 < p → m < 2 ^ p → 2 ^ (p - 1) * 2 ^ k ≤ m * 2 ^ j → k ≤ j
zeros p m j k P h l = go (leb k j) (leb→le k j) (nleb→lt k j)
  where
    room : (p j k : ℕ) → 0 < p → j < k → p + j ≤ p - 1 + k
    room p j k P h = omega arith

    clash : (x y z : ℕ) → x ≤ y → y < z → z ≤ x → ⊥
    clash x y z a b c = omega arith

    go : (b : Bool) → (T b → k ≤ j) → (T (not b) → j < k) → k ≤ j
    go true a b = a tt
    go false a b = absurd (clash (2 ^ (p - 1) * 2 ^ k) (m * 2 ^ j) (2 ^ (p + j)) l (shl_lt p j h) (le_trans (pow_mono (room p j k P (b tt))) (le_of_eq (pow-add 2 (p - 1) k))))

digits_multiple : (m j k : ℕ) → k ≤ j → m * 2 ^ j ≡ m * 2 ^ (j - k) * 2 ^ k
digits_multiple m j k h = ap (λ (z : ℕ). m * z) (ap (λ (z : ℕ). 2 ^ z) (sym (back j k h)) ∙ pow-add 2 (j - k) k) ∙ sym (mul_assoc m (2 ^ (j - k)) (2 ^ k))

-- the result, times c, against a multiple y of its last digit
nearest_multiple : (p n c y i : ℕ) → 0 < c → y ≡ i * 2 ^ drop p n c → apart (kept p n c * 2 ^ drop p n c * c) n ≤ apart (y * c) n
nearest_multiple p n c y i C e =
    let k = drop p n c in
    let u = c * 2 ^ k in
    let half = closest_half n u (mul-pos C (pow_pos k)) in
    let is : i * u ≡ y * c = ap (λ (z : ℕ). i * z) (mul_comm c (2 ^ k)) ∙ sym (mul_assoc i (2 ^ k) c) ∙ ap (λ (z : ℕ). z * c) (sym e) in
    subst (λ (z : ℕ). apart z n ≤ apart (y * c) n) (sym (kept_over p n c))
    (subst (λ (z : ℕ). apart (kept p n c * u) n ≤ apart z n) is (among_multiples (kept p n c) i u n half.0 half.1))

-- against any number of p digits and zeros
nearest_digits : (p n c m j : ℕ) → 0 < p → 0 < c → m < 2 ^ p → apart (kept p n c * 2 ^ drop p n c * c) n ≤ apart (m * 2 ^ j * c) n
nearest_digits p n c m j P C h =
    elim (eq-zero-or-pos (drop p n c)) [
      | inl z ↦ nearest_multiple p n c (m * 2 ^ j) (m * 2 ^ j) C (sym (mul-one (m * 2 ^ j)) ∙ ap (λ (k : ℕ). m * 2 ^ j * 2 ^ k) (sym z))
      | inr l ↦ go (leb (2 ^ (p - 1) * 2 ^ drop p n c) (m * 2 ^ j)) (leb→le (2 ^ (p - 1) * 2 ^ drop p n c) (m * 2 ^ j)) (nleb→lt (2 ^ (p - 1) * 2 ^ drop p n c) (m * 2 ^ j)) l
    ]
  where
    normal : (z p : ℕ) → 0 < z - p → p ≤ z
    normal z p h = omega arith

    go : (b : Bool) → (T b → 2 ^ (p - 1) * 2 ^ drop p n c ≤ m * 2 ^ j) → (T (not b) → m * 2 ^ j < 2 ^ (p - 1) * 2 ^ drop p n c) → 0 < drop p n c
        → apart (kept p n c * 2 ^ drop p n c * c) n ≤ apart (m * 2 ^ j * c) n
    go true x y l = nearest_multiple p n c (m * 2 ^ j) (m * 2 ^ (j - drop p n c)) C (digits_multiple m j (drop p n c) (zeros p m j (drop p n c) P h (x tt)))
    go false x y l =
        let t = 2 ^ (p - 1) * 2 ^ drop p n c in
        let le : t * c ≤ n = le_trans (le_of_eq (mul_assoc (2 ^ (p - 1)) (2 ^ drop p n c) c ∙ ap (λ (z : ℕ). 2 ^ (p - 1) * z) (mul_comm (2 ^ drop p n c) c))) (floor p n c P C (normal (size (n / c)) p l)) in
        le_trans (nearest_multiple p n c t (2 ^ (p - 1)) C refl) (below_floor (m * 2 ^ j * c) (t * c) n (mul-le-mul_right c (le_of_lt (y tt))) le)

-- ---- a double that fits, in units of the smallest

has_digits : (f : Format) (y : Float) → T (fits f y) → T (finite y) → (m : ℕ) × (j : ℕ) × (m < 2 ^ prec f) × (num y * 2 ^ low f ≡ m * 2 ^ j * den y)
unfolding fits
has_digits f nan t h = absurd h
has_digits f (inf s) t h = absurd h
has_digits f (fin s zero e) t h = (0, 0, pow_pos (prec f), ap (λ (z : ℕ). z * 2 ^ low f) (zero-mul (up e)) ∙ zero-mul (2 ^ low f) ∙ sym (zero-mul (down e)))
has_digits f (fin s (suc m) e) t h =
    let t₁ = and_l (eqb (suc m % 2) 1 && ltb (suc m) (2 ^ prec f) && leb (down e) (2 ^ low f)) (ltb (suc m * up e) (2 ^ suc (emax f) * down e)) t in
    let t₂ = and_l (eqb (suc m % 2) 1 && ltb (suc m) (2 ^ prec f)) (leb (down e) (2 ^ low f)) t₁ in
    let few = ltb→lt (suc m) (2 ^ prec f) (and_r (eqb (suc m % 2) 1) (ltb (suc m) (2 ^ prec f)) t₂) in
    let fine = leb→le (down e) (2 ^ low f) (and_r (eqb (suc m % 2) 1 && ltb (suc m) (2 ^ prec f)) (leb (down e) (2 ^ low f)) t₁) in
    at e few fine
  where
    at : (e : ℤ) → suc m < 2 ^ prec f → down e ≤ 2 ^ low f → (q : ℕ) × (j : ℕ) × (q < 2 ^ prec f) × (suc m * up e * 2 ^ low f ≡ q * 2 ^ j * down e)
    at (pos k) few fine = (suc m, k + low f, few, mul_assoc (suc m) (2 ^ k) (2 ^ low f) ∙ ap (λ (z : ℕ). suc m * z) (sym (pow-add 2 k (low f))) ∙ sym (mul-one (suc m * 2 ^ (k + low f))))
    at (negsuc k) few fine = (suc m, low f - suc k, few, ap (λ (z : ℕ). z * 2 ^ low f) (mul-one (suc m)) ∙ digits_multiple (suc m) (low f) (suc k) (exponent (suc k) (low f) fine))
      where
        exponent : (a b : ℕ) → 2 ^ a ≤ 2 ^ b → a ≤ b
        exponent a b h = go (leb a b) (leb→le a b) (nleb→lt a b)
          where
            go : (t : Bool) → (T t → a ≤ b) → (T (not t) → b < a) → a ≤ b
            go true x y = x tt
            go false x y = absurd (not-le_of_lt (pow-lt (y tt)) h)

-- ---- the theorem

-- distances from n = a * l, carried over to x = m / d and y = m' / d' for g / l and g' / l
carried : (a c l m d g m' d' g' : ℕ) → 0 < l → m * l ≡ g * d → m' * l ≡ g' * d' → apart (g * c) (a * l) ≤ apart (g' * c) (a * l) → apart (m * c) (a * d) * d' ≤ apart (m' * c) (a * d') * d
carried a c l m d g m' d' g' L e e' h =
    le_of_mul-le-mul_right {k = l} (le_trans (le_of_eq (moved d' m d g e)) (le_trans (mul-le-mul_right (d * d') h) (le_of_eq (ap (λ (z : ℕ). apart (g' * c) (a * l) * z) (mul_comm d d') ∙ sym (moved d m' d' g' e'))))) L
  where
    moved : (r m d g : ℕ) → m * l ≡ g * d → apart (m * c) (a * d) * r * l ≡ apart (g * c) (a * l) * (d * r)
    moved r m d g e =
        let one : m * c * l ≡ g * c * d = mul_right_comm m c l ∙ ap (λ (z : ℕ). z * c) e ∙ mul_right_comm g d c in
        mul_right_comm (apart (m * c) (a * d)) r l
        ∙ ap (λ (z : ℕ). z * r) (sym (apart_mul (m * c) (a * d) l) ∙ ap (λ (z : ℕ). apart z (a * d * l)) one ∙ ap (λ (z : ℕ). apart (g * c * d) z) (mul_right_comm a d l) ∙ apart_mul (g * c) (a * l) d)
        ∙ mul_assoc (apart (g * c) (a * l)) d r

pub round_nearest : (a c : ℕ) → 0 < c → grid binary64 a c < overflow binary64 → Nearest (round binary64 false a c) a c
round_nearest a c C h =
    let x = round binary64 false a c in
    let p = prec binary64 in
    let l = 2 ^ low binary64 in
    let v = round_val binary64 a c h in (
      value_finite x false (grid binary64 a c) l v,
      λ y t z. let k = has_digits binary64 y t z in
          carried a c l (num x) (den x) (grid binary64 a c) (num y) (den y) (k.0 * 2 ^ k.1) (pow_pos (low binary64)) (cross x false (grid binary64 a c) l v) k.3
          (nearest_digits p (a * l) c k.0 k.1 (two-le_pos p (two binary64)) C k.2),
    )
