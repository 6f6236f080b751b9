-- A weighing: its three doubles are ordinary, wet times (1 - moisture) lies within dry / 2 ^ 52 of dry, and the call answers no NaN.
use Rattle.std.specs.Prelude.{ℕ, ◌+◌, ◌-◌, ◌*◌, ◌^◌, ◌≤◌, ◌<◌, ◌≡◌, Bool, true, not, ◌&&◌, ◌||◌, cond, [], ◌∷◌, ◌⊎◌, T, leb, eqb, ℤ, Float}
use Rattle.std.proofs.Common.{le_trans, le_of_eq, mul_assoc, one-mul, mul-le-mul_left, mul-le-mul_right, mul-le-mul, mul-pos, le_of_mul-le-mul_right, eq-zero-or-pos, arith, sym, ◌∙◌, true≢false, inl, inr, leb→le, lit≤, ltb-false, le-ltb}
use Rattle.std.proofs.Math.Nat.{zero-mul, mul-sub}
use Rattle.std.proofs.Math.Path.{refl, ap, subst}
use Rattle.std.proofs.Math.Bool.{false}
use Rattle.std.proofs.Math.Dec.{nleb→lt}
use Rattle.std.specs.Float.{nan, inf, fin}
use Rattle.std.specs.Float.Ieee.{binary64, up, down, round, sum, neg, add, sub, lt, le, of_int, is_nan}
use Rattle.std.specs.Float.Ieee.Exact.{HasValue}
use Rattle.std.specs.Float.Ieee.Order.{le_of_values}
use Rattle.std.specs.Float.Ieee.Positive.{num, den, den_pos}
use Rattle.definition.specs.Run.{Outcome, ok, refused, pure, refuse, next, ◌>>=◌, look, pick}
use Rattle.definition.specs.Arena.{node}
use Rattle.definition.specs.Build.{Lent, held, handles_checked}
use Rattle.definition.specs.Weight.{row_reading, node_reading, positive_zero, one, half, as_double, double_at, dry_at, check_moisture, wet, weigh, weigh_nodes, wet_weight, weighed_done, apart, Ordinary, Within, Weighs}
use Rattle.definition.specs.Refused.{Accepted}
use Rattle.definition.specs.declared.Reading.{Reading}
use Rattle.definition.specs.declared.Reading.TheVariants.{Whole, Double, NotANumber}
use Rattle.definition.specs.declared.Refusal.TheVariants.{NotAWeight, BadMoisture}
use Rattle.definition.specs.declared.Weighing.{Weighing}
use Rattle.lists.specs.Lists.{apart as impossible}
use Rattle.lists.specs.Runs.{no_ok, un}
use Rattle.weight_laws.specs.Values.{value_finite, own_value, zero_num}
use Rattle.weight_laws.specs.Rounding.{Near, rounded_near, fraction_twice, double_twice}
use Rattle.weight_laws.specs.Nearest.{apart_mul}
use Rattle.weight_laws.specs.Decimals.{Plain, round_zero, div_at, negative, whole_plain}
use Rattle.weight_laws.specs.Readings.{Sized, row_sized, finite_no_nan}

-- ---- the bound, over numbers

-- two numbers that are each (N + 1) / N of the other at most
close : (N p r : ℕ) → N * p ≤ (N + 1) * r → N * r ≤ (N + 1) * p → N * apart p r ≤ r
unfolding apart
close N p r h k = go (leb p r) (leb→le p r) (nleb→lt p r)
  where
    go : (t : Bool) → (T t → p ≤ r) → (T (not t) → r < p) → N * (p - r + (r - p)) ≤ r
    go true x y =
        let l = x tt in
        let e : p - r + (r - p) ≡ r - p = omega arith in
        subst (λ (z : ℕ). N * z ≤ r) (sym e) (omega (arith, mul-sub N r p))
    go false x y =
        let l = y tt in
        let e : p - r + (r - p) ≡ p - r = omega arith in
        subst (λ (z : ℕ). N * z ≤ r) (sym e) (omega (arith, mul-sub N p r))

-- p and r are each near to q
bound : (p q r : ℕ) → 2 ^ 53 * p ≤ (2 ^ 53 + 1) * q → (2 ^ 53 + 1) * q ≤ (2 ^ 53 + 2) * p → 2 ^ 53 * r ≤ (2 ^ 53 + 1) * q → (2 ^ 53 + 1) * q ≤ (2 ^ 53 + 2) * r → 2 ^ 52 * apart p r ≤ r
bound p q r a b c d = close (2 ^ 52) p r (halved p r (le_trans a d)) (halved r p (le_trans c b))
  where
    halved : (p r : ℕ) → 2 ^ 53 * p ≤ (2 ^ 53 + 2) * r → 2 ^ 52 * p ≤ (2 ^ 52 + 1) * r
    halved p r h = omega arith

-- x / e is 1 - moisture exactly, s / g rounded; d / f is dry, w / h wet
within_at : (x e s g d f w h : ℕ) → 0 < g → 2 ^ 53 * (x * g) ≤ (2 ^ 53 + 1) * (s * e) → (2 ^ 53 + 1) * (s * e) ≤ (2 ^ 53 + 2) * (x * g)
    → 2 ^ 53 * (d * g * h) ≤ (2 ^ 53 + 1) * (w * (f * s)) → (2 ^ 53 + 1) * (w * (f * s)) ≤ (2 ^ 53 + 2) * (d * g * h) → 2 ^ 52 * apart (w * x * f) (d * (h * e)) ≤ d * (h * e)
within_at x e s g d f w h G a b c k =
    let p = w * x * f * g in
    let q = w * f * s * e in
    let r = d * (h * e) * g in
    let a₁ : 2 ^ 53 * p ≤ (2 ^ 53 + 1) * q = omega (arith, mul-le-mul_right (w * f) a) in
    let b₁ : (2 ^ 53 + 1) * q ≤ (2 ^ 53 + 2) * p = omega (arith, mul-le-mul_right (w * f) b) in
    let c₁ : 2 ^ 53 * r ≤ (2 ^ 53 + 1) * q = omega (arith, mul-le-mul_right e c) in
    let k₁ : (2 ^ 53 + 1) * q ≤ (2 ^ 53 + 2) * r = omega (arith, mul-le-mul_right e k) in
    le_of_mul-le-mul_right {k = g}
    (le_trans (le_of_eq (mul_assoc (2 ^ 52) (apart (w * x * f) (d * (h * e))) g ∙ ap (λ (z : ℕ). 2 ^ 52 * z) (sym (apart_mul (w * x * f) (d * (h * e)) g)))) (bound p q r a₁ b₁ c₁ k₁)) G

-- ---- what the tests say

-- the double is 0 or has no minus
abbrev Above : Bool → Float → Type 0
Above s x = (num x ≡ 0) ⊎ (s ≡ false)

not_below : (s : Bool) (x : Float) → HasValue x s (num x) (den x) → lt x positive_zero ≡ false → Above s x
unfolding lt
not_below s nan v e = absurd v
not_below s (inf t) v e = absurd v
not_below s (fin false m g) v e = inr (sym v.0)
not_below s (fin true m g) v e = inl (omega (arith, ltb-false 0 (m * up g * 1 + 0 * down g) e))

at_most_half : (s : Bool) (x : Float) → HasValue x s (num x) (den x) → Above s x → lt half x ≡ false → num x * 2 ≤ den x
unfolding lt
at_most_half s nan v a e = absurd v
at_most_half s (inf t) v a e = absurd v
at_most_half s (fin false m g) v a e = omega (arith, ltb-false (1 * down g) (m * up g * 2) e)
at_most_half s (fin true m g) v (inl z) e = omega (arith, z)
at_most_half s (fin true m g) v (inr z) e = absurd (true≢false (v.0 ∙ z))

-- ---- ordinary doubles

zero_le : (s : Bool) (x : Float) → HasValue x s (num x) (den x) → Above s x → T (le positive_zero x)
unfolding le
zero_le s nan v a = absurd v
zero_le s (inf t) v a = absurd v
zero_le s (fin false m g) v a = le_of_values positive_zero (fin false m g) 0 1 (m * up g) (down g) (omega arith) (den_pos (fin false m g)) (refl, refl) (refl, refl) (omega arith)
zero_le s (fin true m g) v (inl z) = subst (λ (a : ℕ). T (eqb a (m * up g * 1) && eqb a 0)) (sym (zero-mul (down g))) (subst (λ (b : ℕ). T (eqb 0 b && true)) (sym (ap (λ (n : ℕ). n * 1) z)) tt)
zero_le s (fin true m g) v (inr z) = absurd (true≢false (v.0 ∙ z))

ordinary : (s : Bool) (x : Float) → HasValue x s (num x) (den x) → Above s x → (num x ≡ 0) ⊎ (den x ≤ num x * 2 ^ 50) → Ordinary x
ordinary s x v a k = (value_finite x s (num x) (den x) v, zero_le s x v a, at k)
  where
    at : (num x ≡ 0) ⊎ (den x ≤ num x * 2 ^ 50) → (num x ≡ 0) ⊎ (den x ≤ num x * 2 ^ 1022)
    at (inl z) = inl z
    at (inr l) = inr (le_trans l (mul-le-mul_left (num x) (lit≤ tt)))

plain_ordinary : (s : Bool) (x : Float) → Plain s x → Above s x → Ordinary x
plain_ordinary s x p a = ordinary s x p.value a (at p.small)
  where
    at : (num x ≡ 0) ⊎ (den x ≤ num x * 2 ^ 48) → (num x ≡ 0) ⊎ (den x ≤ num x * 2 ^ 50)
    at (inl z) = inl z
    at (inr l) = inr (omega (arith, l))

-- ---- 1 - moisture is one rounding, for either zero too

minus_at : (a b c : ℕ) → b ≤ a → sum binary64 false a true b c ≡ round binary64 false (a - b) c
unfolding sum
minus_at a b c h = ap (λ (t : Bool). cond t (round binary64 true (b - a) c) (round binary64 false (a - b) c)) (le-ltb a b h)

same : (a b c d : ℕ) → a ≡ b → c ≡ d → round binary64 false a c ≡ round binary64 false b d
same a b c d e k = λ i. round binary64 false (e i) (k i)

sub_one : (s : Bool) (x : Float) → HasValue x s (num x) (den x) → Above s x → num x * 2 ≤ den x → sub binary64 one x ≡ round binary64 false (den x - num x) (den x)
unfolding sub add neg
sub_one s nan v a h = absurd v
sub_one s (inf t) v a h = absurd v
sub_one s (fin false m g) v a h =
    minus_at (1 * down g) (m * up g * 1) (1 * down g) (omega (arith, h))
    ∙ same (1 * down g - m * up g * 1) (down g - m * up g) (1 * down g) (down g) (omega arith) (one-mul (down g))
sub_one s (fin true m g) v (inl z) h = opened ∙ same (1 * down g + m * up g * 1) (down g - m * up g) (1 * down g) (down g) (omega (arith, z)) (one-mul (down g))
  where
    opened : sub binary64 one (fin true m g) ≡ round binary64 false (1 * down g + m * up g * 1) (1 * down g)
    opened = unfold sum in refl
sub_one s (fin true m g) v (inr z) h = absurd (true≢false (v.0 ∙ z))

-- ---- the weighing of two doubles that pass the tests

over_half : (m e : ℕ) → m * 2 ≤ e → e ≤ 2 * (e - m)
over_half m e h = omega arith

-- from 2 ^ -100 to 2 ^ 100, 1 - moisture and dry / (1 - moisture) too: x / e from a half to 1, s / g near to it, d / f from 2 ^ -48 to 2 ^ 51
wide : (x e : ℕ) → e ≤ 2 * x → x ≤ e → (e ≤ x * 2 ^ 100) × (x ≤ 2 ^ 100 * e)
wide x e h k = (omega arith, omega arith)

at_most_two : (x e s g : ℕ) → 0 < e → x ≤ e → s * e ≤ 2 * (x * g) → s ≤ 2 * g
at_most_two x e s g E h k = le_of_mul-le-mul_right {k = e} (omega (arith, k, mul-le-mul_right g h)) E

at_least_quarter : (x e s g : ℕ) → 0 < x → e ≤ 2 * x → x * g ≤ 2 * (s * e) → g ≤ 4 * s
at_least_quarter x e s g X h k = le_of_mul-le-mul_right {k = x} (omega (arith, k, mul-le-mul_left s h)) X

quotient_small : (d f s g : ℕ) → f ≤ d * 2 ^ 48 → s ≤ 2 * g → f * s ≤ d * g * 2 ^ 49
quotient_small d f s g h k = le_trans (mul-le-mul h k) (omega arith)

quotient_large : (d f s g : ℕ) → d ≤ 2 ^ 51 * f → g ≤ 4 * s → d * g ≤ 2 ^ 53 * (f * s)
quotient_large d f s g h k = le_trans (mul-le-mul h k) (omega arith)

wet_small : (a c w h : ℕ) → 0 < a → c ≤ a * 2 ^ 49 → a * h ≤ 2 * (w * c) → h ≤ w * 2 ^ 50
wet_small a c w h A l k = le_of_mul-le-mul_right {k = a} (omega (arith, k, mul-le-mul_left w l)) A

module _ (s t : Bool) (d m : Float) (p : Plain s d) (q : Plain t m) (ds : Above s d) (ms : Above t m) (h : num m * 2 ≤ den m) where
  -- 1 - moisture, exactly: top / bottom
  abbrev top : ℕ
  top = den m - num m

  abbrev bottom : ℕ
  bottom = den m

  halves : bottom ≤ 2 * top
  halves = over_half (num m) (den m) h

  top_pos : 0 < top
  top_pos = omega (arith, halves, den_pos m)

  top_le : top ≤ bottom
  top_le = omega arith

  -- rounded
  abbrev rest : Float
  rest = sub binary64 one m

  rest_near : Near top bottom rest
  rest_near = subst (Near top bottom) (sym (sub_one t m q.value ms h)) (rounded_near top bottom (den_pos m) (wide top bottom halves top_le).0 (wide top bottom halves top_le).1)

  rest_large : num rest ≤ 2 * den rest
  rest_large = at_most_two top bottom (num rest) (den rest) (den_pos m) top_le (double_twice rest_near)

  rest_small : den rest ≤ 4 * num rest
  rest_small = at_least_quarter top bottom (num rest) (den rest) top_pos halves (fraction_twice rest_near)

  rest_pos : 0 < num rest
  rest_pos = omega (arith, rest_small, den_pos rest)

  wet_rounds : wet d m ≡ round binary64 s (num d * den rest) (den d * num rest)
  unfolding wet
  wet_rounds = div_at binary64 d rest s (num d) (den d) (num rest) (den rest) (den_pos d) (den_pos rest) rest_pos p.value rest_near.value

  -- no dry weight
  wet_zero : num d ≡ 0 → HasValue (wet d m) s 0 (den d * num rest)
  wet_zero z =
      subst (λ (y : Float). HasValue y s 0 (den d * num rest)) (sym (wet_rounds ∙ ap (λ (n : ℕ). round binary64 s n (den d * num rest)) (ap (λ (n : ℕ). n * den rest) z ∙ zero-mul (den rest))))
      (round_zero s (den d * num rest) (mul-pos (den_pos d) rest_pos))

  -- some
  wet_near : s ≡ false → den d ≤ num d * 2 ^ 48 → Near (num d * den rest) (den d * num rest) (wet d m)
  wet_near z l =
      let a = num d * den rest in
      let c = den d * num rest in
      subst (Near a c) (sym (wet_rounds ∙ ap (λ (b : Bool). round binary64 b a c) z))
      (rounded_near a c (mul-pos (den_pos d) rest_pos)
      (le_trans (quotient_small (num d) (den d) (num rest) (den rest) l rest_large) (mul-le-mul_left a (lit≤ tt)))
      (le_trans (quotient_large (num d) (den d) (num rest) (den rest) p.large rest_small) (mul-le-mul_right c (lit≤ tt))))

  weighs_zero : num d ≡ 0 → Weighs (weigh d m)
  unfolding weigh apart
  weighs_zero z =
      let empty : num (wet d m) ≡ 0 = zero_num (wet d m) s (den d * num rest) (mul-pos (den_pos d) rest_pos) (wet_zero z) in
      record {
        dry_ordinary = plain_ordinary s d p ds;
        moisture_ordinary = plain_ordinary t m q ms;
        wet_ordinary = ordinary s (wet d m) (own_value (wet d m) s 0 (den d * num rest) (wet_zero z)) (inl empty) (inl empty);
        at_most_half = h;
        within = nothing (num (wet d m)) (num d) top (den d) (den (wet d m) * bottom) empty z;
      }
    where
      nothing : (w d x f k : ℕ) → w ≡ 0 → d ≡ 0 → 2 ^ 52 * (w * x * f - d * k + (d * k - w * x * f)) ≤ d * k
      nothing w d x f k a b =
          let l : w * x * f ≡ 0 = ap (λ (z : ℕ). z * x * f) a ∙ ap (λ (z : ℕ). z * f) (zero-mul x) ∙ zero-mul f in
          let r : d * k ≡ 0 = ap (λ (z : ℕ). z * k) b ∙ zero-mul k in
          subst (λ (z : ℕ). 2 ^ 52 * (z - d * k + (d * k - z)) ≤ d * k) (sym l) (subst (λ (z : ℕ). 2 ^ 52 * (0 - z + (z - 0)) ≤ z) (sym r) (omega arith))

  weighs_some : 0 < num d → s ≡ false → den d ≤ num d * 2 ^ 48 → Weighs (weigh d m)
  unfolding weigh
  weighs_some D z l =
      let w = wet d m in
      let near = wet_near z l in
      let a = num d * den rest in
      let small = wet_small a (den d * num rest) (num w) (den w) (mul-pos D (den_pos rest)) (quotient_small (num d) (den d) (num rest) (den rest) l rest_large) (fraction_twice near) in
      record {
        dry_ordinary = plain_ordinary s d p ds;
        moisture_ordinary = plain_ordinary t m q ms;
        wet_ordinary = ordinary false w near.value (inr refl) (inr small);
        at_most_half = h;
        within = within_at top bottom (num rest) (den rest) (num d) (den d) (num w) (den w) (den_pos rest) rest_near.under rest_near.over near.under near.over;
      }

  weighs : Weighs (weigh d m)
  weighs = go (eq-zero-or-pos (num d)) ds p.small
    where
      go : (num d ≡ 0) ⊎ (0 < num d) → Above s d → (num d ≡ 0) ⊎ (den d ≤ num d * 2 ^ 48) → Weighs (weigh d m)
      go (inl z) a b = weighs_zero z
      go (inr l) (inl z) b = weighs_zero z
      go (inr l) (inr f) (inl z) = weighs_zero z
      go (inr l) (inr f) (inr b) = weighs_some l f b

-- ---- an accepted weighing

-- a node as a double
as_double_plain : (h : ℕ) (r : Reading) (L M : Lent) (y : Float) → Sized r → as_double h r L ≡ ok y M → (s : Bool) × Plain s y
unfolding as_double pure refuse
as_double_plain h (Whole n) L M y g e = (negative n, subst (Plain (negative n)) same (subst (λ (z : ℤ). Plain (negative z) (of_int binary64 z)) (sym g.1) (whole_plain g.0)))
  where
    same : of_int binary64 n ≡ y
    same = cc
as_double_plain h (Double z) L M y g e = (g.0, subst (Plain g.0) same g.1)
  where
    same : z ≡ y
    same = cc
as_double_plain h NotANumber L M y g e = no_ok e

double_at_plain : (h : ℕ) (L M : Lent) (y : Float) → double_at h L ≡ ok y M → (s : Bool) × Plain s y
unfolding double_at node_reading ◌>>=◌ look pure next
double_at_plain h L M y e = as_double_plain h (row_reading (held L).bytes (node (held L) h)) L M y (row_sized (held L).bytes (node (held L) h)) e

-- the dry weight: not below zero besides
dry_at_plain : (h : ℕ) (L M : Lent) (y : Float) → dry_at h L ≡ ok y M → (s : Bool) × Plain s y × (lt y positive_zero ≡ false)
unfolding dry_at ◌>>=◌ pick pure refuse
dry_at_plain h L M y e = un (double_at h L) (λ z. pick (lt z positive_zero) (refuse (NotAWeight h)) (pure z)) e λ z K f k. go z K (double_at_plain h L K z f) (lt z positive_zero) refl k
  where
    go : (z : Float) (K : Lent) → (s : Bool) × Plain s z → (t : Bool) → lt z positive_zero ≡ t → pick t (refuse (NotAWeight h)) (pure z) K ≡ ok y M → (s : Bool) × Plain s y × (lt y positive_zero ≡ false)
    go z K g true f k = no_ok k
    go z K g false f k =
        let same : z ≡ y = cc in
        subst (λ (z : Float). (s : Bool) × Plain s z × (lt z positive_zero ≡ false)) same (g.0, g.1, f)

-- both weights are in and the moisture is judged
judged : (d x : Float) (w : Weighing) (K M : Lent) → (s : Bool) × Plain s d × (lt d positive_zero ≡ false) → (t : Bool) × Plain t x
    → next (check_moisture x K) (λ _. pure (weigh d x)) ≡ ok w M → Weighs w
unfolding check_moisture pick refuse pure next
judged d x w K M p q k = go (lt x positive_zero) (lt half x) refl refl k
  where
    go : (a b : Bool) → lt x positive_zero ≡ a → lt half x ≡ b → next (pick (a || b) (refuse BadMoisture) (pure (tt {0})) K) (λ _. pure (weigh d x)) ≡ ok w M → Weighs w
    go true b f g k = no_ok k
    go false true f g k = no_ok k
    go false false f g k =
        let same : weigh d x ≡ w = cc in
        let ds = not_below p.0 d p.1.value p.2 in
        let ms = not_below q.0 x q.1.value f in
        subst Weighs same (weighs p.0 q.0 d x p.1 q.1 ds ms (at_most_half q.0 x q.1.value ms g))

-- ---- the theorems

-- whatever is lent, whichever the two nodes
pub weighing_weighs : (h m : ℕ) (L M : Lent) (w : Weighing) → wet_weight h m L ≡ ok w M → Weighs w
unfolding wet_weight weigh_nodes ◌>>=◌
weighing_weighs h m L M w e =
    un (handles_checked (h ∷ m ∷ []) L) _ e λ _ L₁ _ e₁.
    un (dry_at h L₁) _ e₁ λ d L₂ f e₂.
    un (double_at m L₂) _ e₂ λ x L₃ g e₃.
    judged d x w L₃ M (dry_at_plain h L₁ L₂ d f) (double_at_plain m L₂ L₃ x g) e₃

-- 02's bound: within dry / 2 ^ 51
pub within_51 : (w : Weighing) → Within 52 w → Within 51 w
within_51 w = at (apart (num w.wet * (den w.moisture - num w.moisture) * den w.dry) (num w.dry * (den w.wet * den w.moisture))) (num w.dry * (den w.wet * den w.moisture))
  where
    at : (a b : ℕ) → 2 ^ 52 * a ≤ b → 2 ^ 51 * a ≤ b
    at a b h = omega arith

-- ---- the calls

-- the call that weighs, accepted: all that holds of its weighing
pub weighed_weighs : (h m : ℕ) (L : Lent) → (weighed_done (wet_weight h m L)).answer ≡ Accepted → Weighs (weighed_done (wet_weight h m L)).weighing
unfolding weighed_done
weighed_weighs h m L e = go (wet_weight h m L) refl e
  where
    go : (o : Outcome Lent Weighing) → wet_weight h m L ≡ o → (weighed_done o).answer ≡ Accepted → Weighs (weighed_done o).weighing
    go (ok w M) f e = weighing_weighs h m L M w f
    go (refused r) f e = impossible (cc)

-- accepted or refused, none of its three doubles is a NaN
pub weighed_never_nan : (h m : ℕ) (L : Lent) → let w = (weighed_done (wet_weight h m L)).weighing in T (not (is_nan w.dry)) × T (not (is_nan w.moisture)) × T (not (is_nan w.wet))
unfolding weighed_done is_nan
weighed_never_nan h m L = go (wet_weight h m L) refl
  where
    go : (o : Outcome Lent Weighing) → wet_weight h m L ≡ o → let w = (weighed_done o).weighing in T (not (is_nan w.dry)) × T (not (is_nan w.moisture)) × T (not (is_nan w.wet))
    go (ok w M) f =
        let k = weighing_weighs h m L M w f in
        (finite_no_nan w.dry k.dry_ordinary.0, finite_no_nan w.moisture k.moisture_ordinary.0, finite_no_nan w.wet k.wet_ordinary.0)
    go (refused r) f = (tt, tt, tt)
