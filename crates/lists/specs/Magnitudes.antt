-- A Bignum's magnitude: units to magnitude and back are inverse, the fewest units are unique, and the two words.
use Rattle.std.specs.Prelude.{ℕ, zero, suc, ◌+◌, ◌*◌, ◌/◌, ◌%◌, ◌^◌, ◌≤◌, ◌<◌, Bool, true, false, not, ◌≡◌, refl, List, [], ◌∷◌, ◌++◌, ltb, leb, eqb, length}
use Rattle.std.proofs.Common.{arith, zero-add, le_refl, mul-le-mul, pow-suc, sym as psym, ◌∙◌, length-append, eqb-true, eq-eqb, ne_eqb, ltb-true, ltb-false, leb-true, leb-false}
use Rattle.std.proofs.Math.Nat.{pow-le-pow_right}
use Rattle.std.proofs.Math.Path.{ap}
use Rattle.std.proofs.lemmas.Bool.{eqb-false}
use Rattle.definition.specs.Run.{pick}
use Rattle.definition.specs.Integer.{little, low_bytes}
use Rattle.definition.specs.Node.{equal}
use Rattle.definition.specs.Magnitude.{fits, magnitude, fewest_units, unit_bytes}
use Rattle.lists.specs.Lists.{apart, at_app, Below}
use Rattle.lists.specs.Words.{equal_true, equal_self, length_low, above, little_low, low_little, little_below, little_above, little_append}

-- ---- units and magnitude

-- units to magnitude and back: n units are those of their magnitude
pub units_of_magnitude : (n : ℕ) (bs : List ℕ) → Below 256 bs → length bs ≡ n * 2 → low_bytes (n * 2) (little bs 0) ≡ bs
units_of_magnitude n bs h e = rw (← e) (low_little bs 0 h)

-- what n units hold, in bytes
unit_power : (n : ℕ) → 256 ^ (n * 2) ≡ 65536 ^ n
unit_power zero = refl
unit_power (suc n) =
    let two : suc n * 2 ≡ suc (suc (n * 2)) = omega arith in
    ap (λ (k : ℕ). 256 ^ k) two ∙ omega (arith, pow-suc 256 (suc (n * 2)), pow-suc 256 (n * 2), unit_power n, pow-suc 65536 n)

-- nothing is above n units that hold a magnitude
above_none : (n m : ℕ) → m < 65536 ^ n → above (n * 2) m ≡ 0
above_none zero m h = omega (arith, h)
above_none (suc n) m h =
    let two : suc n * 2 ≡ suc (suc (n * 2)) = omega arith in
    ap (λ (k : ℕ). above k m) two ∙ above_none n (m / 256 / 256) (omega (arith, h, pow-suc 65536 n))

-- magnitude to units and back
pub magnitude_of_units : (n m : ℕ) → m < 65536 ^ n → little (low_bytes (n * 2) m) 0 ≡ m
magnitude_of_units n m h = ap (little (low_bytes (n * 2) m)) (psym (above_none n m h)) ∙ little_low (n * 2) m

-- ---- the fewest units

-- what n units do not hold takes more
at_least : (n m k : ℕ) → 65536 ^ n ≤ m → m < 65536 ^ k → suc n ≤ k
at_least n m k l u = go (leb k n) refl
  where
    go : (t : Bool) → leb k n ≡ t → suc n ≤ k
    go true e = absurd (omega (arith, l, u, pow-le-pow_right {n = 65536} (omega arith) (leb-true k n e)))
    go false e = leb-false k n e

-- n units hold the magnitude, and no fewer do
pub record Fewest (m n : ℕ) : Type 0 where
  pub holds : m < 65536 ^ n
  pub least : (k : ℕ) → m < 65536 ^ k → n ≤ k

pub fewest_unique : {m a b : ℕ} → Fewest m a → Fewest m b → a ≡ b
fewest_unique {m} {a} {b} x y = omega (arith, x.least b y.holds, y.least a x.holds)

pub fewest : (m : ℕ) → m < 18446744073709551616 → Fewest m (fewest_units m)
unfolding fewest_units pick
fewest m h = go (eqb m 0) (ltb m 65536) (ltb m 4294967296) (ltb m 281474976710656) refl refl refl refl
  where
    go : (a b c d : Bool) → eqb m 0 ≡ a → ltb m 65536 ≡ b → ltb m 4294967296 ≡ c → ltb m 281474976710656 ≡ d → Fewest m (pick a 0 (pick b 1 (pick c 2 (pick d 3 4))))
    go true b c d e₁ e₂ e₃ e₄ = let e = eqb-true m 0 e₁ in record { holds = omega arith; least = λ k l. omega arith }
    go false true c d e₁ e₂ e₃ e₄ = let e = eqb-false m 0 e₁ in let u = ltb-true m 65536 e₂ in record { holds = omega arith; least = λ k l. at_least 0 m k (omega arith) l }
    go false false true d e₁ e₂ e₃ e₄ = let e = ltb-false m 65536 e₂ in let u = ltb-true m 4294967296 e₃ in record { holds = omega arith; least = λ k l. at_least 1 m k (omega arith) l }
    go false false false true e₁ e₂ e₃ e₄ = let e = ltb-false m 4294967296 e₃ in let u = ltb-true m 281474976710656 e₄ in record { holds = omega arith; least = λ k l. at_least 2 m k (omega arith) l }
    go false false false false e₁ e₂ e₃ e₄ = let e = ltb-false m 281474976710656 e₄ in record { holds = omega arith; least = λ k l. at_least 3 m k (omega arith) l }

-- a magnitude that fits has at most four
pub fits_below : (m : ℕ) → fits m ≡ true → m < 9223372036854775808
unfolding fits
fits_below m h = ltb-true m 9223372036854775808 h

pub few_units : (m : ℕ) → fewest_units m ≤ 4
unfolding fewest_units pick
few_units m = go (eqb m 0) (ltb m 65536) (ltb m 4294967296) (ltb m 281474976710656)
  where
    go : (a b c d : Bool) → pick a 0 (pick b 1 (pick c 2 (pick d 3 4))) ≤ 4
    go true b c d = omega arith
    go false true c d = omega arith
    go false false true d = omega arith
    go false false false true = omega arith
    go false false false false = omega arith

-- what dump writes says the magnitude
pub unit_bytes_say : (m : ℕ) → fits m ≡ true → little (unit_bytes m) 0 ≡ m
unfolding unit_bytes
unit_bytes_say m h = magnitude_of_units (fewest_units m) m (fewest m (omega (arith, fits_below m h))).holds

-- n units of a magnitude are those that dump writes exactly when they are the fewest
pub as_written : (n m : ℕ) → equal (low_bytes (n * 2) m) (unit_bytes m) ≡ eqb n (fewest_units m)
unfolding unit_bytes
as_written n m = go (equal xs ys) (eqb n (fewest_units m)) refl refl
  where
    xs : List ℕ
    xs = low_bytes (n * 2) m

    ys : List ℕ
    ys = low_bytes (fewest_units m * 2) m

    go : (a b : Bool) → equal xs ys ≡ a → eqb n (fewest_units m) ≡ b → equal xs ys ≡ eqb n (fewest_units m)
    go true true e f = e ∙ psym f
    go false false e f = e ∙ psym f
    go true false e f =
        absurd (eqb-false n (fewest_units m) f (omega (arith, length_low (n * 2) m, length_low (fewest_units m * 2) m, ap (λ (l : List ℕ). length l) (equal_true xs ys e))))
    go false true e f =
        let z = eqb-true n (fewest_units m) f in
        let q = psym e ∙ ap (λ (k : ℕ). equal (low_bytes (k * 2) m) ys) z ∙ equal_self ys in
        apart (cc)

-- units whose last is of bytes lo and hi are those that dump writes just where that is not zero: "High zero units"
module _ (n : ℕ) (bs : List ℕ) (lo hi : ℕ) (h : Below 256 (bs ++ (lo ∷ hi ∷ []))) (f : n ≤ 3) (e : length bs ≡ n * 2) where
  abbrev all : List ℕ
  all = bs ++ (lo ∷ hi ∷ [])

  abbrev said : ℕ
  said = little all 0

  long : length all ≡ suc n * 2
  long = length-append bs (lo ∷ hi ∷ []) ∙ omega (arith, e)

  split : said ≡ little bs (hi * 256 + lo)
  unfolding little
  split = little_append bs (lo ∷ hi ∷ []) 0 ∙ ap (λ (x : ℕ). little bs (x * 256 + lo)) (zero-add hi)

  power : 256 ^ length bs ≡ 65536 ^ n
  power = ap (λ (k : ℕ). 256 ^ k) e ∙ unit_power n

  holds_all : said < 65536 ^ suc n
  holds_all = omega (arith, little_below all 0 h, ap (λ (k : ℕ). 256 ^ k) long ∙ unit_power (suc n))

  the_fewest : Fewest said (fewest_units said)
  the_fewest = fewest said (omega (arith, holds_all, pow-le-pow_right {n = 65536} (omega arith) {i = suc n} {j = 4} (omega arith)))

  pub high_unit : equal all (unit_bytes said) ≡ not (eqb (lo + hi) 0)
  high_unit = ap (λ (x : List ℕ). equal x (unit_bytes said)) (psym (units_of_magnitude (suc n) all h long)) ∙ as_written (suc n) said ∙ go (eqb (lo + hi) 0) refl
    where
      go : (t : Bool) → eqb (lo + hi) 0 ≡ t → eqb (suc n) (fewest_units said) ≡ not t
      go true q =
          let z = eqb-true (lo + hi) 0 q in
          let over : hi * 256 + lo ≡ 0 = omega arith in
          let low : said < 65536 ^ n = rw (split, over, ← power) (omega (arith, little_below bs 0 (λ k v a. h k v (at_app bs (lo ∷ hi ∷ []) k v a)))) in
          ne_eqb (suc n) (fewest_units said) (λ x. omega (arith, x, the_fewest.least n low))
      go false q =
          let z = eqb-false (lo + hi) 0 q in
          let over : 1 ≤ hi * 256 + lo = omega arith in
          let high : 65536 ^ n ≤ said = rw (split, ← power) (omega (arith, mul-le-mul over (le_refl (256 ^ length bs)), little_above bs (hi * 256 + lo))) in
          eq-eqb (suc n) (fewest_units said) (omega (arith, the_fewest.least (suc n) holds_all, at_least n said (fewest_units said) high the_fewest.holds))

-- ---- the two words

pub of_words : (m : ℕ) → magnitude (m % 4294967296) (m / 4294967296) ≡ m
unfolding magnitude
of_words m = omega arith
