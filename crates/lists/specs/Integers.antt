-- An integer's bytes as dump writes them: how many data bytes there are, the five forms, bytes that are another form, and a size byte against the sign.
use Prim.Native.Nat.{ℕ, suc, ◌+◌, ◌-◌, ◌*◌, ◌%◌, ◌^◌, ◌≤◌, ◌<◌}
use Rattle.std.proofs.Common.{arith, true≢false, ap, ◌∙◌}
use Rattle.std.specs.Prelude.{Bool, ◌&&◌, ◌≡◌, List, [], ◌∷◌, leb, ltb, eqb}
use Rattle.std.proofs.Math.Bool.{true, false}
use Rattle.std.proofs.Math.Path.{refl, sym}
use Rattle.std.specs.Int.Count.{count_leading_zeros}
use Rattle.std.proofs.lemmas.Nat.{leading_top}
use Rattle.std.proofs.Math.Pow.{pow_mono}
use borrow.Author.Tests.{lt-ltb, le-ltb, le-leb, lt-leb, eq-eqb, ne_eqb, eqb-true, eqb-false, leb-true, leb-false, ltb-true, ltb-false}
use Rattle.definition.specs.Run.{pick}
use Rattle.definition.specs.Integer.{integer_bytes, low_bytes, fewest, wrong_sign}
use Rattle.definition.specs.Node.{equal}
use Rattle.lists.specs.Words.{equal_self}

-- ---- how many data bytes

pub fewest_most : (v : ℕ) → fewest v ≤ 4
unfolding fewest
fewest_most v = omega arith

pub fewest_some : (v : ℕ) → 0 < v → v < 4294967296 → 1 ≤ fewest v
unfolding fewest
fewest_some v h l =
    let (j, e, lo, hi) = leading_top 32 v h l in
    omega (arith, e)

-- what n bytes hold takes no more; what they do not hold takes more
module _ (v n : ℕ) where
  within : (j : ℕ) → count_leading_zeros 32 v + suc j ≡ 32 → 2 ^ j ≤ v → v < 2 ^ (n * 8) → (t : Bool) → leb (n * 8) j ≡ t → fewest v ≤ n
  unfolding fewest
  within j e lo u true q = absurd (omega (arith, pow_mono {i = n * 8} {j = j} (leb-true (n * 8) j q)))
  within j e lo u false q = omega (arith, leb-false (n * 8) j q)

  beyond : (j : ℕ) → count_leading_zeros 32 v + suc j ≡ 32 → v < 2 ^ suc j → 2 ^ (n * 8) ≤ v → (t : Bool) → leb (n * 8) j ≡ t → n < fewest v
  unfolding fewest
  beyond j e hi u true q = omega (arith, leb-true (n * 8) j q)
  beyond j e hi u false q = absurd (omega (arith, pow_mono {i = suc j} {j = n * 8} (leb-false (n * 8) j q)))

  pub fewest_within : 0 < v → v < 4294967296 → v < 2 ^ (n * 8) → fewest v ≤ n
  fewest_within h l u = let (j, e, lo, hi) = leading_top 32 v h l in within j e lo u (leb (n * 8) j) refl

  pub fewest_beyond : 0 < v → v < 4294967296 → 2 ^ (n * 8) ≤ v → n < fewest v
  fewest_beyond h l u = let (j, e, lo, hi) = leading_top 32 v h l in beyond j e hi u (leb (n * 8) j) refl

-- ---- the five forms

module _ (w : ℕ) where
  pub bytes_zero : w ≡ 0 → integer_bytes w ≡ 0 ∷ []
  unfolding integer_bytes pick
  bytes_zero e = rw (eq-eqb w 0 e) refl

  pub bytes_small : (w ≡ 0 → ⊥) → w ≤ 122 → integer_bytes w ≡ (w + 5) ∷ []
  unfolding integer_bytes pick
  bytes_small n h = rw (ne_eqb w 0 n, le-leb w 122 h) refl

  pub bytes_large : 122 < w → w < 2147483648 → integer_bytes w ≡ fewest w ∷ low_bytes (fewest w) w
  unfolding integer_bytes pick
  bytes_large h l = rw (ne_eqb w 0 (omega arith), lt-leb w 122 h, lt-ltb w 2147483648 l) refl

  pub bytes_negative : 2147483648 ≤ w → w < 4294967173 → integer_bytes w ≡ (256 - fewest (4294967295 - w)) ∷ low_bytes (fewest (4294967295 - w)) w
  unfolding integer_bytes pick
  bytes_negative h l = rw (ne_eqb w 0 (omega arith), lt-leb w 122 (omega arith), le-ltb w 2147483648 h, lt-ltb w 4294967173 l) refl

  pub bytes_last : 4294967173 ≤ w → integer_bytes w ≡ ((w - 5) % 256) ∷ []
  unfolding integer_bytes pick
  bytes_last h = rw (ne_eqb w 0 (omega arith), lt-leb w 122 (omega arith), le-ltb w 2147483648 (omega arith), le-ltb w 4294967173 h) refl

-- the same with a size byte and a number of bytes that were found
pub large_as : (w k n : ℕ) → 122 < w → w < 2147483648 → k ≡ fewest w → n ≡ k → integer_bytes w ≡ k ∷ low_bytes n w
large_as w k n h l e f = bytes_large w h l ∙ λ i. sym e i ∷ low_bytes (sym (f ∙ e) i) w

pub negative_as : (w k n : ℕ) → 2147483648 ≤ w → w < 4294967173 → k ≡ fewest (4294967295 - w) → n ≡ k → integer_bytes w ≡ (256 - k) ∷ low_bytes n w
negative_as w k n h l e f = bytes_negative w h l ∙ λ i. (256 - sym e i) ∷ low_bytes (sym (f ∙ e) i) w

-- ---- are these bytes the form that dump writes?

-- they are
pub same_form : (w : ℕ) {bs : List ℕ} → integer_bytes w ≡ bs → true ≡ equal bs (integer_bytes w)
same_form w {bs} e = sym (ap (equal bs) e ∙ equal_self bs)

module _ (w b : ℕ) (bs : List ℕ) where
  other : {x : ℕ} {xs : List ℕ} → integer_bytes w ≡ x ∷ xs → (b ≡ x → ⊥) → false ≡ equal (b ∷ bs) (integer_bytes w)
  unfolding equal pick
  other {x} e n = sym (rw e (rw (ne_eqb b x n) refl))

  -- they are not: in no form is the first byte b
  pub other_form : (w ≡ 0 → b ≡ 0 → ⊥) → ((w ≡ 0 → ⊥) → w ≤ 122 → b ≡ w + 5 → ⊥) → (122 < w → w < 2147483648 → b ≡ fewest w → ⊥) → (2147483648 ≤ w → w < 4294967173 → b ≡ 256 - fewest (4294967295 - w) → ⊥) → (4294967173 ≤ w → b ≡ (w - 5) % 256 → ⊥) → false ≡ equal (b ∷ bs) (integer_bytes w)
  other_form z s l n k = zero? (eqb w 0) refl
    where
      last? : (t : Bool) → ltb w 4294967173 ≡ t → 2147483648 ≤ w → false ≡ equal (b ∷ bs) (integer_bytes w)
      last? true e h = let u = ltb-true w 4294967173 e in other (bytes_negative w h u) (n h u)
      last? false e h = let u = ltb-false w 4294967173 e in other (bytes_last w u) (k u)

      large? : (t : Bool) → ltb w 2147483648 ≡ t → 122 < w → false ≡ equal (b ∷ bs) (integer_bytes w)
      large? true e h = let u = ltb-true w 2147483648 e in other (bytes_large w h u) (l h u)
      large? false e h = last? (ltb w 4294967173) refl (ltb-false w 2147483648 e)

      small? : (t : Bool) → leb w 122 ≡ t → (w ≡ 0 → ⊥) → false ≡ equal (b ∷ bs) (integer_bytes w)
      small? true e h = let u = leb-true w 122 e in other (bytes_small w h u) (s h u)
      small? false e h = large? (ltb w 2147483648) refl (leb-false w 122 e)

      zero? : (t : Bool) → eqb w 0 ≡ t → false ≡ equal (b ∷ bs) (integer_bytes w)
      zero? true e = let u = eqb-true w 0 e in other (bytes_zero w u) (z u)
      zero? false e = small? (leb w 122) refl (eqb-false w 0 e)

-- ---- a size byte for a number of the other sign

pub few_negative : (b w : ℕ) (bs : List ℕ) → 1 ≤ b → b ≤ 4 → 2147483648 ≤ w → w < 4294967296 → false ≡ equal (b ∷ bs) (integer_bytes w)
few_negative b w bs h k l u =
    other_form w b bs (λ z e. omega (arith, z, l)) (λ z m e. omega (arith, m, l)) (λ m v e. omega (arith, v, l)) (λ m v e. omega (arith, e, k, fewest_most (4294967295 - w))) (λ m e. omega (arith, e, k, m, u))

pub many_positive : (b w : ℕ) (bs : List ℕ) → 252 ≤ b → w < 2147483648 → false ≡ equal (b ∷ bs) (integer_bytes w)
many_positive b w bs h l =
    other_form w b bs (λ z e. omega (arith, e, h)) (λ z m e. omega (arith, m, e, h)) (λ m v e. omega (arith, e, h, fewest_most w)) (λ m v e. omega (arith, m, l)) (λ m e. omega (arith, m, l))

-- no form that dump writes has a size byte against its sign
pub form_agrees : (w b : ℕ) (bs : List ℕ) → w < 4294967296 → equal (b ∷ bs) (integer_bytes w) ≡ true → wrong_sign b w ≡ false
unfolding wrong_sign pick
form_agrees w b bs u e = go (eqb b 4) (eqb b 252) (ltb w 2147483648) refl refl refl
  where
    no : {t : Bool} → false ≡ equal (b ∷ bs) (integer_bytes w) → t ≡ false
    no q = absurd (true≢false (sym (q ∙ e)))

    go : (x y z : Bool) → eqb b 4 ≡ x → eqb b 252 ≡ y → ltb w 2147483648 ≡ z → pick x (leb 2147483648 w) (y && ltb w 2147483648) ≡ false
    go true y true f g h = lt-leb 2147483648 w (ltb-true w 2147483648 h)
    go true y false f g h = let q = eqb-true b 4 f in no (few_negative b w bs (omega arith) (omega arith) (ltb-false w 2147483648 h) u)
    go false true true f g h = let q = eqb-true b 252 g in no (many_positive b w bs (omega arith) (ltb-true w 2147483648 h))
    go false true false f g h = h
    go false false z f g h = refl
