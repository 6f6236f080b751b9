-- The 32 bits of a number in two's complement.
use Prim.Native.Nat.{ℕ, suc, ◌-◌, ◌^◌, ◌≤◌, ◌<◌, zero-le}
use native.Mathlib.Omega.{arith}
use native.Mathlib.Nat.{lt_of_lt_of_le}
use mathlib.Core.Bool.{Bool, true, false, cond}
use mathlib.Core.Path.{◌≡◌, refl, sym, ap, ◌∙◌, subst}
use lib.Dec.{T, ltb}
use lib.IntN.{ℤ, pos, negsuc, nat_abs, ◌-ℤ◌}
use lib.Signed.{lt_z, non_neg}
use mir.Syntax.{Width, w32}
use mir.Val as M
use mir.Val.{Fits, SFits, to_z, of_z, sel}
use mir.Facts.{to_z-of_z}
use borrow.Author.Tests.{le-ltb}
use Rattle.definition.specs.Run.{pick}
use Rattle.definition.specs.Build.{bits}
use Rattle.definition.specs.Refused.{signed}

abbrev again : ℤ → ℤ
again z = to_z w32 (of_z w32 z)

-- what a call passes on
pub passed : {z : ℤ} → SFits w32 z → again z ≡ z
passed f = to_z-of_z f

-- the library's bits are the definition's
pub unsigned_is : (z : ℤ) → of_z w32 z ≡ bits z
unfolding bits
unsigned_is (pos n) = refl
unsigned_is (negsuc n) = omega arith

-- and so is the number whose bits are w
pub signed_is : (w : ℕ) → to_z w32 w ≡ signed w
unfolding signed pick
signed_is w = go (ltb w 2147483648)
  where
    less : 4294967296 - suc w ≡ 4294967295 - w
    less = omega arith

    go : (b : Bool) → sel b (pos w) (negsuc (4294967296 - suc w)) ≡ pick b (pos w) (negsuc (4294967295 - w))
    go true = refl
    go false = ap negsuc less

-- ---- a number of 32 bits at any width that holds it: z itself, or −1 − z where z is below 0

-- −1 − z for a z below 0
less : (n : ℕ) → negsuc 0 -ℤ negsuc n ≡ pos n
less n = ap (λ (b : Bool). cond b (negsuc (1 - suc (suc n))) (pos (suc n - 1))) (le-ltb (suc n) 1 (omega arith)) ∙ ap pos (omega arith)

abbrev minus : ℤ → ℤ
minus z = negsuc 0 -ℤ again z

-- a number that is below 0, or not, by the test of what a call passes on
negative : (z : ℤ) → SFits w32 z → lt_z (again z) (pos 0) ≡ true → (n : ℕ) × (z ≡ negsuc n) × (n < 2147483648)
negative z f e = go z f (ap (λ (x : ℤ). lt_z x (pos 0)) (sym (to_z-of_z f)) ∙ e)
  where
    go : (z : ℤ) → SFits w32 z → lt_z z (pos 0) ≡ true → (n : ℕ) × (z ≡ negsuc n) × (n < 2147483648)
    go (pos n) g q = absurd (subst T (sym q ∙ le-ltb n 0 zero-le) tt)
    go (negsuc n) g q = (n, refl, g.sfits)

positive : (z : ℤ) → SFits w32 z → lt_z (again z) (pos 0) ≡ false → (n : ℕ) × (z ≡ pos n) × (n < 2147483648)
positive z f e = go z f (ap (λ (x : ℤ). lt_z x (pos 0)) (sym (to_z-of_z f)) ∙ e)
  where
    go : (z : ℤ) → SFits w32 z → lt_z z (pos 0) ≡ false → (n : ℕ) × (z ≡ pos n) × (n < 2147483648)
    go (pos n) g q = (n, refl, g.sfits)
    go (negsuc n) g q = absurd (subst T q tt)

module _ (z : ℤ) (f : SFits w32 z) (e : lt_z (again z) (pos 0) ≡ true) where
  -- −1 − z is not below 0
  is : (n : ℕ) × (z ≡ negsuc n) × (n < 2147483648) × (minus z ≡ pos n) × (again (minus z) ≡ pos n)
  is =
      let (n, q, l) = negative z f e in
      let m : minus z ≡ pos n = ap (λ (x : ℤ). negsuc 0 -ℤ x) (to_z-of_z f ∙ q) ∙ less n in
      let g : SFits w32 (pos n) = record { sfits = l } in
      (n, q, l, m, ap again m ∙ to_z-of_z g)

  -- at any width that holds 31 bits
  pub minus_cast : (w : Width) → 2147483648 ≤ 2 ^ M.bits w → T (non_neg (again (minus z))) × Fits w (nat_abs (again (minus z)))
  minus_cast w k = let (n, q, l, m, a) = is in subst (λ (x : ℤ). T (non_neg x) × Fits w (nat_abs x)) (sym a) (tt, record { fits = lt_of_lt_of_le l k })

  -- what f makes of a number below 0, g makes of −1 − z
  pub minus_is : (f : ℤ → ℕ) (g : ℕ → ℕ) → ((n : ℕ) → g n ≡ f (negsuc n)) → g (nat_abs (again (minus z))) ≡ f z
  minus_is f g h = let (n, q, l, m, a) = is in ap (λ (x : ℤ). g (nat_abs x)) a ∙ h n ∙ sym (ap f q)

module _ (z : ℤ) (f : SFits w32 z) (e : lt_z (again z) (pos 0) ≡ false) where
  pub plus_is : (f : ℤ → ℕ) → ((n : ℕ) → n ≡ f (pos n)) → nat_abs (again z) ≡ f z
  plus_is g h = let (n, q, l) = positive z f e in ap nat_abs (to_z-of_z f ∙ q) ∙ h n ∙ sym (ap g q)
