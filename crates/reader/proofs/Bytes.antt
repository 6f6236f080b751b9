-- One to four bytes of an input as a number, and the number's low bytes.
use Prim.Native.Nat.{ℕ, zero, suc, ◌+◌, ◌-◌, ◌*◌, ◌/◌, ◌%◌, ◌^◌, ◌≤◌, ◌<◌}
use native.Mathlib.Omega.{arith}
use native.Mathlib.Numerals.{add-one}
use mathlib.Core.Path.{◌≡◌, refl, sym, ap, ◌∙◌}
use mathlib.Core.List.{List, [], ◌∷◌}
use lib.ListN.{length, get_or, take, drop}
use lib.Seq.{drop-cons}
use Rattle.definition.specs.Integer.{little, low_bytes}

module _ (l : List ℕ) (over : ℕ) where
  step : (at n : ℕ) → at < length l → little (take (suc n) (drop at l)) over ≡ little (take n (drop (at + 1) l)) over * 256 + get_or l at 0
  unfolding little
  step at n h =
      ap (λ (x : List ℕ). little (take (suc n) x) over) (drop-cons l at 0 h)
      ∙ ap (λ (k : ℕ). little (take n (drop k l)) over * 256 + get_or l at 0) (sym (add-one at))

  pub one : (at : ℕ) → at + 1 ≤ length l → little (take 1 (drop at l)) over ≡ over * 256 + get_or l at 0
  unfolding little
  one at h = step at 0 (omega arith)

  pub two : (at : ℕ) → at + 2 ≤ length l → little (take 2 (drop at l)) over ≡ (over * 256 + get_or l (at + 1) 0) * 256 + get_or l at 0
  two at h = step at 1 (omega arith) ∙ ap (λ (x : ℕ). x * 256 + get_or l at 0) (one (at + 1) (omega arith))

  pub three : (at : ℕ) → at + 3 ≤ length l → little (take 3 (drop at l)) over ≡ ((over * 256 + get_or l (at + 2) 0) * 256 + get_or l (at + 1) 0) * 256 + get_or l at 0
  three at h =
      let e : at + 1 + 1 ≡ at + 2 = omega arith in
      step at 2 (omega arith) ∙ ap (λ (x : ℕ). x * 256 + get_or l at 0) (two (at + 1) (omega arith) ∙ ap (λ (k : ℕ). (over * 256 + get_or l k 0) * 256 + get_or l (at + 1) 0) e)

  pub four : (at : ℕ) → at + 4 ≤ length l → little (take 4 (drop at l)) over ≡ (((over * 256 + get_or l (at + 3) 0) * 256 + get_or l (at + 2) 0) * 256 + get_or l (at + 1) 0) * 256 + get_or l at 0
  four at h =
      let e : at + 1 + 1 ≡ at + 2 = omega arith in
      let f : at + 1 + 2 ≡ at + 3 = omega arith in
      step at 3 (omega arith) ∙ ap (λ (x : ℕ). x * 256 + get_or l at 0) (three (at + 1) (omega arith) ∙ λ i. ((over * 256 + get_or l (f i) 0) * 256 + get_or l (e i) 0) * 256 + get_or l (at + 1) 0)

-- n bytes under all ones
pub under_ones : (l : List ℕ) (at n ones v : ℕ) → 1 ≤ n → n ≤ 4 → at + n ≤ length l → ones + 256 ^ n ≡ 4294967296 → v ≡ little (take n (drop at l)) 0 → ones + v ≡ little (take n (drop at l)) (256 ^ (4 - n) - 1)
under_ones l at zero ones v h k m e q = absurd (omega (arith, h))
under_ones l at (suc zero) ones v h k m e q = omega (arith, q, e, one l 0 at m, one l 16777215 at m)
under_ones l at (suc (suc zero)) ones v h k m e q = omega (arith, q, e, two l 0 at m, two l 65535 at m)
under_ones l at (suc (suc (suc zero))) ones v h k m e q = omega (arith, q, e, three l 0 at m, three l 255 at m)
under_ones l at (suc (suc (suc (suc zero)))) ones v h k m e q = omega (arith, q, e, four l 0 at m)
under_ones l at (suc (suc (suc (suc (suc n))))) ones v h k m e q = absurd (omega (arith, k))

-- ---- the low bytes

module _ (l : List ℕ) where
  low_step : (at n r : ℕ) → at < length l → get_or l at 0 ≡ r % 256 → take n (drop (at + 1) l) ≡ low_bytes n (r / 256) → take (suc n) (drop at l) ≡ low_bytes (suc n) r
  unfolding low_bytes
  low_step at n r h a e =
      ap (take (suc n)) (drop-cons l at 0 h) ∙ (λ i. a i ∷ take n (drop (sym (add-one at) i) l)) ∙ ap (λ (x : List ℕ). (r % 256) ∷ x) e

  pub low_one : (at r : ℕ) → at + 1 ≤ length l → get_or l at 0 ≡ r % 256 → take 1 (drop at l) ≡ low_bytes 1 r
  unfolding low_bytes
  low_one at r h a = low_step at 0 r (omega arith) a refl

  pub low_two : (at r : ℕ) → at + 2 ≤ length l → get_or l at 0 ≡ r % 256 → get_or l (at + 1) 0 ≡ r / 256 % 256 → take 2 (drop at l) ≡ low_bytes 2 r
  low_two at r h a b = low_step at 1 r (omega arith) a (low_one (at + 1) (r / 256) (omega arith) b)

  pub low_three : (at r : ℕ) → at + 3 ≤ length l → get_or l at 0 ≡ r % 256 → get_or l (at + 1) 0 ≡ r / 256 % 256 → get_or l (at + 2) 0 ≡ r / 256 / 256 % 256 → take 3 (drop at l) ≡ low_bytes 3 r
  low_three at r h a b c =
      let e : at + 1 + 1 ≡ at + 2 = omega arith in
      low_step at 2 r (omega arith) a (low_two (at + 1) (r / 256) (omega arith) b (ap (λ (k : ℕ). get_or l k 0) e ∙ c))

  pub low_four : (at r : ℕ) → at + 4 ≤ length l → get_or l at 0 ≡ r % 256 → get_or l (at + 1) 0 ≡ r / 256 % 256 → get_or l (at + 2) 0 ≡ r / 256 / 256 % 256 → get_or l (at + 3) 0 ≡ r / 256 / 256 / 256 % 256 → take 4 (drop at l) ≡ low_bytes 4 r
  low_four at r h a b c d =
      let e : at + 1 + 1 ≡ at + 2 = omega arith in
      let f : at + 1 + 2 ≡ at + 3 = omega arith in
      low_step at 3 r (omega arith) a (low_three (at + 1) (r / 256) (omega arith) b (ap (λ (k : ℕ). get_or l k 0) e ∙ c) (ap (λ (k : ℕ). get_or l k 0) f ∙ d))

-- ones above the n low bytes do not change them
pub low_ones : (n ones v : ℕ) → n ≤ 4 → ones + 256 ^ n ≡ 4294967296 → low_bytes n (ones + v) ≡ low_bytes n v
unfolding low_bytes
low_ones zero ones v h e = refl
low_ones (suc zero) ones v h e =
    let a : (ones + v) % 256 ≡ v % 256 = omega arith in
    λ i. a i ∷ []
low_ones (suc (suc zero)) ones v h e =
    let a : (ones + v) % 256 ≡ v % 256 = omega arith in
    let p : (ones + v) / 256 ≡ 16776960 + v / 256 = omega arith in
    let b : (16776960 + v / 256) % 256 ≡ v / 256 % 256 = omega arith in
    λ i. a i ∷ (ap (λ (x : ℕ). x % 256) p ∙ b) i ∷ []
low_ones (suc (suc (suc zero))) ones v h e =
    let a : (ones + v) % 256 ≡ v % 256 = omega arith in
    let p : (ones + v) / 256 ≡ 16711680 + v / 256 = omega arith in
    let b : (16711680 + v / 256) % 256 ≡ v / 256 % 256 = omega arith in
    let q : (16711680 + v / 256) / 256 ≡ 65280 + v / 256 / 256 = omega arith in
    let c : (65280 + v / 256 / 256) % 256 ≡ v / 256 / 256 % 256 = omega arith in
    λ i. a i ∷ (ap (λ (x : ℕ). x % 256) p ∙ b) i ∷ (ap (λ (x : ℕ). x / 256 % 256) p ∙ ap (λ (x : ℕ). x % 256) q ∙ c) i ∷ []
low_ones (suc (suc (suc (suc zero)))) ones v h e = ap (low_bytes 4) (omega (arith, e))
low_ones (suc (suc (suc (suc (suc n))))) ones v h e = absurd (omega (arith, h))
