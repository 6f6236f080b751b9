-- The bytes of an integer: storing its data bytes, and how many bytes it takes; the bytes of a Bignum's number.
use Prim.Native.Nat.{ℕ, zero, suc, ◌+◌, ◌-◌, ◌*◌, ◌/◌, ◌%◌, ◌≤◌, ◌<◌}
use native.Mathlib.Omega.{arith}
use native.Mathlib.Numerals.{add-one}
use native.Mathlib.Nat.{add-zero, sub-zero}
use mathlib.Core.Bool.{Bool, true, false}
use mathlib.Core.Path.{◌≡◌, refl, sym, ap, ◌∙◌}
use mathlib.Core.List.{List, [], ◌∷◌, ◌++◌}
use lib.Dec.{leb, ltb}
use lib.ListN.{length, set}
use lib.Seq.{sets}
use borrow.Author.Tests.{leb-true, leb-false, ltb-true, ltb-false}
use Rattle.definition.specs.Integer.{integer_bytes, low_bytes, fewest}
use Rattle.definition.specs.Magnitude.{fewest_units, sign_byte, unit_bytes, bignum_bytes}
use Rattle.lists.specs.Words.{length_low, above, low_append}
pub use Rattle.lists.specs.Integers.{fewest_most, fewest_some, bytes_zero, bytes_small, bytes_last, large_as, negative_as}

-- ---- storing the low bytes

pub low_start : (out : List ℕ) (at n v : ℕ) → sets out at (low_bytes n v) ≡ sets out (at + 0) (low_bytes (n - 0) v)
low_start out at n v = rw (add-zero, sub-zero) refl

pub low_on : (out : List ℕ) (at n i w : ℕ) → i < n → sets out (at + i) (low_bytes (n - i) w) ≡ sets (set out (at + i) (w % 256)) (at + (i + 1)) (low_bytes (n - (i + 1)) (w / 256))
unfolding low_bytes
low_on out at n i w h =
    let a : n - i ≡ suc (n - (i + 1)) = omega arith in
    let b : at + (i + 1) ≡ suc (at + i) = omega arith in
    rw (a, b) refl

pub low_end : (out : List ℕ) (at n i w : ℕ) → n ≤ i → sets out (at + i) (low_bytes (n - i) w) ≡ out
unfolding low_bytes
low_end out at n i w h =
    let a : n - i ≡ 0 = omega arith in
    rw a refl

-- ---- how many bytes

pub size_small : (w : ℕ) → w ≤ 122 → 1 ≡ length (integer_bytes w)
size_small zero h = sym (ap length (bytes_zero 0 refl))
size_small (suc w) h = sym (ap length (bytes_small (suc w) (omega arith) h))

pub size_last : (w : ℕ) → 4294967173 ≤ w → 1 ≡ length (integer_bytes w)
size_last w h = sym (ap length (bytes_last w h))

pub size_large : (w k n : ℕ) → 122 < w → w < 2147483648 → k ≡ fewest w → n ≡ k → n + 1 ≡ length (integer_bytes w)
size_large w k n h l e f = sym (ap length (large_as w k n h l e f) ∙ omega (arith, length_low n w))

pub size_negative : (w k n : ℕ) → 2147483648 ≤ w → w < 4294967173 → k ≡ fewest (4294967295 - w) → n ≡ k → n + 1 ≡ length (integer_bytes w)
size_negative w k n h l e f = sym (ap length (negative_as w k n h l e f) ∙ omega (arith, length_low n w))

-- an integer takes five bytes at most
pub size_most : (w : ℕ) → length (integer_bytes w) ≤ 5
size_most w = small (leb w 122) refl
  where
    last : (b : Bool) → ltb w 4294967173 ≡ b → 2147483648 ≤ w → length (integer_bytes w) ≤ 5
    last true e h = omega (arith, size_negative w _ _ h (ltb-true w 4294967173 e) refl refl, fewest_most (4294967295 - w))
    last false e h = omega (arith, size_last w (ltb-false w 4294967173 e))

    large : (b : Bool) → ltb w 2147483648 ≡ b → 122 < w → length (integer_bytes w) ≤ 5
    large true e h = omega (arith, size_large w _ _ h (ltb-true w 2147483648 e) refl refl, fewest_most w)
    large false e h = last (ltb w 4294967173) refl (ltb-false w 2147483648 e)

    small : (b : Bool) → leb w 122 ≡ b → length (integer_bytes w) ≤ 5
    small true e = omega (arith, size_small w (leb-true w 122 e))
    small false e = large (ltb w 2147483648) refl (leb-false w 122 e)

-- a byte stored, and others after it
pub stored_after : (out : List ℕ) {out' : List ℕ} (at k : ℕ) (bs : List ℕ) → out' ≡ sets (set out at k) (at + 1) bs → out' ≡ sets out at (k ∷ bs)
stored_after out at k bs e = e ∙ ap (λ (i : ℕ). sets (set out at k) i bs) (add-one at)

-- one byte stored where that is the integer
pub stored_as : {x : ℕ} {out' : List ℕ} (w : ℕ) (out : List ℕ) (at : ℕ) → integer_bytes w ≡ x ∷ [] → out' ≡ set out at x → (out' ≡ sets out at (integer_bytes w)) × (1 ≡ length (integer_bytes w))
stored_as w out at e p = (p ∙ ap (sets out at) (sym e), sym (ap length e))

-- ---- a Bignum's number

-- stores one after the other
stored_append : (xs ys l : List ℕ) (i : ℕ) → sets (sets l i xs) (i + length xs) ys ≡ sets l i (xs ++ ys)
stored_append [] ys l i = ap (λ (k : ℕ). sets l k ys) (add-zero i)
stored_append (x ∷ xs) ys l i =
    let e : i + suc (length xs) ≡ suc i + length xs = omega arith in
    ap (λ (k : ℕ). sets (sets (set l i x) (suc i) xs) k ys) e ∙ stored_append xs ys (set l i x) (suc i)

-- one unit more, after k of them
pub unit_stored : (k m : ℕ) (out : List ℕ) {prev out' : List ℕ} (at u : ℕ) → prev ≡ sets out at (low_bytes (k * 2) m) → u ≡ above (k * 2) m → out' ≡ sets prev (at + k * 2) (low_bytes 2 u) → out' ≡ sets out at (low_bytes (suc k * 2) m)
unit_stored k m out at u p e q =
    let l : k * 2 ≡ length (low_bytes (k * 2) m) = sym (length_low (k * 2) m) in
    let z : k * 2 + 2 ≡ suc k * 2 = omega arith in
    q ∙ ap (λ (x : List ℕ). sets x (at + k * 2) (low_bytes 2 u)) p
    ∙ ap (λ (j : ℕ). sets (sets out at (low_bytes (k * 2) m)) (at + j) (low_bytes 2 u)) l
    ∙ stored_append (low_bytes (k * 2) m) (low_bytes 2 u) out at
    ∙ ap (λ (x : ℕ). sets out at (low_bytes (k * 2) m ++ low_bytes 2 x)) e
    ∙ ap (sets out at) (sym (low_append (k * 2) 2 m))
    ∙ ap (λ (j : ℕ). sets out at (low_bytes j m)) z

-- so many units are n of them
pub units_stored : (k n m : ℕ) (out : List ℕ) {out' : List ℕ} (at : ℕ) → n ≡ k → out' ≡ sets out at (low_bytes (k * 2) m) → out' ≡ sets out at (low_bytes (n * 2) m)
units_stored k n m out at e p = p ∙ ap (λ (j : ℕ). sets out at (low_bytes (j * 2) m)) (sym e)

-- its sign and the count, then the units
pub number_parts : (minus : Bool) {m x n k : ℕ} → x ≡ m → n ≡ fewest_units x → k ≡ sign_byte minus → bignum_bytes minus m ≡ (k ∷ integer_bytes n) ++ low_bytes (n * 2) x
unfolding bignum_bytes unit_bytes
number_parts minus p q s = rw (← p, q, s) refl
