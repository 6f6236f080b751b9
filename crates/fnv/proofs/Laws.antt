-- The definition's exclusive-or is the machine's, and a hash is a fold over its bytes.
use Prim.Native.Nat.{ℕ, zero, suc, ◌+◌, ◌*◌, ◌/◌, ◌%◌, ◌^◌, ◌<◌}
use native.Mathlib.Omega.{arith}
use native.Mathlib.Nat.{pow-suc}
use mathlib.Core.Path.{◌≡◌, refl, sym}
use mathlib.Core.List.{List, [], ◌∷◌}
use lib.Bits.{bit_xor, differ, xor_step}
use Rattle.std.specs.Prelude.{fold}
use Rattle.definition.specs.Buckets.{exclusive_or, fnv_from, fnv_1a}

-- two binary digits differ where their sum is odd
odd : (x y : ℕ) → x < 2 → y < 2 → differ x y ≡ (x + y) % 2
odd zero zero h l = refl
odd zero (suc zero) h l = refl
odd (suc zero) zero h l = refl
odd (suc zero) (suc zero) h l = refl
odd (suc (suc x)) y h l = absurd (omega arith)
odd zero (suc (suc y)) h l = absurd (omega arith)
odd (suc zero) (suc (suc y)) h l = absurd (omega arith)

xor_is : (n a b : ℕ) → a < 2 ^ n → b < 2 ^ n → exclusive_or n a b ≡ bit_xor a b
unfolding exclusive_or
xor_is zero a b h l =
    let p : a ≡ 0 = omega arith in
    let q : b ≡ 0 = omega arith in
    rw (p, q) refl
xor_is (suc n) a b h l =
    let e : exclusive_or n (a / 2) (b / 2) ≡ bit_xor (a / 2) (b / 2) = xor_is n (a / 2) (b / 2) (omega (arith, pow-suc 2 n)) (omega (arith, pow-suc 2 n)) in
    let o : (a + b) % 2 ≡ differ (a % 2) (b % 2) = omega (arith, odd (a % 2) (b % 2) (omega arith) (omega arith)) in
    rw (e, o) (sym (xor_step a b))

pub xor_32 : (a b : ℕ) → a < 4294967296 → b < 256 → bit_xor a b ≡ exclusive_or 32 a b
xor_32 a b h l = sym (xor_is 32 a b (omega arith) (omega arith))

-- ---- the hash as a fold

-- the hash k after the byte b
abbrev pub next_hash : ℕ → ℕ → ℕ
next_hash k b = exclusive_or 32 k b * 16777619 % 4294967296

hash_from : (k : ℕ) (l : List ℕ) → fold next_hash k l ≡ fnv_from k l
unfolding fnv_from
hash_from k [] = refl
hash_from k (b ∷ bs) = hash_from (next_hash k b) bs

pub hash_fold : (l : List ℕ) → fold next_hash 2166136261 l ≡ fnv_1a l
unfolding fnv_1a
hash_fold l = hash_from 2166136261 l
