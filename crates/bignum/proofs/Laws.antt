-- The bytes of a magnitude: folded from the last on, their number, and the number's bytes.
use Prim.Native.Nat.{ℕ, suc, ◌+◌, ◌*◌, ◌/◌, ◌%◌, ◌^◌, ◌≤◌, ◌<◌}
use native.Mathlib.Omega.{arith}
use native.Mathlib.Nat.{pow-suc, pow-le-pow_right}
use mathlib.Core.Path.{◌≡◌, refl, ap, ◌∙◌}
use mathlib.Core.List.{List, [], ◌∷◌, reverse, reverse-cons}
use lib.Bits.{bit_or}
use lib.ListN.{length, get_or, take, drop, length-take}
use lib.Seq.{get_or-take, get_or-drop}
use native.Mathlib.Decide.{dec_lt}
use Rattle.std.specs.Prelude.{fold}
use Rattle.std.proofs.lemmas.List.{get_or_past}
use Rattle.std.proofs.lemmas.Grind.{or_after_shift, fold-append}
use Rattle.definition.specs.Integer.{little, low_bytes}

-- a byte in front of what the others say
abbrev pub before : ℕ → ℕ → ℕ
before m b = bit_or (m * 2 ^ 8 % 2 ^ 64) b

-- seven bytes leave room for one more
before_is : (m b : ℕ) → m < 72057594037927936 → b < 256 → before m b ≡ m * 256 + b
before_is m b h l = or_after_shift m 256 18446744073709551616 b refl l (omega arith)

abbrev pub AreBytes : List ℕ → Type 0
AreBytes l = (k : ℕ) → get_or l k 0 < 256

-- so are those of a part
pub part_bytes : (l : List ℕ) (at n : ℕ) → AreBytes l → AreBytes (take n (drop at l))
part_bytes l at n h k = decide (dec_lt k n)
  where
    decide : Dec (k < n) → get_or (take n (drop at l)) k 0 < 256
    decide (yes p) = omega (arith, get_or-take n (drop at l) k 0 p, get_or-drop at l k 0, h (at + k))
    decide (no p) = omega (arith, get_or_past (take n (drop at l)) k 0 (simp length-take (omega (arith, p))))

small : (l : List ℕ) → AreBytes l → little l 0 < 256 ^ length l
unfolding little
small [] h = omega arith
small (b ∷ bs) h = omega (arith, pow-suc 256 (length bs), small bs (λ k. h (suc k)), h 0)

pub folded : (l : List ℕ) → AreBytes l → length l ≤ 8 → fold before 0 (reverse l) ≡ little l 0
unfolding little
folded [] h e = refl
folded (b ∷ bs) h e =
    let bytes : AreBytes bs = λ k. h (suc k) in
    let room : little bs 0 < 72057594037927936 = omega (arith, small bs bytes, pow-le-pow_right {n = 256} (omega arith) {i = length bs} {j = 7} (omega (arith, e))) in
    ap (fold before 0) (reverse-cons b bs)
    ∙ fold-append before 0 (reverse bs) (b ∷ [])
    ∙ ap (λ (m : ℕ). before m b) (folded bs bytes (omega (arith, e)))
    ∙ before_is (little bs 0) b room (h 0)

pub spelled : (l : List ℕ) → AreBytes l → l ≡ low_bytes (length l) (little l 0)
unfolding little low_bytes
spelled [] h = refl
spelled (b ∷ bs) h =
    let byte = h 0 in
    let first : (little bs 0 * 256 + b) % 256 ≡ b = omega (arith, byte) in
    let rest : (little bs 0 * 256 + b) / 256 ≡ little bs 0 = omega (arith, byte) in
    ap (λ (x : List ℕ). b ∷ x) (spelled bs (λ k. h (suc k))) ∙ rw (first, rest) refl
