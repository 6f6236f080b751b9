-- The integer codec: what integer-bytes writes is read back.
use Rattle.std.specs.Prelude.{ℕ, zero, suc, ◌+◌, ◌-◌, ◌/◌, ◌%◌, ◌^◌, ◌≤◌, ◌<◌, ◌≡◌, refl, Bool, true, false, List, [], ◌∷◌, ltb, leb, eqb, length}
use Rattle.std.proofs.Common.{ap, sym as psym, ◌∙◌, pow_mono, arith, eqb-true, ne_eqb, le-leb, leb-true, leb-false}
use Rattle.std.specs.Int.Count.{count_leading_zeros}
use Rattle.std.proofs.lemmas.Nat.{leading_top}
use Rattle.std.proofs.lemmas.Bool.{eqb-false, lt-leb}
use Rattle.definition.specs.Run.{pick}
use Rattle.definition.specs.Integer.{value, data_bytes, form, little, low_bytes, fewest, integer_bytes}
use Rattle.lists.specs.Words.{length_low, above, little_low}

-- ---- the fewest bytes hold the value

pub data Few (v : ℕ) : ℕ → Type 0 where
  one : v < 256 → Few v 1
  two : v < 65536 → Few v 2
  three : v < 16777216 → Few v 3
  four : v < 4294967296 → Few v 4

few_of : (v n j : ℕ) → n ≡ (8 + j) / 8 → v < 2 ^ suc j → j < 32 → Few v n
few_of v n j e h l = go n refl
  where
    go : (k : ℕ) → n ≡ k → Few v k
    go zero q = absurd (omega arith)
    go (suc zero) q = one (omega (arith, h, pow_mono {i = suc j} {j = 8} (omega arith)))
    go (suc (suc zero)) q = two (omega (arith, h, pow_mono {i = suc j} {j = 16} (omega arith)))
    go (suc (suc (suc zero))) q = three (omega (arith, h, pow_mono {i = suc j} {j = 24} (omega arith)))
    go (suc (suc (suc (suc zero)))) q = four (omega (arith, h, pow_mono {i = suc j} {j = 32} (omega arith)))
    go (suc (suc (suc (suc (suc k))))) q = absurd (omega arith)

few : (v : ℕ) → 0 < v → v < 4294967296 → Few v (fewest v)
unfolding fewest
few v p h =
    let (j, e, a, b) = leading_top 32 v p h in
    few_of v ((39 - count_leading_zeros 32 v) / 8) j (omega arith) b (omega arith)

-- ---- the bytes of a word say it

pub data Codes (w : ℕ) : List ℕ → Type 0 where
  short : (b : ℕ) → form b ≡ value w → Codes w (b ∷ [])
  long : (b n above : ℕ) (bs : List ℕ) → form b ≡ data_bytes n above → length bs ≡ n → little bs above ≡ w → Codes w (b ∷ bs)

-- n data bytes, with the bits above them
codes_low : (w n b hi : ℕ) → form b ≡ data_bytes n hi → above n w ≡ hi → Codes w (b ∷ low_bytes n w)
codes_low w n b hi f e = long b n hi (low_bytes n w) f (length_low n w) (rw (← e) (little_low n w))

-- the size bytes that say how many data bytes there are, and the bits above them
up_forms : (form 1 ≡ data_bytes 1 0) × (form 2 ≡ data_bytes 2 0) × (form 3 ≡ data_bytes 3 0) × (form 4 ≡ data_bytes 4 0)
unfolding form pick
up_forms = (refl, refl, refl, refl)

down_forms : (form 255 ≡ data_bytes 1 16777215) × (form 254 ≡ data_bytes 2 65535) × (form 253 ≡ data_bytes 3 255) × (form 252 ≡ data_bytes 4 0)
unfolding form pick
down_forms = (refl, refl, refl, refl)

codes_up : {w n : ℕ} → Few w n → Codes w (n ∷ low_bytes n w)
codes_up {w = w} (one h) = codes_low w 1 1 0 up_forms.0 (omega arith)
codes_up {w = w} (two h) = codes_low w 2 2 0 up_forms.1 (omega arith)
codes_up {w = w} (three h) = codes_low w 3 3 0 up_forms.2 (omega arith)
codes_up {w = w} (four h) = codes_low w 4 4 0 up_forms.3 (omega arith)

codes_down : {w n : ℕ} → 2147483648 ≤ w → w < 4294967296 → Few (4294967295 - w) n → Codes w ((256 - n) ∷ low_bytes n w)
codes_down {w = w} l u (one h) = codes_low w 1 255 16777215 down_forms.0 (omega arith)
codes_down {w = w} l u (two h) = codes_low w 2 254 65535 down_forms.1 (omega arith)
codes_down {w = w} l u (three h) = codes_low w 3 253 255 down_forms.2 (omega arith)
codes_down {w = w} l u (four h) = codes_low w 4 252 0 down_forms.3 (omega arith)

form_small : (b : ℕ) → 4 < b → b ≤ 127 → form b ≡ value (b - 5)
unfolding form pick
form_small b l u = rw (ne_eqb b 0 (omega arith), lt-leb b 4 l, le-leb b 127 u)

form_minus : (b : ℕ) → 127 < b → b ≤ 251 → form b ≡ value ((4294967296 + b - 251) % 4294967296)
unfolding form pick
form_minus b l u = rw (ne_eqb b 0 (omega arith), lt-leb b 4 (omega arith), lt-leb b 127 l, le-leb b 251 u)

form_zero : form 0 ≡ value 0
unfolding form pick
form_zero = refl

pub codes : (w : ℕ) → w < 4294967296 → Codes w (integer_bytes w)
unfolding integer_bytes pick
codes w h = go (eqb w 0) (leb w 122) (ltb w 2147483648) (ltb w 4294967173) refl refl refl refl
  where
    go : (a b c d : Bool) → eqb w 0 ≡ a → leb w 122 ≡ b → ltb w 2147483648 ≡ c → ltb w 4294967173 ≡ d
        → Codes w (pick a (0 ∷ []) (pick b ((w + 5) ∷ []) (pick c (fewest w ∷ low_bytes (fewest w) w)
        (pick d ((256 - fewest (4294967295 - w)) ∷ low_bytes (fewest (4294967295 - w)) w) (((w - 5) % 256) ∷ [])))))
    go true b c d e₁ e₂ e₃ e₄ = short 0 (form_zero ∙ ap value (psym (eqb-true w 0 e₁)))
    go false true c d e₁ e₂ e₃ e₄ =
        let n₁ = eqb-false w 0 e₁ in
        let n₂ = leb-true w 122 e₂ in
        short (w + 5) (form_small (w + 5) (omega arith) (omega arith) ∙ ap value (omega arith))
    go false false true d e₁ e₂ e₃ e₄ = let n₂ = leb-false w 122 e₂ in codes_up (few w (omega arith) (omega arith))
    go false false false true e₁ e₂ e₃ e₄ =
        let n₃ = leb-false (suc w) 2147483648 e₃ in
        let n₄ = leb-true (suc w) 4294967173 e₄ in
        codes_down (omega arith) h (few (4294967295 - w) (omega arith) (omega arith))
    go false false false false e₁ e₂ e₃ e₄ =
        let n₄ = leb-false (suc w) 4294967173 e₄ in
        short ((w - 5) % 256) (form_minus ((w - 5) % 256) (omega arith) (omega arith) ∙ ap value (omega arith))
