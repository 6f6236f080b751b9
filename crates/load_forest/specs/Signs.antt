-- An integer that is read has the sign that its size byte tells (02, 2.6): 01 to 04 zero or more, FF to FC less; and four data bytes are read after just one of 04 and FC.
use Rattle.std.specs.Prelude.{ℕ, zero, suc, ◌+◌, ◌-◌, ◌^◌, ◌≤◌, ◌<◌, Bool, ◌≡◌, ◌⊎◌, eqb, leb, length, get_or}
use Rattle.std.proofs.Common.{arith, ap, ◌∙◌}
use Rattle.std.proofs.Math.Bool.{true, false}
use Rattle.std.proofs.Math.Path.{refl}
use mathlib.Core.List.{List, [], ◌∷◌}
use Rattle.std.proofs.Math.Logic.{inl, inr}
use Rattle.std.proofs.Math.Dec.{ltb}
use borrow.Author.Tests.{eqb-true, leb-true, leb-false, le-leb, lt-leb, ltb-true, ltb-false}
use Rattle.definition.specs.Run.{ok, refused, pure, refuse, next, pick, ◌>>=◌}
use Rattle.definition.specs.Integer.{Form, data_bytes, form, little, wrong_sign, integer_bytes}
use Rattle.definition.specs.Node.{equal}
use Rattle.definition.specs.Arena.{range}
use Rattle.definition.specs.State.{State, at_set, noted}
use Rattle.definition.specs.declared.Refusal.TheVariants.{WrongSign}
use Rattle.definition.specs.Load as L
use Rattle.lists.specs.Lists.{Below, at_get_d}
use Rattle.lists.specs.Words.{little_below, little_above}
use Rattle.lists.specs.Ranges.{length_range_in}
use Rattle.load_forest.specs.Readers.{read_byte_then, read_bytes_then, tell_then}
use Rattle.load_forest.specs.Bytes.{part_bytes, choose}

-- the sign that a first byte tells
abbrev pub Told : ℕ → ℕ → Type 0
Told b w = (b ≤ 4 → w < 2147483648) × (252 ≤ b → 2147483648 ≤ w)

-- b data bytes over zeros; 256 - b data bytes over ones, for 252 and j
few : (b : ℕ) (bs : List ℕ) → b ≤ 4 → length bs ≡ b → Below 256 bs → wrong_sign b (little bs 0) ≡ false → little bs 0 < 2147483648
unfolding wrong_sign pick
few zero bs h e k q = omega (arith, rw e at (little_below bs 0 k))
few (suc zero) bs h e k q = omega (arith, rw e at (little_below bs 0 k))
few (suc (suc zero)) bs h e k q = omega (arith, rw e at (little_below bs 0 k))
few (suc (suc (suc zero))) bs h e k q = omega (arith, rw e at (little_below bs 0 k))
few (suc (suc (suc (suc zero)))) bs h e k q = leb-false 2147483648 (little bs 0) q
few (suc (suc (suc (suc (suc b))))) bs h e k q = absurd (omega (arith, h))

many : (j : ℕ) (bs : List ℕ) → j ≤ 3 → length bs ≡ 4 - j → wrong_sign (252 + j) (little bs (256 ^ j - 1)) ≡ false → 2147483648 ≤ little bs (256 ^ j - 1)
unfolding wrong_sign pick
many zero bs h e q = ltb-false (little bs 0) 2147483648 q
many (suc zero) bs h e q = omega (arith, rw e at (little_above bs 255))
many (suc (suc zero)) bs h e q = omega (arith, rw e at (little_above bs 65535))
many (suc (suc (suc zero))) bs h e q = omega (arith, rw e at (little_above bs 16777215))
many (suc (suc (suc (suc j)))) bs h e q = absurd (omega (arith, h))

module _ (input : List ℕ) (h : Below 256 input) where
  form_told : (b : ℕ) → b < 256 → (s t : State) (w : ℕ) → L.read_form input b (form b) s ≡ ok w t → Told b w
  unfolding form L.read_form ◌>>=◌
  form_told b u s t w =
      choose Says (eqb b 0) _ _ (λ e o. tell_then b [] 0 s w t o λ q z r. (λ k. omega (arith, z), λ k. absurd (omega (arith, eqb-true b 0 e, k))))
      (λ e₀. choose Says (leb b 4) _ _ (λ e o. of_few (leb-true b 4 e) o)
      (λ e₁. choose Says (leb b 127) _ _ (λ e o. (λ k. absurd (omega (arith, leb-false b 4 e₁, k)), λ k. absurd (omega (arith, leb-true b 127 e, k))))
      (λ e₂. choose Says (leb b 251) _ _ (λ e o. (λ k. absurd (omega (arith, leb-false b 4 e₁, k)), λ k. absurd (omega (arith, leb-true b 251 e, k))))
      (λ e₃ o. of_many (leb-false b 251 e₃) o))))
    where
      Says : Form → Type 0
      Says f = L.read_form input b f s ≡ ok w t → Told b w

      of_few : b ≤ 4 → L.read_form input b (data_bytes b 0) s ≡ ok w t → Told b w
      of_few l o =
          read_bytes_then input b s _ w t o λ m o₁.
          let bs = range input s.at b in
          tell_then b bs (little bs 0) _ w t o₁ λ q z r.
          (λ k. omega (arith, z, few b bs l (length_range_in input s.at b m) (part_bytes input bs h (s.at, b, refl)) q), λ k. absurd (omega (arith, l, k)))

      of_many : 251 < b → L.read_form input b (data_bytes (256 - b) (256 ^ (b - 252) - 1)) s ≡ ok w t → Told b w
      of_many l o =
          read_bytes_then input (256 - b) s _ w t o λ m o₁.
          let bs = range input s.at (256 - b) in
          let j : 252 + (b - 252) ≡ b = omega arith in
          let n : length bs ≡ 4 - (b - 252) = omega (arith, length_range_in input s.at (256 - b) m, l, u) in
          tell_then b bs (little bs (256 ^ (b - 252) - 1)) _ w t o₁ λ q z r.
          (λ k. absurd (omega (arith, l, k)), λ k. omega (arith, z, many (b - 252) bs (omega (arith, u)) n (ap (λ (x : ℕ). wrong_sign x (little bs (256 ^ (b - 252) - 1))) j ∙ q)))

  pub sign_told : (s t : State) (w : ℕ) → L.read_integer input s ≡ ok w t → Told (get_or input s.at 0) w
  unfolding L.read_integer ◌>>=◌
  sign_told s t w e =
      read_byte_then input s _ w t e λ l e₁.
      form_told (get_or input s.at 0) (h s.at (get_or input s.at 0) (at_get_d input s.at 0 l)) (at_set (s.at + 1) s) t w e₁

-- four data bytes that are there are read after one of 04 and FC, and refused after the other
module _ (input : List ℕ) (s : State) (l : 4 ≤ length input - s.at) where
  abbrev four : List ℕ
  four = range input s.at 4

  abbrev number : ℕ
  number = little four 0

  abbrev pub Only : ℕ → ℕ → Type 0
  Only b c = (L.read_form input b (form b) s ≡ ok number (noted (equal (b ∷ four) (integer_bytes number)) (at_set (s.at + 4) s))) × (L.read_form input c (form c) s ≡ refused (WrongSign c))

  comes : (b : ℕ) → form b ≡ data_bytes 4 0 → L.read_form input b (form b) s ≡ L.integer_of b four number (at_set (s.at + 4) s)
  unfolding L.read_form L.read_bytes ◌>>=◌ next pick
  comes b e = rw (e, le-leb 4 (length input - s.at) l) refl

  reads : (b : ℕ) → form b ≡ data_bytes 4 0 → wrong_sign b number ≡ false → L.read_form input b (form b) s ≡ ok number (noted (equal (b ∷ four) (integer_bytes number)) (at_set (s.at + 4) s))
  unfolding L.integer_of L.note pure ◌>>=◌ next pick
  reads b e q = comes b e ∙ rw q refl

  stops : (b : ℕ) → form b ≡ data_bytes 4 0 → wrong_sign b number ≡ true → L.read_form input b (form b) s ≡ refused (WrongSign b)
  unfolding L.integer_of refuse pick
  stops b e q = comes b e ∙ rw q refl

  pub one_form : Only 4 252 ⊎ Only 252 4
  unfolding form wrong_sign pick
  one_form = go (ltb number 2147483648) refl
    where
      go : (t : Bool) → ltb number 2147483648 ≡ t → Only 4 252 ⊎ Only 252 4
      go true e = inl (reads 4 refl (lt-leb 2147483648 number (ltb-true number 2147483648 e)), stops 252 refl e)
      go false e = inr (reads 252 refl e, stops 4 refl (le-leb 2147483648 number (ltb-false number 2147483648 e)))
