-- The proof of small.
use Prim.Native.Nat.{ℕ, ◌+◌, ◌-◌, ◌≤◌, ◌<◌}
use native.Mathlib.Omega.{arith}
use mathlib.Core.Path.{◌≡◌, refl, sym, ap, ◌∙◌}
use mathlib.Core.Bool.{Bool, true, false}
use mathlib.Core.List.{List, [], ◌∷◌}
use lib.Dec.{leb}
use lib.ListN.{get_or}
use borrow.Author.Tests.{leb-true, leb-false}
use Rattle.definition.specs.Integer.{value, form, integer_bytes}
use Rattle.lists.specs.Integers.{bytes_zero, bytes_small}
use Rattle.reader.specs.Integers.{size_of, word_of, of_zero, of_plus, size_few}
use Rattle.reader.proofs.small.Goals as goal

-- which number n a first byte b can be
module _ {b : ℕ} (n : ℕ) (e : form b ≡ value n) where
  is_zero : b ≡ 0 → 0 ≡ n
  unfolding word_of
  is_zero z = ap (word_of []) (sym (of_zero b z) ∙ e)

  not_few : b ≤ 4 → b ≡ 0
  unfolding size_of
  not_few h = let s : 1 + b ≡ 1 = size_few b h ∙ ap size_of e in omega arith

  is_plus : 4 < b → b ≤ 127 → b - 5 ≡ n
  unfolding word_of
  is_plus l h = ap (word_of []) (sym (of_plus b l h) ∙ e)

  -- one that dump writes so
  not_five : integer_bytes n ≡ b ∷ [] → (b ≡ 0 → ⊥) → b < 6 → ⊥
  not_five f z h = go (leb b 4) refl
    where
      go : (t : Bool) → leb b 4 ≡ t → ⊥
      go true q = z (not_few (leb-true b 4 q))
      go false q =
          let l = leb-false b 4 q in
          let m : n ≡ 0 = omega (arith, is_plus l (omega arith)) in
          z (ap (λ (bs : List ℕ). get_or bs 0 0) (sym f ∙ bytes_zero n m))

pub returns-then-b-eq0 : goal.returns-then-b-eq0
returns-then-b-eq0 c =
    record { b_value = λ l. (of_zero _ c.if-b-eq0.true, bytes_zero 0 refl ∙ ap (λ (x : ℕ). x ∷ []) (sym c.if-b-eq0.true)); by_index = λ n h e f. is_zero n e c.if-b-eq0.true; value = (λ l. absurd (omega (arith, l)), omega arith) }

pub returns-then-b-lt6 : goal.returns-then-b-lt6
returns-then-b-lt6 c =
    record { b_value = λ l. absurd (omega arith); by_index = λ n h e f. absurd (not_five n e f c.if-b-eq0.false c.if-b-lt6.true); value = (λ l. refl, omega arith) }

pub returns-then-b-gt127 : goal.returns-then-b-gt127
returns-then-b-gt127 c =
    record { b_value = λ l. absurd (omega arith); by_index = λ n h e f. absurd (omega (arith, h)); value = (λ l. refl, omega arith) }

pub returns : goal.returns
returns c =
    let b = c.args.b in
    let x : b - 5 + 5 ≡ b = omega arith in
    record { b_value = λ l. (of_plus _ (omega arith) (omega arith), bytes_small (b - 5) (omega arith) (omega arith) ∙ ap (λ (y : ℕ). y ∷ []) x); by_index = λ n h e f. is_plus n e (omega arith) h; value = (λ l. absurd (omega (arith, l)), omega arith) }
