-- When eight words are a row's, kind by kind.
use Prim.Native.Nat.{ℕ, zero, suc, ◌+◌, ◌≤◌, ◌<◌}
use native.Mathlib.Omega.{arith}
use mathlib.Core.Bool.{Bool, true, false}
use mathlib.Core.List.{List, [], ◌∷◌}
use mathlib.Core.Path.{◌≡◌, refl, sym, ap, ◌∙◌, subst}
use mathlib.Core.Logic.{◌⊎◌, inl, inr}
use lib.Dec.{eqb, T}
use lib.ListN.{get_or}
use borrow.Author.Tests.{eq-eqb, ne_eqb, eqb-true}
use Rattle.definition.specs.Run.{pick}
use Rattle.definition.specs.Node.{bool, bignum, words, row, row_of, vars, is_row, equal}
use Rattle.lists.specs.Words.{equal_true, equal_self}

-- two tests that hold together are equal
pub same_test : (x y : Bool) → (x ≡ true → y ≡ true) → (y ≡ true → x ≡ true) → x ≡ y
same_test true y f g = sym (f refl)
same_test false true f g = g refl
same_test false false f g = refl

equal_same : (l m : List ℕ) → l ≡ m → equal l m ≡ true
equal_same l m e = subst (λ (x : List ℕ). equal l x ≡ true) e (equal_self l)

-- a test that says whether words are their row's
row_test : (ws : List ℕ) (t : Bool) → (t ≡ true → ws ≡ words (row ws)) → (ws ≡ words (row ws) → t ≡ true) → t ≡ is_row ws
unfolding is_row
row_test ws t f g = same_test t (equal ws (words (row ws))) (λ e. equal_same ws _ (f e)) (λ e. g (equal_true ws _ e))

-- every word of a sum that is 0 is 0
zeros : (a b s n c f w : ℕ) → eqb (a + b + s + n + c + f + w) 0 ≡ true → (a ≡ 0) × (b ≡ 0) × (s ≡ 0) × (n ≡ 0) × (c ≡ 0) × (f ≡ 0) × (w ≡ 0)
zeros a b s n c f w e = omega (arith, eqb-true (a + b + s + n + c + f + w) 0 e)

sum : (a b s n c f w : ℕ) → a + b + s + n + c + f + w ≡ 0 → eqb (a + b + s + n + c + f + w) 0 ≡ true
sum a b s n c f w e = eq-eqb (a + b + s + n + c + f + w) 0 e

-- what is said of a kind's number holds of the word that is it
pub of_kind : {k m : ℕ} {t : Bool} (ws : List ℕ) → k ≡ m → t ≡ is_row (m ∷ ws) → t ≡ is_row (k ∷ ws)
of_kind ws e t = t ∙ ap (λ (k : ℕ). is_row (k ∷ ws)) (sym e)

-- word i of two lists that are the same
word : {l m : List ℕ} (i : ℕ) → l ≡ m → get_or l i 0 ≡ get_or m i 0
word i e = ap (λ (x : List ℕ). get_or x i 0) e

module _ (a b s n c f w : ℕ) where
  abbrev ws : ℕ → List ℕ
  ws k = k ∷ a ∷ b ∷ s ∷ n ∷ c ∷ f ∷ w ∷ []

  pub row_0 : eqb (a + b + s + n + c + f + w) 0 ≡ is_row (ws 0)
  unfolding words row row_of pick vars
  row_0 = row_test (ws 0) _ (λ e. let z = zeros a b s n c f w e in λ i. 0 ∷ z.0 i ∷ z.1 i ∷ z.2 i ∷ z.3 i ∷ z.4 i ∷ z.5 i ∷ z.6 i ∷ []) (λ e. sum a b s n c f w (omega (arith, word 1 e, word 2 e, word 3 e, word 4 e, word 5 e, word 6 e, word 7 e)))

  pub row_2 : eqb (0 + b + s + n + c + f + w) 0 ≡ is_row (ws 2)
  unfolding words row row_of pick vars
  row_2 = row_test (ws 2) _ (λ e. let z = zeros 0 b s n c f w e in λ i. 2 ∷ a ∷ z.1 i ∷ z.2 i ∷ z.3 i ∷ z.4 i ∷ z.5 i ∷ z.6 i ∷ []) (λ e. sum 0 b s n c f w (omega (arith, word 2 e, word 3 e, word 4 e, word 5 e, word 6 e, word 7 e)))

  -- a byte string alone
  text_row : (m : ℕ) → words (row (ws m)) ≡ m ∷ a ∷ b ∷ 0 ∷ 0 ∷ 0 ∷ 0 ∷ 0 ∷ [] → eqb (0 + 0 + s + n + c + f + w) 0 ≡ is_row (ws m)
  text_row m q =
      row_test (ws m) _
      (λ e. let z = zeros 0 0 s n c f w e in (λ i. m ∷ a ∷ b ∷ z.2 i ∷ z.3 i ∷ z.4 i ∷ z.5 i ∷ z.6 i ∷ []) ∙ sym q)
      (λ e. let r = e ∙ q in sum 0 0 s n c f w (omega (arith, word 3 r, word 4 r, word 5 r, word 6 r, word 7 r)))

  pub row_text : {k : ℕ} → (k ≡ 3) ⊎ (k ≡ 9) → eqb (0 + 0 + s + n + c + f + w) 0 ≡ is_row (ws k)
  unfolding words row row_of pick
  row_text (inl e) = of_kind _ e (text_row 3 refl)
  row_text (inr e) = of_kind _ e (text_row 9 refl)

  pub row_4 : eqb (a + b + 0 + 0 + c + f + 0) 0 ≡ is_row (ws 4)
  unfolding words row row_of pick vars
  row_4 = row_test (ws 4) _ (λ e. let z = zeros a b 0 0 c f 0 e in λ i. 4 ∷ z.0 i ∷ z.1 i ∷ s ∷ n ∷ z.4 i ∷ z.5 i ∷ w ∷ []) (λ e. sum a b 0 0 c f 0 (omega (arith, word 1 e, word 2 e, word 5 e, word 6 e)))

  pub row_5 : eqb (a + b + 0 + 0 + c + 0 + 0) 0 ≡ is_row (ws 5)
  unfolding words row row_of pick vars
  row_5 = row_test (ws 5) _ (λ e. let z = zeros a b 0 0 c 0 0 e in λ i. 5 ∷ z.0 i ∷ z.1 i ∷ s ∷ n ∷ z.4 i ∷ f ∷ w ∷ []) (λ e. sum a b 0 0 c 0 0 (omega (arith, word 1 e, word 2 e, word 5 e)))

  pub row_6 : eqb (a + b + 0 + 0 + 0 + f + w) 0 ≡ is_row (ws 6)
  unfolding words row row_of pick vars
  row_6 = row_test (ws 6) _ (λ e. let z = zeros a b 0 0 0 f w e in λ i. 6 ∷ z.0 i ∷ z.1 i ∷ s ∷ n ∷ c ∷ z.5 i ∷ z.6 i ∷ []) (λ e. sum a b 0 0 0 f w (omega (arith, word 1 e, word 2 e, word 6 e, word 7 e)))

-- a bool's word 1 is 0 or 1
module _ (b s n c f w : ℕ) where
  pub row_1 : (a : ℕ) → a ≤ 1 → eqb (0 + b + s + n + c + f + w) 0 ≡ is_row (1 ∷ a ∷ b ∷ s ∷ n ∷ c ∷ f ∷ w ∷ [])
  unfolding words row row_of pick vars
  row_1 zero l = row_test (1 ∷ 0 ∷ b ∷ s ∷ n ∷ c ∷ f ∷ w ∷ []) _ (λ e. let z = zeros 0 b s n c f w e in λ i. 1 ∷ 0 ∷ z.1 i ∷ z.2 i ∷ z.3 i ∷ z.4 i ∷ z.5 i ∷ z.6 i ∷ []) (λ e. sum 0 b s n c f w (omega (arith, word 2 e, word 3 e, word 4 e, word 5 e, word 6 e, word 7 e)))
  row_1 (suc zero) l = row_test (1 ∷ 1 ∷ b ∷ s ∷ n ∷ c ∷ f ∷ w ∷ []) _ (λ e. let z = zeros 0 b s n c f w e in λ i. 1 ∷ 1 ∷ z.1 i ∷ z.2 i ∷ z.3 i ∷ z.4 i ∷ z.5 i ∷ z.6 i ∷ []) (λ e. sum 0 b s n c f w (omega (arith, word 2 e, word 3 e, word 4 e, word 5 e, word 6 e, word 7 e)))
  row_1 (suc (suc a)) l = absurd (omega arith)

-- a test that fails
not_test : (ws : List ℕ) → (ws ≡ words (row ws) → ⊥) → false ≡ is_row ws
not_test ws g = row_test ws false (λ e. absurd (subst T (sym e) tt)) (λ e. absurd (g e))

bool_word : (t : Bool) → get_or (words (bool t)) 1 0 ≤ 1
unfolding words
bool_word true = omega arith
bool_word false = omega arith

pub row_1_not : (a b s n c f w : ℕ) → 1 < a → false ≡ is_row (1 ∷ a ∷ b ∷ s ∷ n ∷ c ∷ f ∷ w ∷ [])
unfolding row row_of pick
row_1_not a b s n c f w l = not_test (1 ∷ a ∷ b ∷ s ∷ n ∷ c ∷ f ∷ w ∷ []) (λ e. omega (arith, word 1 e, bool_word (eqb a 1)))

-- a Bignum's word 4 is 0 or 1
bignum_words : (a b n : ℕ) → n ≤ 1 → words (bignum a b (eqb n 1)) ≡ 10 ∷ a ∷ b ∷ 0 ∷ n ∷ 0 ∷ 0 ∷ 0 ∷ []
unfolding words
bignum_words a b zero l = refl
bignum_words a b (suc zero) l = refl
bignum_words a b (suc (suc n)) l = absurd (omega arith)

sign_word : (a b : ℕ) (t : Bool) → get_or (words (bignum a b t)) 4 0 ≤ 1
unfolding words
sign_word a b true = omega arith
sign_word a b false = omega arith

module _ (a b s n c f w : ℕ) where
  pub row_10 : n ≤ 1 → eqb (0 + 0 + s + 0 + c + f + w) 0 ≡ is_row (ws a b s n c f w 10)
  unfolding row row_of pick
  row_10 l =
      let q = bignum_words a b n l in
      row_test (ws a b s n c f w 10) _
      (λ e. let z = zeros 0 0 s 0 c f w e in (λ i. 10 ∷ a ∷ b ∷ z.2 i ∷ n ∷ z.4 i ∷ z.5 i ∷ z.6 i ∷ []) ∙ sym q)
      (λ e. let r = e ∙ q in sum 0 0 s 0 c f w (omega (arith, word 3 r, word 5 r, word 6 r, word 7 r)))

  pub row_10_not : 1 < n → false ≡ is_row (ws a b s n c f w 10)
  unfolding row row_of pick
  row_10_not l = not_test (ws a b s n c f w 10) (λ e. omega (arith, word 4 e, sign_word a b (eqb n 1)))

-- kinds 7 and 8 without a variable list, with one, and with another mark
module _ (a b s n c f w : ℕ) where
  pub row_7_absent : f ≡ 0 → eqb (0 + 0 + s + n + c + 0 + 0) 0 ≡ is_row (ws a b s n c f w 7)
  unfolding words row row_of pick vars
  row_7_absent g =
      row_test (ws a b s n c 0 w 7) _ (λ e. let z = zeros 0 0 s n c 0 0 e in λ i. 7 ∷ a ∷ b ∷ z.2 i ∷ z.3 i ∷ z.4 i ∷ 0 ∷ w ∷ []) (λ e. sum 0 0 s n c 0 0 (omega (arith, word 3 e, word 4 e, word 5 e)))
      ∙ ap (λ (f : ℕ). is_row (ws a b s n c f w 7)) (sym g)

  pub row_7_present : f ≡ 1 → eqb c 0 ≡ is_row (ws a b s n c f w 7)
  unfolding words row row_of pick vars
  row_7_present g =
      row_test (ws a b s n c 1 w 7) _ (λ e. λ i. 7 ∷ a ∷ b ∷ s ∷ n ∷ eqb-true c 0 e i ∷ 1 ∷ w ∷ []) (λ e. eq-eqb c 0 (word 5 e))
      ∙ ap (λ (f : ℕ). is_row (ws a b s n c f w 7)) (sym g)

  pub row_8_absent : f ≡ 0 → eqb (0 + 0 + s + n + 0 + 0 + w) 0 ≡ is_row (ws a b s n c f w 8)
  unfolding words row row_of pick vars
  row_8_absent g =
      row_test (ws a b s n c 0 w 8) _ (λ e. let z = zeros 0 0 s n 0 0 w e in λ i. 8 ∷ a ∷ b ∷ z.2 i ∷ z.3 i ∷ c ∷ 0 ∷ z.6 i ∷ []) (λ e. sum 0 0 s n 0 0 w (omega (arith, word 3 e, word 4 e, word 7 e)))
      ∙ ap (λ (f : ℕ). is_row (ws a b s n c f w 8)) (sym g)

  pub row_8_present : f ≡ 1 → eqb w 0 ≡ is_row (ws a b s n c f w 8)
  unfolding words row row_of pick vars
  row_8_present g =
      row_test (ws a b s n c 1 w 8) _ (λ e. λ i. 8 ∷ a ∷ b ∷ s ∷ n ∷ c ∷ 1 ∷ eqb-true w 0 e i ∷ []) (λ e. eq-eqb w 0 (word 7 e))
      ∙ ap (λ (f : ℕ). is_row (ws a b s n c f w 8)) (sym g)

-- the mark is 0 or 1
pub mark_not : (a b s n c f w : ℕ) {k : ℕ} → (k ≡ 7) ⊎ (k ≡ 8) → (f ≡ 0 → ⊥) → (f ≡ 1 → ⊥) → false ≡ is_row (ws a b s n c f w k)
unfolding words row row_of pick vars
mark_not a b s n c zero w e g h = absurd (g refl)
mark_not a b s n c (suc f) w (inl e) g h = of_kind _ e (not_test (ws a b s n c (suc f) w 7) (λ e. h (word 6 e)))
mark_not a b s n c (suc f) w (inr e) g h = of_kind _ e (not_test (ws a b s n c (suc f) w 8) (λ e. h (word 6 e)))

-- an unknown kind
pub row_not : (k a b s n c f w : ℕ) → (k ≡ 0 → ⊥) → (k ≡ 1 → ⊥) → (k ≡ 2 → ⊥) → (k ≡ 3 → ⊥) → (k ≡ 4 → ⊥) → (k ≡ 5 → ⊥) → (k ≡ 6 → ⊥) → (k ≡ 7 → ⊥) → (k ≡ 8 → ⊥) → (k ≡ 9 → ⊥) → (k ≡ 10 → ⊥) → false ≡ is_row (k ∷ a ∷ b ∷ s ∷ n ∷ c ∷ f ∷ w ∷ [])
unfolding words row row_of pick
row_not k a b s n c f w n0 n1 n2 n3 n4 n5 n6 n7 n8 n9 n10 =
    not_test (k ∷ a ∷ b ∷ s ∷ n ∷ c ∷ f ∷ w ∷ [])
    (λ e. n0 (word 0 e ∙ simp (ne_eqb k 1 n1, ne_eqb k 2 n2, ne_eqb k 3 n3, ne_eqb k 4 n4, ne_eqb k 5 n5, ne_eqb k 6 n6, ne_eqb k 7 n7, ne_eqb k 8 n8, ne_eqb k 9 n9, ne_eqb k 10 n10)))
