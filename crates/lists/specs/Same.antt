-- Two runs of bytes compared: equal or not, and how many bytes tell.
use Prim.Native.Nat.{ℕ, zero, suc, ◌+◌, ◌-◌, ◌≤◌, ◌<◌}
use Rattle.std.proofs.Common.{arith, add-one, ◌∙◌, length-take, length-drop, drop_of_length-le, drop-cons, get_or-take, get_or-drop}
use Rattle.std.specs.Prelude.{◌≡◌, refl, Bool, false, take, drop, get_or}
use Rattle.std.proofs.Math.Path.{sym, ap}
use Rattle.std.proofs.Math.Bool.{true}
use mathlib.Core.List.{List, [], ◌∷◌}
use Rattle.std.proofs.Math.ListN.{length}
use Rattle.std.proofs.Math.Dec.{eqb}
use borrow.Author.Tests.{eq-eqb, ne_eqb}
use Rattle.definition.specs.Run.{pick}
use Rattle.definition.specs.Node.{equal}
use Rattle.definition.specs.Arena.{bytes_compared}

same_cons : (X Y : List ℕ) (i : ℕ) → i < length X → i < length Y → equal (drop i X) (drop i Y) ≡ pick (eqb (get_or X i 0) (get_or Y i 0)) (equal (drop (suc i) X) (drop (suc i) Y)) false
unfolding equal
same_cons X Y i l m = ap (λ (a : List ℕ). equal a (drop i Y)) (drop-cons X i 0 l) ∙ ap (λ (b : List ℕ). equal (get_or X i 0 ∷ drop (suc i) X) b) (drop-cons Y i 0 m)

compared_cons : (X Y : List ℕ) (i : ℕ) → i < length X → i < length Y → bytes_compared (drop i X) (drop i Y) ≡ suc (pick (eqb (get_or X i 0) (get_or Y i 0)) (bytes_compared (drop (suc i) X) (drop (suc i) Y)) 0)
unfolding bytes_compared
compared_cons X Y i l m = ap (λ (a : List ℕ). bytes_compared a (drop i Y)) (drop-cons X i 0 l) ∙ ap (λ (b : List ℕ). bytes_compared (get_or X i 0 ∷ drop (suc i) X) b) (drop-cons Y i 0 m)

never : (t : Bool) → pick t false false ≡ false
unfolding pick
never true = refl
never false = refl

-- a byte differs
pub same_apart : (X Y : List ℕ) (i : ℕ) → i < length X → i < length Y → (get_or X i 0 ≡ get_or Y i 0 → ⊥) → equal X Y ≡ false
unfolding equal pick
same_apart [] Y i l m e = absurd (omega (arith, l))
same_apart (a ∷ X) [] i l m e = absurd (omega (arith, m))
same_apart (a ∷ X) (b ∷ Y) zero l m e = rw (ne_eqb a b e) refl
same_apart (a ∷ X) (b ∷ Y) (suc i) l m e = ap (λ (t : Bool). pick (eqb a b) t false) (same_apart X Y i (omega (arith, l)) (omega (arith, m)) e) ∙ never (eqb a b)

module _ (input bytes : List ℕ) (from to n i : ℕ) (a : from + n ≤ length input) (b : to + n ≤ length bytes) where
  abbrev lhs : List ℕ
  lhs = take n (drop from input)

  abbrev rhs : List ℕ
  rhs = take n (drop to bytes)

  at_lhs : i < n → get_or lhs i 0 ≡ get_or input (from + i) 0
  at_lhs l = get_or-take n (drop from input) i 0 l ∙ get_or-drop from input i 0

  at_rhs : i < n → get_or rhs i 0 ≡ get_or bytes (to + i) 0
  at_rhs l = get_or-take n (drop to bytes) i 0 l ∙ get_or-drop to bytes i 0

  turn : i < n → equal (drop i lhs) (drop i rhs) ≡ pick (eqb (get_or input (from + i) 0) (get_or bytes (to + i) 0)) (equal (drop (suc i) lhs) (drop (suc i) rhs)) false
  turn l =
      let x : i < length lhs = simp (length-take, length-drop) (omega arith) in
      let y : i < length rhs = simp (length-take, length-drop) (omega arith) in
      same_cons lhs rhs i x y ∙ ap (λ (v : ℕ). pick (eqb v (get_or rhs i 0)) (equal (drop (suc i) lhs) (drop (suc i) rhs)) false) (at_lhs l) ∙ ap (λ (v : ℕ). pick (eqb (get_or input (from + i) 0) v) (equal (drop (suc i) lhs) (drop (suc i) rhs)) false) (at_rhs l)

  pub same_apart_at : i < n → (get_or input (from + i) 0 ≡ get_or bytes (to + i) 0 → ⊥) → false ≡ equal lhs rhs
  same_apart_at l e =
      let x : i < length lhs = simp (length-take, length-drop) (omega arith) in
      let y : i < length rhs = simp (length-take, length-drop) (omega arith) in
      sym (same_apart lhs rhs i x y (λ q. e (sym (at_lhs l) ∙ q ∙ at_rhs l)))

  -- nothing is left to compare
  pub same_none : equal (drop n lhs) (drop n rhs) ≡ true
  unfolding equal
  same_none =
      let x : length lhs ≤ n = simp (length-take, length-drop) (omega arith) in
      let y : length rhs ≤ n = simp (length-take, length-drop) (omega arith) in
      ap (λ (v : List ℕ). equal v (drop n rhs)) (drop_of_length-le lhs x) ∙ ap (λ (v : List ℕ). equal [] v) (drop_of_length-le rhs y)

  -- from the first byte on: one more that is the same, the first that is not, and the end
  pub on_same : i < n → get_or input (from + i) 0 ≡ get_or bytes (to + i) 0 → (equal (drop i lhs) (drop i rhs) ≡ equal (drop (i + 1) lhs) (drop (i + 1) rhs)) × (bytes_compared (drop i lhs) (drop i rhs) ≡ suc (bytes_compared (drop (i + 1) lhs) (drop (i + 1) rhs)))
  unfolding pick
  on_same l e =
      let x : i < length lhs = simp (length-take, length-drop) (omega arith) in
      let y : i < length rhs = simp (length-take, length-drop) (omega arith) in
      let q : eqb (get_or lhs i 0) (get_or rhs i 0) ≡ true = eq-eqb _ _ (at_lhs l ∙ e ∙ sym (at_rhs l)) in (
        same_cons lhs rhs i x y ∙ ap (λ (t : Bool). pick t (equal (drop (suc i) lhs) (drop (suc i) rhs)) false) q ∙ ap (λ (j : ℕ). equal (drop j lhs) (drop j rhs)) (sym (add-one i)),
        compared_cons lhs rhs i x y ∙ ap (λ (t : Bool). suc (pick t (bytes_compared (drop (suc i) lhs) (drop (suc i) rhs)) 0)) q ∙ ap (λ (j : ℕ). suc (bytes_compared (drop j lhs) (drop j rhs))) (sym (add-one i)),
      )

  pub on_apart : i < n → (get_or input (from + i) 0 ≡ get_or bytes (to + i) 0 → ⊥) → bytes_compared (drop i lhs) (drop i rhs) ≡ 1
  unfolding pick
  on_apart l e =
      let x : i < length lhs = simp (length-take, length-drop) (omega arith) in
      let y : i < length rhs = simp (length-take, length-drop) (omega arith) in
      compared_cons lhs rhs i x y ∙ ap (λ (t : Bool). suc (pick t (bytes_compared (drop (suc i) lhs) (drop (suc i) rhs)) 0)) (ne_eqb _ _ (λ q. e (sym (at_lhs l) ∙ q ∙ at_rhs l)))

  pub on_end : bytes_compared (drop n lhs) (drop n rhs) ≡ 0
  unfolding bytes_compared
  on_end =
      let x : length lhs ≤ n = simp (length-take, length-drop) (omega arith) in
      ap (λ (v : List ℕ). bytes_compared v (drop n rhs)) (drop_of_length-le lhs x)

-- one byte more from the end, before which i are left
pub same_more : (input bytes : List ℕ) (from to n i : ℕ) → from + n ≤ length input → to + n ≤ length bytes → 0 < i → i ≤ n → get_or input (from + (i - 1)) 0 ≡ get_or bytes (to + (i - 1)) 0 → equal (drop i (take n (drop from input))) (drop i (take n (drop to bytes))) ≡ true → equal (drop (i - 1) (take n (drop from input))) (drop (i - 1) (take n (drop to bytes))) ≡ true
unfolding pick
same_more input bytes from to n i a b h l e p =
    let s : suc (i - 1) ≡ i = omega arith in
    turn input bytes from to n (i - 1) a b (omega arith)
    ∙ ap (λ (t : Bool). pick t (equal (drop (suc (i - 1)) (take n (drop from input))) (drop (suc (i - 1)) (take n (drop to bytes)))) false) (eq-eqb _ _ e)
    ∙ rw s p

-- different lengths
pub same_length : (X Y : List ℕ) → (length X ≡ length Y → ⊥) → equal X Y ≡ false
unfolding equal pick
same_length [] [] n = absurd (n refl)
same_length [] (b ∷ Y) n = refl
same_length (a ∷ X) [] n = refl
same_length (a ∷ X) (b ∷ Y) n = ap (λ (t : Bool). pick (eqb a b) t false) (same_length X Y (λ e. n (ap suc e))) ∙ never (eqb a b)
