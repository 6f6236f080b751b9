-- Sums over lists of nodes: distinct nodes weigh at most what all nodes weigh.
use Rattle.std.specs.Prelude.{ℕ, zero, suc, ◌+◌, ◌≤◌, ◌<◌, ◌≡◌, refl, Bool, true, false, ◌≢◌, List, [], ◌∷◌, ◌++◌, eqb, length, set}
use Rattle.std.proofs.Common.{ap, sym as psym, ◌∙◌, arith, eq-eqb, ne_eqb}
use Rattle.std.proofs.Math.Option.{Option, none, some}
use Rattle.std.proofs.Math.ListN.{get_elem?}
use Rattle.std.proofs.Math.Decide.{ℕ_discrete}
use Rattle.lists.specs.Lists.{At, NotIn, Distinct, Below, apart}

abbrev pub sum_to : (ℕ → ℕ) → ℕ → ℕ
sum_to w zero = 0
sum_to w (suc n) = sum_to w n + w n

-- a weight summed over a list
abbrev pub total : {A : Type 0} → (A → ℕ) → List A → ℕ
total w [] = 0
total w (x ∷ l) = w x + total w l

module _ {A : Type 0} (w : A → ℕ) where
  pub total_snoc : (l : List A) (x : A) → total w (l ++ (x ∷ [])) ≡ total w l + w x
  total_snoc [] x = omega arith
  total_snoc (y ∷ l) x = omega (arith, total_snoc l x)

  pub total_set : (l : List A) (i : ℕ) (x y : A) → At l i y → total w (set l i x) + w y ≡ total w l + w x
  total_set [] i x y e = apart (cc)
  total_set (z ∷ l) zero x y e = let q : z ≡ y = cc in rw q (omega arith)
  total_set (z ∷ l) (suc i) x y e = omega (arith, total_set l i x y e)

  pub total_set_most : (l : List A) (i : ℕ) (x : A) → total w (set l i x) ≤ total w l + w x
  total_set_most [] i x = omega arith
  total_set_most (z ∷ l) zero x = omega arith
  total_set_most (z ∷ l) (suc i) x = omega (arith, total_set_most l i x)

  -- what stands at one place, and at two
  pub total_one : (l : List A) (i : ℕ) (x : A) → At l i x → w x ≤ total w l
  total_one [] i x e = apart (cc)
  total_one (y ∷ l) zero x e = let q : y ≡ x = cc in rw q (omega arith)
  total_one (y ∷ l) (suc i) x e = omega (arith, total_one l i x e)

  pub total_two : (l : List A) (i j : ℕ) (x y : A) → At l i x → At l j y → i ≢ j → w x + w y ≤ total w l
  total_two [] i j x y e f n = apart (cc)
  total_two (z ∷ l) zero zero x y e f n = absurd (n refl)
  total_two (z ∷ l) zero (suc j) x y e f n = let q : z ≡ x = cc in rw q (omega (arith, total_one l j y f))
  total_two (z ∷ l) (suc i) zero x y e f n = let q : z ≡ y = cc in rw q (omega (arith, total_one l i x e))
  total_two (z ∷ l) (suc i) (suc j) x y e f n = omega (arith, total_two l i j x y e f (λ q. n (ap suc q)))

-- the same of numbers
abbrev pub sum_l : (ℕ → ℕ) → List ℕ → ℕ
sum_l w l = total w l

pub sum_to_suc : (w : ℕ → ℕ) (n m : ℕ) → m ≡ n + 1 → sum_to w m ≡ sum_to w n + w n
sum_to_suc w n m e = let z : m ≡ suc n = omega arith in rw z refl

-- w without what it has at x
pickn : Bool → ℕ → ℕ
pickn true n = 0
pickn false n = n

less : (ℕ → ℕ) → ℕ → ℕ → ℕ
less w x y = pickn (eqb x y) (w y)

less_same : (w : ℕ → ℕ) (x : ℕ) → less w x x ≡ 0
unfolding less pickn
less_same w x = rw (eq-eqb x x refl)

less_other : (w : ℕ → ℕ) (x y : ℕ) → x ≢ y → less w x y ≡ w y
unfolding less pickn
less_other w x y n = rw (ne_eqb x y n)

sum_l_less : (w : ℕ → ℕ) (x : ℕ) (l : List ℕ) → NotIn x l → sum_l w l ≡ sum_l (less w x) l
sum_l_less w x [] n = refl
sum_l_less w x (y ∷ l) n =
    omega (arith, less_other w x y (λ q. n 0 (ap some (psym q))), sum_l_less w x l (λ k e. n (suc k) e))

sum_to_less_ge : (w : ℕ → ℕ) (x n : ℕ) → n ≤ x → sum_to (less w x) n ≡ sum_to w n
sum_to_less_ge w x zero h = refl
sum_to_less_ge w x (suc n) h = omega (arith, sum_to_less_ge w x n (omega arith), less_other w x n (omega arith))

sum_to_less : (w : ℕ → ℕ) (x n : ℕ) → x < n → sum_to (less w x) n + w x ≡ sum_to w n
sum_to_less w x zero h = absurd (omega arith)
sum_to_less w x (suc n) h = go (ℕ_discrete x n) (sum_to_less w x n)
  where
    go : Dec (x ≡ n) → (x < n → sum_to (less w x) n + w x ≡ sum_to w n) → sum_to (less w x) n + less w x n + w x ≡ sum_to w n + w n
    go (yes e) ih = rw (← e) (omega (arith, sum_to_less_ge w x x (omega arith), less_same w x))
    go (no e) ih = omega (arith, ih (omega arith), less_other w x n e)

-- the sum over different numbers below n is at most the sum over all
pub sum_distinct : (w : ℕ → ℕ) (n : ℕ) (l : List ℕ) → Distinct l → Below n l → sum_l w l ≤ sum_to w n
sum_distinct w n [] d b = omega arith
sum_distinct w n (x ∷ l) d b =
    let ni : NotIn x l = λ k e. omega (arith, d 0 (suc k) x refl e) in
    let ih = sum_distinct (less w x) n l (λ k k' v e e'. omega (arith, d (suc k) (suc k') v e e')) (λ k v e. b (suc k) v e) in
    omega (arith, ih, sum_l_less w x l ni, sum_to_less w x n (b 0 x refl))

pub sum_l_app : (w : ℕ → ℕ) (l m : List ℕ) → sum_l w (l ++ m) ≡ sum_l w l + sum_l w m
sum_l_app w [] m = omega arith
sum_l_app w (x ∷ l) m = omega (arith, sum_l_app w l m)

-- the weight of what stands at a place, 0 where there is nothing
abbrev pub weight : {A : Type 0} → (A → ℕ) → Option A → ℕ
weight w none = 0
weight w (some x) = w x

abbrev pub weigh : {A : Type 0} → (A → ℕ) → List A → ℕ → ℕ
weigh w l v = weight w (get_elem? l v)

-- the sum over all places is the sum over the list
pub sum_to_total : {A : Type 0} (w : A → ℕ) (l : List A) → sum_to (weigh w l) (length l) ≡ total w l
sum_to_total w [] = refl
sum_to_total w (x ∷ l) = shift (weigh w (x ∷ l)) (length l) ∙ ap (λ (n : ℕ). w x + n) (sum_to_total w l)
  where
    shift : (f : ℕ → ℕ) (n : ℕ) → sum_to f (suc n) ≡ f 0 + sum_to (λ v. f (suc v)) n
    shift f zero = omega arith
    shift f (suc n) = omega (arith, shift f n)
