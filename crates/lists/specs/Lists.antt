-- Lists by index, for relations.
use Rattle.std.specs.Prelude.{ℕ, zero, suc, ◌+◌, ◌≤◌, ◌<◌, ◌≡◌, refl, ◌⊎◌, ◌≢◌, List, [], ◌∷◌, ◌++◌, map, length, get_or, set, take, drop}
use Rattle.std.proofs.Common.{zero-le, suc-le-suc, ap, ◌∙◌, inl, inr, length-append, arith}
use Rattle.std.proofs.Math.Option.{some}
use Rattle.std.proofs.Math.ListN.{get_elem?}
use Rattle.std.proofs.lemmas.List.Edits.{sets, sets-eq}
use Rattle.std.proofs.Math.Seq.{take-append_seam}

-- `At l k v`: v stands at k
abbrev pub At : {A : Type 0} → List A → ℕ → A → Type 0
At l k v = get_elem? l k ≡ some v

abbrev pub NotIn : {A : Type 0} → A → List A → Type 0
NotIn v l = (k : ℕ) → At l k v → ⊥

-- what is impossible: `apart (cc)`
pub apart : {A : Type 0} → ◌≡◌ {A = ℕ} 0 1 → A
apart e = absurd (omega arith)

module _ {A : Type 0} where
  pub len_snoc : (l : List A) (v : A) → length (l ++ (v ∷ [])) ≡ length l + 1
  len_snoc l v = length-append l (v ∷ [])

  pub no_at : {C : Type 0} (k : ℕ) (v : A) → At [] k v → C
  no_at k v e = apart (cc)

  pub at_lt : (l : List A) (k : ℕ) (v : A) → At l k v → k < length l
  at_lt [] k v e = apart (cc)
  at_lt (x ∷ l) zero v e = suc-le-suc zero-le
  at_lt (x ∷ l) (suc k) v e = suc-le-suc (at_lt l k v e)

  pub lt_at : (l : List A) (k : ℕ) → k < length l → (v : A) × At l k v
  lt_at [] k h = absurd (omega arith)
  lt_at (x ∷ l) zero h = (x, refl)
  lt_at (x ∷ l) (suc k) h = lt_at l k (omega arith)

  pub at_app : (l r : List A) (k : ℕ) (v : A) → At l k v → At (l ++ r) k v
  at_app [] r k v e = apart (cc)
  at_app (x ∷ l) r zero v e = e
  at_app (x ∷ l) r (suc k) v e = at_app l r k v e

  pub at_snoc : (l : List A) (v : A) → At (l ++ (v ∷ [])) (length l) v
  at_snoc [] v = refl
  at_snoc (x ∷ l) v = at_snoc l v

  pub at_snoc_inv : (l : List A) (v : A) (k : ℕ) (u : A) → At (l ++ (v ∷ [])) k u → At l k u ⊎ ((k ≡ length l) × (u ≡ v))
  at_snoc_inv [] v zero u e = inr (refl, cc)
  at_snoc_inv [] v (suc k) u e = apart (cc)
  at_snoc_inv (x ∷ l) v zero u e = inl e
  at_snoc_inv (x ∷ l) v (suc k) u e = go (at_snoc_inv l v k u e)
    where
      go : At l k u ⊎ ((k ≡ length l) × (u ≡ v)) → At l k u ⊎ ((suc k ≡ suc (length l)) × (u ≡ v))
      go (inl h) = inl h
      go (inr h) = inr (ap suc h.0, h.1)

  pub at_set_same : (l : List A) (i : ℕ) (x : A) → i < length l → At (set l i x) i x
  at_set_same [] i x h = absurd (omega arith)
  at_set_same (y ∷ l) zero x h = refl
  at_set_same (y ∷ l) (suc i) x h = at_set_same l i x (omega arith)

  pub at_set_other : (l : List A) (i k : ℕ) (x v : A) → k ≢ i → At l k v → At (set l i x) k v
  at_set_other [] i k x v n e = e
  at_set_other (y ∷ l) zero zero x v n e = absurd (n refl)
  at_set_other (y ∷ l) zero (suc k) x v n e = e
  at_set_other (y ∷ l) (suc i) zero x v n e = e
  at_set_other (y ∷ l) (suc i) (suc k) x v n e = at_set_other l i k x v (λ q. n (ap suc q)) e

  pub at_set_inv : (l : List A) (i k : ℕ) (x v : A) → At (set l i x) k v → ((k ≡ i) × (v ≡ x)) ⊎ ((k ≢ i) × At l k v)
  at_set_inv [] i k x v e = apart (cc)
  at_set_inv (y ∷ l) zero zero x v e = inl (refl, cc)
  at_set_inv (y ∷ l) zero (suc k) x v e = inr (omega arith, e)
  at_set_inv (y ∷ l) (suc i) zero x v e = inr (omega arith, e)
  at_set_inv (y ∷ l) (suc i) (suc k) x v e = go (at_set_inv l i k x v e)
    where
      go : ((k ≡ i) × (v ≡ x)) ⊎ ((k ≢ i) × At l k v) → ((suc k ≡ suc i) × (v ≡ x)) ⊎ ((suc k ≢ suc i) × At l k v)
      go (inl h) = inl (ap suc h.0, h.1)
      go (inr h) = inr (omega arith, h.1)

  -- by index, and by index with something for no place
  pub get_d_at : (l : List A) (i : ℕ) (d x : A) → At l i x → get_or l i d ≡ x
  get_d_at [] i d x e = apart (cc)
  get_d_at (y ∷ l) zero d x e = cc
  get_d_at (y ∷ l) (suc i) d x e = get_d_at l i d x e

  pub at_get_d : (l : List A) (i : ℕ) (d : A) → i < length l → At l i (get_or l i d)
  at_get_d l i d h = let (x, e) = lt_at l i h in rw (get_d_at l i d x e) e

  abbrev pub Distinct : List A → Type 0
  Distinct l = (k k' : ℕ) (v : A) → At l k v → At l k' v → k ≡ k'

  pub distinct_snoc : (l : List A) (v : A) → Distinct l → NotIn v l → Distinct (l ++ (v ∷ []))
  distinct_snoc l v d n k k' u e e' = go (at_snoc_inv l v k u e) (at_snoc_inv l v k' u e')
    where
      go : At l k u ⊎ ((k ≡ length l) × (u ≡ v)) → At l k' u ⊎ ((k' ≡ length l) × (u ≡ v)) → k ≡ k'
      go (inl a) (inl b) = d k k' u a b
      go (inl a) (inr b) = absurd (n k (rw (← b.1) a))
      go (inr a) (inl b) = absurd (n k' (rw (← a.1) b))
      go (inr a) (inr b) = cc

-- two lists, element by element
abbrev pub PW : {A B : Type 0} → (A → B → Type 0) → List A → List B → Type 0
PW R [] [] = Unit {0}
PW R [] (y ∷ m) = ⊥
PW R (x ∷ l) [] = ⊥
PW R (x ∷ l) (y ∷ m) = R x y × PW R l m

module _ {A B : Type 0} (R : A → B → Type 0) where
  pub pw_snoc : (l : List A) (m : List B) (x : A) (y : B) → PW R l m → R x y → PW R (l ++ (x ∷ [])) (m ++ (y ∷ []))
  pw_snoc [] [] x y p r = (r, tt)
  pw_snoc [] (b ∷ m) x y p r = absurd p
  pw_snoc (a ∷ l) [] x y p r = absurd p
  pw_snoc (a ∷ l) (b ∷ m) x y p r = (p.0, pw_snoc l m x y p.1 r)

  pub pw_at : (l : List A) (m : List B) (k : ℕ) (x : A) → PW R l m → At l k x → (y : B) × At m k y × R x y
  pw_at [] m k x p e = apart (cc)
  pw_at (a ∷ l) [] k x p e = absurd p
  pw_at (a ∷ l) (b ∷ m) zero x p e = let q : a ≡ x = cc in (b, refl, rw (← q) p.0)
  pw_at (a ∷ l) (b ∷ m) (suc k) x p e = pw_at l m k x p.1 e

  pub pw_at' : (l : List A) (m : List B) (k : ℕ) (y : B) → PW R l m → At m k y → (x : A) × At l k x × R x y
  pw_at' l [] k y p e = apart (cc)
  pw_at' [] (b ∷ m) k y p e = absurd p
  pw_at' (a ∷ l) (b ∷ m) zero y p e = let q : b ≡ y = cc in (a, refl, rw (← q) p.0)
  pw_at' (a ∷ l) (b ∷ m) (suc k) y p e = pw_at' l m k y p.1 e

abbrev pub Below : ℕ → List ℕ → Type 0
Below n l = (k v : ℕ) → At l k v → v < n

pub below_up : (n m : ℕ) (l : List ℕ) → n ≤ m → Below n l → Below m l
below_up n m l h b k v e = omega (arith, b k v e)

pub below_first : (n v : ℕ) (l : List ℕ) → v < n → Below n l → Below n (v ∷ l)
below_first n v l h b zero u e = let z : v ≡ u = cc in omega arith
below_first n v l h b (suc k) u e = b k u e

pub below_join : (n : ℕ) (l m : List ℕ) → Below n l → Below n m → Below n (l ++ m)
below_join n [] m b c k v e = c k v e
below_join n (x ∷ l) m b c zero v e = b zero v e
below_join n (x ∷ l) m b c (suc k) v e = below_join n l m (λ j u a. b (suc j) u a) c k v e

pub below_one : (n v : ℕ) → v < n → Below n (v ∷ [])
below_one n v h = below_first n v [] h (λ k u e. no_at k u e)

pub below_snoc : (n : ℕ) (l : List ℕ) (v : ℕ) → v < n → Below n l → Below n (l ++ (v ∷ []))
below_snoc n l v h b = below_join n l (v ∷ []) b (below_one n v h)

-- ---- the image of a list

module _ {A B : Type 0} (f : A → B) where
  pub map_set : (l : List A) (i : ℕ) (x : A) → map f (set l i x) ≡ set (map f l) i (f x)
  map_set [] i x = refl
  map_set (y ∷ l) zero x = refl
  map_set (y ∷ l) (suc i) x = rw (map_set l i x)

  pub map_ext : (g : A → B) (l : List A) → ((i : ℕ) (x : A) → At l i x → f x ≡ g x) → map f l ≡ map g l
  map_ext g [] h = refl
  map_ext g (x ∷ l) h = rw (h 0 x refl, map_ext g l (λ i y e. h (suc i) y e))

  pub map_at : (l : List A) (i : ℕ) (x : A) → At l i x → At (map f l) i (f x)
  map_at [] i x e = apart (cc)
  map_at (y ∷ l) zero x e = let q : y ≡ x = cc in rw q
  map_at (y ∷ l) (suc i) x e = map_at l i x e

  pub map_at_inv : (l : List A) (i : ℕ) (y : B) → At (map f l) i y → (x : A) × At l i x × (f x ≡ y)
  map_at_inv [] i y e = apart (cc)
  map_at_inv (x ∷ l) zero y e = (x, refl, cc)
  map_at_inv (x ∷ l) (suc i) y e = map_at_inv l i y e

-- ---- a list that begins with another

-- entries stored behind those that stand
pub stored_behind : {A : Type 0} (l vs t : List A) → take (length l) t ≡ l → length l + length vs ≤ length t → take (length (l ++ vs)) (sets t (length l) vs) ≡ l ++ vs
stored_behind {A} l vs t e h =
    let rest = drop (length l + length vs) t in
    ap (take (length (l ++ vs))) (sets-eq vs t (length l) h ∙ ap (λ (x : List A). x ++ vs ++ rest) e)
    ∙ take-append_seam (l ++ vs) rest
