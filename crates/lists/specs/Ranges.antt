-- Ranges of a list: their length, their entries, and when two of them are the same.
use Rattle.std.specs.Prelude.{ℕ, zero, suc, ◌+◌, ◌-◌, ◌≤◌, ◌<◌, ◌≡◌, refl, List, [], ◌∷◌, ◌++◌, length, get_or, take, drop}
use Rattle.std.proofs.Common.{ap, sym as psym, ◌∙◌, length-take, length-drop, drop_of_length-le, drop-cons, get_or-take, get_or-drop, ext_get_or, length-take-le, arith}
use Rattle.std.proofs.Math.Seq.{drop-append_seam, take-length}
use Rattle.definition.specs.Arena.{range}
use Rattle.lists.specs.Lists.{At, at_lt, lt_at, at_app, get_d_at, at_get_d, apart}

pub length_range_in : (l : List ℕ) (a n : ℕ) → n ≤ length l - a → length (range l a n) ≡ n
unfolding range
length_range_in l a n h = length-take-le n (drop a l) (rw (length-drop a l) h)

pub length_range : (l : List ℕ) (a n : ℕ) → a + n ≤ length l → length (range l a n) ≡ n
length_range l a n h = length_range_in l a n (omega arith)

-- ---- entries

pub range_get : (l : List ℕ) (a n i : ℕ) → i < n → get_or (range l a n) i 0 ≡ get_or l (a + i) 0
unfolding range
range_get l a n i h = get_or-take n (drop a l) i 0 h ∙ get_or-drop a l i 0

pub range_at : (l : List ℕ) (n a k v : ℕ) → At (range l a n) k v → At l (a + k) v
unfolding range
range_at l zero a k v e = apart (cc)
range_at [] (suc n) zero k v e = apart (cc)
range_at [] (suc n) (suc a) k v e = apart (cc)
range_at (x ∷ l) (suc n) zero zero v e = e
range_at (x ∷ l) (suc n) zero (suc k) v e =
    let q = range_at l n 0 k v e in
    let z : 0 + suc k ≡ suc (0 + k) = omega arith in rw z q
range_at (x ∷ l) (suc n) (suc a) k v e =
    let q = range_at l (suc n) a k v e in
    let z : suc a + k ≡ suc (a + k) = omega arith in rw z q

pub range_has : (l : List ℕ) (a n i : ℕ) → a + n ≤ length l → i < n → At (range l a n) i (get_or l (a + i) 0)
range_has l a n i h k = rw (← range_get l a n i k) (at_get_d (range l a n) i 0 (omega (arith, length_range l a n h)))

-- ---- one entry after the other

pub range_none : (l : List ℕ) (a : ℕ) → range l a 0 ≡ []
unfolding range
range_none l a = refl

pub range_next : (l : List ℕ) (a n v : ℕ) → At l a v → range l a (suc n) ≡ v ∷ range l (suc a) n
unfolding range
range_next l a n v e = ap (take (suc n)) (drop-cons l a 0 (at_lt l a v e) ∙ ap (λ (x : ℕ). x ∷ drop (suc a) l) (get_d_at l a 0 v e))

-- from entry i on
pub range_step : (l : List ℕ) (a n i : ℕ) → a + n ≤ length l → i < n → drop i (range l a n) ≡ get_or l (a + i) 0 ∷ drop (suc i) (range l a n)
range_step l a n i h k = drop-cons (range l a n) i 0 (rw (length_range l a n h) k) ∙ ap (λ (x : ℕ). x ∷ drop (suc i) (range l a n)) (range_get l a n i k)

pub range_end : (l : List ℕ) (a n i : ℕ) → a + n ≤ length l → n ≤ i → drop i (range l a n) ≡ []
range_end l a n i h k = drop_of_length-le (range l a n) {i = i} (rw (length_range l a n h) k)

-- ---- the same

-- a range holds what it held if each of its words stands
pub range_same : (l m : List ℕ) (n a : ℕ) → a + n ≤ length l → ((k v : ℕ) → a ≤ k → k < a + n → At l k v → At m k v) → range m a n ≡ range l a n
range_same l m zero a h f = range_none m a ∙ psym (range_none l a)
range_same l m (suc n) a h f =
    let (v, e) = lt_at l a (omega arith) in
    let ih = range_same l m n (suc a) (omega arith) (λ k u p q. f k u (omega arith) (omega arith)) in
    range_next m a n v (f a v (omega arith) (omega arith) e) ∙ ap (λ (t : List ℕ). v ∷ t) ih ∙ psym (range_next l a n v e)

pub range_more : (l m : List ℕ) (a n : ℕ) → a + n ≤ length l → range (l ++ m) a n ≡ range l a n
range_more l m a n h = range_same l (l ++ m) n a h (λ k v p q e. at_app l m k v e)

-- a range inside the front of a table
pub range_front : (l t : List ℕ) (s n : ℕ) → l ≡ take (length l) t → s + n ≤ length l → length l ≤ length t → range l s n ≡ take n (drop s t)
unfolding range
range_front l t s n e h g =
    ext_get_or 0 (take n (drop s l)) (take n (drop s t)) (simp (length-take, length-drop) (omega arith))
    (λ i k.
    let lt : i < n = omega (arith, length-take-le n (drop s l) (simp length-drop (omega arith))) in
    get_or-take n (drop s l) i 0 lt ∙ get_or-drop s l i 0 ∙ ap (λ (x : List ℕ). get_or x (s + i) 0) e ∙ get_or-take (length l) t (s + i) 0 (omega arith) ∙ psym (get_or-take n (drop s t) i 0 lt ∙ get_or-drop s t i 0))

-- what was added
pub range_last : (l m : List ℕ) → range (l ++ m) (length l) (length m) ≡ m
unfolding range
range_last l m = ap (take (length m)) (drop-append_seam l m) ∙ take-length m
