-- The bucket table of names: where a search ends, that a node put into the table is found again, and that the table is never full.
use Prim.Native.Nat.{ℕ, zero, suc, ◌+◌, ◌-◌, ◌*◌, ◌%◌, ◌≤◌, ◌<◌}
use Rattle.std.proofs.Common.{mod-lt, mod-eq_of_lt, add-one, ◌∙◌, length-append, length-set, eq-eqb, ne_eqb, eqb-true, ltb-true, ltb-false}
use Rattle.std.proofs.Math.Nat.{mod_self, mod-add-mod, add-mod_right, suc-mul}
use native.Mathlib.Omega.{arith}
use Rattle.std.specs.Prelude.{◌≡◌, Bool, ◌||◌, ◌⊎◌, set, eqb, ltb}
use Rattle.std.proofs.Math.Path.{refl, sym, ap, subst}
use Rattle.std.proofs.Math.Bool.{true, false}
use Rattle.std.proofs.Math.Logic.{inl, inr}
use mathlib.Core.List.{List, [], ◌∷◌, ◌++◌}
use Rattle.std.proofs.Math.ListN.{length, get_or, get_or-eq_default, get_or-append}
use Rattle.std.proofs.lemmas.List.{length-replicate, get_or-replicate, set-get_or}
use Rattle.std.proofs.Math.Seq.{get_or-set_same, get_or-set_other}
use Rattle.std.proofs.lemmas.Bool.{eqb-false}
use Rattle.definition.specs.Run.{pick}
use Rattle.definition.specs.Buckets.{Buckets, bucket, ends, words_passed, distance, search, searches, empty}
use Rattle.lists.specs.Joined.{or_none}

less : (a b : ℕ) → (a < b) ⊎ (b ≤ a)
less a b = go (ltb a b) refl
  where
    go : (t : Bool) → ltb a b ≡ t → (a < b) ⊎ (b ≤ a)
    go true e = inl (ltb-true a b e)
    go false e = inr (ltb-false a b e)

-- ---- stepping round the table

step_round : (i m : ℕ) → suc i % m ≡ suc (i % m) % m
step_round i m = ap (λ (j : ℕ). j % m) (sym (add-one i)) ∙ sym (mod-add-mod i m 1) ∙ ap (λ (j : ℕ). j % m) (add-one (i % m))

pub round_up : (i m : ℕ) → suc (i % m) < m → suc i % m ≡ suc (i % m)
round_up i m h = step_round i m ∙ mod-eq_of_lt h

pub round_on : (i m : ℕ) → suc (i % m) ≡ m → suc i % m ≡ 0
round_on i m e = step_round i m ∙ ap (λ (j : ℕ). j % m) e ∙ mod_self m

-- fewer than m steps that come back to where they began are none
back_again : (i d m : ℕ) → d < m → (i + d) % m ≡ i % m → d ≡ 0
back_again i d m h e = go (less (i % m + d) m)
  where
    back : (i % m + d) % m ≡ i % m
    back = mod-add-mod i m d ∙ e

    go : (i % m + d < m) ⊎ (m ≤ i % m + d) → d ≡ 0
    go (inl l) = omega (arith, sym (mod-eq_of_lt l) ∙ back)
    go (inr l) =
        let x = i % m + d - m in
        let y : x + m ≡ i % m + d = omega arith in
        let z : x < m = omega (arith, mod-lt i {m = m} (omega arith)) in
        omega (arith, sym (mod-eq_of_lt z) ∙ sym (add-mod_right x m) ∙ ap (λ (j : ℕ). j % m) y ∙ back)

-- fewer than m steps each, to one word
same_step : (i p q m : ℕ) → p < m → q < m → (i + p) % m ≡ (i + q) % m → p ≡ q
same_step i p q m h l e = go (less p q)
  where
    rest : (a b : ℕ) → a ≤ b → b < m → (i + a) % m ≡ (i + b) % m → b - a ≡ 0
    rest a b c d e = let z : i + a + (b - a) ≡ i + b = omega arith in back_again (i + a) (b - a) m (omega arith) (ap (λ (j : ℕ). j % m) z ∙ sym e)

    go : (p < q) ⊎ (q ≤ p) → p ≡ q
    go (inl c) = omega (arith, rest p q (omega arith) l e)
    go (inr c) = omega (arith, rest q p c h (sym e))

-- ---- more places than numbers

-- more numbers than there are below n are not all different: the number n goes out, the last takes its place
pigeonhole : (n m : ℕ) (f : ℕ → ℕ) → n < m → ((i : ℕ) → i < m → f i < n) → ((i j : ℕ) → i < m → j < m → f i ≡ f j → i ≡ j) → ⊥
unfolding pick
pigeonhole zero m f h b d = omega (arith, b 0 h)
pigeonhole (suc n) zero f h b d = omega arith
pigeonhole (suc n) (suc m) f h b d = pigeonhole n m g (omega arith) (λ i l. below i l (eqb (f i) n) refl) (λ i j k l. apart i j k l (eqb (f i) n) (eqb (f j) n) refl refl)
  where
    g : ℕ → ℕ
    g i = pick (eqb (f i) n) (f m) (f i)

    below : (i : ℕ) → i < m → (t : Bool) → eqb (f i) n ≡ t → pick t (f m) (f i) < n
    below i l true e =
        let z : f m ≡ n → ⊥ = λ q. let y = d i m (omega arith) (omega arith) (eqb-true (f i) n e ∙ sym q) in omega arith in
        omega (arith, b m (omega arith), z)
    below i l false e = omega (arith, b i (omega arith), eqb-false (f i) n e)

    apart : (i j : ℕ) → i < m → j < m → (s t : Bool) → eqb (f i) n ≡ s → eqb (f j) n ≡ t → pick s (f m) (f i) ≡ pick t (f m) (f j) → i ≡ j
    apart i j k l true true p q e = d i j (omega arith) (omega arith) (eqb-true (f i) n p ∙ sym (eqb-true (f j) n q))
    apart i j k l true false p q e = let y = d m j (omega arith) (omega arith) e in absurd (omega arith)
    apart i j k l false true p q e = let y = d i m (omega arith) (omega arith) e in absurd (omega arith)
    apart i j k l false false p q e = d i j (omega arith) (omega arith) e

-- ---- where a search ends

-- the search for h goes past a word, or ends at it
abbrev pub Passes : ℕ → ℕ → Type 0
Passes h w = (w ≡ h → ⊥) × (w ≡ 0 → ⊥)

abbrev pub Stops : ℕ → ℕ → Type 0
Stops h w = (w ≡ h) ⊎ (w ≡ 0)

-- past the first p words from the k-th on, and at the p-th
abbrev pub Clear : List ℕ → ℕ → ℕ → ℕ → Type 0
Clear ws k h p = (q : ℕ) → q < p → Passes h (bucket ws (k + q))

abbrev pub Ends : List ℕ → ℕ → ℕ → ℕ → Type 0
Ends ws k h p = Stops h (bucket ws (k + p))

ends_yes : (h w : ℕ) → Stops h w → ends h w ≡ true
unfolding ends
ends_yes h w (inl e) = rw (eq-eqb w h e) refl
ends_yes h w (inr e) = rw (eq-eqb w 0 e) (either (eqb w h))
  where
    either : (t : Bool) → t || true ≡ true
    either true = refl
    either false = refl

ends_no : (h w : ℕ) → Passes h w → ends h w ≡ false
unfolding ends
ends_no h w n = rw (ne_eqb w h n.0, ne_eqb w 0 n.1) refl

yes_ends : (h w : ℕ) → ends h w ≡ true → Stops h w
unfolding ends
yes_ends h w e = go (eqb w h) refl e
  where
    go : (t : Bool) → eqb w h ≡ t → t || eqb w 0 ≡ true → Stops h w
    go true p e = inl (eqb-true w h p)
    go false p e = inr (eqb-true w 0 e)

no_ends : (h w : ℕ) → ends h w ≡ false → Passes h w
unfolding ends
no_ends h w e = let (p, q) = or_none (eqb w h) (eqb w 0) e in (eqb-false w h p, eqb-false w 0 q)

module _ (ws : List ℕ) (h : ℕ) where
  here : (i : ℕ) → bucket ws (i + 0) ≡ bucket ws i
  here i = let z : i + 0 ≡ i = omega arith in ap (bucket ws) z

  there : (i q : ℕ) → bucket ws (i + suc q) ≡ bucket ws (suc i + q)
  there i q = let z : i + suc q ≡ suc i + q = omega arith in ap (bucket ws) z

  -- the words passed from the i-th on
  abbrev from : ℕ → ℕ → ℕ
  from n i = words_passed n (ends h (bucket ws i)) ws h i

  passed_is : (n i p : ℕ) → p < n → Clear ws i h p → Ends ws i h p → from n i ≡ p
  unfolding words_passed
  passed_is zero i p l c e = absurd (omega arith)
  passed_is (suc n) i zero l c e = rw (ends_yes h (bucket ws i) (subst (Stops h) (here i) e)) refl
  passed_is (suc n) i (suc p) l c e =
      rw (ends_no h (bucket ws i) (subst (Passes h) (here i) (c 0 (omega arith))))
      (ap suc (passed_is n (suc i) p (omega arith) (λ q g. subst (Passes h) (there i q) (c (suc q) (omega arith))) (subst (Stops h) (there i p) e)))

  passed_clear : (n i : ℕ) → Clear ws i h (from n i)
  unfolding words_passed
  passed_clear zero i q l = absurd (omega arith)
  passed_clear (suc n) i q l = go (ends h (bucket ws i)) refl q l (passed_clear n (suc i))
    where
      go : (t : Bool) → ends h (bucket ws i) ≡ t → (q : ℕ) → q < words_passed (suc n) t ws h i → Clear ws (suc i) h (from n (suc i)) → Passes h (bucket ws (i + q))
      go true e q l c = absurd (omega arith)
      go false e zero l c = subst (Passes h) (sym (here i)) (no_ends h (bucket ws i) e)
      go false e (suc q) l c = subst (Passes h) (sym (there i q)) (c q (omega arith))

  passed_ends : (n i : ℕ) → from n i < n → Ends ws i h (from n i)
  unfolding words_passed
  passed_ends zero i l = absurd (omega arith)
  passed_ends (suc n) i l = go (ends h (bucket ws i)) refl l (passed_ends n (suc i))
    where
      go : (t : Bool) → ends h (bucket ws i) ≡ t → words_passed (suc n) t ws h i < suc n → (from n (suc i) < n → Ends ws (suc i) h (from n (suc i))) → Ends ws i h (words_passed (suc n) t ws h i)
      go true e l f = subst (Stops h) (sym (here i)) (yes_ends h (bucket ws i) e)
      go false e l f = subst (Stops h) (sym (there i (from n (suc i)))) (f (omega arith))

distance_is : (ws : List ℕ) (k h p : ℕ) → p < length ws → Clear ws k h p → Ends ws k h p → distance ws k h ≡ p
unfolding distance
distance_is ws k h p l c e = passed_is ws h (length ws) k p l c e

distance_clear : (ws : List ℕ) (k h : ℕ) → Clear ws k h (distance ws k h)
unfolding distance
distance_clear ws k h = passed_clear ws h (length ws) k

distance_ends : (ws : List ℕ) (k h : ℕ) → distance ws k h < length ws → Ends ws k h (distance ws k h)
unfolding distance
distance_ends ws k h l = passed_ends ws h (length ws) k l

-- ---- one search

pub search_new : (t : Buckets) (k h p : ℕ) → p < length t.words → Clear t.words k h p → Ends t.words k h p
    → search k h t ≡ record { words = set t.words ((k + p) % length t.words) h; looked = t.looked + suc p }
unfolding search
search_new t k h p l c e = rw (distance_is t.words k h p l c e) refl

search_known : (t : Buckets) (k h p : ℕ) → p < length t.words → Clear t.words k h p → bucket t.words (k + p) ≡ h
    → search k h t ≡ record { words = t.words; looked = t.looked + suc p }
unfolding bucket
search_known t k h p l c e =
    let i = (k + p) % length t.words in
    search_new t k h p l c (inl e)
    ∙ ap (λ (ws : List ℕ). record { words = ws; looked = t.looked + suc p }) (ap (set t.words i) (sym e) ∙ set-get_or t.words i 0)

-- ---- searches

pub searches_snoc : (k : ℕ → ℕ) (l : List ℕ) (h : ℕ) (t : Buckets) → searches k (l ++ (h ∷ [])) t ≡ search (k h) h (searches k l t)
unfolding searches
searches_snoc k [] h t = refl
searches_snoc k (g ∷ l) h t = searches_snoc k l h (search (k g) g t)

pub searches_by : (k k' : ℕ → ℕ) (l : List ℕ) (t : Buckets) → ((i : ℕ) → i < length l → k (get_or l i 0) ≡ k' (get_or l i 0)) → searches k l t ≡ searches k' l t
unfolding searches
searches_by k k' [] t e = refl
searches_by k k' (h ∷ l) t e =
    ap (λ (j : ℕ). searches k l (search j h t)) (e 0 (omega arith))
    ∙ searches_by k k' l (search (k' h) h t) (λ i g. e (suc i) (omega arith))

words_length : (k : ℕ → ℕ) (l : List ℕ) (t : Buckets) → length (searches k l t).words ≡ length t.words
unfolding searches search
words_length k [] t = refl
words_length k (h ∷ l) t = words_length k l (search (k h) h t) ∙ length-set t.words _ h

words_of : (m : ℕ) → length (empty m).words ≡ m
words_of m = length-replicate m 0

-- at least one word a search
looked_from : (k : ℕ → ℕ) (l : List ℕ) (t : Buckets) → t.looked + length l ≤ (searches k l t).looked
unfolding searches search
looked_from k [] t = omega arith
looked_from k (h ∷ l) t = omega (arith, looked_from k l (search (k h) h t))

pub looked_least : (k : ℕ → ℕ) (l : List ℕ) (m : ℕ) → length l ≤ (searches k l (empty m)).looked
looked_least k l m = omega (arith, looked_from k l (empty m))

-- ---- what a table of nodes keeps

-- a search from hash k comes to node h
pub record Reaches (ws : List ℕ) (k h : ℕ) : Type 0 where
  pub at : ℕ
  pub inside : at < length ws
  pub there : bucket ws (k + at) ≡ h
  pub before : Clear ws k h at

-- the nodes in a table: below n, each in one word, and come to from its hash
record Kept (k : ℕ → ℕ) (n : ℕ) (ws : List ℕ) : Type 0 where
  some : 0 < n
  room : n ≤ length ws
  below : (i : ℕ) → get_or ws i 0 < n
  once : (i j : ℕ) → i < length ws → j < length ws → get_or ws i 0 ≡ get_or ws j 0 → (get_or ws i 0 ≡ 0 → ⊥) → i ≡ j
  found : (i : ℕ) → i < length ws → (get_or ws i 0 ≡ 0 → ⊥) → Reaches ws (k (get_or ws i 0)) (get_or ws i 0)

-- a word counted round is one of the table's
around : (ws : List ℕ) (i : ℕ) → 0 < length ws → i % length ws < length ws
around ws i l = mod-lt i {m = length ws} l

module _ (k : ℕ → ℕ) (n : ℕ) (ws : List ℕ) (s : Kept k n ws) where
  positive : 0 < length ws
  positive = omega (arith, s.some, s.room)

  -- words that are not zero are different numbers from 1 to n - 1: fewer than there are words
  not_full : (i : ℕ) → ((q : ℕ) → q < length ws → bucket ws (i + q) ≡ 0 → ⊥) → ⊥
  unfolding bucket
  not_full i z =
      pigeonhole (n - 1) (length ws) (λ q. bucket ws (i + q) - 1) (omega (arith, s.some, s.room))
      (λ q l. omega (arith, s.below ((i + q) % length ws), z q l))
      (λ p q c d e. same_step i p q (length ws) c d (s.once _ _ (around ws (i + p) positive) (around ws (i + q) positive) (omega (arith, e, z p c, z q d)) (z p c)))

  -- a search always ends: n words for n nodes never fill
  search_inside : (j h : ℕ) → distance ws j h < length ws
  search_inside j h = go (less (distance ws j h) (length ws))
    where
      go : (distance ws j h < length ws) ⊎ (length ws ≤ distance ws j h) → distance ws j h < length ws
      go (inl l) = l
      go (inr l) = absurd (not_full j (λ q c. (distance_clear ws j h q (omega arith)).1))

-- entry j of a list whose entry i is set to x
abbrev Entry : List ℕ → ℕ → ℕ → ℕ → Type 0
Entry l i x j = ((j ≡ i) × (get_or (set l i x) j 0 ≡ x)) ⊎ ((j ≡ i → ⊥) × (get_or (set l i x) j 0 ≡ get_or l j 0))

entry : (l : List ℕ) (i x j : ℕ) → i < length l → Entry l i x j
entry l i x j h = go (eqb j i) refl
  where
    go : (t : Bool) → eqb j i ≡ t → Entry l i x j
    go true e = let z = eqb-true j i e in inl (z, ap (λ (a : ℕ). get_or (set l i x) a 0) z ∙ get_or-set_same l i x 0 h)
    go false e = inr (eqb-false j i e, get_or-set_other l i j x 0 (eqb-false j i e))

-- what the search for h makes of a table
record Searched (k : ℕ → ℕ) (n h : ℕ) (ws ws' : List ℕ) : Type 0 where
  kept : Kept k n ws'
  reached : Reaches ws' (k h) h
  stays : (g : ℕ) → (g ≡ 0 → ⊥) → Reaches ws (k g) g → Reaches ws' (k g) g
  from : (i : ℕ) → (get_or ws' i 0 ≡ h) ⊎ (get_or ws' i 0 ≡ get_or ws i 0)

-- h is new: put at a zero word, which no other's search passes
module _ (k : ℕ → ℕ) (n h p : ℕ) (ws : List ℕ) (s : Kept k n ws) (b : h < n) (z : h ≡ 0 → ⊥) (l : p < length ws) (c : Clear ws (k h) h p) (e : bucket ws (k h + p) ≡ 0) where
  abbrev place : ℕ
  place = (k h + p) % length ws

  abbrev then : List ℕ
  then = set ws place h

  placed : place < length ws
  placed = around ws (k h + p) (positive k n ws s)

  size : length then ≡ length ws
  size = length-set ws place h

  -- a word that isn't zero stands
  stands : (i : ℕ) → (bucket ws i ≡ 0 → ⊥) → bucket then i ≡ bucket ws i
  unfolding bucket
  stands i f = ap (λ (m : ℕ). get_or then (i % m) 0) size ∙ get_or-set_other ws place (i % length ws) h 0 (λ q. f (ap (λ (j : ℕ). get_or ws j 0) q ∙ e))

  -- h stood nowhere: its search would have come to it
  absent : (i : ℕ) → i < length ws → get_or ws i 0 ≡ h → ⊥
  absent i g q =
      let r : Reaches ws (k h) h = subst (λ (v : ℕ). Reaches ws (k v) v) q (s.found i g (λ y. z (sym q ∙ y))) in
      let y : p ≡ r.at = sym (distance_is ws (k h) h p l c (inr e)) ∙ distance_is ws (k h) h r.at r.inside r.before (inl r.there) in
      z (sym r.there ∙ ap (λ (j : ℕ). bucket ws (k h + j)) (sym y) ∙ e)

  walk : (g : ℕ) → (g ≡ 0 → ⊥) → Reaches ws (k g) g → Reaches then (k g) g
  walk g f r = record {
    at = r.at;
    inside = rw size r.inside;
    there = stands (k g + r.at) (λ y. f (sym r.there ∙ y)) ∙ r.there;
    before = λ q d. rw (stands (k g + q) (r.before q d).1) (r.before q d);
  }

  own : Reaches then (k h) h
  unfolding bucket
  own = record {
    at = p;
    inside = rw size l;
    there = ap (λ (m : ℕ). get_or then ((k h + p) % m) 0) size ∙ get_or-set_same ws place h 0 placed;
    before = λ q d. rw (stands (k h + q) (c q d).1) (c q d);
  }

  origin : (i : ℕ) → (get_or then i 0 ≡ h) ⊎ (get_or then i 0 ≡ get_or ws i 0)
  origin i = go (entry ws place h i placed)
    where
      go : Entry ws place h i → (get_or then i 0 ≡ h) ⊎ (get_or then i 0 ≡ get_or ws i 0)
      go (inl a) = inl a.1
      go (inr a) = inr a.1

  still : Kept k n then
  still = record {
    some = s.some;
    room = rw size s.room;
    below = λ i. low i (origin i);
    once = λ i j f g. one i j (rw (← size) f) (rw (← size) g) (entry ws place h i placed) (entry ws place h j placed);
    found = λ i f. come i (rw (← size) f) (origin i);
  }
    where
      low : (i : ℕ) → (get_or then i 0 ≡ h) ⊎ (get_or then i 0 ≡ get_or ws i 0) → get_or then i 0 < n
      low i (inl a) = omega (arith, a)
      low i (inr a) = omega (arith, a, s.below i)

      one : (i j : ℕ) → i < length ws → j < length ws → Entry ws place h i → Entry ws place h j → get_or then i 0 ≡ get_or then j 0 → (get_or then i 0 ≡ 0 → ⊥) → i ≡ j
      one i j f g (inl a) (inl a') q y = a.0 ∙ sym a'.0
      one i j f g (inl a) (inr a') q y = absurd (absent j g (sym a'.1 ∙ sym q ∙ a.1))
      one i j f g (inr a) (inl a') q y = absurd (absent i f (sym a.1 ∙ q ∙ a'.1))
      one i j f g (inr a) (inr a') q y = s.once i j f g (sym a.1 ∙ q ∙ a'.1) (λ v. y (a.1 ∙ v))

      come : (i : ℕ) → i < length ws → (get_or then i 0 ≡ h) ⊎ (get_or then i 0 ≡ get_or ws i 0) → (get_or then i 0 ≡ 0 → ⊥) → Reaches then (k (get_or then i 0)) (get_or then i 0)
      come i f (inl a) y = subst (λ (v : ℕ). Reaches then (k v) v) (sym a) own
      come i f (inr a) y =
          let d : get_or ws i 0 ≡ 0 → ⊥ = λ v. y (a ∙ v) in
          subst (λ (v : ℕ). Reaches then (k v) v) (sym a) (walk (get_or ws i 0) d (s.found i f d))

  put : Searched k n h ws then
  put = record { kept = still; reached = own; stays = walk; from = origin }

-- either h stands where its search ends, and nothing changes, or it is put there
one_search : (k : ℕ → ℕ) (n h : ℕ) (t : Buckets) → Kept k n t.words → h < n → (h ≡ 0 → ⊥) → Searched k n h t.words (search (k h) h t).words
one_search k n h t s b z = go (distance t.words (k h) h) (search_inside k n t.words s (k h) h) (distance_clear t.words (k h) h) (distance_ends t.words (k h) h (search_inside k n t.words s (k h) h))
  where
    go : (p : ℕ) → p < length t.words → Clear t.words (k h) h p → Ends t.words (k h) h p → Searched k n h t.words (search (k h) h t).words
    go p l c (inl e) =
        subst (λ (u : Buckets). Searched k n h t.words u.words) (sym (search_known t (k h) h p l c e))
        (record { kept = s; reached = record { at = p; inside = l; there = e; before = c }; stays = λ g f r. r; from = λ i. inr refl })
    go p l c (inr e) = subst (λ (u : Buckets). Searched k n h t.words u.words) (sym (search_new t (k h) h p l c (inr e))) (put k n h p t.words s b z l c e)

-- ---- a search for each node of a list

-- nodes below n, and none is node 0
abbrev Nodes : ℕ → List ℕ → Type 0
Nodes n l = (i : ℕ) → i < length l → (get_or l i 0 < n) × (get_or l i 0 ≡ 0 → ⊥)

module _ (k : ℕ → ℕ) (n : ℕ) where
  first : (h : ℕ) (l : List ℕ) (t : Buckets) → Nodes n (h ∷ l) → Kept k n t.words → Searched k n h t.words (search (k h) h t).words
  first h l t v s = let (b, z) = v 0 (omega arith) in one_search k n h t s b z

  rest : (h : ℕ) (l : List ℕ) → Nodes n (h ∷ l) → Nodes n l
  rest h l v i g = v (suc i) (omega arith)

  all_kept : (l : List ℕ) (t : Buckets) → Nodes n l → Kept k n t.words → Kept k n (searches k l t).words
  unfolding searches
  all_kept [] t v s = s
  all_kept (h ∷ l) t v s = all_kept l (search (k h) h t) (rest h l v) (first h l t v s).kept

  all_stay : (l : List ℕ) (t : Buckets) → Nodes n l → Kept k n t.words → (g : ℕ) → (g ≡ 0 → ⊥) → Reaches t.words (k g) g → Reaches (searches k l t).words (k g) g
  unfolding searches
  all_stay [] t v s g z r = r
  all_stay (h ∷ l) t v s g z r = let a = first h l t v s in all_stay l (search (k h) h t) (rest h l v) a.kept g z (a.stays g z r)

  all_reached : (l : List ℕ) (t : Buckets) → Nodes n l → Kept k n t.words → (j : ℕ) → j < length l → Reaches (searches k l t).words (k (get_or l j 0)) (get_or l j 0)
  unfolding searches
  all_reached [] t v s j g = absurd (omega arith)
  all_reached (h ∷ l) t v s zero g = let a = first h l t v s in all_stay l (search (k h) h t) (rest h l v) a.kept h (v 0 g).1 a.reached
  all_reached (h ∷ l) t v s (suc j) g = all_reached l (search (k h) h t) (rest h l v) (first h l t v s).kept j (omega arith)

  -- a word that is not a node of the list is as before
  all_from : (l : List ℕ) (t : Buckets) → Nodes n l → Kept k n t.words → (i : ℕ) → ((j : ℕ) × (j < length l) × (get_or l j 0 ≡ get_or (searches k l t).words i 0)) ⊎ (get_or (searches k l t).words i 0 ≡ get_or t.words i 0)
  unfolding searches
  all_from [] t v s i = inr refl
  all_from (h ∷ l) t v s i = go (all_from l (search (k h) h t) (rest h l v) (first h l t v s).kept i) ((first h l t v s).from i)
    where
      go : ((j : ℕ) × (j < length l) × (get_or l j 0 ≡ get_or (searches k l (search (k h) h t)).words i 0)) ⊎ (get_or (searches k l (search (k h) h t)).words i 0 ≡ get_or (search (k h) h t).words i 0)
          → (get_or (search (k h) h t).words i 0 ≡ h) ⊎ (get_or (search (k h) h t).words i 0 ≡ get_or t.words i 0)
          → ((j : ℕ) × (j < suc (length l)) × (get_or (h ∷ l) j 0 ≡ get_or (searches k l (search (k h) h t)).words i 0)) ⊎ (get_or (searches k l (search (k h) h t)).words i 0 ≡ get_or t.words i 0)
      go (inl (j, g, e)) b = inl (suc j, omega arith, e)
      go (inr e) (inl b) = inl (0, omega arith, sym b ∙ sym e)
      go (inr e) (inr b) = inr (e ∙ b)

  all_looked : (l : List ℕ) (t : Buckets) → Nodes n l → Kept k n t.words → (searches k l t).looked ≤ t.looked + length l * length t.words
  unfolding searches search
  all_looked [] t v s = omega arith
  all_looked (h ∷ l) t v s =
      let u = search (k h) h t in
      let e : length l * length u.words ≡ length l * length t.words = ap (λ (m : ℕ). length l * m) (length-set t.words _ h) in
      omega (arith, all_looked l u (rest h l v) (first h l t v s).kept, e, search_inside k n t.words s (k h) h, suc-mul (length l) (length t.words))

-- ---- from an empty table

no_word : (m i : ℕ) → get_or (empty m).words i 0 ≡ 0
no_word m i = go (less i m)
  where
    go : (i < m) ⊎ (m ≤ i) → get_or (empty m).words i 0 ≡ 0
    go (inl l) = get_or-replicate m i 0 0 l
    go (inr l) = get_or-eq_default (empty m).words 0 (omega (arith, words_of m))

none_kept : (k : ℕ → ℕ) (n m : ℕ) → 0 < n → n ≤ m → Kept k n (empty m).words
none_kept k n m z l = record {
  some = z;
  room = omega (arith, words_of m);
  below = λ i. omega (arith, no_word m i);
  once = λ i j a b e f. absurd (f (no_word m i));
  found = λ i a f. absurd (f (no_word m i));
}

-- the table after a search for each node of l
pub record Probed (k : ℕ → ℕ) (m : ℕ) (l : List ℕ) : Type 0 where
  -- a word that is not zero is a node of l
  pub listed : (i : ℕ) → (bucket (searches k l (empty m)).words i ≡ 0 → ⊥) → (j : ℕ) × (j < length l) × (get_or l j 0 ≡ bucket (searches k l (empty m)).words i)
  -- each node of l is come to from its hash
  pub reaches : (j : ℕ) → j < length l → Reaches (searches k l (empty m)).words (k (get_or l j 0)) (get_or l j 0)
  -- wherever one starts, some word is zero
  pub never_full : (i : ℕ) → ((q : ℕ) → q < m → bucket (searches k l (empty m)).words (i + q) ≡ 0 → ⊥) → ⊥

module _ (k : ℕ → ℕ) (n m : ℕ) (l : List ℕ) (room : n ≤ m) (some : 0 < n) (below : (i : ℕ) → i < length l → get_or l i 0 < n) (no_zero : (i : ℕ) → i < length l → get_or l i 0 ≡ 0 → ⊥) where
  nodes : Nodes n l
  nodes i g = (below i g, no_zero i g)

  abbrev after : List ℕ
  after = (searches k l (empty m)).words

  after_kept : Kept k n after
  after_kept = all_kept k n l (empty m) nodes (none_kept k n m some room)

  after_size : length after ≡ m
  after_size = words_length k l (empty m) ∙ words_of m

  pub probed : Probed k m l
  unfolding bucket
  probed = record {
    listed = λ i f. node i f (all_from k n l (empty m) nodes (none_kept k n m some room) (i % length after));
    reaches = all_reached k n l (empty m) nodes (none_kept k n m some room);
    never_full = λ i f. not_full k n after after_kept i (λ q g. f q (omega (arith, after_size, g)));
  }
    where
      node : (i : ℕ) → (bucket after i ≡ 0 → ⊥) → ((j : ℕ) × (j < length l) × (get_or l j 0 ≡ bucket after i)) ⊎ (bucket after i ≡ get_or (empty m).words (i % length after) 0) → (j : ℕ) × (j < length l) × (get_or l j 0 ≡ bucket after i)
      node i f (inl a) = a
      node i f (inr e) = absurd (f (e ∙ no_word m (i % length after)))

  -- no search looks at all words and one more
  pub looked_most : (searches k l (empty m)).looked ≤ length l * m
  looked_most =
      let e : length l * length (empty m).words ≡ length l * m = ap (λ (i : ℕ). length l * i) (words_of m) in
      omega (arith, e, all_looked k n l (empty m) nodes (none_kept k n m some room))

  -- each of the searches ends before it has passed all words, at its node or a zero word
  pub ends_there : (a b : List ℕ) (h : ℕ) → l ≡ a ++ (h ∷ b) → (distance (searches k a (empty m)).words (k h) h < m) × Ends (searches k a (empty m)).words (k h) h (distance (searches k a (empty m)).words (k h) h)
  ends_there a b h e = (omega (arith, z, d), distance_ends ws (k h) h d)
    where
      ws : List ℕ
      ws = (searches k a (empty m)).words

      part : Nodes n a
      part i g =
          let c : i < length l = omega (arith, ap length e, length-append a (h ∷ b)) in
          let q : get_or l i 0 ≡ get_or a i 0 = ap (λ (v : List ℕ). get_or v i 0) e ∙ get_or-append a (h ∷ b) 0 i g in
          (subst (λ (v : ℕ). v < n) q (below i c), λ y. no_zero i c (q ∙ y))

      z : length ws ≡ m
      z = words_length k a (empty m) ∙ words_of m

      d : distance ws (k h) h < length ws
      d = search_inside k n ws (all_kept k n a (empty m) part (none_kept k n m some room)) (k h) h
