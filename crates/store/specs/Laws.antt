-- A part of a table written over, and zeros.
use Rattle.std.specs.Prelude.{ℕ, suc, ◌+◌, ◌-◌, ◌≤◌, ◌<◌, ◌≡◌, ◌↔◌, Bool, true, false, List, [], ◌∷◌, ◌++◌, length, take, drop, set, get_or, replicate}
use Rattle.std.proofs.Common.{arith, add-one, add-zero, refl, sym, ap, ◌∙◌, append_assoc, append-nil, length-take, length-drop, drop_of_length-le, take-suc}
use Rattle.std.proofs.Math.Nat.{sub-zero}
use Rattle.std.proofs.Math.Seq.{take-length}
use Rattle.std.proofs.lemmas.List.{length-replicate, replicate-append-replicate, replicate_more, at_drop_more, set_at}
use Rattle.std.proofs.lemmas.List.Edits.{sets, sets-eq}
use Rattle.std.proofs.lemmas.Slice.{put_mid-paste}
use Rattle.definition.specs.Node.{equal}
use Rattle.lists.specs.Words.{equal_true, equal_self}
use borrow.Rule.Slice.PartMut.{put_mid}

sets_snoc : {X : Type 0} (xs l : List X) (i : ℕ) (v : X) → set (sets l i xs) (i + length xs) v ≡ sets l i (xs ++ (v ∷ []))
sets_snoc [] l i v = rw add-zero
sets_snoc (x ∷ xs) l i v =
    let e : i + suc (length xs) ≡ suc i + length xs = omega arith in
    rw e (sets_snoc xs (set l i x) (suc i) v)

-- one more place of a copy
pub copied : {X : Type 0} (l l' s : List X) (to i : ℕ) (d : X) → i < length s → l' ≡ sets l to (take i s) → set l' (to + i) (get_or s i d) ≡ sets l to (take (i + 1) s)
copied l l' s to i d h e =
    let k : i ≡ length (take i s) = simp length-take (omega arith) in
    let more : take (i + 1) s ≡ take i s ++ (get_or s i d ∷ []) = rw add-one (take-suc s i d h) in
    ap (λ xs. set xs (to + i) (get_or s i d)) e
    ∙ ap (λ j. set (sets l to (take i s)) (to + j) (get_or s i d)) k
    ∙ sets_snoc (take i s) l to (get_or s i d)
    ∙ ap (sets l to) (sym more)

-- a part written over whole
pub put_over : {X : Type 0} (a k : ℕ) (xs ys : List X) → a + length ys ≤ length xs → k ≡ length ys → put_mid a k xs ys ≡ sets xs a ys
put_over a k xs ys h e =
    put_mid-paste a k xs ys ys (length ys) refl (sym e) refl
    ∙ ap (λ zs. take a xs ++ zs ++ drop (a + length ys) xs) (take-length ys)
    ∙ sym (sets-eq ys xs a h)

-- one more place of a fill
pub filled_more : {X : Type 0} (xs : List X) (i : ℕ) (v : X) → i < length xs → set (replicate i v ++ drop i xs) i v ≡ replicate (i + 1) v ++ drop (i + 1) xs
filled_more xs i v h =
    at_drop_more (λ zs. set (replicate i v ++ zs) i v) xs i v h
    ∙ set_at (replicate i v) _ _ v i (length-replicate i v)
    ∙ sym (append_assoc (replicate i v) (v ∷ []) (drop (i + 1) xs))
    ∙ ap (λ zs. zs ++ drop (i + 1) xs) (replicate_more i v)

-- a part filled whole
pub filled_over : {X : Type 0} (a k n i : ℕ) (xs ys : List X) (v : X) → a + n ≤ length xs → k ≡ n → length (take k (drop a xs)) ≤ i → i ≤ length (take k (drop a xs)) → ys ≡ replicate i v ++ drop i (take k (drop a xs)) → put_mid a k xs ys ≡ sets xs a (replicate n v)
filled_over {X} a k n i xs ys v h e g j f =
    let long : length (take k (drop a xs)) ≡ n = simp (length-take, length-drop) (omega arith) in
    let whole : i ≡ n = omega arith in
    let rest : drop i (take k (drop a xs)) ≡ [] = drop_of_length-le (take k (drop a xs)) (omega arith) in
    let all : ys ≡ replicate n v = f ∙ ap (λ zs. replicate i v ++ zs) rest ∙ append-nil _ ∙ ap (λ m. replicate m v) whole in
    let size : length ys ≡ n = ap length all ∙ length-replicate n v in
    put_over a k xs ys (omega arith) (omega arith) ∙ ap (sets xs a) all

-- a test that says whether two lists are one
pub says_equal : (X Y : List ℕ) (t : Bool) → (t ≡ true) ↔ (X ≡ Y) → t ≡ equal X Y
says_equal X Y t same = go t (equal X Y) refl refl where
  go : (s e : Bool) → t ≡ s → equal X Y ≡ e → s ≡ e
  go true true p q = refl
  go false false p q = refl
  go true false p q = sym (equal_self X) ∙ ap (equal X) (same.0 p) ∙ q
  go false true p q = sym p ∙ same.1 (equal_true X Y q)

-- two parts of n are as long
pub parts_long : (X Y : List ℕ) (s t m k n : ℕ) → m ≡ n → k ≡ n → s + n ≤ length X → t + n ≤ length Y → length (take m (drop s X)) ≡ length (take k (drop t Y))
parts_long X Y s t m k n e f p q = simp (length-take, length-drop) (omega arith)

-- the same of two parts of n
pub says_same : (X Y : List ℕ) (s t n : ℕ) {m k : ℕ} {r : Bool} → m ≡ n → k ≡ n → (r ≡ true) ↔ (take m (drop s X) ≡ take k (drop t Y)) → r ≡ equal (take n (drop s X)) (take n (drop t Y))
says_same X Y s t n e f same = says_equal _ _ _ same ∙ (λ j. equal (take (e j) (drop s X)) (take (f j) (drop t Y)))

-- ---- zeros

-- the list with zeros from the place given on
abbrev pub cleared : ℕ → List ℕ → List ℕ
cleared from l = sets l from (replicate (length l - from) 0)

-- one more zero
pub zeroed_more : (l l' : List ℕ) (from i : ℕ) → l' ≡ sets l from (replicate i 0) → set l' (from + i) 0 ≡ sets l from (replicate (i + 1) 0)
zeroed_more l l' from i e =
    ap (λ (x : List ℕ). set x (from + i) 0) e
    ∙ ap (λ (j : ℕ). set (sets l from (replicate i 0)) (from + j) 0) (sym (length-replicate i 0))
    ∙ sets_snoc (replicate i 0) l from 0
    ∙ ap (λ (x : List ℕ). sets l from x) (replicate-append-replicate i 1 0)

pub zeroed_all : (l l' : List ℕ) (from n i : ℕ) → n ≤ i → i ≤ n → l' ≡ sets l from (replicate i 0) → l' ≡ sets l from (replicate n 0)
zeroed_all l l' from n i h k e =
    let z : i ≡ n = omega arith in
    e ∙ ap (λ (j : ℕ). sets l from (replicate j 0)) z

-- what stood before the zeros
pub cleared_after : (from : ℕ) (l : List ℕ) → from ≤ length l → cleared from l ≡ take from l ++ replicate (length l - from) 0
cleared_after from l h =
    let z = length-replicate {A = ℕ} (length l - from) 0 in
    let e : length l ≤ from + length (replicate {A = ℕ} (length l - from) 0) = omega (arith, z) in
    sets-eq (replicate (length l - from) 0) l from (omega (arith, z))
    ∙ ap (λ (x : List ℕ). take from l ++ replicate (length l - from) 0 ++ x) (drop_of_length-le l e)
    ∙ append-nil (take from l ++ replicate (length l - from) 0)

-- nothing but zeros
pub cleared_whole : (l : List ℕ) → cleared 0 l ≡ replicate (length l) 0
cleared_whole l = cleared_after 0 l (omega arith) ∙ ap (λ (n : ℕ). replicate n 0) (sub-zero (length l))
