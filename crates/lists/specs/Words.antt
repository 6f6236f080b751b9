-- Words that are compared, a word's low bytes, and a row's eight words.
use Rattle.std.specs.Prelude.{ℕ, zero, suc, ◌+◌, ◌*◌, ◌/◌, ◌%◌, ◌^◌, ◌≤◌, ◌<◌, ◌≡◌, refl, true, false, List, [], ◌∷◌, ◌++◌, eqb, length}
use Rattle.std.proofs.Common.{ap, sym as psym, ◌∙◌, length-append, arith, zero-add, suc-add, pow-suc, mul_assoc, eqb-true, eq-eqb}
use Rattle.definition.specs.Run.{pick}
use Rattle.definition.specs.Integer.{little, low_bytes}
use Rattle.definition.specs.Node.{Row, nil, bool, fixnum, symbol, array, hash, object, string, user, float, bignum, absent, present, words, flat, equal, width}
use Rattle.lists.specs.Lists.{apart, Below}
use Rattle.lists.specs.Joined.{pick_true}

-- ---- the test of equal words

pub equal_true : (l m : List ℕ) → equal l m ≡ true → l ≡ m
unfolding equal pick
equal_true [] [] e = refl
equal_true [] (b ∷ m) e = apart (cc)
equal_true (a ∷ l) [] e = apart (cc)
equal_true (a ∷ l) (b ∷ m) e = let (p, q) = pick_true (eqb a b) (equal l m) e in rw (eqb-true a b p, equal_true l m q)

pub equal_self : (l : List ℕ) → equal l l ≡ true
unfolding equal pick
equal_self [] = refl
equal_self (a ∷ l) = rw (eq-eqb a a refl) (equal_self l)

-- ---- low bytes

pub length_low : (n w : ℕ) → length (low_bytes n w) ≡ n
unfolding low_bytes
length_low zero w = refl
length_low (suc n) w = ap suc (length_low n (w / 256))

-- what is above the lowest n bytes
abbrev pub above : ℕ → ℕ → ℕ
above zero w = w
above (suc n) w = above n (w / 256)

-- a word's low bytes, and what is above them, say it
pub little_low : (n w : ℕ) → little (low_bytes n w) (above n w) ≡ w
unfolding little low_bytes
little_low zero w = refl
little_low (suc n) w = omega (arith, little_low n (w / 256))

-- the low bytes in two parts
pub low_append : (n k w : ℕ) → low_bytes (n + k) w ≡ low_bytes n w ++ low_bytes k (above n w)
unfolding low_bytes
low_append zero k w = ap (λ (n : ℕ). low_bytes n w) (zero-add k)
low_append (suc n) k w = ap (λ (m : ℕ). low_bytes m w) (suc-add n k) ∙ ap (λ (l : List ℕ). (w % 256) ∷ l) (low_append n k (w / 256))

-- bytes are the low bytes of what they say
pub low_little : (bs : List ℕ) (over : ℕ) → Below 256 bs → low_bytes (length bs) (little bs over) ≡ bs
unfolding little low_bytes
low_little [] over h = refl
low_little (b ∷ bs) over h =
    let l = h 0 b refl in
    let first : (little bs over * 256 + b) % 256 ≡ b = omega arith in
    let rest : (little bs over * 256 + b) / 256 ≡ little bs over = omega arith in
    rw (first, rest) (ap (λ (l : List ℕ). b ∷ l) (low_little bs over (λ k v a. h (suc k) v a)))

-- n bytes over the bits above stay below (above + 1) · 256ⁿ
pub little_below : (bs : List ℕ) (over : ℕ) → Below 256 bs → little bs over < (over + 1) * 256 ^ length bs
unfolding little
little_below [] over h = omega arith
little_below (b ∷ bs) over h =
    let ih = little_below bs over (λ k v a. h (suc k) v a) in
    let z : (over + 1) * 256 ^ suc (length bs) ≡ (over + 1) * 256 ^ length bs * 256 = ap (λ (n : ℕ). (over + 1) * n) (pow-suc 256 (length bs)) ∙ psym (mul_assoc (over + 1) (256 ^ length bs) 256) in
    rw z (omega (arith, ih, h 0 b refl))

-- and reach at least above · 256ⁿ
pub little_above : (bs : List ℕ) (over : ℕ) → over * 256 ^ length bs ≤ little bs over
unfolding little
little_above [] over = omega arith
little_above (b ∷ bs) over =
    let z : over * 256 ^ suc (length bs) ≡ over * 256 ^ length bs * 256 = ap (λ (n : ℕ). over * n) (pow-suc 256 (length bs)) ∙ psym (mul_assoc over (256 ^ length bs) 256) in
    rw z (omega (arith, little_above bs over))

-- some bytes, and then others above them
pub little_append : (bs cs : List ℕ) (over : ℕ) → little (bs ++ cs) over ≡ little bs (little cs over)
unfolding little
little_append [] cs over = refl
little_append (b ∷ bs) cs over = ap (λ (m : ℕ). m * 256 + b) (little_append bs cs over)

-- ---- a row's words

pub length_words : (r : Row) → length (words r) ≡ width
unfolding words
length_words nil = refl
length_words (bool true) = refl
length_words (bool false) = refl
length_words (fixnum w) = refl
length_words (symbol s l) = refl
length_words (array s n w) = refl
length_words (hash s n d w) = refl
length_words (object s n c) = refl
length_words (string s l absent w) = refl
length_words (string s l (present p n) w) = refl
length_words (user s l c absent) = refl
length_words (user s l c (present p n)) = refl
length_words (float s l) = refl
length_words (bignum low high true) = refl
length_words (bignum low high false) = refl

pub length_flat : (rs : List Row) → length (flat rs) ≡ length rs * width
unfolding flat
length_flat [] = refl
length_flat (r ∷ rs) = omega (arith, length-append (words r) (flat rs), length_words r, length_flat rs)
