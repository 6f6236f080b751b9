-- Which texts read as numbers: exactly the spellings of proper decimals, each of one.
use Rattle.std.specs.Prelude.{ℕ, ◌+◌, ◌≤◌, ◌≡◌, refl, Bool, true, false, ◌&&◌, List, [], ◌∷◌, ◌++◌, leb, eqb, length, drop}
use Rattle.std.proofs.Common.{arith, sym, ap, ◌∙◌, subst, append-nil, leb-true, eqb-true, le-leb, ne_eqb}
use Rattle.std.proofs.Math.Option.{Option, none, some}
use Rattle.std.proofs.Math.Seq.{drop-append_seam}
use Rattle.definition.specs.Run.{pick}
use Rattle.definition.specs.Weight.{is_digit, digits, after_digits, Decimal, fraction_of, decimal_if, unsigned, decimal}
use Rattle.lists.specs.Joined.{and_left, and_right}
use Rattle.lists.specs.Lists.{apart}

-- ---- the grammar: [minus] digits [point digits]

-- digits only
pub data Digits : List ℕ → Type 0 where
  last : Digits []
  digit : {b : ℕ} {bs : List ℕ} → is_digit b ≡ true → Digits bs → Digits (b ∷ bs)

-- a point and what is after it; nothing without a fraction
unfoldable pub spelled_fraction : List ℕ → List ℕ
spelled_fraction [] = []
spelled_fraction (b ∷ bs) = 0x2E ∷ b ∷ bs

-- a minus, if there is one, and what follows
unfoldable pub spelled_sign : Bool → List ℕ → List ℕ
spelled_sign true text = 0x2D ∷ text
spelled_sign false text = text

unfoldable pub spelled : Decimal → List ℕ
spelled d = spelled_sign d.minus (d.whole ++ spelled_fraction d.fraction)

-- 1 to 15 digits, one before a point
pub record Proper (d : Decimal) : Type 0 where
  pub whole_digits : Digits d.whole
  pub fraction_digits : Digits d.fraction
  pub some_whole : 1 ≤ length d.whole
  pub few : length d.whole + length d.fraction ≤ 15

-- ---- the digits that a text begins with

digits_split : (text : List ℕ) → digits text ++ after_digits text ≡ text
unfolding digits after_digits pick
digits_split [] = refl
digits_split (b ∷ bs) = go (is_digit b) (digits_split bs)
  where
    go : (t : Bool) → digits bs ++ drop (length (digits bs)) bs ≡ bs → pick t (b ∷ digits bs) [] ++ drop (length (pick t (b ∷ digits bs) [])) (b ∷ bs) ≡ b ∷ bs
    go true h = ap (λ (l : List ℕ). b ∷ l) h
    go false h = refl

digits_are : (text : List ℕ) → Digits (digits text)
unfolding digits pick
digits_are [] = last
digits_are (b ∷ bs) = go (is_digit b) refl (digits_are bs)
  where
    go : (t : Bool) → is_digit b ≡ t → Digits (digits bs) → Digits (pick t (b ∷ digits bs) [])
    go true e h = digit e h
    go false e h = last

-- digits before what begins with none
digits_before : (ds rest : List ℕ) → Digits ds → digits rest ≡ [] → digits (ds ++ rest) ≡ ds
unfolding digits pick
digits_before ds rest last e = e
digits_before ds rest (digit {b = b} {bs = bs} t h) e = ap (λ (x : Bool). pick x (b ∷ digits (bs ++ rest)) []) t ∙ ap (λ (l : List ℕ). b ∷ l) (digits_before bs rest h e)

after_before : (ds rest : List ℕ) → Digits ds → digits rest ≡ [] → after_digits (ds ++ rest) ≡ rest
unfolding after_digits
after_before ds rest h e = ap (λ (l : List ℕ). drop (length l) (ds ++ rest)) (digits_before ds rest h e) ∙ drop-append_seam ds rest

none_left : (l : List ℕ) → length l ≡ 0 → l ≡ []
none_left [] e = refl
none_left (b ∷ bs) e = apart (omega arith)

-- ---- a text that reads as a number is its decimal's spelling

-- the fraction
fraction_sound : (text part : List ℕ) → fraction_of text ≡ some part → (text ≡ spelled_fraction part) × Digits part
unfolding fraction_of pick spelled_fraction
fraction_sound [] part e = (subst (λ (p : List ℕ). [] ≡ spelled_fraction p) (nothing e) refl, subst Digits (nothing e) last)
  where
    nothing : {p : List ℕ} → ◌≡◌ {A = Option (List ℕ)} (some []) (some p) → [] ≡ p
    nothing e = cc
fraction_sound (b ∷ bs) part e = go (eqb b 0x2E && leb 1 (length (digits bs)) && eqb (length (after_digits bs)) 0) refl e
  where
    -- digits, at least one, and nothing after them
    point : (ds : List ℕ) → 1 ≤ length ds → b ≡ 0x2E → bs ≡ ds → b ∷ bs ≡ spelled_fraction ds
    point [] l e h = absurd (omega arith)
    point (d ∷ ds) l e h = cc

    go : (t : Bool) → (eqb b 0x2E && leb 1 (length (digits bs)) && eqb (length (after_digits bs)) 0) ≡ t → pick t (some (digits bs)) none ≡ some part → (b ∷ bs ≡ spelled_fraction part) × Digits part
    go false h e = apart (cc)
    go true h e =
        let h₁ = and_left (eqb b 0x2E && leb 1 (length (digits bs))) (eqb (length (after_digits bs)) 0) h in
        let h₂ = and_right (eqb b 0x2E && leb 1 (length (digits bs))) (eqb (length (after_digits bs)) 0) h in
        let is : digits bs ≡ part = cc in
        let whole : bs ≡ digits bs = sym (digits_split bs) ∙ ap (λ (l : List ℕ). digits bs ++ l) (none_left (after_digits bs) (eqb-true (length (after_digits bs)) 0 h₂)) ∙ append-nil (digits bs) in
        (point (digits bs) (leb-true 1 (length (digits bs)) (and_right (eqb b 0x2E) (leb 1 (length (digits bs))) h₁)) (eqb-true b 0x2E (and_left (eqb b 0x2E) (leb 1 (length (digits bs))) h₁)) whole ∙ ap spelled_fraction is, subst Digits is (digits_are bs))

unsigned_sound : (minus : Bool) (text : List ℕ) (d : Decimal) → unsigned minus text ≡ some d → (d.minus ≡ minus) × (text ≡ d.whole ++ spelled_fraction d.fraction) × Proper d
unfolding unsigned decimal_if pick
unsigned_sound minus text d e = go (fraction_of (after_digits text)) refl e
  where
    at : (part : List ℕ) (t : Bool) → (leb 1 (length (digits text)) && leb (length (digits text) + length part) 15) ≡ t → (after_digits text ≡ spelled_fraction part) × Digits part
        → pick t (some (record { minus = minus; whole = digits text; fraction = part })) none ≡ some d → (d.minus ≡ minus) × (text ≡ d.whole ++ spelled_fraction d.fraction) × Proper d
    at part false h s e = apart (cc)
    at part true h s e =
        let is : record { minus = minus; whole = digits text; fraction = part } ≡ d = cc in
        subst (λ (x : Decimal). (x.minus ≡ minus) × (text ≡ x.whole ++ spelled_fraction x.fraction) × Proper x) is (
          refl,
          sym (digits_split text) ∙ ap (λ (l : List ℕ). digits text ++ l) s.0,
          record {
            whole_digits = digits_are text;
            fraction_digits = s.1;
            some_whole = leb-true 1 (length (digits text)) (and_left (leb 1 (length (digits text))) (leb (length (digits text) + length part) 15) h);
            few = leb-true (length (digits text) + length part) 15 (and_right (leb 1 (length (digits text))) (leb (length (digits text) + length part) 15) h);
          },
        )

    go : (o : Option (List ℕ)) → fraction_of (after_digits text) ≡ o → decimal_if minus (digits text) o ≡ some d → (d.minus ≡ minus) × (text ≡ d.whole ++ spelled_fraction d.fraction) × Proper d
    go none h e = apart (cc)
    go (some part) h e = at part (leb 1 (length (digits text)) && leb (length (digits text) + length part) 15) refl (fraction_sound (after_digits text) part h) e

pub decimal_sound : (text : List ℕ) (d : Decimal) → decimal text ≡ some d → (text ≡ spelled d) × Proper d
unfolding decimal pick spelled spelled_sign
decimal_sound [] d e = apart (cc)
decimal_sound (b ∷ bs) d e = go (eqb b 0x2D) refl e
  where
    go : (t : Bool) → eqb b 0x2D ≡ t → pick t (unsigned true bs) (unsigned false (b ∷ bs)) ≡ some d → (b ∷ bs ≡ spelled d) × Proper d
    go true h e =
        let s = unsigned_sound true bs d e in
        ((λ i. eqb-true b 0x2D h i ∷ s.1 i) ∙ ap (λ (m : Bool). spelled_sign m (d.whole ++ spelled_fraction d.fraction)) (sym s.0), s.2)
    go false h e =
        let s = unsigned_sound false (b ∷ bs) d e in
        (s.1 ∙ ap (λ (m : Bool). spelled_sign m (d.whole ++ spelled_fraction d.fraction)) (sym s.0), s.2)

-- ---- and the other way

nothing : digits [] ≡ []
unfolding digits
nothing = refl

fraction_complete : (part : List ℕ) → Digits part → fraction_of (spelled_fraction part) ≡ some part
unfolding fraction_of spelled_fraction pick
fraction_complete [] h = refl
fraction_complete (b ∷ bs) h =
    let ds : digits (b ∷ bs) ≡ b ∷ bs = ap digits (sym (append-nil (b ∷ bs))) ∙ digits_before (b ∷ bs) [] h nothing in
    let rest : after_digits (b ∷ bs) ≡ [] = ap after_digits (sym (append-nil (b ∷ bs))) ∙ after_before (b ∷ bs) [] h nothing in
    ap (λ (l : List ℕ). pick (leb 1 (length l) && eqb (length (after_digits (b ∷ bs))) 0) (some l) none) ds
    ∙ ap (λ (l : List ℕ). pick (leb 1 (length (b ∷ bs)) && eqb (length l) 0) (some (b ∷ bs)) none) rest
    ∙ ap (λ (t : Bool). pick (t && true) (some (b ∷ bs)) none) (le-leb 1 (length (b ∷ bs)) (omega arith))

-- a fraction doesn't begin with a digit
point_first : (part : List ℕ) → digits (spelled_fraction part) ≡ []
unfolding digits spelled_fraction pick is_digit
point_first [] = refl
point_first (b ∷ bs) = refl

unsigned_complete : (d : Decimal) → Proper d → unsigned d.minus (d.whole ++ spelled_fraction d.fraction) ≡ some d
unfolding unsigned decimal_if pick
unsigned_complete d p =
    let rest = spelled_fraction d.fraction in
    ap (λ (l : List ℕ). decimal_if d.minus l (fraction_of (after_digits (d.whole ++ rest)))) (digits_before d.whole rest p.whole_digits (point_first d.fraction))
    ∙ ap (λ (l : List ℕ). decimal_if d.minus d.whole (fraction_of l)) (after_before d.whole rest p.whole_digits (point_first d.fraction))
    ∙ ap (decimal_if d.minus d.whole) (fraction_complete d.fraction p.fraction_digits)
    ∙ ap (λ (t : Bool). pick (t && leb (length d.whole + length d.fraction) 15) (some d) none) (le-leb 1 (length d.whole) p.some_whole)
    ∙ ap (λ (t : Bool). pick t (some d) none) (le-leb (length d.whole + length d.fraction) 15 p.few)

-- a digit is no minus
not_minus : (b : ℕ) → is_digit b ≡ true → eqb b 0x2D ≡ false
unfolding is_digit
not_minus b h = ne_eqb b 0x2D (λ e. omega (arith, e, leb-true 0x30 b (and_left (leb 0x30 b) (leb b 0x39) h)))

without_minus : (ws rest : List ℕ) (d : Decimal) → Digits ws → 1 ≤ length ws → unsigned false (ws ++ rest) ≡ some d → decimal (ws ++ rest) ≡ some d
unfolding decimal pick
without_minus ws rest d last l e = absurd (omega arith)
without_minus ws rest d (digit {b = b} {bs = bs} t h) l e = ap (λ (x : Bool). pick x (unsigned true (bs ++ rest)) (unsigned false (b ∷ bs ++ rest))) (not_minus b t) ∙ e

pub decimal_complete : (d : Decimal) → Proper d → decimal (spelled d) ≡ some d
unfolding spelled spelled_sign decimal pick
decimal_complete d p = go d.minus (unsigned_complete d p)
  where
    go : (m : Bool) → unsigned m (d.whole ++ spelled_fraction d.fraction) ≡ some d → decimal (spelled_sign m (d.whole ++ spelled_fraction d.fraction)) ≡ some d
    go true e = e
    go false e = without_minus d.whole (spelled_fraction d.fraction) d p.whole_digits p.some_whole e
