-- The cost depends only on the amount that each name finally has, in the recipe and in the prices.
use Rattle.std.specs.Prelude.{ℕ, ◌+◌, ◌≡◌, Bool}
use Rattle.std.proofs.Common.{arith, ap, ◌∙◌}
use Rattle.std.proofs.Math.Path.{refl, sym, subst}
use Rattle.std.proofs.Math.Bool.{true, false}
use mathlib.Core.List.{List, [], ◌∷◌}
use Rattle.std.proofs.Math.Option.{none, some}
use Rattle.definition.specs.Run.{Outcome, ok, refused, pick}
use Rattle.definition.specs.Node.{equal}
use Rattle.definition.specs.Build.{Lent, held}
use Rattle.definition.specs.Cost.{Line, pairs, has_name, surviving, price, sum, batch_cost, cost_done}
use Rattle.lists.specs.Lists.{apart}
use Rattle.lists.specs.Runs.{no_ok}
use Rattle.lists.specs.Words.{equal_true, equal_self}
use Rattle.cost_laws.specs.Sums.{paid, worth, Has, Priced, sum_told, sum_accepts}
use Rattle.cost_laws.specs.Calls.{Judged, call_told, call_is}
use Rattle.lists.specs.Latest.{absent, price_latest}
use Rattle.cost_laws.specs.Finds.{Finds, finds_back}

-- ---- names that differ

-- no two pairs have the same name
abbrev Single : List Line → Type 0
Single [] = Unit {0}
Single (l ∷ ls) = (price l.name ls ≡ none) × Single ls

surviving_single : (ls : List Line) → Single (surviving ls)
unfolding surviving pick
surviving_single [] = tt
surviving_single (l ∷ ls) = go (has_name l.name ls) refl (surviving_single ls)
  where
    go : (b : Bool) → has_name l.name ls ≡ b → Single (surviving ls) → Single (pick b (surviving ls) (l ∷ surviving ls))
    go true h s = s
    go false h s = (price_latest l.name ls ∙ absent l.name ls h, s)

-- ---- one pair, and those with other names

-- a pair gives its amount under its own name, and nothing under another
price_own : (l : Line) (ls : List Line) → price l.name (l ∷ ls) ≡ some l.amount
unfolding price pick
price_own l ls = rw (equal_self l.name) refl

price_other : (m : List ℕ) (l : Line) (ls : List Line) → equal m l.name ≡ false → price m (l ∷ ls) ≡ price m ls
unfolding price pick
price_other m l ls e = rw e refl

-- the pairs with other names
unfoldable without : List ℕ → List Line → List Line
without name [] = []
without name (l ∷ ls) = pick (equal name l.name) (without name ls) (l ∷ without name ls)

-- under the name they give nothing, under another what all give
without_own : (name : List ℕ) (ls : List Line) → price name (without name ls) ≡ none
unfolding price without pick
without_own name [] = refl
without_own name (l ∷ ls) = go (equal name l.name) refl (without_own name ls)
  where
    go : (b : Bool) → equal name l.name ≡ b → price name (without name ls) ≡ none → price name (pick b (without name ls) (l ∷ without name ls)) ≡ none
    go true e ih = ih
    go false e ih = price_other name l (without name ls) e ∙ ih

without_other : (name m : List ℕ) (ls : List Line) → equal m name ≡ false → price m (without name ls) ≡ price m ls
unfolding price without pick
without_other name m [] h = refl
without_other name m (l ∷ ls) h = go (equal name l.name) refl (without_other name m ls h)
  where
    go : (b : Bool) → equal name l.name ≡ b → price m (without name ls) ≡ price m ls → price m (pick b (without name ls) (l ∷ without name ls)) ≡ price m (l ∷ ls)
    go true e ih = ih ∙ sym (price_other m l ls (ap (equal m) (sym (equal_true name l.name e)) ∙ h))
    go false e ih = ap (pick (equal m l.name) (some l.amount)) ih

without_none : (name m : List ℕ) (ls : List Line) → price m ls ≡ none → price m (without name ls) ≡ none
without_none name m ls h = go (equal m name) refl
  where
    go : (b : Bool) → equal m name ≡ b → price m (without name ls) ≡ none
    go true e = subst (λ (n : List ℕ). price m (without n ls) ≡ none) (equal_true m name e) (without_own m ls)
    go false e = without_other name m ls e ∙ h

without_single : (name : List ℕ) (ls : List Line) → Single ls → Single (without name ls)
unfolding without pick
without_single name [] s = tt
without_single name (l ∷ ls) s = go (equal name l.name) (without_single name ls s.1)
  where
    go : (b : Bool) → Single (without name ls) → Single (pick b (without name ls) (l ∷ without name ls))
    go true ih = ih
    go false ih = (without_none name l.name ls s.0, ih)

-- a name that no pair has
without_absent : (name : List ℕ) (ls : List Line) → price name ls ≡ none → without name ls ≡ ls
unfolding price without pick
without_absent name [] h = refl
without_absent name (l ∷ ls) h = go (equal name l.name) h (without_absent name ls)
  where
    go : (b : Bool) → pick b (some l.amount) (price name ls) ≡ none → (price name ls ≡ none → without name ls ≡ ls) → pick b (without name ls) (l ∷ without name ls) ≡ l ∷ ls
    go true h ih = apart (cc)
    go false h ih = ap (λ (k : List Line). l ∷ k) (ih h)

-- ---- what single pairs cost

module _ (prices : List Line) where
  -- a name's pair may be counted first
  worth_first : (name : List ℕ) (a : ℕ) (ls : List Line) → Single ls → price name ls ≡ some a → worth prices ls ≡ paid (price name prices) a + worth prices (without name ls)
  unfolding price without pick
  worth_first name a [] s h = apart (cc)
  worth_first name a (l ∷ ls) s h = go (equal name l.name) refl h (worth_first name a ls s.1)
    where
      go : (b : Bool) → equal name l.name ≡ b → pick b (some l.amount) (price name ls) ≡ some a
          → (price name ls ≡ some a → worth prices ls ≡ paid (price name prices) a + worth prices (without name ls))
          → paid (price l.name prices) l.amount + worth prices ls ≡ paid (price name prices) a + worth prices (pick b (without name ls) (l ∷ without name ls))
      go true e h ih =
          let n : l.name ≡ name = sym (equal_true name l.name e) in
          let k : l.amount ≡ a = cc in
          let none_left : without name ls ≡ ls = without_absent name ls (ap (λ (m : List ℕ). price m ls) (sym n) ∙ s.0) in
          rw (n, k, none_left) refl
      go false e h ih = omega (arith, ih h)

  -- so only what each name gives counts
  same_worth : (as' bs : List Line) → Single as' → Single bs → ((name : List ℕ) → price name as' ≡ price name bs) → worth prices as' ≡ worth prices bs
  unfolding price
  same_worth [] [] s r h = refl
  same_worth [] (b ∷ bs) s r h = let e : none ≡ some b.amount = h b.name ∙ price_own b bs in apart (cc)
  same_worth (a ∷ as') bs s r h =
      let f = worth_first a.name a.amount bs r (sym (h a.name) ∙ price_own a as') in
      let ih = same_worth as' (without a.name bs) s.1 (without_single a.name bs r) (λ m. rest m (equal m a.name) refl) in
      omega (arith, f, ih)
    where
      rest : (m : List ℕ) (b : Bool) → equal m a.name ≡ b → price m as' ≡ price m (without a.name bs)
      rest m true e =
          subst (λ (n : List ℕ). price n as' ≡ price n (without a.name bs)) (sym (equal_true m a.name e)) (s.0 ∙ sym (without_own a.name bs))
      rest m false e = sym (price_other m a as' e) ∙ h m ∙ sym (without_other a.name m bs e)

-- at prices that are the same
same_prices : (P P' ls : List Line) → ((name : List ℕ) → price name P ≡ price name P') → worth P ls ≡ worth P' ls
same_prices P P' [] h = refl
same_prices P P' (l ∷ ls) h = rw (h l.name, same_prices P P' ls h) refl

-- ---- every pair has a price just where every name that gives something has one

priced_names : (P ls : List Line) → Priced P ls → (name : List ℕ) (a : ℕ) → price name ls ≡ some a → Has P name
unfolding price pick
priced_names P [] h name a e = apart (cc)
priced_names P (l ∷ ls) h name a e = go (equal name l.name) refl e (priced_names P ls h.1 name a)
  where
    go : (b : Bool) → equal name l.name ≡ b → pick b (some l.amount) (price name ls) ≡ some a → (price name ls ≡ some a → Has P name) → Has P name
    go true q e f = subst (Has P) (sym (equal_true name l.name q)) h.0
    go false q e f = f e

names_priced : (P ls : List Line) → ((name : List ℕ) (a : ℕ) → price name ls ≡ some a → Has P name) → Priced P ls
unfolding price pick
names_priced P [] h = tt
names_priced P (l ∷ ls) h = (h l.name l.amount (price_own l ls), names_priced P ls (λ name a e. go name a (equal name l.name) refl e))
  where
    go : (name : List ℕ) (a : ℕ) (b : Bool) → equal name l.name ≡ b → price name ls ≡ some a → Has P name
    go name a true q e = subst (Has P) (sym (equal_true name l.name q)) (h l.name l.amount (price_own l ls))
    go name a false q e = h name a (price_other name l ls q ∙ e)

-- ---- the sum

-- recipes R and R' at prices P and P'
module _ (R R' P P' : List Line) (f : Finds R R') (g : Finds P P') where
  same_total : worth (surviving P) (surviving R) ≡ worth (surviving P') (surviving R')
  same_total = same_worth (surviving P) (surviving R) (surviving R') (surviving_single R) (surviving_single R') f ∙ same_prices (surviving P) (surviving P') (surviving R') g

  same_priced : Priced (surviving P) (surviving R) → Priced (surviving P') (surviving R')
  same_priced h = names_priced (surviving P') (surviving R') λ name a e.
      let (c, q) = priced_names (surviving P) (surviving R) h name a (f name ∙ e) in
      (c, sym (g name) ∙ q)

  -- accepted with one, it is accepted with the other, and is the same
  pub same_sum : (L M L' : Lent) (t : ℕ) → sum (surviving P) 0 (surviving R) L ≡ ok t M → sum (surviving P') 0 (surviving R') L' ≡ ok t L'
  same_sum L M L' t e =
      let s = sum_told (surviving P) (surviving R) 0 t L M e in
      sum_accepts (surviving P') (surviving R') 0 t L' (same_priced s.has) (s.is ∙ ap (λ (n : ℕ). 0 + n) same_total)

-- ---- the call

-- where one is accepted, another with the same amounts under the same names is too, unless its own tests refuse it, and answers the same
pub same_call : (r p : ℕ) (L : Lent) (r' p' : ℕ) (L' M : Lent) (t : ℕ) → Finds (pairs (held L) r) (pairs (held L') r') → Finds (pairs (held L) p) (pairs (held L') p')
    → batch_cost r p L ≡ ok t M → Judged r' p' L' → batch_cost r' p' L' ≡ ok t L'
same_call r p L r' p' L' M t f g e j =
    call_is r' p' L' j ∙ same_sum (pairs (held L) r) (pairs (held L') r') (pairs (held L) p) (pairs (held L') p') f g L M L' t (call_told r p L M t e).1

-- two accepted calls
pub same_cost : (r p : ℕ) (L M : Lent) (t : ℕ) (r' p' : ℕ) (L' M' : Lent) (t' : ℕ) → Finds (pairs (held L) r) (pairs (held L') r') → Finds (pairs (held L) p) (pairs (held L') p')
    → batch_cost r p L ≡ ok t M → batch_cost r' p' L' ≡ ok t' M' → t ≡ t'
same_cost r p L M t r' p' L' M' t' f g e e' = number (sym (same_call r p L r' p' L' M t f g e (call_told r' p' L' M' t' e').0) ∙ e')
  where
    number : {a b : ℕ} {K N : Lent} → ok a K ≡ ok b N → a ≡ b
    number e = cc

-- and two that their tests let go on: their answers have the same cents, accepted or refused
pub same_cents : (r p : ℕ) (L : Lent) (r' p' : ℕ) (L' : Lent) → Finds (pairs (held L) r) (pairs (held L') r') → Finds (pairs (held L) p) (pairs (held L') p')
    → Judged r p L → Judged r' p' L' → (cost_done (batch_cost r p L)).cents ≡ (cost_done (batch_cost r' p' L')).cents
unfolding cost_done
same_cents r p L r' p' L' f g j j' = go (batch_cost r p L) (batch_cost r' p' L') refl refl
  where
    go : (o o' : Outcome Lent ℕ) → batch_cost r p L ≡ o → batch_cost r' p' L' ≡ o' → (cost_done o).cents ≡ (cost_done o').cents
    go (ok t M) (ok t' M') e e' = same_cost r p L M t r' p' L' M' t' f g e e'
    go (ok t M) (refused q) e e' = no_ok (sym e' ∙ same_call r p L r' p' L' M t f g e j')
    go (refused q) (ok t M) e e' =
        no_ok (sym e ∙ same_call r' p' L' r p L M t (finds_back (pairs (held L) r) (pairs (held L') r') f) (finds_back (pairs (held L) p) (pairs (held L') p') g) e' j)
    go (refused q) (refused q') e e' = refl
