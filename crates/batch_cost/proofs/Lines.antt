-- The last pair with a name: which pairs survive by it, and what a name's price is.
use Prim.Native.Nat.{ℕ, zero, suc, ◌+◌, ◌-◌, ◌*◌, ◌/◌, ◌≤◌, ◌<◌}
use native.Mathlib.Omega.{arith}
use native.Mathlib.Numerals.{add-one}
use native.Mathlib.Nat.{add-zero}
use mathlib.Core.Path.{◌≡◌, refl, sym, ap, ◌∙◌}
use mathlib.Core.Bool.{Bool, true, false, ◌||◌}
use mathlib.Core.List.{List, [], ◌∷◌, ◌++◌}
use mathlib.Core.Option.{none, some}
use mathlib.Core.Option as maybe
use Rattle.std.specs.Prelude.{Option, Some, None, Ok, Err, is_some}
use Rattle.std.proofs.lemmas.Option.{none-some, same_Some}
use lib.ListN.{length, get_or, take, drop, drop_of_length-le}
use lib.Seq.{drop-cons, take-suc, take_all, length-take-le}
use Rattle.definition.specs.Run.{ok, refused, pure, refuse, next, ◌>>=◌, pick}
use Rattle.definition.specs.Node.{equal, START}
use Rattle.definition.specs.Build.{Lent}
use Rattle.definition.specs.Cost.{Line, has_name, surviving, price, line_cost, priced, sum}
use Rattle.definition.specs.declared.Refusal.TheVariants.{NoPrice}
use Rattle.lists.specs.Lists.{At, at_lt, get_d_at}
use Rattle.lists.specs.Words.{equal_self}
use Rattle.lists.specs.Latest.{or_else, latest, absent, price_latest}
use Rattle.batch_cost.specs.Tables.{word, name_at, line_at, lines_at, place, last, Costs}

-- ---- the last place

-- one pair more at the end
pub last_snoc : (name : List ℕ) (ls : List Line) (l : Line) → last name (ls ++ (l ∷ [])) ≡ pick (equal name l.name) (Some (length ls)) (last name ls)
unfolding last place pick
last_snoc name [] l = one (equal name l.name)
  where
    one : (b : Bool) → place b None ≡ pick b (Some 0) None
    one true = refl
    one false = refl
last_snoc name (x ∷ ls) l = ap (place (equal name x.name)) (last_snoc name ls l) ∙ go (equal name l.name) (equal name x.name) (last name ls)
  where
    go : (b d : Bool) (o : Option ℕ) → place d (pick b (Some (length ls)) o) ≡ pick b (Some (suc (length ls))) (place d o)
    go true d o = refl
    go false d o = refl

-- one has the name exactly where there is a last
pub has_last : (name : List ℕ) (ls : List Line) → has_name name ls ≡ is_some (last name ls)
unfolding last has_name place
has_last name [] = refl
has_last name (l ∷ ls) = ap (λ (t : Bool). equal name l.name || t) (has_last name ls) ∙ go (equal name l.name) (last name ls)
  where
    go : (b : Bool) (o : Option ℕ) → b || is_some o ≡ is_some (place b o)
    go true None = refl
    go true (Some k) = refl
    go false None = refl
    go false (Some k) = refl

-- one pair fewer from the end
pub last_turn : (name : List ℕ) (ls : List Line) (i : ℕ) (l : Line) → At ls i l → last name (take (suc i) ls) ≡ pick (equal name l.name) (Some i) (last name (take i ls))
last_turn name ls i l a =
    let h : i < length ls = at_lt ls i l a in
    ap (last name) (take-suc ls i l h)
    ∙ last_snoc name (take i ls) (get_or ls i l)
    ∙ (λ j. pick (equal name (get_d_at ls i l l a j).name) (Some (length-take-le i ls (omega (arith, h)) j)) (last name (take i ls)))

-- ---- which pairs survive

-- a place from 1 on, 0 where there is none
abbrev from_1 : Option ℕ → ℕ
from_1 None = 0
from_1 (Some k) = suc k

-- from a pair on that has the name, the last is counted from there
from_here : (name : List ℕ) (ls : List Line) (i : ℕ) (l : Line) → At ls i l → equal name l.name ≡ true → last name ls ≡ Some (i + from_1 (last name (drop (suc i) ls)))
unfolding last place
from_here name [] i l a e = absurd (omega (arith, no_line a))
  where
    no_line : {x : Line} → none ≡ some x → ◌≡◌ {A = ℕ} 0 1
    no_line e = cc
from_here name (x ∷ ls) zero l a e = ap (λ (y : Line). place (equal name y.name) (last name ls)) (same a) ∙ ap (λ (b : Bool). place b (last name ls)) e ∙ go (last name ls)
  where
    same : {x y : Line} → some x ≡ some y → x ≡ y
    same e = cc

    go : (o : Option ℕ) → place true o ≡ Some (0 + from_1 o)
    go None = refl
    go (Some k) = ap Some (omega arith)
from_here name (x ∷ ls) (suc i) l a e = ap (place (equal name x.name)) (from_here name ls i l a e) ∙ ap Some (suc_add i (from_1 (last name (drop (suc i) ls))))
  where
    suc_add : (i k : ℕ) → suc (i + k) ≡ suc i + k
    suc_add i k = omega arith

module _ (ls : List Line) (i : ℕ) (l : Line) (a : At ls i l) where
  d : drop i ls ≡ l ∷ drop (i + 1) ls
  d = drop-cons ls i l (at_lt ls i l a) ∙ (λ j. get_d_at ls i l l a j ∷ drop (sym (add-one i) j) ls)

  placed : last l.name ls ≡ Some (i + from_1 (last l.name (drop (i + 1) ls)))
  placed = from_here l.name ls i l a (equal_self l.name) ∙ ap (λ (k : ℕ). Some (i + from_1 (last l.name (drop k ls)))) (sym (add-one i))

  turned : {b : Bool} → is_some (last l.name (drop (i + 1) ls)) ≡ b → surviving (drop i ls) ≡ pick b (surviving (drop (i + 1) ls)) (l ∷ surviving (drop (i + 1) ls))
  unfolding surviving
  turned e = ap surviving d ∙ ap (λ (b : Bool). pick b (surviving (drop (i + 1) ls)) (l ∷ surviving (drop (i + 1) ls))) (has_last l.name (drop (i + 1) ls) ∙ e)

  -- the last of its name survives, another doesn't
  pub survives : last l.name ls ≡ Some i → surviving (drop i ls) ≡ l ∷ surviving (drop (i + 1) ls)
  unfolding pick
  survives e = turned (go (last l.name (drop (i + 1) ls)) (same_Some _ _ (sym placed ∙ e)))
    where
      go : (o : Option ℕ) → i + from_1 o ≡ i → is_some o ≡ false
      go None p = refl
      go (Some k) p = absurd (omega (arith, p))

  pub superseded : (last l.name ls ≡ Some i → ⊥) → surviving (drop i ls) ≡ surviving (drop (i + 1) ls)
  unfolding pick
  superseded n = turned (go (last l.name (drop (i + 1) ls)) (λ p. n (placed ∙ ap Some p)))
    where
      go : (o : Option ℕ) → (i + from_1 o ≡ i → ⊥) → is_some o ≡ true
      go None m = absurd (m (omega arith))
      go (Some k) m = refl

-- ---- a name's price

pub price_none : (name : List ℕ) (ls : List Line) → last name ls ≡ None → price name (surviving ls) ≡ none
price_none name ls e = price_latest name ls ∙ absent name ls (has_last name ls ∙ ap (λ (o : Option ℕ). is_some o) e)

-- what the pair at the last place gives
latest_here : (name : List ℕ) (ls : List Line) (j : ℕ) (l : Line) → last name ls ≡ Some j → At ls j l → latest name ls ≡ some l.amount
unfolding last place latest pick
latest_here name [] j l e a = absurd (none-some j e)
latest_here name (x ∷ ls) j l e a = go (equal name x.name) (last name ls) refl e j refl a (latest_here name ls)
  where
    same : {x y : Line} → some x ≡ some y → x ≡ y
    same e = cc

    go : (b : Bool) (o : Option ℕ) → last name ls ≡ o → place b o ≡ Some j → (m : ℕ) → m ≡ j → At (x ∷ ls) m l → ((j : ℕ) (l : Line) → last name ls ≡ Some j → At ls j l → latest name ls ≡ some l.amount)
        → or_else (latest name ls) (pick b (some x.amount) none) ≡ some l.amount
    go b (Some k) q e zero g a f = absurd (omega (arith, same_Some _ _ e, g))
    go b (Some k) q e (suc m) g a f = let k' : k ≡ m = omega (arith, same_Some _ _ e, g) in ap (λ (o : maybe.Option ℕ). or_else o (pick b (some x.amount) none)) (f m l (q ∙ ap Some k') a)
    go true None q e (suc m) g a f = absurd (omega (arith, same_Some _ _ e, g))
    go true None q e zero g a f = ap (λ (o : maybe.Option ℕ). or_else o (some x.amount)) (absent name ls (has_last name ls ∙ ap (λ (o : Option ℕ). is_some o) q)) ∙ ap (λ (y : Line). some y.amount) (same a)
    go false None q e m g a f = absurd (none-some j e)

pub price_last : (name : List ℕ) (ls : List Line) (j : ℕ) (l : Line) → last name ls ≡ Some j → At ls j l → price name (surviving ls) ≡ some l.amount
price_last name ls j l e a = price_latest name ls ∙ latest_here name ls j l e a

-- ---- pairs by the words of the tables

module _ (nodes bytes : List ℕ) where
  pub lines_length : (l : List ℕ) → length (lines_at nodes bytes l) ≡ length l / 2
  unfolding lines_at
  lines_length [] = refl
  lines_length (k ∷ []) = refl
  lines_length (k ∷ v ∷ l) = omega (arith, lines_length l)

  pub line_here : (l : List ℕ) (i : ℕ) → i * 2 + 2 ≤ length l → At (lines_at nodes bytes l) i (line_at nodes bytes (get_or l (i * 2) 0) (get_or l (i * 2 + 1) 0))
  unfolding lines_at
  line_here [] i h = absurd (omega (arith, h))
  line_here (k ∷ []) i h = absurd (omega (arith, h))
  line_here (k ∷ v ∷ l) zero h = refl
  line_here (k ∷ v ∷ l) (suc i) h =
      let e : suc i * 2 ≡ suc (suc (i * 2)) = omega arith in
      let f : suc i * 2 + 1 ≡ suc (suc (i * 2 + 1)) = omega arith in
      line_here l i (omega (arith, h)) ∙ sym (λ j. some (line_at nodes bytes (get_or (k ∷ v ∷ l) (e j) 0) (get_or (k ∷ v ∷ l) (f j) 0)))

  -- ---- the search from the last pair on

  abbrev here : List ℕ → ℕ → List ℕ
  here l i = name_at nodes bytes (get_or l (i * 2) 0)

  module _ (l name : List ℕ) where
    abbrev up_to : ℕ → Option ℕ
    up_to i = last name (take i (lines_at nodes bytes l))

    pub search_start : last name (lines_at nodes bytes l) ≡ up_to (length l / 2)
    search_start = ap (last name) (sym (take_all (length l / 2) (lines_at nodes bytes l) (omega (arith, lines_length l))))

    module _ (i : ℕ) (p : 0 < i) (q : i ≤ length l / 2) where
      turn : up_to i ≡ pick (equal name (here l (i - 1))) (Some (i - 1)) (up_to (i - 1))
      turn =
          let s : suc (i - 1) ≡ i = omega arith in
          ap up_to (sym s) ∙ last_turn name (lines_at nodes bytes l) (i - 1) _ (line_here l (i - 1) (omega arith))

      pub search_here : true ≡ equal name (here l (i - 1)) → Some (i - 1) ≡ up_to i
      unfolding pick
      search_here e = sym (turn ∙ ap (λ (b : Bool). pick b (Some (i - 1)) (up_to (i - 1))) (sym e))

      pub search_on : false ≡ equal name (here l (i - 1)) → up_to i ≡ up_to (i - 1)
      unfolding pick
      search_on e = turn ∙ ap (λ (b : Bool). pick b (Some (i - 1)) (up_to (i - 1))) (sym e)

    pub search_end : (i : ℕ) → i ≤ 0 → None ≡ up_to i
    unfolding last
    search_end i h = let z : i ≡ 0 = omega (arith, h) in sym (ap up_to z)

-- ---- one pair's part of the sum

module _ (recipe prices : List Line) (i : ℕ) (l : Line) (a : At recipe i l) (total : ℕ) (L : Lent) where
  -- a superseded pair has none
  pub no_part : (last l.name recipe ≡ Some i → ⊥) → sum (surviving prices) total (surviving (drop i recipe)) L ≡ sum (surviving prices) (total + 0) (surviving (drop (i + 1) recipe)) L
  no_part n = λ j. sum (surviving prices) (sym (add-zero total) j) (superseded recipe i l a n j) L

  module _ (e : last l.name recipe ≡ Some i) where
    on_price : {o : maybe.Option ℕ} → price l.name (surviving prices) ≡ o → sum (surviving prices) total (surviving (drop i recipe)) L ≡ next (priced l.key o L) (λ cents. sum (surviving prices) (total + line_cost l.amount cents) (surviving (drop (i + 1) recipe)))
    unfolding sum ◌>>=◌
    on_price p = ap (λ (x : List Line). sum (surviving prices) total x L) (survives recipe i l a e) ∙ ap (λ (o : maybe.Option ℕ). next (priced l.key o L) (λ cents. sum (surviving prices) (total + line_cost l.amount cents) (surviving (drop (i + 1) recipe)))) p

    -- one without a price is refused
    pub no_price : last l.name prices ≡ None → sum (surviving prices) total (surviving (drop i recipe)) L ≡ refused (NoPrice l.key)
    unfolding priced refuse next
    no_price z = on_price (price_none l.name prices z)

    -- else the line's cost is added
    pub its_part : (j : ℕ) (p : Line) → last l.name prices ≡ Some j → At prices j p → sum (surviving prices) total (surviving (drop i recipe)) L ≡ sum (surviving prices) (total + line_cost l.amount p.amount) (surviving (drop (i + 1) recipe)) L
    unfolding priced pure next
    its_part j p z b = on_price (price_last l.name prices j p z b)

-- no pairs are left
pub all_summed : (recipe prices : List Line) (i total : ℕ) (L : Lent) → length recipe ≤ i → sum (surviving prices) total (surviving (drop i recipe)) L ≡ ok total L
unfolding surviving sum pure
all_summed recipe prices i total L h = ap (λ (x : List Line). sum (surviving prices) total (surviving x) L) (drop_of_length-le recipe {i = i} h)

-- ---- what a pair costs, by the tables

module _ (nodes bytes recipe prices : List ℕ) (i : ℕ) (h : i * 2 + 2 ≤ length recipe) where
  abbrev R : List Line
  R = lines_at nodes bytes recipe

  abbrev P : List Line
  P = lines_at nodes bytes prices

  abbrev k : ℕ
  k = get_or recipe (i * 2) 0

  abbrev name : List ℕ
  name = name_at nodes bytes k

  at_i : At R i (line_at nodes bytes k (get_or recipe (i * 2 + 1) 0))
  at_i = line_here nodes bytes recipe i h

  pub superseded_costs : (last name R ≡ Some i → ⊥) → Costs R P i (Ok 0)
  superseded_costs n = (λ total L. no_part R P i _ at_i total L n, omega arith)

  pub unpriced_costs : last name R ≡ Some i → last name P ≡ None → Costs R P i (Err (NoPrice k))
  unpriced_costs e z total L = no_price R P i _ at_i total L e z

  pub line_costs : last name R ≡ Some i → (j : ℕ) → last name P ≡ Some j → j * 2 + 2 ≤ length prices
      → (r : ℕ) → r ≡ line_cost (word nodes (get_or recipe (i * 2 + 1) 0) START) (word nodes (get_or prices (j * 2 + 1) 0) START) → r ≤ 4611686014132421 → Costs R P i (Ok r)
  line_costs e j z l r c m = (
    λ total L. its_part R P i _ at_i total L e j _ z (line_here nodes bytes prices j l) ∙ ap (λ (x : ℕ). sum (surviving P) (total + x) (surviving (drop (i + 1) R)) L) (sym c),
    m,
  )
