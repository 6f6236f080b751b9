-- The sum over lines, told apart from the work that finds it: every name has a price, and it is what the lines cost one by one.
use Rattle.std.specs.Prelude.{ℕ, ◌+◌, ◌≡◌, refl, List, [], ◌∷◌}
use Rattle.std.proofs.Common.{arith, ap}
use Rattle.std.proofs.Math.Option.{Option, none, some}
use Rattle.definition.specs.Run.{Outcome, ok, pure, refuse, next, ◌>>=◌}
use Rattle.definition.specs.Build.{Lent}
use Rattle.definition.specs.Cost.{Line, price, line_cost, priced, sum}
use Rattle.lists.specs.Runs.{no_ok}

-- what kilograms cost at a price, and nothing where there is none
abbrev pub paid : Option ℕ → ℕ → ℕ
paid none kilograms = 0
paid (some cents) kilograms = line_cost kilograms cents

-- what lines cost, each by itself
abbrev pub worth : List Line → List Line → ℕ
worth prices [] = 0
worth prices (l ∷ ls) = paid (price l.name prices) l.amount + worth prices ls

-- where there is one
at_price : (prices : List Line) (l : Line) (c : ℕ) → price l.name prices ≡ some c → paid (price l.name prices) l.amount ≡ line_cost l.amount c
at_price prices l c p = ap (λ (o : Option ℕ). paid o l.amount) p

-- a name has a price
abbrev pub Has : List Line → List ℕ → Type 0
Has prices name = (cents : ℕ) × (price name prices ≡ some cents)

-- every line has one
abbrev pub Priced : List Line → List Line → Type 0
Priced prices [] = Unit {0}
Priced prices (l ∷ ls) = Has prices l.name × Priced prices ls

-- an accepted sum: every line has a price, it is what they cost beyond the total, and nothing is changed
pub record Summed (prices : List Line) (total : ℕ) (ls : List Line) (L M : Lent) (x : ℕ) : Type 0 where
  pub has : Priced prices ls
  pub is : x ≡ total + worth prices ls
  pub keeps : M ≡ L

-- by the first line's price
step : (prices : List Line) (l : Line) (ls : List Line) (total x : ℕ) (L M : Lent)
    → ((t : ℕ) → sum prices t ls L ≡ ok x M → Summed prices t ls L M x)
    → sum prices total (l ∷ ls) L ≡ ok x M → Summed prices total (l ∷ ls) L M x
unfolding sum priced ◌>>=◌ next pure refuse
step prices l ls total x L M ih e = go (price l.name prices) refl e
  where
    go : (o : Option ℕ) → price l.name prices ≡ o
        → next (priced l.key o L) (λ (cents : ℕ). sum prices (total + line_cost l.amount cents) ls) ≡ ok x M
        → Summed prices total (l ∷ ls) L M x
    go none p e = no_ok e
    go (some c) p e =
        let r = ih (total + line_cost l.amount c) e in
        record { has = ((c, p), r.has); is = omega (arith, at_price prices l c p, r.is); keeps = r.keeps }

pub sum_told : (prices ls : List Line) (total x : ℕ) (L M : Lent) → sum prices total ls L ≡ ok x M → Summed prices total ls L M x
unfolding sum pure
sum_told prices [] total x L M e = ended e
  where
    ended : ◌≡◌ {A = Outcome Lent ℕ} (ok total L) (ok x M) → Summed prices total [] L M x
    ended e = let p : total ≡ x = cc in let q : M ≡ L = cc in record { has = tt; is = omega (arith, p); keeps = q }
sum_told prices (l ∷ ls) total x L M e = step prices l ls total x L M (λ t. sum_told prices ls t x L M) e

-- and where every line has a price the sum is accepted
pub sum_accepts : (prices ls : List Line) (total x : ℕ) (L : Lent) → Priced prices ls → x ≡ total + worth prices ls → sum prices total ls L ≡ ok x L
unfolding sum priced ◌>>=◌ next pure
sum_accepts prices [] total x L h e = let p : total ≡ x = omega (arith, e) in ap (λ (n : ℕ). ok n L) p
sum_accepts prices (l ∷ ls) total x L ((c, p), h) e =
    rw p (sum_accepts prices ls (total + line_cost l.amount c) x L h (omega (arith, at_price prices l c p, e)))
