-- What a recipe costs at given prices, in cents (02, 2.7).
use Rattle.std.specs.Prelude.{ℕ, ◌+◌, ◌*◌, ◌/◌, Bool, false, ◌&&◌, ◌||◌, List, [], ◌∷◌, ltb, leb, eqb, length, Result, Ok, Err}
use Rattle.std.proofs.Math.Option.{Option, none, some}
use Rattle.definition.specs.Run.{Run, Outcome, ok, refused, pure, refuse, ◌>>=◌, look, pick}
use Rattle.definition.specs.Node.{Row, START, LIST, COUNT, fixnum_kind, hash_kind, kind, word, equal}
use Rattle.definition.specs.Arena.{Arena, node, range, name_of, is_name}
use Rattle.definition.specs.Build.{Lent, held, handles_checked}
use Rattle.definition.specs.Refused.{Answer, Accepted, Refused}
use Rattle.definition.specs.declared.Refusal.TheVariants.{NotARecipe, NoPrice}
use Rattle.definition.specs.declared.Refusal.{Refusal}

-- ---- a hash as a recipe or as prices

-- its keys and values in turn; "Hash defaults play no part"
unfoldable pub entries : Arena → Row → List ℕ
entries A r = pick (eqb (kind r) hash_kind) (range A.references (word r LIST) (word r COUNT * 2)) []

-- the kilograms or the cents per tonne that a node gives: a Fixnum's
unfoldable pub amount : Row → ℕ
amount r = pick (eqb (kind r) fixnum_kind) (word r START) 0

-- "Fixnums from zero up"
unfoldable pub is_amount : Row → Bool
is_amount r = eqb (kind r) 2 && ltb (amount r) 2147483648

-- a pair: its key's node and name, and its amount
pub record Line : Type 0 where
  pub key : ℕ
  pub name : List ℕ
  pub amount : ℕ

-- by the nodes of key and value
unfoldable pub line : Arena → ℕ → ℕ → Line
line A k v = record { key = k; name = name_of A.bytes (node A k); amount = amount (node A v) }

-- of keys and values in turn
unfoldable pub lines : Arena → List ℕ → List Line
lines A [] = []
lines A (k ∷ []) = []
lines A (k ∷ v ∷ l) = line A k v ∷ lines A l

-- the pairs of a hash, as written
unfoldable pub pairs : Arena → ℕ → List Line
pairs A h = lines A (entries A (node A h))

-- ---- what is judged, in order

-- 20 with the node, unless the test holds
unfoldable pub right_if : Bool → ℕ → Run Lent (Unit {0})
right_if b h = pick b (pure tt) (refuse (NotARecipe h))

-- "the hash's kind"
unfoldable pub check_kind : ℕ → Run Lent (Unit {0})
check_kind h = look λ L. right_if (eqb (kind (node (held L) h)) 5) h

-- "then its number of pairs": "at most 512 recipe pairs as written"
unfoldable pub check_number : ℕ → Run Lent (Unit {0})
check_number h = look λ L. right_if (leb (length (pairs (held L) h)) 512) h

-- "then each pair, key before value, superseded pairs too"
unfoldable pub check_entries : List ℕ → Run Lent (Unit {0})
check_entries [] = pure tt
check_entries (k ∷ []) = pure tt
check_entries (k ∷ v ∷ l) = look λ L. right_if (is_name (held L) k) k >>= λ _. right_if (is_amount (node (held L) v)) v >>= λ _. check_entries l

-- the pairs of a hash
unfoldable pub check_pairs : ℕ → Run Lent (Unit {0})
check_pairs h = look λ L. check_entries (entries (held L) (node (held L) h))

-- the recipe
unfoldable pub check_recipe : ℕ → Run Lent (Unit {0})
check_recipe h = check_kind h >>= λ _. check_number h >>= λ _. check_pairs h

-- the prices, of any number
unfoldable pub check_prices : ℕ → Run Lent (Unit {0})
check_prices h = check_kind h >>= λ _. check_pairs h

-- ---- surviving pairs

-- has one of these pairs that name? "Keys match by name"
unfoldable pub has_name : List ℕ → List Line → Bool
has_name name [] = false
has_name name (l ∷ ls) = equal name l.name || has_name name ls

-- "Within either hash a later pair supersedes an earlier one with its name"
unfoldable pub surviving : List Line → List Line
surviving [] = []
surviving (l ∷ ls) = pick (has_name l.name ls) (surviving ls) (l ∷ surviving ls)

-- ---- the cost

-- the price of a name, if it has one
unfoldable pub price : List ℕ → List Line → Option ℕ
price name [] = none
price name (l ∷ ls) = pick (equal name l.name) (some l.amount) (price name ls)

-- thousandths of a cent "rounded to a cent, an exact half going up"
unfoldable pub rounded : ℕ → ℕ
rounded n = (n + 500) / 1000

-- "kilograms times cents, divided by 1000 and rounded to a cent"
unfoldable pub line_cost : ℕ → ℕ → ℕ
line_cost kilograms cents = rounded (kilograms * cents)

-- "21 NO-PRICE, with the key's node"
unfoldable pub priced : ℕ → Option ℕ → Run Lent ℕ
priced key none = refuse (NoPrice key)
priced key (some cents) = pure cents

-- "The answer is the sum"; total stands for the pairs before, 21 is "for the first surviving pair that has none"
unfoldable pub sum : List Line → ℕ → List Line → Run Lent ℕ
sum prices total [] = pure total
sum prices total (l ∷ ls) = priced l.key (price l.name prices) >>= λ cents. sum prices (total + line_cost l.amount cents) ls

-- "the recipe before the prices"; then the recipe's surviving pairs at the surviving prices
unfoldable pub cost_nodes : ℕ → ℕ → Run Lent ℕ
cost_nodes recipe prices = check_recipe recipe >>= λ _. check_prices prices >>= λ _. look λ L. sum (surviving (pairs (held L) prices)) 0 (surviving (pairs (held L) recipe))

-- `batch_cost`: 1, 2, 13 for each, then the cost
unfoldable pub batch_cost : ℕ → ℕ → Run Lent ℕ
batch_cost recipe prices = handles_checked (recipe ∷ prices ∷ []) >>= λ _. cost_nodes recipe prices

-- what it answers
pub record CostAnswer : Type 0 where
  pub answer : Answer
  pub cents : ℕ

-- by the code's Result
unfoldable pub cost_answer : Result ℕ Refusal → CostAnswer
cost_answer (Ok n) = record { answer = Accepted; cents = n }
cost_answer (Err q) = record { answer = Refused q; cents = 0 }

-- its answer: refused, no cents
unfoldable pub cost_done : Outcome Lent ℕ → CostAnswer
cost_done (ok cents L) = record { answer = Accepted; cents = cents }
cost_done (refused r) = record { answer = Refused r; cents = 0 }
