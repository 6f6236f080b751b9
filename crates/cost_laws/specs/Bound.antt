-- What an accepted call answers fits 64 bits, and the call changes nothing.
use Rattle.std.specs.Prelude.{ℕ, suc, ◌*◌, ◌≤◌, ◌<◌, ◌≡◌, refl, Bool, true, false, List, [], ◌∷◌, eqb, ltb, length}
use Rattle.std.proofs.Common.{arith, mul-le-mul, ltb-true}
use Rattle.std.proofs.Math.Option.{Option, none, some}
use Rattle.definition.specs.Run.{Outcome, ok, refused, pick}
use Rattle.definition.specs.Node.{Row, kind, equal}
use Rattle.definition.specs.Arena.{node}
use Rattle.definition.specs.Build.{Lent, held}
use Rattle.definition.specs.Cost.{amount, is_amount, Line, line, lines, pairs, check_entries, has_name, surviving, price, line_cost, batch_cost, cost_done}
use Rattle.lists.specs.Lists.{apart}
use Rattle.lists.specs.Joined.{and_right}
use Rattle.well_formed.specs.Recipes.{entry_right, prices_right, recipe_right}
use Rattle.cost_laws.specs.Rounding.{most}
use Rattle.cost_laws.specs.Sums.{paid, worth, sum_told}
use Rattle.cost_laws.specs.Calls.{call_told}

-- ---- amounts are at most 2^31 − 1

-- those of lines
abbrev Small : List Line → Type 0
Small [] = Unit {0}
Small (l ∷ ls) = (l.amount ≤ 2147483647) × Small ls

-- so they are where a hash was judged, in what survives, and in a price that is found
amount_small : (r : Row) → is_amount r ≡ true → amount r ≤ 2147483647
unfolding is_amount
amount_small r e = omega (arith, ltb-true (amount r) 2147483648 (and_right (eqb (kind r) 2) (ltb (amount r) 2147483648) e))

lines_small : (es : List ℕ) (L M : Lent) (u : Unit {0}) → check_entries es L ≡ ok u M → Small (lines (held L) es)
unfolding lines line
lines_small [] L M u e = tt
lines_small (k ∷ []) L M u e = tt
lines_small (k ∷ v ∷ es) L M u e = let r = entry_right k v es L M u e in (amount_small (node (held L) v) r.1, lines_small es L M u r.2)

surviving_small : (ls : List Line) → Small ls → Small (surviving ls)
unfolding surviving pick
surviving_small [] h = tt
surviving_small (l ∷ ls) h = go (has_name l.name ls) (surviving_small ls h.1)
  where
    go : (b : Bool) → Small (surviving ls) → Small (pick b (surviving ls) (l ∷ surviving ls))
    go true s = s
    go false s = (h.0, s)

price_small : (name : List ℕ) (ls : List Line) (c : ℕ) → Small ls → price name ls ≡ some c → c ≤ 2147483647
unfolding price pick
price_small name [] c h e = apart (cc)
price_small name (l ∷ ls) c h e = go (equal name l.name) (price_small name ls c h.1) e
  where
    go : (b : Bool) → (price name ls ≡ some c → c ≤ 2147483647) → pick b (some l.amount) (price name ls) ≡ some c → c ≤ 2147483647
    go true f e = let q : l.amount ≡ c = cc in omega (arith, q, h.0)
    go false f e = f e

-- ---- the sum

-- the most that one line costs
abbrev pub line_most : ℕ
line_most = 4611686014132421

paid_most : (o : Option ℕ) (k : ℕ) → k ≤ 2147483647 → ((c : ℕ) → o ≡ some c → c ≤ 2147483647) → paid o k ≤ line_most
unfolding line_cost
paid_most none k h g = omega arith
paid_most (some c) k h g = most (k * c) (mul-le-mul h (g c refl))

worth_most : (prices ls : List Line) → Small prices → Small ls → worth prices ls ≤ length ls * line_most
worth_most prices [] p h = omega arith
worth_most prices (l ∷ ls) p h =
    omega (arith, paid_most (price l.name prices) l.amount h.0 (λ c e. price_small l.name prices c p e), worth_most prices ls p h.1)

surviving_length : (ls : List Line) → length (surviving ls) ≤ length ls
unfolding surviving pick
surviving_length [] = omega arith
surviving_length (l ∷ ls) = go (has_name l.name ls) (surviving_length ls)
  where
    go : (b : Bool) → length (surviving ls) ≤ length ls → length (pick b (surviving ls) (l ∷ surviving ls)) ≤ suc (length ls)
    go true h = omega (arith, h)
    go false h = omega (arith, h)

-- ---- the call

-- the most that 512 lines cost
abbrev pub call_most : ℕ
call_most = 512 * line_most

pub batch_most : (recipe prices : ℕ) (L M : Lent) (t : ℕ) → batch_cost recipe prices L ≡ ok t M → t ≤ call_most
unfolding pairs
batch_most recipe prices L M t e =
    let (j, s) = call_told recipe prices L M t e in
    let rs = recipe_right recipe L L tt j.recipe_judged in
    let ps = prices_right prices L L tt j.prices_judged in
    let R = pairs (held L) recipe in
    let P = pairs (held L) prices in
    let w = worth_most (surviving P) (surviving R) (surviving_small P (lines_small _ L L tt ps.1)) (surviving_small R (lines_small _ L L tt rs.0.1)) in
    omega (arith, (sum_told (surviving P) (surviving R) 0 t L M s).is, w, surviving_length R, rs.1)

-- so it is below 2^62 and fits 64 bits
pub batch_fits : (recipe prices : ℕ) (L M : Lent) (t : ℕ) → batch_cost recipe prices L ≡ ok t M → (t < 4611686018427387904) × (t < 18446744073709551616)
batch_fits recipe prices L M t e = let h = batch_most recipe prices L M t e in (omega (arith, h), omega (arith, h))

-- the call leaves what is lent
pub batch_keeps : (recipe prices : ℕ) (L M : Lent) (t : ℕ) → batch_cost recipe prices L ≡ ok t M → M ≡ L
batch_keeps recipe prices L M t e = (sum_told _ _ 0 t L M (call_told recipe prices L M t e).1).keeps

-- the answer's cents, accepted or refused
pub cents_most : (recipe prices : ℕ) (L : Lent) → (cost_done (batch_cost recipe prices L)).cents ≤ call_most
unfolding cost_done
cents_most recipe prices L = go (batch_cost recipe prices L) refl
  where
    go : (o : Outcome Lent ℕ) → batch_cost recipe prices L ≡ o → (cost_done o).cents ≤ call_most
    go (ok t M) e = batch_most recipe prices L M t e
    go (refused r) e = omega arith
