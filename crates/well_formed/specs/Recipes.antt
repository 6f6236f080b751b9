-- A recipe and prices that were judged and let go on: what was judged holds, and nothing is changed.
use Rattle.std.specs.Prelude.{ℕ, ◌≤◌, ◌≡◌, refl, Bool, true, false, List, ◌∷◌, leb, eqb, length}
use Rattle.std.proofs.Common.{eqb-true, leb-true}
use Rattle.definition.specs.Run.{Run, ok, pure, refuse, next, ◌>>=◌, look, pick}
use Rattle.definition.specs.Node.{kind}
use Rattle.definition.specs.Arena.{node, is_name}
use Rattle.definition.specs.Build.{Lent, held}
use Rattle.definition.specs.Cost.{entries, is_amount, pairs, right_if, check_kind, check_number, check_entries, check_pairs, check_recipe, check_prices}
use Rattle.lists.specs.Runs.{no_ok}

-- a test that let go on holds
after_right : {A : Type 0} (b : Bool) (h : ℕ) (k : Unit {0} → Run Lent A) (L M : Lent) (a : A) → (right_if b h >>= k) L ≡ ok a M → (b ≡ true) × (k tt L ≡ ok a M)
unfolding ◌>>=◌ right_if pick pure refuse next
after_right true h k L M a e = (refl, e)
after_right false h k L M a e = no_ok e

-- a key is a symbol, its value an amount, and the rest was judged
pub entry_right : (k v : ℕ) (l : List ℕ) (L M : Lent) (u : Unit {0}) → check_entries (k ∷ v ∷ l) L ≡ ok u M
    → (is_name (held L) k ≡ true) × (is_amount (node (held L) v) ≡ true) × (check_entries l L ≡ ok u M)
unfolding check_entries look
entry_right k v l L M u e =
    let p = after_right (is_name (held L) k) k (λ _. right_if (is_amount (node (held L) v)) v >>= λ _. check_entries l) L M u e in
    let q = after_right (is_amount (node (held L) v)) v (λ _. check_entries l) L M u p.1 in
    (p.0, q.0, q.1)

-- what was judged of a hash: its kind and its pairs
abbrev pub Priced : Lent → ℕ → Lent → Unit {0} → Type 0
Priced L h M u = (kind (node (held L) h) ≡ 5) × (check_entries (entries (held L) (node (held L) h)) L ≡ ok u M)

pub prices_right : (h : ℕ) (L M : Lent) (u : Unit {0}) → check_prices h L ≡ ok u M → Priced L h M u
unfolding check_prices check_kind check_pairs look ◌>>=◌
prices_right h L M u e =
    let p = after_right (eqb (kind (node (held L) h)) 5) h (λ _. check_pairs h) L M u e in
    (eqb-true (kind (node (held L) h)) 5 p.0, p.1)

-- and of a recipe its number
pub recipe_right : (h : ℕ) (L M : Lent) (u : Unit {0}) → check_recipe h L ≡ ok u M → Priced L h M u × (length (pairs (held L) h) ≤ 512)
unfolding check_recipe check_kind check_number check_pairs look ◌>>=◌
recipe_right h L M u e =
    let p = after_right (eqb (kind (node (held L) h)) 5) h (λ _. check_number h >>= λ _. check_pairs h) L M u e in
    let q = after_right (leb (length (pairs (held L) h)) 512) h (λ _. check_pairs h) L M u p.1 in
    ((eqb-true (kind (node (held L) h)) 5 p.0, q.1), leb-true (length (pairs (held L) h)) 512 q.0)
