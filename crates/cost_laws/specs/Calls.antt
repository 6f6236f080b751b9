-- An accepted call taken apart: its tests let it go on and change nothing, and the rest is the sum of the surviving pairs.
use Rattle.std.specs.Prelude.{ℕ, ◌≡◌, refl, List, [], ◌∷◌}
use Rattle.std.proofs.Common.{sym, subst}
use Rattle.definition.specs.Run.{Run, ok, pure, next, ◌>>=◌, look}
use Rattle.definition.specs.Arena.{node}
use Rattle.definition.specs.Build.{Lent, held, handles_checked}
use Rattle.definition.specs.Cost.{entries, pairs, check_entries, check_recipe, check_prices, surviving, sum, cost_nodes, batch_cost}
use Rattle.lists.specs.Runs.{un}
use Rattle.well_formed.specs.Checks.{handles_keep}
use Rattle.well_formed.specs.Recipes.{entry_right, prices_right, recipe_right}

-- ---- tests change nothing

-- a test that lets go on leaves what is lent
abbrev Keeps : Run Lent (Unit {0}) → Type 0
Keeps m = (L M : Lent) (u : Unit {0}) → m L ≡ ok u M → M ≡ L

same : {u v : Unit {0}} {L M : Lent} → ok u L ≡ ok v M → M ≡ L
same e = cc

entries_keep : (es : List ℕ) → Keeps (check_entries es)
unfolding check_entries pure
entries_keep [] L M u e = same e
entries_keep (k ∷ []) L M u e = same e
entries_keep (k ∷ v ∷ es) L M u e = entries_keep es L M u (entry_right k v es L M u e).2

recipe_keeps : (h : ℕ) → Keeps (check_recipe h)
recipe_keeps h L M u e = entries_keep (entries (held L) (node (held L) h)) L M u (recipe_right h L M u e).0.1

prices_keep : (h : ℕ) → Keeps (check_prices h)
prices_keep h L M u e = entries_keep (entries (held L) (node (held L) h)) L M u (prices_right h L M u e).1

-- so the rest is done on what was lent
after : {A : Type 0} (m : Run Lent (Unit {0})) (k : Unit {0} → Run Lent A) (L M : Lent) (a : A) → Keeps m → (m >>= k) L ≡ ok a M → (m L ≡ ok tt L) × (k tt L ≡ ok a M)
unfolding ◌>>=◌
after m k L M a h e = un (m L) k e λ u K f g. subst (λ (N : Lent). (m L ≡ ok tt N) × (k tt N ≡ ok a M)) (h L K u f) (f, g)

-- ---- the call

-- the tests of a call let it go on
pub record Judged (recipe prices : ℕ) (L : Lent) : Type 0 where
  pub handles : handles_checked (recipe ∷ prices ∷ []) L ≡ ok tt L
  pub recipe_judged : check_recipe recipe L ≡ ok tt L
  pub prices_judged : check_prices prices L ≡ ok tt L

-- what is left of it: the recipe's surviving pairs at the surviving prices
abbrev pub total : ℕ → ℕ → Run Lent ℕ
total recipe prices L = sum (surviving (pairs (held L) prices)) 0 (surviving (pairs (held L) recipe)) L

-- an accepted call was let go on, and its answer is the sum
pub call_told : (recipe prices : ℕ) (L M : Lent) (t : ℕ) → batch_cost recipe prices L ≡ ok t M → Judged recipe prices L × (total recipe prices L ≡ ok t M)
unfolding batch_cost cost_nodes look
call_told recipe prices L M t e =
    let a = after (handles_checked (recipe ∷ prices ∷ [])) (λ _. cost_nodes recipe prices) L M t (λ K N u f. sym (handles_keep (recipe ∷ prices ∷ []) K N u f)) e in
    let b = after (check_recipe recipe) (λ _. check_prices prices >>= λ _. total recipe prices) L M t (recipe_keeps recipe) a.1 in
    let c = after (check_prices prices) (λ _. total recipe prices) L M t (prices_keep prices) b.1 in
    (record { handles = a.0; recipe_judged = b.0; prices_judged = c.0 }, c.1)

-- and a call that is let go on is the sum, accepted or refused
pub call_is : (recipe prices : ℕ) (L : Lent) → Judged recipe prices L → batch_cost recipe prices L ≡ total recipe prices L
unfolding batch_cost cost_nodes look ◌>>=◌ next
call_is recipe prices L j = rw (j.handles, j.recipe_judged, j.prices_judged) refl
