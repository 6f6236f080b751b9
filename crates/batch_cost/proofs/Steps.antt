-- What is judged turn by turn, and a call step by step.
use Prim.Native.Nat.{ℕ, ◌<◌}
use native.Mathlib.Omega.{arith}
use mathlib.Core.Path.{◌≡◌, refl, sym, ap, ◌∙◌}
use mathlib.Core.Bool.{Bool, true, false}
use mathlib.Core.List.{List, [], ◌∷◌, ◌++◌}
use lib.Dec.{eqb, leb}
use lib.ListN.{length, get_or}
use Rattle.definition.specs.Run.{Run, ok, refused, pure, refuse, next, ◌>>=◌, look, pick}
use Rattle.definition.specs.Node.{kind}
use Rattle.definition.specs.Arena.{node, is_name}
use Rattle.definition.specs.Build.{Lent, held, handles_checked}
use Rattle.definition.specs.Cost.{entries, is_amount, pairs, right_if, check_kind, check_number, check_entries, check_pairs, check_recipe, check_prices, surviving, sum, cost_nodes, batch_cost}
use Rattle.definition.specs.declared.Refusal.{Refusal}
use Rattle.definition.specs.declared.Refusal.TheVariants.{NotARecipe}
use Rattle.call_check.proofs.Answers.{on, stop}

-- a test that holds goes on, another is 20
on_right : {A : Type 0} (h : ℕ) (L : Lent) (k : Unit {0} → Run Lent A) {b : Bool} → true ≡ b → next (right_if b h L) k ≡ k tt L
unfolding right_if pick pure next
on_right h L k q = ap (λ (b : Bool). next (right_if b h L) k) (sym q)

not_right : {A : Type 0} (h : ℕ) (L : Lent) (k : Unit {0} → Run Lent A) {b : Bool} → false ≡ b → next (right_if b h L) k ≡ refused (NotARecipe h)
unfolding right_if pick refuse next
not_right h L k q = ap (λ (b : Bool). next (right_if b h L) k) (sym q)

-- ---- keys and values in turn

-- a pair x before the rest t
module _ (L : Lent) {l : List ℕ} (x t : List ℕ) (e : l ≡ x ++ t) (n : length x ≡ 2) where
  abbrev key : ℕ
  key = get_or x 0 0

  abbrev value : ℕ
  value = get_or x 1 0

  two : (x : List ℕ) → length x ≡ 2 → x ++ t ≡ get_or x 0 0 ∷ get_or x 1 0 ∷ t
  two [] n = absurd (omega (arith, n))
  two (k ∷ []) n = absurd (omega (arith, n))
  two (k ∷ v ∷ []) n = refl
  two (k ∷ v ∷ w ∷ x) n = absurd (omega (arith, n))

  turn : check_entries l L ≡ next (right_if (is_name (held L) key) key L) (λ _. right_if (is_amount (node (held L) value)) value >>= λ _. check_entries t)
  unfolding check_entries look ◌>>=◌
  turn = ap (λ (x : List ℕ). check_entries x L) (e ∙ two x n)

  pub entries_key : false ≡ is_name (held L) key → check_entries l L ≡ refused (NotARecipe key)
  entries_key p = turn ∙ not_right key L _ p

  module _ (p : true ≡ is_name (held L) key) where
    after_key : check_entries l L ≡ next (right_if (is_amount (node (held L) value)) value L) (λ _. check_entries t)
    unfolding ◌>>=◌
    after_key = turn ∙ on_right key L _ p

    pub entries_value : false ≡ is_amount (node (held L) value) → check_entries l L ≡ refused (NotARecipe value)
    entries_value q = after_key ∙ not_right value L _ q

    pub entries_on : true ≡ is_amount (node (held L) value) → check_entries l L ≡ check_entries t L
    entries_on q = after_key ∙ on_right value L _ q

-- no pair is left
pub entries_end : (L : Lent) (l : List ℕ) → length l < 2 → check_entries l L ≡ ok tt L
unfolding check_entries pure
entries_end L [] h = refl
entries_end L (k ∷ []) h = refl
entries_end L (k ∷ v ∷ l) h = absurd (omega (arith, h))

-- ---- a hash

module _ (L : Lent) (h : ℕ) where
  pub prices_kind : false ≡ eqb (kind (node (held L) h)) 5 → check_prices h L ≡ refused (NotARecipe h)
  unfolding check_prices check_kind look ◌>>=◌
  prices_kind p = not_right h L _ p

  pub recipe_kind : false ≡ eqb (kind (node (held L) h)) 5 → check_recipe h L ≡ refused (NotARecipe h)
  unfolding check_recipe check_kind look ◌>>=◌
  recipe_kind p = not_right h L _ p

  module _ (p : true ≡ eqb (kind (node (held L) h)) 5) where
    pub prices_on : check_prices h L ≡ check_entries (entries (held L) (node (held L) h)) L
    unfolding check_prices check_kind check_pairs look ◌>>=◌
    prices_on = on_right h L _ p

    after_kind : check_recipe h L ≡ next (right_if (leb (length (pairs (held L) h)) 512) h L) (λ _. check_pairs h)
    unfolding check_recipe check_kind check_number look ◌>>=◌
    after_kind = on_right h L _ p

    pub recipe_number : false ≡ leb (length (pairs (held L) h)) 512 → check_recipe h L ≡ refused (NotARecipe h)
    recipe_number q = after_kind ∙ not_right h L _ q

    pub recipe_on : true ≡ leb (length (pairs (held L) h)) 512 → check_recipe h L ≡ check_entries (entries (held L) (node (held L) h)) L
    unfolding check_pairs look
    recipe_on q = after_kind ∙ on_right h L _ q

-- ---- the call

module _ (L : Lent) (r p : ℕ) where
  pub no_recipe : (q : Refusal) → check_recipe r L ≡ refused q → cost_nodes r p L ≡ refused q
  unfolding cost_nodes ◌>>=◌
  no_recipe q e = stop _ e

  module _ (e : check_recipe r L ≡ ok tt L) where
    pub no_prices : (q : Refusal) → check_prices p L ≡ refused q → cost_nodes r p L ≡ refused q
    unfolding cost_nodes ◌>>=◌
    no_prices q f = on _ e ∙ stop _ f

    pub costs : check_prices p L ≡ ok tt L → cost_nodes r p L ≡ sum (surviving (pairs (held L) p)) 0 (surviving (pairs (held L) r)) L
    unfolding cost_nodes look ◌>>=◌
    costs f = on _ e ∙ on _ f

  pub no_handles : (q : Refusal) → handles_checked (r ∷ p ∷ []) L ≡ refused q → batch_cost r p L ≡ refused q
  unfolding batch_cost ◌>>=◌
  no_handles q e = stop _ e

  pub both_handles : handles_checked (r ∷ p ∷ []) L ≡ ok tt L → batch_cost r p L ≡ cost_nodes r p L
  unfolding batch_cost ◌>>=◌
  both_handles e = on _ e
