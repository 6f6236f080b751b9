-- A node judged as prices and as a recipe, by its words.
use Prim.Native.Nat.{ℕ, ◌*◌, ◌≤◌, ◌<◌}
use native.Mathlib.Omega.{arith}
use mathlib.Core.Path.{◌≡◌, refl, sym, ap, ◌∙◌, subst}
use mathlib.Core.Bool.{true, false}
use mathlib.Core.List.{List, []}
use lib.Dec.{eqb}
use lib.ListN.{length, get_or}
use borrow.Author.Tests.{eqb-true, eq-eqb, ne_eqb, le-leb, lt-leb}
use Rattle.definition.specs.Run.{ok, refused}
use Rattle.definition.specs.Node.{kind, width, COUNT}
use Rattle.definition.specs.Arena.{arena, node}
use Rattle.definition.specs.Build.{Lent, held, check}
use Rattle.definition.specs.Cost.{entries, lines, pairs, check_entries, check_recipe, check_prices}
use Rattle.definition.specs.declared.Refusal.TheVariants.{NotARecipe}
use Rattle.well_formed.specs.Recipes.{Priced, prices_right, recipe_right}
use Rattle.batch_cost.specs.Tables.{word, Judged, Listed, list_at, lines_at, Held}
use Rattle.batch_cost.proofs.Rows.{kind_is, listed, entries_are, pairs_are, judged, lines_are}
use Rattle.batch_cost.proofs.Steps.{prices_kind, prices_on, recipe_kind, recipe_number, recipe_on}

module _ (L : Lent) (h : ℕ) {t r : List ℕ} {count : ℕ} (H : Held L t r count) (l : h < count) where
  l' : h < L.counts.nodes
  l' = subst (λ (n : ℕ). h < n) (sym H.count_is) l

  word' : (k : ℕ) → word L.tables.nodes h k ≡ word t h k
  word' k = ap (λ (x : List ℕ). word x h k) H.nodes_are

  kind' : eqb (kind (node (held L) h)) 5 ≡ eqb (get_or t (h * width) 0) 5
  unfolding arena
  kind' = kind_is (held L) L.counts.nodes L.tables.nodes refl h l' 5 (omega arith) (omega arith) ∙ ap (λ (x : List ℕ). eqb (get_or x (h * width) 0) 5) H.nodes_are

  other : (get_or t (h * width) 0 ≡ 5 → ⊥) → false ≡ eqb (kind (node (held L) h)) 5
  other n = sym (kind' ∙ ne_eqb (get_or t (h * width) 0) 5 n)

  pub prices_no : (get_or t (h * width) 0 ≡ 5 → ⊥) → check_prices h L ≡ refused (NotARecipe h)
  prices_no n = prices_kind L h (other n)

  pub recipe_no : (get_or t (h * width) 0 ≡ 5 → ⊥) → check_recipe h L ≡ refused (NotARecipe h)
  recipe_no n = recipe_kind L h (other n)

  module _ (p : get_or t (h * width) 0 ≡ 5) where
    p' : get_or L.tables.nodes (h * width) 0 ≡ 5
    p' = ap (λ (x : List ℕ). get_or x (h * width) 0) H.nodes_are ∙ p

    same : true ≡ eqb (kind (node (held L) h)) 5
    same = sym (kind' ∙ eq-eqb (get_or t (h * width) 0) 5 p)

    all : entries (held L) (node (held L) h) ≡ list_at t r h
    all = entries_are L H.checked h l' p' ∙ (λ j. list_at (H.nodes_are j) (H.references_are j) h)

    number : length (pairs (held L) h) ≡ word t h COUNT
    number = pairs_are L H.checked h l' p' ∙ word' 4

    pub prices_yes : check_prices h L ≡ check_entries (list_at t r h) L
    prices_yes = prices_on L h same ∙ ap (λ (x : List ℕ). check_entries x L) all

    pub recipe_many : 512 < word t h COUNT → check_recipe h L ≡ refused (NotARecipe h)
    recipe_many m = recipe_number L h same (sym (lt-leb _ 512 (subst (λ (n : ℕ). 512 < n) (sym number) m)))

    pub recipe_yes : word t h COUNT ≤ 512 → check_recipe h L ≡ check_entries (list_at t r h) L
    recipe_yes m = recipe_on L h same (sym (le-leb _ 512 (subst (λ (n : ℕ). n ≤ 512) (sym number) m))) ∙ ap (λ (x : List ℕ). check_entries x L) all

-- ---- a node that was judged and let go on

pub held_here : (L : Lent) → check [] L ≡ ok tt L → Held L L.tables.nodes L.tables.references L.counts.nodes
held_here L e = record { checked = e; nodes_are = refl; references_are = refl; count_is = refl }

-- its list is in the references, its keys and values are judged, and its pairs are those of the tables
pub record Told (L : Lent) (h : ℕ) : Type 0 where
  pub list : Listed L.tables.nodes L.tables.references h
  pub pairs_judged : Judged L.tables.nodes L.tables.bytes (list_at L.tables.nodes L.tables.references h)
  pub pairs_told : pairs (held L) h ≡ lines_at L.tables.nodes L.tables.bytes (list_at L.tables.nodes L.tables.references h)

module _ (L : Lent) (h : ℕ) (e : check [] L ≡ ok tt L) (l : h < L.counts.nodes) where
  five : kind (node (held L) h) ≡ 5 → get_or L.tables.nodes (h * width) 0 ≡ 5
  five p = eqb-true (get_or L.tables.nodes (h * width) 0) 5 (sym (kind' L h (held_here L e) l) ∙ eq-eqb (kind (node (held L) h)) 5 p)

  told : Priced L h L tt → Told L h
  unfolding pairs
  told p =
      let q = five p.0 in
      let s = entries_are L e h l q in
      let c : check_entries (list_at L.tables.nodes L.tables.references h) L ≡ ok tt L = sym (ap (λ (x : List ℕ). check_entries x L) s) ∙ p.1 in
      record { list = listed L e h l q; pairs_judged = judged L e _ c; pairs_told = ap (lines (held L)) s ∙ lines_are L e _ c }

  pub prices_told : check_prices h L ≡ ok tt L → Told L h
  prices_told p = told (prices_right h L L tt p)

  pub recipe_told : check_recipe h L ≡ ok tt L → Told L h × (word L.tables.nodes h COUNT ≤ 512)
  recipe_told p =
      let q = recipe_right h L L tt p in
      (told q.0, subst (λ (n : ℕ). n ≤ 512) (pairs_are L e h l (five q.0.0)) q.1)
