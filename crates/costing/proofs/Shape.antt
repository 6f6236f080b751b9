-- The root of a well-formed arena by its words: whether it is an array of two hashes, and what it costs.
use Prim.Native.Nat.{ℕ, suc, ◌+◌, ◌*◌, ◌≤◌, ◌<◌}
use native.Mathlib.Omega.{arith}
use native.Mathlib.Numerals.{add-one}
use mathlib.Core.Bool.{Bool, true, false, ◌&&◌}
use mathlib.Core.List.{List, [], ◌∷◌}
use mathlib.Core.Option.{none}
use mathlib.Core.Path.{◌≡◌, refl, sym, ap, ◌∙◌, subst}
use lib.Dec.{eqb}
use lib.ListN.{length, get_or}
use Rattle.definition.specs.Run.{Outcome, refused, refuse, look, pick}
use Rattle.definition.specs.Node.{Row, nil, bool, fixnum, symbol, array, hash, object, string, user, float, bignum, kind, row_of, rows, width}
use Rattle.definition.specs.Arena.{Arena, arena, node, range, fault}
use Rattle.definition.specs.Build.{Lent, held}
use Rattle.definition.specs.Cost.{batch_cost}
use Rattle.definition.specs.declared.Refusal.TheVariants.{NotARecipe}
use Rattle.lists.specs.Lists.{At, at_get_d}
use Rattle.lists.specs.Ranges.{length_range, range_next, range_none}
use Rattle.lists.specs.Rows.{row_4, kind_is}
use Rattle.arena_check.proofs.Lists.{kind_test}
use Rattle.arena_check.proofs.Rights.{range_take}
use Rattle.well_formed.specs.Nodes.{at_node, node_row, node_past}
use Rattle.well_formed.specs.Right.{RowRight, Fit, fault_fit, fault_right}
use Rattle.costing.specs.Batch.{elements, is_hash, other_shape, cost_pair, cost_elements, cost_root}

-- ---- a hash by its word 0

module _ (A : Arena) (n : ℕ) (t : List ℕ) (i : ℕ) (e : A.nodes ≡ rows n t) where
  pub hash_at : i < n → eqb (get_or t (i * width) 0) 5 ≡ is_hash A i
  unfolding is_hash
  hash_at h = sym (ap (λ (r : Row). eqb (kind r) 5) (node_row A n t e i h) ∙ kind_test 5 (omega arith) (omega arith) _ _ _ _ _ _ _ _)

  pub no_hash : n ≤ i → false ≡ is_hash A i
  unfolding is_hash kind
  no_hash h = sym (ap (λ (r : Row). eqb (kind r) 5) (node_past A n t e i h))

-- ---- two elements

module _ (a b : ℕ) (L : Lent) where
  chosen : Bool → Bool → Outcome Lent ℕ
  chosen x y = pick (x && y) (batch_cost a b) other_shape L

  pub both : true ≡ is_hash (held L) a → true ≡ is_hash (held L) b → cost_pair a b L ≡ batch_cost a b L
  unfolding cost_pair look pick chosen
  both p q = sym (λ j. chosen (p j) (q j))

  pub first_other : false ≡ is_hash (held L) a → cost_pair a b L ≡ refused (NotARecipe L.counts.root)
  unfolding cost_pair other_shape refuse look pick chosen
  first_other p = sym (ap (λ (x : Bool). chosen x (is_hash (held L) b)) p)

  pub second_other : true ≡ is_hash (held L) a → false ≡ is_hash (held L) b → cost_pair a b L ≡ refused (NotARecipe L.counts.root)
  unfolding cost_pair other_shape refuse look pick chosen
  second_other p q = sym (λ j. chosen (p j) (q j))

-- ---- the root

-- only an array has elements
no_elements : (A : Arena) (r : Row) → (kind r ≡ 4 → ⊥) → elements A r ≡ []
unfolding elements kind
no_elements A nil n = refl
no_elements A (bool b) n = refl
no_elements A (fixnum w) n = refl
no_elements A (symbol s l) n = refl
no_elements A (array s k w) n = absurd (n refl)
no_elements A (hash s k d w) n = refl
no_elements A (object s k c) n = refl
no_elements A (string s l v w) n = refl
no_elements A (user s l c v) n = refl
no_elements A (float s l) n = refl
no_elements A (bignum low high m) n = refl

-- another number of elements than two
other_length : (l : List ℕ) (L : Lent) → (length l ≡ 2 → ⊥) → cost_elements l L ≡ refused (NotARecipe L.counts.root)
unfolding cost_elements other_shape look refuse
other_length [] L n = refl
other_length (a ∷ []) L n = refl
other_length (a ∷ b ∷ []) L n = absurd (n refl)
other_length (a ∷ b ∷ c ∷ l) L n = refl

-- two entries of a list
range_two : (l : List ℕ) (s : ℕ) → s + 2 ≤ length l → range l s 2 ≡ get_or l s 0 ∷ get_or l (s + 1) 0 ∷ []
range_two l s h =
    range_next l s 1 _ (at_get_d l s 0 (omega arith))
    ∙ ap (◌∷◌ (get_or l s 0)) (range_next l (suc s) 0 _ (at_get_d l (suc s) 0 (omega arith)) ∙ ap (◌∷◌ (get_or l (suc s) 0)) (range_none l (suc (suc s))))
    ∙ ap (λ (i : ℕ). get_or l s 0 ∷ get_or l i 0 ∷ []) (sym (add-one s))

module _ (L : Lent) (e : fault L.tables L.counts ≡ none) where
  abbrev first : ℕ
  first = get_or L.tables.nodes (L.counts.root * width) 0

  abbrev word : ℕ → ℕ
  word k = get_or L.tables.nodes (L.counts.root * width + k) 0

  fit : Fit L.tables L.counts
  fit = fault_fit L.tables L.counts e

  -- the root's words are in the table
  pub root_inside : L.counts.root * width + width ≤ length L.tables.nodes
  root_inside = omega (arith, fit.nodes_fit, fit.root_below)

  root_row : node (held L) L.counts.root ≡ row_of first (word 1) (word 2) (word 3) (word 4) (word 5) (word 6) (word 7)
  unfolding arena
  root_row = node_row (held L) L.counts.nodes L.tables.nodes refl L.counts.root fit.root_below

  pub not_array : (first ≡ 4 → ⊥) → cost_root L ≡ refused (NotARecipe L.counts.root)
  unfolding cost_root cost_elements other_shape look refuse
  not_array n =
      ap (λ (l : List ℕ). cost_elements l L) (no_elements (held L) (node (held L) L.counts.root) (λ k. n (kind_is _ _ _ _ _ _ _ _ 4 (sym (ap kind root_row) ∙ k) (omega arith))))

  module _ (k : first ≡ 4) where
    array_row : node (held L) L.counts.root ≡ array (word 3) (word 4) (word 7)
    array_row = root_row ∙ row_4 _ _ _ _ _ _ _ _ k

    in_list : word 3 + word 4 ≤ length (held L).references
    in_list =
        let a : At (held L).nodes L.counts.root (node (held L) L.counts.root) = at_node (held L) L.counts.root (omega (arith, fit.nodes, fit.root_below)) in
        let r : RowRight (held L) (array (word 3) (word 4) (word 7)) = subst (RowRight (held L)) array_row ((fault_right L.tables L.counts e).rows_right L.counts.root _ a) in
        r.0.inside

    listed : elements (held L) (node (held L) L.counts.root) ≡ range (held L).references (word 3) (word 4)
    unfolding elements
    listed = ap (elements (held L)) array_row

    pub other_number : (word 4 ≡ 2 → ⊥) → cost_root L ≡ refused (NotARecipe L.counts.root)
    unfolding cost_root look
    other_number n =
        ap (λ (l : List ℕ). cost_elements l L) listed
        ∙ other_length _ L (λ p. n (sym (length_range (held L).references (word 3) (word 4) in_list) ∙ p))

    -- two elements
    module _ (two : word 4 ≡ 2) where
      used : word 3 + 2 ≤ L.counts.references
      used = omega (arith, in_list, fit.references, two)

      pub two_inside : word 3 + 2 ≤ length L.tables.references
      two_inside = omega (arith, used, fit.references_fit)

      two_listed : range (held L).references (word 3) (word 4) ≡ get_or L.tables.references (word 3) 0 ∷ get_or L.tables.references (word 3 + 1) 0 ∷ []
      unfolding arena
      two_listed =
          ap (range (held L).references (word 3)) two
          ∙ range_take L.tables.references L.counts.references (word 3) 2 used
          ∙ range_two L.tables.references (word 3) two_inside

      pub two_elements : cost_root L ≡ cost_pair (get_or L.tables.references (word 3) 0) (get_or L.tables.references (word 3 + 1) 0) L
      unfolding cost_root cost_elements look
      two_elements = ap (λ (l : List ℕ). cost_elements l L) (listed ∙ two_listed)

-- the node table holds the nodes counted
pub nodes_inside : (L : Lent) → fault L.tables L.counts ≡ none → L.counts.nodes * width ≤ length L.tables.nodes
nodes_inside L e = let f = fault_fit L.tables L.counts e in omega (arith, f.nodes_fit)
