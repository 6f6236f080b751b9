-- The search for a symbol by its name.
use Prim.Native.Nat.{ℕ, suc, ◌+◌, ◌*◌, ◌≤◌, ◌<◌}
use native.Mathlib.Omega.{arith}
use native.Mathlib.Numerals.{add-one}
use native.Mathlib.Decide.{dec_lt}
use mathlib.Core.Bool.{Bool, true, false, ◌&&◌}
use mathlib.Core.List.{List}
use mathlib.Core.Option.{Option, none, some}
use mathlib.Core.Path.{◌≡◌, refl, sym, ap, ◌∙◌, subst}
use lib.Dec.{eqb}
use lib.ListN.{length, get_or, take, drop, drop_of_length-le}
use lib.Seq.{drop-cons, length-take-le}
use borrow.Author.Tests.{ne_eqb}
use Rattle.definition.specs.Run.{ok, pick}
use Rattle.definition.specs.Node.{Row, nil, symbol, kind, row_of, rows, equal, width, START, LENGTH, LIST, COUNT, NAME, DEFAULT, CLASS, symbol_kind, words}
use Rattle.definition.specs.Arena.{Arena, node, range, name_of, named, find_symbol}
use Rattle.definition.specs.Build.{Lent, held, check}
use Rattle.lists.specs.Same.{same_length}
use Rattle.lists.specs.Ranges.{length_range}
use Rattle.lists.specs.Tables.{length_rows}
use Rattle.arena_check.proofs.Lists.{kind_test}
use Rattle.arena_check.proofs.Rights.{range_take}
use Rattle.well_formed.specs.Nodes.{at_node, node_row, node_past}
use Rattle.well_formed.specs.Right as R
use Rattle.well_formed.specs.Checks.{checked}
use Rattle.call_check.proofs.Tests.{held_nodes}
use Rattle.node_adder.specs.Added.{SymbolsIn}

-- ---- a symbol's name

module _ (A : Arena) (count : ℕ) (t : List ℕ) (i : ℕ) (name : List ℕ) (e : A.nodes ≡ rows count t) (lt : i < count) (le : count * width ≤ length t) where
  abbrev at : ℕ → ℕ
  at k = get_or t (i * width + k) 0

  pub no_symbol : (get_or t (i * width) 0 ≡ symbol_kind → ⊥) → false ≡ named A.bytes name (node A i)
  unfolding named
  no_symbol n =
      sym (ap (λ (b : Bool). b && equal name (name_of A.bytes (node A i)))
      (ap (λ (r : Row). eqb (kind r) symbol_kind) (node_row A count t e i lt) ∙ kind_test symbol_kind (omega arith) (omega arith) _ _ _ _ _ _ _ _ ∙ ne_eqb (get_or t (i * width) 0) symbol_kind n))

  symbol_is : get_or t (i * width) 0 ≡ symbol_kind → node A i ≡ symbol (at START) (at LENGTH)
  unfolding row_of pick
  symbol_is k = node_row A count t e i lt ∙ ap (λ (x : ℕ). row_of x (at START) (at LENGTH) (at LIST) (at COUNT) (at NAME) (at DEFAULT) (at CLASS)) k

  name_is : get_or t (i * width) 0 ≡ symbol_kind → named A.bytes name (node A i) ≡ equal name (range A.bytes (at START) (at LENGTH))
  unfolding named name_of kind words pick
  name_is k = ap (named A.bytes name) (symbol_is k)

  pub other_length : SymbolsIn A → get_or t (i * width) 0 ≡ symbol_kind → (at LENGTH ≡ length name → ⊥) → false ≡ named A.bytes name (node A i)
  other_length s k n =
      sym (same_length name (range A.bytes (at START) (at LENGTH)) (λ q. n (sym (q ∙ length_range A.bytes (at START) (at LENGTH) (s i (at START) (at LENGTH) (symbol_is k)))))) ∙ sym (name_is k)

  pub same_name : (bytes : List ℕ) (stored : ℕ) → A.bytes ≡ take stored bytes → get_or t (i * width) 0 ≡ symbol_kind → at START + at LENGTH ≤ stored
      → equal name (take (at LENGTH) (drop (at START) bytes)) ≡ named A.bytes name (node A i)
  unfolding range
  same_name bytes stored f k l =
      ap (equal name) (sym (range_take bytes stored (at START) (at LENGTH) l) ∙ ap (λ (b : List ℕ). range b (at START) (at LENGTH)) (sym f))
      ∙ sym (name_is k)

  -- a symbol's bytes are among those stored
  pub stored_in : (bytes : List ℕ) (stored : ℕ) → stored ≤ length bytes → A.bytes ≡ take stored bytes → SymbolsIn A → get_or t (i * width) 0 ≡ symbol_kind → at START + at LENGTH ≤ stored
  stored_in bytes stored h f s k =
      subst (λ (m : ℕ). at START + at LENGTH ≤ m) (ap length f ∙ length-take-le stored bytes h) (s i (at START) (at LENGTH) (symbol_is k))

-- ---- the search

module _ (A : Arena) (name : List ℕ) (i : ℕ) where
  abbrev left : ℕ → Option ℕ
  left k = find_symbol A.bytes name (drop k A.nodes) k

  begin : i < length A.nodes → left i ≡ pick (named A.bytes name (node A i)) (some i) (find_symbol A.bytes name (drop (suc i) A.nodes) (suc i))
  unfolding find_symbol node
  begin h = ap (λ (l : List Row). find_symbol A.bytes name l i) (drop-cons A.nodes i nil h)

  pub find_on : i < length A.nodes → false ≡ named A.bytes name (node A i) → left i ≡ left (i + 1)
  unfolding pick
  find_on h t =
      begin h ∙ ap (λ (b : Bool). pick b (some i) (find_symbol A.bytes name (drop (suc i) A.nodes) (suc i))) (sym t) ∙ ap left (sym (add-one i))

  pub find_here : i < length A.nodes → true ≡ named A.bytes name (node A i) → some i ≡ left i
  unfolding pick
  find_here h t =
      sym (begin h ∙ ap (λ (b : Bool). pick b (some i) (find_symbol A.bytes name (drop (suc i) A.nodes) (suc i))) (sym t))

  pub find_none : length A.nodes ≤ i → none ≡ left i
  unfolding find_symbol
  find_none h = sym (ap (λ (l : List Row). find_symbol A.bytes name l i) (drop_of_length-le A.nodes {i = i} h))

pub nodes_counted : (A : Arena) (count : ℕ) (t : List ℕ) → A.nodes ≡ rows count t → length A.nodes ≡ count
nodes_counted A count t e = ap length e ∙ length_rows count t

-- a checked arena's symbols are right: past the nodes there is nil, and nil is no symbol
kinds : {s l : ℕ} → nil ≡ symbol s l → ◌≡◌ {A = ℕ} 0 3
unfolding kind
kinds e = ap kind e

pub symbols_in : (L : Lent) (ts : List (ℕ × Bool)) → check ts L ≡ ok tt L → SymbolsIn (held L)
symbols_in L ts e i s l q = go (dec_lt i L.counts.nodes)
  where
    rows_are : (held L).nodes ≡ rows L.counts.nodes L.tables.nodes
    rows_are = held_nodes L L.tables.nodes L.counts.nodes refl refl

    go : Dec (i < L.counts.nodes) → s + l ≤ length (held L).bytes
    go (yes h) =
        let n = nodes_counted (held L) L.counts.nodes L.tables.nodes rows_are in
        (R.fault_right L.tables L.counts (checked ts L L tt e).0).rows_right i (symbol s l) (at_node (held L) i (omega (arith, n)) ∙ ap some q)
    go (no h) =
        let z : ◌≡◌ {A = ℕ} 0 symbol_kind = kinds (sym (node_past (held L) L.counts.nodes L.tables.nodes rows_are i (omega arith)) ∙ q) in
        absurd (omega arith)
