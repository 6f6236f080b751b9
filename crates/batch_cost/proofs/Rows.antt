-- Keys, values and hashes by their words in the table, and what a checked arena and judged pairs say of them.
use Prim.Native.Nat.{ℕ, zero, suc, ◌+◌, ◌*◌, ◌/◌, ◌≤◌, ◌<◌}
use native.Mathlib.Omega.{arith}
use native.Mathlib.Decide.{dec_lt}
use mathlib.Core.Path.{◌≡◌, refl, sym, ap, ◌∙◌, subst}
use mathlib.Core.Bool.{Bool, true, false, ◌&&◌}
use mathlib.Core.List.{List, [], ◌∷◌}
use mathlib.Core.Option.{some}
use lib.Dec.{eqb, ltb, leb}
use lib.ListN.{length, get_or}
use borrow.Author.Tests.{eqb-true, le-leb, lt-leb, lt-ltb, le-ltb, ltb-true}
use Rattle.definition.specs.Run.{ok, pick}
use Rattle.definition.specs.Node.{Row, fixnum, symbol, hash, kind, row_of, rows, equal, width, START, LENGTH, LIST, COUNT, NAME, DEFAULT, CLASS, words}
use Rattle.definition.specs.Arena.{Arena, arena, node, range, name_of, is_name}
use Rattle.definition.specs.Build.{Lent, held, check}
use Rattle.definition.specs.Cost.{entries, amount, is_amount, line, lines, pairs, check_entries}
use Rattle.lists.specs.Joined.{and_left, and_right}
use Rattle.lists.specs.Ranges.{length_range}
use Rattle.lists.specs.Same.{same_length}
use Rattle.lists.specs.Words.{equal_self}
use Rattle.well_formed.specs.Nodes.{at_node, node_row, node_past}
use Rattle.well_formed.specs.Right as R
use Rattle.well_formed.specs.Checks.{checked}
use Rattle.well_formed.specs.Recipes.{entry_right}
use Rattle.arena_check.proofs.Lists.{kind_test}
use Rattle.arena_check.proofs.Rights.{range_take}
use Rattle.batch_cost.specs.Tables.{word, Named, Amount, Judged, Listed, list_at, name_at, lines_at}

-- ---- a node by its words

module _ (A : Arena) (count : ℕ) (t : List ℕ) (e : A.nodes ≡ rows count t) (h : ℕ) where
  abbrev first : ℕ
  first = get_or t (h * width) 0

  module _ (l : h < count) where
    by_first : (k : ℕ) → first ≡ k → node A h ≡ row_of k (word t h START) (word t h LENGTH) (word t h LIST) (word t h COUNT) (word t h NAME) (word t h DEFAULT) (word t h CLASS)
    by_first k q = node_row A count t e h l ∙ ap (λ (x : ℕ). row_of x (word t h START) (word t h LENGTH) (word t h LIST) (word t h COUNT) (word t h NAME) (word t h DEFAULT) (word t h CLASS)) q

    pub is_fixnum : first ≡ 2 → node A h ≡ fixnum (word t h START)
    unfolding row_of pick
    is_fixnum = by_first 2

    pub is_symbol : first ≡ 3 → node A h ≡ symbol (word t h START) (word t h LENGTH)
    unfolding row_of pick
    is_symbol = by_first 3

    pub is_hash : first ≡ 5 → node A h ≡ hash (word t h LIST) (word t h COUNT) (word t h DEFAULT) (word t h CLASS)
    unfolding row_of pick
    is_hash = by_first 5

    pub kind_is : (x : ℕ) → 0 < x → x ≤ 10 → eqb (kind (node A h)) x ≡ eqb first x
    kind_is x p q = ap (λ (r : Row). eqb (kind r) x) (node_row A count t e h l) ∙ kind_test x p q _ _ _ _ _ _ _ _

    -- a Fixnum from zero up
    pub amount_test : eqb first 2 && leb (word t h START) 2147483647 ≡ is_amount (node A h)
    unfolding is_amount amount kind words pick
    amount_test = sym (ap (λ (b : Bool). b && ltb (amount (node A h)) 2147483648) (kind_is 2 (omega arith) (omega arith)) ∙ go (eqb first 2) refl)
      where
        most : (w : ℕ) → ltb w 2147483648 ≡ leb w 2147483647
        most w = decide (dec_lt w 2147483648)
          where
            decide : Dec (w < 2147483648) → ltb w 2147483648 ≡ leb w 2147483647
            decide (yes p) = lt-ltb w 2147483648 p ∙ sym (le-leb w 2147483647 (omega (arith, p)))
            decide (no p) = le-ltb w 2147483648 (omega (arith, p)) ∙ sym (lt-leb w 2147483647 (omega (arith, p)))

        go : (b : Bool) → eqb first 2 ≡ b → b && ltb (amount (node A h)) 2147483648 ≡ b && leb (word t h START) 2147483647
        go true q = ap (λ (r : Row). ltb (amount r) 2147483648) (is_fixnum (eqb-true first 2 q)) ∙ most (word t h START)
        go false q = refl

  pub no_amount : count ≤ h → false ≡ is_amount (node A h)
  unfolding is_amount kind words pick
  no_amount l = sym (ap is_amount (node_past A count t e h l))

  -- a node of another kind than nil's is there
  past_kind : count ≤ h → kind (node A h) ≡ 0
  unfolding kind
  past_kind l = ap kind (node_past A count t e h l)

  pub is_there : (x : ℕ) → 0 < x → eqb (kind (node A h)) x ≡ true → h < count
  is_there x p q = go (dec_lt h count)
    where
      go : Dec (h < count) → h < count
      go (yes l) = l
      go (no n) = absurd (omega (arith, p, past_kind (omega (arith, n)), eqb-true (kind (node A h)) x q))

-- ---- two names

module _ (t b : List ℕ) (h k : ℕ) where
  pub names_differ : Named t b h → Named t b k → (word t h LENGTH ≡ word t k LENGTH → ⊥) → false ≡ equal (name_at t b h) (name_at t b k)
  unfolding range
  names_differ p q n = sym (same_length _ _ λ e. n (sym (length_range b (word t h START) (word t h LENGTH) p.stored) ∙ e ∙ length_range b (word t k START) (word t k LENGTH) q.stored))

  pub name_self : h ≡ k → true ≡ equal (name_at t b h) (name_at t b k)
  name_self e = sym (ap (λ (x : ℕ). equal (name_at t b h) (name_at t b x)) (sym e) ∙ equal_self (name_at t b h))

-- ---- a hash's list

module _ (t r : List ℕ) (h : ℕ) where
  pub length_list : Listed t r h → length (list_at t r h) ≡ word t h COUNT * 2
  unfolding range
  length_list l = length_range r (word t h LIST) (word t h COUNT * 2) l.list

-- ---- in an arena that was checked

pub lines_count : (A : Arena) (l : List ℕ) → length (lines A l) ≡ length l / 2
unfolding lines
lines_count A [] = refl
lines_count A (k ∷ []) = refl
lines_count A (k ∷ v ∷ l) = omega (arith, lines_count A l)

module _ (L : Lent) (e : check [] L ≡ ok tt L) where
  abbrev nodes : List ℕ
  nodes = L.tables.nodes

  abbrev bytes : List ℕ
  bytes = L.tables.bytes

  abbrev count : ℕ
  count = L.counts.nodes

  fit : R.Fit L.tables L.counts
  fit = R.fault_fit L.tables L.counts (checked [] L L tt e).0

  pub in_table : count * width ≤ length nodes
  in_table = omega (arith, fit.nodes_fit)

  rows_are : (held L).nodes ≡ rows count nodes
  unfolding arena
  rows_are = refl

  row_right : (h : ℕ) (r : Row) → h < count → node (held L) h ≡ r → R.RowRight (held L) r
  row_right h r l q = (R.fault_right L.tables L.counts (checked [] L L tt e).0).rows_right h r (at_node (held L) h (omega (arith, l, fit.nodes)) ∙ ap some q)

  -- a symbol
  module _ (k : ℕ) (p : is_name (held L) k ≡ true) where
    k_there : k < count
    unfolding is_name
    k_there = is_there (held L) count nodes rows_are k 3 (omega arith) p

    k_three : get_or nodes (k * width) 0 ≡ 3
    unfolding is_name
    k_three = eqb-true (get_or nodes (k * width) 0) 3 (sym (kind_is (held L) count nodes rows_are k k_there 3 (omega arith) (omega arith)) ∙ p)

    k_symbol : node (held L) k ≡ symbol (word nodes k START) (word nodes k LENGTH)
    k_symbol = is_symbol (held L) count nodes rows_are k k_there k_three

    k_stored : word nodes k START + word nodes k LENGTH ≤ L.counts.bytes
    k_stored = omega (arith, row_right k (symbol (word nodes k START) (word nodes k LENGTH)) k_there k_symbol, fit.bytes)

    pub named : Named nodes bytes k
    named = record { inside = omega (arith, k_there, in_table); stored = omega (arith, k_stored, fit.bytes_fit) }

    pub name_is : name_of (held L).bytes (node (held L) k) ≡ name_at nodes bytes k
    unfolding name_of range arena kind words pick
    name_is = ap (name_of (held L).bytes) k_symbol ∙ range_take bytes L.counts.bytes (word nodes k START) (word nodes k LENGTH) k_stored

  -- an amount
  module _ (v : ℕ) (p : is_amount (node (held L) v) ≡ true) where
    v_kind : eqb (kind (node (held L) v)) 2 ≡ true
    unfolding is_amount kind words pick
    v_kind = and_left (eqb (kind (node (held L) v)) 2) _ p

    v_there : v < count
    v_there = is_there (held L) count nodes rows_are v 2 (omega arith) v_kind

    v_fixnum : node (held L) v ≡ fixnum (word nodes v START)
    v_fixnum = is_fixnum (held L) count nodes rows_are v v_there (eqb-true (get_or nodes (v * width) 0) 2 (sym (kind_is (held L) count nodes rows_are v v_there 2 (omega arith) (omega arith)) ∙ v_kind))

    pub amount_is : amount (node (held L) v) ≡ word nodes v START
    unfolding amount kind words pick
    amount_is = ap amount v_fixnum

    v_most : amount (node (held L) v) < 2147483648
    unfolding is_amount kind words pick
    v_most = ltb-true _ _ (and_right (eqb (kind (node (held L) v)) 2) _ p)

    pub amounts : Amount nodes v
    amounts = record { inside = omega (arith, v_there, in_table); most = omega (arith, v_most, amount_is) }

  -- a hash
  module _ (h : ℕ) (l : h < count) (p : get_or nodes (h * width) 0 ≡ 5) where
    h_hash : node (held L) h ≡ hash (word nodes h LIST) (word nodes h COUNT) (word nodes h DEFAULT) (word nodes h CLASS)
    h_hash = is_hash (held L) count nodes rows_are h l p

    h_list : word nodes h LIST + word nodes h COUNT * 2 ≤ L.counts.references
    h_list = omega (arith, (row_right h (hash (word nodes h LIST) (word nodes h COUNT) (word nodes h DEFAULT) (word nodes h CLASS)) l h_hash).0.inside, fit.references)

    pub listed : Listed nodes L.tables.references h
    listed = record { inside = omega (arith, l, in_table); list = omega (arith, h_list, fit.references_fit) }

    pub entries_are : entries (held L) (node (held L) h) ≡ list_at nodes L.tables.references h
    unfolding entries range arena kind words pick
    entries_are = ap (entries (held L)) h_hash ∙ range_take L.tables.references L.counts.references (word nodes h LIST) (word nodes h COUNT * 2) h_list

    pub pairs_are : length (pairs (held L) h) ≡ word nodes h COUNT
    unfolding pairs
    pairs_are =
        let q : length (lines (held L) (entries (held L) (node (held L) h))) ≡ word nodes h COUNT * 2 / 2 = lines_count (held L) _ ∙ ap (λ (x : List ℕ). length x / 2) entries_are ∙ ap (λ (n : ℕ). n / 2) (length_list nodes L.tables.references h listed) in
        q ∙ omega arith

  -- pairs that were judged
  pub judged : (l : List ℕ) → check_entries l L ≡ ok tt L → Judged nodes bytes l
  judged [] c i h = absurd (omega (arith, h))
  judged (k ∷ []) c i h = absurd (omega (arith, h))
  judged (k ∷ v ∷ l) c zero h = let q = entry_right k v l L L tt c in (named k q.0, amounts v q.1)
  judged (k ∷ v ∷ l) c (suc i) h =
      let q = judged l (entry_right k v l L L tt c).2 i (omega (arith, h)) in
      let a : suc i * 2 ≡ suc (suc (i * 2)) = omega arith in
      let b : suc i * 2 + 1 ≡ suc (suc (i * 2 + 1)) = omega arith in
      (subst (λ (m : ℕ). Named nodes bytes (get_or (k ∷ v ∷ l) m 0)) (sym a) q.0, subst (λ (m : ℕ). Amount nodes (get_or (k ∷ v ∷ l) m 0)) (sym b) q.1)

  pub lines_are : (l : List ℕ) → check_entries l L ≡ ok tt L → lines (held L) l ≡ lines_at nodes bytes l
  unfolding lines lines_at line
  lines_are [] c = refl
  lines_are (k ∷ []) c = refl
  lines_are (k ∷ v ∷ l) c =
      let q = entry_right k v l L L tt c in
      λ j. record { key = k; name = name_is k q.0 j; amount = amount_is v q.1 j } ∷ lines_are l q.2 j
