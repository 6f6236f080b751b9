-- A node is appended to a well-formed arena: what the tables then hold, and that it is well formed.
use Rattle.std.specs.Prelude.{ℕ, zero, suc, ◌+◌, ◌-◌, ◌*◌, ◌/◌, ◌≤◌, ◌<◌, ◌≡◌, Bool, ◌&&◌, List, [], ◌∷◌, ◌++◌, length, take, replicate}
use Rattle.std.proofs.Math.Path.{refl}
use Rattle.std.proofs.Common.{ap, ◌∙◌}
use Rattle.std.proofs.Math.Bool.{true, false}
use Rattle.std.proofs.Math.Option.{none}
use Rattle.std.proofs.Math.Dec.{ltb}
use Rattle.std.proofs.lemmas.List.{length-replicate}
use Rattle.std.proofs.lemmas.List.Edits.{sets}
use Rattle.std.proofs.Math.Seq.{length-sets}
use native.Mathlib.Omega.{arith}
use borrow.Author.Tests.{leb-true, ltb-false}
use Rattle.definition.specs.Run.{pick}
use Rattle.definition.specs.Node.{Row, nil, words, row, rows, is_row, width}
use Rattle.definition.specs.Arena.{Tables, Arena, arena, row_right, node_right, faulty, fault, zeroed}
use Rattle.definition.specs.Build.{Lent, lent, held, wrong, words_at, new_if, new_call}
use Rattle.definition.specs.Refused.{Accepted}
use Rattle.definition.specs.declared.Counts.{Counts}
use Rattle.lists.specs.Lists.{apart}
use Rattle.lists.specs.Slices.{tables_right}
use Rattle.lists.specs.Tables.{faulty_words, words_faulty, counts_fit_yes, fault_none, no_fault}
use Rattle.lists.specs.Joined.{and_left, and_right, yes_and}
use Rattle.well_formed.specs.Right.{fault_fit}
use Rattle.load_forest.specs.Call.{row_words_back, is_row_words}
use Rattle.builder_laws.specs.Tables.{take_stored, words_before, words_stored, rows_same, rows_last}
use Rattle.builder_laws.specs.Grown.{grown, right_grown}

-- every node's words pass the test
pub fault_words : (T : Tables) (c : Counts) → fault T c ≡ none → (i : ℕ) → i < c.nodes → node_right (arena T c) (words_at T.nodes i) ≡ true
fault_words T c e = faulty_words (arena T c) c.nodes 0 T.nodes (no_fault T c e).1

-- ---- one more node

-- there is room for a node, its bytes and its list
pub record Room (L : Lent) (bs ms : List ℕ) : Type 0 where
  pub bytes : L.counts.bytes + length bs ≤ length L.tables.bytes
  pub references : L.counts.references + length ms ≤ length L.tables.references
  pub nodes : L.counts.nodes + 1 ≤ length L.tables.nodes / width

-- what append leaves
abbrev pub appended : Lent → List ℕ → List ℕ → Row → Lent
appended L bs ms r =
    lent (sets L.tables.nodes (L.counts.nodes * width) (words r)) (sets L.tables.references L.counts.references ms) (sets L.tables.bytes L.counts.bytes bs)
    (record { nodes = L.counts.nodes + 1; references = L.counts.references + length ms; bytes = L.counts.bytes + length bs; root = L.counts.root })

module _ (L : Lent) (bs ms : List ℕ) (r : Row) (ρ : Room L bs ms) where
  abbrev M : Lent
  M = appended L bs ms r

  abbrev G : Arena
  G = grown (held L) bs ms r

  rows_appended : rows (L.counts.nodes + 1) M.tables.nodes ≡ rows L.counts.nodes L.tables.nodes ++ (r ∷ [])
  rows_appended =
      let n = L.counts.nodes in
      let t = L.tables.nodes in
      let p : words_at M.tables.nodes n ≡ words r = words_stored r t n (omega (arith, ρ.nodes)) in
      rows_last n M.tables.nodes
      ∙ ap (λ (l : List Row). l ++ (row (words_at M.tables.nodes n) ∷ [])) (rows_same n t M.tables.nodes (λ i h. words_before r t n i h))
      ∙ ap (λ (q : Row). rows n t ++ (q ∷ [])) (ap row p ∙ row_words_back r)

  -- the tables hold the arena grown by the node
  pub held_appended : held M ≡ G
  unfolding arena
  held_appended =
      let x = rows_appended in
      let y = take_stored ms L.tables.references L.counts.references ρ.references in
      let z = take_stored bs L.tables.bytes L.counts.bytes ρ.bytes in
      λ i. record { nodes = x i; references = y i; bytes = z i; root = L.counts.root }

  word_right : fault L.tables L.counts ≡ none → row_right G r ≡ true → (i : ℕ) → i < L.counts.nodes + 1 → node_right G (words_at M.tables.nodes i) ≡ true
  unfolding node_right
  word_right e h i l = go (ltb i L.counts.nodes) refl
    where
      go : (b : Bool) → ltb i L.counts.nodes ≡ b → is_row (words_at M.tables.nodes i) && row_right G (row (words_at M.tables.nodes i)) ≡ true
      go true p =
          let k = leb-true (suc i) L.counts.nodes p in
          let ws = words_at L.tables.nodes i in
          let x : is_row ws && row_right (held L) (row ws) ≡ true = fault_words L.tables L.counts e i k in
          rw (words_before r L.tables.nodes L.counts.nodes i k)
          (yes_and _ _ (and_left (is_row ws) (row_right (held L) (row ws)) x) (right_grown (held L) bs ms r (row ws) (and_right (is_row ws) (row_right (held L) (row ws)) x)))
      go false p =
          let k = ltb-false i L.counts.nodes p in
          let z : i ≡ L.counts.nodes = omega arith in
          rw (z, words_stored r L.tables.nodes L.counts.nodes (omega (arith, ρ.nodes)), row_words_back r) (yes_and _ _ (is_row_words r) h)

  -- and are well formed
  pub fault_appended : fault L.tables L.counts ≡ none → row_right G r ≡ true → fault M.tables M.counts ≡ none
  fault_appended e h =
      let f = fault_fit L.tables L.counts e in
      let n = length-sets L.tables.nodes (L.counts.nodes * width) (words r) in
      let p = length-sets L.tables.references L.counts.references ms in
      let b = length-sets L.tables.bytes L.counts.bytes bs in
      let z = counts_fit_yes M.tables M.counts (omega arith) (omega (arith, n, ρ.nodes)) (omega (arith, p, ρ.references)) (omega (arith, b, ρ.bytes)) (omega (arith, f.root_below)) in
      fault_none M.tables M.counts z (words_faulty (held M) (L.counts.nodes + 1) 0 M.tables.nodes (λ i l. rw held_appended (word_right e h i l)))

-- ---- new

zeros : (m : ℕ) → take width (replicate (suc (suc (suc (suc (suc (suc (suc (suc m)))))))) 0) ≡ words nil
unfolding words
zeros m = refl

first_zeros : (n : ℕ) → width ≤ n → take width (replicate n 0) ≡ words nil
first_zeros n h =
    let z : n ≡ suc (suc (suc (suc (suc (suc (suc (suc (n - width)))))))) = omega arith in
    ap (λ (k : ℕ). take width (replicate k 0)) z ∙ zeros (n - width)

one_nil : (A : Arena) (n : ℕ) → width ≤ n → faulty A 1 0 (replicate n 0) ≡ none
unfolding faulty node_right row_right pick
one_nil A n h = rw (first_zeros n h, is_row_words nil, row_words_back nil)

-- the counts that `new` answers
abbrev pub first_counts : Counts
first_counts = record { nodes = 1; references = 0; bytes = 0; root = 0 }

abbrev pub zeroed_tables : Tables → Tables
zeroed_tables T = record { nodes = zeroed T.nodes; references = zeroed T.references; bytes = zeroed T.bytes }

some_nodes : (T : Tables) → wrong T [] ≡ 0 → 1 ≤ length T.nodes / width
unfolding wrong
some_nodes T e = (tables_right _ _ _ _ e).0.one

zeroed_fault : (T : Tables) → 1 ≤ length T.nodes / width → fault (zeroed_tables T) first_counts ≡ none
unfolding zeroed
zeroed_fault T h =
    let n = length-replicate {A = ℕ} (length T.nodes) 0 in
    let z = counts_fit_yes (zeroed_tables T) first_counts (omega arith) (omega (arith, n)) (omega arith) (omega arith) (omega arith) in
    fault_none (zeroed_tables T) first_counts z (one_nil (arena (zeroed_tables T) first_counts) (length T.nodes) (omega arith))

-- what an accepted `new` leaves
pub record Begins (T : Tables) : Type 0 where
  pub none_wrong : wrong T [] ≡ 0
  pub tables : (new_call T).tables ≡ zeroed_tables T
  pub counts : (new_call T).answer.counts ≡ first_counts

pub new_accepted : (T : Tables) → (new_call T).answer.answer ≡ Accepted → Begins T
unfolding new_call new_if
new_accepted T e = go (wrong T []) refl e
  where
    go : (k : ℕ) → wrong T [] ≡ k → (new_if k T).answer.answer ≡ Accepted → Begins T
    go zero z e = record { none_wrong = z; tables = ap (λ (k : ℕ). (new_if k T).tables) z; counts = ap (λ (k : ℕ). (new_if k T).answer.counts) z }
    go (suc k) z e = apart (cc)

-- is well formed
pub new_well_formed : (T : Tables) → (new_call T).answer.answer ≡ Accepted → fault (new_call T).tables (new_call T).answer.counts ≡ none
new_well_formed T e =
    let b = new_accepted T e in
    rw (b.tables, b.counts) (zeroed_fault T (some_nodes T b.none_wrong))
