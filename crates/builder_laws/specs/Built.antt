-- The builder's laws: an accepted call leaves a well-formed arena, keeps what was there, and its node is the one asked for.
use Rattle.std.specs.Prelude.{ℕ, ◌*◌, ◌≤◌, ◌<◌, ◌≡◌, ◌&&◌, List, [], length, take}
use Rattle.std.proofs.Math.Path.{refl}
use Rattle.std.proofs.Common.{ap, ◌∙◌}
use Rattle.std.proofs.Math.Bool.{true}
use Rattle.std.proofs.Math.Option.{none, some}
use Rattle.std.proofs.Math.Seq.{length-sets}
use native.Mathlib.Omega.{arith}
use Rattle.definition.specs.Run.{ok}
use Rattle.definition.specs.Node.{Row, symbol, words, row, is_row, width}
use Rattle.definition.specs.Arena.{Arena, arena, node, range, row_right, node_right, fault, find_symbol}
use Rattle.definition.specs.State.{State}
use Rattle.definition.specs.Load.{begin}
use Rattle.definition.specs.Build.{Lent, held, words_at, exchange_root}
use Rattle.definition.specs.Graph.{header, links}
use Rattle.lists.specs.Lists.{At, at_lt}
use Rattle.lists.specs.Tables.{words_faulty, counts_fit_yes, fault_none}
use Rattle.graph.specs.View.{arena_of}
use Rattle.well_formed.specs.Nodes.{at_node}
use Rattle.lists.specs.Joined.{and_left, and_right, yes_and}
use Rattle.well_formed.specs.Right.{fault_fit, fault_rows}
use Rattle.builder_laws.specs.Tables.{take_before, words_before}
use Rattle.builder_laws.specs.Grown.{grown, node_grown, links_grown, header_grown, right_in}
use Rattle.builder_laws.specs.Append.{fault_words, Room, appended, held_appended, fault_appended}
use Rattle.builder_laws.specs.Calls.{Builder, move_root, run, Makes, rooted, Did, added, known, moved, did}
use Rattle.states.specs.States.{seen_at_inv}
use Rattle.states.specs.Symbols.{symbol_of, found}
use Rattle.states.specs.Right.{Onward, right_yes, row_onward}
use Rattle.states.specs.Rows.{links_same, header_same}

-- ---- the root moved

module _ (L : Lent) (n : ℕ) where
  abbrev R : Lent
  R = rooted L n

  -- no test but that of the counts, and no link or header, looks at the root
  on_rooted : Onward (held L) (held R)
  unfolding arena
  on_rooted = record { count = omega arith; names = λ c x. x; more_bytes = omega arith; more_words = omega arith }

  right_rooted : (q : Row) → row_right (held L) q ≡ true → row_right (held R) q ≡ true
  unfolding arena
  right_rooted q e = right_yes (held R) q (row_onward (held L) (held R) q on_rooted refl (right_in (held L) q e))

  links_rooted : (q : Row) → links (held R) q ≡ links (held L) q
  unfolding arena
  links_rooted q = links_same (held L) (held R) q refl

  header_rooted : (q : Row) → header (held R) q ≡ header (held L) q
  unfolding arena
  header_rooted q = header_same (held L) (held R) q refl

  fault_rooted : n < L.counts.nodes → fault L.tables L.counts ≡ none → fault R.tables R.counts ≡ none
  unfolding node_right
  fault_rooted h e =
      let f = fault_fit L.tables L.counts e in
      let z = counts_fit_yes R.tables R.counts f.some_node f.nodes_fit f.references_fit f.bytes_fit h in
      fault_none R.tables R.counts z
      (words_faulty (held R) L.counts.nodes 0 L.tables.nodes
      λ i l.
      let ws = words_at L.tables.nodes i in
      let x : is_row ws && row_right (held L) (row ws) ≡ true = fault_words L.tables L.counts e i l in
      yes_and _ _ (and_left (is_row ws) (row_right (held L) (row ws)) x) (right_rooted (row ws) (and_right (is_row ws) (row_right (held L) (row ws)) x)))

-- ---- what was there

pub record Kept (L M : Lent) : Type 0 where
  -- every node's words, row, header and links
  pub words : (i : ℕ) → i < L.counts.nodes → words_at M.tables.nodes i ≡ words_at L.tables.nodes i
  pub rows : (i : ℕ) → i < L.counts.nodes → node (held M) i ≡ node (held L) i
  pub headers : (i : ℕ) → i < L.counts.nodes → header (held M) (node (held M) i) ≡ header (held L) (node (held L) i)
  pub links : (i : ℕ) → i < L.counts.nodes → links (held M) (node (held M) i) ≡ links (held L) (node (held L) i)
  -- the used parts of the other tables
  pub references : take L.counts.references M.tables.references ≡ take L.counts.references L.tables.references
  pub bytes : take L.counts.bytes M.tables.bytes ≡ take L.counts.bytes L.tables.bytes
  -- counts only grow
  pub nodes_grow : L.counts.nodes ≤ M.counts.nodes
  pub references_grow : L.counts.references ≤ M.counts.references
  pub bytes_grow : L.counts.bytes ≤ M.counts.bytes
  -- tables are as long as they were
  pub nodes_length : length M.tables.nodes ≡ length L.tables.nodes
  pub references_length : length M.tables.references ≡ length L.tables.references
  pub bytes_length : length M.tables.bytes ≡ length L.tables.bytes

kept_same : (L : Lent) → Kept L L
kept_same L = record {
  words = λ i h. refl;
  rows = λ i h. refl;
  headers = λ i h. refl;
  links = λ i h. refl;
  references = refl;
  bytes = refl;
  nodes_grow = omega arith;
  references_grow = omega arith;
  bytes_grow = omega arith;
  nodes_length = refl;
  references_length = refl;
  bytes_length = refl;
}

node_rooted : (L : Lent) (n i : ℕ) → node (held (rooted L n)) i ≡ node (held L) i
unfolding node arena
node_rooted L n i = refl

kept_rooted : (L : Lent) (n : ℕ) → Kept L (rooted L n)
kept_rooted L n = record {
  words = λ i h. refl;
  rows = λ i h. node_rooted L n i;
  headers = λ i h. ap (header (held (rooted L n))) (node_rooted L n i) ∙ header_rooted L n (node (held L) i);
  links = λ i h. ap (links (held (rooted L n))) (node_rooted L n i) ∙ links_rooted L n (node (held L) i);
  references = refl;
  bytes = refl;
  nodes_grow = omega arith;
  references_grow = omega arith;
  bytes_grow = omega arith;
  nodes_length = refl;
  references_length = refl;
  bytes_length = refl;
}

module _ (L : Lent) (bs ms : List ℕ) (r : Row) (e : fault L.tables L.counts ≡ none) (ρ : Room L bs ms) where
  abbrev M : Lent
  M = appended L bs ms r

  abbrev G : Arena
  G = grown (held L) bs ms r

  below : (i : ℕ) → i < L.counts.nodes → i < length (held L).nodes
  below i h = rw (fault_fit L.tables L.counts e).nodes h

  row_kept : (i : ℕ) → i < L.counts.nodes → row_right (held L) (node (held L) i) ≡ true
  row_kept i h = fault_rows L.tables L.counts e i (node (held L) i) (at_node (held L) i (below i h))

  node_kept : (i : ℕ) → i < L.counts.nodes → node (held M) i ≡ node (held L) i
  node_kept i h = rw (held_appended L bs ms r ρ) (node_grown (held L) bs ms r i (below i h))

  header_kept : (i : ℕ) → i < L.counts.nodes → header (held M) (node (held M) i) ≡ header (held L) (node (held L) i)
  header_kept i h = rw (held_appended L bs ms r ρ) (ap (header G) (node_grown (held L) bs ms r i (below i h)) ∙ header_grown (held L) bs ms r (node (held L) i) (row_kept i h))

  links_kept : (i : ℕ) → i < L.counts.nodes → links (held M) (node (held M) i) ≡ links (held L) (node (held L) i)
  links_kept i h = rw (held_appended L bs ms r ρ) (ap (links G) (node_grown (held L) bs ms r i (below i h)) ∙ links_grown (held L) bs ms r (node (held L) i) (row_kept i h))

  kept_appended : Kept L M
  kept_appended = record {
    words = λ i h. words_before r L.tables.nodes L.counts.nodes i h;
    rows = node_kept;
    headers = header_kept;
    links = links_kept;
    references = take_before ms L.tables.references L.counts.references L.counts.references (omega arith);
    bytes = take_before bs L.tables.bytes L.counts.bytes L.counts.bytes (omega arith);
    nodes_grow = omega arith;
    references_grow = omega arith;
    bytes_grow = omega arith;
    nodes_length = length-sets L.tables.nodes (L.counts.nodes * width) (words r);
    references_length = length-sets L.tables.references L.counts.references ms;
    bytes_length = length-sets L.tables.bytes L.counts.bytes bs;
  }

-- ---- a known name

-- the node found has the name
pub known_row : (A : Arena) (name : List ℕ) (h : ℕ) → find_symbol A.bytes name A.nodes 0 ≡ some h → (a : ℕ) × (l : ℕ) × At A.nodes h (symbol a l) × (range A.bytes a l ≡ name)
known_row A name h e =
    let s : State = record { at = 0; nodes = A.nodes; references = A.references; bytes = A.bytes; symbols = []; objects = []; notes = begin.notes } in
    let (r, p, q) = seen_at_inv s h _ (found s name h e) in
    let (a, l, z, y) = symbol_of (arena_of s 0) name r q in
    (a, l, rw (← z) p, y)

-- ---- the laws

module _ (L M : Lent) (h : ℕ) where
  -- the arena left is well formed, and the answer is a node of it
  pub built_well_formed : (c : Builder) → run c L ≡ ok h M → (fault M.tables M.counts ≡ none) × (h < M.counts.nodes)
  built_well_formed c e = let (s, d) = did L M h c e in go s d
    where
      go : {c : Builder} → fault L.tables L.counts ≡ none → Did L h M c → (fault M.tables M.counts ≡ none) × (h < M.counts.nodes)
      go s (added m v a) = rw a.left (fault_appended L _ _ _ a.room s a.right, omega (arith, a.handle))
      go s (known {name} p q) =
          let (a, l, x, y) = known_row (held L) name h p in
          rw q (s, rw (fault_fit L.tables L.counts s).nodes at (at_lt (held L).nodes h (symbol a l) x))
      go s (moved {n} l p q) = rw q (fault_rooted L n l s, omega (arith, p, (fault_fit L.tables L.counts s).root_below))

  -- what was there before reads the same
  pub built_kept : (c : Builder) → run c L ≡ ok h M → Kept L M
  built_kept c e = let (s, d) = did L M h c e in go s d
    where
      go : {c : Builder} → fault L.tables L.counts ≡ none → Did L h M c → Kept L M
      go s (added m v a) = rw a.left (kept_appended L _ _ _ s a.room)
      go s (known p q) = rw q (kept_same L)
      go s (moved {n} l p q) = rw q (kept_rooted L n)

  -- the root stays, but for the call that moves it
  pub built_root : (c : Builder) → Makes c → run c L ≡ ok h M → M.counts.root ≡ L.counts.root
  built_root c m e = go m (did L M h c e).1
    where
      go : {c : Builder} → Makes c → Did L h M c → M.counts.root ≡ L.counts.root
      go m (added _ v a) = rw a.left
      go m (known p q) = rw q
      go m (moved l p q) = absurd m

  pub root_moved : (n : ℕ) → exchange_root n L ≡ ok h M → (h ≡ L.counts.root) × (M.counts.root ≡ n) × (M.tables ≡ L.tables)
  root_moved n e = go (did L M h (move_root n) e).1
    where
      go : Did L h M (move_root n) → (h ≡ L.counts.root) × (M.counts.root ≡ n) × (M.tables ≡ L.tables)
      go (added m v a) = absurd m
      go (moved l p q) = (p, rw q, rw q)
