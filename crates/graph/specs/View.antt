-- An arena's rows as nodes of a graph.
use Rattle.std.specs.Prelude.{ℕ, zero, suc, ◌<◌, ◌≡◌, refl, Bool, true, false, List, [], map, length}
use Rattle.std.proofs.Common.{append-nil}
use Rattle.definition.specs.Node.{Row, nil, bool, fixnum, symbol, array, hash, object, string, user, float, bignum, absent, kind, optional_node, optional_present}
use Rattle.definition.specs.Arena.{Arena, node, range}
use Rattle.definition.specs.State.{State}
use Rattle.definition.specs.Graph.{Header, header_of, header, links, vars_links, vars_count, vars_present}
use Rattle.lists.specs.Lists.{apart, At, at_lt, map_at, map_at_inv}
use Rattle.well_formed.specs.Nodes.{node_at}
use Rattle.graph.specs.Forest.{Node, leaf, sym, box, Texted, text_string, text_float}
use Rattle.graph.specs.Build.{St}

-- a header and links as a node: a leaf for kinds 0 to 2, a symbol for 3, a box from 4 on
abbrev pub node_by_kind : ℕ → Header → List ℕ → Node
node_by_kind zero h ms = leaf 0 h.value
node_by_kind (suc zero) h ms = leaf 1 h.value
node_by_kind (suc (suc zero)) h ms = leaf 2 h.value
node_by_kind (suc (suc (suc zero))) h ms = sym h.bytes
node_by_kind (suc (suc (suc (suc k)))) h ms = box h ms

abbrev pub node_of : Header → List ℕ → Node
node_of h ms = node_by_kind h.kind h ms

-- only the arena's references and bytes matter
unfoldable pub see : Arena → Row → Node
see A r = node_of (header A r) (links A r)

pub header_kind : (A : Arena) (r : Row) → (header A r).kind ≡ kind r
unfolding header kind
header_kind A nil = refl
header_kind A (bool false) = refl
header_kind A (bool true) = refl
header_kind A (fixnum w) = refl
header_kind A (symbol s l) = refl
header_kind A (array s n w) = refl
header_kind A (hash s n d w) = refl
header_kind A (object s n c) = refl
header_kind A (string s l v w) = refl
header_kind A (user s l c v) = refl
header_kind A (float s l) = refl
header_kind A (bignum low high m) = refl

-- the headers and links that rows have: a leaf's value and a symbol's bytes stand alone
pub data Headed : Header → List ℕ → Type 0 where
  nil_headed : (x : ℕ) → Headed (header_of 0 x [] 0 false false) []
  bool_headed : (x : ℕ) → Headed (header_of 1 x [] 0 false false) []
  fixnum_headed : (x : ℕ) → Headed (header_of 2 x [] 0 false false) []
  symbol_headed : (b : List ℕ) → Headed (header_of 3 0 b 0 false false) []
  box_headed : (k x : ℕ) (b : List ℕ) (n : ℕ) (p c : Bool) (ms : List ℕ) → Headed (header_of (suc (suc (suc (suc k)))) x b n p c) ms

pub headed : (A : Arena) (r : Row) → Headed (header A r) (links A r)
unfolding header links
headed A nil = nil_headed 0
headed A (bool false) = bool_headed 0
headed A (bool true) = bool_headed 1
headed A (fixnum w) = fixnum_headed w
headed A (symbol s l) = symbol_headed (range A.bytes s l)
headed A (array s n w) = box_headed 0 _ _ _ _ _ _
headed A (hash s n d w) = box_headed 1 _ _ _ _ _ _
headed A (object s n c) = box_headed 2 _ _ _ _ _ _
headed A (string s l v w) = box_headed 3 _ _ _ _ _ _
headed A (user s l c v) = box_headed 4 _ _ _ _ _ _
headed A (float s l) = box_headed 5 _ _ _ _ _ _
headed A (bignum low high m) = box_headed 6 _ _ _ _ _ _

-- the row of a byte string and nothing more, by where its bytes start, how many they are, and a string's class
abbrev pub text_row : {k n : ℕ} {c : Bool} → Texted k n c → ℕ → ℕ → ℕ → Row
text_row text_string s l w = string s l absent w
text_row text_float s l w = float s l

-- no class is the word 0
pub no_class_word : (w : ℕ) → optional_present w ≡ false → w ≡ 0
unfolding optional_present
no_class_word zero e = refl
no_class_word (suc c) e = apart (cc)

-- it is seen as a box whose only member is its class
pub see_text : {k n : ℕ} {c : Bool} (q : Texted k n c) (A : Arena) (s l w : ℕ) (b : List ℕ) → optional_present w ≡ c → range A.bytes s l ≡ b → see A (text_row q s l w) ≡ box (header_of n 0 b 0 false c) (optional_node w)
unfolding see header links vars_count vars_present vars_links optional_node
see_text text_string A s l w b o e = rw (o, e, append-nil (optional_node w)) refl
see_text text_float A s l w b o e = rw (no_class_word w o, e) refl

unfoldable pub seen : Arena → List Node
seen A = map (see A) A.nodes

-- what a load has so far, with the root given
abbrev pub arena_of : State → ℕ → Arena
arena_of s h = record { nodes = s.nodes; references = s.references; bytes = s.bytes; root = h }

unfoldable pub state_seen : State → St
state_seen s = record { nodes = seen (arena_of s 0); objs = s.objects; syms = s.symbols }

-- ---- what is seen at a place

pub see_at : (A : Arena) (i : ℕ) (r : Row) → At A.nodes i r → At (seen A) i (see A r)
unfolding seen
see_at A i r e = map_at (see A) A.nodes i r e

-- what is seen at a place is the node there
pub at_see : (A : Arena) (i : ℕ) (n : Node) → At (seen A) i n → (see A (node A i) ≡ n) × (i < length A.nodes)
unfolding seen
at_see A i n e =
    let (r, a, q) = map_at_inv (see A) A.nodes i n e in
    (rw (node_at A i r a) q, at_lt A.nodes i r a)
