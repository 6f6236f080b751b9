-- The arena: lent tables and counts, what they hold, and when they are well formed (01, "The arena"; 02, 2.1, 2.3, 2.4 and 2.9).
use Rattle.std.specs.Prelude.{ℕ, zero, suc, ◌+◌, ◌-◌, ◌*◌, ◌/◌, ◌%◌, Bool, true, false, not, ◌&&◌, ◌||◌, List, [], ◌∷◌, ◌++◌, ltb, leb, eqb, length, get_or, take, drop, replicate}
use Rattle.std.proofs.Math.Option.{Option, none, some}
use Rattle.definition.specs.Run.{Run, pure, refuse, pick}
use Rattle.definition.specs.Node.{Row, Vars, nil, bool, fixnum, symbol, array, hash, object, string, user, float, bignum, absent, present, width, START, LENGTH, symbol_kind, kind, word, row, rows, is_row, equal, optional_node}
use Rattle.definition.specs.Slice.{greatest_length}
use Rattle.definition.specs.Magnitude.{fits, magnitude}
use Rattle.definition.specs.declared.Counts.{Counts}
use Rattle.definition.specs.declared.Fault.{Fault}
use Rattle.definition.specs.declared.Fault.TheVariants.{Counts as BadCounts, Node}
use Rattle.definition.specs.declared.Refusal.TheVariants.{BadTables, BadArena}

-- ---- slices that are lent

-- "No lent slice in this paper .. has more than 2,147,483,647 entries"
unfoldable pub too_long : ℕ → Bool
too_long n = ltb greatest_length n

-- nodes: "a whole number of nodes, at least one"
unfoldable pub bad_nodes : ℕ → Bool
bad_nodes n = too_long n || eqb n 0 || not (eqb (n % width) 0)

-- "The lowest wrong slice number is named": the first whose test holds, or 0; the tests stand in the order of their numbers
unfoldable pub lowest : List (ℕ × Bool) → ℕ
lowest [] = 0
lowest (t ∷ ts) = pick t.1 t.0 (lowest ts)

-- BAD-TABLES with the slice's number, if there is one
unfoldable pub allowed : {S : Type 0} → ℕ → Run S (Unit {0})
allowed zero = pure tt
allowed (suc slice) = refuse (BadTables (suc slice))

-- the list and then zeros, as long as the table
unfoldable pub padded : List ℕ → List ℕ → List ℕ
padded table l = l ++ replicate (length table - length l) 0

-- the table with every entry zero
unfoldable pub zeroed : List ℕ → List ℕ
zeroed table = replicate (length table) 0

-- ---- what tables and counts hold

-- the three tables as lent: "nodes .., references .., bytes"
pub record Tables : Type 0 where
  pub nodes : List ℕ
  pub references : List ℕ
  pub bytes : List ℕ

-- the three put together
abbrev pub tables_of : List ℕ → List ℕ → List ℕ → Tables
tables_of n r b = record { nodes = n; references = r; bytes = b }

-- "Four counts travel by value: nodes, references, bytes, root"
abbrev pub counts_of : ℕ → ℕ → ℕ → ℕ → Counts
counts_of n r b root = record { nodes = n; references = r; bytes = b; root = root }

-- the used part of the tables
pub record Arena : Type 0 where
  pub nodes : List Row
  pub references : List ℕ
  pub bytes : List ℕ
  pub root : ℕ

-- the used part of tables, by "Four counts .. : nodes, references, bytes, root"
unfoldable pub arena : Tables → Counts → Arena
arena T c = record { nodes = rows c.nodes T.nodes; references = take c.references T.references; bytes = take c.bytes T.bytes; root = c.root }

-- the row of a node
unfoldable pub node : Arena → ℕ → Row
node A i = get_or A.nodes i nil

-- n entries from the start given
unfoldable pub range : List ℕ → ℕ → ℕ → List ℕ
range l start n = take n (drop start l)

-- a symbol's name
unfoldable pub name_of : List ℕ → Row → List ℕ
name_of bytes r = pick (eqb (kind r) symbol_kind) (range bytes (word r START) (word r LENGTH)) []

-- the first of each pair
unfoldable pub firsts : List ℕ → List ℕ
firsts [] = []
firsts (a ∷ []) = a ∷ []
firsts (a ∷ b ∷ l) = a ∷ firsts l

-- ---- well formed

-- "members below the node count"
unfoldable pub all_below : ℕ → List ℕ → Bool
all_below n [] = true
all_below n (m ∷ ms) = pick (ltb m n) (all_below n ms) false

-- "names of kind 3"
unfoldable pub is_name : Arena → ℕ → Bool
is_name A i = eqb (kind (node A i)) symbol_kind

-- each of these is a name of kind 3
unfoldable pub all_names : Arena → List ℕ → Bool
all_names A [] = true
all_names A (m ∷ ms) = pick (is_name A m) (all_names A ms) false

-- "byte and list ranges inside the counts wherever they start"
unfoldable pub bytes_right : Arena → ℕ → ℕ → Bool
bytes_right A start n = leb (start + n) (length A.bytes)

-- a list's range and members
unfoldable pub list_right : Arena → ℕ → ℕ → Bool
list_right A start n = leb (start + n) (length A.references) && all_below (length A.nodes) (range A.references start n)

-- pairs of a name and a value
unfoldable pub pairs_right : Arena → ℕ → ℕ → Bool
pairs_right A start n = list_right A start (n * 2) && all_names A (firsts (range A.references start (n * 2)))

-- a variable list, where there is one
unfoldable pub vars_right : Arena → Vars → Bool
vars_right A absent = true
vars_right A (present start n) = pairs_right A start n

-- a class, where there is one, is a name too: "class name node + 1 or zero"
unfoldable pub class_right : Arena → ℕ → Bool
class_right A w = all_names A (optional_node w)

-- a Bignum: "Magnitudes run to 2^63 − 1; zero is plus; a node that breaks either is BAD-ARENA"
unfoldable pub number_right : ℕ → Bool → Bool
number_right m minus = fits m && not (minus && eqb m 0)

-- the ranges, members and names of a row, by its kind
unfoldable pub row_right : Arena → Row → Bool
row_right A nil = true
row_right A (bool b) = true
row_right A (fixnum w) = true
row_right A (symbol s l) = bytes_right A s l
row_right A (array s n w) = list_right A s n && class_right A w
row_right A (hash s n d w) = list_right A s (n * 2) && leb d (length A.nodes) && class_right A w
row_right A (object s n c) = is_name A c && pairs_right A s n
row_right A (string s l v w) = bytes_right A s l && vars_right A v && class_right A w
row_right A (user s l c v) = bytes_right A s l && is_name A c && vars_right A v
row_right A (float s l) = bytes_right A s l
row_right A (bignum low high m) = number_right (magnitude low high) m

-- "each word as above", ranges, members and names
unfoldable pub node_right : Arena → List ℕ → Bool
node_right A ws = is_row ws && row_right A (row ws)

-- "counts fit the tables, node count at least 1, root below it"
unfoldable pub counts_fit : Tables → Counts → Bool
counts_fit T c = leb 1 c.nodes && leb c.nodes (length T.nodes / width) && leb c.references (length T.references) && leb c.bytes (length T.bytes) && ltb c.root c.nodes

-- the lowest node that breaks a rule, of the n nodes from node i on
unfoldable pub faulty : Arena → ℕ → ℕ → List ℕ → Option Fault
faulty A zero i table = none
faulty A (suc n) i table = pick (node_right A (take width table)) (faulty A n (suc i) (drop width table)) (some (Node i))

-- counts come before nodes
unfoldable pub fault_if : Bool → Tables → Counts → Option Fault
fault_if true T c = faulty (arena T c) c.nodes 0 T.nodes
fault_if false T c = some BadCounts

-- what is not well formed
unfoldable pub fault : Tables → Counts → Option Fault
fault T c = fault_if (counts_fit T c) T c

-- BAD-ARENA with the fault, if there is one
unfoldable pub sound : {S : Type 0} → Option Fault → Run S (Unit {0})
sound none = pure tt
sound (some f) = refuse (BadArena f)

-- ---- symbols by name

-- a symbol with that name?
unfoldable pub named : List ℕ → List ℕ → Row → Bool
named bytes name r = eqb (kind r) symbol_kind && equal name (name_of bytes r)

-- "the lowest symbol node with that name", of nodes that are numbered from i on
unfoldable pub find_symbol : List ℕ → List ℕ → List Row → ℕ → Option ℕ
find_symbol bytes name [] i = none
find_symbol bytes name (r ∷ rs) i = pick (named bytes name r) (some i) (find_symbol bytes name rs (suc i))

-- ---- bytes compared in a search

-- of two byte strings: "up to and including the first difference"
unfoldable pub bytes_compared : List ℕ → List ℕ → ℕ
bytes_compared [] ys = 0
bytes_compared (x ∷ xs) [] = 0
bytes_compared (x ∷ xs) (y ∷ ys) = suc (pick (eqb x y) (bytes_compared xs ys) 0)

-- of a name and a node's, if that is a "symbol node of its length"
unfoldable pub compared_with : List ℕ → List ℕ → Row → ℕ
compared_with bytes name r = pick (eqb (kind r) symbol_kind && eqb (length name) (length (name_of bytes r))) (bytes_compared name (name_of bytes r)) 0

-- "with every symbol node .. from the lowest to its match or the last"
unfoldable pub compared_among : List ℕ → List ℕ → List Row → ℕ
compared_among bytes name [] = 0
compared_among bytes name (r ∷ rs) = compared_with bytes name r + pick (named bytes name r) 0 (compared_among bytes name rs)
