-- When two arenas hold the same graph (01, "Same graph"; 02, 2.1, 2.4 and 2.9).
use Rattle.std.specs.Prelude.{ℕ, ◌*◌, ◌≤◌, Bool, true, false, List, [], ◌∷◌, ◌++◌, ◌≡◌}
use Rattle.std.proofs.Math.Option.{some}
use Rattle.std.proofs.Math.ListN.{get_elem?}
use Rattle.definition.specs.Node.{Row, Vars, nil, bool, fixnum, symbol, array, hash, object, string, user, float, bignum, absent, present, kind, optional_node, optional_present}
use Rattle.definition.specs.Magnitude.{magnitude}
use Rattle.definition.specs.Arena.{Arena, node, range}

-- "kinds, bool and fixnum values, byte strings, counts and presence of defaults and variables"
-- "Values equal in sign and magnitude": of a Bignum the magnitude is the value, and a minus is present or not; class names are "paired or both absent"
pub record Header : Type 0 where
  pub kind : ℕ
  pub value : ℕ
  pub bytes : List ℕ
  pub count : ℕ
  pub presence : Bool
  pub class : Bool

-- a header by its fields
abbrev pub header_of : ℕ → ℕ → List ℕ → ℕ → Bool → Bool → Header
header_of k v bs n p c = record { kind = k; value = v; bytes = bs; count = n; presence = p; class = c }

-- how many variables
unfoldable pub vars_count : Vars → ℕ
vars_count absent = 0
vars_count (present s n) = n

-- "presence of .. variables"
unfoldable pub vars_present : Vars → Bool
vars_present absent = false
vars_present (present s n) = true

-- a row's header
unfoldable pub header : Arena → Row → Header
header A nil = header_of 0 0 [] 0 false false
header A (bool false) = header_of 1 0 [] 0 false false
header A (bool true) = header_of 1 1 [] 0 false false
header A (fixnum w) = header_of 2 w [] 0 false false
header A (symbol s l) = header_of 3 0 (range A.bytes s l) 0 false false
header A (array s n w) = header_of 4 0 [] n false (optional_present w)
header A (hash s n d w) = header_of 5 0 [] n (optional_present d) (optional_present w)
header A (object s n c) = header_of 6 0 [] n false false
header A (string s l v w) = header_of 7 0 (range A.bytes s l) (vars_count v) (vars_present v) (optional_present w)
header A (user s l c v) = header_of 8 0 (range A.bytes s l) (vars_count v) (vars_present v) false
header A (float s l) = header_of 9 0 (range A.bytes s l) 0 false false
header A (bignum low high m) = header_of 10 (magnitude low high) [] 0 m false

-- "names, members in order and defaults"
unfoldable pub vars_links : Arena → Vars → List ℕ
vars_links A absent = []
vars_links A (present s n) = range A.references s (n * 2)

-- a row's name or class, members in order and default: "class names are reachable like other names"
unfoldable pub links : Arena → Row → List ℕ
links A nil = []
links A (bool b) = []
links A (fixnum w) = []
links A (symbol s l) = []
links A (array s n w) = optional_node w ++ range A.references s n
links A (hash s n d w) = optional_node w ++ (range A.references s (n * 2) ++ optional_node d)
links A (object s n c) = c ∷ range A.references s (n * 2)
links A (string s l v w) = optional_node w ++ vars_links A v
links A (user s l c v) = c ∷ vars_links A v
links A (float s l) = []
links A (bignum low high m) = []

-- "Reachable are the root and each reachable node's name node, members (all nodes in its list) and default"
pub data Reachable (A : Arena) : ℕ → Type 0 where
  root : Reachable A A.root
  link : {v : ℕ} → Reachable A v → (k w : ℕ) → get_elem? (links A (node A v)) k ≡ some w → Reachable A w

-- two lists of nodes, paired in order
pub data Paired (R : ℕ → ℕ → Type 0) : List ℕ → List ℕ → Type 0 where
  none : Paired R [] []
  one : {a b : ℕ} {l m : List ℕ} → R a b → Paired R l m → Paired R (a ∷ l) (b ∷ m)

-- "a pairing of the nodes reachable from their roots"
pub record Pairing (P Q : Arena) (R : ℕ → ℕ → Type 0) : Type 0 where
  pub reachable : (a b : ℕ) → R a b → Reachable P a × Reachable Q b
  pub roots : R P.root Q.root
  pub headers : (a b : ℕ) → R a b → header P (node P a) ≡ header Q (node Q b)
  pub members : (a b : ℕ) → R a b → Paired R (links P (node P a)) (links Q (node Q b))
  -- "No node of kinds 3 to 8 has two partners"; "no Float has two partners"; Bignums: "each with one partner"
  pub left : (a b c : ℕ) → R a b → R a c → 3 ≤ kind (node P a) → b ≡ c
  pub right : (a b c : ℕ) → R a c → R b c → 3 ≤ kind (node Q c) → a ≡ b

-- "Two arenas hold the same graph exactly when there is a pairing"
abbrev pub SameGraph : Arena → Arena → Type 1
SameGraph P Q = (R : ℕ → ℕ → Type 0) × Pairing P Q R
