-- Keys, values and pairs of a hash by the words of the tables, and the place of the last pair with a name.
use Rattle.std.specs.Prelude.{ℕ, suc, ◌+◌, ◌*◌, ◌≤◌, ◌≡◌, Bool, true, false, List, [], ◌∷◌, length, get_or, take, drop, Option, Some, None, Result, Ok, Err}
use Rattle.definition.specs.Run.{ok, refused}
use Rattle.definition.specs.Node.{width, equal, START, LENGTH, LIST, COUNT}
use Rattle.definition.specs.Build.{Lent, check}
use Rattle.definition.specs.Cost.{Line, surviving, sum}
use Rattle.definition.specs.declared.Refusal.{Refusal}

-- word k of node h
abbrev pub word : List ℕ → ℕ → ℕ → ℕ
word nodes h k = get_or nodes (h * width + k) 0

-- node h is in the table, and its bytes are in the byte table
pub record Named (nodes bytes : List ℕ) (h : ℕ) : Type 0 where
  pub inside : h * width + width ≤ length nodes
  pub stored : word nodes h START + word nodes h LENGTH ≤ length bytes

-- node h is in the table, and its value is no more than the greatest Fixnum
pub record Amount (nodes : List ℕ) (h : ℕ) : Type 0 where
  pub inside : h * width + width ≤ length nodes
  pub most : word nodes h START ≤ 2147483647

-- keys and values in turn
abbrev pub Judged : List ℕ → List ℕ → List ℕ → Type 0
Judged nodes bytes l = (i : ℕ) → i * 2 + 2 ≤ length l → Named nodes bytes (get_or l (i * 2) 0) × Amount nodes (get_or l (i * 2 + 1) 0)

-- node h is in the table, and its list of pairs in the references
pub record Listed (nodes references : List ℕ) (h : ℕ) : Type 0 where
  pub inside : h * width + width ≤ length nodes
  pub list : word nodes h LIST + word nodes h COUNT * 2 ≤ length references

-- that list
abbrev pub list_at : List ℕ → List ℕ → ℕ → List ℕ
list_at nodes references h = take (word nodes h COUNT * 2) (drop (word nodes h LIST) references)

-- a name, a pair and pairs
abbrev pub name_at : List ℕ → List ℕ → ℕ → List ℕ
name_at nodes bytes h = take (word nodes h LENGTH) (drop (word nodes h START) bytes)

abbrev pub line_at : List ℕ → List ℕ → ℕ → ℕ → Line
line_at nodes bytes k v = record { key = k; name = name_at nodes bytes k; amount = word nodes v START }

unfoldable pub lines_at : List ℕ → List ℕ → List ℕ → List Line
lines_at nodes bytes [] = []
lines_at nodes bytes (k ∷ []) = []
lines_at nodes bytes (k ∷ v ∷ l) = line_at nodes bytes k v ∷ lines_at nodes bytes l

-- one place further, if there is one; else the first, if it has the name
unfoldable pub place : Bool → Option ℕ → Option ℕ
place b (Some k) = Some (suc k)
place true None = Some 0
place false None = None

-- the place of the last of these with the name
unfoldable pub last : List ℕ → List Line → Option ℕ
last name [] = None
last name (l ∷ ls) = place (equal name l.name) (last name ls)

-- what is lent was checked, and has these tables and this node count
pub record Held (L : Lent) (nodes references : List ℕ) (count : ℕ) : Type 0 where
  pub checked : check [] L ≡ ok tt L
  pub nodes_are : L.tables.nodes ≡ nodes
  pub references_are : L.tables.references ≡ references
  pub count_is : L.counts.nodes ≡ count

-- what pair i of a recipe costs: this much is added to the sum, nothing where it is superseded; or the sum is refused there
abbrev pub Costs : List Line → List Line → ℕ → Result ℕ Refusal → Type 0
Costs recipe prices i (Ok r) = ((total : ℕ) (L : Lent) → sum (surviving prices) total (surviving (drop i recipe)) L ≡ sum (surviving prices) (total + r) (surviving (drop (i + 1) recipe)) L) × (r ≤ 4611686014132421)
Costs recipe prices i (Err q) = (total : ℕ) (L : Lent) → sum (surviving prices) total (surviving (drop i recipe)) L ≡ refused q
