-- A node: its row, and the row as eight words (01, "The arena"; 02, 2.1, 2.4 and 2.9).
use Rattle.std.specs.Prelude.{ℕ, zero, suc, Bool, true, false, List, [], ◌∷◌, ◌++◌, eqb, get_or, take, drop}
use Rattle.definition.specs.Run.{pick}

-- how many words a node has
abbrev pub width : ℕ
width = 8

-- the places of its words: "kind"; "byte start", "byte length"; "list start", "count"; "name node"; "hash default", which for kinds 7 and 8 tells of variables; "class name node + 1 or zero"
abbrev pub KIND : ℕ
KIND = 0

abbrev pub START : ℕ
START = 1

abbrev pub LENGTH : ℕ
LENGTH = 2

abbrev pub LIST : ℕ
LIST = 3

abbrev pub COUNT : ℕ
COUNT = 4

abbrev pub NAME : ℕ
NAME = 5

abbrev pub DEFAULT : ℕ
DEFAULT = 6

abbrev pub CLASS : ℕ
CLASS = 7

-- kinds that a definition asks for by their number
abbrev pub fixnum_kind : ℕ
fixnum_kind = 2

abbrev pub symbol_kind : ℕ
symbol_kind = 3

abbrev pub array_kind : ℕ
array_kind = 4

abbrev pub hash_kind : ℕ
hash_kind = 5

abbrev pub string_kind : ℕ
string_kind = 7

abbrev pub user_kind : ℕ
user_kind = 8

abbrev pub float_kind : ℕ
float_kind = 9

-- the variable list of kinds 7 and 8: none, or its start and its number of pairs
pub data Vars : Type 0 where
  absent : Vars
  present : ℕ → ℕ → Vars

-- a row for each kind: array start count class, hash start pairs default class, object start pairs name, string start length variables class,
-- user-defined start length name variables, float start length, bignum low high minus; a default and a class are 0 for none, else node + 1
pub data Row : Type 0 where
  nil : Row
  bool : Bool → Row
  fixnum : ℕ → Row
  symbol : ℕ → ℕ → Row
  array : ℕ → ℕ → ℕ → Row
  hash : ℕ → ℕ → ℕ → ℕ → Row
  object : ℕ → ℕ → ℕ → Row
  string : ℕ → ℕ → Vars → ℕ → Row
  user : ℕ → ℕ → ℕ → Vars → Row
  float : ℕ → ℕ → Row
  bignum : ℕ → ℕ → Bool → Row

-- "kind: 0 nil, 1 bool, 2 fixnum, 3 symbol, 4 array, 5 hash, 6 object, 7 string, 8 user-defined"; "a new node kind 9"; "The node is kind 10"
unfoldable pub kind : Row → ℕ
kind nil = 0
kind (bool b) = 1
kind (fixnum w) = 2
kind (symbol s l) = 3
kind (array s n w) = 4
kind (hash s n d w) = 5
kind (object s n c) = 6
kind (string s l v w) = 7
kind (user s l c v) = 8
kind (float s l) = 9
kind (bignum low high m) = 10

-- a default's or a class's node, and is there one? 0 for none, else node + 1
unfoldable pub optional_node : ℕ → List ℕ
optional_node zero = []
optional_node (suc i) = i ∷ []

unfoldable pub optional_present : ℕ → Bool
optional_present zero = false
optional_present (suc i) = true

-- a yes or no as a word
abbrev pub flag : Bool → ℕ
flag false = 0
flag true = 1

-- words 3, 4 and 6 of a variable list: "1 if a variable list is present, even an empty one"
abbrev pub vars_start : Vars → ℕ
vars_start absent = 0
vars_start (present p n) = p

abbrev pub vars_pairs : Vars → ℕ
vars_pairs absent = 0
vars_pairs (present p n) = n

abbrev pub vars_flag : Vars → ℕ
vars_flag absent = 0
vars_flag (present p n) = 1

-- the eight words; "unused words are zero"; a Bignum's are "the magnitude in words 1 (low) and 2 (high) and the sign in word 4, 1 for minus"; a class is "allowed only for kinds 4, 5 and 7"
unfoldable pub words : Row → List ℕ
words nil = 0 ∷ 0 ∷ 0 ∷ 0 ∷ 0 ∷ 0 ∷ 0 ∷ 0 ∷ []
words (bool b) = 1 ∷ flag b ∷ 0 ∷ 0 ∷ 0 ∷ 0 ∷ 0 ∷ 0 ∷ []
words (fixnum w) = 2 ∷ w ∷ 0 ∷ 0 ∷ 0 ∷ 0 ∷ 0 ∷ 0 ∷ []
words (symbol s l) = 3 ∷ s ∷ l ∷ 0 ∷ 0 ∷ 0 ∷ 0 ∷ 0 ∷ []
words (array s n w) = 4 ∷ 0 ∷ 0 ∷ s ∷ n ∷ 0 ∷ 0 ∷ w ∷ []
words (hash s n d w) = 5 ∷ 0 ∷ 0 ∷ s ∷ n ∷ 0 ∷ d ∷ w ∷ []
words (object s n c) = 6 ∷ 0 ∷ 0 ∷ s ∷ n ∷ c ∷ 0 ∷ 0 ∷ []
words (string s l v w) = 7 ∷ s ∷ l ∷ vars_start v ∷ vars_pairs v ∷ 0 ∷ vars_flag v ∷ w ∷ []
words (user s l c v) = 8 ∷ s ∷ l ∷ vars_start v ∷ vars_pairs v ∷ c ∷ vars_flag v ∷ 0 ∷ []
words (float s l) = 9 ∷ s ∷ l ∷ 0 ∷ 0 ∷ 0 ∷ 0 ∷ 0 ∷ []
words (bignum low high m) = 10 ∷ low ∷ high ∷ 0 ∷ flag m ∷ 0 ∷ 0 ∷ 0 ∷ []

-- one of a row's words
abbrev pub word : Row → ℕ → ℕ
word r place = get_or (words r) place 0

-- the rows' words, one row after the other
unfoldable pub flat : List Row → List ℕ
flat [] = []
flat (r ∷ rs) = words r ++ flat rs

-- ---- and back

-- the variable list that words 6, 3 and 4 say
unfoldable pub vars : ℕ → ℕ → ℕ → Vars
vars zero p n = absent
vars (suc present?) p n = present p n

-- the row of kind k that words 1 to 7 say, by the words that the kind uses; nil for an unknown kind
unfoldable pub row_of : ℕ → ℕ → ℕ → ℕ → ℕ → ℕ → ℕ → ℕ → Row
row_of k a b s n c f w =
    pick (eqb k 1) (bool (eqb a 1))
    (pick (eqb k 2) (fixnum a)
    (pick (eqb k 3) (symbol a b)
    (pick (eqb k 4) (array s n w)
    (pick (eqb k 5) (hash s n f w)
    (pick (eqb k 6) (object s n c)
    (pick (eqb k 7) (string a b (vars f s n) w)
    (pick (eqb k 8) (user a b c (vars f s n))
    (pick (eqb k 9) (float a b)
    (pick (eqb k 10) (bignum a b (eqb n 1)) nil)))))))))

-- a node's words as a row
unfoldable pub row : List ℕ → Row
row ws = row_of (get_or ws KIND 0) (get_or ws START 0) (get_or ws LENGTH 0) (get_or ws LIST 0) (get_or ws COUNT 0) (get_or ws NAME 0) (get_or ws DEFAULT 0) (get_or ws CLASS 0)

-- n nodes of a table
unfoldable pub rows : ℕ → List ℕ → List Row
rows zero table = []
rows (suc n) table = row (take width table) ∷ rows n (drop width table)

-- are two lists of numbers the same?
unfoldable pub equal : List ℕ → List ℕ → Bool
equal [] [] = true
equal [] (b ∷ bs) = false
equal (a ∷ as') [] = false
equal (a ∷ as') (b ∷ bs) = pick (eqb a b) (equal as' bs) false

-- "each word as above": the words are those of the row that they say
unfoldable pub is_row : List ℕ → Bool
is_row ws = equal ws (words (row ws))
