-- When lists lent and how far a load has come hold a state of the definition, and what a reader's answer in code has to mean.
use Rattle.load_state.specs.declared.Progress.{Progress}
use Rattle.std.specs.Prelude as code
use Rattle.std.specs.Prelude.{ℕ, suc, ◌+◌, ◌-◌, ◌*◌, ◌≤◌, ◌<◌, Bool, true, false, ◌≡◌, List, [], ◌∷◌, ltb, eqb, length, get_or, take, drop, is_some, IfSome, Result, MatchResult}
use Rattle.std.proofs.Math.Option.{Option, none, some}
use Rattle.definition.specs.Run.{Outcome, refused, pure, pick}
use Rattle.definition.specs.Node.{Row, nil, kind, words, flat, width, symbol_kind, START, LENGTH}
use Rattle.definition.specs.Arena.{name_of, named, find_symbol}
use Rattle.definition.specs.Buckets.{fnv_1a, searches, empty}
use Rattle.definition.specs.State.{Room, Notes, State, Reader}
use Rattle.definition.specs.declared.Refusal.{Refusal}
use Rattle.definition.specs.Slice.{greatest_length}
use Rattle.reader.specs.Answers.{refusal_at}
use Rattle.reader.specs.declared.Stop.{Stop}

-- ---- what is held

-- the symbol list and the bucket table lent, and whether names are searched for by them
pub record Symbols : Type 0 where
  pub list : List ℕ
  pub buckets : List ℕ
  pub searched : Bool

-- names are searched for on the list, by the bucket table, or by neither, but among the nodes
abbrev pub by_list : List ℕ → Symbols
by_list l = record { list = l; buckets = []; searched = true }

abbrev pub by_buckets : List ℕ → List ℕ → Symbols
by_buckets l b = record { list = l; buckets = b; searched = true }

abbrev pub by_nodes : List ℕ → Symbols
by_nodes l = record { list = l; buckets = []; searched = false }

-- what is lent besides the input
pub record Lent : Type 0 where
  pub nodes : List ℕ
  pub references : List ℕ
  pub bytes : List ℕ
  pub symbols : Symbols
  pub objects : List ℕ

abbrev pub lent : List ℕ → List ℕ → List ℕ → Symbols → List ℕ → Lent
lent n r b y o = record { nodes = n; references = r; bytes = b; symbols = y; objects = o }

-- the table t of the size given begins with the list l
pub record Begins (size : ℕ) (l t : List ℕ) : Type 0 where
  pub fits : length l ≤ size
  pub sized : length t ≡ size
  pub same : take (length l) t ≡ l

-- no table has more than 2^31 - 1 entries
pub record Small (room : Room) : Type 0 where
  pub nodes : room.nodes * width ≤ greatest_length
  pub references : room.references ≤ greatest_length
  pub bytes : room.bytes ≤ greatest_length
  pub symbols : room.symbols ≤ greatest_length
  pub objects : room.objects ≤ greatest_length

-- each entry is below n
abbrev pub AllBelow : ℕ → List ℕ → Type 0
AllBelow n l = (i : ℕ) → i < length l → get_or l i 0 < n

-- a row that is no symbol's; a symbol's
abbrev pub Plain : Row → Type 0
Plain r = kind r ≡ symbol_kind → ⊥

abbrev pub Symbolic : Row → Type 0
Symbolic r = kind r ≡ symbol_kind

-- a symbol's bytes are among the first n
abbrev pub Fit : ℕ → Row → Type 0
Fit n r = kind r ≡ symbol_kind → get_or (words r) START 0 + get_or (words r) LENGTH 0 ≤ n

abbrev pub AllFit : ℕ → List Row → Type 0
AllFit n rows = (i : ℕ) → i < length rows → Fit n (get_or rows i nil)

-- each entry of l is a symbol's node
abbrev pub AllSymbolic : List Row → List ℕ → Type 0
AllSymbolic rows l = (i : ℕ) → i < length l → Symbolic (get_or rows (get_or l i 0) nil)

-- the first entry of a list of nodes that is a symbol with that name
unfoldable pub find_listed : List ℕ → List ℕ → List Row → List ℕ → Option ℕ
find_listed bytes name rows [] = none
find_listed bytes name rows (h ∷ l) = pick (named bytes name (get_or rows h nil)) (some h) (find_listed bytes name rows l)

-- the symbol list names what the nodes name
abbrev pub Names : List ℕ → List Row → List ℕ → Type 0
Names bytes rows l = (name : List ℕ) → find_symbol bytes name rows 0 ≡ find_listed bytes name rows l

-- the numbers of the symbols among rows that are numbered from i on
unfoldable pub symbols_in : ℕ → List Row → List ℕ
symbols_in i [] = []
symbols_in i (r ∷ rows) = pick (eqb (kind r) symbol_kind) (i ∷ symbols_in (suc i) rows) (symbols_in (suc i) rows)

-- the entries from t on that are above all before them
unfoldable pub risen : ℕ → List ℕ → List ℕ
risen t [] = []
risen t (h ∷ l) = pick (ltb h t) (risen t l) (h ∷ risen (suc h) l)

-- each entry of the symbol list is a symbol, the list names what the nodes name, and its entries that are above all before them are the symbols in the order of their numbers
pub record Interned (bytes : List ℕ) (rows : List Row) (l : List ℕ) : Type 0 where
  pub symbolic : AllSymbolic rows l
  pub names : Names bytes rows l
  pub ascending : risen 0 l ≡ symbols_in 0 rows

-- a symbol's name, and its hash
abbrev pub name_at : List ℕ → List Row → ℕ → List ℕ
name_at bytes rows h = name_of bytes (get_or rows h nil)

abbrev pub hashes : List ℕ → List Row → ℕ → ℕ
hashes bytes rows h = fnv_1a (name_at bytes rows h)

-- the bucket table and the words looked at are what the searches for the symbols on the list leave; nodes with one name are one node, and node 0 is none of them; bytes compared are not counted
pub record Hashing (n : ℕ) (bytes : List ℕ) (rows : List Row) (l B : List ℕ) (looked : ℕ) (counts : Bool) : Type 0 where
  pub enough : n ≤ length B
  pub short : length B ≤ greatest_length
  pub filled : searches (hashes bytes rows) l (empty (length B)) ≡ record { words = B; looked = looked }
  pub unique : (i j : ℕ) → i < length l → j < length l → name_at bytes rows (get_or l i 0) ≡ name_at bytes rows (get_or l j 0) → get_or l i 0 ≡ get_or l j 0
  pub nonzero : (i : ℕ) → i < length l → get_or l i 0 ≡ 0 → ⊥
  pub one : 1 ≤ length rows
  pub uncounted : counts ≡ false

-- what does not change: the room and the input's length
pub record Fixed (input : List ℕ) (room : Room) (space : ℕ) : Type 0 where
  pub small : Small room
  pub short : length input ≤ greatest_length
  pub count_space : space ≡ room.nodes

-- what is laid out: each table and list begins with what is held of it
pub record Laid (room : Room) (rows : List Row) (re by sy ob : List ℕ) (T : Lent) : Type 0 where
  pub nodes : Begins (room.nodes * width) (flat rows) T.nodes
  pub references : Begins room.references re T.references
  pub bytes : Begins room.bytes by T.bytes
  pub symbols : Begins room.symbols sy T.symbols.list
  pub objects : Begins room.objects ob T.objects

-- what is counted: the offset, which is inside, and the lengths
pub record Counted (size space at nodes references bytes symbols objects : ℕ) (c : Progress) : Type 0 where
  pub count_at : c.at ≡ at
  pub inside : at ≤ size
  pub count_nodes : c.nodes ≡ nodes
  pub room_nodes : nodes ≤ space
  pub count_references : c.references ≡ references
  pub count_bytes : c.bytes ≡ bytes
  pub count_symbols : c.symbols ≡ symbols
  pub count_objects : c.objects ≡ objects

-- what is noted, of so many bytes, with a bound of the bytes compared
pub record Noted (n : Notes) (bytes bound : ℕ) (in_form : Bool) (count : code.Option ℕ) : Type 0 where
  pub form : in_form ≡ n.form
  pub counted : IfSome count (λ k. k ≡ n.compared)
  pub copied : n.copied ≡ bytes
  pub compared : n.compared ≤ bound

-- what the searches for names rest on: the symbol list, and the bucket table where there is one
pub record Naming (n : ℕ) (bytes : List ℕ) (rows : List Row) (l : List ℕ) (y : Symbols) (looked : ℕ) (counts : Bool) : Type 0 where
  pub interned : Interned bytes rows l
  pub hashed : (y.buckets ≡ [] → ⊥) → Hashing n bytes rows l y.buckets looked counts

-- what is known of entries and of symbols' bytes, and of names where they are searched for by the list or the bucket table
pub record Known (n : ℕ) (bytes : List ℕ) (rows : List Row) (l ob : List ℕ) (y : Symbols) (looked : ℕ) (counts : Bool) : Type 0 where
  pub below : AllBelow (length rows) ob
  pub entries : AllBelow (length rows) l
  pub fit : AllFit (length bytes) rows
  pub names : y.searched ≡ true → Naming n bytes rows l y looked counts

pub record Holds (input : List ℕ) (room : Room) (s : State) (T : Lent) (c : Progress) : Type 0 where
  pub fixed : Fixed input room c.room
  pub laid : Laid room s.nodes s.references s.bytes s.symbols s.objects T
  pub counted : Counted (length input) room.nodes s.at (length s.nodes) (length s.references) (length s.bytes) (length s.symbols) (length s.objects) c
  pub noted : Noted s.notes (length s.bytes) (s.at * length s.nodes) c.form c.compared
  pub known : Known room.nodes s.bytes s.nodes s.symbols s.objects T.symbols c.looked (is_some c.compared)

-- some state is held
pub record Held (input : List ℕ) (T : Lent) (c : Progress) : Type 0 where
  pub room : Room
  pub state : State
  pub holds : Holds input room state T c

-- some state is held with some tables
pub record Somewhere (input : List ℕ) (c : Progress) : Type 0 where
  pub tables : Lent
  pub held : Held input tables c

-- ---- what a reader meets

-- nodes and references never grow fewer, and a row that is no symbol's never becomes one
pub record Grown (s s' : State) : Type 0 where
  pub nodes : length s.nodes ≤ length s'.nodes
  pub references : length s.references ≤ length s'.references
  pub plain : (i : ℕ) → i < length s.nodes → Plain (get_or s.nodes i nil) → Plain (get_or s'.nodes i nil)

-- a list did not grow shorter, and behind it its table is what it was
pub record Kept (l l' t t' : List ℕ) : Type 0 where
  pub longer : length l ≤ length l'
  pub behind : drop (length l') t' ≡ drop (length l') t

-- behind what is held each table and list is what it was
pub record Behind (s s' : State) (T T' : Lent) : Type 0 where
  pub searched : T'.symbols.searched ≡ false
  pub nodes : Kept (flat s.nodes) (flat s'.nodes) T.nodes T'.nodes
  pub references : Kept s.references s'.references T.references T'.references
  pub bytes : Kept s.bytes s'.bytes T.bytes T'.bytes
  pub symbols : Kept s.symbols s'.symbols T.symbols.list T'.symbols.list
  pub objects : Kept s.objects s'.objects T.objects T'.objects

-- the outcome o at the state s is that of m' at a state that is held after; where names are searched for among the nodes, nothing behind it changed
pub record Went {A : Type 0} (input : List ℕ) (room : Room) (s : State) (o : Outcome State A) (m' : Reader A) (T T' : Lent) (c' : Progress) : Type 0 where
  pub state : State
  pub holds : Holds input room state T' c'
  pub same : o ≡ m' state
  pub grown : Grown s state
  pub behind : T.symbols.searched ≡ false → Behind s state T T'

-- where m begins at a state that is held first, it is at m' at a state that is held after; bytes compared are counted after if they were before
pub record Goes {A : Type 0} (input : List ℕ) (room : Room) (m : Reader A) (T : Lent) (c : Progress) (m' : Reader A) (T' : Lent) (c' : Progress) : Type 0 where
  pub goes : (s : State) → Holds input room s T c → Went input room s (m s) m' T T' c'
  pub counts : is_some c'.compared ≡ is_some c.compared

-- m is refused with q
pub record Refuses {A : Type 0} (input : List ℕ) (room : Room) (m : Reader A) (T : Lent) (c : Progress) (q : Refusal) : Type 0 where
  pub refuses : (s : State) → Holds input room s T c → m s ≡ refused q

-- by the answer r: m has come to m' of its value, or it is refused
pub record Leads {A V : Type 0} (input : List ℕ) (room : Room) (limit : ℕ) (m : Reader A) (m' : V → Reader A) (T : Lent) (c : Progress) (r : Result V Stop) (T' : Lent) (c' : Progress) : Type 0 where
  pub led : MatchResult r (λ v. Goes input room m T c (m' v) T' c') (λ q. Refuses input room m T c (refusal_at limit q.code))

-- the answer is m's own; it is the length of the bytes that m gives, which stand before the offset
abbrev pub Meets : {A : Type 0} → List ℕ → Room → ℕ → Reader A → Lent → Progress → Result A Stop → Lent → Progress → Type 0
Meets input room limit m T c r T' c' = Leads input room limit m pure T c r T' c'

abbrev pub span : List ℕ → ℕ → ℕ → List ℕ
span input at n = take n (drop (at - n) input)

abbrev pub span_of : List ℕ → Progress → ℕ → List ℕ
span_of input c n = span input c.at n

abbrev pub Spans : List ℕ → Room → ℕ → Reader (List ℕ) → Lent → Progress → Result ℕ Stop → Lent → Progress → Type 0
Spans input room limit m T c r T' c' = Leads input room limit m (λ n. pure (span_of input c' n)) T c r T' c'

-- h is a node's number, which is less than a word holds
abbrev pub Numbered : Progress → ℕ → Type 0
Numbered c h = (h < c.nodes) × (h < 4294967296)

-- node h is no symbol
abbrev pub Free : List ℕ → ℕ → Type 0
Free nodes h = get_or nodes (h * width) 0 ≡ symbol_kind → ⊥
