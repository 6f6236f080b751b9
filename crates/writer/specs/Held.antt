-- What output, scratch and counts hold of the definition's state, and what a writer in code has to meet.
use Rattle.std.specs.Prelude.{ℕ, zero, suc, ◌+◌, ◌*◌, ◌≤◌, ◌<◌, ◌≡◌, ◌⊎◌, List, [], ◌∷◌, length, get_or, take}
use Rattle.std.specs.declared.result.Result.{Result}
use Rattle.std.specs.declared.result.Result.TheVariants.{Ok, Err}
use Rattle.std.proofs.Math.Option.{Option, none, some}
use Rattle.definition.specs.Run.{Outcome, refused, pure}
use Rattle.definition.specs.Node.{width, kind, row_of, START, LENGTH, LIST, COUNT, NAME, DEFAULT, CLASS}
use Rattle.definition.specs.Arena.{Arena, node}
use Rattle.definition.specs.Dump.{Written, Writer, ◌>>◌, write, write_name, number_in}
use Rattle.definition.specs.Slice.{OUTPUT, greatest_length}
use Rattle.definition.specs.declared.Refusal.{Refusal}
use Rattle.definition.specs.declared.Refusal.TheVariants.{TooDeep, NoSpace}
use Rattle.writer.specs.declared.Progress.{Progress}
use Rattle.writer.specs.declared.Stop.{Stop}
use Rattle.writer.specs.declared.Stop.TheVariants.{NoSpace as Full, TooDeep as Deep}
use Rattle.well_formed.specs.Right.{Right}

-- the two slices that the writers change
pub record Buffers : Type 0 where
  pub scratch : List ℕ
  pub output : List ℕ

abbrev pub buffers : List ℕ → List ℕ → Buffers
buffers s o = record { scratch = s; output = o }

-- the same counts but for the bytes, symbols or objects
abbrev pub with_written : Progress → ℕ → Progress
with_written c n = record { written = n; symbols = c.symbols; objects = c.objects }

abbrev pub with_symbols : Progress → ℕ → Progress
with_symbols c n = record { written = c.written; symbols = n; objects = c.objects }

abbrev pub with_objects : Progress → ℕ → Progress
with_objects c n = record { written = c.written; symbols = c.symbols; objects = n }

-- a node's word in scratch, by its number
unfoldable pub word : Option ℕ → ℕ
word none = 0
word (some i) = suc i

-- how many words are not zero
unfoldable pub marked : ℕ → ℕ
marked zero = 0
marked (suc n) = 1

unfoldable pub marks : List ℕ → ℕ
marks [] = 0
marks (x ∷ l) = marked x + marks l

-- A's rows are those of the table
pub record Noded (A : Arena) (no : List ℕ) : Type 0 where
  pub nodes_small : length no ≤ greatest_length
  pub nodes_fit : length A.nodes * width ≤ length no
  pub row_at : (i : ℕ) → i < length A.nodes → node A i ≡ row_of (get_or no (i * width) 0) (get_or no (i * width + START) 0) (get_or no (i * width + LENGTH) 0) (get_or no (i * width + LIST) 0) (get_or no (i * width + COUNT) 0) (get_or no (i * width + NAME) 0) (get_or no (i * width + DEFAULT) 0) (get_or no (i * width + CLASS) 0)

-- A is well formed, and its rows and bytes are those of the tables
pub record Lent (A : Arena) (no by : List ℕ) : Type 0 where
  pub noded : Noded A no
  pub bytes_fit : length A.bytes ≤ length by
  pub bytes_same : A.bytes ≡ take (length A.bytes) by
  pub right : Right A

-- A's references are those of the table
pub record Listed (A : Arena) (re : List ℕ) : Type 0 where
  pub references_small : length re ≤ greatest_length
  pub references_fit : length A.references ≤ length re
  pub references_same : A.references ≡ take (length A.references) re

-- output begins with the bytes written; the three counts; in scratch each node's number + 1, or 0
pub record Holds (A : Arena) (room : ℕ) (s : Written) (B : Buffers) (c : Progress) : Type 0 where
  pub small : room ≤ greatest_length
  pub sized : length B.output ≡ room
  pub fits : length s.bytes ≤ room
  pub same : take (length s.bytes) B.output ≡ s.bytes
  pub count_written : c.written ≡ length s.bytes
  pub count_symbols : c.symbols ≡ length s.symbols
  pub count_objects : c.objects ≡ length s.objects
  pub scratch_small : length B.scratch ≤ greatest_length
  pub scratch_fits : length A.nodes ≤ length B.scratch
  pub numbered : length s.symbols + length s.objects ≡ marks B.scratch
  pub symbol_words : (i : ℕ) → i < length A.nodes → kind (node A i) ≡ 3 → get_or B.scratch i 0 ≡ word (number_in s.symbols i 0)
  pub object_words : (i : ℕ) → i < length A.nodes → 3 < kind (node A i) → get_or B.scratch i 0 ≡ word (number_in s.objects i 0)

-- some state is held, of an arena of which P is known
pub record Ready (P : Arena → Type 0) (B : Buffers) (c : Progress) : Type 0 where
  pub arena : Arena
  pub room : ℕ
  pub state : Written
  pub fact : P arena
  pub holds : Holds arena room state B c

-- node v is a symbol
pub record IsSymbol (A : Arena) (v : ℕ) : Type 0 where
  pub below : v < length A.nodes
  pub kind_three : kind (node A v) ≡ 3

-- byte k, and the name of node v
abbrev pub named : ℕ → Arena → ℕ → ℕ → Writer
named room A k v = write room (k ∷ []) >> write_name room A v

-- the outcome o is that of m' at a state that is held
pub record Went (A : Arena) (room : ℕ) (o : Outcome Written (Unit {0})) (m' : Writer) (B' : Buffers) (c' : Progress) : Type 0 where
  pub state : Written
  pub holds : Holds A room state B' c'
  pub same : o ≡ m' state

-- where m begins at a state that is held first, it is at m' at a state that is held after
pub record Goes (A : Arena) (room : ℕ) (m : Writer) (B : Buffers) (c : Progress) (m' : Writer) (B' : Buffers) (c' : Progress) : Type 0 where
  pub goes : (s : Written) → Holds A room s B c → Went A room (m s) m' B' c'

-- m is refused with q
abbrev pub Refuses : Arena → ℕ → Writer → Buffers → Progress → Refusal → Type 0
Refuses A room m B c q = (s : Written) → Holds A room s B c → m s ≡ refused q

-- what a writer in code answers
abbrev pub Answer : Type 0
Answer = Result (Unit {0}) Stop

-- the refusal of a writer that stopped
unfoldable pub stopped : ℕ → Stop → Refusal
stopped limit Full = NoSpace OUTPUT
stopped limit Deep = TooDeep limit

-- by the answer: m has come to m', or it is refused
abbrev pub LeadCase : Arena → ℕ → ℕ → Writer → Writer → Buffers → Progress → Answer → Buffers → Progress → Type 0
LeadCase A room limit m m' B c (Ok x) B' c' = Goes A room m B c m' B' c'
LeadCase A room limit m m' B c (Err q) B' c' = Refuses A room m B c (stopped limit q)

-- the answer r, with what is lent as it then stands, is what m gives up to m'
pub record Leads (A : Arena) (room limit : ℕ) (m m' : Writer) (B : Buffers) (c : Progress) (r : Answer) (B' : Buffers) (c' : Progress) : Type 0 where
  pub leads : LeadCase A room limit m m' B c r B' c'

-- the same for the whole of m
abbrev pub Meets : Arena → ℕ → ℕ → Writer → Buffers → Progress → Answer → Buffers → Progress → Type 0
Meets A room limit m B c r B' c' = Leads A room limit m (pure tt) B c r B' c'

-- by the place answered: 0, nothing is stored; else m is done, and so many bytes are written
abbrev pub ShortCase : Arena → ℕ → Writer → List ℕ → List ℕ → Progress → ℕ → List ℕ → Type 0
ShortCase A room m sc out c zero out' = out' ≡ out
ShortCase A room m sc out c (suc p) out' = Goes A room m (buffers sc out) c (pure tt) (buffers sc out') (with_written c (suc p))

pub record Shorts (A : Arena) (room : ℕ) (m : Writer) (sc out : List ℕ) (c : Progress) (p : ℕ) (out' : List ℕ) : Type 0 where
  pub shorts : ShortCase A room m sc out c p out'

-- node v is an integer, or a symbol with a number
abbrev pub ShortKind : List ℕ → List ℕ → ℕ → Type 0
ShortKind nodes scratch v = (get_or nodes (v * width) 0 ≡ 2) ⊎ ((get_or nodes (v * width) 0 ≡ 3) × (get_or scratch v 0 ≡ 0 → ⊥))

-- and six bytes are free from `at` on, in an output of `size` bytes: it is written by `write_short`
pub record Short (nodes scratch : List ℕ) (size at v : ℕ) : Type 0 where
  pub free : at + 6 ≤ size
  pub kind : ShortKind nodes scratch v
