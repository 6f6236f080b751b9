-- Calls of load, of dump, of the builder and of the getters with known outcomes, computed: the answer and all that is lent.
use Rattle.std.specs.Prelude.{ℕ, ◌+◌, ◌-◌, ◌*◌, Bool, true, false, refl, List, [], ◌∷◌, ◌++◌, pos, negsuc, length, replicate}
use Rattle.std.proofs.lemmas.List.Edits.{sets}
use Rattle.definition.specs.Run.{Run, pure, refuse, next, ◌>>=◌, look, pick}
use Rattle.definition.specs.Node as N
use Rattle.definition.specs.Node.{Row, nil, bool, fixnum, symbol, array, hash, object, string, user, float, bignum, absent, present, width, words, flat}
use Rattle.definition.specs.Magnitude.{fits, sign, magnitude}
use Rattle.definition.specs.Slice.{NODES, REFERENCES, BYTES, SYMBOLS, OBJECTS, OUTPUT, LIMIT, SCRATCH}
use Rattle.definition.specs.Arena as A
use Rattle.definition.specs.Arena.{tables_of, counts_of, too_long}
use Rattle.definition.specs.Load.{LoadCall, lists, load_call_of}
use Rattle.definition.specs.Dump.{DumpCall, dump_call_of}
use Rattle.definition.specs.Build as B
use Rattle.definition.specs.Build.{Lent, BuildCall, NewCall, lent, build_call_of, new_call_of}
use Rattle.definition.specs.Starred.{holds, load_with, dump_with}
use Rattle.definition.specs.Refused.{Accepted, Refused}
use Rattle.definition.specs.declared.Fault.TheVariants.{Counts as BadCounts, Node as BadNode}
use Rattle.definition.specs.Build.{NameAnswer}
use Rattle.definition.specs.Build.{NumberAnswer}
use Rattle.definition.specs.declared.Refusal.{Refusal}
use Rattle.definition.specs.declared.Refusal.TheVariants.{BadTables, BadArena, InvalidVersion, ShortInput, InvalidKind, NegativeCount, MissingSymbol, MissingObject, NotASymbol, NotAnObject}
use Rattle.definition.specs.declared.Refusal.TheVariants.{TooDeep, NoSpace, BadHandle, WrongKind, TooBig, NotWrappable}
use Rattle.definition.specs.Build.{WordsAnswer}

-- ---- rows and their words

abbrev rows : List (Row × List ℕ)
rows =
    (nil, 0 ∷ 0 ∷ 0 ∷ 0 ∷ 0 ∷ 0 ∷ 0 ∷ 0 ∷ [])
    ∷ (bool false, 1 ∷ 0 ∷ 0 ∷ 0 ∷ 0 ∷ 0 ∷ 0 ∷ 0 ∷ [])
    ∷ (bool true, 1 ∷ 1 ∷ 0 ∷ 0 ∷ 0 ∷ 0 ∷ 0 ∷ 0 ∷ [])
    ∷ (fixnum 21, 2 ∷ 21 ∷ 0 ∷ 0 ∷ 0 ∷ 0 ∷ 0 ∷ 0 ∷ [])
    ∷ (symbol 21 22, 3 ∷ 21 ∷ 22 ∷ 0 ∷ 0 ∷ 0 ∷ 0 ∷ 0 ∷ [])
    ∷ (array 23 24 27, 4 ∷ 0 ∷ 0 ∷ 23 ∷ 24 ∷ 0 ∷ 0 ∷ 27 ∷ [])
    ∷ (hash 23 24 26 27, 5 ∷ 0 ∷ 0 ∷ 23 ∷ 24 ∷ 0 ∷ 26 ∷ 27 ∷ [])
    ∷ (object 23 24 25, 6 ∷ 0 ∷ 0 ∷ 23 ∷ 24 ∷ 25 ∷ 0 ∷ 0 ∷ [])
    ∷ (string 21 22 absent 27, 7 ∷ 21 ∷ 22 ∷ 0 ∷ 0 ∷ 0 ∷ 0 ∷ 27 ∷ [])
    ∷ (string 21 22 (present 23 24) 27, 7 ∷ 21 ∷ 22 ∷ 23 ∷ 24 ∷ 0 ∷ 1 ∷ 27 ∷ [])
    ∷ (user 21 22 25 absent, 8 ∷ 21 ∷ 22 ∷ 0 ∷ 0 ∷ 25 ∷ 0 ∷ 0 ∷ [])
    ∷ (user 21 22 25 (present 23 24), 8 ∷ 21 ∷ 22 ∷ 23 ∷ 24 ∷ 25 ∷ 1 ∷ 0 ∷ [])
    ∷ (float 21 22, 9 ∷ 21 ∷ 22 ∷ 0 ∷ 0 ∷ 0 ∷ 0 ∷ 0 ∷ [])
    ∷ (bignum 21 22 false, 10 ∷ 21 ∷ 22 ∷ 0 ∷ 0 ∷ 0 ∷ 0 ∷ 0 ∷ [])
    ∷ (bignum 21 22 true, 10 ∷ 21 ∷ 22 ∷ 0 ∷ 1 ∷ 0 ∷ 0 ∷ 0 ∷ [])
    ∷ []

-- ---- slices

abbrev lengths : List (ℕ × Bool)
lengths = (0, false) ∷ (2147483647, false) ∷ (2147483648, true) ∷ []

-- a node table of so many words
abbrev node_lengths : List (ℕ × Bool)
node_lengths = (0, true) ∷ (width, false) ∷ (width + 1, true) ∷ (width * 3, false) ∷ (2147483640, false) ∷ (2147483648, true) ∷ []

-- ---- load

-- how many words of the node table, references, bytes, entries of the symbol and of the object list are lent, each 9; the limit; the input
record Load : Type 0 where
  n : ℕ
  r : ℕ
  b : ℕ
  y : ℕ
  o : ℕ
  limit : ℕ
  input : List ℕ

loads : Load → LoadCall
unfolding load_with
loads l = load_with l.input (lists (replicate l.n 9) (replicate l.r 9) (replicate l.b 9) (replicate l.y 9) (replicate l.o 9)) l.limit

-- room for five of each, and 64 levels
abbrev ample : List ℕ → Load
ample bs = record { n = 5 * width; r = 5; b = 5; y = 5; o = 5; limit = 64; input = 4 ∷ 8 ∷ bs }

-- room for so many nodes, references, bytes, entries of the symbol and of the object list
abbrev tight : ℕ → ℕ → ℕ → ℕ → ℕ → List ℕ → Load
tight n r b y o bs = record { n = n * width; r = r; b = b; y = y; o = o; limit = 64; input = 4 ∷ 8 ∷ bs }

-- room for five of each under this limit
abbrev under : ℕ → List ℕ → Load
under limit bs = record { n = 5 * width; r = 5; b = 5; y = 5; o = 5; limit = limit; input = 4 ∷ 8 ∷ bs }

-- accepted in ample tables: these rows after node 0, references and bytes, then zeros; lists zero; the root; all bytes used; in dump form
abbrev holding : List Row → List ℕ → List ℕ → ℕ → ℕ → LoadCall
holding rows refs bs root used =
    load_call_of (record { answer = Accepted; counts = counts_of (length rows + 1) (length refs) (length bs) root; used = used; form = true })
    (lists (flat (nil ∷ rows) ++ replicate ((4 - length rows) * width) 0) (refs ++ replicate (5 - length refs) 0) (bs ++ replicate (5 - length bs) 0) (replicate 5 0) (replicate 5 0))

-- refused: counts 1, 0, 0, 0 over zeros
abbrev zeros : ℕ → ℕ → ℕ → ℕ → ℕ → Refusal → LoadCall
zeros n r b y o q =
    load_call_of (record { answer = Refused q; counts = counts_of 1 0 0 0; used = 0; form = false }) (lists (replicate (n * width) 0) (replicate r 0) (replicate b 0) (replicate y 0) (replicate o 0))

-- refused with 1: counts 0, 0, 0, 0, and nothing is touched
abbrev untouched : ℕ → Refusal → LoadCall
untouched n q =
    load_call_of (record { answer = Refused q; counts = counts_of 0 0 0 0; used = 0; form = false }) (lists (replicate n 9) (replicate 5 9) (replicate 5 9) (replicate 5 9) (replicate 5 9))

abbrev loaded : List (Load × LoadCall)
loaded =
    -- a value of every kind
    (ample (0x30 ∷ []), holding (nil ∷ []) [] [] 1 3)
    ∷ (ample (0x54 ∷ []), holding (bool true ∷ []) [] [] 1 3)
    ∷ (ample (0x46 ∷ []), holding (bool false ∷ []) [] [] 1 3)
    ∷ (ample (0x69 ∷ 0xFA ∷ []), holding (fixnum 4294967295 ∷ []) [] [] 1 4)
    ∷ (ample (0x3A ∷ 0x06 ∷ 0x61 ∷ []), holding (symbol 0 1 ∷ []) [] (0x61 ∷ []) 1 5)
    ∷ (ample (0x5B ∷ 0x07 ∷ 0x69 ∷ 0x7F ∷ 0x3A ∷ 0x06 ∷ 0x61 ∷ []), holding (array 0 2 0 ∷ fixnum 122 ∷ symbol 0 1 ∷ []) (2 ∷ 3 ∷ []) (0x61 ∷ []) 1 9)
    ∷ (ample (0x7B ∷ 0x06 ∷ 0x69 ∷ 0x06 ∷ 0x54 ∷ []), holding (hash 0 1 0 0 ∷ fixnum 1 ∷ bool true ∷ []) (2 ∷ 3 ∷ []) [] 1 7)
    ∷ (ample (0x7D ∷ 0x06 ∷ 0x30 ∷ 0x54 ∷ 0x46 ∷ []), holding (hash 0 1 5 0 ∷ nil ∷ bool true ∷ bool false ∷ []) (2 ∷ 3 ∷ []) [] 1 7)
    ∷ (ample (0x6F ∷ 0x3A ∷ 0x06 ∷ 0x61 ∷ 0x06 ∷ 0x3A ∷ 0x06 ∷ 0x62 ∷ 0x30 ∷ []), holding (object 0 1 2 ∷ symbol 0 1 ∷ symbol 1 1 ∷ nil ∷ []) (3 ∷ 4 ∷ []) (0x61 ∷ 0x62 ∷ []) 1 11)
    ∷ (ample (0x22 ∷ 0x06 ∷ 0x61 ∷ []), holding (string 0 1 absent 0 ∷ []) [] (0x61 ∷ []) 1 5)
    ∷ (ample (0x49 ∷ 0x22 ∷ 0x06 ∷ 0x61 ∷ 0x00 ∷ []), holding (string 0 1 (present 0 0) 0 ∷ []) [] (0x61 ∷ []) 1 7)
    ∷ (ample (0x75 ∷ 0x3A ∷ 0x06 ∷ 0x61 ∷ 0x06 ∷ 0x62 ∷ []), holding (symbol 0 1 ∷ user 1 1 1 absent ∷ []) [] (0x61 ∷ 0x62 ∷ []) 2 8)
    ∷ (ample (0x66 ∷ 0x06 ∷ 0x31 ∷ []), holding (float 0 1 ∷ []) [] (0x31 ∷ []) 1 5)
    ∷ (ample (0x6C ∷ 0x2D ∷ 0x06 ∷ 0x01 ∷ 0x00 ∷ []), holding (bignum 1 0 true ∷ []) [] [] 1 7)
    -- links: an object's second entry, a symbol's first
    ∷ (ample (0x5B ∷ 0x07 ∷ 0x22 ∷ 0x00 ∷ 0x40 ∷ 0x06 ∷ []), holding (array 0 2 0 ∷ string 0 0 absent 0 ∷ []) (2 ∷ 2 ∷ []) [] 1 8)
    ∷ (ample (0x5B ∷ 0x07 ∷ 0x3A ∷ 0x06 ∷ 0x61 ∷ 0x3B ∷ 0x00 ∷ []), holding (array 0 2 0 ∷ symbol 0 1 ∷ []) (2 ∷ 2 ∷ []) (0x61 ∷ []) 1 9)
    -- a list's start is taken when its words are reserved: after those of the list around it
    ∷ (ample (0x5B ∷ 0x06 ∷ 0x5B ∷ 0x06 ∷ 0x30 ∷ []), holding (array 0 1 0 ∷ array 1 1 0 ∷ nil ∷ []) (2 ∷ 3 ∷ []) [] 1 7)
    -- `C`: the name's node precedes the node, and its bytes those of a string; the level is tested once, before it, and members are one deeper
    ∷ (under 1 (0x43 ∷ 0x3A ∷ 0x06 ∷ 0x61 ∷ 0x5B ∷ 0x00 ∷ []), holding (symbol 0 1 ∷ array 0 0 2 ∷ []) [] (0x61 ∷ []) 2 8)
    ∷ (under 1 (0x43 ∷ 0x3A ∷ 0x06 ∷ 0x61 ∷ 0x5B ∷ 0x06 ∷ []), zeros 5 5 5 5 5 (TooDeep 1))
    ∷ (under 2 (0x43 ∷ 0x3A ∷ 0x06 ∷ 0x61 ∷ 0x5B ∷ 0x06 ∷ 0x30 ∷ []), holding (symbol 0 1 ∷ array 0 1 2 ∷ nil ∷ []) (3 ∷ []) (0x61 ∷ []) 2 9)
    ∷ (ample (0x43 ∷ 0x3A ∷ 0x06 ∷ 0x61 ∷ 0x7B ∷ 0x06 ∷ 0x30 ∷ 0x54 ∷ []), holding (symbol 0 1 ∷ hash 0 1 0 2 ∷ nil ∷ bool true ∷ []) (3 ∷ 4 ∷ []) (0x61 ∷ []) 2 10)
    ∷ (ample (0x43 ∷ 0x3A ∷ 0x06 ∷ 0x61 ∷ 0x7D ∷ 0x00 ∷ 0x30 ∷ []), holding (symbol 0 1 ∷ hash 0 0 4 2 ∷ nil ∷ []) [] (0x61 ∷ []) 2 9)
    ∷ (ample (0x43 ∷ 0x3A ∷ 0x06 ∷ 0x61 ∷ 0x22 ∷ 0x06 ∷ 0x62 ∷ []), holding (symbol 0 1 ∷ string 1 1 absent 2 ∷ []) [] (0x61 ∷ 0x62 ∷ []) 2 9)
    ∷ (under 2 (0x49 ∷ 0x43 ∷ 0x3A ∷ 0x06 ∷ 0x61 ∷ 0x22 ∷ 0x00 ∷ 0x00 ∷ []), holding (symbol 0 1 ∷ string 1 0 (present 0 0) 2 ∷ []) [] (0x61 ∷ []) 2 10)
    ∷ (under 1 (0x49 ∷ 0x43 ∷ 0x3A ∷ 0x06 ∷ 0x61 ∷ 0x22 ∷ 0x00 ∷ 0x00 ∷ []), zeros 5 5 5 5 5 (TooDeep 1))
    ∷ (ample (0x5B ∷ 0x07 ∷ 0x43 ∷ 0x3A ∷ 0x06 ∷ 0x61 ∷ 0x5B ∷ 0x00 ∷ 0x40 ∷ 0x06 ∷ []), holding (array 0 2 0 ∷ symbol 0 1 ∷ array 2 0 3 ∷ []) (3 ∷ 3 ∷ []) (0x61 ∷ []) 1 12)
    -- its refusals in their order, whatever room there is: the level, the name, the byte after it, 22, and only then what the kind asks
    ∷ (under 0 (0x43 ∷ []), zeros 5 5 5 5 5 (TooDeep 0))
    ∷ (ample (0x43 ∷ []), zeros 5 5 5 5 5 ShortInput)
    ∷ (ample (0x43 ∷ 0x30 ∷ []), zeros 5 5 5 5 5 (NotASymbol 48))
    ∷ (ample (0x43 ∷ 0x3B ∷ 0x00 ∷ 0x5B ∷ 0x00 ∷ []), zeros 5 5 5 5 5 (MissingSymbol 0))
    ∷ (tight 2 0 1 0 0 (0x43 ∷ 0x3A ∷ 0x06 ∷ 0x61 ∷ []), zeros 2 0 1 0 0 (NoSpace SYMBOLS))
    ∷ (ample (0x43 ∷ 0x3A ∷ 0x06 ∷ 0x61 ∷ []), zeros 5 5 5 5 5 ShortInput)
    ∷ (tight 2 0 1 1 0 (0x43 ∷ 0x3A ∷ 0x06 ∷ 0x61 ∷ 0x30 ∷ []), zeros 2 0 1 1 0 (NotWrappable 48))
    ∷ (tight 2 0 1 1 0 (0x43 ∷ 0x3A ∷ 0x06 ∷ 0x61 ∷ 0x5B ∷ []), zeros 2 0 1 1 0 (NoSpace NODES))
    ∷ (tight 3 0 1 1 0 (0x43 ∷ 0x3A ∷ 0x06 ∷ 0x61 ∷ 0x5B ∷ []), zeros 3 0 1 1 0 (NoSpace OBJECTS))
    ∷ (tight 3 0 1 1 1 (0x43 ∷ 0x3A ∷ 0x06 ∷ 0x61 ∷ 0x5B ∷ []), zeros 3 0 1 1 1 ShortInput)
    -- every other byte after the name is 22: `C`, `@`, `I`, `o`, one that is no kind
    ∷ (ample (0x43 ∷ 0x3A ∷ 0x06 ∷ 0x61 ∷ 0x43 ∷ []), zeros 5 5 5 5 5 (NotWrappable 67))
    ∷ (ample (0x43 ∷ 0x3A ∷ 0x06 ∷ 0x61 ∷ 0x40 ∷ []), zeros 5 5 5 5 5 (NotWrappable 64))
    ∷ (ample (0x43 ∷ 0x3A ∷ 0x06 ∷ 0x61 ∷ 0x49 ∷ []), zeros 5 5 5 5 5 (NotWrappable 73))
    ∷ (ample (0x43 ∷ 0x3A ∷ 0x06 ∷ 0x61 ∷ 0x6F ∷ []), zeros 5 5 5 5 5 (NotWrappable 111))
    ∷ (ample (0x43 ∷ 0x3A ∷ 0x06 ∷ 0x61 ∷ 0xFF ∷ []), zeros 5 5 5 5 5 (NotWrappable 255))
    -- refused by the bytes: 3 to 10
    ∷ (record { n = 5 * width; r = 5; b = 5; y = 5; o = 5; limit = 64; input = 4 ∷ 9 ∷ [] }, zeros 5 5 5 5 5 (InvalidVersion 4 9))
    ∷ (record { n = 5 * width; r = 5; b = 5; y = 5; o = 5; limit = 64; input = 5 ∷ [] }, zeros 5 5 5 5 5 ShortInput)
    ∷ (ample [], zeros 5 5 5 5 5 ShortInput)
    ∷ (ample (0xFF ∷ []), zeros 5 5 5 5 5 (InvalidKind 255))
    ∷ (ample (0x7B ∷ 0xFA ∷ []), zeros 5 5 5 5 5 (NegativeCount 4294967295))
    ∷ (ample (0x5B ∷ 0x06 ∷ 0x3B ∷ 0x06 ∷ []), zeros 5 5 5 5 5 (MissingSymbol 1))
    ∷ (ample (0x5B ∷ 0x06 ∷ 0x40 ∷ 0x07 ∷ []), zeros 5 5 5 5 5 (MissingObject 2))
    ∷ (ample (0x6F ∷ 0x30 ∷ []), zeros 5 5 5 5 5 (NotASymbol 48))
    ∷ (ample (0x49 ∷ 0x66 ∷ 0x00 ∷ 0x00 ∷ []), zeros 5 5 5 5 5 NotAnObject)
    -- 11, with the limit: before the kind byte, for members, after `I`
    ∷ (under 0 [], zeros 5 5 5 5 5 (TooDeep 0))
    ∷ (under 1 (0x5B ∷ 0x06 ∷ []), zeros 5 5 5 5 5 (TooDeep 1))
    ∷ (under 1 (0x49 ∷ 0x22 ∷ 0x00 ∷ 0x00 ∷ []), zeros 5 5 5 5 5 (TooDeep 1))
    ∷ (under 2 (0x49 ∷ 0x22 ∷ 0x00 ∷ 0x00 ∷ []), holding (string 0 0 (present 0 0) 0 ∷ []) [] [] 1 6)
    -- 12: bytes before the node, the node before either list
    ∷ (tight 1 0 0 0 0 (0x30 ∷ []), zeros 1 0 0 0 0 (NoSpace NODES))
    ∷ (tight 2 1 0 0 1 (0x7B ∷ 0x06 ∷ []), zeros 2 1 0 0 1 (NoSpace REFERENCES))
    ∷ (tight 1 0 0 0 0 (0x3A ∷ 0x06 ∷ 0x61 ∷ []), zeros 1 0 0 0 0 (NoSpace BYTES))
    ∷ (tight 1 0 1 0 0 (0x3A ∷ 0x06 ∷ 0x61 ∷ []), zeros 1 0 1 0 0 (NoSpace NODES))
    ∷ (tight 2 0 1 0 0 (0x3A ∷ 0x06 ∷ 0x61 ∷ []), zeros 2 0 1 0 0 (NoSpace SYMBOLS))
    ∷ (tight 2 0 0 0 0 (0x22 ∷ 0x00 ∷ []), zeros 2 0 0 0 0 (NoSpace OBJECTS))
    -- 1: no node, no whole number of nodes, a limit above 128; 128 is taken
    ∷ (record { n = 0; r = 5; b = 5; y = 5; o = 5; limit = 129; input = [] }, untouched 0 (BadTables NODES))
    ∷ (record { n = width + 1; r = 5; b = 5; y = 5; o = 5; limit = 64; input = [] }, untouched (width + 1) (BadTables NODES))
    ∷ (under 129 (0x30 ∷ []), untouched (5 * width) (BadTables LIMIT))
    ∷ (under 128 (0x30 ∷ []), holding (nil ∷ []) [] [] 1 3)
    ∷ []

-- ---- dump

-- an arena of these rows, without references and bytes, whose root is node 0; words of scratch and bytes of output, each 9; the limit
record Dump : Type 0 where
  rows : List Row
  root : ℕ
  scratch : ℕ
  output : ℕ
  limit : ℕ

dumps : Dump → DumpCall
unfolding dump_with flat words
dumps d = dump_with (tables_of (flat d.rows) [] []) (counts_of (length d.rows) 0 0 d.root) (replicate d.scratch 9) (replicate d.output 9) d.limit

abbrev of_nil : ℕ → ℕ → ℕ → Dump
of_nil scratch output limit = record { rows = nil ∷ []; root = 0; scratch = scratch; output = output; limit = limit }

abbrev of_string : ℕ → ℕ → Dump
of_string output limit = record { rows = string 0 0 (present 0 0) 0 ∷ []; root = 0; scratch = 1; output = output; limit = limit }

-- a string with variables and the empty symbol for its class
abbrev of_class : ℕ → ℕ → Dump
of_class output limit = record { rows = symbol 0 0 ∷ string 0 0 (present 0 0) 1 ∷ []; root = 1; scratch = 2; output = output; limit = limit }

-- refused after 1 and 2: output and scratch are zero; with 1 or 2: nothing is touched
abbrev emptied : Refusal → ℕ → ℕ → DumpCall
emptied q scratch output = dump_call_of (Refused q) 0 (replicate scratch 0) (replicate output 0)

abbrev unwritten : Refusal → ℕ → ℕ → DumpCall
unwritten q scratch output = dump_call_of (Refused q) 0 (replicate scratch 9) (replicate output 9)

abbrev dumped : List (Dump × DumpCall)
dumped =
    -- accepted: scratch and unused output are zero
    (of_nil 2 5 1, dump_call_of Accepted 3 (0 ∷ 0 ∷ []) (0x04 ∷ 0x08 ∷ 0x30 ∷ 0 ∷ 0 ∷ []))
    ∷ (of_string 6 2, dump_call_of Accepted 6 (0 ∷ []) (0x04 ∷ 0x08 ∷ 0x49 ∷ 0x22 ∷ 0x00 ∷ 0x00 ∷ []))
    -- 12: header before level; room for `I` before the level that follows it
    ∷ (of_nil 1 1 0, emptied (NoSpace OUTPUT) 1 1)
    ∷ (of_nil 1 2 1, emptied (NoSpace OUTPUT) 1 2)
    ∷ (of_string 2 1, emptied (NoSpace OUTPUT) 1 2)
    -- 11: before a value's first byte, and between `I` and the kind
    ∷ (of_nil 2 3 0, emptied (TooDeep 0) 2 3)
    ∷ (of_string 3 1, emptied (TooDeep 1) 1 3)
    -- a class after `I` and its level
    ∷ (of_class 9 2, dump_call_of Accepted 9 (0 ∷ 0 ∷ []) (0x04 ∷ 0x08 ∷ 0x49 ∷ 0x43 ∷ 0x3A ∷ 0x00 ∷ 0x22 ∷ 0x00 ∷ 0x00 ∷ []))
    ∷ (of_class 3 1, emptied (TooDeep 1) 2 3)
    ∷ (of_class 3 2, emptied (NoSpace OUTPUT) 2 3)
    -- 1: scratch too short, a limit above 128; 2: the counts before the nodes
    ∷ (of_nil 0 3 129, unwritten (BadTables LIMIT) 0 3)
    ∷ (of_nil 0 3 1, unwritten (BadTables SCRATCH) 0 3)
    ∷ (record { rows = symbol 0 1 ∷ []; root = 1; scratch = 1; output = 3; limit = 1 }, unwritten (BadArena BadCounts) 1 3)
    ∷ (record { rows = nil ∷ symbol 0 1 ∷ array 1 0 0 ∷ []; root = 0; scratch = 3; output = 3; limit = 1 }, unwritten (BadArena (BadNode 1)) 3 3)
    ∷ []

-- ---- builder and getters

-- nil and the symbol a, in tables with room for so many nodes, references and bytes more, where 9 stands
abbrev basis : ℕ → ℕ → ℕ → Lent
basis n r b = lent (flat (nil ∷ symbol 0 1 ∷ []) ++ replicate (n * width) 9) (replicate r 9) (0x61 ∷ replicate b 9) (counts_of 2 0 1 0)

-- with room for one node, two references and one byte, and with room for nothing
abbrev roomy : Lent
roomy = basis 1 2 1

abbrev full : Lent
full = basis 0 0 0

-- nil, the symbol a, and a string of this class
abbrev wrapped : ℕ → Lent
wrapped w = lent (flat (nil ∷ symbol 0 1 ∷ string 1 0 absent w ∷ [])) [] (0x61 ∷ []) (counts_of 3 0 1 0)

-- counts that do not fit: the root is node 2 of two
abbrev broken : Lent
broken = record { tables = roomy.tables; counts = counts_of 2 0 1 2 }

builds : Lent × Run Lent ℕ → BuildCall
unfolding B.build_call B.build_done
builds (L, m) = B.build_call m L

-- accepted: node 2 is this row, with these references and bytes; the root is unmoved
abbrev with_node : Row → List ℕ → List ℕ → BuildCall
with_node row refs bs =
    build_call_of (record { answer = Accepted; handle = 2; counts = counts_of 3 (length refs) (length bs + 1) 0 })
    (flat (nil ∷ symbol 0 1 ∷ row ∷ [])) (sets (9 ∷ 9 ∷ []) 0 refs) (0x61 ∷ sets (9 ∷ []) 0 bs)

-- refused: the counts given, and nothing changes
abbrev unchanged : Lent → Refusal → BuildCall
unchanged L q = record { answer = record { answer = Refused q; handle = 0; counts = L.counts }; tables = L.tables }

abbrev built : List ((Lent × Run Lent ℕ) × BuildCall)
built =
    ((roomy, B.create_nil), with_node nil [] [])
    ∷ ((full, B.create_nil), unchanged full (NoSpace NODES))
    ∷ ((roomy, B.create_bool true), with_node (bool true) [] [])
    ∷ ((broken, B.create_bool true), unchanged broken (BadArena BadCounts))
    ∷ ((roomy, B.create_fixnum (negsuc 0)), with_node (fixnum 4294967295) [] [])
    ∷ ((full, B.create_fixnum (pos 7)), unchanged full (NoSpace NODES))
    -- a known name adds nothing and needs no room; a new symbol of it is added
    ∷ ((full, B.create_symbol (0x61 ∷ [])), build_call_of (record { answer = Accepted; handle = 1; counts = full.counts }) full.tables.nodes full.tables.references full.tables.bytes)
    ∷ ((roomy, B.create_symbol (0x62 ∷ [])), with_node (symbol 1 1) [] (0x62 ∷ []))
    ∷ ((full, B.create_symbol (0x62 ∷ [])), unchanged full (NoSpace BYTES))
    ∷ ((roomy, B.create_new_symbol (0x61 ∷ [])), with_node (symbol 1 1) [] (0x61 ∷ []))
    ∷ ((full, B.create_new_symbol []), unchanged full (NoSpace NODES))
    ∷ ((roomy, B.create_array (1 ∷ 0 ∷ [])), with_node (array 0 2 0) (1 ∷ 0 ∷ []) [])
    ∷ ((full, B.create_array (0 ∷ 5 ∷ 2 ∷ [])), unchanged full (BadHandle 5))
    ∷ ((full, B.create_array (0 ∷ [])), unchanged full (NoSpace REFERENCES))
    -- the default is tested after the pairs, and told less 1
    ∷ ((roomy, B.create_hash (1 ∷ 0 ∷ []) 2), with_node (hash 0 1 2 0) (1 ∷ 0 ∷ []) [])
    ∷ ((full, B.create_hash (1 ∷ 0 ∷ []) 3), unchanged full (BadHandle 2))
    ∷ ((full, B.create_hash (1 ∷ 0 ∷ 7 ∷ []) 3), unchanged full (BadTables 9))
    -- every 13 before any 14; the name's 14 before those of the pairs
    ∷ ((roomy, B.create_object 1 (1 ∷ 0 ∷ [])), with_node (object 0 1 1) (1 ∷ 0 ∷ []) [])
    ∷ ((full, B.create_object 0 (0 ∷ 2 ∷ [])), unchanged full (BadHandle 2))
    ∷ ((full, B.create_object 1 (0 ∷ 1 ∷ [])), unchanged full (WrongKind 0))
    ∷ ((roomy, B.create_string (0x62 ∷ [])), with_node (string 1 1 absent 0) [] (0x62 ∷ []))
    ∷ ((full, B.create_string (0x62 ∷ [])), unchanged full (NoSpace BYTES))
    ∷ ((roomy, B.create_user_defined 1 (0x62 ∷ [])), with_node (user 1 1 1 absent) [] (0x62 ∷ []))
    ∷ ((full, B.create_user_defined 0 (0x62 ∷ [])), unchanged full (WrongKind 0))
    ∷ ((roomy, B.create_float (0x31 ∷ [])), with_node (float 1 1) [] (0x31 ∷ []))
    ∷ ((full, B.create_float (0x31 ∷ [])), unchanged full (NoSpace BYTES))
    ∷ ((roomy, B.create_bignum true 1 2), with_node (bignum 1 2 true) [] [])
    ∷ ((roomy, B.create_bignum true 0 0), with_node (bignum 0 0 false) [] [])
    ∷ ((full, B.create_bignum false 0 2147483648), unchanged full (TooBig 4))
    -- the old root, and the counts with the new one
    ∷ ((full, B.exchange_root 1), build_call_of (record { answer = Accepted; handle = 0; counts = counts_of 2 0 1 1 }) full.tables.nodes full.tables.references full.tables.bytes)
    ∷ ((full, B.exchange_root 2), unchanged full (BadHandle 2))
    -- the old class word; every 13 before any 14, the node's 14 before the class's, and for no class too
    ∷ ((wrapped 2, B.exchange_class 2 0), build_call_of (record { answer = Accepted; handle = 2; counts = counts_of 3 0 1 0 }) (wrapped 0).tables.nodes [] (0x61 ∷ []))
    ∷ ((wrapped 0, B.exchange_class 2 2), build_call_of (record { answer = Accepted; handle = 0; counts = counts_of 3 0 1 0 }) (wrapped 2).tables.nodes [] (0x61 ∷ []))
    ∷ ((wrapped 2, B.exchange_class 3 5), unchanged (wrapped 2) (BadHandle 3))
    ∷ ((wrapped 2, B.exchange_class 1 4), unchanged (wrapped 2) (BadHandle 3))
    ∷ ((wrapped 2, B.exchange_class 1 1), unchanged (wrapped 2) (WrongKind 1))
    ∷ ((wrapped 2, B.exchange_class 0 0), unchanged (wrapped 2) (WrongKind 0))
    ∷ ((wrapped 2, B.exchange_class 2 1), unchanged (wrapped 2) (WrongKind 0))
    ∷ []

-- `new` over a node table of so many words, and two references and bytes
news : ℕ → NewCall
unfolding B.new_call
news n = B.new_call (tables_of (replicate n 9) (9 ∷ 9 ∷ []) (9 ∷ 9 ∷ []))

abbrev begun : List (ℕ × NewCall)
begun =
    (2 * width, new_call_of (record { answer = Accepted; counts = counts_of 1 0 0 0 }) (replicate (2 * width) 0) (0 ∷ 0 ∷ []) (0 ∷ 0 ∷ []))
    ∷ (0, new_call_of (record { answer = Refused (BadTables NODES); counts = counts_of 0 0 0 0 }) [] (9 ∷ 9 ∷ []) (9 ∷ 9 ∷ []))
    ∷ []

-- a number, a node's words, a name's start and length
numbered : Lent × Run Lent ℕ → NumberAnswer
unfolding B.number_done
numbered (L, m) = B.number_done (m L)

abbrev told : List ((Lent × Run Lent ℕ) × NumberAnswer)
told =
    ((full, B.get_root), record { answer = Accepted; value = 0 })
    ∷ ((broken, B.get_root), record { answer = Refused (BadArena BadCounts); value = 0 })
    ∷ ((full, B.get_kind 1), record { answer = Accepted; value = 3 })
    ∷ ((full, B.get_kind 2), record { answer = Refused (BadHandle 2); value = 0 })
    ∷ []

nodes : ℕ → WordsAnswer
unfolding B.words_done
nodes h = B.words_done (B.get_words h full)

abbrev got : List (ℕ × WordsAnswer)
got =
    (1, record { answer = Accepted; words = words (symbol 0 1) })
    ∷ (2, record { answer = Refused (BadHandle 2); words = replicate width 0 })
    ∷ []

names : ℕ → NameAnswer
unfolding B.name_done
names h = B.name_done (B.get_name h full)

abbrev named : List (ℕ × NameAnswer)
named =
    (1, record { answer = Accepted; start = 0; length = 1 })
    ∷ (0, record { answer = Refused (WrongKind 0); start = 0; length = 0 })
    ∷ (2, record { answer = Refused (BadHandle 2); start = 0; length = 0 })
    ∷ []

-- ---- all of them

tables_computed : holds words rows × holds too_long lengths × holds A.bad_nodes node_lengths
unfolding holds words too_long A.bad_nodes
tables_computed = (refl, refl, refl)

loads_computed : holds loads loaded
unfolding holds loads flat words
loads_computed = refl

dumps_computed : holds dumps dumped
unfolding holds dumps
dumps_computed = refl

arena_calls_computed : holds builds built × holds news begun × holds numbered told × holds nodes got × holds names named
unfolding holds builds news numbered nodes names B.new_if B.get_root B.get_kind B.get_words B.get_name B.words_at B.create_nil B.create_bool B.create_fixnum B.create_symbol B.create_new_symbol B.create_array B.create_hash B.create_object B.create_string B.create_user_defined B.create_float B.create_bignum B.exchange_root B.set_root B.exchange_class B.set_class B.check_class B.takes_class B.check_magnitude B.known_or_new B.add_symbol B.bits B.pair_slice B.member_slice B.byte_slice B.add B.append B.check_space B.check_names B.check_handles B.handles_checked B.check B.wrong A.allowed A.lowest A.bad_nodes A.too_long A.sound A.fault A.fault_if A.faulty A.counts_fit A.node_right A.row_right A.number_right A.class_right A.vars_right A.pairs_right A.list_right A.bytes_right A.all_names A.is_name A.all_below A.firsts A.find_symbol A.named A.name_of A.range A.node A.arena A.zeroed N.is_row N.equal N.rows N.row N.row_of N.optional_node N.vars words flat N.kind fits sign magnitude pure refuse next ◌>>=◌ look pick
arena_calls_computed = (refl, refl, refl, refl, refl)
