-- What dump answers and what it leaves in output and scratch (01, "dump"; 02, 2.1, 2.4 and 2.9).
use Rattle.std.specs.Prelude.{ℕ, zero, suc, ◌-◌, ◌*◌, ◌/◌, true, false, ◌||◌, List, [], ◌∷◌, ◌++◌, ltb, leb, eqb, length, Result, Ok, Err}
use Rattle.std.proofs.Math.Option.{Option, none, some}
use Rattle.definition.specs.Run.{Run, Outcome, ok, refused, pure, refuse, ◌>>=◌, look, pick}
use Rattle.definition.specs.Integer.{integer_bytes}
use Rattle.definition.specs.Kind.{NIL, TRUE, FALSE, FIXNUM, SYMBOL, SYMBOL_LINK, OBJECT_LINK, INSTANCE_VARIABLES, ARRAY, HASH, HASH_DEFAULT, OBJECT, STRING, USER_DEFINED, FLOAT, BIGNUM, USER_CLASS}
use Rattle.definition.specs.Node.{Row, Vars, nil, bool, fixnum, symbol, array, hash, object, string, user, float, bignum, absent, present, width}
use Rattle.definition.specs.Magnitude.{magnitude, bignum_bytes}
use Rattle.definition.specs.Slice.{NODES, REFERENCES, BYTES, OUTPUT, LIMIT, SCRATCH, greatest_limit}
use Rattle.definition.specs.Arena.{Tables, Arena, arena, node, range, name_of, too_long, bad_nodes, lowest, allowed, fault, sound, padded, zeroed}
use Rattle.definition.specs.Refused.{Answer, Accepted, Refused}
use Rattle.definition.specs.declared.Counts.{Counts}
use Rattle.definition.specs.declared.Refusal.TheVariants.{TooDeep, NoSpace}
use Rattle.definition.specs.declared.Refusal.{Refusal}

-- the bytes written, and the symbols and objects met so far; a node's number is its place in its list
pub record Written : Type 0 where
  pub bytes : List ℕ
  pub symbols : List ℕ
  pub objects : List ℕ

-- a step of dump
abbrev pub Writer : Type 0
Writer = Run Written (Unit {0})

-- one writer, then another
infixl 10 ◌>>◌
unfoldable pub ◌>>◌ : Writer → Writer → Writer
◌>>◌ m n = m >>= λ _. n

-- bytes, where the output of the size given has room for them
unfoldable pub write : ℕ → List ℕ → Writer
write size bs s = pick (leb (length bs) (size - length s.bytes)) (ok tt (record { bytes = s.bytes ++ bs; symbols = s.symbols; objects = s.objects })) (refused (NoSpace OUTPUT))

-- the next symbol number, the next object number
unfoldable pub number_symbol : ℕ → Writer
number_symbol h s = ok tt (record { bytes = s.bytes; symbols = s.symbols ++ (h ∷ []); objects = s.objects })

-- "gets the next object number"
unfoldable pub number_object : ℕ → Writer
number_object h s = ok tt (record { bytes = s.bytes; symbols = s.symbols; objects = s.objects ++ (h ∷ []) })

-- a node's number, counted from i on
unfoldable pub number_in : List ℕ → ℕ → ℕ → Option ℕ
number_in [] h i = none
number_in (x ∷ l) h i = pick (eqb x h) (some i) (number_in l h (suc i))

-- "met again it is `@` and that number", with the kind byte given; else what is written the first time
unfoldable pub link_or : ℕ → ℕ → Writer → Option ℕ → Writer
link_or size k first (some i) = write size (k ∷ integer_bytes i)
link_or size k first none = first

-- a byte string
unfoldable pub byte_string_bytes : List ℕ → List ℕ
byte_string_bytes bs = integer_bytes (length bs) ++ bs

-- "Symbols likewise by node, with `;`"
unfoldable pub write_symbol : ℕ → ℕ → List ℕ → Writer
write_symbol size h name = look λ s. link_or size SYMBOL_LINK (number_symbol h >> write size (SYMBOL ∷ byte_string_bytes name)) (number_in s.symbols h 0)

-- "Each of kinds 4 to 8", and 9 and 10, "gets the next object number before its contents"
unfoldable pub write_object_or_link : ℕ → ℕ → Writer → Writer
write_object_or_link size h first = look λ s. link_or size OBJECT_LINK (number_object h >> first) (number_in s.objects h 0)

-- members in order
unfoldable pub write_elements : (ℕ → Writer) → List ℕ → Writer
write_elements inner [] = pure tt
write_elements inner (v ∷ vs) = inner v >> write_elements inner vs

-- pairs of a name and a value
unfoldable pub write_pairs : (ℕ → Writer) → (ℕ → Writer) → List ℕ → Writer
write_pairs name inner [] = pure tt
write_pairs name inner (c ∷ []) = name c
write_pairs name inner (c ∷ v ∷ l) = name c >> inner v >> write_pairs name inner l

module _ (size : ℕ) (A : Arena) where
  -- a name, which has no level
  unfoldable pub write_name : ℕ → Writer
  write_name c = write_symbol size c (name_of A.bytes (node A c))

  -- a variable list: its number of pairs, then the pairs
  unfoldable pub write_instance_variables : (ℕ → Writer) → ℕ → ℕ → Writer
  write_instance_variables inner start n = write size (integer_bytes n) >> write_pairs write_name inner (range A.references start (n * 2))

  -- "`I` precedes 7 and 8 exactly when a list is present"; the level is tested between `I` and what follows; body is the value after `I`
  unfoldable pub write_variables : Writer → (ℕ → Writer) → Writer → Vars → Writer
  write_variables level inner body absent = body
  write_variables level inner body (present start n) = write size (INSTANCE_VARIABLES ∷ []) >> level >> body >> write_instance_variables inner start n

  -- a default comes last
  unfoldable pub write_default : (ℕ → Writer) → ℕ → Writer
  write_default inner zero = pure tt
  write_default inner (suc d) = inner d

  -- `{`, or `}` where there is a default
  unfoldable pub hash_byte : ℕ → ℕ
  hash_byte zero = HASH
  hash_byte (suc d) = HASH_DEFAULT

  -- "then `C` and the name, then the kind": a class, where there is one
  unfoldable pub write_class : ℕ → Writer
  write_class zero = pure tt
  write_class (suc c) = write size (USER_CLASS ∷ []) >> write_name c

  -- a value by its row; level tests for one level more, inner writes a value one level deeper
  unfoldable pub write_row : Writer → (ℕ → Writer) → ℕ → Row → Writer
  write_row level inner h nil = write size (NIL ∷ [])
  write_row level inner h (bool true) = write size (TRUE ∷ [])
  write_row level inner h (bool false) = write size (FALSE ∷ [])
  write_row level inner h (fixnum w) = write size (FIXNUM ∷ integer_bytes w)
  write_row level inner h (symbol s l) = write_symbol size h (range A.bytes s l)
  write_row level inner h (array s n w) = write_object_or_link size h (write_class w >> write size (ARRAY ∷ integer_bytes n) >> write_elements inner (range A.references s n))
  write_row level inner h (hash s n d w) = write_object_or_link size h (write_class w >> write size (hash_byte d ∷ integer_bytes n) >> write_elements inner (range A.references s (n * 2)) >> write_default inner d)
  write_row level inner h (object s n c) = write_object_or_link size h (write size (OBJECT ∷ []) >> write_name c >> write_instance_variables inner s n)
  write_row level inner h (string s l v w) = write_object_or_link size h (write_variables level inner (write_class w >> write size (STRING ∷ byte_string_bytes (range A.bytes s l))) v)
  write_row level inner h (user s l c v) =
      write_object_or_link size h (write_variables level inner (write size (USER_DEFINED ∷ []) >> write_name c >> write size (byte_string_bytes (range A.bytes s l))) v)
  write_row level inner h (float s l) = write_object_or_link size h (write size (FLOAT ∷ byte_string_bytes (range A.bytes s l)))
  write_row level inner h (bignum low high m) = write_object_or_link size h (write size (BIGNUM ∷ bignum_bytes m (magnitude low high)))

-- is a level left?
unfoldable pub write_level : ℕ → ℕ → Writer
write_level limit zero = refuse (TooDeep limit)
write_level limit (suc levels) = pure tt

-- "Levels as load would count the bytes written, tested before a value's first byte"
unfoldable pub write_value : ℕ → Arena → ℕ → ℕ → ℕ → Writer
write_value size A limit zero h s = refused (TooDeep limit)
write_value size A limit (suc levels) h s = write_row size A (write_level limit levels) (write_value size A limit levels) h (node A h) s

-- "Writes 04 08, then the root"
unfoldable pub dump : ℕ → Arena → ℕ → Outcome Written (Unit {0})
dump size A limit = (write size (0x04 ∷ 0x08 ∷ []) >> write_value size A limit limit A.root) (record { bytes = []; symbols = []; objects = [] })

-- ---- the call

-- BAD-TABLES: the lowest wrong slice, or 0; scratch has "at least one word for each node the table can hold"
unfoldable pub dump_wrong : Tables → List ℕ → List ℕ → ℕ → ℕ
dump_wrong T scratch output limit =
    lowest
    ((NODES, bad_nodes (length T.nodes)) ∷ (REFERENCES, too_long (length T.references)) ∷ (BYTES, too_long (length T.bytes)) ∷ (OUTPUT, too_long (length output))
    ∷ (LIMIT, ltb greatest_limit limit) ∷ (SCRATCH, too_long (length scratch) || ltb (length scratch) (length T.nodes / width)) ∷ [])

-- what dump answers
pub record DumpAnswer : Type 0 where
  pub answer : Answer
  pub written : ℕ

-- by the code's Result
unfoldable pub dump_answer : Result ℕ Refusal → DumpAnswer
dump_answer (Ok n) = record { answer = Accepted; written = n }
dump_answer (Err q) = record { answer = Refused q; written = 0 }

-- a call's answer, and output and scratch as they then stand
pub record DumpCall : Type 0 where
  pub answer : DumpAnswer
  pub scratch : List ℕ
  pub output : List ℕ

-- an answer with the number of bytes written, scratch and output
abbrev pub dump_call_of : Answer → ℕ → List ℕ → List ℕ → DumpCall
dump_call_of a n scratch output = record { answer = record { answer = a; written = n }; scratch = scratch; output = output }

-- "Scratch ends zero; unused output is zero"; "later, output and scratch are zero"
unfoldable pub dump_done : List ℕ → List ℕ → Outcome Written (Unit {0}) → DumpCall
dump_done scratch output (ok _ s) = dump_call_of Accepted (length s.bytes) (zeroed scratch) (padded output s.bytes)
dump_done scratch output (refused r) = dump_call_of (Refused r) 0 (zeroed scratch) (zeroed output)

-- "A refused dump after 1 or 2 touches nothing"
unfoldable pub dump_checked : Tables → Counts → List ℕ → List ℕ → ℕ → Outcome (Unit {0}) (Unit {0}) → DumpCall
dump_checked T c scratch output limit (refused r) = dump_call_of (Refused r) 0 scratch output
dump_checked T c scratch output limit (ok _ _) = dump_done scratch output (dump (length output) (arena T c) limit)

-- dump's whole call: "Order: 1, 2, 13, then as work meets them"
unfoldable pub dump_call : Tables → Counts → List ℕ → List ℕ → ℕ → DumpCall
dump_call T c scratch output limit = dump_checked T c scratch output limit ((allowed (dump_wrong T scratch output limit) >>= λ _. sound (fault T c)) tt)
