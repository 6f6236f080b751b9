-- What load answers and what it leaves in the tables: a reader over growing lists (01, "load"; 02, 2.1 to 2.4, 2.6 and 2.9).
use Rattle.std.specs.Prelude.{ℕ, zero, suc, ◌+◌, ◌-◌, ◌*◌, ◌/◌, Bool, true, false, ◌&&◌, ◌||◌, List, [], ◌∷◌, ◌++◌, ltb, leb, eqb, Result, Ok, Err, length, get_or, set, replicate}
use Rattle.std.proofs.Math.Option.{Option, none, some}
use Rattle.definition.specs.Run.{Outcome, ok, refused, pure, refuse, ◌>>=◌, look, pick}
use Rattle.definition.specs.Integer.{Form, value as form_value, data_bytes, form, little, wrong_sign, integer_bytes}
use Rattle.definition.specs.Kind.{NIL, TRUE, FALSE, FIXNUM, SYMBOL, SYMBOL_LINK, OBJECT_LINK, INSTANCE_VARIABLES}
use Rattle.definition.specs.Kind.{ARRAY, HASH, HASH_DEFAULT, OBJECT, STRING, USER_DEFINED, FLOAT, BIGNUM, USER_CLASS, PLUS, MINUS}
use Rattle.definition.specs.Node.{Row, nil, bool, fixnum, symbol, array, hash, object, string, user, float, absent, width, START, LENGTH, NAME, CLASS, string_kind, user_kind, kind, word, flat, row_of, equal}
use Rattle.definition.specs.Magnitude.{fits, sign, sign_byte, unit_bytes, bignum_row}
use Rattle.definition.specs.Slice.{NODES, REFERENCES, BYTES, SYMBOLS, OBJECTS, LIMIT, INPUT, greatest_limit}
use Rattle.definition.specs.Arena.{range, too_long, bad_nodes, lowest, padded, zeroed, counts_of, find_symbol, compared_among}
use Rattle.definition.specs.State.{Room, State, Reader, at_set, nodes_set, references_set, bytes_set, symbols_set, objects_set, noted, copied_more, compared_more}
use Rattle.definition.specs.Refused.{Answer, Accepted, Refused}
use Rattle.definition.specs.declared.Refusal.{Refusal}
use Rattle.definition.specs.declared.Refusal.TheVariants.{BadTables, InvalidVersion, ShortInput, InvalidKind, NegativeCount, MissingSymbol, MissingObject, NotASymbol, NotAnObject}
use Rattle.definition.specs.declared.Refusal.TheVariants.{TooDeep, NoSpace, BadSign, TooBig, WrongSign, NotWrappable}
use Rattle.definition.specs.declared.Counts.{Counts}
use Rattle.definition.specs.declared.Loaded.{Loaded}

-- ---- what is noted

-- is what was read as dump writes it?
unfoldable pub note : Bool → Reader (Unit {0})
note b s = ok tt (noted b s)

-- n bytes are compared
unfoldable pub compare : ℕ → Reader (Unit {0})
compare n s = ok tt (compared_more n s)

-- ---- the input

-- a byte; "missing bytes are 4"
unfoldable pub read_byte : List ℕ → Reader ℕ
read_byte input s = pick (ltb s.at (length input)) (ok (get_or input s.at 0) (at_set (s.at + 1) s)) (refused ShortInput)

-- n bytes
unfoldable pub read_bytes : List ℕ → ℕ → Reader (List ℕ)
read_bytes input n s = pick (leb n (length input - s.at)) (ok (range input s.at n) (at_set (s.at + n) s)) (refused ShortInput)

-- "Header: both bytes are read, then major must be 4 and minor at most 8"; "a minor version under 8" is not dump's
unfoldable pub read_header : List ℕ → Reader (Unit {0})
read_header input = read_byte input >>= λ major. read_byte input >>= λ minor. pick (eqb major 4 && leb minor 8) (note (eqb minor 8)) (refuse (InvalidVersion major minor))

-- the word that an integer's first byte and data bytes say; "19 WRONG-SIGN, with the size byte, once all four data bytes are present and before 6"
-- "The integer reader must therefore tell whether its form was the one dump writes"
unfoldable pub integer_of : ℕ → List ℕ → ℕ → Reader ℕ
integer_of b bs w = pick (wrong_sign b w) (refuse (WrongSign b)) (note (equal (b ∷ bs) (integer_bytes w)) >>= λ _. pure w)

-- "Integer": after the first byte, which is given
unfoldable pub read_form : List ℕ → ℕ → Form → Reader ℕ
read_form input b (form_value w) = integer_of b [] w
read_form input b (data_bytes n above) = read_bytes input n >>= λ bs. integer_of b bs (little bs above)

-- "Integer": the first byte and what it asks for
unfoldable pub read_integer : List ℕ → Reader ℕ
read_integer input = read_byte input >>= λ b. read_form input b (form b)

-- a length, count or index; "negative is 6"
unfoldable pub read_count : List ℕ → Reader ℕ
read_count input = read_integer input >>= λ w. pick (ltb w 2147483648) (pure w) (refuse (NegativeCount w))

-- "Byte string. Integer length; negative is 6; missing bytes are 4"
unfoldable pub read_byte_string : List ℕ → Reader (List ℕ)
read_byte_string input = read_count input >>= read_bytes input

-- ---- the tables and lists; each is asked for room before anything is added

-- a node, and its handle: "handle = order of insertion"
unfoldable pub add_node : Room → Row → Reader ℕ
add_node room r s = pick (ltb (length s.nodes) room.nodes) (ok (length s.nodes) (nodes_set (s.nodes ++ (r ∷ [])) s)) (refused (NoSpace NODES))

-- n reference words, and where they start
unfoldable pub reserve : Room → ℕ → Reader ℕ
reserve room n s = pick (leb n (room.references - length s.references)) (ok (length s.references) (references_set (s.references ++ replicate n 0) s)) (refused (NoSpace REFERENCES))

-- bytes, and where they start; they are copied
unfoldable pub add_bytes : Room → List ℕ → Reader ℕ
add_bytes room bs s = pick (leb (length bs) (room.bytes - length s.bytes)) (ok (length s.bytes) (copied_more (length bs) (bytes_set (s.bytes ++ bs) s))) (refused (NoSpace BYTES))

-- an entry of the symbol list
unfoldable pub add_symbol : Room → ℕ → Reader ℕ
add_symbol room h s = pick (ltb (length s.symbols) room.symbols) (ok h (symbols_set (s.symbols ++ (h ∷ [])) s)) (refused (NoSpace SYMBOLS))

-- an entry of the object list
unfoldable pub add_object : Room → ℕ → Reader ℕ
add_object room h s = pick (ltb (length s.objects) room.objects) (ok h (objects_set (s.objects ++ (h ∷ [])) s)) (refused (NoSpace OBJECTS))

-- a node, put on the object list
unfoldable pub add_object_node : Room → Row → Reader ℕ
add_object_node room r = add_node room r >>= add_object room

-- a node is filled
unfoldable pub fill : ℕ → Row → Reader ℕ
fill i r s = ok i (nodes_set (set s.nodes i r) s)

-- a reserved word is written
unfoldable pub put_reference : ℕ → ℕ → Reader (Unit {0})
put_reference i v s = ok tt (references_set (set s.references i v) s)

-- ---- symbols and links

-- "interned to the lowest symbol node with that name, else bytes then node are added"; "A repeated `:` name" is not dump's
unfoldable pub intern_as : Room → List ℕ → Option ℕ → Reader ℕ
intern_as room name (some h) = note false >>= λ _. pure h
intern_as room name none = add_bytes room name >>= λ start. add_node room (symbol start (length name))

-- a name's node, searched in what there is so far; the bytes that the search compares are counted
unfoldable pub intern : Room → List ℕ → Reader ℕ
intern room name = look λ s. compare (compared_among s.bytes name s.nodes) >>= λ _. intern_as room name (find_symbol s.bytes name s.nodes 0)

-- `:` "byte string, interned ..; appended to the symbol list each time, repeats too"
unfoldable pub read_symbol : List ℕ → Room → Reader ℕ
read_symbol input room = read_byte_string input >>= λ name. intern room name >>= add_symbol room

-- the entry of a list, or the refusal where it has none
unfoldable pub entry : List ℕ → ℕ → Refusal → Reader ℕ
entry l i r s = pick (ltb i (length l)) (ok (get_or l i 0) s) (refused r)

-- `;` "integer index into that list"
unfoldable pub read_symbol_link : List ℕ → Reader ℕ
read_symbol_link input = read_count input >>= λ i. look λ s. entry s.symbols i (MissingSymbol i)

-- `@`: "index into the object list"
unfoldable pub read_object_link : List ℕ → Reader ℕ
read_object_link input = read_count input >>= λ i. look λ s. entry s.objects i (MissingObject i)

-- ---- values

-- the kind bytes: `0` `T` `F` `i` `:` `;` `@` `I` `[` `{` `}` `o` `"` `u` `f` `l` `C`
pub data Head : Type 0 where
  Nil True False Fixnum Symbol SymbolLink ObjectLink InstanceVariables Array Hash HashDefault Object String UserDefined Float Bignum UserClass Unknown : Head

-- a kind byte's head
unfoldable pub head : ℕ → Head
head k =
    pick (eqb k NIL) Nil
    (pick (eqb k TRUE) True
    (pick (eqb k FALSE) False
    (pick (eqb k FIXNUM) Fixnum
    (pick (eqb k SYMBOL) Symbol
    (pick (eqb k SYMBOL_LINK) SymbolLink
    (pick (eqb k OBJECT_LINK) ObjectLink
    (pick (eqb k INSTANCE_VARIABLES) InstanceVariables
    (pick (eqb k ARRAY) Array
    (pick (eqb k HASH) Hash
    (pick (eqb k HASH_DEFAULT) HashDefault
    (pick (eqb k OBJECT) Object
    (pick (eqb k STRING) String
    (pick (eqb k USER_DEFINED) UserDefined
    (pick (eqb k FLOAT) Float
    (pick (eqb k BIGNUM) Bignum
    (pick (eqb k USER_CLASS) UserClass Unknown))))))))))))))))

-- "Symbol-like": `:` or `;`; "Another kind is 9"
unfoldable pub read_symbol_like : List ℕ → Room → Reader ℕ
read_symbol_like input room = read_byte input >>= λ k. pick (eqb k SYMBOL) (read_symbol input room) (pick (eqb k SYMBOL_LINK) (read_symbol_link input) (refuse (NotASymbol k)))

-- "the integer count ..; negative is 6; reference words are reserved", each entry taking as many as given; then the rest, which knows where they start and the count
unfoldable pub counted : {A : Type 0} → List ℕ → Room → ℕ → (ℕ → ℕ → Reader A) → Reader A
counted input room each rest = read_count input >>= λ n. reserve room (n * each) >>= λ start. rest start n

-- "members in order": n values, from the reserved word given on
unfoldable pub read_elements : Reader ℕ → ℕ → ℕ → Reader (Unit {0})
read_elements inner zero i = pure tt
read_elements inner (suc n) i = inner >>= λ v. put_reference i v >>= λ _. read_elements inner n (suc i)

-- "pairs of symbol-like name and value"
unfoldable pub read_pairs : Reader ℕ → Reader ℕ → ℕ → ℕ → Reader (Unit {0})
read_pairs name inner zero i = pure tt
read_pairs name inner (suc n) i = name >>= λ c. put_reference i c >>= λ _. inner >>= λ v. put_reference (suc i) v >>= λ _. read_pairs name inner n (suc (suc i))

-- the count, the words and the pairs of a variable list, then the rest
unfoldable pub read_instance_variables : {A : Type 0} → List ℕ → Room → Reader ℕ → (ℕ → ℕ → Reader A) → Reader A
read_instance_variables input room inner rest = counted input room 2 λ start n. read_pairs (read_symbol_like input room) inner n start >>= λ _. rest start n

-- `i`
unfoldable pub read_fixnum : List ℕ → Room → Reader ℕ
read_fixnum input room = read_integer input >>= λ w. add_node room (fixnum w)

-- `[`: "a nil node is added and put on the object list; .. then the node is filled", with its class
unfoldable pub read_array : List ℕ → Room → Reader ℕ → ℕ → Reader ℕ
read_array input room inner class = add_object_node room nil >>= λ h. counted input room 1 λ start n. read_elements inner n start >>= λ _. fill h (array start n class)

-- "a `}` default last"
unfoldable pub read_default : Bool → Reader ℕ → ℕ → ℕ → ℕ → ℕ → Reader ℕ
read_default true inner class h start n = inner >>= λ d. fill h (hash start n (d + 1) class)
read_default false inner class h start n = fill h (hash start n 0 class)

-- `{` and, with a default, `}`
unfoldable pub read_hash : Bool → List ℕ → Room → Reader ℕ → ℕ → Reader ℕ
read_hash default? input room inner class = add_object_node room nil >>= λ h. counted input room 2 λ start n. read_elements inner (n * 2) start >>= λ _. read_default default? inner class h start n

-- `o`: the count comes "after the name"
unfoldable pub read_object : List ℕ → Room → Reader ℕ → Reader ℕ
read_object input room inner = add_object_node room nil >>= λ h. read_symbol_like input room >>= λ c. read_instance_variables input room inner λ start n. fill h (object start n c)

-- "byte string, node, object list": the row knows where its bytes start and how many they are
unfoldable pub read_text : List ℕ → Room → (ℕ → ℕ → Row) → Reader ℕ
read_text input room row = read_byte_string input >>= λ bs. add_bytes room bs >>= λ start. add_object_node room (row start (length bs))

-- `"`
unfoldable pub read_string : List ℕ → Room → ℕ → Reader ℕ
read_string input room class = read_text input room λ start n. string start n absent class

-- `u`: "symbol-like name, byte string, node, object list"
unfoldable pub read_user_defined : List ℕ → Room → Reader ℕ
read_user_defined input room = read_symbol_like input room >>= λ c. read_text input room λ start n. user start n c absent

-- `f`: "Like a string, it takes the next object number once its bytes are read"
unfoldable pub read_float : List ℕ → Room → Reader ℕ
read_float input room = read_text input room float

-- `l`: "sign byte `+` or `-`"; another is 15, "right after the sign is read"
unfoldable pub read_sign : List ℕ → Reader ℕ
read_sign input = read_byte input >>= λ b. pick (eqb b PLUS || eqb b MINUS) (pure b) (refuse (BadSign b))

-- "an integer count of 16-bit units"; 16 "for a count over 4 before its units are read"
unfoldable pub read_unit_count : List ℕ → Reader ℕ
read_unit_count input = read_count input >>= λ n. pick (leb n 4) (pure n) (refuse (TooBig n))

-- the node of a magnitude with its sign byte; "High zero units or a minus on zero count against dump form": dump writes this number with other units or another sign
unfoldable pub add_bignum : Room → ℕ → List ℕ → ℕ → Reader ℕ
add_bignum room b bs m = note (eqb b (sign_byte (sign (eqb b MINUS) m)) && equal bs (unit_bytes m)) >>= λ _. add_object_node room (bignum_row (eqb b MINUS) m)

-- n units, "lowest first, low byte first"; 16 "for the magnitude once they are" read
unfoldable pub read_magnitude : List ℕ → Room → ℕ → ℕ → Reader ℕ
read_magnitude input room b n = read_bytes input (n * 2) >>= λ bs. pick (fits (little bs 0)) (add_bignum room b bs (little bs 0)) (refuse (TooBig n))

-- `l`: "Like a Float, a Bignum takes an object number after its units"
unfoldable pub read_bignum : List ℕ → Room → Reader ℕ
read_bignum input room = read_sign input >>= λ b. read_unit_count input >>= read_magnitude input room b

-- "10 unless the value is string or user-defined. It replaces earlier variables": the row with this list in its words 3, 4 and 6
-- "`I` on a Float is still NOT-AN-OBJECT", and so on a Bignum
unfoldable pub set_variables : ℕ → ℕ → ℕ → Row → Reader ℕ
set_variables h start n r =
    pick (eqb (kind r) string_kind || eqb (kind r) user_kind) (fill h (row_of (kind r) (word r START) (word r LENGTH) start n (word r NAME) 1 (word r CLASS))) (refuse NotAnObject)

-- dump writes `I` directly before `"`, `u` or `C`: "an `I` on `I` or on `@`" is not dump's, and on any other kind it is refused
unfoldable pub takes_variables : ℕ → Bool
takes_variables k = eqb k STRING || eqb k USER_DEFINED || eqb k USER_CLASS

-- `I`: "a value, then a count .., its reference words reserved, pairs of symbol-like name and value, then 10 unless .."
unfoldable pub read_variables : List ℕ → Room → Reader ℕ → Reader ℕ
read_variables input room inner =
    look λ s. note (takes_variables (get_or input s.at 0)) >>= λ _. inner >>= λ h.
    read_instance_variables input room inner λ start n. look λ s. set_variables h start n (get_or s.nodes h nil)

-- after `C` and its name comes directly one of four kinds, which takes the class; "22 NOT-WRAPPABLE, with the byte after the name, before anything is added for it"
unfoldable pub read_wrapped : List ℕ → Room → Reader ℕ → ℕ → ℕ → Reader ℕ
read_wrapped input room inner k class =
    pick (eqb k STRING) (read_string input room class)
    (pick (eqb k ARRAY) (read_array input room inner class)
    (pick (eqb k HASH) (read_hash false input room inner class)
    (pick (eqb k HASH_DEFAULT) (read_hash true input room inner class) (refuse (NotWrappable k)))))

-- `C`: "a symbol-like name", which is the class; "`C` takes no level and no object number"
unfoldable pub read_user_class : List ℕ → Room → Reader ℕ → Reader ℕ
read_user_class input room inner = read_symbol_like input room >>= λ c. read_byte input >>= λ k. read_wrapped input room inner k (suc c)

-- a value after its kind byte; inner is a value one level deeper
unfoldable pub value_of : List ℕ → Room → Reader ℕ → ℕ → Head → Reader ℕ
value_of input room inner k Nil = add_node room nil
value_of input room inner k True = add_node room (bool true)
value_of input room inner k False = add_node room (bool false)
value_of input room inner k Fixnum = read_fixnum input room
value_of input room inner k Symbol = read_symbol input room
value_of input room inner k SymbolLink = read_symbol_link input
value_of input room inner k ObjectLink = read_object_link input
value_of input room inner k InstanceVariables = read_variables input room inner
value_of input room inner k Array = read_array input room inner 0
value_of input room inner k Hash = read_hash false input room inner 0
value_of input room inner k HashDefault = read_hash true input room inner 0
value_of input room inner k Object = read_object input room inner
value_of input room inner k String = read_string input room 0
value_of input room inner k UserDefined = read_user_defined input room
value_of input room inner k Float = read_float input room
value_of input room inner k Bignum = read_bignum input room
value_of input room inner k UserClass = read_user_class input room inner
value_of input room inner k Unknown = refuse (InvalidKind k)

-- "A value reads its members and each member is again a value", by the levels still allowed; "The level is tested before the kind byte"
unfoldable pub read_value : List ℕ → Room → ℕ → ℕ → Reader ℕ
read_value input room limit zero = refuse (TooDeep limit)
read_value input room limit (suc levels) = read_byte input >>= λ k. value_of input room (read_value input room limit levels) k (head k)

-- ---- the call

-- "Node 0 is nil, the first root, and stays"
abbrev pub begin : State
begin = record { at = 0; nodes = nil ∷ []; references = []; bytes = []; symbols = []; objects = []; notes = record { form = true; copied = 0; compared = 0 } }

-- the header and the root value
unfoldable pub load : List ℕ → Room → ℕ → Outcome State ℕ
load input room limit = (read_header input >>= λ _. read_value input room limit limit) begin

-- what is lent to load besides the input
pub record Lists : Type 0 where
  pub nodes : List ℕ
  pub references : List ℕ
  pub bytes : List ℕ
  pub symbols : List ℕ
  pub objects : List ℕ

-- the five lent lists put together
abbrev pub lists : List ℕ → List ℕ → List ℕ → List ℕ → List ℕ → Lists
lists n r b y o = record { nodes = n; references = r; bytes = b; symbols = y; objects = o }

-- as much room as the lent lists have
unfoldable pub room_of : Lists → Room
room_of T = record { nodes = length T.nodes / width; references = length T.references; bytes = length T.bytes; symbols = length T.symbols; objects = length T.objects }

-- what is wrong with each slice lent, by their numbers
abbrev pub load_tests : List ℕ → Lists → ℕ → List (ℕ × Bool)
load_tests input T limit =
    (NODES, bad_nodes (length T.nodes)) ∷ (REFERENCES, too_long (length T.references)) ∷ (BYTES, too_long (length T.bytes))
    ∷ (SYMBOLS, too_long (length T.symbols)) ∷ (OBJECTS, too_long (length T.objects)) ∷ (LIMIT, ltb greatest_limit limit) ∷ (INPUT, too_long (length input)) ∷ []

-- BAD-TABLES: the lowest wrong slice, or 0
unfoldable pub load_wrong : List ℕ → Lists → ℕ → ℕ
load_wrong input T limit = lowest (load_tests input T limit)

-- what load answers
pub record LoadAnswer : Type 0 where
  pub answer : Answer
  pub counts : Counts
  pub used : ℕ
  pub form : Bool

-- "A load refused with 1 returns counts 0, 0, 0, 0, otherwise 1, 0, 0, 0"
unfoldable pub counts_left : Refusal → Counts
counts_left (BadTables slice) = counts_of 0 0 0 0
counts_left q = counts_of 1 0 0 0

-- by the code's Result; refused, "bytes used are then 0", "A refused load says no"
unfoldable pub load_answer : Result Loaded Refusal → LoadAnswer
load_answer (Ok r) = record { answer = Accepted; counts = r.counts; used = r.used; form = r.form }
load_answer (Err q) = record { answer = Refused q; counts = counts_left q; used = 0; form = false }

-- a call's answer, and everything lent as it then stands
pub record LoadCall : Type 0 where
  pub answer : LoadAnswer
  pub lent : Lists

-- the two put together
abbrev pub load_call_of : LoadAnswer → Lists → LoadCall
load_call_of a T = record { answer = a; lent = T }

-- "otherwise 1, 0, 0, 0 over zeroed tables; bytes used are then 0", "A refused load says no"; accepted: the lists laid out, then zeros, and "both lists are zero at the end"
unfoldable pub load_done : Lists → Outcome State ℕ → LoadCall
load_done T (refused r) =
    load_call_of (record { answer = Refused r; counts = counts_of 1 0 0 0; used = 0; form = false })
    (lists (zeroed T.nodes) (zeroed T.references) (zeroed T.bytes) (zeroed T.symbols) (zeroed T.objects))
load_done T (ok h s) =
    load_call_of (record { answer = Accepted; counts = counts_of (length s.nodes) (length s.references) (length s.bytes) h; used = s.at; form = s.notes.form })
    (lists (padded T.nodes (flat s.nodes)) (padded T.references s.references) (padded T.bytes s.bytes) (zeroed T.symbols) (zeroed T.objects))

-- "After 1, nothing is touched"; "A load refused with 1 returns counts 0, 0, 0, 0"
unfoldable pub load_if : ℕ → List ℕ → Lists → ℕ → LoadCall
load_if zero input T limit = load_done T (load input (room_of T) limit)
load_if (suc slice) input T limit = load_call_of (record { answer = Refused (BadTables (suc slice)); counts = counts_of 0 0 0 0; used = 0; form = false }) T

-- load's whole call
unfoldable pub load_call : List ℕ → Lists → ℕ → LoadCall
load_call input T limit = load_if (load_wrong input T limit) input T limit
