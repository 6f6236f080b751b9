-- The getters and the builder: the answer and all that is lent, as each call leaves it (01, "Builder and listing"; 02, 2.1, 2.4 and 2.9).
use Rattle.std.specs.Prelude.{ℕ, zero, suc, ◌+◌, ◌-◌, ◌*◌, ◌/◌, ◌%◌, Bool, not, ◌||◌, List, [], ◌∷◌, ◌++◌, ltb, leb, eqb, ℤ, pos, negsuc, length, get_or, set, take, drop, replicate, Result, Ok, Err}
use Rattle.std.proofs.Math.Option.{Option, none, some}
use Rattle.std.proofs.lemmas.List.Edits.{sets}
use Rattle.definition.specs.Run.{Run, Outcome, ok, refused, pure, refuse, ◌>>=◌, look, pick}
use Rattle.definition.specs.Node.{Row, nil, bool, fixnum, symbol, array, hash, object, string, user, float, bignum, absent, width, CLASS, array_kind, hash_kind, string_kind, kind, word, words, optional_node}
use Rattle.definition.specs.Magnitude.{fits, sign, magnitude}
use Rattle.definition.specs.Slice.{NODES, REFERENCES, BYTES, INPUT, MEMBERS}
use Rattle.definition.specs.Arena.{Tables, Arena, tables_of, counts_of, arena, node, firsts, is_name, too_long, bad_nodes, lowest, allowed, fault, sound, zeroed, find_symbol}
use Rattle.definition.specs.Refused.{Answer, Accepted, Refused}
use Rattle.definition.specs.declared.Counts.{Counts}
use Rattle.definition.specs.declared.Refusal.TheVariants.{BadTables, NoSpace, BadHandle, WrongKind, TooBig}
use Rattle.definition.specs.declared.Created.{Created}
use Rattle.definition.specs.declared.Name.{Name}
use Rattle.definition.specs.declared.Refusal.{Refusal}

-- tables and counts, which a call may change
pub record Lent : Type 0 where
  pub tables : Tables
  pub counts : Counts

-- tables and counts put together
abbrev pub lent : List ℕ → List ℕ → List ℕ → Counts → Lent
lent n r b c = record { tables = tables_of n r b; counts = c }

-- the arena that they hold
abbrev pub held : Lent → Arena
held L = arena L.tables L.counts

-- ---- what is tested, in order

-- the three tables, and what a call takes besides
unfoldable pub wrong : Tables → List (ℕ × Bool) → ℕ
wrong T more = lowest ((NODES, bad_nodes (length T.nodes)) ∷ (REFERENCES, too_long (length T.references)) ∷ (BYTES, too_long (length T.bytes)) ∷ more)

-- "arena checked": 1, then 2
unfoldable pub check : List (ℕ × Bool) → Run Lent (Unit {0})
check more = look λ L. allowed (wrong L.tables more) >>= λ _. sound (fault L.tables L.counts)

-- "then handles in order": 13, "not below node count"
unfoldable pub check_handles : List ℕ → Run Lent (Unit {0})
check_handles [] = pure tt
check_handles (h ∷ hs) = look λ L. pick (ltb h L.counts.nodes) (check_handles hs) (refuse (BadHandle h))

-- "then 14 for names": "symbol wanted"
unfoldable pub check_names : List ℕ → Run Lent (Unit {0})
check_names [] = pure tt
check_names (h ∷ hs) = look λ L. pick (is_name (held L) h) (check_names hs) (refuse (WrongKind h))

-- "then 12 for bytes, references, nodes"
unfoldable pub check_space : List ℕ → List ℕ → Run Lent (Unit {0})
check_space bs ms L =
    pick (leb (length bs) (length L.tables.bytes - L.counts.bytes))
    (pick (leb (length ms) (length L.tables.references - L.counts.references))
    (pick (ltb L.counts.nodes (length L.tables.nodes / width)) (ok tt L) (refused (NoSpace NODES)))
    (refused (NoSpace REFERENCES)))
    (refused (NoSpace BYTES))

-- ---- getters

-- a node's words
unfoldable pub words_at : List ℕ → ℕ → List ℕ
words_at table h = take width (drop (h * width) table)

-- 1, 2, then the handles
unfoldable pub handles_checked : List ℕ → Run Lent (Unit {0})
handles_checked hs = check [] >>= λ _. check_handles hs

-- `get` answers a node's words
unfoldable pub get_words : ℕ → Run Lent (List ℕ)
get_words h = handles_checked (h ∷ []) >>= λ _. look λ L. pure (words_at L.tables.nodes h)

-- "`kind` word 0"
unfoldable pub get_kind : ℕ → Run Lent ℕ
get_kind h = get_words h >>= λ ws. pure (get_or ws 0 0)

-- "`get_symbol` byte start and length": words 1 and 2
unfoldable pub get_name : ℕ → Run Lent (List ℕ)
get_name h = handles_checked (h ∷ []) >>= λ _. check_names (h ∷ []) >>= λ _. look λ L. pure (take 2 (drop 1 (words_at L.tables.nodes h)))

-- `root`
unfoldable pub get_root : Run Lent ℕ
get_root = check [] >>= λ _. look λ L. pure L.counts.root

-- "`replace_root` the old root and the counts with the new one"
unfoldable pub set_root : ℕ → Run Lent ℕ
set_root h L = ok L.counts.root (record { tables = L.tables; counts = counts_of L.counts.nodes L.counts.references L.counts.bytes h })

-- `replace_root`: the handle is tested, then the root replaced
unfoldable pub exchange_root : ℕ → Run Lent ℕ
exchange_root h = handles_checked (h ∷ []) >>= λ _. set_root h

-- only kinds 4, 5 and 7 take a class: 14
unfoldable pub takes_class : ℕ → Bool
takes_class k = eqb k array_kind || eqb k hash_kind || eqb k string_kind

unfoldable pub check_class : ℕ → Run Lent (Unit {0})
check_class h = look λ L. pick (takes_class (kind (node (held L) h))) (pure tt) (refuse (WrongKind h))

-- a node's class word is replaced, and the old one answered
unfoldable pub set_class : ℕ → ℕ → Run Lent ℕ
set_class h w L = ok (word (node (held L) h) CLASS) (lent (set L.tables.nodes (h * width + CLASS) w) L.tables.references L.tables.bytes L.counts)

-- `replace_class`: the class is passed as word 7 holds it; the handle, then the class are tested by 13, then by 14
unfoldable pub exchange_class : ℕ → ℕ → Run Lent ℕ
exchange_class h w = handles_checked (h ∷ optional_node w) >>= λ _. check_class h >>= λ _. check_names (optional_node w) >>= λ _. set_class h w

-- ---- builder

-- "A node is appended and its handle answered with the new counts, root unmoved": its bytes, its list, and its row, which knows where they start
unfoldable pub append : List ℕ → List ℕ → (ℕ → ℕ → Row) → Run Lent ℕ
append bs ms row L =
    ok L.counts.nodes
    (lent (sets L.tables.nodes (L.counts.nodes * width) (words (row L.counts.bytes L.counts.references)))
    (sets L.tables.references L.counts.references ms)
    (sets L.tables.bytes L.counts.bytes bs)
    (counts_of (L.counts.nodes + 1) (L.counts.references + length ms) (L.counts.bytes + length bs) L.counts.root))

-- where there is room
unfoldable pub add : List ℕ → List ℕ → (ℕ → ℕ → Row) → Run Lent ℕ
add bs ms row = check_space bs ms >>= λ _. append bs ms row

-- a builder's byte string is slice 8; its list is slice 9, where an "odd pair list" is wrong too
unfoldable pub byte_slice : List ℕ → ℕ × Bool
byte_slice bs = (INPUT, too_long (length bs))

-- a list of members: slice 9
unfoldable pub member_slice : List ℕ → ℕ × Bool
member_slice ms = (MEMBERS, too_long (length ms))

-- a list of pairs: slice 9, and "odd pair list"
unfoldable pub pair_slice : List ℕ → ℕ × Bool
pair_slice ps = (MEMBERS, too_long (length ps) || not (eqb (length ps % 2) 0))

-- `create_nil`
unfoldable pub create_nil : Run Lent ℕ
create_nil = check [] >>= λ _. add [] [] λ b r. nil

-- `create_bool`
unfoldable pub create_bool : Bool → Run Lent ℕ
create_bool v = check [] >>= λ _. add [] [] λ b r. bool v

-- "fixnum's 32 bits in two's complement"
unfoldable pub bits : ℤ → ℕ
bits (pos n) = n
bits (negsuc n) = 4294967295 - n

-- `create_fixnum`
unfoldable pub create_fixnum : ℤ → Run Lent ℕ
create_fixnum v = check [] >>= λ _. add [] [] λ b r. fixnum (bits v)

-- a symbol node with its bytes
unfoldable pub add_symbol : List ℕ → Run Lent ℕ
add_symbol name = add name [] λ b r. symbol b (length name)

-- "`create_new_symbol` doesn't" intern
unfoldable pub create_new_symbol : List ℕ → Run Lent ℕ
create_new_symbol name = check (byte_slice name ∷ []) >>= λ _. add_symbol name

-- what the search found, or a new symbol
unfoldable pub known_or_new : List ℕ → Option ℕ → Run Lent ℕ
known_or_new name (some h) = pure h
known_or_new name none = add_symbol name

-- "`create_symbol` interns, adding nothing for a known name"
unfoldable pub create_symbol : List ℕ → Run Lent ℕ
create_symbol name = check (byte_slice name ∷ []) >>= λ _. look λ L. known_or_new name (find_symbol (held L).bytes name (held L).nodes 0)

-- `create_array`: the members are handles
unfoldable pub create_array : List ℕ → Run Lent ℕ
create_array ms = check (member_slice ms ∷ []) >>= λ _. check_handles ms >>= λ _. add [] ms λ b r. array r (length ms) 0

-- "A hash default is passed as word 6 holds it, and tested after the pairs; 13 names that word less 1"
unfoldable pub create_hash : List ℕ → ℕ → Run Lent ℕ
create_hash ps d = check (pair_slice ps ∷ []) >>= λ _. check_handles (ps ++ optional_node d) >>= λ _. add [] ps λ b r. hash r (length ps / 2) d 0

-- "name before pairs (13, then 14 for names)"
unfoldable pub create_object : ℕ → List ℕ → Run Lent ℕ
create_object c ps = check (pair_slice ps ∷ []) >>= λ _. check_handles (c ∷ ps) >>= λ _. check_names (c ∷ firsts ps) >>= λ _. add [] ps λ b r. object r (length ps / 2) c

-- `create_string`: no variable list
unfoldable pub create_string : List ℕ → Run Lent ℕ
create_string bs = check (byte_slice bs ∷ []) >>= λ _. add bs [] λ b r. string b (length bs) absent 0

-- `create_user_defined`: the name, then the bytes; no variable list
unfoldable pub create_user_defined : ℕ → List ℕ → Run Lent ℕ
create_user_defined c bs = check (byte_slice bs ∷ []) >>= λ _. check_handles (c ∷ []) >>= λ _. check_names (c ∷ []) >>= λ _. add bs [] λ b r. user b (length bs) c absent

-- `create_float`, in the manner of `create_string`
unfoldable pub create_float : List ℕ → Run Lent ℕ
create_float bs = check (byte_slice bs ∷ []) >>= λ _. add bs [] λ b r. float b (length bs)

-- 16 for a magnitude that would need more than 2^63 − 1; its units are then 4
unfoldable pub check_magnitude : ℕ → Run Lent (Unit {0})
check_magnitude m = pick (fits m) (pure tt) (refuse (TooBig 4))

-- `create_bignum`: a minus or not, the low and the high word; "zero is plus"
unfoldable pub create_bignum : Bool → ℕ → ℕ → Run Lent ℕ
create_bignum minus low high = check [] >>= λ _. check_magnitude (magnitude low high) >>= λ _. add [] [] λ b r. bignum low high (sign minus (magnitude low high))

-- ---- the calls

-- what the builder answers, and what `new` and the getters do
pub record BuildAnswer : Type 0 where
  pub answer : Answer
  pub handle : ℕ
  pub counts : Counts

pub record NewAnswer : Type 0 where
  pub answer : Answer
  pub counts : Counts

pub record NumberAnswer : Type 0 where
  pub answer : Answer
  pub value : ℕ

pub record WordsAnswer : Type 0 where
  pub answer : Answer
  pub words : List ℕ

pub record NameAnswer : Type 0 where
  pub answer : Answer
  pub start : ℕ
  pub length : ℕ

-- by the code's Result; a refused builder "hands back the counts given"
unfoldable pub build_answer : Counts → Result Created Refusal → BuildAnswer
build_answer given (Ok r) = record { answer = Accepted; handle = r.handle; counts = r.counts }
build_answer given (Err q) = record { answer = Refused q; handle = 0; counts = given }

unfoldable pub new_answer : Result Counts Refusal → NewAnswer
new_answer (Ok c) = record { answer = Accepted; counts = c }
new_answer (Err q) = record { answer = Refused q; counts = counts_of 0 0 0 0 }

unfoldable pub number_answer : Result ℕ Refusal → NumberAnswer
number_answer (Ok n) = record { answer = Accepted; value = n }
number_answer (Err q) = record { answer = Refused q; value = 0 }

unfoldable pub words_answer : Result (List ℕ) Refusal → WordsAnswer
words_answer (Ok ws) = record { answer = Accepted; words = ws }
words_answer (Err q) = record { answer = Refused q; words = replicate width 0 }

unfoldable pub name_answer : Result Name Refusal → NameAnswer
name_answer (Ok r) = record { answer = Accepted; start = r.start; length = r.length }
name_answer (Err q) = record { answer = Refused q; start = 0; length = 0 }

-- a builder's answer and all that is lent: "refusal changes nothing and hands back the counts given"
pub record BuildCall : Type 0 where
  pub answer : BuildAnswer
  pub tables : Tables

-- its answer and the three tables put together
abbrev pub build_call_of : BuildAnswer → List ℕ → List ℕ → List ℕ → BuildCall
build_call_of a n r b = record { answer = a; tables = tables_of n r b }

-- the answer of a builder by its outcome
unfoldable pub build_done : Lent → Outcome Lent ℕ → BuildCall
build_done L (ok h M) = record { answer = record { answer = Accepted; handle = h; counts = M.counts }; tables = M.tables }
build_done L (refused r) = record { answer = record { answer = Refused r; handle = 0; counts = L.counts }; tables = L.tables }

-- a builder's whole call
unfoldable pub build_call : Run Lent ℕ → Lent → BuildCall
build_call m L = build_done L (m L)

-- a getter's answer; "What a refused answer holds besides is 0"
unfoldable pub number_done : Outcome Lent ℕ → NumberAnswer
number_done (ok n L) = record { answer = Accepted; value = n }
number_done (refused r) = record { answer = Refused r; value = 0 }

-- `get`
unfoldable pub words_done : Outcome Lent (List ℕ) → WordsAnswer
words_done (ok ws L) = record { answer = Accepted; words = ws }
words_done (refused r) = record { answer = Refused r; words = replicate width 0 }

-- `get_symbol`
unfoldable pub name_done : Outcome Lent (List ℕ) → NameAnswer
name_done (ok ws L) = record { answer = Accepted; start = get_or ws 0 0; length = get_or ws 1 0 }
name_done (refused r) = record { answer = Refused r; start = 0; length = 0 }

-- "`new` zeroes its tables and returns counts 1, 0, 0, 0; after 1, zeros, nothing touched"
pub record NewCall : Type 0 where
  pub answer : NewAnswer
  pub tables : Tables

-- its answer and the three tables put together
abbrev pub new_call_of : NewAnswer → List ℕ → List ℕ → List ℕ → NewCall
new_call_of a n r b = record { answer = a; tables = tables_of n r b }

-- by the lowest wrong slice, or 0
unfoldable pub new_if : ℕ → Tables → NewCall
new_if zero T = new_call_of (record { answer = Accepted; counts = counts_of 1 0 0 0 }) (zeroed T.nodes) (zeroed T.references) (zeroed T.bytes)
new_if (suc slice) T = record { answer = record { answer = Refused (BadTables (suc slice)); counts = counts_of 0 0 0 0 }; tables = T }

-- `new` takes slices 1, 2 and 3
unfoldable pub new_call : Tables → NewCall
new_call T = new_if (wrong T []) T
