-- The bytes that document 01 marks with a star, computed (01, "Bytes with known outcomes"; 02, 2.6).
use Rattle.std.specs.Prelude.{ℕ, ◌*◌, Bool, ◌≡◌, refl, List, [], ◌∷◌, map, ℤ, pos, negsuc, take, replicate}
use Rattle.std.specs.Int.Count.{count_leading_zeros}
use Rattle.definition.specs.Run.{Outcome, ok, refused, pure, refuse, next, ◌>>=◌, look, pick}
use Rattle.definition.specs.Refused.{signed, place, numbers, answer_numbers}
use Rattle.definition.specs.Integer.{form, little, wrong_sign, low_bytes, fewest, integer_bytes}
use Rattle.definition.specs.Node as N
use Rattle.definition.specs.Magnitude.{fits, sign, magnitude, bignum_row, fewest_units, sign_byte, unit_bytes, bignum_bytes}
use Rattle.definition.specs.Arena as A
use Rattle.definition.specs.Buckets as B
use Rattle.definition.specs.State.{State}
use Rattle.definition.specs.Load as L
use Rattle.definition.specs.LoadMeasured as LM
use Rattle.definition.specs.LoadHashed as LH
use Rattle.definition.specs.Dump as D
use Rattle.definition.specs.Refused.{Answer}
use Rattle.definition.specs.Refused.{Accepted, Refused}
use Rattle.definition.specs.declared.Counts.{Counts}

-- ---- integers

-- what an integer's bytes say: a number, or the refusal's three numbers
data Said : Type 0 where
  number : ℤ → Said
  not_read : ℕ × ℤ × ℤ → Said

said : Outcome State ℕ → Said
said (ok w s) = number (signed w)
said (refused r) = not_read (numbers r)

read : List ℕ → Said
unfolding said numbers signed L.read_integer L.read_form L.integer_of L.note L.read_bytes L.read_byte A.range N.equal form little wrong_sign integer_bytes low_bytes fewest count_leading_zeros pure refuse next ◌>>=◌ pick
read bytes = said (L.read_integer bytes L.begin)

abbrev integers : List (List ℕ × Said)
integers =
    (0x05 ∷ [], number (pos 0))
    ∷ (0xFB ∷ [], number (pos 0))
    ∷ (0x7F ∷ [], number (pos 122))
    ∷ (0x80 ∷ [], number (negsuc 122))
    ∷ (0x01 ∷ 0x7B ∷ [], number (pos 123))
    ∷ (0xFF ∷ 0x84 ∷ [], number (negsuc 123))
    ∷ (0xFF ∷ 0x00 ∷ [], number (negsuc 255))
    ∷ (0xFE ∷ 0xFF ∷ 0xFE ∷ [], number (negsuc 256))
    -- refused since 02, 2.6
    ∷ (0x04 ∷ 0xFF ∷ 0xFF ∷ 0xFF ∷ 0xFF ∷ [], not_read (19, pos 4, pos 0))
    ∷ (0xFC ∷ 0xFF ∷ 0xFF ∷ 0xFF ∷ 0x7F ∷ [], not_read (19, pos 252, pos 0))
    ∷ []

-- ---- loads and dumps

-- what loading bytes and dumping the arena come to: the used node words, reference words and bytes, the bytes of input used, and the bytes written; or the refusal's three numbers
pub data Result : Type 0 where
  dumped : List ℕ → List ℕ → List ℕ → ℕ → List ℕ → Result
  not_loaded : ℕ × ℤ × ℤ → Result

lent : L.Lists
lent = L.lists (replicate (5 * N.width) 9) (replicate 5 9) (replicate 5 9) (replicate 5 9) (replicate 5 9)

-- a call of dump, computed
unfoldable pub dump_with : A.Tables → Counts → List ℕ → List ℕ → ℕ → D.DumpCall
unfolding D.dump_call D.dump_wrong D.dump_checked D.dump_done D.dump D.write_value D.write_level D.write_row D.hash_byte D.write_class D.write_default D.write_variables D.write_instance_variables D.write_name D.write_pairs D.write_elements D.write_object_or_link D.write_symbol D.byte_string_bytes D.link_or D.number_in D.number_object D.number_symbol D.write D.◌>>◌ A.allowed A.lowest A.bad_nodes A.too_long A.sound A.fault A.fault_if A.faulty A.counts_fit A.node_right A.row_right A.number_right A.class_right A.vars_right A.pairs_right A.list_right A.bytes_right A.all_names A.is_name A.all_below A.firsts A.name_of A.range A.node A.arena A.zeroed A.padded N.is_row N.equal N.rows N.row N.row_of N.optional_node N.vars N.words N.kind fits sign magnitude fewest_units sign_byte unit_bytes bignum_bytes integer_bytes low_bytes fewest count_leading_zeros pure refuse next ◌>>=◌ look pick
dump_with T c scratch output limit = D.dump_call T c scratch output limit

dump_of : L.LoadCall → D.DumpCall
unfolding dump_with
dump_of c = dump_with (A.tables_of c.lent.nodes c.lent.references c.lent.bytes) c.answer.counts (replicate 5 9) (replicate 20 9) 64

result : L.LoadCall → Answer → Result
unfolding dump_of numbers signed place pick
result c Accepted =
    dumped (take (c.answer.counts.nodes * N.width) c.lent.nodes) (take c.answer.counts.references c.lent.references)
    (take c.answer.counts.bytes c.lent.bytes) c.answer.used (take (dump_of c).answer.written (dump_of c).output)
result c (Refused r) = not_loaded (numbers r)

-- a call of load, computed
unfoldable pub load_with : List ℕ → L.Lists → ℕ → L.LoadCall
unfolding L.load_call L.load_if L.load_done L.load_wrong L.room_of L.load L.read_header L.read_value L.value_of L.read_user_class L.read_wrapped L.read_variables L.set_variables L.read_bignum L.read_magnitude L.add_bignum L.read_unit_count L.read_sign L.read_float L.read_user_defined L.read_string L.read_text L.read_object L.read_hash L.read_default L.read_array L.read_fixnum L.read_instance_variables L.read_pairs L.read_elements L.counted L.read_symbol_like L.head L.read_object_link L.read_symbol_link L.entry L.read_symbol L.intern L.intern_as L.put_reference L.fill L.add_object_node L.add_object L.add_symbol L.add_bytes L.reserve L.add_node L.read_byte_string L.read_count L.read_integer L.read_form L.integer_of L.read_bytes L.read_byte L.takes_variables L.compare L.note A.compared_among A.compared_with A.bytes_compared A.find_symbol A.named A.name_of A.lowest A.bad_nodes A.too_long A.range A.zeroed A.padded N.equal N.flat N.words N.kind fits sign bignum_row fewest_units sign_byte unit_bytes form little wrong_sign integer_bytes low_bytes fewest count_leading_zeros pure refuse next ◌>>=◌ look pick N.row_of N.vars
load_with input T limit = L.load_call input T limit

call : List ℕ → L.LoadCall
unfolding lent load_with
call input = load_with input lent 64

unfoldable pub load_and_dump : List ℕ → Result
unfolding result call
load_and_dump input = result (call input) (call input).answer.answer

-- is the load's answer yes?
unfoldable pub in_dump_form : List ℕ → Bool
unfolding call
in_dump_form input = (call input).answer.form

-- the two counts that the measuring load adds
unfoldable pub measures : List ℕ → ℕ × ℕ
unfolding lent load_with LM.measured_call LM.measured_if LM.measured_done
measures input = ((measured input).answer.copied, (measured input).answer.compared)
  where
    measured : List ℕ → LM.MeasuredCall
    measured input = LM.measured_call input lent 64

-- what the hashed load answers with room for so many nodes and so many bucket words, and the words looked at
unfoldable pub looks : ℕ × ℕ × List ℕ → (ℕ × ℤ × ℤ) × ℕ
unfolding load_with answer_numbers numbers signed place LH.hashed_call LH.hashed_if LH.hashed_done LH.hashed_wrong LH.bad_buckets LH.words_looked LH.hash_at B.searches B.search B.distance B.words_passed B.ends B.bucket B.fnv_1a B.fnv_from B.exclusive_or
looks (n, m, input) = (answer_numbers hashed.answer.load.answer, hashed.answer.looked)
  where
    hashed : LH.HashedCall
    hashed = LH.hashed_call input (L.lists (replicate (n * N.width) 9) (replicate 5 9) (replicate 5 9) (replicate 5 9) (replicate 5 9)) (replicate m 9) 64

abbrev outcomes : List (List ℕ × Result)
outcomes =
    -- array holding itself, dumps alike
    (0x04 ∷ 0x08 ∷ 0x5B ∷ 0x06 ∷ 0x40 ∷ 0x00 ∷ [], dumped (0 ∷ 0 ∷ 0 ∷ 0 ∷ 0 ∷ 0 ∷ 0 ∷ 0 ∷ 4 ∷ 0 ∷ 0 ∷ 0 ∷ 1 ∷ 0 ∷ 0 ∷ 0 ∷ []) (1 ∷ []) [] 6 (0x04 ∷ 0x08 ∷ 0x5B ∷ 0x06 ∷ 0x40 ∷ 0x00 ∷ []))
    -- variables given through a link
    ∷ (0x04 ∷ 0x08 ∷ 0x5B ∷ 0x07 ∷ 0x22 ∷ 0x06 ∷ 0x61 ∷ 0x49 ∷ 0x40 ∷ 0x06 ∷ 0x00 ∷ [], dumped (0 ∷ 0 ∷ 0 ∷ 0 ∷ 0 ∷ 0 ∷ 0 ∷ 0 ∷ 4 ∷ 0 ∷ 0 ∷ 0 ∷ 2 ∷ 0 ∷ 0 ∷ 0 ∷ 7 ∷ 0 ∷ 1 ∷ 2 ∷ 0 ∷ 0 ∷ 1 ∷ 0 ∷ []) (2 ∷ 2 ∷ []) (0x61 ∷ []) 11 (0x04 ∷ 0x08 ∷ 0x5B ∷ 0x07 ∷ 0x49 ∷ 0x22 ∷ 0x06 ∷ 0x61 ∷ 0x00 ∷ 0x40 ∷ 0x06 ∷ []))
    -- a name given twice
    ∷ (0x04 ∷ 0x08 ∷ 0x5B ∷ 0x07 ∷ 0x3A ∷ 0x06 ∷ 0x61 ∷ 0x3A ∷ 0x06 ∷ 0x61 ∷ [], dumped (0 ∷ 0 ∷ 0 ∷ 0 ∷ 0 ∷ 0 ∷ 0 ∷ 0 ∷ 4 ∷ 0 ∷ 0 ∷ 0 ∷ 2 ∷ 0 ∷ 0 ∷ 0 ∷ 3 ∷ 0 ∷ 1 ∷ 0 ∷ 0 ∷ 0 ∷ 0 ∷ 0 ∷ []) (2 ∷ 2 ∷ []) (0x61 ∷ []) 10 (0x04 ∷ 0x08 ∷ 0x5B ∷ 0x07 ∷ 0x3A ∷ 0x06 ∷ 0x61 ∷ 0x3B ∷ 0x00 ∷ []))
    ∷ (0x04 ∷ 0x08 ∷ 0x40 ∷ 0x00 ∷ [], not_loaded (8, pos 0, pos 0))
    ∷ (0x04 ∷ 0x08 ∷ 0x49 ∷ 0x30 ∷ [], not_loaded (4, pos 0, pos 0))
    ∷ (0x04 ∷ 0x08 ∷ 0x49 ∷ 0x30 ∷ 0x00 ∷ [], not_loaded (10, pos 0, pos 0))
    ∷ (0x04 ∷ 0x08 ∷ 0x5B ∷ 0xFA ∷ [], not_loaded (6, negsuc 0, pos 0))
    ∷ []

-- each case comes to what stands beside it
unfoldable pub holds : {A B : Type 0} → (A → B) → List (A × B) → Type 0
holds f cases = map (λ c. f c.0) cases ≡ map (λ c. c.1) cases

starred : holds read integers × holds load_and_dump outcomes
unfolding holds read load_and_dump
starred = (refl, refl)
