-- What a reader answers: an input slice with an offset, from which it reads on (01, "Reader"; 02, 2.2).
use Rattle.std.specs.Prelude.{ℕ, ◌+◌, ◌-◌, Bool, false, List, length, drop, Result, Ok, Err}
use Rattle.definition.specs.Run.{Outcome, ok, refused, pick}
use Rattle.definition.specs.Slice.{INPUT}
use Rattle.definition.specs.Arena.{too_long}
use Rattle.definition.specs.State.{State, Reader, at_set}
use Rattle.definition.specs.Load.{Lists, LoadCall, begin, read_byte, read_header, read_integer, read_byte_string, load_wrong, load_if}
use Rattle.definition.specs.Refused.{Answer, Accepted, Refused}
use Rattle.definition.specs.declared.Refusal.TheVariants.{BadTables}
use Rattle.definition.specs.declared.Taken.{Taken}
use Rattle.definition.specs.declared.Text.{Text}
use Rattle.definition.specs.declared.Refusal.{Refusal}

-- the state of a reader at an offset
abbrev pub starting : ℕ → State
starting offset = at_set offset begin

-- a step of load at an offset of the input; before anything else the greatest length of a slice, which binds the whole input, wherever the offset is
unfoldable pub read_at : {A : Type 0} → List ℕ → ℕ → Reader A → Outcome State A
read_at input offset m = pick (too_long (length input)) (refused (BadTables INPUT)) (m (starting offset))

-- what a reader answers of a value and of bytes
pub record TakenAnswer : Type 0 where
  pub answer : Answer
  pub value : ℕ
  pub offset : ℕ
  pub form : Bool

pub record TextAnswer : Type 0 where
  pub answer : Answer
  pub start : ℕ
  pub length : ℕ
  pub offset : ℕ
  pub form : Bool

-- by the code's Result; refused, the offset is the one given
unfoldable pub taken_answer : ℕ → Result Taken Refusal → TakenAnswer
taken_answer offset (Ok r) = record { answer = Accepted; value = r.value; offset = r.offset; form = r.form }
taken_answer offset (Err q) = record { answer = Refused q; value = 0; offset = offset; form = false }

unfoldable pub text_answer : ℕ → Result Text Refusal → TextAnswer
text_answer offset (Ok r) = record { answer = Accepted; start = r.start; length = r.length; offset = r.offset; form = r.form }
text_answer offset (Err q) = record { answer = Refused q; start = 0; length = 0; offset = offset; form = false }

-- a value read from the offset given, and whether its bytes are those that dump writes; after a refusal the offset is the one given
unfoldable pub taken : ℕ → Outcome State ℕ → TakenAnswer
taken offset (ok v s) = record { answer = Accepted; value = v; offset = s.at; form = s.notes.form }
taken offset (refused r) = record { answer = Refused r; value = 0; offset = offset; form = false }

-- nothing to answer
unfoldable pub header_taken : ℕ → Outcome State (Unit {0}) → TakenAnswer
header_taken offset (ok v s) = record { answer = Accepted; value = 0; offset = s.at; form = s.notes.form }
header_taken offset (refused r) = record { answer = Refused r; value = 0; offset = offset; form = false }

-- bytes, which stand before the offset then
unfoldable pub spanned : ℕ → Outcome State (List ℕ) → TextAnswer
spanned offset (ok bs s) = record { answer = Accepted; start = s.at - length bs; length = length bs; offset = s.at; form = s.notes.form }
spanned offset (refused r) = record { answer = Refused r; start = 0; length = 0; offset = offset; form = false }

-- the bytes left: none at an offset past the end
abbrev pub left : List ℕ → ℕ → ℕ
left input offset = length input - offset

abbrev pub next_byte : List ℕ → ℕ → TakenAnswer
next_byte input offset = taken offset (read_at input offset (read_byte input))

abbrev pub next_header : List ℕ → ℕ → TakenAnswer
next_header input offset = header_taken offset (read_at input offset (read_header input))

abbrev pub next_integer : List ℕ → ℕ → TakenAnswer
next_integer input offset = taken offset (read_at input offset (read_integer input))

abbrev pub next_byte_string : List ℕ → ℕ → TextAnswer
next_byte_string input offset = spanned offset (read_at input offset (read_byte_string input))

-- the load of what stands at an offset; of the input the whole length is tested
abbrev pub load_next : List ℕ → ℕ → Lists → ℕ → LoadCall
load_next input offset T limit = load_if (load_wrong input T limit) (drop offset input) T limit

-- the offset after it, where the next load begins; a refused load uses no bytes
abbrev pub offset_after : List ℕ → ℕ → Lists → ℕ → ℕ
offset_after input offset T limit = offset + (load_next input offset T limit).answer.used
