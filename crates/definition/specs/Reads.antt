-- What a reader answers at an offset, computed: at the start, in the middle, at the end and past it; and of an input that is too long.
use Rattle.std.specs.Prelude.{ℕ, ◌*◌, Bool, true, false, ◌≡◌, refl, List, [], ◌∷◌, length, replicate}
use Rattle.std.specs.Int.Count.{count_leading_zeros}
use Rattle.definition.specs.Run.{pure, refuse, next, ◌>>=◌, pick}
use Rattle.definition.specs.Integer.{form, little, wrong_sign, low_bytes, fewest, integer_bytes}
use Rattle.definition.specs.Node.{nil, width, words, flat, equal}
use Rattle.definition.specs.Slice.{INPUT}
use Rattle.definition.specs.Arena.{range, too_long, counts_of}
use Rattle.definition.specs.Load as L
use Rattle.definition.specs.Load.{LoadCall, lists, load_call_of}
use Rattle.definition.specs.Reader.{read_at, taken, header_taken, spanned, left, next_byte, next_header, next_integer, next_byte_string, load_next, offset_after}
use Rattle.definition.specs.Starred.{holds, load_with}
use Rattle.definition.specs.Refused.{Accepted, Refused}
use Rattle.definition.specs.declared.Refusal.{Refusal}
use Rattle.definition.specs.declared.Refusal.TheVariants.{BadTables, InvalidVersion, ShortInput, NegativeCount, WrongSign}
use Rattle.definition.specs.Reader.{TakenAnswer}
use Rattle.definition.specs.Reader.{TextAnswer}

-- a value, the offset after it, and whether dump writes its bytes; a refusal, and the offset given
abbrev found : ℕ → ℕ → Bool → TakenAnswer
found v offset form = record { answer = Accepted; value = v; offset = offset; form = form }

abbrev none : Refusal → ℕ → TakenAnswer
none q offset = record { answer = Refused q; value = 0; offset = offset; form = false }

-- ---- bytes

abbrev bytes : List ((List ℕ × ℕ) × TakenAnswer)
bytes =
    ((7 ∷ 8 ∷ 9 ∷ [], 0), found 7 1 true)
    ∷ ((7 ∷ 8 ∷ 9 ∷ [], 1), found 8 2 true)
    ∷ ((7 ∷ 8 ∷ 9 ∷ [], 2), found 9 3 true)
    ∷ ((7 ∷ 8 ∷ 9 ∷ [], 3), none ShortInput 3)
    ∷ ((7 ∷ 8 ∷ 9 ∷ [], 9), none ShortInput 9)
    ∷ (([], 0), none ShortInput 0)
    ∷ []

-- how many are left
abbrev lefts : List ((List ℕ × ℕ) × ℕ)
lefts = ((7 ∷ 8 ∷ 9 ∷ [], 0), 3) ∷ ((7 ∷ 8 ∷ 9 ∷ [], 2), 1) ∷ ((7 ∷ 8 ∷ 9 ∷ [], 3), 0) ∷ ((7 ∷ 8 ∷ 9 ∷ [], 9), 0) ∷ []

-- ---- headers: an older version is not dump's; both bytes are read first

abbrev headers : List ((List ℕ × ℕ) × TakenAnswer)
headers =
    ((4 ∷ 8 ∷ 48 ∷ [], 0), found 0 2 true)
    ∷ ((4 ∷ 7 ∷ 48 ∷ [], 0), found 0 2 false)
    ∷ ((9 ∷ 4 ∷ 8 ∷ [], 1), found 0 3 true)
    ∷ ((4 ∷ 9 ∷ [], 0), none (InvalidVersion 4 9) 0)
    ∷ ((9 ∷ 5 ∷ 8 ∷ [], 1), none (InvalidVersion 5 8) 1)
    ∷ ((4 ∷ 8 ∷ 5 ∷ [], 2), none ShortInput 2)
    ∷ ((4 ∷ 8 ∷ [], 2), none ShortInput 2)
    ∷ ((4 ∷ 8 ∷ [], 5), none ShortInput 5)
    ∷ []

-- ---- integers

abbrev integers : List ((List ℕ × ℕ) × TakenAnswer)
integers =
    ((0x00 ∷ [], 0), found 0 1 true)
    ∷ ((0x05 ∷ [], 0), found 0 1 false)
    ∷ ((0x7F ∷ 0xFA ∷ [], 0), found 122 1 true)
    ∷ ((0x7F ∷ 0xFA ∷ [], 1), found 4294967295 2 true)
    ∷ ((0xFF ∷ 0x02 ∷ 0xFF ∷ 0x00 ∷ [], 1), found 255 4 false)
    ∷ ((0x02 ∷ 0x00 ∷ 0x01 ∷ 0xFF ∷ [], 0), found 256 3 true)
    ∷ ((0xFC ∷ 0x00 ∷ 0x00 ∷ 0x00 ∷ 0x80 ∷ [], 0), found 2147483648 5 true)
    -- all four data bytes are there before the sign is judged
    ∷ ((0x04 ∷ 0xFF ∷ 0xFF ∷ 0xFF ∷ [], 0), none ShortInput 0)
    ∷ ((0x00 ∷ 0x04 ∷ 0xFF ∷ 0xFF ∷ 0xFF ∷ 0xFF ∷ [], 1), none (WrongSign 4) 1)
    ∷ ((0xFC ∷ 0xFF ∷ 0xFF ∷ 0xFF ∷ 0x7F ∷ [], 0), none (WrongSign 252) 0)
    ∷ ((0x00 ∷ [], 1), none ShortInput 1)
    ∷ ((0x00 ∷ [], 2), none ShortInput 2)
    ∷ []

-- ---- byte strings: where the bytes start, and how many they are

abbrev text : ℕ → ℕ → ℕ → Bool → TextAnswer
text start n offset form = record { answer = Accepted; start = start; length = n; offset = offset; form = form }

abbrev no_text : Refusal → ℕ → TextAnswer
no_text q offset = record { answer = Refused q; start = 0; length = 0; offset = offset; form = false }

abbrev texts : List ((List ℕ × ℕ) × TextAnswer)
texts =
    ((0x07 ∷ 0x61 ∷ 0x62 ∷ [], 0), text 1 2 3 true)
    ∷ ((0x00 ∷ 0x01 ∷ 0x01 ∷ 0x61 ∷ 0x62 ∷ [], 1), text 3 1 4 false)
    ∷ ((0x61 ∷ 0x00 ∷ [], 1), text 2 0 2 true)
    ∷ ((0x07 ∷ 0x61 ∷ [], 0), no_text ShortInput 0)
    ∷ ((0x00 ∷ 0xFA ∷ [], 1), no_text (NegativeCount 4294967295) 1)
    ∷ ((0x04 ∷ 0x00 ∷ 0x00 ∷ 0x00 ∷ 0x80 ∷ [], 0), no_text (WrongSign 4) 0)
    ∷ ((0x00 ∷ [], 1), no_text ShortInput 1)
    ∷ ((0x00 ∷ [], 7), no_text ShortInput 7)
    ∷ []

-- ---- loads one after the other: nil, an older version's nil, and the end

abbrev filled : ℕ → Bool → LoadCall
filled used form = load_call_of (record { answer = Accepted; counts = counts_of 2 0 0 1; used = used; form = form }) (lists (flat (nil ∷ nil ∷ [])) [] [] (0 ∷ []) (0 ∷ []))

abbrev empty : LoadCall
empty = load_call_of (record { answer = Refused ShortInput; counts = counts_of 1 0 0 0; used = 0; form = false }) (lists (replicate (2 * width) 0) [] [] (0 ∷ []) (0 ∷ []))

abbrev stream : List ℕ
stream = 4 ∷ 8 ∷ 48 ∷ 4 ∷ 0 ∷ 48 ∷ []

abbrev lent : L.Lists
lent = lists (replicate (2 * width) 9) [] [] (9 ∷ []) (9 ∷ [])

abbrev loads : List (ℕ × (LoadCall × ℕ))
loads =
    (0, (filled 3 true, 3))
    ∷ (3, (filled 3 false, 6))
    ∷ (6, (empty, 6))
    ∷ (7, (empty, 7))
    ∷ []

load_from : ℕ → LoadCall × ℕ
unfolding load_with
load_from offset = (load_next stream offset lent 1, offset_after stream offset lent 1)

-- ---- all of them

abbrev at : {A : Type 0} → (List ℕ → ℕ → A) → List ℕ × ℕ → A
at f (input, offset) = f input offset

computed : holds (at next_byte) bytes × holds (at left) lefts × holds (at next_header) headers × holds (at next_integer) integers × holds (at next_byte_string) texts × holds load_from loads
unfolding holds load_from flat words read_at taken header_taken spanned L.read_byte L.read_bytes L.read_header L.read_form L.integer_of L.read_integer L.read_count L.read_byte_string L.note too_long range equal form little wrong_sign integer_bytes low_bytes fewest count_leading_zeros pure refuse next ◌>>=◌ pick
computed = (refl, refl, refl, refl, refl, refl)

-- ---- an input that is too long: 1, slice 8, at any offset

module _ (input : List ℕ) (offset : ℕ) (e : too_long (length input) ≡ true) where
  no_byte : next_byte input offset ≡ none (BadTables INPUT) offset
  unfolding read_at taken pick
  no_byte = rw e

  no_header : next_header input offset ≡ none (BadTables INPUT) offset
  unfolding read_at header_taken pick
  no_header = rw e

  no_integer : next_integer input offset ≡ none (BadTables INPUT) offset
  unfolding read_at taken pick
  no_integer = rw e

  no_byte_string : next_byte_string input offset ≡ no_text (BadTables INPUT) offset
  unfolding read_at spanned pick
  no_byte_string = rw e
