-- A reader's answers by their fields.
use Rattle.std.specs.Prelude.{ℕ, Bool, false, List}
use Rattle.definition.specs.Load.{read_byte, read_header, read_integer, read_byte_string}
use Rattle.definition.specs.Reader.{starting, taken, header_taken, spanned, TakenAnswer, TextAnswer}
use Rattle.definition.specs.Refused.{Accepted, Refused}
use Rattle.definition.specs.declared.Refusal.{Refusal}

-- a value, the offset after it, and whether dump writes its bytes
abbrev pub taken_as : ℕ → ℕ → Bool → TakenAnswer
taken_as v at form = record { answer = Accepted; value = v; offset = at; form = form }

-- a refusal, and the offset, which stays
abbrev pub not_taken : Refusal → ℕ → TakenAnswer
not_taken q at = record { answer = Refused q; value = 0; offset = at; form = false }

abbrev pub no_text : Refusal → ℕ → TextAnswer
no_text q at = record { answer = Refused q; start = 0; length = 0; offset = at; form = false }

-- ---- what stands at an offset of an input whose length is not tested

abbrev pub byte_from : List ℕ → ℕ → TakenAnswer
byte_from input at = taken at (read_byte input (starting at))

abbrev pub header_from : List ℕ → ℕ → TakenAnswer
header_from input at = header_taken at (read_header input (starting at))

abbrev pub integer_from : List ℕ → ℕ → TakenAnswer
integer_from input at = taken at (read_integer input (starting at))

abbrev pub text_from : List ℕ → ℕ → TextAnswer
text_from input at = spanned at (read_byte_string input (starting at))
