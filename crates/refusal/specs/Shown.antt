-- What an answer's numbers say is all of them: the second detail as an integer again.
use Rattle.std.specs.Prelude.{ℕ, ◌≡◌, refl, ℤ, pos}
use Rattle.definition.specs.Refused.{Answer, Accepted, Refused, numbers, answer_numbers, told, answer_told}
use Rattle.definition.specs.declared.Numbers.{Numbers}
use Rattle.definition.specs.declared.Refusal.{Refusal}
use Rattle.definition.specs.declared.Refusal.TheVariants.{BadTables, BadArena, InvalidVersion, ShortInput, InvalidKind, NegativeCount, MissingSymbol, MissingObject, NotASymbol, NotAnObject, TooDeep, NoSpace, BadHandle, WrongKind, BadSign, TooBig, NotAWeight, BadMoisture, WrongSign, NotARecipe, NoPrice, NotWrappable}

abbrev pub shown : Numbers → ℕ × ℤ × ℤ
shown r = (r.number, r.first, pos r.second)

-- no two answers that differ in a number are told alike
pub answer_shown : (a : Answer) → shown (answer_told a) ≡ answer_numbers a
unfolding answer_told answer_numbers numbers told
answer_shown Accepted = refl
answer_shown (Refused q) = by_refusal q
  where
    by_refusal : (q : Refusal) → shown (told (numbers q)) ≡ numbers q
    by_refusal (BadTables slice) = refl
    by_refusal (BadArena fault) = refl
    by_refusal (InvalidVersion major minor) = refl
    by_refusal ShortInput = refl
    by_refusal (InvalidKind byte) = refl
    by_refusal (NegativeCount word) = refl
    by_refusal (MissingSymbol index) = refl
    by_refusal (MissingObject index) = refl
    by_refusal (NotASymbol byte) = refl
    by_refusal NotAnObject = refl
    by_refusal (TooDeep limit) = refl
    by_refusal (NoSpace slice) = refl
    by_refusal (BadHandle handle) = refl
    by_refusal (WrongKind handle) = refl
    by_refusal (BadSign byte) = refl
    by_refusal (TooBig count) = refl
    by_refusal (NotAWeight handle) = refl
    by_refusal BadMoisture = refl
    by_refusal (WrongSign byte) = refl
    by_refusal (NotARecipe handle) = refl
    by_refusal (NoPrice handle) = refl
    by_refusal (NotWrappable byte) = refl
