-- The number and the two details of each refusal (01, "Refused calls"; 02, 2.4 to 2.7 and 2.9).
use Rattle.std.specs.Prelude.{ℕ, ◌-◌, ltb, ℤ, pos, negsuc, unsigned_abs, Result, Ok, Err}
use Rattle.definition.specs.Run.{pick}
use Rattle.definition.specs.declared.Fault.{Fault}
use Rattle.definition.specs.declared.Fault.TheVariants.{Counts, Node}
use Rattle.definition.specs.declared.Refusal.{Refusal}
use Rattle.definition.specs.declared.Refusal.TheVariants.{BadTables, BadArena, InvalidVersion, ShortInput, InvalidKind, NegativeCount, MissingSymbol, MissingObject, NotASymbol, NotAnObject}
use Rattle.definition.specs.declared.Refusal.TheVariants.{TooDeep, NoSpace, BadHandle, WrongKind, BadSign, TooBig, NotAWeight, BadMoisture, WrongSign, NotARecipe, NoPrice, NotWrappable}
use Rattle.definition.specs.declared.Numbers.{Numbers}

-- accepted, or refused with a refusal
pub data Answer : Type 0 where
  Accepted : Answer
  Refused : Refusal → Answer

-- the code answers with a Result
unfoldable pub answer_of : {A : Type 0} → Result A Refusal → Answer
answer_of (Ok x) = Accepted
answer_of (Err q) = Refused q

-- "the 32 bits read as signed"
unfoldable pub signed : ℕ → ℤ
signed w = pick (ltb w 2147483648) (pos w) (negsuc (4294967295 - w))

-- "node, or −1 for counts"
unfoldable pub place : Fault → ℤ
place Counts = negsuc 0
place (Node i) = pos i

-- the columns "Returned" and "Details"; "Unused details are 0"
unfoldable pub numbers : Refusal → ℕ × ℤ × ℤ
numbers (BadTables slice) = (1, pos slice, pos 0)
numbers (BadArena fault) = (2, place fault, pos 0)
numbers (InvalidVersion major minor) = (3, pos major, pos minor)
numbers ShortInput = (4, pos 0, pos 0)
numbers (InvalidKind byte) = (5, pos byte, pos 0)
numbers (NegativeCount word) = (6, signed word, pos 0)
numbers (MissingSymbol index) = (7, pos index, pos 0)
numbers (MissingObject index) = (8, pos index, pos 0)
numbers (NotASymbol byte) = (9, pos byte, pos 0)
numbers NotAnObject = (10, pos 0, pos 0)
numbers (TooDeep limit) = (11, pos limit, pos 0)
numbers (NoSpace slice) = (12, pos slice, pos 0)
numbers (BadHandle handle) = (13, pos handle, pos 0)
numbers (WrongKind handle) = (14, pos handle, pos 0)
numbers (BadSign byte) = (15, pos byte, pos 0)
numbers (TooBig count) = (16, pos count, pos 0)
numbers (NotAWeight handle) = (17, pos handle, pos 0)
numbers BadMoisture = (18, pos 0, pos 0)
numbers (WrongSign byte) = (19, pos byte, pos 0)
numbers (NotARecipe handle) = (20, pos handle, pos 0)
numbers (NoPrice handle) = (21, pos handle, pos 0)
numbers (NotWrappable byte) = (22, pos byte, pos 0)

-- an answer as its three numbers; 0 is accepted
unfoldable pub answer_numbers : Answer → ℕ × ℤ × ℤ
answer_numbers Accepted = (0, pos 0, pos 0)
answer_numbers (Refused r) = numbers r

-- ---- as programs take them

-- the number and the two details, of which the second is never below zero
unfoldable pub told : ℕ × ℤ × ℤ → Numbers
told (n, first, second) = record { number = n; first = first; second = unsigned_abs second }

-- a refusal's, and an answer's
unfoldable pub numbers_told : Refusal → Numbers
numbers_told q = told (numbers q)

unfoldable pub answer_told : Answer → Numbers
answer_told a = told (answer_numbers a)
