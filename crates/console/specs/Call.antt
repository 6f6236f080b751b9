-- What the programs' load of an input answers and leaves, by the definition of load's call.
use Rattle.std.specs.Prelude.{ℕ, false, List, ltb, length, Result, Ok, Err}
use Rattle.definition.specs.Run.{pick}
use Rattle.definition.specs.Slice.{INPUT}
use Rattle.definition.specs.Arena.{counts_of}
use Rattle.definition.specs.Load.{Lists, LoadAnswer, counts_left, load_answer, LoadCall, load_call}
use Rattle.definition.specs.Refused.{Refused}
use Rattle.definition.specs.declared.Counts.{Counts}
use Rattle.definition.specs.declared.Loaded.{Loaded}
use Rattle.definition.specs.declared.Refusal.{Refusal}
use Rattle.definition.specs.declared.Refusal.TheVariants.{NoSpace}

-- refused, with these counts
abbrev pub refused_answer : Counts → Refusal → LoadAnswer
refused_answer c q = record { answer = Refused q; counts = c; used = 0; form = false }

-- 12, slice 8; nothing is touched
abbrev pub too_long : Lists → LoadCall
too_long T = record { answer = refused_answer (counts_of 0 0 0 0) (NoSpace INPUT); lent = T }

-- more than 16,384 bytes are too long; the limit is 64
unfoldable pub input_call : List ℕ → Lists → LoadCall
input_call input T = pick (ltb 16384 (length input)) (too_long T) (load_call input T 64)

-- by the code's Result; a refused input leaves the counts that load leaves, and none where it is too long
abbrev pub input_answer : List ℕ → Result Loaded Refusal → LoadAnswer
input_answer input (Ok r) = load_answer (Ok r)
input_answer input (Err q) = refused_answer (pick (ltb 16384 (length input)) (counts_of 0 0 0 0) (counts_left q)) q
