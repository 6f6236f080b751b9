-- What the measuring load answers and what it leaves in the tables (02, 2.3).
use Rattle.std.specs.Prelude.{ℕ, zero, suc, List, Result, Ok, Err}
use Rattle.definition.specs.Run.{Outcome, ok, refused}
use Rattle.definition.specs.State.{State}
use Rattle.definition.specs.Load.{LoadAnswer, load_answer, Lists, LoadCall, load, room_of, load_wrong, load_done, load_if}
use Rattle.definition.specs.declared.Measured.{Measured}
use Rattle.definition.specs.declared.Refusal.{Refusal}

-- what it answers
pub record MeasuredAnswer : Type 0 where
  pub load : LoadAnswer
  pub copied : ℕ
  pub compared : ℕ

-- by the code's Result; "0 when refused"
unfoldable pub measured_answer : Result Measured Refusal → MeasuredAnswer
measured_answer (Ok r) = record { load = load_answer (Ok r.load); copied = r.copied; compared = r.compared }
measured_answer (Err q) = record { load = load_answer (Err q); copied = 0; compared = 0 }

-- its answer, and everything lent as it then stands
pub record MeasuredCall : Type 0 where
  pub answer : MeasuredAnswer
  pub lent : Lists

-- the two put together
abbrev pub measured_call_of : MeasuredAnswer → Lists → MeasuredCall
measured_call_of a T = record { answer = a; lent = T }

-- "adds two counts to load's answer": the bytes copied and the bytes compared
abbrev pub adding : ℕ → ℕ → LoadCall → MeasuredCall
adding copied compared c = record { answer = record { load = c.answer; copied = copied; compared = compared }; lent = c.lent }

-- "0 when refused"
unfoldable pub measured_done : Lists → Outcome State ℕ → MeasuredCall
measured_done T (refused r) = adding 0 0 (load_done T (refused r))
measured_done T (ok h s) = adding s.notes.copied s.notes.compared (load_done T (ok h s))

-- and 0 after 1
unfoldable pub measured_if : ℕ → List ℕ → Lists → ℕ → MeasuredCall
measured_if zero input T limit = measured_done T (load input (room_of T) limit)
measured_if (suc slice) input T limit = adding 0 0 (load_if (suc slice) input T limit)

-- the measuring load's whole call
unfoldable pub measured_call : List ℕ → Lists → ℕ → MeasuredCall
measured_call input T limit = measured_if (load_wrong input T limit) input T limit
