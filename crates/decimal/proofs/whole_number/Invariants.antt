-- What lasts in the loop of whole_number.
use Rattle.decimal.proofs.Laws.{Says}
use Rattle.decimal.proofs.whole_number.Given as goal

abbrev pub invariant-loop-b : goal.invariant-loop-b
invariant-loop-b l = Says l.part l.n l.m l.b-index
