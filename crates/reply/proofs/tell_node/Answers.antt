-- The proof of tell_node.
use native.Mathlib.Omega.{arith}
use lib.ListN.{length-set}
use Rattle.reply.proofs.tell_node.Goals as goal

pub bounds-answer-3 : goal.bounds-answer-3
bounds-answer-3 c = simp length-set (omega arith)

pub bounds-answer-4 : goal.bounds-answer-4
bounds-answer-4 c = simp length-set (omega arith)

pub bounds-answer-5 : goal.bounds-answer-5
bounds-answer-5 c = simp length-set (omega arith)

pub bounds-answer-6 : goal.bounds-answer-6
bounds-answer-6 c = simp length-set (omega arith)

pub bounds-answer-7 : goal.bounds-answer-7
bounds-answer-7 c = simp length-set (omega arith)

pub bounds-answer-8 : goal.bounds-answer-8
bounds-answer-8 c = simp length-set (omega arith)

pub bounds-answer-9 : goal.bounds-answer-9
bounds-answer-9 c = simp length-set (omega arith)
