-- The proof of tell_counts.
use native.Mathlib.Omega.{arith}
use mathlib.Core.Path.{refl}
use lib.ListN.{length-set}
use Rattle.reply.specs.Reply.{count_words}
use Rattle.reply.proofs.tell_counts.Goals as goal

pub bounds-answer-3 : goal.bounds-answer-3
bounds-answer-3 c = simp length-set (omega arith)

pub bounds-answer-4 : goal.bounds-answer-4
bounds-answer-4 c = simp length-set (omega arith)

pub returns : goal.returns
unfolding count_words
returns c = refl
