-- The proof of tell_load.
use Prim.Native.Nat.{ℕ}
use mathlib.Core.List.{List}
use mathlib.Core.Path.{ap}
use lib.ListN.{set}
use Rattle.reply.specs.Reply.{count_words, flag}
use Rattle.reply.proofs.tell_load.Goals as goal

pub returns : goal.returns
unfolding count_words
returns c =
    rw c.flag_of.ensures (ap (λ (t : List ℕ). set (set t 6 c.args.l.used) 7 (flag c.args.l.form)) c.tell_counts.ensures)
