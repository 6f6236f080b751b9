-- What lasts in the loop of write_shorts.
use Rattle.writer.proofs.Shorts.{Running}
use Rattle.writer.proofs.write_shorts.Given as goal

abbrev pub invariant-loop-i : goal.invariant-loop-i
invariant-loop-i l =
    Running l.nodes l.references l.scratch l.initial.output l.initial.c l.start l.n l.output l.c l.at l.i
