-- What lasts in the loop of read_run, and why it ends.
use Prim.Native.Nat.{◌-◌}
use Rattle.run_reader.proofs.Run.{Running}
use Rattle.run_reader.proofs.read_run.Given as goal

abbrev pub invariant-loop-to : goal.invariant-loop-to
invariant-loop-to l =
    Running l.input l.initial.nodes l.initial.references l.symbols l.initial.c l.start l.end l.names l.levels l.nodes l.references l.c l.at l.to

abbrev pub decreases-loop-to : goal.decreases-loop-to
decreases-loop-to l =
    l.end - l.to
