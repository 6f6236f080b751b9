-- What the loop of write_elements keeps, and the measures of the cycle.
use Prim.Native.Nat.{◌+◌, ◌-◌, ◌*◌}
use Rattle.dump.proofs.Loops.{Turning, Lasting}
use Rattle.dump.proofs.+write_elements_write_value.Given as goal

abbrev pub decreases-write_elements : goal.decreases-write_elements
decreases-write_elements l = 2 * l.levels + 1

abbrev pub decreases-write_value : goal.decreases-write_value
decreases-write_value l = 2 * l.levels

abbrev pub invariant-write_elements-loop-i : goal.invariant-write_elements-loop-i
invariant-write_elements-loop-i l = Turning l.nodes l.references l.bytes l.fn.scratch l.fn.output l.fn.c l.start l.n l.levels l.scratch l.output l.c l.i

abbrev pub decreases-write_elements-loop-i : goal.decreases-write_elements-loop-i
decreases-write_elements-loop-i l = l.n - l.i

abbrev pub invariant-write_value-loop-left : goal.invariant-write_value-loop-left
invariant-write_value-loop-left l = Lasting l.nodes l.references l.bytes l.fn.scratch l.fn.output l.fn.c l.v l.levels l.scratch l.output l.c l.h l.left

abbrev pub decreases-write_value-loop-left : goal.decreases-write_value-loop-left
decreases-write_value-loop-left l = l.left
