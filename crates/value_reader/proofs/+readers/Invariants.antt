-- The measures of the readers that call one another, and what lasts in the loop of read_members.
use Prim.Native.Nat.{◌+◌, ◌-◌, ◌*◌}
use Rattle.load_state.specs.Holds.{by_buckets}
use Rattle.value_reader.proofs.Members.{Turning}
use Rattle.value_reader.proofs.+readers.Given as goal

abbrev pub decreases-read_array : goal.decreases-read_array
decreases-read_array l = 4 * l.levels + 3

abbrev pub decreases-read_hash : goal.decreases-read_hash
decreases-read_hash l = 4 * l.levels + 3

abbrev pub decreases-read_inner : goal.decreases-read_inner
decreases-read_inner l = 4 * l.levels + 2

abbrev pub decreases-read_members : goal.decreases-read_members
decreases-read_members l = 4 * l.levels + 1

abbrev pub decreases-read_object : goal.decreases-read_object
decreases-read_object l = 4 * l.levels + 3

abbrev pub decreases-read_value : goal.decreases-read_value
decreases-read_value l = 4 * l.levels

abbrev pub decreases-read_variables : goal.decreases-read_variables
decreases-read_variables l = 4 * l.levels + 3

abbrev pub invariant-read_members-loop-to : goal.invariant-read_members-loop-to
invariant-read_members-loop-to l =
    Turning l.input l.initial.nodes l.initial.references l.initial.bytes (by_buckets l.initial.symbols l.initial.buckets) l.initial.objects l.initial.c l.start l.end l.names l.levels l.nodes l.references l.bytes (by_buckets l.symbols l.buckets) l.objects l.c l.to

abbrev pub decreases-read_members-loop-to : goal.decreases-read_members-loop-to
decreases-read_members-loop-to l = l.end + l.more - l.to
