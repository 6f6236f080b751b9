-- What lasts in the loop of store_low.
use Prim.Native.Nat.{◌+◌, ◌-◌}
use mathlib.Core.Path.{◌≡◌}
use lib.ListN.{length}
use lib.Seq.{sets}
use Rattle.definition.specs.Integer.{low_bytes}
use Rattle.writer.proofs.store_low.Given as goal

abbrev pub invariant-loop-i : goal.invariant-loop-i
invariant-loop-i l =
    (length l.output ≡ length l.initial.output) × (sets l.initial.output l.at (low_bytes l.n l.v) ≡ sets l.output (l.at + l.i) (low_bytes (l.n - l.i) l.w))
