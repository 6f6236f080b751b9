-- What lasts in the loop of check_entries_at.
use mathlib.Core.Path.{◌≡◌}
use Rattle.std.specs.Slice.Iter.{chunks_exact_rest, chunks_exact_size}
use Rattle.definition.specs.Build.{Lent}
use Rattle.definition.specs.Cost.{check_entries}
use Rattle.batch_cost.proofs.check_entries_at.Given as goal

abbrev pub invariant-loop-entry : goal.invariant-loop-entry
invariant-loop-entry l =
    (chunks_exact_size l.entry-iterator ≡ 2) × ((L : Lent) → L.tables.nodes ≡ l.nodes → L.counts.nodes ≡ l.count → check_entries l.entries L ≡ check_entries (chunks_exact_rest l.entry-iterator) L)
