-- The proof of wrong_table.
use Rattle.lists.specs.Slices.{slice, tables_named}
use Rattle.arena_check.proofs.wrong_table.Goals as goal

pub returns : goal.returns
returns c = let whole = tables_named _ _ _ λ ts e.
    slice 1 _ c.first_wrong-3.ensures c.wrong_nodes.ensures
    (slice 2 _ c.first_wrong-2.ensures c.too_long.ensures
    (slice 3 ts c.first_wrong.ensures c.too_long-2.ensures e)) in record { named = whole.0; small = whole.1 }
