-- The proof of new.
use mathlib.Core.List.{[]}
use Rattle.definition.specs.Arena.{tables_of}
use Rattle.definition.specs.Build.{wrong}
use Rattle.lists.specs.Slices.{no_slice}
use Rattle.value_arena.proofs.Building.{new_wrong, new_right}
use Rattle.value_arena.proofs.new.Goals as goal

pub returns-then-w-ne0 : goal.returns-then-w-ne0
unfolding wrong
returns-then-w-ne0 c =
    let a = c.args in
    let T = tables_of a.nodes.now a.references.now a.bytes.now in
    new_wrong T _ (c.wrong_table-w.ensures.named [] no_slice) c.if-w-ne0.true

pub returns : goal.returns
unfolding wrong
returns c =
    let a = c.args in
    let T = tables_of a.nodes.now a.references.now a.bytes.now in
    new_right T _ (c.wrong_table-w.ensures.named [] no_slice) c.if-w-ne0.false _ _ _ c.fill_from.ensures c.fill_from-2.ensures c.fill_from-3.ensures
