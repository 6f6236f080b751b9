-- The proof of add_symbol_node.
use native.Mathlib.Omega.{arith}
use Rattle.table_writer.proofs.Added.{symbol_new, symbol_no_node, symbol_no_entry}
use Rattle.table_writer.proofs.add_symbol_node.Goals as goal

pub returns-then-c-at : goal.returns-then-c-at
returns-then-c-at c =
    record { by_index = λ input room limit l re by ob e. symbol_no_node _ _ c.if-c-at.true; upper_bound = tt }

pub returns-then-symbols-to : goal.returns-then-symbols-to
returns-then-symbols-to c =
    record { by_index = λ input room limit l re by ob e. symbol_no_entry _ _ c.if-c-at.false c.if-symbols-to.true; upper_bound = tt }

pub returns : goal.returns
returns c =
    let p = c.requires in
    record { by_index = λ input room limit k re by ob e. symbol_new _ _ k e p.2 c.if-c-at.false c.if-symbols-to.false c.put_node.ensures; upper_bound = (omega arith, omega arith) }
