-- The proof of add_symbol.
use Rattle.table_writer.proofs.Added.{symbol_added, symbol_full}
use mathlib.Core.Path.{refl}
use Rattle.table_writer.proofs.add_symbol.Goals as goal

pub returns-then-symbols-at : goal.returns-then-symbols-at
returns-then-symbols-at c =
    record { by_index = λ input room limit no re by ob y. symbol_full _ c.if-symbols-at.true; value = tt }

pub returns : goal.returns
returns c =
    record { by_index = λ input room limit no re by ob y. symbol_added _ y c.if-symbols-at.false; value = (refl, refl) }
