-- The proof of add_object.
use Rattle.table_writer.proofs.Added.{object_added, object_full}
use mathlib.Core.Path.{refl}
use Rattle.table_writer.proofs.add_object.Goals as goal

pub returns-then-objects-at : goal.returns-then-objects-at
returns-then-objects-at c =
    record { by_index = λ input room limit no re by sy. object_full _ c.if-objects-at.true; value = tt }

pub returns : goal.returns
returns c =
    record { by_index = λ input room limit no re by sy. object_added _ c.requires.0 c.if-objects-at.false; value = (refl, refl) }
