-- The proof of store_units.
use native.Mathlib.Omega.{arith}
use mathlib.Core.Path.{refl}
use Rattle.definition.specs.Integer.{low_bytes}
use Rattle.writer.proofs.Integers.{unit_stored, units_stored}
use Rattle.writer.proofs.store_units.Goals as goal

pub returns-then-n-eq0 : goal.returns-then-n-eq0
unfolding low_bytes
returns-then-n-eq0 c = units_stored 0 _ _ _ _ c.if-n-eq0.true refl

pub returns-then-n-eq1 : goal.returns-then-n-eq1
returns-then-n-eq1 c = units_stored 1 _ _ _ _ c.if-n-eq1.true c.store_unit.ensures

pub returns-then-n-eq2 : goal.returns-then-n-eq2
returns-then-n-eq2 c =
    units_stored 2 _ _ _ _ c.if-n-eq2.true (unit_stored 1 _ _ _ _ c.store_unit.ensures (omega arith) c.store_unit-2.ensures)

pub returns-then-n-eq3 : goal.returns-then-n-eq3
returns-then-n-eq3 c =
    units_stored 3 _ _ _ _ c.if-n-eq3.true (unit_stored 2 _ _ _ _ (unit_stored 1 _ _ _ _ c.store_unit.ensures (omega arith) c.store_unit-2.ensures) (omega arith) c.store_unit-3.ensures)

pub returns : goal.returns
returns c =
    units_stored 4 _ _ _ _ (omega (arith, c.if-n-eq3.false, c.if-n-eq2.false, c.if-n-eq1.false, c.if-n-eq0.false, c.requires.0))
    (unit_stored 3 _ _ _ _ (unit_stored 2 _ _ _ _ (unit_stored 1 _ _ _ _ c.store_unit.ensures (omega arith) c.store_unit-2.ensures) (omega arith) c.store_unit-3.ensures) (omega arith) c.store_unit-4.ensures)
