-- The proof of store_unit.
use native.Mathlib.Omega.{arith}
use native.Mathlib.Numerals.{add-one}
use Prim.Native.Nat.{ℕ, ◌/◌, ◌%◌}
use mathlib.Core.Path.{ap}
use lib.ListN.{set, length-set}
use Rattle.definition.specs.Integer.{low_bytes}
use Rattle.writer.proofs.store_unit.Goals as goal

pub bounds-output-at-2 : goal.bounds-output-at-2
bounds-output-at-2 c = let a = c.args in omega (arith, c.requires, length-set a.output.now a.at (a.u % 256))

pub returns : goal.returns
unfolding low_bytes
returns c = let a = c.args in ap (λ (i : ℕ). set (set a.output.now a.at (a.u % 256)) i (a.u / 256 % 256)) (add-one a.at)
