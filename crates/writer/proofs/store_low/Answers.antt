-- The proof of store_low.
use native.Mathlib.Omega.{arith}
use mathlib.Core.Path.{refl, sym, ◌∙◌}
use lib.ListN.{length-set}
use Rattle.writer.proofs.Integers.{low_start, low_on, low_end}
use Rattle.writer.proofs.store_low.Goals as goal

pub loop-i-init : goal.loop-i-init
loop-i-init c =
    let a = c.args in
    (refl, low_start a.output.now a.at a.n a.v)

pub overflow_add-output : goal.overflow_add-output
overflow_add-output c =
    omega (arith, c.loop-i-test.true, c.requires)

pub bounds-output-at : goal.bounds-output-at
bounds-output-at c =
    omega (arith, c.loop-i-test.true, c.requires, c.loop-i.invariant.0)

pub loop-i-preserved : goal.loop-i-preserved
loop-i-preserved c =
    let a = c.args in
    let l = c.loop-i in
    (length-set l.output _ _ ∙ l.invariant.0, l.invariant.1 ∙ low_on l.output a.at a.n l.i l.w c.loop-i-test.true)

pub shape_of-output : goal.shape_of-output
shape_of-output c =
    c.loop-i.invariant.0

pub returns : goal.returns
returns c =
    let a = c.args in
    let l = c.loop-i in
    sym (l.invariant.1 ∙ low_end l.output a.at a.n l.i l.w c.loop-i-test.false)
