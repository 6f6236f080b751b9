-- The proof of whole_number.
use native.Mathlib.Omega.{arith}
use Prim.Native.Nat.{◌^◌}
use Rattle.decimal.proofs.Laws.{digit_here, room_here, says_begun, says_more, says_all}
use Rattle.decimal.proofs.whole_number.Goals as goal

pub loop-b-init : goal.loop-b-init
loop-b-init c = says_begun c.args.part.now c.args.n c.requires.0

pub overflow_mul-m : goal.overflow_mul-m
overflow_mul-m c =
    omega (arith, room_here _ _ _ _ c.loop-b.invariant c.loop-b-test.true (10 ^ 15) c.requires.1)

pub overflow_sub-b : goal.overflow_sub-b
overflow_sub-b c = (digit_here _ _ _ _ c.loop-b.invariant c.loop-b-test.true).0

pub overflow_add-m : goal.overflow_add-m
overflow_add-m c =
    let t = c.loop-b in
    let l = c.loop-b-test.true in
    omega (arith, room_here _ _ _ _ t.invariant l (10 ^ 15) c.requires.1, (digit_here _ _ _ _ t.invariant l).1, c.from.ensures)

pub loop-b-preserved : goal.loop-b-preserved
loop-b-preserved c = rw c.from.ensures (says_more _ _ _ _ c.loop-b.invariant c.loop-b-test.true)

pub returns : goal.returns
returns c = let whole = says_all _ _ _ _ c.loop-b.invariant c.loop-b-test.false in record { value = whole.0; result_bound = whole.1 }
