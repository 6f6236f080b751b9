-- The proof of copy_to.
use mathlib.Core.Path.{◌≡◌, ap, ◌∙◌}
use native.Mathlib.Omega.{arith}
use Prim.Native.Nat.{◌+◌}
use lib.ListN.{length, take}
use lib.Seq.{sets, take-length}
use Rattle.store.specs.Laws.{copied}
use Rattle.store.proofs.copy_to.Goals as goal

pub loop-i-preserved : goal.loop-i-preserved
loop-i-preserved g c =
    let x = c.index-source-i in
    ap (λ v. lib.ListN.set c.loop-i.list (c.args.to + c.loop-i.i) v) x.is ∙ copied c.args.list.now c.loop-i.list c.args.source.now c.args.to c.loop-i.i x.result c.loop-i-test.true c.loop-i.invariant

pub returns : goal.returns
returns g c =
    let s = c.args.source.now in
    let e : c.loop-i.i ≡ length s = omega (arith, c.loop-i-test.false, c.loop-i.auto.i-end) in
    c.loop-i.invariant ∙ ap (λ j. sets c.args.list.now c.args.to (take j s)) e ∙ ap (sets c.args.list.now c.args.to) (take-length s)
