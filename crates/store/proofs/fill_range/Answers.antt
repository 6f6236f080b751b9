-- The proof of fill_range.
use native.Mathlib.Omega.{arith}
use mathlib.Core.Path.{ap, ◌∙◌}
use lib.ListN.{set}
use Rattle.store.specs.Laws.{filled_more, filled_over}
use Rattle.store.proofs.fill_range.Goals as goal

pub loop-x-preserved : goal.loop-x-preserved
loop-x-preserved g c =
    let x = c.loop-x in
    ap (λ xs. set xs x.x-index c.args.value) x.invariant ∙ filled_more _ x.x-index c.args.value c.loop-x-test.true

pub returns : goal.returns
returns g c =
    let a = c.args in
    let x = c.loop-x in
    filled_over a.from _ a.n x.x-index a.list.now x.x-items a.value c.requires (omega arith) c.loop-x-test.false x.auto.x-index-end x.invariant
