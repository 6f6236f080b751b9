-- The proof of all_names.
use native.Mathlib.Omega.{arith}
use mathlib.Core.Path.{sym, ◌∙◌}
use Rattle.arena_check.proofs.Lists.{names_on, names_not, names_all}
use Rattle.arena_check.proofs.fitted.Fitted.all_names.Goals as goal

pub loop-i-preserved : goal.loop-i-preserved
loop-i-preserved c =
    let a = c.args in
    λ A H. c.loop-i.invariant A H ∙ names_on A a.self.references.now a.start a.n c.loop-i.i (omega arith) (omega arith) (c.if-not-is_name.ensures A H)

pub returns-then-not-is_name : goal.returns-then-not-is_name
returns-then-not-is_name c =
    let a = c.args in
    λ A H. names_not A a.self.references.now a.start a.n c.loop-i.i (omega arith) (omega arith) (c.if-not-is_name.ensures A H) ∙ sym (c.loop-i.invariant A H)

pub returns : goal.returns
returns c =
    let a = c.args in
    λ A H. names_all A a.self.references.now a.start a.n c.loop-i.i (omega arith) (omega arith) ∙ sym (c.loop-i.invariant A H)
