-- The proof of begin.
use mathlib.Core.Path.{sym}
use Rattle.definition.specs.Build.{lent, wrong}
use Rattle.call_check.proofs.Tests.{check_wrong, check_says, check_fits}
use Rattle.call_check.proofs.begin.Goals as goal

pub returns-then-w-ne0 : goal.returns-then-w-ne0
unfolding wrong
returns-then-w-ne0 c =
    let a = c.args in
    let L = lent a.nodes.now a.references.now a.bytes.now a.counts in
    record { by_index = λ ts e. check_wrong L ts _ (c.wrong_table-w.ensures.named ts (sym e)) c.if-w-ne0.true; fits_if = tt }

pub check-requires : goal.check-requires
check-requires c =
    (c.wrong_table-w.ensures.small c.if-w-ne0.false).0.nodes_small

pub returns : goal.returns
unfolding wrong
returns c =
    let a = c.args in
    let L = lent a.nodes.now a.references.now a.bytes.now a.counts in
    let none_wrong = c.if-w-ne0.false in
    let small = c.wrong_table-w.ensures.small none_wrong in
    record { by_index = λ ts e. check_says L ts _ (c.wrong_table-w.ensures.named ts (sym e)) none_wrong _ _ c.map_err.ensures.cases c.check.ensures.result_value; fits_if = check_fits _ _ _ _ a.counts _ _ c.map_err.ensures.cases small.0 small.1 c.check.ensures.fit_if }
