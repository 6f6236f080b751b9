-- The proof of write_symbol.
use native.Mathlib.Omega.{arith}
use Rattle.writer.specs.Laws.{lead_after}
use Rattle.writer.proofs.Steps.{number_fits}
use Rattle.writer.proofs.Names.{symbol_fits, name_numbered, name_linked}
use Rattle.writer.proofs.write_symbol.Goals as goal

pub returns-then-seen-ne0 : goal.returns-then-seen-ne0
returns-then-seen-ne0 c =
    let if1 = c.if-seen-ne0 in
    let write-tagged = c.write_tagged in
    λ A room limit l s. lead_after (name_linked s if1.true) (write-tagged.ensures A room limit _)

pub overflow_add-number : goal.overflow_add-number
overflow_add-number c =
    let pre = c.requires in
    let args = c.args in
    let if1 = c.if-seen-ne0 in
    omega (arith, number_fits pre.holds args.v pre.fact.1.below if1.false)

pub overflow_cast-scratch : goal.overflow_cast-scratch
overflow_cast-scratch c =
    let pre = c.requires in
    let args = c.args in
    let if1 = c.if-seen-ne0 in
    omega (arith, number_fits pre.holds args.v pre.fact.1.below if1.false)

pub write_text-requires : goal.write_text-requires
write_text-requires c =
    let pre = c.requires in
    symbol_fits pre.fact.0 pre.fact.1

pub returns : goal.returns
returns c = λ A room limit l s. lead_after (name_numbered l s c.if-seen-ne0.false) (c.write_text.ensures A room limit _)
