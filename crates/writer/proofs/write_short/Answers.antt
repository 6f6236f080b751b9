-- The proof of write_short.
use native.Mathlib.Omega.{arith}
use Prim.Native.Nat.{suc, ◌+◌, ◌-◌, ◌*◌}
use mathlib.Core.Path.{◌∙◌}
use lib.ListN.{get_or}
use Rattle.definition.specs.Integer.{integer_bytes}
use Rattle.definition.specs.Kind.{FIXNUM, SYMBOL_LINK}
use Rattle.definition.specs.Node.{width, START}
use Rattle.writer.specs.Laws.{still, goes_as}
use Rattle.writer.proofs.Integers.{size_most}
use Rattle.writer.proofs.Names.{name_linked}
use Rattle.writer.proofs.Scalars.{fixnum_row, fixnum_same, symbol_here, symbol_row_here, symbol_same}
use Rattle.writer.proofs.Members.{value_row}
use Rattle.writer.proofs.Shorts.{short_stored, not_short}
use borrow.Author.Rules.{rules}
use Rattle.writer.proofs.write_short.Goals as goal

pub returns-then-output-lt6 : goal.returns-then-output-lt6
returns-then-output-lt6 c = record { shorts = search rules; fact = λ s z. omega (arith, s.free, c.if-output-lt6.true) }

pub returns-then-output-at : goal.returns-then-output-at
returns-then-output-at c = record { shorts = search rules; fact = λ s z. omega (arith, s.free, c.if-output-lt6.false, c.if-output-at.true) }

pub store_tagged-requires : goal.store_tagged-requires
store_tagged-requires c =
    let a = c.args in
    let if1 = c.if-output-lt6 in
    let if2 = c.if-output-at in
    omega (arith, if1.false, if2.false, size_most (get_or a.nodes.now (a.v * width + START) 0))

pub returns-then-k-eq-FIXNUM : goal.returns-then-k-eq-FIXNUM
returns-then-k-eq-FIXNUM c =
    let a = c.args in
    let if1 = c.if-output-lt6 in
    let if2 = c.if-output-at in
    let store-tagged = c.store_tagged in
    let if3 = c.if-k-eq-FIXNUM in
    record { shorts = λ A room limit levels counts N b e. short_stored a.at FIXNUM (integer_bytes (get_or a.nodes.now (a.v * width + START) 0)) e (omega (arith, if1.false, if2.false, size_most (get_or a.nodes.now (a.v * width + START) 0))) store-tagged.ensures.output_after store-tagged.ensures.value (goes_as (value_row room A limit (suc levels) a.v (λ q. omega (arith, q)) ∙ fixnum_same room A _ _ a.v _ (fixnum_row N a.v b if3.true)) still); fact = λ s z. omega (arith, z, store-tagged.ensures.value) }

pub returns-then-k-ne-SYMBOL : goal.returns-then-k-ne-SYMBOL
returns-then-k-ne-SYMBOL c = record { shorts = search rules; fact = λ s z. not_short c.if-k-eq-FIXNUM.false (λ e. absurd (c.if-k-ne-SYMBOL.true e)) s }

pub returns-then-seen-eq0 : goal.returns-then-seen-eq0
returns-then-seen-eq0 c = record { shorts = search rules; fact = λ s z. not_short c.if-k-eq-FIXNUM.false (λ e. c.if-seen-eq0.true) s }

pub store_tagged-requires-2 : goal.store_tagged-requires-2
store_tagged-requires-2 c =
    let a = c.args in
    let if1 = c.if-output-lt6 in
    let if2 = c.if-output-at in
    omega (arith, if1.false, if2.false, size_most (get_or a.scratch.now a.v 0 - 1))

pub returns : goal.returns
returns c =
    let a = c.args in
    let if1 = c.if-output-lt6 in
    let if2 = c.if-output-at in
    let store-tagged2 = c.store_tagged-2 in
    let if4 = c.if-k-ne-SYMBOL in
    let if5 = c.if-seen-eq0 in
    record { shorts = λ A room limit levels counts N b e. short_stored a.at SYMBOL_LINK (integer_bytes (get_or a.scratch.now a.v 0 - 1)) e (omega (arith, if1.false, if2.false, size_most (get_or a.scratch.now a.v 0 - 1))) store-tagged2.ensures.output_after store-tagged2.ensures.value (goes_as (value_row room A limit (suc levels) a.v (λ q. omega (arith, q)) ∙ symbol_same room A _ _ a.v _ _ (symbol_row_here N a.v b if4.false)) (name_linked (symbol_here N a.v b if4.false) if5.false)); fact = λ s z. omega (arith, z, store-tagged2.ensures.value) }
