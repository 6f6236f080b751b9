-- The proof of read_node.
use native.Mathlib.Omega.{arith}
use Prim.Native.Nat.{ℕ, ◌+◌, ◌-◌, ◌*◌}
use mathlib.Core.Path.{◌≡◌, ap, ◌∙◌}
use lib.ListN.{get_or, take, drop}
use mir.Syntax.{w32}
use mir.Facts.{to_z-of_z}
use borrow.Author.Rules.{rules}
use Rattle.definition.specs.Arena.{range}
use Rattle.definition.specs.Node.{width, START, LENGTH}
use Rattle.definition.specs.Weight.{decimal, text_reading}
use Rattle.definition.specs.declared.Reading.TheVariants.{Whole}
use Rattle.weight.proofs.Rows.{reads_whole, reads_text, reads_other}
use Rattle.weight.proofs.read_node.Goals as goal

pub slice_bounds-read_decimal-end : goal.slice_bounds-read_decimal-end
slice_bounds-read_decimal-end c =
    omega (arith, c.requires.1 c.in-9.is, c.requires.2)

pub returns-in-2 : goal.returns-in-2
returns-in-2 c =
    ap Whole (to_z-of_z {w = w32} {z = c.signed.result} (record { sfits = c.signed.type_inv }) ∙ c.signed.ensures)
    ∙ reads_whole c.args.nodes.now c.args.h _ c.in-2.is

pub returns-in-9 : goal.returns-in-9
unfolding range
returns-in-9 c =
    let a = c.args in
    let start = get_or a.nodes.now (a.h * width + START) 0 in
    let n : start + get_or a.nodes.now (a.h * width + LENGTH) 0 - start ≡ get_or a.nodes.now (a.h * width + LENGTH) 0 = omega arith in
    c.read_decimal.ensures ∙ ap (λ (k : ℕ). text_reading (decimal (take k (drop start a.bytes.now)))) n ∙ reads_text a.nodes.now a.h a.bytes.now a.stored c.in-9.is (c.requires.1 c.in-9.is)

pub returns-in_default : goal.returns-in_default
returns-in_default c =
    reads_other c.args.nodes.now c.args.h _ (search rules) (search rules)
