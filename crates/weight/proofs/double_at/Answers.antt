-- The proof of double_at.
use mathlib.Core.Path.{sym, ap, ◌∙◌}
use lib.IntN.{ℤ}
use lib.Ieee.{binary64, of_int}
use mir.Syntax.{w32}
use mir.Val.{SFits}
use mir.Facts.{to_z-of_z}
use borrow.Author.Rules.{rules}
use Rattle.definition.specs.Run.{ok, pure, refuse}
use Rattle.definition.specs.Weight.{as_double}
use Rattle.weight.proofs.Steps.{converted}
use Rattle.weight.proofs.double_at.Goals as goal

pub returns-in-Whole : goal.returns-in-Whole
unfolding as_double pure
returns-in-Whole c =
    let a = c.args in
    let e = c.read_node.ensures in
    let fits : SFits w32 c.in-Whole.n = record { sfits = search rules } in
    λ L k. converted L a.nodes.now a.bytes.now a.stored a.h k e c.in-Whole.is ∙ ap (λ (z : ℤ). ok (of_int binary64 z) L) (sym (to_z-of_z fits))

pub returns-in-Double : goal.returns-in-Double
unfolding as_double pure
returns-in-Double c =
    let a = c.args in
    λ L k. converted L a.nodes.now a.bytes.now a.stored a.h k c.read_node.ensures c.in-Double.is

pub returns-in-NotANumber : goal.returns-in-NotANumber
unfolding as_double refuse
returns-in-NotANumber c =
    let a = c.args in
    λ L k. converted L a.nodes.now a.bytes.now a.stored a.h k c.read_node.ensures c.in-NotANumber.is
