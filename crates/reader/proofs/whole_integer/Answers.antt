-- The proof of whole_integer.
use native.Mathlib.Omega.{arith}
use mathlib.Core.Path.{sym, ap, ◌∙◌}
use lib.ListN.{get_or}
use Rattle.definition.specs.Integer.{wrong_sign}
use Rattle.definition.specs.Reader.{starting}
use Rattle.reader.specs.Integers.{integer_none, integer_short, integer_wrong}
use Rattle.reader.proofs.whole_integer.Goals as goal

pub returns-then-input-at : goal.returns-then-input-at
returns-then-input-at c =
    let a = c.args in
    integer_none a.input.now (starting a.at) c.if-input-at.true

pub returns-then-input-at-2 : goal.returns-then-input-at-2
returns-then-input-at-2 c =
    let a = c.args in
    integer_short a.input.now (starting a.at) (omega (arith, c.integer_size.ensures)) c.if-input-at.false

pub returns-then-wrong_sign : goal.returns-then-wrong_sign
returns-then-wrong_sign c =
    let a = c.args in
    integer_wrong a.input.now (starting a.at) (omega (arith, c.integer_size.ensures)) (sym (c.wrong_sign.ensures ∙ ap (wrong_sign (get_or a.input.now a.at 0)) c.integer_at-w.ensures.value) ∙ c.if-wrong_sign.true)
