-- The proof of read_decimal.
use native.Mathlib.Omega.{arith}
use mathlib.Core.Bool.{true}
use mathlib.Core.Path.{ap, ◌∙◌}
use Rattle.definition.specs.Weight.{unsigned, text_reading}
use Rattle.decimal.proofs.Texts.{rest_is, no_text, with_minus, without_minus}
use Rattle.decimal.proofs.read_decimal.Goals as goal

pub returns-then-text-eq0 : goal.returns-then-text-eq0
returns-then-text-eq0 c = no_text _ c.if-text-eq0.true

pub returns-then-text-eq-MINUS : goal.returns-then-text-eq-MINUS
returns-then-text-eq-MINUS c = c.read_unsigned.ensures ∙ ap (λ l. text_reading (unsigned true l)) (rest_is c.args.text.now) ∙ with_minus _ (omega (arith, c.if-text-eq0.false)) c.if-text-eq-MINUS.true

pub returns : goal.returns
returns c = c.read_unsigned-2.ensures ∙ without_minus _ (omega (arith, c.if-text-eq0.false)) c.if-text-eq-MINUS.false
