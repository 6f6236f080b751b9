-- The proof of read_unsigned.
use native.Mathlib.Omega.{arith}
use mathlib.Core.Path.{◌∙◌}
use Rattle.decimal.proofs.Laws.{count_is, digits_most, digits_whole}
use Rattle.decimal.proofs.Texts.{rest_is, whole_digits, ends_whole, no_point, part_digits, ends_part, no_part}
use Rattle.decimal.proofs.read_unsigned.Goals as goal

pub split_at-requires : goal.split_at-requires
split_at-requires c = omega (arith, c.count_digits.ensures ∙ count_is c.args.text.now, digits_most c.args.text.now)

pub read_parts-requires : goal.read_parts-requires
read_parts-requires c =
    let e = c.split_at.ensures in
    let n = c.count_digits.ensures ∙ count_is c.args.text.now in
    let rest = c.split_at.result.1.now in
    (whole_digits c.args.text.now c.args.minus _ n _ _ e.front e.back, digits_whole rest (omega (arith, c.if-rest-eq0.true, digits_most rest)))

pub returns-then-rest-eq0 : goal.returns-then-rest-eq0
returns-then-rest-eq0 c =
    let e = c.split_at.ensures in
    let n = c.count_digits.ensures ∙ count_is c.args.text.now in
    c.read_parts.ensures ∙ ends_whole c.args.text.now c.args.minus _ n _ _ e.front e.back c.if-rest-eq0.true

pub returns-then-rest-ne-POINT : goal.returns-then-rest-ne-POINT
returns-then-rest-ne-POINT c =
    let e = c.split_at.ensures in
    let n = c.count_digits.ensures ∙ count_is c.args.text.now in
    no_point c.args.text.now c.args.minus _ n _ _ e.front e.back (omega (arith, c.if-rest-eq0.false)) c.if-rest-ne-POINT.true

pub read_parts-requires-then-part-count_digits : goal.read_parts-requires-then-part-count_digits
read_parts-requires-then-part-count_digits c =
    let e = c.split_at.ensures in
    let n = c.count_digits.ensures ∙ count_is c.args.text.now in
    let k = c.count_digits-2.ensures ∙ count_is _ in (
      whole_digits c.args.text.now c.args.minus _ n _ _ e.front e.back,
      part_digits c.args.text.now c.args.minus _ n _ _ e.front e.back (omega (arith, c.if-rest-eq0.false)) c.if-rest-ne-POINT.false _ (rest_is c.split_at.result.1.now) _ k c.if-part-count_digits.true,
    )

pub returns-then-part-count_digits : goal.returns-then-part-count_digits
returns-then-part-count_digits c =
    let e = c.split_at.ensures in
    let n = c.count_digits.ensures ∙ count_is c.args.text.now in
    let k = c.count_digits-2.ensures ∙ count_is _ in
    c.read_parts-then-part-count_digits.ensures ∙ ends_part c.args.text.now c.args.minus _ n _ _ e.front e.back (omega (arith, c.if-rest-eq0.false)) c.if-rest-ne-POINT.false _ (rest_is c.split_at.result.1.now) _ k c.if-part-count_digits.true

pub returns : goal.returns
returns c =
    let e = c.split_at.ensures in
    let n = c.count_digits.ensures ∙ count_is c.args.text.now in
    let k = c.count_digits-2.ensures ∙ count_is _ in
    no_part c.args.text.now c.args.minus _ n _ _ e.front e.back (omega (arith, c.if-rest-eq0.false)) c.if-rest-ne-POINT.false _ (rest_is c.split_at.result.1.now) _ k c.if-part-count_digits.false
