-- The proof of take_byte_string.
use mathlib.Core.Path.{refl}
use Rattle.definition.specs.Reader.{text_answer}
use Rattle.reader.specs.Integers.{dumped_at}
use Rattle.reader.proofs.Froms.{integer_whole, text_negative, text_short, text_there}
use Rattle.reader.proofs.take_byte_string.Goals as goal

pub returns-then-w-ge2147483648 : goal.returns-then-w-ge2147483648
unfolding text_answer
returns-then-w-ge2147483648 c =
    let a = c.args in
    text_negative a.input.now a.at (dumped_at a.input.now a.at) (integer_whole a.input.now a.at c.in_ok-w.ensures refl refl) c.if-w-ge2147483648.true

pub returns-then-input-start : goal.returns-then-input-start
unfolding text_answer
returns-then-input-start c =
    let a = c.args in
    text_short a.input.now a.at (dumped_at a.input.now a.at) (integer_whole a.input.now a.at c.in_ok-w.ensures c.integer_size.ensures refl) c.if-w-ge2147483648.false c.if-input-start.true

pub returns : goal.returns
unfolding text_answer
returns c =
    let a = c.args in
    let k = c.in_ok-w.ensures in
    text_there a.input.now a.at _ (integer_whole a.input.now a.at k c.integer_size.ensures (c.in_form.ensures _ k.word k.low)) c.if-w-ge2147483648.false c.if-input-start.false
