-- The proof of take_integer.
use Rattle.definition.specs.Reader.{taken_answer}
use Rattle.reader.proofs.Froms.{integer_whole, integer_there}
use Rattle.reader.proofs.take_integer.Goals as goal

pub returns : goal.returns
unfolding taken_answer
returns c =
    let a = c.args in
    let k = c.in_ok-w.ensures in
    integer_there a.input.now a.at _ (integer_whole a.input.now a.at k c.integer_size.ensures (c.in_form.ensures _ k.word k.low))
