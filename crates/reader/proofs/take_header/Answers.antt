-- The proof of take_header.
use mathlib.Core.Path.{refl, ap, ◌∙◌}
use Rattle.definition.specs.Reader.{taken_answer}
use Rattle.reader.specs.From.{not_taken}
use Rattle.reader.proofs.Froms.{header_refused, header_there}
use Rattle.reader.proofs.take_header.Goals as goal

pub returns-in-Err : goal.returns-in-Err
unfolding taken_answer
returns-in-Err c =
    let a = c.args in
    ap (λ q. not_taken q a.at) c.refusal.ensures ∙ header_refused a.input.now a.at (c.in-Err.ensures.reads 0 _ refl)

pub returns-in-Ok : goal.returns-in-Ok
unfolding taken_answer
returns-in-Ok c =
    let a = c.args in
    header_there a.input.now a.at _ (c.in-Ok.ensures.reads _ refl)
