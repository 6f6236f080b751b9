-- The proof of tell.
use mathlib.Core.Path.{ap, ◌∙◌}
use Rattle.std.proofs.Common.{rules}
use mir.Syntax.{w64}
use mir.Val.{SFits}
use mir.Facts.{to_z-of_z}
use Rattle.reply.specs.Reply.{word}
use Rattle.reply.proofs.Words.{told}
use Rattle.reply.proofs.tell.Goals as goal

pub returns : goal.returns
returns g c =
    let n = c.answer_numbers-n in
    let fits : SFits w64 n.result.first = search rules in
    told _ n.result _ _ n.ensures (c.detail.ensures ∙ ap word (to_z-of_z fits))
