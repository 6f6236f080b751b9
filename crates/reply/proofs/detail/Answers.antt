-- The proof of detail.
use mathlib.Core.Path.{ap, ◌∙◌}
use mir.Syntax.{w64}
use mir.Val.{of_z}
use mir.Facts.{to_z-of_z}
use Rattle.reply.proofs.Words.{cast_word}
use Rattle.reply.proofs.detail.Goals as goal

pub returns : goal.returns
returns c =
    c.cast_unsigned.ensures ∙ ap (of_z w64) (to_z-of_z c.ranges.n) ∙ cast_word c.args.n
