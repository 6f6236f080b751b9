-- The proof of signed.
use mathlib.Core.Path.{◌∙◌}
use mir.Syntax.{w32, w64}
use mir.Val.{SFits}
use mir.Facts.{to_z-of_z}
use Rattle.refusal.proofs.Signs.{cast_is}
use Rattle.refusal.proofs.signed.Goals as goal

pub returns : goal.returns
returns c =
    let narrow : SFits w32 c.cast_signed.result = record { sfits = c.cast_signed.type_inv } in
    let wide : SFits w64 c.from.result = record { sfits = c.from.type_inv } in
    to_z-of_z wide ∙ c.from.ensures ∙ to_z-of_z narrow ∙ c.cast_signed.ensures ∙ cast_is c.args.word
