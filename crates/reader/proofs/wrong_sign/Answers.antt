-- The proof of wrong_sign.
use mathlib.Core.Path.{refl}
use borrow.Author.Tests.{ne_eqb}
use Rattle.definition.specs.Run.{pick}
use Rattle.definition.specs.Integer.{wrong_sign}
use Rattle.reader.proofs.wrong_sign.Goals as goal

pub returns-in-4 : goal.returns-in-4
unfolding wrong_sign pick
returns-in-4 c = rw c.in-4.is refl

pub returns-in-252 : goal.returns-in-252
unfolding wrong_sign pick
returns-in-252 c = rw c.in-252.is refl

pub returns-in_default : goal.returns-in_default
unfolding wrong_sign pick
returns-in_default c =
    let r = c.in_default.in_default-own.rest in
    simp (ne_eqb _ 4 r.0.1, ne_eqb _ 252 r.1)
