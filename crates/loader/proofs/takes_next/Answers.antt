-- The proof of takes_next.
use mathlib.Core.Path.{refl, sym}
use Rattle.definition.specs.Load.{takes_variables}
use Rattle.loader.proofs.Variables.{takes_past}
use Rattle.loader.proofs.takes_next.Goals as goal

pub returns-then-input-at : goal.returns-then-input-at
returns-then-input-at c =
    let a = c.args in
    sym (takes_past a.input.now a.at c.if-input-at.true)

pub returns : goal.returns
unfolding takes_variables
returns c = refl
