-- The proof of load_input.
use mathlib.Core.Path.{ap}
use Rattle.definition.specs.Load.{LoadCall}
use Rattle.console.proofs.Laws.{not_loaded, loaded, answers, long_answer}
use Rattle.console.proofs.load_input.Goals as goal

pub returns-then-input-gt-LONGEST : goal.returns-then-input-gt-LONGEST
returns-then-input-gt-LONGEST c =
    let e = not_loaded _ _ c.if-input-gt-LONGEST.true in
    record { answer = long_answer _ c.if-input-gt-LONGEST.true (ap (λ (k : LoadCall). k.answer) e); lent = ap (λ (k : LoadCall). k.lent) e }

pub returns : goal.returns
returns c =
    let e = loaded _ _ c.if-input-gt-LONGEST.false c.load.ensures in
    record { answer = answers _ _ c.if-input-gt-LONGEST.false (ap (λ (k : LoadCall). k.answer) e); lent = ap (λ (k : LoadCall). k.lent) e }
