-- The proof of check_moisture.
use lib.Ieee as Ieee
use Rattle.weight.proofs.Steps.{moisture_bad, moisture_fine}
use Rattle.weight.proofs.check_moisture.Goals as goal

pub returns-then-x : goal.returns-then-x
unfolding Ieee.of_bits
returns-then-x c = λ L. moisture_bad c.args.x L c.if-x.true

pub returns : goal.returns
unfolding Ieee.of_bits
returns c = λ L. moisture_fine c.args.x L c.if-x.false
