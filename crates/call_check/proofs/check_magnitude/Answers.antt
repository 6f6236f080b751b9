-- The proof of check_magnitude.
use Rattle.call_check.proofs.Tests.{magnitude_on, magnitude_not}
use Rattle.call_check.proofs.check_magnitude.Goals as goal

pub returns-then-m-lt-TOO_BIG : goal.returns-then-m-lt-TOO_BIG
returns-then-m-lt-TOO_BIG c = λ L. magnitude_on L _ c.if-m-lt-TOO_BIG.true

pub returns-else-m-lt-TOO_BIG : goal.returns-else-m-lt-TOO_BIG
returns-else-m-lt-TOO_BIG c = λ L. magnitude_not L _ c.if-m-lt-TOO_BIG.false
