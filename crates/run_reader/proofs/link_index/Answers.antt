-- The proof of link_index.
use native.Mathlib.Omega.{arith}
use Rattle.run_reader.proofs.link_index.Goals as goal

pub returns-then-i-gt122 : goal.returns-then-i-gt122
returns-then-i-gt122 c =
    record { b_value = λ l. absurd (omega (arith, l)); by_index = λ n y. absurd (omega (arith, c.small-i.ensures.by_index n y.0 y.2 y.3, y.1, c.if-i-gt122.true)) }

pub returns : goal.returns
returns c =
    record { b_value = λ l. c.small-i.ensures.b_value (omega (arith, c.if-i-gt122.false)); by_index = λ n y. c.small-i.ensures.by_index n y.0 y.2 y.3 }
