-- Thousandths of a cent, rounded: the nearest cent, an exact half going up. No other module looks at how it is computed.
use Rattle.std.specs.Prelude.{ℕ, ◌+◌, ◌*◌, ◌≤◌, ◌<◌, ◌≡◌}
use Rattle.std.proofs.Common.{arith}
use Rattle.definition.specs.Cost.{rounded}

-- q cents are at most half a cent more than n thousandths of a cent, or less than half a cent less
abbrev pub Nearest : ℕ → ℕ → Type 0
Nearest n q = (1000 * q ≤ n + 500) × (n + 500 < 1000 * q + 1000)

pub nearest : (n : ℕ) → Nearest n (rounded n)
unfolding rounded
nearest n = (omega arith, omega arith)

-- no other number of cents is
pub only : (n q : ℕ) → Nearest n q → q ≡ rounded n
only n q h = omega (arith, h.0, h.1, (nearest n).0, (nearest n).1)

-- the most that a line costs: 2^31 − 1 kilograms at 2^31 − 1 cents
pub most : (n : ℕ) → n ≤ 4611686014132420609 → rounded n ≤ 4611686014132421
most n h = omega (arith, h, (nearest n).0)
