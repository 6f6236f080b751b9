-- The proof of entry_count.
use native.Mathlib.Omega.{arith}
use mathlib.Core.Bool.{Bool}
use mathlib.Core.Path.{sym, ap}
use Rattle.node_adder.specs.Added.{entries}
use Rattle.node_adder.proofs.entry_count.Goals as goal

pub returns-then-pairs : goal.returns-then-pairs
returns-then-pairs c =
    let a = c.args in
    record { value = ap (λ (b : Bool). entries b a.m) (sym c.if-pairs.true); upper_bound = omega arith }
