-- The proof of wrong_pairs.
use native.Mathlib.Omega.{arith}
use mathlib.Core.Path.{◌≡◌}
use Rattle.std.proofs.lemmas.Bool.Decides.{nat_tests}
use Rattle.call_check.proofs.Slices.{odd, pairs_named}
use Rattle.call_check.proofs.wrong_pairs.Goals.{then-too_long, else-too_long}
use Rattle.call_check.proofs.wrong_pairs.Goals as goal

pub returns : goal.returns
returns c =
    let wrong : c.if-too_long.first_wrong ≡ odd c.args.n = elim c.if-too_long.branch [ then-too_long w ↦ grind (arith, nat_tests) | else-too_long w ↦ grind (arith, nat_tests) ] in
    let whole = pairs_named _ wrong c.first_wrong.ensures in
    record { by_index = whole.0; n_value = whole.1 }
