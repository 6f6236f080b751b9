-- The proof of create_bignum.
use Prim.Native.Nat.{ℕ}
use mathlib.Core.Path.{◌≡◌, ap, ◌∙◌}
use Rattle.definition.specs.Node.{bignum}
use Rattle.definition.specs.Magnitude.{sign}
use Rattle.definition.specs.Build.{lent, build_call, create_bignum, check_magnitude}
use Rattle.value_arena.specs.Calls.{plain}
use Rattle.value_arena.proofs.Building.{signed}
use Rattle.value_arena.proofs.create_bignum.Goals.{then-minus, else-minus}
use Rattle.value_arena.proofs.create_bignum.Goals as goal

pub returns : goal.returns
unfolding create_bignum plain sign
returns c =
    let a = c.args in
    let L = lent a.nodes.now a.references.now a.bytes.now a.counts in
    let s : c.if-minus.create_plain ≡ sign a.minus c.magnitude_of-m.result = elim c.if-minus.branch [ then-minus w ↦ rw w.if-minus.true w.create_plain-is | else-minus w ↦ rw w.if-minus.false (w.create_plain-is ∙ w.if-minus.false) ] in
    c.create_plain.ensures _ _ (c.check_magnitude.ensures L) (rw s (signed a.low a.high (sign a.minus c.magnitude_of-m.result)))
    ∙ ap (λ (m : ℕ). build_call (plain (check_magnitude m) (bignum a.low a.high (sign a.minus m))) L) c.magnitude_of-m.ensures
