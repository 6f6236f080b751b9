-- The proof of read_parts.
use native.Mathlib.Omega.{arith}
use Prim.Native.Nat.{ℕ}
use mathlib.Core.Path.{ap, ◌∙◌}
use lib.ListN.{length}
use Rattle.definition.specs.Weight.{whole_number}
use Rattle.definition.specs.declared.Reading.TheVariants.{Double}
use Rattle.decimal.proofs.Laws.{room_first, room_second, few_all}
use Rattle.decimal.proofs.Texts.{is_number, no_number}
use Rattle.decimal.proofs.read_parts.Goals as goal

pub whole_number-n-requires : goal.whole_number-n-requires
whole_number-n-requires c =
    let n = length c.args.whole.now in
    (c.requires.0, room_first n (omega (arith, few_all n (length c.args.part.now) c.if-whole-places.true)))

pub whole_number-m-requires : goal.whole_number-m-requires
whole_number-m-requires c =
    let n = length c.args.whole.now in
    let k = length c.args.part.now in
    (c.requires.1, room_second c.whole_number-n.result n k (few_all n k c.if-whole-places.true) c.whole_number-n.ensures.result_bound)

pub double-requires : goal.double-requires
double-requires c =
    let n = length c.args.whole.now in
    let k = length c.args.part.now in
    let f = few_all n k c.if-whole-places.true in
    (omega (arith, c.whole_number-m.ensures.result_bound, room_second c.whole_number-n.result n k f c.whole_number-n.ensures.result_bound), omega (arith, f))

pub returns-then-whole-places : goal.returns-then-whole-places
returns-then-whole-places c =
    let a = c.args in
    ap Double c.double.ensures
    ∙ is_number a.minus a.whole.now a.part.now c.if-whole-places.true _ (c.whole_number-m.ensures.value ∙ ap (λ (n : ℕ). whole_number n a.part.now) c.whole_number-n.ensures.value)

pub returns : goal.returns
returns c = no_number c.args.minus c.args.whole.now c.args.part.now c.if-whole-places.false
