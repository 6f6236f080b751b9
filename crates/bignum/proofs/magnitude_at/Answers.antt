-- The proof of magnitude_at.
use native.Mathlib.Omega.{arith}
use Prim.Native.Nat.{◌+◌, ◌-◌}
use mathlib.Core.Path.{◌≡◌, sym, ap, ◌∙◌}
use mathlib.Core.List.{reverse}
use lib.ListN.{length, take, drop, length-take, length-drop}
use Rattle.std.specs.Prelude.{fold}
use Rattle.std.proofs.lemmas.Grind.{common_steps}
use Rattle.definition.specs.Integer.{little, low_bytes}
use Rattle.bignum.proofs.Laws.{before, AreBytes, part_bytes, folded, spelled}
use Rattle.bignum.proofs.magnitude_at.Goals as goal

pub returns : goal.returns
returns c =
    let a = c.args in
    let l = take a.n (drop a.at a.input.now) in
    let part : a.at + a.n - a.at ≡ a.n = omega arith in
    let long : length l ≡ a.n = simp (length-take, length-drop) (omega (arith, c.requires.1)) in
    let bytes : AreBytes l = part_bytes a.input.now a.at a.n (λ k. (c.type_inv.input k).fits) in
    let said : c.fold.result ≡ fold before 0 (reverse (take (a.at + a.n - a.at) (drop a.at a.input.now))) = grind (arith, common_steps) in
    let value : c.fold.result ≡ little l 0 = said ∙ ap (λ k. fold before 0 (reverse (take k (drop a.at a.input.now)))) part ∙ folded l bytes (omega (arith, long, c.requires.0)) in
    record { value = value; input_value = spelled l bytes ∙ ap (λ k. low_bytes k (little l 0)) long ∙ ap (low_bytes a.n) (sym value) }
