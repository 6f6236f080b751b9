-- The proof of integer_at.
use native.Mathlib.Omega.{arith}
use Prim.Native.Nat.{ℕ, ◌+◌, ◌-◌, ◌^◌, ◌≤◌, ◌<◌}
use mathlib.Core.Path.{◌≡◌, sym, ap, ◌∙◌}
use lib.ListN.{drop, get_or, take}
use Rattle.definition.specs.Integer.{little, low_bytes}
use Rattle.reader.specs.Integers.{word_of, size_some, of_zero, of_few, of_plus, of_minus, of_251, of_many, size_few, size_many}
use Rattle.reader.proofs.Bytes.{under_ones, low_ones}
use Rattle.reader.proofs.Forms.{data_value, data_data}
use Rattle.reader.proofs.integer_at.Goals as goal

pub bounds-input-at : goal.bounds-input-at
bounds-input-at c =
    let c-args = c.args in
    let l = c-args.input.now in
    let at = c-args.at in
    omega (arith, size_some (get_or l at 0))

pub returns-then-b-eq0 : goal.returns-then-b-eq0
unfolding word_of
returns-then-b-eq0 c =
    let b = sym c.byte-b.ensures.0 in
    let f = of_zero _ (b ∙ c.if-b-eq0.true) in
    record { value = sym (ap (word_of _) f); at_value = data_value _ _ f }

pub little-requires : goal.little-requires
little-requires c =
    let c-args = c.args in
    let l = c-args.input.now in
    let at = c-args.at in
    let b = c.byte-b.ensures.0 in
    let few : get_or l at 0 ≤ 4 = omega (arith, b) in
    (omega arith, omega arith, omega (arith, b, size_few _ few))

pub returns-then-b-le4 : goal.returns-then-b-le4
unfolding word_of
returns-then-b-le4 c =
    let c-args = c.args in
    let l = c-args.input.now in
    let at = c-args.at in
    let b = c.byte-b.ensures.0 in
    let few : get_or l at 0 ≤ 4 = omega (arith, b) in
    let some : get_or l at 0 ≡ 0 → ⊥ = omega (arith, b, c.if-b-eq0.false) in
    let f = of_few _ some few in record { value = c.little.ensures.value ∙ sym (ap (word_of _) f ∙ ap (λ (n : ℕ). little (take n (drop (at + 1) l)) 0) (sym b)); at_value = data_data _ _ f (ap (λ (n : ℕ). take n (drop (at + 1) l)) (sym b) ∙ c.little.ensures.input_value ∙ ap (λ (n : ℕ). low_bytes n c.little.result) b) }

pub returns-then-b-le127 : goal.returns-then-b-le127
unfolding word_of
returns-then-b-le127 c =
    let c-args = c.args in
    let l = c-args.input.now in
    let at = c-args.at in
    let b = c.byte-b.ensures.0 in
    let f = of_plus (get_or l at 0) (omega (arith, b)) (omega (arith, b)) in
    record { value = sym (ap (word_of _) f ∙ ap (λ (n : ℕ). n - 5) (sym b)); at_value = data_value _ _ f }

pub returns-then-b-le250 : goal.returns-then-b-le250
unfolding word_of
returns-then-b-le250 c =
    let c-args = c.args in
    let l = c-args.input.now in
    let at = c-args.at in
    let b = c.byte-b.ensures.0 in
    let f = of_minus (get_or l at 0) (omega (arith, b)) (omega (arith, b)) in
    record { value = sym (ap (word_of _) f ∙ ap (λ (n : ℕ). n + 4294967045) (sym b)); at_value = data_value _ _ f }

pub returns-then-b-eq251 : goal.returns-then-b-eq251
unfolding word_of
returns-then-b-eq251 c =
    let b = sym c.byte-b.ensures.0 in
    let f = of_251 _ (b ∙ c.if-b-eq251.true) in
    record { value = sym (ap (word_of _) f); at_value = data_value _ _ f }

pub little-requires-2 : goal.little-requires-2
little-requires-2 c =
    let c-args = c.args in
    let l = c-args.input.now in
    let at = c-args.at in
    let b = c.byte-b.ensures in
    let many : 251 < get_or l at 0 = omega (arith, b.0) in
    (omega arith, omega arith, omega (arith, b.0, size_many _ many (omega (arith, b.0))))

pub returns : goal.returns
unfolding word_of
returns c =
    let c-args = c.args in
    let l = c-args.input.now in
    let at = c-args.at in
    let b = c.byte-b.ensures in
    let many : 251 < get_or l at 0 = omega (arith, b.0) in
    let top : get_or l at 0 ≤ 255 = omega (arith, b.0) in
    let above : 4 - (256 - get_or l at 0) ≡ get_or l at 0 - 252 = omega arith in
    let f = of_many _ many in
    let ones = c.ones_above.ensures in
    let v = c.little-2.result in record {
      value = under_ones l (at + 1) _ _ _ (omega arith) (omega arith) (omega (arith, b.0, size_many _ many top)) ones c.little-2.ensures.value
          ∙ ap (λ (x : ℕ). little (take (256 - x) (drop (at + 1) l)) (256 ^ (4 - (256 - x)) - 1)) b.0
          ∙ ap (λ (k : ℕ). little (take (256 - get_or l at 0) (drop (at + 1) l)) (256 ^ k - 1)) above
          ∙ sym (ap (word_of _) f);
      at_value = data_data _ _ f (ap (λ (x : ℕ). take (256 - x) (drop (at + 1) l)) (sym b.0) ∙ c.little-2.ensures.input_value ∙ sym (low_ones _ _ v (omega arith) ones) ∙ ap (λ (x : ℕ). low_bytes (256 - x) (c.ones_above.result + v)) b.0);
    }
