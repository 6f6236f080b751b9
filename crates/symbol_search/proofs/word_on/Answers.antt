-- The proof of word_on.
use native.Mathlib.Omega.{arith}
use native.Mathlib.Nat.{mod-eq_of_lt, add-mod_right}
use Prim.Native.Nat.{ℕ, ◌+◌, ◌-◌, ◌%◌, ◌<◌}
use mathlib.Core.Path.{◌≡◌, sym, ap, ◌∙◌}
use Rattle.symbol_search.proofs.word_on.Goals as goal

pub returns-then-i-p : goal.returns-then-i-p
returns-then-i-p c = (sym (mod-eq_of_lt c.if-i-p.true), c.if-i-p.true)

-- once round
pub returns : goal.returns
returns c =
    let a = c.args in
    let x = a.i + a.p - a.m in
    let l : x < a.m = omega (arith, c.requires.0, c.requires.1) in
    let e : x + a.m ≡ a.i + a.p = omega (arith, c.if-i-p.false) in
    (sym (sym (ap (λ (j : ℕ). j % a.m) e) ∙ add-mod_right x a.m ∙ mod-eq_of_lt l), l)
