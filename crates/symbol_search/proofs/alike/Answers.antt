-- The proof of alike.
use native.Mathlib.Omega.{arith}
use mathlib.Core.Path.{◌≡◌, refl, sym, ◌∙◌}
use Rattle.lists.specs.Same.{same_none, same_apart_at, on_same, on_apart, on_end}
use Rattle.symbol_search.proofs.alike.Goals as goal

pub loop-i-init : goal.loop-i-init
loop-i-init c = (omega arith, refl, omega arith)

pub returns-then-input-from : goal.returns-then-input-from
returns-then-input-from c =
    let p = c.requires in
    let a = c.args in
    let turn = c.loop-i in
    let l = c.loop-i-test.true in
    let e = on_apart a.input.now a.bytes.now a.from a.to a.n turn.i p.0 p.1 l c.if-input-from.true in
    record {
      most = turn.invariant.0;
      whole = λ z. absurd (omega (arith, z, l));
      part = λ z. (sym (same_apart_at a.input.now a.bytes.now a.from a.to a.n turn.i p.0 p.1 l c.if-input-from.true), turn.invariant.2 ∙ omega (arith, e));
    }

pub loop-i-preserved : goal.loop-i-preserved
loop-i-preserved c =
    let p = c.requires in
    let a = c.args in
    let turn = c.loop-i in
    let l = c.loop-i-test.true in
    let e = on_same a.input.now a.bytes.now a.from a.to a.n turn.i p.0 p.1 l c.if-input-from.false in
    (omega arith, turn.invariant.1 ∙ e.0, turn.invariant.2 ∙ omega (arith, e.1))

pub returns : goal.returns
returns c =
    let p = c.requires in
    let a = c.args in
    let turn = c.loop-i in
    let z : turn.i ≡ a.n = omega arith in
    let e = on_end a.input.now a.bytes.now a.from a.to a.n a.n p.0 p.1 in
    record {
      most = omega arith;
      whole = λ _. (turn.invariant.1 ∙ rw z (same_none a.input.now a.bytes.now a.from a.to a.n a.n p.0 p.1), turn.invariant.2 ∙ rw z (omega (arith, e)));
      part = λ n. absurd (n refl);
    }
