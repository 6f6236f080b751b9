-- The proof of next_like.
use native.Mathlib.Omega.{arith}
use Prim.Native.Nat.{ℕ, ◌<◌}
use mathlib.Core.Path.{◌≡◌, refl, ap, ◌∙◌}
use lib.ListN.{drop}
use Rattle.load_state.specs.Holds.{find_listed}
use Rattle.symbol_search.proofs.Turns.{found_on}
use Rattle.load_state.specs.Needs.{entry_symbolic}
use Rattle.symbol_search.proofs.next_like.Goals as goal

pub loop-i-init : goal.loop-i-init
loop-i-init c = (omega arith, c.requires.0, λ room s input re ob k name e H E. refl)

pub bounds-symbols-i : goal.bounds-symbols-i
bounds-symbols-i c =
    let p = c.requires in
    let H = p.1.7 in
    omega (arith, c.loop-i-test.true, p.1.6, H.counted.count_symbols, H.laid.symbols.fits, H.laid.symbols.sized)

pub is_like-requires : goal.is_like-requires
is_like-requires c =
    let p = c.requires in
    let H = p.1.7 in
    (p.1.0, p.1.1, p.1.2, p.1.3, _, p.1.4, p.1.5, entry_symbolic c.loop-i.i refl H (omega (arith, p.1.6, c.loop-i-test.true)), H)

pub returns-then-is_like : goal.returns-then-is_like
returns-then-is_like c =
    let turn = c.loop-i in
    record { lower_bound = (turn.invariant.0, turn.invariant.1, λ l. c.is_like.ensures.like c.if-is_like.true); symbols_value = turn.invariant.2 }

pub loop-i-preserved : goal.loop-i-preserved
loop-i-preserved c =
    let turn = c.loop-i in (
      omega arith,
      omega arith,
      λ room s input re ob k name e H E.
          let lt : turn.i < k.symbols = omega (arith, e, c.loop-i-test.true) in
          turn.invariant.2 room s input re ob k name e H E ∙ found_on H turn.i lt name refl (c.is_like.ensures.false_value room s input re _ ob k name c.if-is_like.false (entry_symbolic turn.i refl H lt) H E),
    )

pub returns : goal.returns
returns c =
    let turn = c.loop-i in
    let z : turn.i ≡ c.args.count = omega arith in
    record { lower_bound = (omega arith, omega arith, λ l. absurd (omega arith)); symbols_value = λ room s input re ob k name e H E. turn.invariant.2 room s input re ob k name e H E ∙ ap (λ (i : ℕ). find_listed s.bytes name s.nodes (drop i s.symbols)) z }
