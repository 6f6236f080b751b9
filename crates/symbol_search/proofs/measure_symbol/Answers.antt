-- The proof of measure_symbol.
use native.Mathlib.Omega.{arith}
use Prim.Native.Nat.{◌<◌}
use mathlib.Core.Path.{refl, sym}
use Rattle.symbol_search.proofs.Turns.{turned_start, turned_met, turned_on, turned_here, turned_fits, turned_end}
use Rattle.load_state.specs.Needs.{entry_symbolic, length_span}
use Rattle.symbol_search.proofs.Looked.{is_there}
use Rattle.symbol_search.proofs.measure_symbol.Goals as goal

pub loop-i-init : goal.loop-i-init
loop-i-init c = (refl, λ room s re ob k e H. turned_start H _ refl _)

pub bounds-symbols-i : goal.bounds-symbols-i
bounds-symbols-i c =
    let p = c.requires.2 in
    let H = p.7 in
    omega (arith, c.loop-i-test.true, p.5, H.counted.count_symbols, H.laid.symbols.fits, H.laid.symbols.sized)

pub loop-i-preserved-then-h-next : goal.loop-i-preserved-then-h-next
loop-i-preserved-then-h-next c =
    let turn = c.loop-i in
    (turn.invariant.0, λ room s re ob k e H. turned_met H _ turn.i (turn.invariant.1 room s re ob k e H) (omega (arith, e, c.loop-i-test.true)) c.if-h-next.true)

pub compare_name-requires : goal.compare_name-requires
compare_name-requires c =
    let p = c.requires in
    let (room, s, re, ob, k, e, _, H) = p.2 in
    (p.0, p.1, (room, s, re, _, ob, k, entry_symbolic c.loop-i.i refl H (omega (arith, e, c.loop-i-test.true)), H))

-- what was counted and the bytes just compared fit 64 bits
pub overflow_add-total : goal.overflow_add-total
overflow_add-total c =
    let turn = c.loop-i in
    let p = c.requires in
    let (room, s, re, ob, k, e, q, H) = p.2 in
    let l : turn.i < k.symbols = omega (arith, e, c.loop-i-test.true) in
    let z = length_span c.args.input.now c.args.at c.args.n p.0 p.1 in
    let f = turned_fits H _ turn.i (turn.invariant.1 room s re ob k e H) l c.if-h-next.false (rw q at H.noted.counted) (omega (arith, z, p.0, p.1)) in
    record { fits = omega (arith, (c.in-Ok.ensures room s re _ ob k (entry_symbolic turn.i refl H l) H).1, f) }

pub returns-in-Ok : goal.returns-in-Ok
returns-in-Ok c =
    let turn = c.loop-i in
    λ room s re ob k e H.
    let l : turn.i < k.symbols = omega (arith, e, c.loop-i-test.true) in
    let y = entry_symbolic turn.i refl H l in
    let q = c.in-Ok.ensures room s re _ ob k y H in
    let f = turned_here H _ turn.i (turn.invariant.1 room s re ob k e H) l c.if-h-next.false q.0 q.1 in
    (record { same = f.0; symbol = y }, sym f.1)

pub overflow_add-sum : goal.overflow_add-sum
overflow_add-sum c =
    let turn = c.loop-i in
    let p = c.requires in
    let (room, s, re, ob, k, e, q, H) = p.2 in
    let l : turn.i < k.symbols = omega (arith, e, c.loop-i-test.true) in
    let z = length_span c.args.input.now c.args.at c.args.n p.0 p.1 in
    let f = turned_fits H _ turn.i (turn.invariant.1 room s re ob k e H) l c.if-h-next.false (rw q at H.noted.counted) (omega (arith, z, p.0, p.1)) in
    record { fits = omega (arith, (c.in-Err.ensures room s re _ ob k (entry_symbolic turn.i refl H l) H).1, f) }

pub overflow_add-next : goal.overflow_add-next
overflow_add-next c =
    let p = c.requires.2 in
    let H = p.7 in
    let y = entry_symbolic c.loop-i.i refl H (omega (arith, p.5, c.loop-i-test.true)) in
    record { fits = omega (arith, is_there H _ y, H.counted.count_nodes, H.counted.room_nodes, H.fixed.small.nodes) }

pub loop-i-preserved : goal.loop-i-preserved
loop-i-preserved c =
    let turn = c.loop-i in (
      turn.invariant.0,
      λ room s re ob k e H.
          let l : turn.i < k.symbols = omega (arith, e, c.loop-i-test.true) in
          let q = c.in-Err.ensures room s re _ ob k (entry_symbolic turn.i refl H l) H in
          turned_on H _ turn.i (turn.invariant.1 room s re ob k e H) l c.if-h-next.false q.0 q.1,
    )

pub returns : goal.returns
returns c =
    let turn = c.loop-i in
    λ room s re ob k e H.
    let f = turned_end H _ turn.i (turn.invariant.1 room s re ob k e H) (omega (arith, e)) in
    (record { same = f.0; symbol = tt }, sym f.1)
