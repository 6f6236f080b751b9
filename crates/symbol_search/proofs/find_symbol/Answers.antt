-- The proof of find_symbol.
use native.Mathlib.Omega.{arith}
use Prim.Native.Nat.{◌<◌}
use mathlib.Core.Path.{refl, ◌∙◌}
use Rattle.load_state.specs.Holds.{span}
use Rattle.symbol_search.specs.Search.{Ends}
use Rattle.symbol_search.proofs.Turns.{found_at, found_on, found_none}
use Rattle.load_state.specs.Needs.{entry_symbolic, length_span}
use Rattle.symbol_search.proofs.find_symbol.Goals as goal

-- what is known of the name
pub last_byte-last-requires : goal.last_byte-last-requires
last_byte-last-requires c =
    let p = c.requires in
    (p.0, p.1)

pub loop-i-init : goal.loop-i-init
loop-i-init c = λ room s re ob k e H. refl

pub next_like-j-requires : goal.next_like-j-requires
next_like-j-requires c =
    let p = c.requires in
    (omega (arith, c.loop-i-test.true), (p.2.0, p.2.1, _, p.2.2, p.2.3, p.2.4, p.2.5, p.2.6))

pub returns-then-count-j : goal.returns-then-count-j
returns-then-count-j c =
    let q : Ends (span c.args.input.now c.args.at c.args.n) c.args.n c.last_byte-last.result = (length_span c.args.input.now c.args.at c.args.n c.requires.0 c.requires.1, c.last_byte-last.ensures) in
    λ room s re ob k e H.
    let found = (H.known.names refl).interned.names _ ∙ c.loop-i.invariant room s re ob k e H ∙ c.next_like-j.ensures.symbols_value room s _ re ob k _ e H q ∙ found_none H c.next_like-j.result _ (omega (arith, e, c.if-count-j.true)) in
    record { same = found; symbol = tt }

pub bounds-symbols-j : goal.bounds-symbols-j
bounds-symbols-j c =
    let p = c.requires in
    let H = p.2.6 in
    omega (arith, c.if-count-j.false, p.2.5, H.counted.count_symbols, H.laid.symbols.fits, H.laid.symbols.sized)

pub is_named-requires : goal.is_named-requires
is_named-requires c =
    let p = c.requires in
    let H = p.2.6 in
    (p.0, p.1, (c.next_like-j.ensures.lower_bound.2 c.if-count-j.false).0, (p.2.0, p.2.1, p.2.2, _, p.2.3, p.2.4, entry_symbolic _ refl H (omega (arith, p.2.5, c.if-count-j.false)), H))

pub returns-then-is_named : goal.returns-then-is_named
returns-then-is_named c =
    let j = c.next_like-j.result in
    let q : Ends (span c.args.input.now c.args.at c.args.n) c.args.n c.last_byte-last.result = (length_span c.args.input.now c.args.at c.args.n c.requires.0 c.requires.1, c.last_byte-last.ensures) in
    λ room s re ob k e H.
    let lt : j < k.symbols = omega (arith, e, c.if-count-j.false) in
    let y = entry_symbolic j refl H lt in
    let found = (H.known.names refl).interned.names _ ∙ c.loop-i.invariant room s re ob k e H ∙ c.next_like-j.ensures.symbols_value room s _ re ob k _ e H q ∙ found_at H j lt _ c.if-is_named.true (c.is_named.ensures room s re _ ob k y H) in
    record { same = found; symbol = y }

pub loop-i-smaller : goal.loop-i-smaller
loop-i-smaller c =
    let f = c.next_like-j.ensures.lower_bound in
    omega (arith, f.0, c.if-count-j.false)

pub loop-i-preserved : goal.loop-i-preserved
loop-i-preserved c =
    let j = c.next_like-j.result in
    let q : Ends (span c.args.input.now c.args.at c.args.n) c.args.n c.last_byte-last.result = (length_span c.args.input.now c.args.at c.args.n c.requires.0 c.requires.1, c.last_byte-last.ensures) in
    λ room s re ob k e H.
    let lt : j < k.symbols = omega (arith, e, c.if-count-j.false) in
    c.loop-i.invariant room s re ob k e H ∙ c.next_like-j.ensures.symbols_value room s _ re ob k _ e H q ∙ found_on H j lt _ c.if-is_named.false (c.is_named.ensures room s re _ ob k (entry_symbolic j refl H lt) H)

pub returns : goal.returns
returns c =
    let turn = c.loop-i in
    λ room s re ob k e H.
    record { same = (H.known.names refl).interned.names _ ∙ turn.invariant room s re ob k e H ∙ found_none H turn.i _ (omega (arith, e)); symbol = tt }
