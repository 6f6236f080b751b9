-- The proof of search_symbol.
use native.Mathlib.Omega.{arith}
use mathlib.Core.Path.{refl}
use Rattle.symbol_reader.proofs.Names.{searched_plainly, searched_counting}
use Rattle.symbol_reader.proofs.search_symbol.Goals as goal

pub find_symbol-requires : goal.find_symbol-requires
find_symbol-requires c =
    let p = c.requires in
    let H = p.1.2 in
    (omega arith, p.0, (H.room, H.state, _, _, c.args.c.now, refl, H.holds))

pub returns-in-None-clause-goes : goal.returns-in-None-clause-goes
returns-in-None-clause-goes c =
    λ room re ob. searched_plainly _ _ c.requires.0 (λ s G. c.find_symbol.ensures room s re ob _ refl G) c.in-None.is

pub returns-in-None-clause-symbolic : goal.returns-in-None-clause-symbolic
returns-in-None-clause-symbolic c =
    λ room s re ob k e G. (c.find_symbol.ensures room s re ob k e G).symbol

pub measure_symbol-r-requires : goal.measure_symbol-r-requires
measure_symbol-r-requires c =
    let p = c.requires in
    let H = p.1.2 in
    (omega arith, p.0, (H.room, H.state, _, _, c.args.c.now, refl, c.in-Some.is, H.holds))

pub returns-in-Some-clause-goes : goal.returns-in-Some-clause-goes
returns-in-Some-clause-goes c =
    let f = c.measure_symbol-r.ensures in
    λ room re ob. searched_counting _ _ c.requires.0 (λ s G. (f room s re ob _ refl G).0) _ _ c.in-Some.is (λ s G. (f room s re ob _ refl G).1)

pub returns-in-Some-clause-symbolic : goal.returns-in-Some-clause-symbolic
returns-in-Some-clause-symbolic c =
    λ room s re ob k e G. (c.measure_symbol-r.ensures room s re ob k e G).0.symbol
