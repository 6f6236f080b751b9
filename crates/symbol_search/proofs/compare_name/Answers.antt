-- The proof of compare_name.
use native.Mathlib.Omega.{arith}
use mathlib.Core.Path.{sym}
use Rattle.symbol_search.proofs.Turns.{compared_by}
use Rattle.load_state.specs.Needs.{length_span}
use Rattle.symbol_search.proofs.Looked.{node_inside, other_length, by_bytes, symbol_inside}
use Rattle.symbol_search.proofs.compare_name.Goals as goal

pub bounds-nodes-base : goal.bounds-nodes-base
bounds-nodes-base c =
    let t = node_inside c.requires.2.7 c.args.h c.requires.2.6 in
    omega arith

pub returns-then-nodes-base : goal.returns-then-nodes-base
returns-then-nodes-base c =
    let a = c.args in
    let p = c.requires in
    let z = length_span a.input.now a.at a.n p.0 p.1 in
    λ room st re sy ob k y G.
    let o = other_length G a.h y _ a.n z c.if-nodes-base.true in
    (sym o.0, o.1)

pub bounds-nodes-base-2 : goal.bounds-nodes-base-2
bounds-nodes-base-2 c =
    let t = node_inside c.requires.2.7 c.args.h c.requires.2.6 in
    omega arith

pub alike-requires : goal.alike-requires
alike-requires c =
    let a = c.args in
    let p = c.requires in
    (omega (arith, p.1, p.0), symbol_inside p.2.7 a.h p.2.6 a.n c.if-nodes-base.false)

pub compared-requires : goal.compared-requires
compared-requires c = c.alike.ensures.most

pub returns : goal.returns
returns c =
    let a = c.args in
    let z = length_span a.input.now a.at a.n c.requires.0 c.requires.1 in
    λ room st re sy ob k y G. compared_by st _ c.compared.result c.alike.ensures c.compared.ensures (by_bytes G a.h y _ a.n z c.if-nodes-base.false)
