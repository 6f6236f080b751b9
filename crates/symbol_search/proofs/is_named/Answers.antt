-- The proof of is_named.
use native.Mathlib.Omega.{arith}
use mathlib.Core.Path.{◌∙◌}
use Prim.Native.Nat.{◌-◌}
use Rattle.load_state.specs.Needs.{length_span}
use Rattle.store.specs.Laws.{parts_long, says_same}
use Rattle.symbol_search.proofs.Looked.{node_inside, by_bytes, symbol_inside}
use Rattle.symbol_search.proofs.is_named.Goals as goal

pub bounds-nodes-h : goal.bounds-nodes-h
bounds-nodes-h c =
    let t = node_inside c.requires.3.7 c.args.h c.requires.3.6 in
    omega arith

pub slice_bounds-same_bytes-end-2 : goal.slice_bounds-same_bytes-end-2
slice_bounds-same_bytes-end-2 c =
    let p = c.requires in
    symbol_inside p.3.7 c.args.h p.3.6 c.args.n p.2

pub same_bytes-requires : goal.same_bytes-requires
same_bytes-requires c =
    let a = c.args in
    let p = c.requires in
    parts_long a.input.now a.bytes.now (a.at - a.n) _ _ _ a.n (omega (arith, p.0)) (omega arith) (omega (arith, p.0, p.1)) (symbol_inside p.3.7 a.h p.3.6 a.n p.2)

pub returns : goal.returns
returns c =
    let a = c.args in
    let p = c.requires in
    let z = length_span a.input.now a.at a.n p.0 p.1 in
    λ room st re sy ob k y G. says_same a.input.now a.bytes.now _ _ a.n (omega (arith, p.0)) (omega arith) c.same_bytes.ensures ∙ (by_bytes G a.h y _ a.n z p.2).0
