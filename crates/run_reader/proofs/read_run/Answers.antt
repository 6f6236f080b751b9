-- The proof of read_run.
use borrow.Author.Rules.{rules}
use native.Mathlib.Omega.{arith}
use Prim.Native.Nat.{◌+◌, ◌≤◌}
use mathlib.Core.Path.{refl, sym, ◌∙◌}
use lib.ListN.{length, get_or}
use Rattle.reader.specs.Integers.{size_small}
use Rattle.load_state.specs.Laws.{still}
use Rattle.load_state.specs.Names.{untrue}
use Rattle.run_reader.proofs.Run.{running_start, run_over, run_link, run_integer, at_inside, coming_next, over_short, over_link, over_integer, over_form, run_same, node_room}
use Rattle.run_reader.proofs.read_run.Goals as goal

pub returns-then-not-small_next : goal.returns-then-not-small_next
returns-then-not-small_next c =
    record { lower_bound = (omega arith, c.requires.0); goes = λ room limit by ob bu. still (λ s H. refl); fact = λ n l t. untrue (sym c.if-not-small_next.true ∙ c.small_next.ensures.1 (coming_next n t)) }

pub loop-to-init : goal.loop-to-init
loop-to-init c =
    let p = c.requires in
    running_start p.0 p.1 p.2.3

pub overflow_sub-input : goal.overflow_sub-input
overflow_sub-input c = at_inside c.loop-to.invariant

pub shape_of-nodes-then-input-at-lt6 : goal.shape_of-nodes-then-input-at-lt6
shape_of-nodes-then-input-at-lt6 c =
    c.loop-to.invariant.nodes

pub shape_of-references-then-input-at-lt6 : goal.shape_of-references-then-input-at-lt6
shape_of-references-then-input-at-lt6 c =
    c.loop-to.invariant.references

pub returns-then-input-at-lt6 : goal.returns-then-input-at-lt6
returns-then-input-at-lt6 c =
    let R = c.loop-to.invariant in
    let e = c.end_run.ensures in
    record { lower_bound = (omega (arith, e.0, R.from), omega (arith, e.0, R.within)); goes = run_over R e.0 e.1; fact = λ n l t. over_short R e.1 e.0 t c.if-input-at-lt6.true }

pub shape_of-nodes-then-known-i : goal.shape_of-nodes-then-known-i
shape_of-nodes-then-known-i c =
    c.loop-to.invariant.nodes

pub shape_of-references-then-known-i : goal.shape_of-references-then-known-i
shape_of-references-then-known-i c =
    c.loop-to.invariant.references

pub returns-then-known-i : goal.returns-then-known-i
returns-then-known-i c =
    let R = c.loop-to.invariant in
    let e = c.end_run-then-known-i.ensures in
    record { lower_bound = (omega (arith, e.0, R.from), omega (arith, e.0, R.within)); goes = run_over R e.0 e.1; fact = λ n l t. over_link R e.1 e.0 t c.if-k-eq-SYMBOL_LINK.true c.link_index-i.ensures.by_index c.if-known-i.true }

pub bounds-symbols-i : goal.bounds-symbols-i
bounds-symbols-i c =
    let R = c.loop-to.invariant in
    let H = R.held.3.holds in
    omega (arith, c.if-known-i.false, R.known, H.counted.count_symbols, H.laid.symbols.fits, H.laid.symbols.sized)

pub bounds-references-to : goal.bounds-references-to
bounds-references-to c =
    let R = c.loop-to.invariant in
    let H = R.held.3.holds in
    omega (arith, c.loop-to-test.true, R.inside, H.counted.count_references, H.laid.references.fits, H.laid.references.sized)

pub loop-to-preserved-then-k-eq-SYMBOL_LINK : goal.loop-to-preserved-then-k-eq-SYMBOL_LINK
loop-to-preserved-then-k-eq-SYMBOL_LINK c =
    let c-if4 = c.if-known-i in
    let c-link-index = c.link_index-i in
    let R = c.loop-to.invariant in
    let inside = at_inside R in
    run_link R c-link-index.result (c.small_next.ensures.0 c.if-not-small_next.false).0 c.loop-to-test.true (omega (arith, c.if-input-at-lt6.false, inside)) c.if-k-eq-SYMBOL_LINK.true (c-link-index.ensures.b_value c-if4.false).0 (c-link-index.ensures.b_value c-if4.false).1 c-if4.false

pub shape_of-nodes-then-not-takes_integer : goal.shape_of-nodes-then-not-takes_integer
shape_of-nodes-then-not-takes_integer c =
    c.loop-to.invariant.nodes

pub shape_of-references-then-not-takes_integer : goal.shape_of-references-then-not-takes_integer
shape_of-references-then-not-takes_integer c =
    c.loop-to.invariant.references

pub returns-then-not-takes_integer : goal.returns-then-not-takes_integer
returns-then-not-takes_integer c =
    let R = c.loop-to.invariant in
    let e = c.end_run-then-not-takes_integer.ensures in
    record { lower_bound = (omega (arith, e.0, R.from), omega (arith, e.0, R.within)); goes = run_over R e.0 e.1; fact = λ n l t. over_integer R e.1 e.0 t c.if-k-eq-SYMBOL_LINK.false c.takes_integer.ensures.value c.if-not-takes_integer.true }

pub put_integer-n-requires : goal.put_integer-n-requires
put_integer-n-requires c =
    let c-loop = c.loop-to in
    let R = c-loop.invariant in
    let inside = at_inside R in
    let a = c.args in
    let t = c.takes_integer.ensures.k_value c.if-not-takes_integer.false in
    (omega (arith, c.if-input-at-lt6.false, inside, size_small (get_or a.input.now (c-loop.at + 1) 0)), (node_room R t.2).0)

pub shape_of-nodes-then-n-eq0 : goal.shape_of-nodes-then-n-eq0
shape_of-nodes-then-n-eq0 c =
    c.put_integer-n.auto.nodes ∙ c.loop-to.invariant.nodes

pub shape_of-references-then-n-eq0 : goal.shape_of-references-then-n-eq0
shape_of-references-then-n-eq0 c =
    c.loop-to.invariant.references

-- an integer in another form
pub returns-then-n-eq0 : goal.returns-then-n-eq0
returns-then-n-eq0 c =
    let p = c.put_integer-n.ensures.nodes_unchanged c.if-n-eq0.true in
    let R = run_same c.loop-to.invariant p.0 in
    let e = c.end_run-then-n-eq0.ensures in
    record { lower_bound = (omega (arith, e.0, R.from), omega (arith, e.0, R.within)); goes = run_over R e.0 e.1; fact = λ n l t. over_form R e.1 e.0 t c.if-k-eq-SYMBOL_LINK.false p.1 }

pub overflow_add-at-in-loop-to-3 : goal.overflow_add-at-in-loop-to-3
overflow_add-at-in-loop-to-3 c =
    let c-put-integer = c.put_integer-n in
    let c-loop = c.loop-to in
    let a = c.args in
    let at = c-loop.at in
    let n = c-put-integer.result in
    let inside = at_inside c-loop.invariant in
    let end : at + 1 + n ≤ length a.input.now = omega (arith, c.if-input-at-lt6.false, inside, (c-put-integer.ensures.value c.if-n-eq0.false).0, size_small (get_or a.input.now (at + 1) 0)) in
    search rules

pub overflow_add-c : goal.overflow_add-c
overflow_add-c c =
    let t = c.takes_integer.ensures.k_value c.if-not-takes_integer.false in
    let fits = (node_room c.loop-to.invariant t.2).1 in
    record { fits = omega (arith, fits) }

pub overflow_cast-references : goal.overflow_cast-references
overflow_cast-references c =
    let t = c.takes_integer.ensures.k_value c.if-not-takes_integer.false in
    omega (arith, (node_room c.loop-to.invariant t.2).1)

pub bounds-references-to-in-loop-to : goal.bounds-references-to-in-loop-to
bounds-references-to-in-loop-to c =
    let R = c.loop-to.invariant in
    let H = R.held.3.holds in
    omega (arith, c.loop-to-test.true, R.inside, H.counted.count_references, H.laid.references.fits, H.laid.references.sized)

pub loop-to-preserved : goal.loop-to-preserved
loop-to-preserved c =
    let c-put-integer = c.put_integer-n in
    let R = c.loop-to.invariant in
    let inside = at_inside R in
    let t = c.takes_integer.ensures.k_value c.if-not-takes_integer.false in
    let p = c-put-integer.ensures in
    let n = p.value c.if-n-eq0.false in
    run_integer R c-put-integer.result (c.small_next.ensures.0 c.if-not-small_next.false).0 c.loop-to-test.true (omega (arith, c.if-input-at-lt6.false, inside)) t.0 n.1 t.1 t.2 n.0 p.at_bound (p.nodes_after c.if-n-eq0.false) c-put-integer.auto.nodes

pub shape_of-nodes : goal.shape_of-nodes
shape_of-nodes c =
    c.loop-to.invariant.nodes

pub shape_of-references : goal.shape_of-references
shape_of-references c =
    c.loop-to.invariant.references

pub returns : goal.returns
returns c =
    let R = c.loop-to.invariant in
    let e = c.end_run-2.ensures in
    record { lower_bound = (omega (arith, e.0, R.from), omega (arith, e.0, R.within)); goes = run_over R e.0 e.1; fact = λ n l t. absurd (omega (arith, e.0, l, c.loop-to-test.false)) }
