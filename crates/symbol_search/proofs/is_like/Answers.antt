-- The proof of is_like.
use native.Mathlib.Omega.{arith}
use mathlib.Core.Path.{sym, ◌∙◌}
use Rattle.load_state.specs.Names.{untrue}
use Rattle.symbol_search.proofs.Looked.{last_apart}
use Rattle.symbol_search.proofs.Looked.{node_inside, other_length, by_bytes, symbol_inside}
use Rattle.symbol_search.proofs.is_like.Goals as goal

pub bounds-nodes-base : goal.bounds-nodes-base
bounds-nodes-base c =
    let p = c.requires in
    let t = node_inside p.8 c.args.h p.7 in
    omega arith

pub returns-then-nodes-base : goal.returns-then-nodes-base
returns-then-nodes-base c =
    let a = c.args in
    record { like = λ e. untrue e; false_value = λ room s input re sy ob k name e y G E. (other_length G a.h y name a.n E.0 c.if-nodes-base.true).0 }

pub returns-then-n-eq0 : goal.returns-then-n-eq0
returns-then-n-eq0 c =
    record { like = (λ e. (c.if-nodes-base.false, λ f. absurd (f c.if-n-eq0.true))); false_value = λ room s input re sy ob k name e y G E. untrue (sym e) }

pub bounds-nodes-base-2 : goal.bounds-nodes-base-2
bounds-nodes-base-2 c =
    let t = node_inside c.requires.8 c.args.h c.requires.7 in
    omega arith

pub overflow_add-to-2 : goal.overflow_add-to-2
overflow_add-to-2 c =
    let i = symbol_inside c.requires.8 c.args.h c.requires.7 c.args.n c.if-nodes-base.false in
    omega (arith, i)

pub bounds-bytes-to : goal.bounds-bytes-to
bounds-bytes-to c =
    let i = symbol_inside c.requires.8 c.args.h c.requires.7 c.args.n c.if-nodes-base.false in
    omega (arith, i, c.if-n-eq0.false)

pub returns-then-bytes-to : goal.returns-then-bytes-to
returns-then-bytes-to c =
    let a = c.args in
    let i = symbol_inside c.requires.8 a.h c.requires.7 a.n c.if-nodes-base.false in record { like = λ e. untrue e; false_value = λ room s input re sy ob k name e y G E. last_apart a.bytes.now _ a.n name c.if-n-eq0.false E.0 i (λ q. c.if-bytes-to.true (q ∙ sym E.1)) ∙ (by_bytes G a.h y name a.n E.0 c.if-nodes-base.false).0 }

pub returns : goal.returns
returns c =
    record { like = (λ e. (c.if-nodes-base.false, λ f. c.if-bytes-to.false)); false_value = λ room s input re sy ob k name e y G E. untrue (sym e) }
