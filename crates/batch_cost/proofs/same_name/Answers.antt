-- The proof of same_name.
use native.Mathlib.Omega.{arith}
use mathlib.Core.Path.{sym, ◌∙◌}
use lib.ListN.{take, drop}
use Rattle.definition.specs.Node.{equal}
use Rattle.store.specs.Laws.{parts_long, says_same}
use Rattle.batch_cost.proofs.Rows.{names_differ, name_self}
use Rattle.batch_cost.proofs.same_name.Goals as goal

pub returns-then-n-word_at : goal.returns-then-n-word_at
returns-then-n-word_at c =
    let a = c.args in
    let p = c.requires in
    names_differ a.nodes.now a.bytes.now a.h a.k p.0 p.1 (λ q. c.if-n-word_at.true (c.word_at-n.ensures ∙ q ∙ sym c.word_at.ensures))

pub returns-then-h-k : goal.returns-then-h-k
returns-then-h-k c =
    let a = c.args in
    name_self a.nodes.now a.bytes.now a.h a.k c.if-h-k.true

pub same_bytes-requires : goal.same_bytes-requires
same_bytes-requires c =
    let p = c.requires in
    parts_long _ _ c.word_at-from.result c.word_at-to.result _ _ c.word_at-n.result (omega arith) (omega arith) (omega (arith, c.word_at-from.ensures, c.word_at-n.ensures, p.0.stored)) (omega (arith, c.word_at-to.ensures, c.word_at.ensures, c.if-n-word_at.false, p.1.stored))

pub returns : goal.returns
returns c =
    let b = c.args.bytes.now in
    let n = c.word_at-n.ensures in
    let m = c.if-n-word_at.false ∙ c.word_at.ensures in
    let f = c.word_at-from.ensures in
    let t = c.word_at-to.ensures in
    says_same b b c.word_at-from.result c.word_at-to.result c.word_at-n.result (omega arith) (omega arith) c.same_bytes.ensures ∙ (λ j. equal (take (n j) (drop (f j) b)) (take (m j) (drop (t j) b)))
