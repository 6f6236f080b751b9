-- The proof of list_right.
use mathlib.Core.Path.{sym, ◌∙◌}
use borrow.Author.Tests.{lt-leb}
use Rattle.arena_check.proofs.Rights.{held_count, list_in, list_out, not_so}
use Rattle.arena_check.proofs.fitted.Fitted.list_right.Goals as goal

pub returns-then-from-n : goal.returns-then-from-n
returns-then-from-n c =
    let a = c.args in
    let t = a.self in
    record { value = λ A H. c.all_below.ensures ∙ list_in A t.references.now t.used t.count H.references_same (held_count H) t.references_fit a.start a.n c.if-from-n.true; n_bound = λ _. c.if-from-n.true }

pub returns-else-from-n : goal.returns-else-from-n
returns-else-from-n c =
    let a = c.args in
    let t = a.self in
    let off = lt-leb _ _ c.if-from-n.false in
    record { value = λ A H. off ∙ list_out A t.references.now t.used t.count H.references_same (held_count H) t.references_fit a.start a.n c.if-from-n.false; n_bound = λ e. not_so (sym off ∙ e) }
