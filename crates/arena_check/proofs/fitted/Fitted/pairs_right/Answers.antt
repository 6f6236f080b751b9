-- The proof of pairs_right.
use mathlib.Core.Path.{◌∙◌}
use Rattle.arena_check.proofs.Rights.{held_count, pairs_in, pairs_out}
use Rattle.arena_check.proofs.fitted.Fitted.pairs_right.Goals as goal

pub all_names-requires : goal.all_names-requires
all_names-requires c = c.list_right.ensures.n_bound c.if-list_right.true

pub returns-then-list_right : goal.returns-then-list_right
returns-then-list_right c =
    let a = c.args in
    let t = a.self in
    λ A H. c.all_names.ensures A H ∙ pairs_in A t.references.now t.used t.count H.references_same (held_count H) t.references_fit a.start a.n (c.if-list_right.ensures.value A H) (c.list_right.ensures.n_bound c.if-list_right.true)

pub returns-else-list_right : goal.returns-else-list_right
returns-else-list_right c =
    let a = c.args in
    λ A H. pairs_out A a.start a.n c.if-list_right.false (c.list_right.ensures.value A H)
