-- The proof of row_right.
use native.Mathlib.Omega.{arith}
use Prim.Native.Nat.{◌*◌}
use mathlib.Core.Bool.{◌&&◌}
use mathlib.Core.Path.{◌≡◌, sym, ap, ◌∙◌}
use mathlib.Core.Logic.{inl, inr}
use lib.Dec.{leb}
use lib.ListN.{length}
use Rattle.definition.specs.Node.{vars}
use Rattle.definition.specs.Arena.{bytes_right, list_right, pairs_right, vars_right, class_right, is_name}
use Rattle.arena_check.proofs.Rights.{held_count, right_text, right_4, right_5, right_6, right_7, right_8, right_10, right_else, and_on, and_off}
use Rattle.arena_check.proofs.fitted.Fitted.row_right.Goals.{then-list_right-2, else-list_right-2, then-bytes_right, else-bytes_right, then-bytes_right-2, else-bytes_right-2}
use Rattle.arena_check.proofs.fitted.Fitted.row_right.Goals as goal

pub returns-in-3 : goal.returns-in-3
returns-in-3 c =
    let a = c.args in
    λ A H. c.bytes_right.ensures A H ∙ right_text A a.a a.b a.s a.n a.c a.f a.w a.k (inl c.in-3.is)

pub returns-then-list_right : goal.returns-then-list_right
returns-then-list_right c =
    let a = c.args in
    λ A H. and_on (list_right A a.s a.n) (class_right A a.w) (c.if-list_right.ensures.value A H) (c.class_right.ensures A H) ∙ right_4 A a.a a.b a.s a.n a.c a.f a.w a.k c.in-4.is

pub returns-else-list_right : goal.returns-else-list_right
returns-else-list_right c =
    let a = c.args in
    λ A H. and_off (list_right A a.s a.n) (class_right A a.w) c.if-list_right.false (c.list_right.ensures.value A H) ∙ right_4 A a.a a.b a.s a.n a.c a.f a.w a.k c.in-4.is

pub returns-then-f-self : goal.returns-then-f-self
returns-then-f-self c =
    let a = c.args in
    λ A H.
    let x = list_right A a.s (a.n * 2) in
    let y = leb a.f (length A.nodes) in
    let both : c.if-list_right-2.value ≡ (x && y) = elim c.if-list_right-2.branch [
      | then-list_right-2 w ↦ and_on x y (sym w.if-list_right-2.true ∙ c.list_right-in-5.ensures.value A H) (w.value-is ∙ ap (leb a.f) (sym (held_count H)))
      | else-list_right-2 w ↦ w.value-is ∙ and_off x y w.if-list_right-2.false (c.list_right-in-5.ensures.value A H)
    ] in
    and_on (x && y) (class_right A a.w) (sym c.if-f-self.true ∙ both) (c.class_right-then-f-self.ensures A H) ∙ right_5 A a.a a.b a.s a.n a.c a.f a.w a.k c.in-5.is

pub returns-else-f-self : goal.returns-else-f-self
returns-else-f-self c =
    let a = c.args in
    λ A H.
    let x = list_right A a.s (a.n * 2) in
    let y = leb a.f (length A.nodes) in
    let both : c.if-list_right-2.value ≡ (x && y) = elim c.if-list_right-2.branch [
      | then-list_right-2 w ↦ and_on x y (sym w.if-list_right-2.true ∙ c.list_right-in-5.ensures.value A H) (w.value-is ∙ ap (leb a.f) (sym (held_count H)))
      | else-list_right-2 w ↦ w.value-is ∙ and_off x y w.if-list_right-2.false (c.list_right-in-5.ensures.value A H)
    ] in
    and_off (x && y) (class_right A a.w) c.if-f-self.false both ∙ right_5 A a.a a.b a.s a.n a.c a.f a.w a.k c.in-5.is

pub returns-then-is_name : goal.returns-then-is_name
returns-then-is_name c =
    let a = c.args in
    λ A H. and_on (is_name A a.c) (pairs_right A a.s a.n) (c.if-is_name.ensures A H) (c.pairs_right.ensures A H) ∙ right_6 A a.a a.b a.s a.n a.c a.f a.w a.k c.in-6.is

pub returns-else-is_name : goal.returns-else-is_name
returns-else-is_name c =
    let a = c.args in
    λ A H. and_off (is_name A a.c) (pairs_right A a.s a.n) c.if-is_name.false (c.is_name.ensures A H) ∙ right_6 A a.a a.b a.s a.n a.c a.f a.w a.k c.in-6.is

pub returns-then-vars_right : goal.returns-then-vars_right
returns-then-vars_right c =
    let a = c.args in
    λ A H.
    let x = bytes_right A a.a a.b in
    let y = vars_right A (vars a.f a.s a.n) in
    let both : c.if-bytes_right.value ≡ (x && y) = elim c.if-bytes_right.branch [
      | then-bytes_right w ↦ and_on x y (sym w.if-bytes_right.true ∙ c.bytes_right-in-7.ensures A H) (w.value-is ∙ w.vars_right.ensures A H)
      | else-bytes_right w ↦ w.value-is ∙ and_off x y w.if-bytes_right.false (c.bytes_right-in-7.ensures A H)
    ] in
    and_on (x && y) (class_right A a.w) (sym c.if-vars_right.true ∙ both) (c.class_right-then-vars_right.ensures A H) ∙ right_7 A a.a a.b a.s a.n a.c a.f a.w a.k c.in-7.is

pub returns-else-vars_right : goal.returns-else-vars_right
returns-else-vars_right c =
    let a = c.args in
    λ A H.
    let x = bytes_right A a.a a.b in
    let y = vars_right A (vars a.f a.s a.n) in
    let both : c.if-bytes_right.value ≡ (x && y) = elim c.if-bytes_right.branch [
      | then-bytes_right w ↦ and_on x y (sym w.if-bytes_right.true ∙ c.bytes_right-in-7.ensures A H) (w.value-is ∙ w.vars_right.ensures A H)
      | else-bytes_right w ↦ w.value-is ∙ and_off x y w.if-bytes_right.false (c.bytes_right-in-7.ensures A H)
    ] in
    and_off (x && y) (class_right A a.w) c.if-vars_right.false both ∙ right_7 A a.a a.b a.s a.n a.c a.f a.w a.k c.in-7.is

pub returns-then-is_name-2 : goal.returns-then-is_name-2
returns-then-is_name-2 c =
    let a = c.args in
    λ A H.
    let x = bytes_right A a.a a.b in
    let y = is_name A a.c in
    let both : c.if-bytes_right-2.value ≡ (x && y) = elim c.if-bytes_right-2.branch [
      | then-bytes_right-2 w ↦ and_on x y (sym w.if-bytes_right-2.true ∙ c.bytes_right-in-8.ensures A H) (w.value-is ∙ w.is_name-then-bytes_right-2.ensures A H)
      | else-bytes_right-2 w ↦ w.value-is ∙ and_off x y w.if-bytes_right-2.false (c.bytes_right-in-8.ensures A H)
    ] in
    and_on (x && y) (vars_right A (vars a.f a.s a.n)) (sym c.if-is_name-2.true ∙ both) (c.vars_right-then-is_name-2.ensures A H) ∙ right_8 A a.a a.b a.s a.n a.c a.f a.w a.k c.in-8.is

pub returns-else-is_name-2 : goal.returns-else-is_name-2
returns-else-is_name-2 c =
    let a = c.args in
    λ A H.
    let x = bytes_right A a.a a.b in
    let y = is_name A a.c in
    let both : c.if-bytes_right-2.value ≡ (x && y) = elim c.if-bytes_right-2.branch [
      | then-bytes_right-2 w ↦ and_on x y (sym w.if-bytes_right-2.true ∙ c.bytes_right-in-8.ensures A H) (w.value-is ∙ w.is_name-then-bytes_right-2.ensures A H)
      | else-bytes_right-2 w ↦ w.value-is ∙ and_off x y w.if-bytes_right-2.false (c.bytes_right-in-8.ensures A H)
    ] in
    and_off (x && y) (vars_right A (vars a.f a.s a.n)) c.if-is_name-2.false both ∙ right_8 A a.a a.b a.s a.n a.c a.f a.w a.k c.in-8.is

pub returns-in-9 : goal.returns-in-9
returns-in-9 c =
    let a = c.args in
    λ A H. c.bytes_right-in-9.ensures A H ∙ right_text A a.a a.b a.s a.n a.c a.f a.w a.k (inr c.in-9.is)

pub returns-in-10 : goal.returns-in-10
returns-in-10 c =
    let a = c.args in
    λ A H. c.number_right_at.ensures ∙ right_10 A a.a a.b a.s a.n a.c a.f a.w a.k c.in-10.is

pub returns-in_default : goal.returns-in_default
returns-in_default c =
    let a = c.args in
    λ A H. right_else A a.a a.b a.s a.n a.c a.f a.w a.k (λ e. omega arith) (λ e. omega arith) (λ e. omega arith) (λ e. omega arith) (λ e. omega arith) (λ e. omega arith) (λ e. omega arith) (λ e. omega arith)
