-- The proof of is_row_of.
use native.Mathlib.Omega.{arith}
use mathlib.Core.Path.{◌∙◌}
use mathlib.Core.Logic.{inl, inr}
use borrow.Author.Tests.{lt-leb}
use Rattle.arena_check.proofs.Rows.{of_kind, row_0, row_1, row_1_not, row_text, row_4, row_5, row_6, row_7_absent, row_7_present, mark_not, row_8_absent, row_8_present, row_10, row_10_not, row_not}
use Rattle.arena_check.proofs.is_row_of.Goals as goal

pub returns-in-0 : goal.returns-in-0
returns-in-0 c = of_kind _ c.in-0.is (c.all_zero.ensures ∙ row_0 _ _ _ _ _ _ _)

pub returns-then-a-le1 : goal.returns-then-a-le1
returns-then-a-le1 c = of_kind _ c.in-1.is (c.all_zero-then-a-le1.ensures ∙ row_1 _ _ _ _ _ _ _ c.if-a-le1.true)

pub returns-else-a-le1 : goal.returns-else-a-le1
returns-else-a-le1 c = of_kind _ c.in-1.is (lt-leb _ _ c.if-a-le1.false ∙ row_1_not _ _ _ _ _ _ _ c.if-a-le1.false)

pub returns-in-3 : goal.returns-in-3
returns-in-3 c = c.all_zero-in-3.ensures ∙ row_text _ _ _ _ _ _ _ (inl c.in-3.is)

pub returns-in-4 : goal.returns-in-4
returns-in-4 c = of_kind _ c.in-4.is (c.all_zero-in-4.ensures ∙ row_4 _ _ _ _ _ _ _)

pub returns-in-5 : goal.returns-in-5
returns-in-5 c = of_kind _ c.in-5.is (c.all_zero-in-5.ensures ∙ row_5 _ _ _ _ _ _ _)

pub returns-in-6 : goal.returns-in-6
returns-in-6 c = of_kind _ c.in-6.is (c.all_zero-in-6.ensures ∙ row_6 _ _ _ _ _ _ _)

pub returns-in-0-f : goal.returns-in-0-f
returns-in-0-f c = of_kind _ c.in-7.is (c.all_zero-in-0-f.ensures ∙ row_7_absent _ _ _ _ _ _ _ c.in-0-f.is)

pub returns-in-1-f : goal.returns-in-1-f
returns-in-1-f c = of_kind _ c.in-7.is (row_7_present _ _ _ _ _ _ _ c.in-1-f.is)

pub returns-in_default-f : goal.returns-in_default-f
returns-in_default-f c = mark_not _ _ _ _ _ _ _ (inl c.in-7.is) (λ e. omega arith) (λ e. omega arith)

pub returns-in-0-f-2 : goal.returns-in-0-f-2
returns-in-0-f-2 c = of_kind _ c.in-8.is (c.all_zero-in-0-f-2.ensures ∙ row_8_absent _ _ _ _ _ _ _ c.in-0-f-2.is)

pub returns-in-1-f-2 : goal.returns-in-1-f-2
returns-in-1-f-2 c = of_kind _ c.in-8.is (row_8_present _ _ _ _ _ _ _ c.in-1-f-2.is)

pub returns-in_default-f-2 : goal.returns-in_default-f-2
returns-in_default-f-2 c = mark_not _ _ _ _ _ _ _ (inr c.in-8.is) (λ e. omega arith) (λ e. omega arith)

pub returns-in-9 : goal.returns-in-9
returns-in-9 c = c.all_zero-in-9.ensures ∙ row_text _ _ _ _ _ _ _ (inr c.in-9.is)

pub returns-then-n-le1 : goal.returns-then-n-le1
returns-then-n-le1 c = of_kind _ c.in-10.is (c.all_zero-then-n-le1.ensures ∙ row_10 _ _ _ _ _ _ _ c.if-n-le1.true)

pub returns-else-n-le1 : goal.returns-else-n-le1
returns-else-n-le1 c = of_kind _ c.in-10.is (lt-leb _ _ c.if-n-le1.false ∙ row_10_not _ _ _ _ _ _ _ c.if-n-le1.false)

pub returns-in_default : goal.returns-in_default
returns-in_default c = row_not _ _ _ _ _ _ _ _ (λ e. omega arith) (λ e. omega arith) (λ e. omega arith) (λ e. omega arith) (λ e. omega arith) (λ e. omega arith) (λ e. omega arith) (λ e. omega arith) (λ e. omega arith) (λ e. omega arith) (λ e. omega arith)
