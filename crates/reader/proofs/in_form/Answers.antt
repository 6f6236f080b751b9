-- The proof of in_form.
use native.Mathlib.Omega.{arith}
use Prim.Native.Nat.{ℕ, ◌-◌}
use mathlib.Core.Path.{ap, ◌∙◌}
use lib.Dec.{leb}
use Rattle.reader.proofs.Forms.{form_zero, form_few, form_few_negative, form_five, form_one, form_251, form_many_positive, form_many}
use Rattle.reader.proofs.in_form.Goals as goal

pub returns-then-b-eq0 : goal.returns-then-b-eq0
returns-then-b-eq0 c rest e d = form_zero rest _ _ e d c.if-b-eq0.true

pub returns-then-w-ge2147483648 : goal.returns-then-w-ge2147483648
returns-then-w-ge2147483648 c rest e d = form_few_negative rest _ _ e d (omega arith) (omega arith) c.if-w-ge2147483648.true (omega arith)

pub returns-then-b-le4 : goal.returns-then-b-le4
returns-then-b-le4 c rest e d =
    let a = c.args in
    ap (λ (x : ℕ). leb x a.w) c.least.ensures ∙ form_few rest _ _ e d (omega arith) (omega arith) (omega arith)

pub returns-then-b-eq5 : goal.returns-then-b-eq5
returns-then-b-eq5 c rest e d = form_five rest _ _ e d c.if-b-eq5.true

pub returns-then-b-le250 : goal.returns-then-b-le250
returns-then-b-le250 c rest e d = form_one rest _ _ e d (omega arith) c.if-b-le250.true

pub returns-then-b-eq251 : goal.returns-then-b-eq251
returns-then-b-eq251 c rest e d = form_251 rest _ _ e d c.if-b-eq251.true

pub returns-then-v-ge2147483648 : goal.returns-then-v-ge2147483648
returns-then-v-ge2147483648 c rest e d = form_many_positive rest _ _ e d (omega arith) (omega arith)

pub returns : goal.returns
returns c rest e d =
    let a = c.args in
    ap (λ (x : ℕ). leb x (4294967295 - a.w)) c.least-2.ensures ∙ form_many rest _ _ e d (omega arith) (omega arith) (omega arith) (omega arith)
