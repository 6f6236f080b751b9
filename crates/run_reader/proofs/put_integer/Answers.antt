-- The proof of put_integer.
use native.Mathlib.Omega.{arith}
use Prim.Native.Nat.{ℕ, ◌*◌}
use mathlib.Core.Path.{refl, sym, ap, ◌∙◌}
use mathlib.Core.List.{[], ◌∷◌}
use lib.ListN.{get_or}
use lib.Seq.{sets}
use Rattle.definition.specs.Node.{width}
use Rattle.reader.specs.Integers.{size_some}
use Rattle.run_reader.proofs.put_integer.Goals as goal

pub bounds-input-at : goal.bounds-input-at
bounds-input-at c =
    let a = c.args in
    omega (arith, size_some (get_or a.input.now a.at 0))

pub returns-then-not-in_form : goal.returns-then-not-in_form
returns-then-not-in_form c =
    let w = c.integer_at-w.ensures in
    let t = sym (c.in_form.ensures _ w.value w.at_value) ∙ c.if-not-in_form.true in
    record { nodes_after = λ n. absurd (n refl); value = λ n. absurd (n refl); nodes_unchanged = λ z. (refl, t); at_bound = omega (arith, w.value) }

pub returns : goal.returns
returns c =
    let a = c.args in
    let w = c.integer_at-w.ensures in
    let n = c.integer_size.ensures in
    let t = sym (c.in_form.ensures _ w.value w.at_value) ∙ c.if-not-in_form.false in
    let put = c.put_node.ensures ∙ ap (λ (v : ℕ). sets a.nodes.now (a.node * width) (2 ∷ v ∷ 0 ∷ 0 ∷ 0 ∷ 0 ∷ 0 ∷ 0 ∷ [])) w.value in
    record { nodes_after = λ m. put; value = λ m. (n, t); nodes_unchanged = λ z. absurd (omega (arith, z, n, size_some (get_or a.input.now a.at 0))); at_bound = omega (arith, w.value) }
