-- The proof of pair_cost.
use native.Mathlib.Omega.{arith}
use Prim.Native.Nat.{ℕ, ◌*◌}
use mathlib.Core.Path.{◌≡◌, refl, sym, ap, ◌∙◌}
use mathlib.Core.Bool.{true, false, not}
use lib.Dec.{eqb}
use lib.ListN.{get_or}
use borrow.Author.Tests.{eqb-true, eq-eqb, not-false}
use Rattle.std.specs.Option.{option_eq}
use Rattle.std.specs.Prelude.{Option, Some, None, ok_or}
use Rattle.definition.specs.Cost.{line_cost}
use Rattle.definition.specs.declared.Refusal.TheVariants.{NoPrice}
use Rattle.lists.specs.Runs.{err_is}
use Rattle.batch_cost.proofs.Lines.{superseded_costs, unpriced_costs, line_costs}
use Rattle.batch_cost.proofs.pair_cost.Goals as goal

-- a place tested against i
same_place : (o : Option ℕ) (i : ℕ) → false ≡ not (option_eq eqb o (Some i)) → o ≡ Some i
same_place None i e = absurd (cc e)
same_place (Some k) i e = ap Some (eqb-true k i (not-false (eqb k i) (sym e)))

other_place : (o : Option ℕ) (i : ℕ) → true ≡ not (option_eq eqb o (Some i)) → o ≡ Some i → ⊥
other_place o i e q = cc (e, ap (λ (x : Option ℕ). not (option_eq eqb x (Some i))) q, eq-eqb i i refl)

pub last_named-requires : goal.last_named-requires
last_named-requires c =
    (c.requires.0, (c.requires.0 c.args.i c.requires.2).0)

pub returns-then-ne : goal.returns-then-ne
returns-then-ne c =
    let a = c.args in
    superseded_costs a.nodes.now a.bytes.now a.recipe.now a.prices.now a.i c.requires.2 (λ q. other_place _ _ c.if-ne.ensures (c.last_named.ensures.value ∙ q))

pub last_named-requires-2 : goal.last_named-requires-2
last_named-requires-2 c =
    (c.requires.1, (c.requires.0 c.args.i c.requires.2).0)

pub returns-in_err-j : goal.returns-in_err-j
returns-in_err-j c =
    let a = c.args in
    let none = c.in_err-j.ensures in
    rw (err_is c.from_residual.result c.from_residual.ensures.1 ∙ none.value ∙ ap (λ (o : Option ℕ). ok_or o (NoPrice (get_or a.recipe.now (a.i * 2) 0))) none.ok_part)
    (unpriced_costs a.nodes.now a.bytes.now a.recipe.now a.prices.now a.i c.requires.2 (sym c.last_named.ensures.value ∙ same_place _ _ c.if-ne.ensures) (sym c.last_named-2.ensures.value ∙ none.ok_part))

pub word_at-kilograms-requires : goal.word_at-kilograms-requires
word_at-kilograms-requires c =
    ((c.requires.0 c.args.i c.requires.2).1.inside, omega arith)

pub word_at-cents-requires : goal.word_at-cents-requires
word_at-cents-requires c =
    ((c.requires.1 c.in_ok-j.j (rw c.in_ok-j.ensures.ok_part at c.last_named-2.ensures.result_in_bounds)).1.inside, omega arith)

pub line_cost-requires : goal.line_cost-requires
line_cost-requires c =
    let k = (c.requires.0 c.args.i c.requires.2).1.most in
    let p = (c.requires.1 c.in_ok-j.j (rw c.in_ok-j.ensures.ok_part at c.last_named-2.ensures.result_in_bounds)).1.most in
    (rw c.word_at-kilograms.ensures k, rw c.word_at-cents.ensures p)

pub returns : goal.returns
returns c =
    let a = c.args in
    let at_j = c.in_ok-j.ensures.ok_part in
    line_costs a.nodes.now a.bytes.now a.recipe.now a.prices.now a.i c.requires.2 (sym c.last_named.ensures.value ∙ same_place _ _ c.if-ne.ensures) _ (sym c.last_named-2.ensures.value ∙ at_j) (rw at_j at c.last_named-2.ensures.result_in_bounds) _ (c.line_cost.ensures.0 ∙ (λ k. line_cost (c.word_at-kilograms.ensures k) (c.word_at-cents.ensures k))) c.line_cost.ensures.1
