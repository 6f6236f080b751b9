-- The proof of check_entries_at.
use mathlib.Core.Path.{sym, ap, ◌∙◌}
use mathlib.Core.List.{List}
use Prim.Native.Nat.{ℕ}
use Rattle.definition.specs.Build.{held}
use Rattle.definition.specs.Cost.{check_entries}
use Rattle.call_check.proofs.Tests.{held_nodes}
use Rattle.batch_cost.proofs.Steps.{entries_key, entries_value, entries_on, entries_end}
use Rattle.batch_cost.proofs.check_entries_at.Goals as goal

pub loop-entry-init : goal.loop-entry-init
loop-entry-init c =
    let all = c.chunks_exact-entry-items.ensures in
    rw c.into_iter-entry-iterator.ensures.into_iter_gives (all.size, λ L e f. ap (λ (l : List ℕ). check_entries l L) (sym all.rest))

pub returns-then-not-is_name_at : goal.returns-then-not-is_name_at
returns-then-not-is_name_at c =
    let pair = c.in-Some.ensures.steps.1 in
    λ L e f. c.loop-entry.invariant.1 L e f ∙ entries_key L _ _ pair.0 (pair.1 ∙ c.loop-entry.invariant.0) (c.if-not-is_name_at.ensures (held L) (held_nodes L _ _ e f))

pub returns-then-not-is_amount_at : goal.returns-then-not-is_amount_at
returns-then-not-is_amount_at c =
    let pair = c.in-Some.ensures.steps.1 in
    λ L e f. c.loop-entry.invariant.1 L e f ∙ entries_value L _ _ pair.0 (pair.1 ∙ c.loop-entry.invariant.0) (c.if-not-is_name_at.ensures (held L) (held_nodes L _ _ e f)) (c.if-not-is_amount_at.ensures (held L) (held_nodes L _ _ e f))

pub loop-entry-preserved : goal.loop-entry-preserved
loop-entry-preserved c =
    let step = c.in-Some.ensures.steps in
    let pair = step.1 in
    (step.0 ∙ c.loop-entry.invariant.0, λ L e f. c.loop-entry.invariant.1 L e f ∙ entries_on L _ _ pair.0 (pair.1 ∙ c.loop-entry.invariant.0) (c.if-not-is_name_at.ensures (held L) (held_nodes L _ _ e f)) (c.if-not-is_amount_at.ensures (held L) (held_nodes L _ _ e f)))

pub returns : goal.returns
returns c =
    λ L e f. c.loop-entry.invariant.1 L e f ∙ entries_end L _ (rw c.loop-entry.invariant.0 at c.in-None.ensures.steps.1.0)
