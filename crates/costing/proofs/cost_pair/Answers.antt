-- The proof of cost_pair.
use mathlib.Core.Path.{refl, sym, ap, ◌∙◌}
use Rattle.definition.specs.Arena.{arena}
use Rattle.definition.specs.Cost.{cost_answer, cost_done}
use Rattle.costing.proofs.Shape.{both, first_other, second_other}
use Rattle.costing.proofs.cost_pair.Goals.{else-is_hash_at-via-then-is_hash_at+else-is_hash_at-2, else-is_hash_at-via-else-is_hash_at}
use Rattle.costing.proofs.cost_pair.Goals as goal

pub returns-then-is_hash_at-2 : goal.returns-then-is_hash_at-2
unfolding arena
returns-then-is_hash_at-2 c =
    c.batch_cost.ensures ∙ sym (ap cost_done (both _ _ _ (c.if-is_hash_at.ensures _ refl) (c.if-is_hash_at-2.ensures _ refl)))

pub returns-else-is_hash_at : goal.returns-else-is_hash_at
unfolding arena cost_answer cost_done
returns-else-is_hash_at c =
    elim c.else-is_hash_at.branch [
      | else-is_hash_at-via-then-is_hash_at+else-is_hash_at-2 w ↦ sym (ap cost_done (second_other _ _ _ (w.if-is_hash_at.ensures _ refl) (w.if-is_hash_at-2.ensures _ refl)))
      | else-is_hash_at-via-else-is_hash_at w ↦ sym (ap cost_done (first_other _ _ _ (w.if-is_hash_at.ensures _ refl)))
    ]
