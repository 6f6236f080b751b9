-- The proof of wrong_buckets.
use mathlib.Core.Path.{sym, ap, ◌∙◌}
use mathlib.Core.Bool.{Bool, ◌||◌}
use borrow.Author.Tests.{lt-ltb, le-ltb}
use Rattle.definition.specs.Arena.{too_long}
use Rattle.definition.specs.LoadHashed.{bad_buckets}
use Rattle.loader.proofs.wrong_buckets.Goals as goal

pub returns-then-buckets-nodes : goal.returns-then-buckets-nodes
unfolding bad_buckets
returns-then-buckets-nodes c = let a = c.args in sym (ap (λ (t : Bool). t || too_long a.buckets) (lt-ltb _ _ c.if-buckets-nodes.true))

pub returns : goal.returns
unfolding bad_buckets
returns c = let a = c.args in c.too_long.ensures ∙ sym (ap (λ (t : Bool). t || too_long a.buckets) (le-ltb _ _ c.if-buckets-nodes.false))
