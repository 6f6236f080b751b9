-- What cost_input answers, by load's answer.
use Prim.Native.Nat.{ℕ}
use mathlib.Core.Bool.{Bool, true, false}
use mathlib.Core.List.{List}
use mathlib.Core.Option.{none}
use mathlib.Core.Path.{◌≡◌, sym, ap, ◌∙◌, subst}
use lib.Dec.{ltb}
use lib.ListN.{length}
use Rattle.std.specs.Prelude.{Ok, Err}
use Rattle.definition.specs.Run.{pick}
use Rattle.definition.specs.Arena.{fault}
use Rattle.definition.specs.Build.{Lent, lent}
use Rattle.definition.specs.Cost.{CostAnswer, cost_answer, cost_done}
use Rattle.definition.specs.Load.{Lists, load_answer, LoadCall, load_call_of, load_call}
use Rattle.definition.specs.Refused.{Answer, Accepted, Refused}
use Rattle.definition.specs.declared.Loaded.{Loaded}
use Rattle.definition.specs.declared.Refusal.{Refusal}
use Rattle.lists.specs.Lists.{apart}
use Rattle.load_forest.specs.Call.{load_accepted, tables_of, call_well_formed}
use Rattle.console.specs.Call.{too_long, input_call}
use Rattle.costing.specs.Batch.{cost_root, cost_loaded, cost_after, cost_call}

-- what a load left, as the cost takes it
abbrev pub left : LoadCall → Lent
left k = lent k.lent.nodes k.lent.references k.lent.bytes k.answer.counts

module _ (input : List ℕ) (T : Lists) where
  abbrev k : LoadCall
  k = input_call input T

  abbrev called : Bool → LoadCall
  called b = pick b (too_long T) (load_call input T 64)

  -- the input's load is well formed where it is accepted
  k_right : k.answer.answer ≡ Accepted → fault (tables_of k.lent) k.answer.counts ≡ none
  unfolding input_call pick
  k_right = long (ltb 16384 (length input))
    where
      long : (b : Bool) → (called b).answer.answer ≡ Accepted → fault (tables_of (called b).lent) (called b).answer.counts ≡ none
      long true q = apart (cc)
      long false q = call_well_formed input T 64 (load_accepted input T 64 q)

  -- it was accepted, with r, and left T'
  module _ (r : Loaded) (T' : Lists) (e : load_answer (Ok r) ≡ k.answer) (f : T' ≡ k.lent) where
    same : load_call_of (load_answer (Ok r)) T' ≡ k
    same i = load_call_of (e i) (f i)

    pub well_formed : fault (tables_of T') r.counts ≡ none
    unfolding load_answer
    well_formed = subst (λ (x : LoadCall). fault (tables_of x.lent) x.answer.counts ≡ none) (sym same) (k_right (sym (ap (λ (x : LoadCall). x.answer.answer) same)))

    pub costed : {x : CostAnswer} → x ≡ cost_done (cost_root (lent T'.nodes T'.references T'.bytes r.counts)) → x ≡ cost_call input T
    unfolding cost_call cost_loaded load_answer
    costed h = h ∙ ap (λ (x : LoadCall). cost_after x) same

  -- its refusal is handed on
  pub handed_on : (q : Refusal) → Refused q ≡ k.answer.answer → cost_answer (Err q) ≡ cost_call input T
  unfolding cost_call cost_loaded cost_answer cost_done
  handed_on q e = ap (λ (x : Answer). cost_loaded x (left k)) e
