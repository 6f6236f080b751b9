-- A reading and a weighing by what each step answers.
use Prim.Native.Nat.{ℕ}
use mathlib.Core.Path.{◌≡◌, sym, ap, ◌∙◌}
use mathlib.Core.Bool.{Bool, true, false, ◌||◌}
use mathlib.Core.List.{List, [], ◌∷◌}
use lib.ListN.{take}
use lib.Ieee.{Float, lt}
use Rattle.std.specs.Prelude.{Ok, Err}
use Rattle.definition.specs.Run.{ok, refused, pure, refuse, ◌>>=◌, look, pick}
use Rattle.definition.specs.Node.{row}
use Rattle.definition.specs.Build.{Lent, words_at, handles_checked}
use Rattle.definition.specs.Weight.{row_reading, node_reading, get_reading, positive_zero, half, as_double, double_at, dry_at, check_moisture, weigh, weigh_nodes, wet_weight, read_done, reading_answer}
use Rattle.definition.specs.declared.Reading.{Reading}
use Rattle.definition.specs.declared.Refusal.{Refusal}
use Rattle.definition.specs.declared.Refusal.TheVariants.{NotAWeight, BadMoisture}
use Rattle.call_check.proofs.Answers.{on, stop}
use Rattle.weight.specs.Tables.{Has}

-- ---- a reading

module _ (L : Lent) (nodes bytes : List ℕ) (stored h : ℕ) (k : Has L nodes bytes stored h) {r : Reading} (e : r ≡ row_reading (take stored bytes) (row (words_at nodes h))) where
  is_read : node_reading h L ≡ ok r L
  unfolding node_reading look pure
  is_read = ap (λ (x : Reading). ok x L) ((λ i. row_reading (k.0 i) (k.1 i)) ∙ sym e)

  pub reading_is : handles_checked (h ∷ []) L ≡ ok tt L → reading_answer (Ok r) ≡ read_done (get_reading h L)
  unfolding get_reading read_done reading_answer ◌>>=◌
  reading_is p = sym (ap read_done (on _ p ∙ is_read))

  -- ---- and as a double

  pub converted : {x : Reading} → r ≡ x → double_at h L ≡ as_double h x L
  unfolding double_at ◌>>=◌
  converted q = on _ is_read ∙ ap (λ (y : Reading). as_double h y L) q

pub reading_not : (L : Lent) (h : ℕ) (q : Refusal) → handles_checked (h ∷ []) L ≡ refused q → reading_answer (Err q) ≡ read_done (get_reading h L)
unfolding get_reading read_done reading_answer ◌>>=◌
reading_not L h q p = sym (ap read_done (stop _ p))

-- ---- a dry weight

module _ (L : Lent) (h : ℕ) where
  pub dry_below : (x : Float) → double_at h L ≡ ok x L → lt x positive_zero ≡ true → dry_at h L ≡ refused (NotAWeight h)
  unfolding dry_at ◌>>=◌ pick refuse
  dry_below x e t = on _ e ∙ ap (λ (b : Bool). pick b (refuse (NotAWeight h)) (pure x) L) t

  pub dry_is : (x : Float) → double_at h L ≡ ok x L → lt x positive_zero ≡ false → dry_at h L ≡ ok x L
  unfolding dry_at ◌>>=◌ pick pure
  dry_is x e t = on _ e ∙ ap (λ (b : Bool). pick b (refuse (NotAWeight h)) (pure x) L) t

  pub dry_not : (q : Refusal) → double_at h L ≡ refused q → dry_at h L ≡ refused q
  unfolding dry_at ◌>>=◌
  dry_not q e = stop _ e

-- ---- moisture

pub moisture_bad : (x : Float) (L : Lent) → lt x positive_zero || lt half x ≡ true → check_moisture x L ≡ refused BadMoisture
unfolding check_moisture pick refuse
moisture_bad x L t = ap (λ (b : Bool). pick b (refuse BadMoisture) (pure tt) L) t

pub moisture_fine : (x : Float) (L : Lent) → lt x positive_zero || lt half x ≡ false → check_moisture x L ≡ ok tt L
unfolding check_moisture pick pure
moisture_fine x L t = ap (λ (b : Bool). pick b (refuse BadMoisture) (pure tt) L) t

-- ---- a weighing

module _ (L : Lent) (d m : ℕ) where
  pub no_dry : (q : Refusal) → dry_at d L ≡ refused q → weigh_nodes d m L ≡ refused q
  unfolding weigh_nodes ◌>>=◌
  no_dry q e = stop _ e

  module _ (x : Float) (e : dry_at d L ≡ ok x L) where
    pub no_moisture : (q : Refusal) → double_at m L ≡ refused q → weigh_nodes d m L ≡ refused q
    unfolding weigh_nodes ◌>>=◌
    no_moisture q f = on _ e ∙ stop _ f

    module _ (y : Float) (f : double_at m L ≡ ok y L) where
      pub wrong_moisture : (q : Refusal) → check_moisture y L ≡ refused q → weigh_nodes d m L ≡ refused q
      unfolding weigh_nodes ◌>>=◌
      wrong_moisture q g = on _ e ∙ on _ f ∙ stop _ g

      pub weighed : check_moisture y L ≡ ok tt L → weigh_nodes d m L ≡ ok (weigh x y) L
      unfolding weigh_nodes ◌>>=◌ pure
      weighed g = on _ e ∙ on _ f ∙ on _ g

  -- ---- after the tests of the arena and of both handles

  pub no_handles : (q : Refusal) → handles_checked (d ∷ m ∷ []) L ≡ refused q → wet_weight d m L ≡ refused q
  unfolding wet_weight ◌>>=◌
  no_handles q e = stop _ e

  pub both_handles : handles_checked (d ∷ m ∷ []) L ≡ ok tt L → wet_weight d m L ≡ weigh_nodes d m L
  unfolding wet_weight ◌>>=◌
  both_handles e = on _ e
