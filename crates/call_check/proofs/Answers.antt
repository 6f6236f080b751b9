-- From the answer of a test to that of the next, or of the call.
use Prim.Native.Nat.{ℕ, ◌<◌}
use mathlib.Core.Bool.{Bool, true, false}
use mathlib.Core.List.{List, [], ◌∷◌}
use Rattle.std.specs.Prelude.{Result, Ok, Err}
use mathlib.Core.Path.{◌≡◌, refl, ap, ◌∙◌}
use lib.Dec.{ltb}
use Rattle.definition.specs.Run.{Run, Outcome, ok, refused, pure, refuse, next, ◌>>=◌, look, pick}
use Rattle.definition.specs.Build.{Lent, check, check_handles, handles_checked}
use Rattle.definition.specs.declared.Counts.{Counts}
use Rattle.definition.specs.declared.Refusal.{Refusal}
use Rattle.definition.specs.declared.Refusal.TheVariants.{BadHandle}
use Rattle.call_check.specs.Tests.{Says, Fit, FitsIf, Below}

-- ---- what an answer says

-- a test that comes to another says what that says
pub says_on : (r : Result (Unit {0}) Refusal) (m m' : Run Lent (Unit {0})) (L : Lent) → m L ≡ m' L → Says r m' L → Says r m L
says_on (Ok u) m m' L e s = e ∙ s
says_on (Err q) m m' L e s = e ∙ s

-- what holds anyway holds where the answer is Ok
pub below_if : (r : Result (Unit {0}) Refusal) (h count : ℕ) → h < count → Below r h count
below_if (Ok u) h count l = l
below_if (Err q) h count l = tt

pub fit_if : {n e b more : ℕ} {c : Counts} (r : Result (Unit {0}) Refusal) → Fit n e b more c → FitsIf r n e b more c
fit_if (Ok u) f = f
fit_if (Err q) f = tt

-- a step, then the rest; a refusal stops
pub on : {A B : Type 0} {o : Outcome Lent A} {a : A} {M : Lent} (f : A → Run Lent B) → o ≡ ok a M → next o f ≡ f a M
unfolding next
on f e = ap (λ o. next o f) e

pub stop : {A B : Type 0} {o : Outcome Lent A} {q : Refusal} (f : A → Run Lent B) → o ≡ refused q → next o f ≡ refused q
unfolding next
stop f e = ap (λ o. next o f) e

-- ---- handles after tables and arena

module _ (L : Lent) where
  pub handle_on : (h : ℕ) → check [] L ≡ ok tt L → handles_checked (h ∷ []) L ≡ check_handles (h ∷ []) L
  unfolding ◌>>=◌ handles_checked
  handle_on h p = on _ p

  pub handle_stop : (h : ℕ) (q : Refusal) → check [] L ≡ refused q → handles_checked (h ∷ []) L ≡ refused q
  unfolding ◌>>=◌ handles_checked
  handle_stop h q p = stop _ p

  -- other handles after the first
  by_first : (h : ℕ) (ks : List ℕ) → handles_checked (h ∷ ks) L ≡ next (handles_checked (h ∷ []) L) (λ _. check_handles ks)
  unfolding handles_checked check_handles look pick pure refuse ◌>>=◌ next
  by_first h ks = go (check [] L)
    where
      one : (b : Bool) (s : Lent) → pick {A = Run Lent (Unit {0})} b (check_handles ks) (refuse (BadHandle h)) s ≡ next (pick b (pure {A = Unit {0}} tt) (refuse (BadHandle h)) s) (λ _. check_handles ks)
      one true s = refl
      one false s = refl

      go : (o : Outcome Lent (Unit {0})) → next o (λ _. check_handles (h ∷ ks)) ≡ next (next o (λ _. check_handles (h ∷ []))) (λ _. check_handles ks)
      go (ok u s) = one (ltb h s.counts.nodes) s
      go (refused q) = refl

  pub others_on : (h : ℕ) (ks : List ℕ) → handles_checked (h ∷ []) L ≡ ok tt L → handles_checked (h ∷ ks) L ≡ check_handles ks L
  others_on h ks p = by_first h ks ∙ on _ p

  pub others_stop : (h : ℕ) (ks : List ℕ) (q : Refusal) → handles_checked (h ∷ []) L ≡ refused q → handles_checked (h ∷ ks) L ≡ refused q
  others_stop h ks q p = by_first h ks ∙ stop _ p
