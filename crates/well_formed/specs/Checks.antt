-- What the tests of an arena and of handles say where they let a call go on: what was tested holds, and nothing is changed.
use Rattle.std.specs.Prelude.{ℕ, zero, suc, ◌≡◌, refl, Bool, true, false, List, [], ◌∷◌, ltb}
use Rattle.std.proofs.Common.{sym, ap, ◌∙◌}
use Rattle.std.proofs.Math.Option.{Option, none, some}
use Rattle.definition.specs.Run.{Run, Outcome, ok, pure, refuse, next, ◌>>=◌, look, pick}
use Rattle.definition.specs.Arena.{all_below, allowed, fault, sound}
use Rattle.definition.specs.Build.{Lent, wrong, check, check_handles, handles_checked}
use Rattle.definition.specs.declared.Fault.{Fault}
use Rattle.definition.specs.declared.Refusal.TheVariants.{BadHandle}
use Rattle.lists.specs.Runs.{no_ok, un}

-- the slices are allowed and the arena is well formed
pub after_check : {A : Type 0} (more : List (ℕ × Bool)) (k : Unit {0} → Run Lent A) (L M : Lent) (a : A) → (check more >>= k) L ≡ ok a M
    → (wrong L.tables more ≡ 0) × (fault L.tables L.counts ≡ none) × (k tt L ≡ ok a M)
unfolding ◌>>=◌ check look allowed sound pure refuse next
after_check {A = A} more k L M a e = go (wrong L.tables more) (fault L.tables L.counts) refl refl e
  where
    go : (w : ℕ) (f : Option Fault) → wrong L.tables more ≡ w → fault L.tables L.counts ≡ f → next (next (allowed w L) (λ u. sound f)) k ≡ ok a M
        → (wrong L.tables more ≡ 0) × (fault L.tables L.counts ≡ none) × (k tt L ≡ ok a M)
    go zero none p q e = (p, q, e)
    go zero (some f) p q e = no_ok e
    go (suc w) f p q e = no_ok e

-- the handles are nodes
pub after_handles : {A : Type 0} (hs : List ℕ) (k : Unit {0} → Run Lent A) (L M : Lent) (a : A) → (check_handles hs >>= k) L ≡ ok a M
    → (all_below L.counts.nodes hs ≡ true) × (k tt L ≡ ok a M)
unfolding ◌>>=◌ check_handles look pure next all_below pick refuse
after_handles [] k L M a e = (refl, e)
after_handles (h ∷ hs) k L M a e = go (ltb h L.counts.nodes) (after_handles hs k L M a) e
  where
    go : (b : Bool) → ((check_handles hs >>= k) L ≡ ok a M → (all_below L.counts.nodes hs ≡ true) × (k tt L ≡ ok a M))
        → next (pick b (check_handles hs) (refuse (BadHandle h)) L) k ≡ ok a M → (pick b (all_below L.counts.nodes hs) false ≡ true) × (k tt L ≡ ok a M)
    go true f e = f e
    go false f e = no_ok e

-- alone: the arena is well formed
pub checked : (more : List (ℕ × Bool)) (L M : Lent) (u : Unit {0}) → check more L ≡ ok u M → (fault L.tables L.counts ≡ none) × (L ≡ M)
unfolding ◌>>=◌ pure next
checked more L M u e =
    let r = after_check more (λ _. pure u) L M u (ap (λ (o : Outcome Lent (Unit {0})). next o (λ _. pure u)) e) in
    (r.1, keeps r.2)
  where
    keeps : {L M : Lent} → ok u L ≡ ok u M → L ≡ M
    keeps e = cc

-- an arena whose handles were accepted was checked
pub was_checked : (hs : List ℕ) (L : Lent) → handles_checked hs L ≡ ok tt L → check [] L ≡ ok tt L
unfolding handles_checked ◌>>=◌
was_checked hs L e = un (check [] L) _ e λ u M f g. f ∙ ap (ok tt) (sym (checked [] L M u f).1)

-- and nothing is changed
pub handles_keep : (hs : List ℕ) (L M : Lent) (u : Unit {0}) → handles_checked hs L ≡ ok u M → L ≡ M
unfolding handles_checked ◌>>=◌ next pure
handles_keep hs L M u e =
    un (check [] L) _ e λ v K f g.
    let r = after_handles hs (λ _. pure u) K M u (ap (λ (o : Outcome Lent (Unit {0})). next o (λ _. pure u)) g) in
    (checked [] L K v f).1 ∙ same r.1
  where
    same : {K M : Lent} → ok u K ≡ ok u M → K ≡ M
    same e = cc
