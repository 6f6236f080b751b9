-- Work that was accepted, taken apart: its first step was, and so was the rest. What `?` hands up.
use Rattle.std.specs.Prelude.{◌≡◌, refl, Result, Ok, Err, IsErrAnd}
use Rattle.std.proofs.Common.{ap}
use Rattle.definition.specs.Run.{Run, Outcome, ok, refused, next}
use Rattle.definition.specs.declared.Refusal.{Refusal}
use Rattle.lists.specs.Lists.{apart}

pub no_ok : {S A C : Type 0} {r : Refusal} {a : A} {s : S} → ◌≡◌ {A = Outcome S A} (refused r) (ok a s) → C
no_ok e = apart (cc)

pub un : {S A B G : Type 0} (o : Outcome S A) (k : A → Run S B) {b : B} {t : S} → next o k ≡ ok b t → ((a : A) (u : S) → o ≡ ok a u → k a u ≡ ok b t → G) → G
unfolding next
un (ok a u) k e f = f a u refl e
un (refused r) k e f = no_ok e

-- an error that `?` hands up is the one that it met
pub err_is : {A E : Type 0} {q : E} (r : Result A E) → IsErrAnd r (λ y. y ≡ q) → r ≡ Err q
err_is (Ok x) h = absurd h
err_is (Err y) h = ap (λ y. Err y) h
