-- Work that goes step by step over a state and stops at the first refusal.
use Rattle.std.specs.Prelude.{Bool, true, false}
use Rattle.definition.specs.declared.Refusal.{Refusal}

-- what work on a state gives: a result and the state then, or a refusal
pub data Outcome (S A : Type 0) : Type 0 where
  ok : A → S → Outcome S A
  refused : Refusal → Outcome S A

-- work on a state S that gives an A
abbrev pub Run : Type 0 → Type 0 → Type 0
Run S A = S → Outcome S A

-- nothing to do
unfoldable pub pure : {S A : Type 0} → A → Run S A
pure a s = ok a s

-- stop with a refusal
unfoldable pub refuse : {S A : Type 0} → Refusal → Run S A
refuse r s = refused r

-- go on with what an outcome gives
unfoldable pub next : {S A B : Type 0} → Outcome S A → (A → Run S B) → Outcome S B
next (ok a t) f = f a t
next (refused r) f = refused r

-- one step, then the rest
infixl 10 ◌>>=◌
unfoldable pub ◌>>=◌ : {S A B : Type 0} → Run S A → (A → Run S B) → Run S B
◌>>=◌ m f s = next (m s) f

-- the rest may look at the state
unfoldable pub look : {S A : Type 0} → (S → Run S A) → Run S A
look f s = f s s

-- the first where the test holds, else the second
unfoldable pub pick : {A : Type 0} → Bool → A → A → A
pick true a b = a
pick false a b = b
