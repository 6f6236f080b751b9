-- The proof of small_next.
use native.Mathlib.Omega.{arith}
use Prim.Native.Nat.{ℕ}
use mathlib.Core.Bool.{true}
use lib.Dec.{eqb}
use mathlib.Core.Path.{◌≡◌, refl}
use mathlib.Core.Logic.{inl, inr, ◌⊎◌}
use borrow.Author.Tests.{eqb-true, eq-eqb}
use Rattle.load_state.specs.Names.{untrue}
use Rattle.run_reader.proofs.small_next.Goals as goal

-- what is no integer is a link
link_next : {k f l : ℕ} → (k ≡ f → ⊥) → (k ≡ f) ⊎ (k ≡ l) → eqb k l ≡ true
link_next n (inl e) = absurd (n e)
link_next n (inr e) = eq-eqb _ _ e

pub returns-then-levels-eq0 : goal.returns-then-levels-eq0
returns-then-levels-eq0 c = (λ e. untrue e, λ n. absurd (n.0 c.if-levels-eq0.true))

pub returns-then-input-at : goal.returns-then-input-at
returns-then-input-at c = (λ e. untrue e, λ n. absurd (omega (arith, n.1, c.if-input-at.true)))

pub returns-then-k-eq-FIXNUM : goal.returns-then-k-eq-FIXNUM
returns-then-k-eq-FIXNUM c = (λ e. (c.if-levels-eq0.false, omega (arith, c.if-input-at.false), inl c.if-k-eq-FIXNUM.true), λ n. refl)

pub returns : goal.returns
returns c = (λ e. (c.if-levels-eq0.false, omega (arith, c.if-input-at.false), inr (eqb-true _ _ e)), λ n. link_next c.if-k-eq-FIXNUM.false n.2)
