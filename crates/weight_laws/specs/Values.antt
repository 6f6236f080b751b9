-- A double that has a value: it is finite, has its own fraction for a value, and that fraction is the value.
use Rattle.std.specs.Prelude.{ℕ, ◌*◌, ◌<◌, ◌≡◌, refl, Bool, T, Float}
use Rattle.std.proofs.Math.Nat.{eq_of_mul-eq-mul_right}
use Rattle.std.proofs.Common.{zero-mul, sym, ◌∙◌}
use Rattle.std.specs.Float.{nan, inf, fin}
use Rattle.std.specs.Float.Ieee.Exact.{HasValue}
use Rattle.std.specs.Float.Ieee.Scale.{finite}
use Rattle.std.specs.Float.Ieee.Positive.{num, den}

pub value_finite : (x : Float) (s : Bool) (a c : ℕ) → HasValue x s a c → T (finite x)
value_finite nan s a c h = absurd h
value_finite (inf t) s a c h = absurd h
value_finite (fin t m e) s a c h = tt

pub own_value : (x : Float) (s : Bool) (a c : ℕ) → HasValue x s a c → HasValue x s (num x) (den x)
own_value nan s a c h = absurd h
own_value (inf t) s a c h = absurd h
own_value (fin t m e) s a c h = (h.0, refl)

pub cross : (x : Float) (s : Bool) (a c : ℕ) → HasValue x s a c → num x * c ≡ a * den x
cross nan s a c h = absurd h
cross (inf t) s a c h = absurd h
cross (fin t m e) s a c h = h.1

pub zero_num : (x : Float) (s : Bool) (c : ℕ) → 0 < c → HasValue x s 0 c → num x ≡ 0
zero_num x s c C v = eq_of_mul-eq-mul_right c C (num x) 0 (cross x s 0 c v ∙ zero-mul (den x) ∙ sym (zero-mul c))
