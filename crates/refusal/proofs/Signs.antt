-- 32 bits read as signed.
use Prim.Native.Nat.{ℕ, suc, ◌-◌}
use native.Mathlib.Omega.{arith}
use mathlib.Core.Bool.{Bool, true, false}
use mathlib.Core.Path.{◌≡◌, refl, ap}
use lib.Dec.{ltb}
use lib.IntN.{pos, negsuc}
use mir.Syntax.{w32}
use mir.Val.{to_z, sel}
use Rattle.definition.specs.Run.{pick}
use Rattle.definition.specs.Refused.{signed}

pub cast_is : (w : ℕ) → to_z w32 w ≡ signed w
unfolding signed pick
cast_is w = by_test (ltb w 2147483648)
  where
    by_test : (b : Bool) → sel b (pos w) (negsuc (4294967296 - suc w)) ≡ pick b (pos w) (negsuc (4294967295 - w))
    by_test true = refl
    by_test false = ap negsuc (omega arith)
