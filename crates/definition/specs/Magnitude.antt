-- A Bignum's number: its magnitude in two words and in units, and its bytes (02, 2.4).
use Rattle.std.specs.Prelude.{ℕ, ◌+◌, ◌*◌, ◌/◌, ◌%◌, Bool, true, false, not, ◌&&◌, List, ◌∷◌, ◌++◌, ltb, eqb}
use Rattle.definition.specs.Run.{pick}
use Rattle.definition.specs.Integer.{low_bytes, integer_bytes}
use Rattle.definition.specs.Kind.{PLUS, MINUS}
use Rattle.definition.specs.Node.{Row, bignum}

-- "Magnitudes run to 2^63 − 1"
unfoldable pub fits : ℕ → Bool
fits m = ltb m 9223372036854775808

-- "zero is plus": the sign of a magnitude that was given a minus or not
unfoldable pub sign : Bool → ℕ → Bool
sign minus m = minus && not (eqb m 0)

-- "the magnitude in words 1 (low) and 2 (high)"
unfoldable pub magnitude : ℕ → ℕ → ℕ
magnitude low high = high * 4294967296 + low

-- the row of a magnitude with a minus or not
unfoldable pub bignum_row : Bool → ℕ → Row
bignum_row minus m = bignum (m % 4294967296) (m / 4294967296) (sign minus m)

-- "the fewest units" of 16 bits that hold a magnitude
unfoldable pub fewest_units : ℕ → ℕ
fewest_units m =
    pick (eqb m 0) 0
    (pick (ltb m 65536) 1
    (pick (ltb m 4294967296) 2
    (pick (ltb m 281474976710656) 3 4)))

-- "sign byte `+` or `-`"
unfoldable pub sign_byte : Bool → ℕ
sign_byte false = PLUS
sign_byte true = MINUS

-- "the units, lowest first, low byte first"
unfoldable pub unit_bytes : ℕ → List ℕ
unit_bytes m = low_bytes (fewest_units m * 2) m

-- "sign byte .., an integer count of 16-bit units, then the units"
unfoldable pub bignum_bytes : Bool → ℕ → List ℕ
bignum_bytes minus m = sign_byte minus ∷ integer_bytes (fewest_units m) ++ unit_bytes m
