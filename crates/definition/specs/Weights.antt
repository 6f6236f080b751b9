-- What 02, 2.5 says of numbers and weighings, computed from the definitions.
use Rattle.std.specs.Prelude.{ℕ, false, refl, List, [], ◌∷◌, ℤ, pos, length}
use Rattle.std.proofs.Common.{arith}
use Rattle.std.proofs.Math.Option.{Option, none, some}
use Rattle.std.specs.Float.{binary64}
use Rattle.std.specs.Float.Ieee.{neg, sub, div, lt, of_int, to_bits}
use Rattle.definition.specs.Run.{Outcome, ok, refused, pure, refuse, next, ◌>>=◌, look, pick}
use Rattle.definition.specs.Refused.{signed, place, numbers}
use Rattle.definition.specs.Node as N
use Rattle.definition.specs.Node.{Row, nil, fixnum, symbol, float, bignum}
use Rattle.definition.specs.Magnitude.{fits, magnitude}
use Rattle.definition.specs.Arena as A
use Rattle.definition.specs.Build as B
use Rattle.definition.specs.Starred.{holds}
use Rattle.definition.specs.Weight as W
use Rattle.definition.specs.Weight.{Within}
use Rattle.definition.specs.declared.Reading.{Reading}
use Rattle.definition.specs.declared.Reading.TheVariants.{Whole, Double, NotANumber}
use Rattle.definition.specs.declared.Weighing.{Weighing}

-- ---- texts

-- the 64 bits of a reading's double
bits_of : Reading → Option ℕ
unfolding to_bits
bits_of (Whole n) = none
bits_of (Double x) = some (to_bits binary64 x)
bits_of NotANumber = none

read : List ℕ → Option ℕ
unfolding bits_of W.text_reading W.decimal W.unsigned W.decimal_if W.fraction_of W.after_digits W.digits W.is_digit W.double W.quotient W.with_sign W.whole_number neg div of_int pick
read text = bits_of (W.text_reading (W.decimal text))

abbrev texts : List (List ℕ × Option ℕ)
texts =
    -- zero and its minus; whole numbers; fractions, each rounded once
    (0x30 ∷ [], some 0x0000000000000000)
    ∷ (0x2D ∷ 0x30 ∷ [], some 0x8000000000000000)
    ∷ (0x2D ∷ 0x30 ∷ 0x2E ∷ 0x30 ∷ [], some 0x8000000000000000)
    ∷ (0x37 ∷ [], some 0x401C000000000000)
    ∷ (0x31 ∷ 0x32 ∷ 0x30 ∷ 0x30 ∷ [], some 0x4092C00000000000)
    ∷ (0x30 ∷ 0x2E ∷ 0x31 ∷ [], some 0x3FB999999999999A)
    ∷ (0x30 ∷ 0x2E ∷ 0x33 ∷ [], some 0x3FD3333333333333)
    ∷ (0x2D ∷ 0x31 ∷ 0x2E ∷ 0x32 ∷ 0x35 ∷ [], some 0xBFF4000000000000)
    -- fifteen digits, leading zeros among them, and sixteen
    ∷ (0x31 ∷ 0x32 ∷ 0x33 ∷ 0x34 ∷ 0x35 ∷ 0x36 ∷ 0x37 ∷ 0x38 ∷ 0x39 ∷ 0x30 ∷ 0x31 ∷ 0x32 ∷ 0x33 ∷ 0x34 ∷ 0x35 ∷ [], some 0x42DC12218377DE40)
    ∷ (0x39 ∷ 0x39 ∷ 0x39 ∷ 0x39 ∷ 0x39 ∷ 0x39 ∷ 0x39 ∷ 0x39 ∷ 0x39 ∷ 0x39 ∷ 0x39 ∷ 0x39 ∷ 0x39 ∷ 0x39 ∷ 0x39 ∷ [], some 0x430C6BF52633FFF8)
    ∷ (0x30 ∷ 0x30 ∷ 0x30 ∷ 0x30 ∷ 0x30 ∷ 0x30 ∷ 0x30 ∷ 0x30 ∷ 0x30 ∷ 0x30 ∷ 0x30 ∷ 0x30 ∷ 0x30 ∷ 0x30 ∷ 0x30 ∷ [], some 0x0000000000000000)
    ∷ (0x30 ∷ 0x2E ∷ 0x35 ∷ 0x30 ∷ 0x30 ∷ 0x30 ∷ 0x30 ∷ 0x30 ∷ 0x30 ∷ 0x30 ∷ 0x30 ∷ 0x30 ∷ 0x30 ∷ 0x30 ∷ 0x30 ∷ 0x30 ∷ [], some 0x3FE0000000000000)
    ∷ (0x30 ∷ 0x2E ∷ 0x30 ∷ 0x30 ∷ 0x30 ∷ 0x30 ∷ 0x30 ∷ 0x30 ∷ 0x30 ∷ 0x30 ∷ 0x30 ∷ 0x30 ∷ 0x30 ∷ 0x30 ∷ 0x30 ∷ 0x31 ∷ [], some 0x3D06849B86A12B9B)
    ∷ (0x31 ∷ 0x32 ∷ 0x33 ∷ 0x34 ∷ 0x35 ∷ 0x36 ∷ 0x37 ∷ 0x38 ∷ 0x39 ∷ 0x30 ∷ 0x31 ∷ 0x32 ∷ 0x33 ∷ 0x34 ∷ 0x35 ∷ 0x36 ∷ [], none)
    ∷ (0x30 ∷ 0x2E ∷ 0x35 ∷ 0x30 ∷ 0x30 ∷ 0x30 ∷ 0x30 ∷ 0x30 ∷ 0x30 ∷ 0x30 ∷ 0x30 ∷ 0x30 ∷ 0x30 ∷ 0x30 ∷ 0x30 ∷ 0x30 ∷ 0x30 ∷ [], none)
    -- a digit on each side of the point, and one point
    ∷ (0x2E ∷ 0x35 ∷ [], none)
    ∷ (0x35 ∷ 0x2E ∷ [], none)
    ∷ (0x2D ∷ 0x2E ∷ 0x35 ∷ [], none)
    ∷ (0x2E ∷ [], none)
    ∷ (0x31 ∷ 0x2E ∷ 0x32 ∷ 0x2E ∷ 0x33 ∷ [], none)
    -- nothing else: no other sign, no exponent, no space
    ∷ ([], none)
    ∷ (0x2D ∷ [], none)
    ∷ (0x2D ∷ 0x2D ∷ 0x31 ∷ [], none)
    ∷ (0x2B ∷ 0x31 ∷ [], none)
    ∷ (0x31 ∷ 0x65 ∷ 0x32 ∷ [], none)
    ∷ (0x31 ∷ 0x2E ∷ 0x32 ∷ 0x65 ∷ 0x33 ∷ [], none)
    ∷ (0x31 ∷ 0x65 ∷ 0x2D ∷ 0x35 ∷ [], none)
    ∷ (0x69 ∷ 0x6E ∷ 0x66 ∷ [], none)
    ∷ (0x6E ∷ 0x61 ∷ 0x6E ∷ [], none)
    ∷ (0x20 ∷ 0x31 ∷ [], none)
    ∷ (0x31 ∷ 0x20 ∷ [], none)
    ∷ (0x31 ∷ 0x61 ∷ [], none)
    ∷ []

-- ---- weighings

-- an arena of these rows and bytes, and the two nodes
record Case : Type 0 where
  rows : List Row
  bytes : List ℕ
  dry : ℕ
  moisture : ℕ

-- the 64 bits of dry, moisture and wet, or the refusal's three numbers
data Result : Type 0 where
  weighs_as : ℕ → ℕ → ℕ → Result
  refused_with : ℕ × ℤ × ℤ → Result

result : Outcome B.Lent Weighing → Result
unfolding to_bits numbers signed place pick
result (ok w L) = weighs_as (to_bits binary64 w.dry) (to_bits binary64 w.moisture) (to_bits binary64 w.wet)
result (refused r) = refused_with (numbers r)

weighed : Case → Result
unfolding result W.wet_weight W.weigh_nodes W.dry_at W.double_at W.as_double W.node_reading W.row_reading W.check_moisture W.weigh W.wet read bits_of W.text_reading W.decimal W.unsigned W.decimal_if W.fraction_of W.after_digits W.digits W.is_digit W.double W.quotient W.with_sign W.whole_number B.handles_checked B.check B.check_handles B.wrong A.allowed A.lowest A.bad_nodes A.too_long A.sound A.fault A.fault_if A.faulty A.counts_fit A.node_right A.row_right A.number_right A.class_right A.bytes_right A.range A.node A.arena N.is_row N.equal N.rows N.row N.row_of N.optional_node N.words N.flat fits magnitude signed numbers neg sub div lt of_int pure refuse next ◌>>=◌ look pick N.kind
weighed c =
    result (W.wet_weight c.dry c.moisture (B.lent (N.flat c.rows) [] c.bytes (record { nodes = length c.rows; references = 0; bytes = length c.bytes; root = 0 })))

abbrev weighings : List (Case × Result)
weighings =
    -- both roundings; a whole reading is a double; one node may be both
    (record { rows = nil ∷ (float 0 4) ∷ (float 4 3) ∷ []; bytes = 0x31 ∷ 0x32 ∷ 0x30 ∷ 0x30 ∷ 0x30 ∷ 0x2E ∷ 0x31 ∷ []; dry = 1; moisture = 2 }, weighs_as 0x4092C00000000000 0x3FB999999999999A 0x4094D55555555555)
    ∷ (record { rows = nil ∷ (fixnum 1200) ∷ (float 0 3) ∷ []; bytes = 0x30 ∷ 0x2E ∷ 0x31 ∷ []; dry = 1; moisture = 2 }, weighs_as 0x4092C00000000000 0x3FB999999999999A 0x4094D55555555555)
    ∷ (record { rows = nil ∷ (float 0 3) ∷ (float 3 4) ∷ []; bytes = 0x30 ∷ 0x2E ∷ 0x33 ∷ 0x30 ∷ 0x2E ∷ 0x30 ∷ 0x37 ∷ []; dry = 1; moisture = 2 }, weighs_as 0x3FD3333333333333 0x3FB1EB851EB851EC 0x3FD4A5294A5294A5)
    ∷ (record { rows = nil ∷ (fixnum 2147483647) ∷ (fixnum 0) ∷ []; bytes = []; dry = 1; moisture = 2 }, weighs_as 0x41DFFFFFFFC00000 0x0000000000000000 0x41DFFFFFFFC00000)
    ∷ (record { rows = nil ∷ (float 0 4) ∷ []; bytes = 0x30 ∷ 0x2E ∷ 0x32 ∷ 0x35 ∷ []; dry = 1; moisture = 1 }, weighs_as 0x3FD0000000000000 0x3FD0000000000000 0x3FD5555555555555)
    -- negative zero is not below zero
    ∷ (record { rows = nil ∷ (float 0 2) ∷ (float 2 3) ∷ []; bytes = 0x2D ∷ 0x30 ∷ 0x30 ∷ 0x2E ∷ 0x31 ∷ []; dry = 1; moisture = 2 }, weighs_as 0x8000000000000000 0x3FB999999999999A 0x8000000000000000)
    ∷ (record { rows = nil ∷ (fixnum 7) ∷ (float 0 2) ∷ []; bytes = 0x2D ∷ 0x30 ∷ []; dry = 1; moisture = 2 }, weighs_as 0x401C000000000000 0x8000000000000000 0x401C000000000000)
    -- moisture from 0 to 0.5
    ∷ (record { rows = nil ∷ (fixnum 7) ∷ (float 0 3) ∷ []; bytes = 0x30 ∷ 0x2E ∷ 0x35 ∷ []; dry = 1; moisture = 2 }, weighs_as 0x401C000000000000 0x3FE0000000000000 0x402C000000000000)
    ∷ (record { rows = nil ∷ (fixnum 7) ∷ (float 0 16) ∷ []; bytes = 0x30 ∷ 0x2E ∷ 0x35 ∷ 0x30 ∷ 0x30 ∷ 0x30 ∷ 0x30 ∷ 0x30 ∷ 0x30 ∷ 0x30 ∷ 0x30 ∷ 0x30 ∷ 0x30 ∷ 0x30 ∷ 0x30 ∷ 0x31 ∷ []; dry = 1; moisture = 2 }, refused_with (18, pos 0, pos 0))
    ∷ (record { rows = nil ∷ (fixnum 7) ∷ (fixnum 1) ∷ []; bytes = []; dry = 1; moisture = 2 }, refused_with (18, pos 0, pos 0))
    ∷ (record { rows = nil ∷ (fixnum 7) ∷ (float 0 4) ∷ []; bytes = 0x2D ∷ 0x30 ∷ 0x2E ∷ 0x31 ∷ []; dry = 1; moisture = 2 }, refused_with (18, pos 0, pos 0))
    ∷ (record { rows = nil ∷ (fixnum 7) ∷ (fixnum 4294967295) ∷ []; bytes = []; dry = 1; moisture = 2 }, refused_with (18, pos 0, pos 0))
    -- another kind or text, and a dry weight below zero; the dry node whole before the other
    ∷ (record { rows = nil ∷ (float 0 3) ∷ (float 3 3) ∷ []; bytes = 0x31 ∷ 0x65 ∷ 0x32 ∷ 0x30 ∷ 0x2E ∷ 0x31 ∷ []; dry = 1; moisture = 2 }, refused_with (17, pos 1, pos 0))
    ∷ (record { rows = nil ∷ (fixnum 7) ∷ (float 0 1) ∷ []; bytes = 0x78 ∷ []; dry = 1; moisture = 2 }, refused_with (17, pos 2, pos 0))
    ∷ (record { rows = nil ∷ (fixnum 7) ∷ (bignum 7 0 false) ∷ []; bytes = []; dry = 1; moisture = 2 }, refused_with (17, pos 2, pos 0))
    ∷ (record { rows = nil ∷ (fixnum 4294967289) ∷ (float 0 3) ∷ []; bytes = 0x30 ∷ 0x2E ∷ 0x31 ∷ []; dry = 1; moisture = 2 }, refused_with (17, pos 1, pos 0))
    ∷ (record { rows = nil ∷ (float 0 2) ∷ nil ∷ []; bytes = 0x2D ∷ 0x31 ∷ []; dry = 1; moisture = 2 }, refused_with (17, pos 1, pos 0))
    ∷ (record { rows = nil ∷ nil ∷ nil ∷ []; bytes = []; dry = 1; moisture = 2 }, refused_with (17, pos 1, pos 0))
    ∷ (record { rows = nil ∷ (float 0 3) ∷ nil ∷ []; bytes = 0x30 ∷ 0x2E ∷ 0x31 ∷ []; dry = 1; moisture = 2 }, refused_with (17, pos 2, pos 0))
    -- handles, the dry one first, before any reading; the arena before them
    ∷ (record { rows = nil ∷ (fixnum 7) ∷ (float 0 3) ∷ []; bytes = 0x30 ∷ 0x2E ∷ 0x31 ∷ []; dry = 7; moisture = 8 }, refused_with (13, pos 7, pos 0))
    ∷ (record { rows = nil ∷ (fixnum 7) ∷ (float 0 3) ∷ []; bytes = 0x30 ∷ 0x2E ∷ 0x31 ∷ []; dry = 1; moisture = 8 }, refused_with (13, pos 8, pos 0))
    ∷ (record { rows = nil ∷ nil ∷ []; bytes = []; dry = 1; moisture = 8 }, refused_with (13, pos 8, pos 0))
    ∷ (record { rows = nil ∷ (symbol 0 1) ∷ []; bytes = []; dry = 7; moisture = 8 }, refused_with (2, pos 1, pos 0))
    ∷ []

computed : holds read texts × holds weighed weighings
unfolding holds read weighed
computed = (refl, refl)

-- 9192981833535 at a moisture of 0.491783: more than dry ÷ 2^53 lies between
abbrev far : Weighing
far = W.weigh (W.quotient 9192981833535 0) (W.quotient 491783 6)

pub no_better : Within 53 far → ⊥
unfolding W.weigh W.wet W.quotient W.apart sub div of_int
no_better h = omega (arith, h)
