-- A node read as a number, and wet weight from dry weight (02, 2.5).
use Rattle.std.specs.Prelude.{ℕ, ◌+◌, ◌-◌, ◌*◌, ◌^◌, ◌≤◌, ◌≡◌, Bool, true, false, ◌&&◌, ◌||◌, List, [], ◌∷◌, ◌++◌, ◌⊎◌, T, leb, eqb, pos, negsuc, length, drop, Float, Result, Ok, Err}
use Rattle.std.proofs.Math.Option.{Option, none, some}
use Rattle.std.specs.Float.{fin, binary64}
use Rattle.std.specs.Float.Ieee.{neg, sub, div, lt, le, of_int, fits}
use Rattle.std.specs.Float.Ieee.Positive.{num, den}
use Rattle.std.specs.Float.Ieee.Scale.{finite}
use Rattle.definition.specs.Run.{Run, Outcome, ok, refused, pure, refuse, ◌>>=◌, look, pick}
use Rattle.definition.specs.Refused.{signed}
use Rattle.definition.specs.Node.{Row, START, LENGTH, fixnum_kind, float_kind, kind, word}
use Rattle.definition.specs.Arena.{node, range}
use Rattle.definition.specs.Build.{Lent, held, handles_checked}
use Rattle.definition.specs.Refused.{Answer, Accepted, Refused}
use Rattle.definition.specs.declared.Reading.{Reading}
use Rattle.definition.specs.declared.Reading.TheVariants.{Whole, Double, NotANumber}
use Rattle.definition.specs.declared.Refusal.TheVariants.{NotAWeight, BadMoisture}
use Rattle.definition.specs.declared.Weighing.{Weighing}
use Rattle.definition.specs.declared.Refusal.{Refusal}

-- ---- the text of a number: [minus] digits [point digits]

-- `0` to `9`
unfoldable pub is_digit : ℕ → Bool
is_digit b = leb 0x30 b && leb b 0x39

-- the digits that a text begins with
unfoldable pub digits : List ℕ → List ℕ
digits [] = []
digits (b ∷ bs) = pick (is_digit b) (b ∷ digits bs) []

-- what stands after them
unfoldable pub after_digits : List ℕ → List ℕ
after_digits text = drop (length (digits text)) text

-- a text that reads as a number: a minus or not, its digits before the point, and those after it, none without a point
pub record Decimal : Type 0 where
  pub minus : Bool
  pub whole : List ℕ
  pub fraction : List ℕ

-- "at most one point, with a digit on each side of it": what stands after the first digits is nothing, or a point, digits and nothing
unfoldable pub fraction_of : List ℕ → Option (List ℕ)
fraction_of [] = some []
fraction_of (b ∷ bs) = pick (eqb b 0x2E && leb 1 (length (digits bs)) && eqb (length (after_digits bs)) 0) (some (digits bs)) none

-- "1 to 15 digits", and one before a point
unfoldable pub decimal_if : Bool → List ℕ → Option (List ℕ) → Option Decimal
decimal_if minus whole none = none
decimal_if minus whole (some part) = pick (leb 1 (length whole) && leb (length whole + length part) 15) (some (record { minus = minus; whole = whole; fraction = part })) none

-- a text after its minus, if it has one
unfoldable pub unsigned : Bool → List ℕ → Option Decimal
unsigned minus text = decimal_if minus (digits text) (fraction_of (after_digits text))

-- "an optional minus, then .."
unfoldable pub decimal : List ℕ → Option Decimal
decimal [] = none
decimal (b ∷ bs) = pick (eqb b 0x2D) (unsigned true bs) (unsigned false (b ∷ bs))

-- ---- its double

-- "the digits as a whole number"; n stands for those before
unfoldable pub whole_number : ℕ → List ℕ → ℕ
whole_number n [] = n
whole_number n (b ∷ bs) = whole_number (n * 10 + (b - 0x30)) bs

-- "with the sign set last"
unfoldable pub with_sign : Bool → Float → Float
with_sign true x = neg x
with_sign false x = x

-- "the digits as a whole number, divided once by the power of ten"
unfoldable pub quotient : ℕ → ℕ → Float
quotient n places = div binary64 (of_int binary64 (pos n)) (of_int binary64 (pos (10 ^ places)))

-- "That double": the digits before the point and after it are one number
unfoldable pub double : Decimal → Float
double d = with_sign d.minus (quotient (whole_number 0 (d.whole ++ d.fraction)) (length d.fraction))

-- ---- a node's reading

-- a text's reading
unfoldable pub text_reading : Option Decimal → Reading
text_reading (some d) = Double (double d)
text_reading none = NotANumber

-- "A Fixnum reads whole. A Float reads as a double when its text is" a number's
unfoldable pub row_reading : List ℕ → Row → Reading
row_reading bytes r =
    pick (eqb (kind r) fixnum_kind) (Whole (signed (word r START)))
    (pick (eqb (kind r) float_kind) (text_reading (decimal (range bytes (word r START) (word r LENGTH)))) NotANumber)

-- "Read a node as a number"
unfoldable pub node_reading : ℕ → Run Lent Reading
node_reading h = look λ L. pure (row_reading (held L).bytes (node (held L) h))

-- `reading`: 1, 2, 13, then what the node reads as
unfoldable pub get_reading : ℕ → Run Lent Reading
get_reading h = handles_checked (h ∷ []) >>= λ _. node_reading h

-- ---- a weighing

-- 0, 1 and 0.5
abbrev pub positive_zero : Float
positive_zero = fin false 0 (pos 0)

abbrev pub one : Float
one = fin false 1 (pos 0)

abbrev pub half : Float
half = fin false 1 (negsuc 0)

-- "A whole reading is converted to a double exactly"; "17 NOT-A-WEIGHT, with the node, for another kind or text"
unfoldable pub as_double : ℕ → Reading → Run Lent Float
as_double h (Whole n) = pure (of_int binary64 n)
as_double h (Double x) = pure x
as_double h NotANumber = refuse (NotAWeight h)

-- a node as a double
unfoldable pub double_at : ℕ → Run Lent Float
double_at h = node_reading h >>= λ r. as_double h r

-- "or a dry weight below zero, the dry node judged whole before the moisture node"
unfoldable pub dry_at : ℕ → Run Lent Float
dry_at h = double_at h >>= λ x. pick (lt x positive_zero) (refuse (NotAWeight h)) (pure x)

-- "18 BAD-MOISTURE, for moisture below 0 or above 0.5, after both nodes are read"
unfoldable pub check_moisture : Float → Run Lent (Unit {0})
check_moisture x = pick (lt x positive_zero || lt half x) (refuse BadMoisture) (pure tt)

-- "Wet weight is dry ÷ (1 − moisture), rounded at each of the two operations"
unfoldable pub wet : Float → Float → Float
wet dry moisture = div binary64 dry (sub binary64 one moisture)

-- "A weighing keeps dry weight, moisture and wet weight together"
unfoldable pub weigh : Float → Float → Weighing
weigh dry moisture = record { dry = dry; moisture = moisture; wet = wet dry moisture }

-- 17 for each node, then 18
unfoldable pub weigh_nodes : ℕ → ℕ → Run Lent Weighing
weigh_nodes dry moisture = dry_at dry >>= λ d. double_at moisture >>= λ m. check_moisture m >>= λ _. pure (weigh d m)

-- `wet_weight`: 1, 2, 13 for each, then the weighing
unfoldable pub wet_weight : ℕ → ℕ → Run Lent Weighing
wet_weight dry moisture = handles_checked (dry ∷ moisture ∷ []) >>= λ _. weigh_nodes dry moisture

-- ---- the calls

-- what `reading` and `wet_weight` answer
pub record ReadingAnswer : Type 0 where
  pub answer : Answer
  pub reading : Reading

pub record WeighedAnswer : Type 0 where
  pub answer : Answer
  pub weighing : Weighing

-- by the code's Result; refused, not a number, and three positive zeros
unfoldable pub reading_answer : Result Reading Refusal → ReadingAnswer
reading_answer (Ok r) = record { answer = Accepted; reading = r }
reading_answer (Err q) = record { answer = Refused q; reading = NotANumber }

unfoldable pub weighed_answer : Result Weighing Refusal → WeighedAnswer
weighed_answer (Ok w) = record { answer = Accepted; weighing = w }
weighed_answer (Err q) = record { answer = Refused q; weighing = record { dry = positive_zero; moisture = positive_zero; wet = positive_zero } }

-- `reading`'s answer
unfoldable pub read_done : Outcome Lent Reading → ReadingAnswer
read_done (ok r L) = record { answer = Accepted; reading = r }
read_done (refused r) = record { answer = Refused r; reading = NotANumber }

-- `wet_weight`'s: refused, three positive zeros
unfoldable pub weighed_done : Outcome Lent Weighing → WeighedAnswer
weighed_done (ok w L) = record { answer = Accepted; weighing = w }
weighed_done (refused r) = record { answer = Refused r; weighing = record { dry = positive_zero; moisture = positive_zero; wet = positive_zero } }

-- ---- what is promised, over whole numbers: a finite double's size is num / den, and fractions are compared with their denominators multiplied out

-- how far apart two numbers are
unfoldable pub apart : ℕ → ℕ → ℕ
apart a b = a - b + (b - a)

-- x is finite, and of all finite doubles none is nearer in size to a / c
abbrev pub Nearest : Float → ℕ → ℕ → Type 0
Nearest x a c = T (finite x) × ((y : Float) → T (fits binary64 y) → T (finite y) → apart (num x * c) (a * den x) * den y ≤ apart (num y * c) (a * den y) * den x)

-- neither NaN nor infinite, not below zero, and 0 or at least 2^-1022, so not subnormal
abbrev pub Ordinary : Float → Type 0
Ordinary x = T (finite x) × T (le positive_zero x) × ((num x ≡ 0) ⊎ (den x ≤ num x * 2 ^ 1022))

-- "In exact fractions, wet times (1 − moisture) lies within dry ÷ 2^51 of dry": here with 2^k
abbrev pub Within : ℕ → Weighing → Type 0
Within k w =
    let dried = num w.wet * (den w.moisture - num w.moisture) * den w.dry in
    let dry = num w.dry * (den w.wet * den w.moisture) in
    2 ^ k * apart dried dry ≤ dry

-- of an accepted weighing
pub record Weighs (w : Weighing) : Type 0 where
  pub dry_ordinary : Ordinary w.dry
  pub moisture_ordinary : Ordinary w.moisture
  pub wet_ordinary : Ordinary w.wet
  pub at_most_half : num w.moisture * 2 ≤ den w.moisture
  pub within : Within 52 w
