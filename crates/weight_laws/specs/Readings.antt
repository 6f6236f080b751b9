-- What a node reads as, and what the call that reads it answers: a whole number of 32 bits, or the nearest double to a decimal, and never a NaN.
use Rattle.std.specs.Prelude.{ℕ, ◌≡◌, refl, Bool, not, List, [], ◌∷◌, T, Float}
use Rattle.std.proofs.Common.{sym, subst}
use Rattle.std.proofs.Math.Option.{Option, none, some}
use Rattle.std.specs.Float.{nan, inf, fin}
use Rattle.std.specs.Float.Ieee.{is_nan}
use Rattle.std.specs.Float.Ieee.Scale.{finite}
use Rattle.definition.specs.Run.{Outcome, ok, refused, pure, next, ◌>>=◌, look, pick}
use Rattle.definition.specs.Refused.{signed}
use Rattle.definition.specs.Node.{Row, nil, bool, fixnum, symbol, array, hash, object, string, user, float, bignum, kind, words}
use Rattle.definition.specs.Arena.{node, range}
use Rattle.definition.specs.Build.{Lent, held, handles_checked}
use Rattle.definition.specs.Weight.{Decimal, decimal, double, text_reading, row_reading, node_reading, get_reading, read_done, Nearest}
use Rattle.definition.specs.declared.Reading.{Reading}
use Rattle.definition.specs.declared.Reading.TheVariants.{Whole, Double, NotANumber}
use Rattle.lists.specs.Lists.{apart as impossible}
use Rattle.well_formed.specs.Checks.{handles_keep}
use Rattle.weight_laws.specs.Decimals.{Plain, plain_finite, reading_plain, number, power, double_plain, double_nearest}
use Rattle.weight_laws.specs.Grammar.{spelled, Proper, decimal_sound}

-- ---- what a row reads as

-- a whole reading is 32 bits read as signed, a double is finite, and 0 or neither tiny nor huge
abbrev pub Sized : Reading → Type 0
Sized (Whole n) = (w : ℕ) × (n ≡ signed w)
Sized (Double x) = (s : Bool) × Plain s x
Sized NotANumber = Unit {0}

text_sized : (o : Option Decimal) (text : List ℕ) → decimal text ≡ o → Sized (text_reading o)
unfolding text_reading
text_sized none text e = tt
text_sized (some d) text e = (d.minus, reading_plain text d e)

-- a row by what it reads as: a Fixnum, a Float, or no number
data Reads (bytes : List ℕ) : Row → Reading → Type 0 where
  from_fixnum : (w : ℕ) → Reads bytes (fixnum w) (Whole (signed w))
  from_float : (s l : ℕ) → Reads bytes (float s l) (text_reading (decimal (range bytes s l)))
  from_none : (r : Row) → Reads bytes r NotANumber

reads : (bytes : List ℕ) (r : Row) → Reads bytes r (row_reading bytes r)
unfolding row_reading kind words pick
reads bytes nil = from_none nil
reads bytes (bool b) = from_none (bool b)
reads bytes (fixnum w) = from_fixnum w
reads bytes (symbol s l) = from_none (symbol s l)
reads bytes (array s n w) = from_none (array s n w)
reads bytes (hash s n d w) = from_none (hash s n d w)
reads bytes (object s n c) = from_none (object s n c)
reads bytes (string s l v w) = from_none (string s l v w)
reads bytes (user s l c v) = from_none (user s l c v)
reads bytes (float s l) = from_float s l
reads bytes (bignum low high m) = from_none (bignum low high m)

pub row_sized : (bytes : List ℕ) (r : Row) → Sized (row_reading bytes r)
row_sized bytes r = go (reads bytes r)
  where
    go : {r : Row} {q : Reading} → Reads bytes r q → Sized q
    go (from_fixnum w) = (w, refl)
    go (from_float s l) = text_sized (decimal (range bytes s l)) (range bytes s l) refl
    go (from_none r) = tt

-- a row that reads as a double is a Float, whose text is a decimal's
double_read : (o : Option Decimal) (x : Float) → text_reading o ≡ Double x → (d : Decimal) × (o ≡ some d) × (double d ≡ x)
unfolding text_reading
double_read none x e = impossible (cc)
double_read (some d) x e = (d, refl, cc)

-- the Float that a row is, its decimal, and how near the double is
pub record FromText (bytes : List ℕ) (r : Row) (x : Float) : Type 0 where
  pub start : ℕ
  pub size : ℕ
  pub written : Decimal
  pub is_float : r ≡ float start size
  pub spelt : range bytes start size ≡ spelled written
  pub proper : Proper written
  pub plain : Plain written.minus x
  pub nearest : Nearest x (number written) (power written)

pub row_double : (bytes : List ℕ) (r : Row) (x : Float) → row_reading bytes r ≡ Double x → FromText bytes r x
row_double bytes r x e = go (reads bytes r) e
  where
    go : {r : Row} {q : Reading} → Reads bytes r q → q ≡ Double x → FromText bytes r x
    go (from_fixnum w) e = impossible (cc)
    go (from_none r) e = impossible (cc)
    go (from_float s l) e =
        let k = double_read (decimal (range bytes s l)) x e in
        let p = decimal_sound (range bytes s l) k.0 k.1 in
        record {
          start = s;
          size = l;
          written = k.0;
          is_float = refl;
          spelt = p.0;
          proper = p.1;
          plain = subst (Plain k.0.minus) k.2 (double_plain k.0 p.1);
          nearest = subst (λ (z : Float). Nearest z (number k.0) (power k.0)) k.2 (double_nearest k.0 p.1);
        }

-- ---- the call

pub finite_no_nan : (x : Float) → T (finite x) → T (not (is_nan x))
unfolding is_nan
finite_no_nan nan t = absurd t
finite_no_nan (inf s) t = absurd t
finite_no_nan (fin s m e) t = tt

-- the call that reads, accepted or refused
pub read_sized : (h : ℕ) (L : Lent) → Sized (read_done (get_reading h L)).reading
unfolding read_done get_reading node_reading ◌>>=◌ look pure next
read_sized h L = go (handles_checked (h ∷ []) L)
  where
    go : (o : Outcome Lent (Unit {0})) → Sized (read_done (next o (λ _. node_reading h))).reading
    go (ok u M) = row_sized (held M).bytes (node (held M) h)
    go (refused r) = tt

-- a double that it reads is no NaN
pub read_never_nan : (h : ℕ) (L : Lent) (x : Float) → (read_done (get_reading h L)).reading ≡ Double x → T (not (is_nan x))
read_never_nan h L x e = let p : Sized (Double x) = subst Sized e (read_sized h L) in finite_no_nan x (plain_finite p.0 x p.1)

-- so a double that it reads is the nearest to what the node's text says
pub read_double : (h : ℕ) (L : Lent) (x : Float) → (read_done (get_reading h L)).reading ≡ Double x → FromText (held L).bytes (node (held L) h) x
unfolding read_done get_reading node_reading ◌>>=◌ look pure next
read_double h L x e = go (handles_checked (h ∷ []) L) refl e
  where
    go : (o : Outcome Lent (Unit {0})) → handles_checked (h ∷ []) L ≡ o → (read_done (next o (λ _. node_reading h))).reading ≡ Double x → FromText (held L).bytes (node (held L) h) x
    go (ok u M) f e = subst (λ (K : Lent). FromText (held K).bytes (node (held K) h) x) (sym (handles_keep (h ∷ []) L M u f)) (row_double (held M).bytes (node (held M) h) x e)
    go (refused r) f e = impossible (cc)
