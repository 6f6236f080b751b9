-- No double of an answer is a NaN, so that its bits may be read.
use Prim.Native.Nat.{ℕ}
use mathlib.Core.Path.{◌≡◌, sym, ap, ◌∙◌, subst}
use mathlib.Core.Bool.{not}
use lib.Dec.{T}
use lib.Ieee.{Float, is_nan}
use Rattle.definition.specs.Build.{Lent}
use Rattle.std.specs.Prelude.{Result, Ok}
use Rattle.definition.specs.Weight.{ReadingAnswer, WeighedAnswer, reading_answer, weighed_answer, get_reading, wet_weight, read_done, weighed_done}
use Rattle.definition.specs.declared.Reading.{Reading}
use Rattle.definition.specs.declared.Refusal.{Refusal}
use Rattle.definition.specs.declared.Weighing.{Weighing}
use Rattle.definition.specs.declared.Reading.TheVariants.{Double}
use Rattle.weight_laws.specs.Readings.{read_never_nan}
use Rattle.weight_laws.specs.Weighings.{weighed_never_nan}

pub reading_off_nan : (h : ℕ) (L : Lent) {r : Result Reading Refusal} {x : Float} → reading_answer r ≡ read_done (get_reading h L) → r ≡ Ok (Double x) → T (not (is_nan x))
unfolding reading_answer
reading_off_nan h L {x = x} e f = read_never_nan h L x (sym (ap (λ (a : ReadingAnswer). a.reading) e) ∙ ap (λ (r : Result Reading Refusal). (reading_answer r).reading) f)

pub weighing_off_nan : (dry moisture : ℕ) (L : Lent) {r : Result Weighing Refusal} {w : Weighing} → weighed_answer r ≡ weighed_done (wet_weight dry moisture L) → r ≡ Ok w → T (not (is_nan w.dry)) × T (not (is_nan w.moisture)) × T (not (is_nan w.wet))
unfolding weighed_answer
weighing_off_nan dry moisture L e f =
    subst (λ (w : Weighing). T (not (is_nan w.dry)) × T (not (is_nan w.moisture)) × T (not (is_nan w.wet)))
    (sym (ap (λ (a : WeighedAnswer). a.weighing) e) ∙ ap (λ (r : Result Weighing Refusal). (weighed_answer r).weighing) f)
    (weighed_never_nan dry moisture L)
