-- Details as words, and words written one after the other.
use Prim.Native.Nat.{ℕ}
use mathlib.Core.Path.{◌≡◌, refl, ap, ◌∙◌}
use mathlib.Core.Bool.{Bool}
use mathlib.Core.List.{List, [], ◌∷◌, ◌++◌}
use lib.IntN.{ℤ, pos, negsuc}
use native.Mathlib.Omega.{arith}
use mir.Syntax.{w64}
use mir.Val.{of_z}
use lib.ListN.{set, get_or}
use lib.Seq.{sets}
use Rattle.definition.specs.Refused.{answer_numbers, answer_told, Answer}
use Rattle.definition.specs.declared.Counts.{Counts}
use Rattle.definition.specs.declared.Numbers.{Numbers}
use Rattle.refusal.specs.Shown.{shown, answer_shown}
use Rattle.reply.proofs.Answers.{dumped, begun, number, node, name, created, reading, weighed, costed}
use Rattle.definition.specs.declared.Reading.{Reading}
use Rattle.definition.specs.declared.Weighing.{Weighing}
use lib.Ieee.{Float}
use Rattle.reply.specs.Reply.{measured_words, hashed_words, dumped_words, begun_words, number_words, node_words, name_words, created_words, reading_words, reading_kind, reading_whole, weighed_words, costed_words, weighing_doubles, word, details, flag, count_words, loaded_words}

-- ---- details

-- words 0 and 1 from an answer's numbers
pub told : (a : Answer) (n : Numbers) (first : ℕ) (words : List ℕ) → n ≡ answer_told a → first ≡ word n.first → (n.number ≡ (answer_numbers a).0) × (set (set words 0 first) 1 n.second ≡ sets words 0 (details a))
unfolding details word
told a n first words e f =
    let s : shown n ≡ answer_numbers a = ap shown e ∙ answer_shown a in
    (ap (λ (t : ℕ × ℤ × ℤ). t.0) s, ap (λ (x : ℕ). set (set words 0 x) 1 n.second) f ∙ ap (λ (t : ℕ × ℤ × ℤ). set (set words 0 (word t.1)) 1 (word t.2)) s)

-- ---- each kind of answer, written one word after the other

module _ (words : List ℕ) (a : Answer) where
  abbrev details_in : List ℕ
  details_in = sets words 0 (details a)

  module _ (c : Counts) (u : ℕ) (f : Bool) where
    abbrev load_in : List ℕ
    load_in = sets details_in 2 (count_words c ++ (u ∷ flag f ∷ []))

    pub load_words : sets words 0 (loaded_words (record { answer = a; counts = c; used = u; form = f })) ≡ load_in
    unfolding loaded_words details count_words
    load_words = refl

    pub measured_load : (x y : ℕ) → sets words 0 (measured_words (record { load = record { answer = a; counts = c; used = u; form = f }; copied = x; compared = y })) ≡ set (set load_in 8 x) 9 y
    unfolding measured_words loaded_words details count_words
    measured_load x y = refl

    pub hashed_load : (x : ℕ) → sets words 0 (hashed_words (record { load = record { answer = a; counts = c; used = u; form = f }; looked = x })) ≡ set load_in 8 x
    unfolding hashed_words loaded_words details count_words
    hashed_load x = refl

  pub dump_words : (n : ℕ) → sets words 0 (dumped_words (record { answer = a; written = n })) ≡ set details_in 2 n
  unfolding dumped_words details
  dump_words n = refl

  pub new_words : (c : Counts) → sets words 0 (begun_words (record { answer = a; counts = c })) ≡ sets details_in 2 (count_words c)
  unfolding begun_words details count_words
  new_words c = refl

  pub value_words : (n : ℕ) → sets words 0 (number_words (record { answer = a; value = n })) ≡ set details_in 2 n
  unfolding number_words details
  value_words n = refl

  pub row_words : (ws : List ℕ) → sets words 0 (node_words (record { answer = a; words = ws })) ≡ sets details_in 2 (get_or ws 0 0 ∷ get_or ws 1 0 ∷ get_or ws 2 0 ∷ get_or ws 3 0 ∷ get_or ws 4 0 ∷ get_or ws 5 0 ∷ get_or ws 6 0 ∷ get_or ws 7 0 ∷ [])
  unfolding node_words details
  row_words ws = refl

  pub symbol_words : (s n : ℕ) → sets words 0 (name_words (record { answer = a; start = s; length = n })) ≡ set (set details_in 2 s) 3 n
  unfolding name_words details
  symbol_words s n = refl

  pub build_words : (h : ℕ) (c : Counts) → sets words 0 (created_words (record { answer = a; handle = h; counts = c })) ≡ set (sets details_in 2 (count_words c)) 6 h
  unfolding created_words details count_words
  build_words h c = refl

  pub read_words : (x : Reading) → sets words 0 (reading_words (record { answer = a; reading = x })) ≡ set (set details_in 2 (reading_kind x)) 3 (reading_whole x)
  unfolding reading_words details
  read_words x = refl

  pub weighing_words : (w : Weighing) → sets words 0 (weighed_words (record { answer = a; weighing = w })) ≡ details_in
  unfolding weighed_words
  weighing_words w = refl

  pub cost_words : (n : ℕ) → sets words 0 (costed_words (record { answer = a; cents = n })) ≡ set details_in 2 n
  unfolding costed_words details
  cost_words n = refl

pub three_doubles : (ds : List Float) (w : Weighing) → sets ds 0 (weighing_doubles w) ≡ set (set (set ds 0 w.dry) 1 w.moisture) 2 w.wet
unfolding weighing_doubles
three_doubles ds w = refl

-- these, and each answer by its Result
pub ruleset tellings = (load_words, measured_load, hashed_load, dump_words, new_words, value_words, row_words, symbol_words, build_words, read_words, weighing_words, cost_words, three_doubles, dumped, begun, number, node, name, created, reading, weighed, costed)

-- ---- 64 bits in two's complement

pub cast_word : (n : ℤ) → of_z w64 n ≡ word n
unfolding word
cast_word (pos n) = refl
cast_word (negsuc n) = omega arith
