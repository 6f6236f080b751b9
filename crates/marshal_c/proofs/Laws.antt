-- A call's reply where the answer words, and the doubles, are enough and where they are too few.
use Prim.Native.Nat.{ℕ, ◌<◌, ◌≤◌}
use mathlib.Core.Path.{◌≡◌, refl}
use mathlib.Core.Bool.{Bool, true, false}
use mathlib.Core.List.{List, [], ◌∷◌}
use lib.Dec.{leb}
use lib.ListN.{length}
use lib.Ieee.{Float}
use lib.Seq.{sets}
use borrow.Author.Tests.{le-leb, lt-leb}
use Rattle.definition.specs.Run.{pick}
use Rattle.definition.specs.Refused.{answer_numbers, Answer}
use Rattle.definition.specs.Arena.{Tables}
use Rattle.definition.specs.Load.{Lists, LoadCall, LoadAnswer}
use Rattle.definition.specs.LoadMeasured.{MeasuredCall, MeasuredAnswer}
use Rattle.definition.specs.LoadHashed.{HashedCall, HashedAnswer}
use Rattle.definition.specs.Dump.{DumpCall, dump_call_of, DumpAnswer}
use Rattle.definition.specs.Build.{BuildCall, NewCall, NewAnswer, BuildAnswer, NameAnswer, NumberAnswer, WordsAnswer}
use Rattle.definition.specs.Cost.{CostAnswer}
use Rattle.definition.specs.Weight.{ReadingAnswer, WeighedAnswer}
use Rattle.reply.specs.Reply.{details, count_words, loaded_words, measured_words, hashed_words, dumped_words, begun_words, number_words, node_words, name_words, created_words, reading_double, reading_words, weighed_words, weighing_doubles, costed_words, reply, tell, tell_doubles, tell_load, tell_measured, tell_hashed, tell_dump, tell_new, tell_build, tell_number, tell_words, tell_name, tell_reading, tell_weighed, tell_costed}

-- ---- replies

module _ {L : Type 0} (a : Answer) (ws words : List ℕ) (before after : L) where
  too_few : length words < length ws → reply 1 words before ≡ tell a ws words before after
  unfolding tell pick
  too_few h = rw (lt-leb (length ws) (length words) h) refl

  enough : length ws ≤ length words → tell a ws words before after ≡ reply (answer_numbers a).0 (sets words 0 ws) after
  unfolding tell pick
  enough h = rw (le-leb (length ws) (length words) h) refl

-- few: fewer answer words, or doubles, than the call writes. said: enough of them
module _ (T : Lists) (words : List ℕ) where
  pub load_few : (k : LoadCall) → length words < 8 → reply 1 words T ≡ tell_load k T words
  unfolding tell_load loaded_words details count_words
  load_few k h = too_few k.answer.answer (loaded_words k.answer) words T k.lent h

  pub load_said : (r : LoadAnswer) (T' : Lists) → 8 ≤ length words → tell_load (record { answer = r; lent = T' }) T words ≡ reply (answer_numbers r.answer).0 (sets words 0 (loaded_words r)) T'
  unfolding tell_load loaded_words details count_words
  load_said r T' h = enough r.answer (loaded_words r) words T T' h

  pub measured_few : (k : MeasuredCall) → length words < 10 → reply 1 words T ≡ tell_measured k T words
  unfolding tell_measured measured_words loaded_words details count_words
  measured_few k h = too_few k.answer.load.answer (measured_words k.answer) words T k.lent h

  pub measured_said : (r : MeasuredAnswer) (T' : Lists) → 10 ≤ length words → tell_measured (record { answer = r; lent = T' }) T words ≡ reply (answer_numbers r.load.answer).0 (sets words 0 (measured_words r)) T'
  unfolding tell_measured measured_words loaded_words details count_words
  measured_said r T' h = enough r.load.answer (measured_words r) words T T' h

module _ (T : Lists) (buckets words : List ℕ) where
  pub hashed_few : (k : HashedCall) → length words < 9 → reply 1 words (T, buckets) ≡ tell_hashed k T buckets words
  unfolding tell_hashed hashed_words loaded_words details count_words
  hashed_few k h = too_few k.answer.load.answer (hashed_words k.answer) words (T, buckets) (k.lent, k.buckets) h

  pub hashed_said : (r : HashedAnswer) (T' : Lists) (buckets' : List ℕ) → 9 ≤ length words → tell_hashed (record { answer = r; lent = T'; buckets = buckets' }) T buckets words ≡ reply (answer_numbers r.load.answer).0 (sets words 0 (hashed_words r)) (T', buckets')
  unfolding tell_hashed hashed_words loaded_words details count_words
  hashed_said r T' b h = enough r.load.answer (hashed_words r) words (T, buckets) (T', b) h

module _ (scratch output words : List ℕ) where
  pub dump_few : (k : DumpCall) → length words < 3 → reply 1 words (scratch, output) ≡ tell_dump k scratch output words
  unfolding tell_dump dumped_words details
  dump_few k h = too_few k.answer.answer (dumped_words k.answer) words (scratch, output) (k.scratch, k.output) h

  pub dump_said : (r : DumpAnswer) (scratch' output' : List ℕ) → 3 ≤ length words → tell_dump (dump_call_of r.answer r.written scratch' output') scratch output words ≡ reply (answer_numbers r.answer).0 (sets words 0 (dumped_words r)) (scratch', output')
  unfolding tell_dump dumped_words details
  dump_said r s o h = enough r.answer (dumped_words r) words (scratch, output) (s, o) h

module _ (T : Tables) (words : List ℕ) where
  pub new_few : (k : NewCall) → length words < 6 → reply 1 words T ≡ tell_new k T words
  unfolding tell_new begun_words details count_words
  new_few k h = too_few k.answer.answer (begun_words k.answer) words T k.tables h

  pub new_said : (r : NewAnswer) (T' : Tables) → 6 ≤ length words → tell_new (record { answer = r; tables = T' }) T words ≡ reply (answer_numbers r.answer).0 (sets words 0 (begun_words r)) T'
  unfolding tell_new begun_words details count_words
  new_said r T' h = enough r.answer (begun_words r) words T T' h

  pub build_few : (k : BuildCall) → length words < 7 → reply 1 words T ≡ tell_build k T words
  unfolding tell_build created_words details count_words
  build_few k h = too_few k.answer.answer (created_words k.answer) words T k.tables h

  pub build_said : (r : BuildAnswer) (T' : Tables) → 7 ≤ length words → tell_build (record { answer = r; tables = T' }) T words ≡ reply (answer_numbers r.answer).0 (sets words 0 (created_words r)) T'
  unfolding tell_build created_words details count_words
  build_said r T' h = enough r.answer (created_words r) words T T' h

module _ (words : List ℕ) where
  pub number_few : (r : NumberAnswer) → length words < 3 → reply 1 words tt ≡ tell_number r words
  unfolding tell_number number_words details
  number_few r h = too_few r.answer (number_words r) words tt tt h

  pub number_said : (r : NumberAnswer) → 3 ≤ length words → tell_number r words ≡ reply (answer_numbers r.answer).0 (sets words 0 (number_words r)) tt
  unfolding tell_number number_words details
  number_said r h = enough r.answer (number_words r) words tt tt h

  pub words_few : (r : WordsAnswer) → length words < 10 → reply 1 words tt ≡ tell_words r words
  unfolding tell_words node_words details
  words_few r h = too_few r.answer (node_words r) words tt tt h

  pub words_said : (r : WordsAnswer) → 10 ≤ length words → tell_words r words ≡ reply (answer_numbers r.answer).0 (sets words 0 (node_words r)) tt
  unfolding tell_words node_words details
  words_said r h = enough r.answer (node_words r) words tt tt h

  pub name_few : (r : NameAnswer) → length words < 4 → reply 1 words tt ≡ tell_name r words
  unfolding tell_name name_words details
  name_few r h = too_few r.answer (name_words r) words tt tt h

  pub name_said : (r : NameAnswer) → 4 ≤ length words → tell_name r words ≡ reply (answer_numbers r.answer).0 (sets words 0 (name_words r)) tt
  unfolding tell_name name_words details
  name_said r h = enough r.answer (name_words r) words tt tt h

  pub costed_few : (r : CostAnswer) → length words < 3 → reply 1 words tt ≡ tell_costed r words
  unfolding tell_costed costed_words details
  costed_few r h = too_few r.answer (costed_words r) words tt tt h

  pub costed_said : (r : CostAnswer) → 3 ≤ length words → tell_costed r words ≡ reply (answer_numbers r.answer).0 (sets words 0 (costed_words r)) tt
  unfolding tell_costed costed_words details
  costed_said r h = enough r.answer (costed_words r) words tt tt h

-- with doubles
module _ (a : Answer) (ws : List ℕ) (ds doubles : List Float) (words : List ℕ) where
  few_words : length words < length ws → reply 1 words doubles ≡ tell_doubles a ws ds doubles words
  unfolding tell_doubles pick
  few_words h = either (leb (length ds) (length doubles))
    where
      either : (b : Bool) → reply 1 words doubles ≡ pick b (tell a ws words doubles (sets doubles 0 ds)) (reply 1 words doubles)
      either true = too_few a ws words doubles (sets doubles 0 ds) h
      either false = refl

  few_doubles : length doubles < length ds → reply 1 words doubles ≡ tell_doubles a ws ds doubles words
  unfolding tell_doubles pick
  few_doubles h = rw (lt-leb (length ds) (length doubles) h) refl

  enough_doubles : length ws ≤ length words → length ds ≤ length doubles → tell_doubles a ws ds doubles words ≡ reply (answer_numbers a).0 (sets words 0 ws) (sets doubles 0 ds)
  unfolding tell_doubles pick
  enough_doubles h g = rw (le-leb (length ds) (length doubles) g) (enough a ws words doubles (sets doubles 0 ds) h)

module _ (doubles : List Float) (words : List ℕ) where
  pub reading_few : (r : ReadingAnswer) → length words < 4 → reply 1 words doubles ≡ tell_reading r doubles words
  unfolding tell_reading reading_words details
  reading_few r h = few_words r.answer (reading_words r) (reading_double r.reading ∷ []) doubles words h

  pub reading_no_double : (r : ReadingAnswer) → length doubles < 1 → reply 1 words doubles ≡ tell_reading r doubles words
  unfolding tell_reading
  reading_no_double r h = few_doubles r.answer (reading_words r) (reading_double r.reading ∷ []) doubles words h

  pub reading_said : (r : ReadingAnswer) → 4 ≤ length words → 1 ≤ length doubles → tell_reading r doubles words ≡ reply (answer_numbers r.answer).0 (sets words 0 (reading_words r)) (sets doubles 0 (reading_double r.reading ∷ []))
  unfolding tell_reading reading_words details
  reading_said r h g = enough_doubles r.answer (reading_words r) (reading_double r.reading ∷ []) doubles words h g

  pub weighed_few : (r : WeighedAnswer) → length words < 2 → reply 1 words doubles ≡ tell_weighed r doubles words
  unfolding tell_weighed weighed_words details
  weighed_few r h = few_words r.answer (weighed_words r) (weighing_doubles r.weighing) doubles words h

  pub weighed_few_doubles : (r : WeighedAnswer) → length doubles < 3 → reply 1 words doubles ≡ tell_weighed r doubles words
  unfolding tell_weighed weighing_doubles
  weighed_few_doubles r h = few_doubles r.answer (weighed_words r) (weighing_doubles r.weighing) doubles words h

  pub weighed_said : (r : WeighedAnswer) → 2 ≤ length words → 3 ≤ length doubles → tell_weighed r doubles words ≡ reply (answer_numbers r.answer).0 (sets words 0 (weighed_words r)) (sets doubles 0 (weighing_doubles r.weighing))
  unfolding tell_weighed weighed_words weighing_doubles details
  weighed_said r h g = enough_doubles r.answer (weighed_words r) (weighing_doubles r.weighing) doubles words h g

-- all of them
pub ruleset replies = (load_few, load_said, measured_few, measured_said, hashed_few, hashed_said, dump_few, dump_said, new_few, new_said, build_few, build_said, number_few, number_said, words_few, words_said, name_few, name_said, costed_few, costed_said, reading_few, reading_no_double, reading_said, weighed_few, weighed_few_doubles, weighed_said)
