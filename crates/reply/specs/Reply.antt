-- What a function for C returns and leaves: the answer's number, the answer words, and everything else lent as it then stands.
use Rattle.std.specs.Prelude.{ℕ, ◌-◌, Bool, true, false, List, [], ◌∷◌, ◌++◌, leb, ℤ, pos, negsuc, length, get_or, Float}
use Rattle.std.proofs.lemmas.List.Edits.{sets}
use Rattle.definition.specs.Run.{pick}
use Rattle.definition.specs.Refused.{answer_numbers, Answer}
use Rattle.definition.specs.Arena.{Tables}
use Rattle.definition.specs.Load.{Lists, LoadCall, LoadAnswer}
use Rattle.definition.specs.LoadMeasured.{MeasuredCall, MeasuredAnswer}
use Rattle.definition.specs.LoadHashed.{HashedCall, HashedAnswer}
use Rattle.definition.specs.Dump.{DumpCall, DumpAnswer}
use Rattle.definition.specs.Build.{BuildCall, NewCall, NewAnswer, BuildAnswer, NameAnswer, NumberAnswer, WordsAnswer}
use Rattle.definition.specs.Weight.{positive_zero, ReadingAnswer, WeighedAnswer}
use Rattle.definition.specs.Cost.{CostAnswer}
use Rattle.definition.specs.declared.Counts.{Counts}
use Rattle.definition.specs.declared.Loaded.{Loaded}
use Rattle.definition.specs.declared.Reading.{Reading}
use Rattle.definition.specs.declared.Reading.TheVariants.{Whole, Double, NotANumber}
use Rattle.definition.specs.declared.Weighing.{Weighing}

-- what load answers and its answer put together
abbrev pub load_of : Answer → Loaded → LoadAnswer
load_of a l = record { answer = a; counts = l.counts; used = l.used; form = l.form }

-- ---- the answer words: 0 and 1 the details, then what else the call answers, counts first

-- a detail as a word: 64 bits in two's complement
unfoldable pub word : ℤ → ℕ
word (pos n) = n
word (negsuc n) = 18446744073709551615 - n

-- words 0 and 1: both details, 0 where the call is accepted
unfoldable pub details : Answer → List ℕ
details a = word (answer_numbers a).1 ∷ word (answer_numbers a).2 ∷ []

-- words 2 to 5: nodes, references, bytes, root
unfoldable pub count_words : Counts → List ℕ
count_words c = c.nodes ∷ c.references ∷ c.bytes ∷ c.root ∷ []

-- a yes or no as a word
unfoldable pub flag : Bool → ℕ
flag true = 1
flag false = 0

-- load: then the bytes used, and whether dump writes just these
unfoldable pub loaded_words : LoadAnswer → List ℕ
loaded_words r = details r.answer ++ count_words r.counts ++ (r.used ∷ flag r.form ∷ [])

-- load_measured: load's words, then the bytes copied and the bytes compared
unfoldable pub measured_words : MeasuredAnswer → List ℕ
measured_words r = loaded_words r.load ++ (r.copied ∷ r.compared ∷ [])

-- load_hashed: load's words, then the words of the bucket table looked at
unfoldable pub hashed_words : HashedAnswer → List ℕ
hashed_words r = loaded_words r.load ++ (r.looked ∷ [])

-- dump: the bytes written
unfoldable pub dumped_words : DumpAnswer → List ℕ
dumped_words r = details r.answer ++ (r.written ∷ [])

-- new: the counts
unfoldable pub begun_words : NewAnswer → List ℕ
begun_words r = details r.answer ++ count_words r.counts

-- root and kind: the number
unfoldable pub number_words : NumberAnswer → List ℕ
number_words r = details r.answer ++ (r.value ∷ [])

-- get: the node's words
unfoldable pub node_words : WordsAnswer → List ℕ
node_words r = details r.answer ++ (get_or r.words 0 0 ∷ get_or r.words 1 0 ∷ get_or r.words 2 0 ∷ get_or r.words 3 0 ∷ get_or r.words 4 0 ∷ get_or r.words 5 0 ∷ get_or r.words 6 0 ∷ get_or r.words 7 0 ∷ [])

-- get_symbol: byte start and length
unfoldable pub name_words : NameAnswer → List ℕ
name_words r = details r.answer ++ (r.start ∷ r.length ∷ [])

-- create_*, replace_root and replace_class: the counts, then the new node, the old root or the old class word
unfoldable pub created_words : BuildAnswer → List ℕ
created_words r = details r.answer ++ count_words r.counts ++ (r.handle ∷ [])

-- what a node reads as, by a number
unfoldable pub reading_kind : Reading → ℕ
reading_kind NotANumber = 0
reading_kind (Whole n) = 1
reading_kind (Double x) = 2

-- the whole number as a word, 0 unless it is one
unfoldable pub reading_whole : Reading → ℕ
reading_whole NotANumber = 0
reading_whole (Whole n) = word n
reading_whole (Double x) = 0

-- reading: the reading's kind, and the whole number
unfoldable pub reading_words : ReadingAnswer → List ℕ
reading_words r = details r.answer ++ (reading_kind r.reading ∷ reading_whole r.reading ∷ [])

-- wet_weight: nothing else
unfoldable pub weighed_words : WeighedAnswer → List ℕ
weighed_words r = details r.answer

-- batch_cost: the cents
unfoldable pub costed_words : CostAnswer → List ℕ
costed_words r = details r.answer ++ (r.cents ∷ [])

-- ---- doubles, which stand in a slice of their own

-- the double that is read, positive zero unless it is one
unfoldable pub reading_double : Reading → Float
reading_double NotANumber = positive_zero
reading_double (Whole n) = positive_zero
reading_double (Double x) = x

-- wet_weight: dry, moisture, wet
unfoldable pub weighing_doubles : Weighing → List Float
weighing_doubles w = w.dry ∷ w.moisture ∷ w.wet ∷ []

-- ---- the reply

-- what is returned, the answer words, and everything else lent
pub record Reply (L : Type 0) : Type 0 where
  pub returned : ℕ
  pub words : List ℕ
  pub lent : L

-- the three put together
abbrev pub reply : {L : Type 0} → ℕ → List ℕ → L → Reply L
reply n words lent = record { returned = n; words = words; lent = lent }

-- the answer's number is returned, and its words ws stand first among the answer words; those past them stay as they were. Where fewer are lent than ws has, 1 (BAD-TABLES) is returned, and nothing is touched
unfoldable pub tell : {L : Type 0} → Answer → List ℕ → List ℕ → L → L → Reply L
tell a ws words before after = pick (leb (length ws) (length words)) (reply (answer_numbers a).0 (sets words 0 ws) after) (reply 1 words before)

-- load's call over the answer words; T is what was lent
unfoldable pub tell_load : LoadCall → Lists → List ℕ → Reply Lists
tell_load k T words = tell k.answer.answer (loaded_words k.answer) words T k.lent

-- load_measured's
unfoldable pub tell_measured : MeasuredCall → Lists → List ℕ → Reply Lists
tell_measured k T words = tell k.answer.load.answer (measured_words k.answer) words T k.lent

-- load_hashed's; lent is the bucket table too
unfoldable pub tell_hashed : HashedCall → Lists → List ℕ → List ℕ → Reply (Lists × List ℕ)
tell_hashed k T buckets words = tell k.answer.load.answer (hashed_words k.answer) words (T, buckets) (k.lent, k.buckets)

-- dump's; lent are scratch and output
unfoldable pub tell_dump : DumpCall → List ℕ → List ℕ → List ℕ → Reply (List ℕ × List ℕ)
tell_dump k scratch output words = tell k.answer.answer (dumped_words k.answer) words (scratch, output) (k.scratch, k.output)

-- new's, and a builder's
unfoldable pub tell_new : NewCall → Tables → List ℕ → Reply Tables
tell_new k T words = tell k.answer.answer (begun_words k.answer) words T k.tables

unfoldable pub tell_build : BuildCall → Tables → List ℕ → Reply Tables
tell_build k T words = tell k.answer.answer (created_words k.answer) words T k.tables

-- a getter's, which changes nothing else
unfoldable pub tell_number : NumberAnswer → List ℕ → Reply (Unit {0})
tell_number r words = tell r.answer (number_words r) words tt tt

unfoldable pub tell_words : WordsAnswer → List ℕ → Reply (Unit {0})
tell_words r words = tell r.answer (node_words r) words tt tt

unfoldable pub tell_name : NameAnswer → List ℕ → Reply (Unit {0})
tell_name r words = tell r.answer (name_words r) words tt tt

unfoldable pub tell_costed : CostAnswer → List ℕ → Reply (Unit {0})
tell_costed r words = tell r.answer (costed_words r) words tt tt

-- a call's that answers doubles: ds stand first among those lent, and the rest stay as they were. Where fewer are lent than ds has, 1 is returned too, and nothing is touched
unfoldable pub tell_doubles : Answer → List ℕ → List Float → List Float → List ℕ → Reply (List Float)
tell_doubles a ws ds doubles words = pick (leb (length ds) (length doubles)) (tell a ws words doubles (sets doubles 0 ds)) (reply 1 words doubles)

unfoldable pub tell_reading : ReadingAnswer → List Float → List ℕ → Reply (List Float)
tell_reading r doubles words = tell_doubles r.answer (reading_words r) (reading_double r.reading ∷ []) doubles words

unfoldable pub tell_weighed : WeighedAnswer → List Float → List ℕ → Reply (List Float)
tell_weighed r doubles words = tell_doubles r.answer (weighed_words r) (weighing_doubles r.weighing) doubles words
