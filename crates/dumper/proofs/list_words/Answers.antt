-- The proof of list_words.
use mathlib.Core.Path.{refl}
use Rattle.dumper.proofs.Heads.{listed_array, listed_pairs}
use Rattle.dumper.proofs.list_words.Goals as goal

pub returns-then-k-eq-ARRAY : goal.returns-then-k-eq-ARRAY
returns-then-k-eq-ARRAY c =
    listed_array _ _ _ c.if-k-eq-ARRAY.true refl

pub returns-else-k-eq-ARRAY : goal.returns-else-k-eq-ARRAY
returns-else-k-eq-ARRAY c =
    listed_pairs _ _ _ c.if-k-eq-ARRAY.false refl
