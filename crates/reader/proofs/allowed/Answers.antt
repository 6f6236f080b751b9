-- The proof of allowed.
use mathlib.Core.Path.{refl}
use borrow.Author.Tests.{lt-ltb, le-ltb}
use Rattle.definition.specs.Arena.{too_long}
use Rattle.reader.proofs.allowed.Goals as goal

pub returns-then-input-gt-GREATEST : goal.returns-then-input-gt-GREATEST
unfolding too_long
returns-then-input-gt-GREATEST c = (lt-ltb _ _ c.if-input-gt-GREATEST.true, refl)

pub returns : goal.returns
unfolding too_long
returns c = le-ltb _ _ c.if-input-gt-GREATEST.false
