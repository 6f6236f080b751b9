-- The proof of sign_word.
use mathlib.Core.Path.{refl}
use borrow.Author.Tests.{ne_eqb}
use Rattle.definition.specs.Kind.{MINUS}
use Rattle.definition.specs.Magnitude.{sign}
use Rattle.leaf_reader.proofs.Bignums.{plus_words, minus_words, zero_plus}
use Rattle.leaf_reader.proofs.sign_word.Goals as goal

pub returns-then-b : goal.returns-then-b
unfolding sign
returns-then-b c = let a = c.args in plus_words a.b a.m (rw (ne_eqb a.b MINUS c.if-b.true) refl)

pub returns-then-m-eq0 : goal.returns-then-m-eq0
returns-then-m-eq0 c = let a = c.args in plus_words a.b a.m (zero_plus a.b a.m c.if-m-eq0.true)

pub returns : goal.returns
unfolding sign
returns c =
    let a = c.args in
    let e = c.if-b.false in
    minus_words a.b a.m (rw (e, ne_eqb a.m 0 c.if-m-eq0.false) refl)
