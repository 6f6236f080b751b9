-- The proof of integer_size.
use native.Mathlib.Omega.{arith}
use Rattle.reader.specs.Integers.{size_few, size_one, size_many}
use Rattle.reader.proofs.integer_size.Goals as goal

pub returns-then-b-le4 : goal.returns-then-b-le4
returns-then-b-le4 c =
    size_few _ c.if-b-le4.true

pub returns-then-b-le251 : goal.returns-then-b-le251
returns-then-b-le251 c =
    size_one _ c.if-b-le4.false c.if-b-le251.true

pub returns : goal.returns
returns c =
    size_many _ c.if-b-le251.false (omega arith)
