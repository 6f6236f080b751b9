-- The proof of last_byte.
use Rattle.symbol_search.proofs.Looked.{span_none, span_last}
use Rattle.symbol_search.proofs.last_byte.Goals as goal

pub returns-then-n-eq0 : goal.returns-then-n-eq0
returns-then-n-eq0 c =
    span_none c.args.input.now c.args.at c.args.n c.if-n-eq0.true

pub returns : goal.returns
returns c =
    span_last c.args.input.now c.args.at c.args.n c.if-n-eq0.false c.requires.0 c.requires.1
