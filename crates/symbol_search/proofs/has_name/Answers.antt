-- The proof of has_name.
use Rattle.symbol_search.proofs.has_name.Goals as goal

pub returns-then-not-is_like : goal.returns-then-not-is_like
returns-then-not-is_like c =
    λ room s re sy ob k y H. c.is_like.ensures.false_value room s _ re sy ob k _ c.if-not-is_like.true y H c.requires.2

pub is_named-requires : goal.is_named-requires
is_named-requires c =
    let p = c.requires in (p.0, p.1, (c.is_like.ensures.like c.if-not-is_like.false).0, p.3)
