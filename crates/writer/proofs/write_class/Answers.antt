-- The proof of write_class.
use mathlib.Core.Path.{refl}
use Rattle.writer.specs.Laws.{still, went, lead_as, ready_as}
use Rattle.writer.proofs.Names.{no_class, class_named, class_symbol}
use Rattle.writer.proofs.write_class.Goals as goal

pub returns-then-class-eq0 : goal.returns-then-class-eq0
returns-then-class-eq0 c = λ A room limit l w. lead_as (no_class room A _ c.if-class-eq0.true) (went still)

pub write_named-requires : goal.write_named-requires
write_named-requires c = ready_as (λ A f. (f.0, class_symbol _ _ c.if-class-eq0.false refl A f.1)) c.requires

pub returns : goal.returns
returns c =
    let some = c.if-class-eq0.false in
    λ A room limit l w. lead_as (class_named _ _ some refl room A) (c.write_named.ensures A room limit l (class_symbol _ _ some refl A w))
