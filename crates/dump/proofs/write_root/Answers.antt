-- The proof of write_root.
use Rattle.writer.specs.Laws.{ready}
use Rattle.dump.proofs.Whole.{no_first, no_second, wholly}
use Rattle.dump.proofs.write_root.Goals as goal

pub returns-in_err-write_byte : goal.returns-in_err-write_byte
returns-in_err-write_byte c = λ A room l li b e. no_first c.from_residual.ensures (c.in_err-write_byte.ensures A room _ _)

pub returns-in_err-write_byte-2 : goal.returns-in_err-write_byte-2
returns-in_err-write_byte-2 c = λ A room l li b e. no_second (c.in_ok-write_byte.ensures A room _ _) c.from_residual-in_err-write_byte-2.ensures (c.in_err-write_byte-2.ensures A room _ _)

pub write_value-requires : goal.write_value-requires
write_value-requires c = ready _ _ (ready _ _ c.requires (λ A room f. c.in_ok-write_byte.ensures A room 0 _)) (λ A room f. c.in_ok-write_byte-2.ensures A room 0 _)

pub returns : goal.returns
returns c = λ A room l li b e. wholly (c.in_ok-write_byte.ensures A room _ _) (c.in_ok-write_byte-2.ensures A room _ _) e (c.write_value.ensures A room c.args.limit l li b)
