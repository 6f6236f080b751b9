-- The proof of open_text.
use Rattle.definition.specs.Run.{pure}
use Rattle.writer.specs.Laws.{ready_as}
use Rattle.object_writer.specs.Laws.{head_goes, head_whole, head_stop, ready_head}
use Rattle.object_writer.proofs.Openings.{next_stops, next_done}
use Rattle.object_writer.proofs.open_text.Goals as goal

pub open_marked-requires : goal.open_marked-requires
open_marked-requires c = ready_as (λ A f. f.1) c.requires.1

pub returns-in_err-open_marked : goal.returns-in_err-open_marked
returns-in_err-open_marked c = λ A room limit l o w rest. head_stop _ c.from_residual.ensures (c.in_err-open_marked.ensures A room limit o _).heads

pub returns-in-Whole : goal.returns-in-Whole
returns-in-Whole c = λ A room limit l o w rest. record { heads = head_whole c.in-Whole.is (c.in_ok-open_marked.ensures A room limit o _) }

pub write_class-requires : goal.write_class-requires
write_class-requires c = ready_as (λ A f. (f.0, f.2)) (ready_head _ _ c.requires.1 c.in_default.not-Whole (λ A room f. c.in_ok-open_marked.ensures A room 0 f.1 (pure tt)))

pub returns-in_err-write_class : goal.returns-in_err-write_class
returns-in_err-write_class c = λ A room limit l o w rest. next_stops _ (head_goes c.in_default.not-Whole (c.in_ok-open_marked.ensures A room limit o _)) c.from_residual-in_err-write_class.ensures (c.in_err-write_class.ensures A room limit l w)

pub returns-in_err-write_text : goal.returns-in_err-write_text
returns-in_err-write_text c = λ A room limit l o w rest. next_stops _ (next_done _ (head_goes c.in_default.not-Whole (c.in_ok-open_marked.ensures A room limit o _)) (c.in_ok-write_class.ensures A room limit l w)) c.from_residual-in_err-write_text.ensures (c.in_err-write_text.ensures A room limit _)

pub returns : goal.returns
returns c = λ A room limit l o w rest. record { heads = next_done rest (next_done _ (head_goes c.in_default.not-Whole (c.in_ok-open_marked.ensures A room limit o _)) (c.in_ok-write_class.ensures A room limit l w)) (c.in_ok-write_text.ensures A room limit _) }
