-- The proof of open_list.
use Rattle.object_writer.specs.Laws.{head_goes, head_whole, head_stop}
use Rattle.object_writer.proofs.Openings.{next_stops, next_done}
use Rattle.object_writer.proofs.open_list.Goals as goal

pub returns-in_err-number_object : goal.returns-in_err-number_object
returns-in_err-number_object c = λ A room limit o rest. head_stop _ c.from_residual.ensures (c.in_err-number_object.ensures A room limit o _).heads

pub returns-in-Whole : goal.returns-in-Whole
returns-in-Whole c = λ A room limit o rest. record { heads = head_whole c.in-Whole.is (c.in_ok-number_object.ensures A room limit o _) }

pub returns-in_err-write_tagged : goal.returns-in_err-write_tagged
returns-in_err-write_tagged c = λ A room limit o rest. next_stops _ (head_goes c.in_default.not-Whole (c.in_ok-number_object.ensures A room limit o _)) c.from_residual-in_err-write_tagged.ensures (c.in_err-write_tagged.ensures A room limit _)

pub returns : goal.returns
returns c = λ A room limit o rest. record { heads = next_done rest (head_goes c.in_default.not-Whole (c.in_ok-number_object.ensures A room limit o _)) (c.in_ok-write_tagged.ensures A room limit _) }
