-- The proof of open_marked.
use Rattle.object_writer.specs.Laws.{deep, head_as, head_goes, head_whole, head_after, head_stop}
use Rattle.object_writer.proofs.Openings.{next_stops, next_done, no_mark, mark, mark_deep, mark_level}
use Rattle.object_writer.proofs.open_marked.Goals as goal

pub returns-in_err-number_object : goal.returns-in_err-number_object
returns-in_err-number_object c = λ A room limit o rest. head_stop _ c.from_residual.ensures (c.in_err-number_object.ensures A room limit o _).heads

pub returns-in-Whole : goal.returns-in-Whole
returns-in-Whole c = λ A room limit o rest. record { heads = head_whole c.in-Whole.is (c.in_ok-number_object.ensures A room limit o _) }

pub returns-then-f-eq0 : goal.returns-then-f-eq0
returns-then-f-eq0 c = λ A room limit o rest. head_as (no_mark room c.args.v limit c.args.levels c.args.f rest c.if-f-eq0.true) (record { heads = head_goes c.in_default.not-Whole (c.in_ok-number_object.ensures A room limit o _) })

pub returns-in_err-write_byte : goal.returns-in_err-write_byte
returns-in_err-write_byte c = λ A room limit o rest. head_as (mark room c.args.v limit c.args.levels c.args.f rest c.if-f-eq0.false) (next_stops _ (head_goes c.in_default.not-Whole (c.in_ok-number_object.ensures A room limit o _)) c.from_residual-in_err-write_byte.ensures (c.in_err-write_byte.ensures A room limit _))

pub returns-then-levels-eq0 : goal.returns-then-levels-eq0
returns-then-levels-eq0 c = λ A room limit o rest. head_as (mark_deep room c.args.v limit c.args.levels c.args.f rest c.if-f-eq0.false c.if-levels-eq0.true) (head_after (next_done _ (head_goes c.in_default.not-Whole (c.in_ok-number_object.ensures A room limit o _)) (c.in_ok-write_byte.ensures A room limit _)) (record { heads = deep limit rest }))

pub returns : goal.returns
returns c = λ A room limit o rest. head_as (mark_level room c.args.v limit c.args.levels c.args.f rest c.if-f-eq0.false c.if-levels-eq0.false) (record { heads = next_done rest (head_goes c.in_default.not-Whole (c.in_ok-number_object.ensures A room limit o _)) (c.in_ok-write_byte.ensures A room limit _) })
