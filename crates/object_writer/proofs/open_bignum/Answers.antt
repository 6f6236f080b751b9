-- The proof of open_bignum.
use mathlib.Core.Path.{ap}
use Rattle.definition.specs.Dump.{write_object_or_link}
use Rattle.definition.specs.Kind.{BIGNUM}
use Rattle.writer.specs.Laws.{ready_as}
use Rattle.object_writer.specs.Laws.{head_as, head_goes, head_whole, head_stop}
use Rattle.object_writer.proofs.Openings.{byte_then, next_stops, next_done}
use Rattle.object_writer.proofs.open_bignum.Goals as goal

pub number_object-requires : goal.number_object-requires
number_object-requires c = ready_as (λ A f. f.1) c.requires

pub returns-in_err-number_object : goal.returns-in_err-number_object
returns-in_err-number_object c = λ A room limit o rest. head_stop _ c.from_residual.ensures (c.in_err-number_object.ensures A room limit o _).heads

pub returns-in-Whole : goal.returns-in-Whole
returns-in-Whole c = λ A room limit o rest. record { heads = head_whole c.in-Whole.is (c.in_ok-number_object.ensures A room limit o _) }

pub returns-in_err-write_byte : goal.returns-in_err-write_byte
returns-in_err-write_byte c = λ A room limit o rest. head_as (ap (write_object_or_link room c.args.v) (byte_then room BIGNUM _ rest)) (next_stops _ (head_goes c.in_default.not-Whole (c.in_ok-number_object.ensures A room limit o _)) c.from_residual-in_err-write_byte.ensures (c.in_err-write_byte.ensures A room limit _))

pub returns-in_err-write_bignum : goal.returns-in_err-write_bignum
returns-in_err-write_bignum c = λ A room limit o rest. head_as (ap (write_object_or_link room c.args.v) (byte_then room BIGNUM _ rest)) (next_stops _ (next_done _ (head_goes c.in_default.not-Whole (c.in_ok-number_object.ensures A room limit o _)) (c.in_ok-write_byte.ensures A room limit _)) c.from_residual-in_err-write_bignum.ensures (c.in_err-write_bignum.ensures A room limit _))

pub returns : goal.returns
returns c = λ A room limit o rest. head_as (ap (write_object_or_link room c.args.v) (byte_then room BIGNUM _ rest)) (record { heads = next_done rest (next_done _ (head_goes c.in_default.not-Whole (c.in_ok-number_object.ensures A room limit o _)) (c.in_ok-write_byte.ensures A room limit _)) (c.in_ok-write_bignum.ensures A room limit _) })
