-- The proof of number_object.
use native.Mathlib.Omega.{arith}
use Rattle.writer.specs.Laws.{then}
use Rattle.writer.proofs.Steps.{number_fits}
use Rattle.object_writer.specs.Laws.{head_stop, head_after}
use Rattle.object_writer.proofs.Objects.{object_numbered, object_linked}
use Rattle.object_writer.proofs.number_object.Goals as goal

pub overflow_add-number : goal.overflow_add-number
overflow_add-number c = omega (arith, number_fits c.requires.holds c.args.v c.requires.fact.below c.if-seen-eq0.true)

pub overflow_cast-scratch : goal.overflow_cast-scratch
overflow_cast-scratch c = omega (arith, number_fits c.requires.holds c.args.v c.requires.fact.below c.if-seen-eq0.true)

pub returns-then-seen-eq0 : goal.returns-then-seen-eq0
returns-then-seen-eq0 c = λ A room limit o rest. record { heads = object_numbered c.args.v rest o c.if-seen-eq0.true }

pub returns-in_err-write_tagged : goal.returns-in_err-write_tagged
returns-in_err-write_tagged c = λ A room limit o rest. head_after (object_linked c.args.v rest o c.if-seen-eq0.false) (head_stop _ c.from_residual.ensures (c.in_err-write_tagged.ensures A room limit _).leads)

pub returns : goal.returns
returns c = λ A room limit o rest. record { heads = then (object_linked c.args.v rest o c.if-seen-eq0.false) (c.in_ok-write_tagged.ensures A room limit _).leads }
