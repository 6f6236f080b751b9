-- The proof of write_bignum.
use mathlib.Core.Path.{ap}
use Rattle.definition.specs.Dump.{write}
use Rattle.writer.specs.Laws.{lead_as, part_stop, part_after}
use Rattle.writer.proofs.Integers.{number_parts}
use Rattle.writer.proofs.write_bignum.Goals as goal

pub returns-in_err-write_tagged : goal.returns-in_err-write_tagged
returns-in_err-write_tagged c =
    let e = number_parts c.args.minus c.magnitude_of-m.ensures c.fewest_units-n.ensures.value c.sign_byte.ensures in
    λ A room limit sc. lead_as (ap (write room) e) (part_stop _ _ c.from_residual.ensures (c.in_err-write_tagged.ensures A room limit sc))

pub returns : goal.returns
returns c =
    let e = number_parts c.args.minus c.magnitude_of-m.ensures c.fewest_units-n.ensures.value c.sign_byte.ensures in
    λ A room limit sc. lead_as (ap (write room) e) (part_after _ _ (c.in_ok-write_tagged.ensures A room limit sc) (c.write_units.ensures A room limit sc))
