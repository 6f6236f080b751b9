-- The proof of reading.
use mathlib.Core.List.{[], ◌∷◌}
use Rattle.definition.specs.Build.{lent}
use Rattle.lists.specs.Runs.{err_is}
use Rattle.well_formed.specs.Checks.{was_checked}
use Rattle.weight.proofs.Rows.{is_inside, has_it}
use Rattle.weight.proofs.Steps.{reading_is, reading_not}
use Rattle.weight.proofs.reading.Goals as goal

pub returns-in_err-begin_handle : goal.returns-in_err-begin_handle
returns-in_err-begin_handle c =
    let a = c.args in
    let L = lent a.nodes.now a.references.now a.bytes.now a.counts in
    rw (err_is c.from_residual.result c.from_residual.ensures.1) (reading_not L a.h _ c.in_err-begin_handle.ensures.says)

pub read_node-requires : goal.read_node-requires
read_node-requires c =
    let a = c.args in
    let L = lent a.nodes.now a.references.now a.bytes.now a.counts in
    let e = c.in_ok-begin_handle.ensures in
    is_inside L a.h (was_checked (a.h ∷ []) L e.says) e.fits_if.1

pub returns : goal.returns
returns c =
    let a = c.args in
    let L = lent a.nodes.now a.references.now a.bytes.now a.counts in
    let e = c.in_ok-begin_handle.ensures in
    reading_is L a.nodes.now a.bytes.now a.counts.bytes a.h (has_it L a.h (was_checked (a.h ∷ []) L e.says) e.fits_if.1) c.read_node.ensures e.says
