-- The proof of kind.
use Rattle.definition.specs.Build.{lent}
use Rattle.lists.specs.Runs.{err_is}
use Rattle.value_arena.proofs.Getters.{inside, kind_ok, kind_no}
use Rattle.value_arena.proofs.kind.Goals as goal

pub returns : goal.returns
returns c =
    let a = c.args in
    let L = lent a.nodes.now a.references.now a.bytes.now a.counts in
    let begun = c.in_ok-begin_handle.ensures in
    kind_ok L a.h (inside begun.fits_if.0 begun.fits_if.1) begun.says

pub returns-in_err-begin_handle : goal.returns-in_err-begin_handle
returns-in_err-begin_handle c =
    let a = c.args in
    let L = lent a.nodes.now a.references.now a.bytes.now a.counts in
    rw (err_is c.from_residual.result c.from_residual.ensures.1) (kind_no L a.h _ c.in_err-begin_handle.ensures.says)
