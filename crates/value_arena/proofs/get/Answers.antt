-- The proof of get.
use Rattle.definition.specs.Build.{lent}
use Rattle.lists.specs.Runs.{err_is}
use Rattle.value_arena.proofs.Getters.{get_all, get_none}
use Rattle.value_arena.proofs.get.Goals as goal

pub returns : goal.returns
returns c =
    let a = c.args in
    let L = lent a.nodes.now a.references.now a.bytes.now a.counts in
    get_all L a.h _ c.copy_from_slice.ensures.after c.in_ok-begin_handle.ensures.says

pub returns-in_err-begin_handle : goal.returns-in_err-begin_handle
returns-in_err-begin_handle c =
    let a = c.args in
    let L = lent a.nodes.now a.references.now a.bytes.now a.counts in
    rw (err_is c.from_residual.result c.from_residual.ensures.1) (get_none L a.h _ c.in_err-begin_handle.ensures.says)
