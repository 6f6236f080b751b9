-- The proof of get_symbol.
use mathlib.Core.Path.{refl}
use Rattle.definition.specs.Build.{lent}
use Rattle.lists.specs.Runs.{err_is}
use Rattle.value_arena.proofs.Getters.{inside, name_ok, name_no, name_stop}
use Rattle.value_arena.proofs.get_symbol.Goals as goal

pub returns : goal.returns
returns c =
    let a = c.args in
    let L = lent a.nodes.now a.references.now a.bytes.now a.counts in
    let begun = c.in_ok-begin_handle.ensures in
    name_ok L a.h (inside begun.fits_if.0 begun.fits_if.1) begun.says (c.in_ok-check_name.ensures L refl refl)

pub returns-in_err-check_name : goal.returns-in_err-check_name
returns-in_err-check_name c =
    let a = c.args in
    let L = lent a.nodes.now a.references.now a.bytes.now a.counts in
    rw (err_is c.from_residual-in_err-check_name.result c.from_residual-in_err-check_name.ensures.1) (name_no L a.h _ c.in_ok-begin_handle.ensures.says (c.in_err-check_name.ensures L refl refl))

pub returns-in_err-begin_handle : goal.returns-in_err-begin_handle
returns-in_err-begin_handle c =
    let a = c.args in
    let L = lent a.nodes.now a.references.now a.bytes.now a.counts in
    rw (err_is c.from_residual.result c.from_residual.ensures.1) (name_stop L a.h _ c.in_err-begin_handle.ensures.says)
