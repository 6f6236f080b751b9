-- The proof of replace_root.
use mathlib.Core.List.{[], ◌∷◌}
use Rattle.definition.specs.Build.{lent, handles_checked, exchange_root}
use Rattle.value_arena.proofs.Building.{root_set, build_stop}
use Rattle.value_arena.proofs.replace_root.Goals as goal

pub returns : goal.returns
returns c =
    let a = c.args in
    let L = lent a.nodes.now a.references.now a.bytes.now a.counts in
    root_set L a.h c.in_ok-begin_handle.ensures.says

pub returns-in_err-begin_handle : goal.returns-in_err-begin_handle
unfolding exchange_root
returns-in_err-begin_handle c =
    let a = c.args in
    let L = lent a.nodes.now a.references.now a.bytes.now a.counts in
    build_stop (handles_checked (a.h ∷ [])) _ L _ c.from_residual.ensures.1 c.in_err-begin_handle.ensures.says
