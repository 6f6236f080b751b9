-- The proof of load_at.
use mathlib.Core.Path.{refl, ◌∙◌}
use mathlib.Core.Logic.{inl}
use Rattle.definition.specs.Load.{lists}
use Rattle.lists.specs.Runs.{err_is}
use Rattle.load.proofs.Whole.{loaded_at}
use Rattle.load.proofs.load_at.Goals as goal

pub load_whole-requires : goal.load_whole-requires
load_whole-requires c = (tt, inl (refl, refl))

pub returns-in_err-w : goal.returns-in_err-w
returns-in_err-w c =
    let a = c.args in
    rw (err_is c.from_residual.result c.from_residual.ensures.1) (c.in_err-w.ensures.objects_after refl ∙ loaded_at a.input.now a.at _ (lists a.nodes.now a.references.now a.bytes.now a.symbols.now a.objects.now) a.limit c.inside-from.ensures)

pub returns : goal.returns
returns c =
    let a = c.args in
    c.in_ok-w.ensures.objects_after refl ∙ loaded_at a.input.now a.at _ (lists a.nodes.now a.references.now a.bytes.now a.symbols.now a.objects.now) a.limit c.inside-from.ensures
