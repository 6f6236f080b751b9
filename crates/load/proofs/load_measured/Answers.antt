-- The proof of load_measured.
use mathlib.Core.Path.{refl}
use mathlib.Core.Logic.{inl}
use Rattle.lists.specs.Runs.{err_is}
use Rattle.load.proofs.load_measured.Goals as goal

pub load_whole-requires : goal.load_whole-requires
load_whole-requires c = (refl, inl (refl, refl))

pub returns-in_err-w : goal.returns-in_err-w
returns-in_err-w c =
    rw (err_is c.from_residual.result c.from_residual.ensures.1) (c.in_err-w.ensures.objects_after_2 refl refl)

pub returns : goal.returns
returns c =
    c.in_ok-w.ensures.objects_after_2 refl refl
