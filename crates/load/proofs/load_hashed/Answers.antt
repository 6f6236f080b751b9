-- The proof of load_hashed.
use mathlib.Core.Path.{refl}
use mathlib.Core.Logic.{inr}
use Rattle.lists.specs.Runs.{err_is}
use Rattle.load.proofs.load_hashed.Goals as goal

pub load_whole-requires : goal.load_whole-requires
load_whole-requires c =
    (tt, inr (refl, c.wrong_buckets-wrong.ensures))

pub returns-in_err-w : goal.returns-in_err-w
returns-in_err-w c =
    rw (err_is c.from_residual.result c.from_residual.ensures.1) (c.in_err-w.ensures.buckets_after c.wrong_buckets-wrong.ensures)

pub returns : goal.returns
returns c =
    c.in_ok-w.ensures.buckets_after c.wrong_buckets-wrong.ensures
