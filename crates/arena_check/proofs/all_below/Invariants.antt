-- What lasts in the loop of all_below.
use mathlib.Core.Path.{◌≡◌}
use lib.ListN.{drop}
use Rattle.definition.specs.Arena.{all_below}
use Rattle.arena_check.proofs.all_below.Given as goal

abbrev pub invariant-loop-m : goal.invariant-loop-m
invariant-loop-m l =
    all_below l.count l.references ≡ all_below l.count (drop l.m-index l.references)
