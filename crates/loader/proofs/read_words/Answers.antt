-- The proof of read_words.
use native.Mathlib.Omega.{arith}
use Prim.Native.Nat.{ℕ, ◌+◌, ◌-◌, ◌*◌}
use mathlib.Core.Path.{◌≡◌, ap}
use Rattle.definition.specs.Load.{read_count, counted}
use Rattle.lists.specs.Runs.{err_is}
use Rattle.load_state.specs.Holds.{lent}
use Rattle.load_state.specs.Laws.{held, lead_first, lead_after, lead_stop, goes_first, goes_to, given}
use Rattle.load_state.specs.Needs.{twice_at_most}
use Rattle.table_writer.proofs.Added.{words_reserved, words_short}
use Rattle.loader.proofs.read_words.Goals as goal

pub returns-in_err-n : goal.returns-in_err-n
unfolding counted
returns-in_err-n c =
    rw (err_is c.from_residual.result c.from_residual.ensures.1) (record { leads = λ room limit no by sy ob k. lead_stop (lead_first _ (c.in_err-n.ensures.meets room limit _)); upper_bound = tt })

pub overflow_mul-k : goal.overflow_mul-k
overflow_mul-k c =
    record { fits = twice_at_most _ _ c.in_ok-n.ensures.upper_bound c.requires.0 }

pub overflow_sub-references : goal.overflow_sub-references
overflow_sub-references c =
    let H = held {m = λ room. read_count _} {m' = λ room. _} c.requires.1.4 (λ room. c.in_ok-n.ensures.meets room 0 _) in
    omega (arith, H.holds.counted.count_references, H.holds.laid.references.fits, H.holds.laid.references.sized)

pub returns-then-references-at : goal.returns-then-references-at
unfolding counted
returns-then-references-at c =
    record { leads = λ room limit no by sy ob k. lead_after (lead_first _ (c.in_ok-n.ensures.meets room limit _)).led (lead_stop {T' = lent no c.args.references.now by sy ob} {c' = c.read_count.new.c} (lead_first _ (words_short _ c.if-references-at.true))); upper_bound = tt }

pub fill_range-requires : goal.fill_range-requires
fill_range-requires c =
    let H = held {m = λ room. read_count _} {m' = λ room. _} c.requires.1.4 (λ room. c.in_ok-n.ensures.meets room 0 _) in
    omega (arith, H.holds.counted.count_references, H.holds.laid.references.fits, H.holds.laid.references.sized, c.if-references-at.false)

pub overflow_add-c : goal.overflow_add-c
overflow_add-c c =
    let H = held {m = λ room. read_count _} {m' = λ room. _} c.requires.1.4 (λ room. c.in_ok-n.ensures.meets room 0 _) in
    record { fits = omega (arith, H.holds.fixed.small, H.holds.counted.count_references, H.holds.laid.references.fits, H.holds.laid.references.sized, c.if-references-at.false) }

pub returns : goal.returns
unfolding counted
returns c =
    let k' = c.in_ok-n.ensures in
    let n = c.in_ok-n.n in
    let w = n * c.args.each in
    let at = c.read_count.new.c.references in
    let start : at ≡ at + w - w = omega arith in record {
      leads = λ room limit no by sy ob k.
          lead_after (lead_first _ (k'.meets room limit _)).led
          (given (goes_to (ap (λ (x : ℕ). k x n) start) (goes_first (λ x. k x n) (words_reserved w c.if-references-at.false c.fill_range.ensures))));
      upper_bound = (k'.upper_bound, omega arith);
    }
