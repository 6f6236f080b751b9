-- The proof of read_count.
use native.Mathlib.Omega.{arith}
use borrow.Author.Tests.{lt-ltb, le-ltb}
use Rattle.definition.specs.Run.{pick}
use Rattle.definition.specs.Load.{read_count}
use Rattle.definition.specs.declared.Refusal.TheVariants.{NegativeCount}
use Rattle.lists.specs.Runs.{err_is}
use Rattle.load_state.specs.Laws.{lead_first, lead_after, lead_stop, lead_as, gives, refuses}
use Rattle.input_reader.proofs.Input.{integer_one}
use Rattle.input_reader.proofs.read_count.Goals as goal

pub returns-then-n-lt123 : goal.returns-then-n-lt123
unfolding read_count pick
returns-then-n-lt123 c =
    let c-small = c.small-n in
    let v = c-small.ensures.b_value c.if-n-lt123.true in record {
      meets = λ room limit T.
          lead_after (lead_first _ (integer_one {limit = limit} c-small.result c.if-at-input.true v.0 v.1 (omega arith))).led
          (lead_as (simp (lt-ltb c-small.result 2147483648 (omega arith))) (gives _));
      upper_bound = omega arith;
    }

pub returns-in_err-n : goal.returns-in_err-n
unfolding read_count
returns-in_err-n c =
    rw (err_is c.from_residual.result c.from_residual.ensures.1) (record { meets = λ room limit T. lead_stop (lead_first _ (c.in_err-n.ensures.meets room limit T)); upper_bound = tt })

pub returns-then-n-lt2147483648 : goal.returns-then-n-lt2147483648
unfolding read_count pick
returns-then-n-lt2147483648 c =
    let l = c.if-n-lt2147483648.true in record {
      meets = λ room limit T.
          lead_after (lead_first _ (c.in_ok-n.ensures.meets room limit T)).led
          (lead_as (simp (lt-ltb _ _ l)) (gives _));
      upper_bound = l;
    }

pub returns : goal.returns
unfolding read_count pick
returns c =
    record {
      meets = λ room limit T.
          lead_after (lead_first _ (c.in_ok-n.ensures.meets room limit T)).led
          (lead_as (simp (le-ltb _ _ c.if-n-lt2147483648.false)) (refuses (NegativeCount _) (c.negative_count.ensures limit)));
      upper_bound = tt;
    }
