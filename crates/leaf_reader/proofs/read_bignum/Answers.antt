-- The proof of read_bignum.
use Rattle.definition.specs.Load.{read_bignum, read_sign}
use Rattle.leaf_reader.specs.Parts.{read_number}
use Rattle.lists.specs.Runs.{err_is}
use Rattle.load_state.specs.Laws.{held, lead_first, lead_after, lead_stop}
use Rattle.leaf_reader.proofs.read_bignum.Goals as goal

pub returns-in_err-b : goal.returns-in_err-b
unfolding read_bignum
returns-in_err-b c = rw (err_is c.from_residual.result c.from_residual.ensures.1) (record { meets = λ room limit re by sy. lead_stop (lead_first _ (c.in_err-b.ensures.meets room limit _)); upper_bound = tt })

pub read_units-requires : goal.read_units-requires
read_units-requires c =
    let H = held {m = λ room. read_sign _} {m' = λ room. _} c.requires.3 (λ room. c.in_ok-b.ensures.meets room 0 _) in
    record { tables = _; held = H }

pub returns-in_err-n : goal.returns-in_err-n
unfolding read_bignum
returns-in_err-n c =
    rw (err_is c.from_residual-in_err-n.result c.from_residual-in_err-n.ensures.1) (record { meets = λ room limit re by sy. lead_after (lead_first _ (c.in_ok-b.ensures.meets room limit _)).led (lead_stop (c.in_err-n.ensures.leads room limit _ _)); upper_bound = tt })

pub read_magnitude-requires : goal.read_magnitude-requires
read_magnitude-requires c =
    let b = c.in_ok-b.ensures in
    let n = c.in_ok-n.ensures in
    let H = held {m = λ room. read_sign _} {m' = λ room. _} c.requires.3 (λ room. b.meets room 0 _) in
    let G = held {m = λ room. read_number _ room 0} {m' = λ room. _} H (λ room. n.leads room 0 0 _) in
    (b.fact, n.upper_bound.0, n.upper_bound.1, (_, _, _, G))

pub returns : goal.returns
unfolding read_bignum
returns c =
    let m = c.read_magnitude.ensures in record {
      meets = λ room limit re by sy.
          lead_after (lead_first _ (c.in_ok-b.ensures.meets room limit _)).led
          (lead_after (c.in_ok-n.ensures.leads room limit _ _).led (m.meets room limit re by sy));
      upper_bound = m.upper_bound;
    }
