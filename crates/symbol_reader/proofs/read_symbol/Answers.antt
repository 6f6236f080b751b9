-- The proof of read_symbol.
use native.Mathlib.Omega.{arith}
use mathlib.Core.Path.{refl}
use Rattle.definition.specs.Load.{read_symbol, read_byte_string}
use Rattle.lists.specs.Runs.{err_is}
use Rattle.symbol_reader.specs.Parts.{read_name}
use Rattle.load_state.specs.Laws.{held, held_goes, lead_part, lead_after, lead_stop}
use Rattle.symbol_reader.proofs.Hashed.{without_words, forget_held}
use Rattle.symbol_reader.proofs.Names.{known_there}
use Rattle.symbol_reader.proofs.read_symbol.Goals as goal

pub returns-in_err-n : goal.returns-in_err-n
unfolding read_symbol
returns-in_err-n c =
    rw (err_is c.from_residual.result c.from_residual.ensures.1) (record { meets = λ room limit re ob. lead_stop (lead_part _ (c.in_err-n.ensures.leads room limit _)); upper_bound = tt })

pub read_hashed-requires : goal.read_hashed-requires
read_hashed-requires c =
    let H = held {m = λ room. read_byte_string _} {m' = λ room. _} c.requires.2 (λ room. c.in_ok-n.ensures.leads room 0 _) in
    (c.in_ok-n.ensures.result_in_bounds.0, λ e. omega (arith, e, c.if-buckets-gt0.true), (_, _, H))

pub returns-then-buckets-gt0 : goal.returns-then-buckets-gt0
unfolding read_symbol
returns-then-buckets-gt0 c =
    record { meets = λ room limit re ob. lead_after (lead_part _ (c.in_ok-n.ensures.leads room limit _)).led (c.read_hashed.ensures.meets room limit re ob); upper_bound = c.read_hashed.ensures.upper_bound }

pub search_symbol-known-requires : goal.search_symbol-known-requires
search_symbol-known-requires c =
    let H = held {m = λ room. read_byte_string _} {m' = λ room. _} c.requires.2 (λ room. c.in_ok-n.ensures.leads room 0 _) in
    (c.in_ok-n.ensures.result_in_bounds.0, (_, _, forget_held H))

pub intern_symbol-requires : goal.intern_symbol-requires
intern_symbol-requires c =
    let H = held {m = λ room. read_byte_string _} {m' = λ room. _} c.requires.2 (λ room. c.in_ok-n.ensures.leads room 0 _) in
    let found = c.search_symbol-known in
    let G = held_goes {m = λ room. read_name _ room _} {m' = λ room. _} (forget_held H) (λ room. found.ensures.goes room _ _) in
    let n = found.ensures.n_bound in
    (n.0, n.1, known_there found.result (found.ensures.symbolic G.room G.state _ _ _ refl G.holds) G.holds, (_, _, G))

pub returns : goal.returns
unfolding read_symbol
returns c =
    let found = c.search_symbol-known.ensures in record {
      meets = λ room limit re ob.
          lead_after (lead_part _ (c.in_ok-n.ensures.leads room limit _)).led
          (without_words c.args.buckets.now (omega (arith, c.if-buckets-gt0.false))
          (lead_after (found.goes room re ob) (c.intern_symbol.ensures.meets room limit re ob (λ s m z G. found.symbolic room s re ob m z G))));
      upper_bound = c.intern_symbol.ensures.upper_bound;
    }
