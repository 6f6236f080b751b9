-- The proof of read_symbol_link.
use native.Mathlib.Omega.{arith}
use Rattle.definition.specs.Load.{read_symbol_link, read_count}
use Rattle.definition.specs.declared.Refusal.TheVariants.{MissingSymbol}
use Rattle.lists.specs.Runs.{err_is}
use Rattle.load_state.specs.Laws.{held, lead_first, lead_after, lead_stop}
use Rattle.symbol_reader.proofs.Entries.{linked, unlinked, symbols_listed}
use Rattle.load_state.specs.Needs.{symbol_below}
use Rattle.symbol_reader.proofs.read_symbol_link.Goals as goal

pub returns-in_err-n : goal.returns-in_err-n
unfolding read_symbol_link
returns-in_err-n c =
    rw (err_is c.from_residual.result c.from_residual.ensures.1) (record { meets = λ room limit a b d e f. lead_stop (lead_first _ (c.in_err-n.ensures.meets room limit _)); upper_bound = tt })

pub returns-then-c-n : goal.returns-then-c-n
unfolding read_symbol_link
returns-then-c-n c =
    record { meets = λ room limit a b d e f. lead_after (lead_first _ (c.in_ok-n.ensures.meets room limit _)).led (unlinked _ (λ s. s.symbols) _ (MissingSymbol _) symbols_listed c.if-c-n.true (c.missing_symbol.ensures limit)); upper_bound = tt }

pub bounds-symbols-n : goal.bounds-symbols-n
bounds-symbols-n c =
    let H = held {m = λ room. read_count _} {m' = λ room. _} c.requires.5 (λ room. c.in_ok-n.ensures.meets room 0 _) in
    omega (arith, H.holds.counted.count_symbols, H.holds.laid.symbols.fits, H.holds.laid.symbols.sized, c.if-c-n.false)

pub returns : goal.returns
unfolding read_symbol_link
returns c =
    let H = held {m = λ room. read_count _} {m' = λ room. _} c.requires.5 (λ room. c.in_ok-n.ensures.meets room 0 _) in
    record { meets = λ room limit a b d e f. lead_after (lead_first _ (c.in_ok-n.ensures.meets room limit _)).led (linked _ (λ s. s.symbols) _ (MissingSymbol _) symbols_listed c.if-c-n.false); upper_bound = (symbol_below H c.if-c-n.false, omega arith) }
