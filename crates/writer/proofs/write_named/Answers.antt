-- The proof of write_named.
use Rattle.writer.specs.Laws.{goes_first, ready, lead_after, lead_first, lead_stop}
use Rattle.writer.proofs.write_named.Goals as goal

pub returns-in_err-write_byte : goal.returns-in_err-write_byte
returns-in_err-write_byte c = λ A room limit l s. lead_stop _ c.from_residual.ensures (lead_first _ (c.in_err-write_byte.ensures A room limit _)).leads

pub write_symbol-requires : goal.write_symbol-requires
write_symbol-requires c = ready _ _ c.requires (λ A room f. c.in_ok-write_byte.ensures A room 0 _)

pub returns : goal.returns
returns c = λ A room limit l s. lead_after (goes_first _ (c.in_ok-write_byte.ensures A room limit _).leads) (c.write_symbol.ensures A room limit l s)
