-- The proof of read_symbol_like.
use Rattle.definition.specs.Load.{read_byte}
use Rattle.load_state.specs.Laws.{held_goes, lead_after}
use Rattle.symbol_reader.proofs.Names.{like_symbol, like_link, like_neither, like_missing}
use Rattle.input_reader.proofs.Input.{byte_goes}
use Rattle.symbol_reader.proofs.read_symbol_like.Goals as goal

pub returns-then-input-at : goal.returns-then-input-at
returns-then-input-at c =
    record { meets = λ room limit re ob. like_missing c.if-input-at.true; upper_bound = tt }

pub read_symbol-requires : goal.read_symbol-requires
read_symbol-requires c =
    (_, _, held_goes {m = λ room. read_byte _} {m' = λ room. _} c.requires.2 (λ room. byte_goes c.if-input-at.false))

pub read_symbol_link-requires : goal.read_symbol_link-requires
read_symbol_link-requires c =
    (_, _, _, _, _, held_goes {m = λ room. read_byte _} {m' = λ room. _} c.requires.2 (λ room. byte_goes c.if-input-at.false))

pub returns-in-58 : goal.returns-in-58
returns-in-58 c =
    let r = c.read_symbol.ensures in
    record { meets = λ room limit re ob. lead_after (like_symbol c.if-input-at.false c.in-58.is) (r.meets room limit re ob); upper_bound = r.upper_bound }

pub returns-in-59 : goal.returns-in-59
returns-in-59 c =
    let r = c.read_symbol_link.ensures in
    record { meets = λ room limit re ob. lead_after (like_link c.if-input-at.false c.in-59.is) (r.meets room limit _ re _ ob _); upper_bound = r.upper_bound }

pub returns-in_default : goal.returns-in_default
returns-in_default c =
    let r = c.in_default.in_default-own.rest in
    record { meets = λ room limit re ob. like_neither c.if-input-at.false (c.not_a_symbol.ensures limit) r.0.1 r.1; upper_bound = tt }
