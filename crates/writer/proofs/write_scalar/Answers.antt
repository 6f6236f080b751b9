-- The proof of write_scalar.
use Rattle.writer.specs.Laws.{lead_as, ready_as}
use Rattle.writer.proofs.Scalars.{fixnum_row, bool_row, symbol_here, symbol_row_here, nil_row, fixnum_same, nil_same, symbol_same, true_same, false_same}
use mathlib.Core.List.{[], ◌∷◌}
use mathlib.Core.Path.{sym, ap, ◌∙◌}
use Prim.Native.Nat.{ℕ}
use Rattle.definition.specs.Dump.{write}
use Rattle.writer.proofs.write_scalar.Goals.{then-nodes-v-eq1, else-nodes-v-eq1}
use Rattle.writer.proofs.write_scalar.Goals as goal

pub write_symbol-requires : goal.write_symbol-requires
write_symbol-requires c =
    let args = c.args in
    let kinds = c.in-3 in
    let pre = c.requires in
    ready_as (λ A p. (p.0, symbol_here p.0.noded args.v p.1 kinds.is)) pre

pub returns-in-2 : goal.returns-in-2
returns-in-2 c =
    let args = c.args in
    let kinds = c.in-2 in
    let write-tagged = c.write_tagged in
    let v = args.v in
    λ A room limit level inner l b h. lead_as (fixnum_same room A level inner v _ (fixnum_row l.noded v b kinds.is)) (write-tagged.ensures A room limit _)

pub returns-in-3 : goal.returns-in-3
returns-in-3 c =
    let args = c.args in
    let kinds = c.in-3 in
    let write_symbol = c.write_symbol in
    let v = args.v in
    λ A room limit level inner l b h. lead_as (symbol_same room A level inner v _ _ (symbol_row_here l.noded v b kinds.is)) (write_symbol.ensures A room limit l (symbol_here l.noded v b kinds.is))

pub returns-after-nodes-v-eq1 : goal.returns-after-nodes-v-eq1
returns-after-nodes-v-eq1 c =
    let v = c.args.v in
    λ A room limit level inner l b h.
    let row = bool_row l.noded v b c.in-1.is in
    elim c.if-nodes-v-eq1.branch [
      | then-nodes-v-eq1 w ↦ lead_as (true_same room A level inner v _ row w.if-nodes-v-eq1.true ∙ ap (λ (k : ℕ). write room (k ∷ [])) (sym w.k-is)) (c.write_byte.ensures A room limit _)
      | else-nodes-v-eq1 w ↦ lead_as (false_same room A level inner v _ row w.if-nodes-v-eq1.false ∙ ap (λ (k : ℕ). write room (k ∷ [])) (sym w.k-is)) (c.write_byte.ensures A room limit _)
    ]

pub returns-in_default : goal.returns-in_default
returns-in_default c =
    let args = c.args in
    let kinds = c.in_default.in_default-own in
    let write-byte2 = c.write_byte-in_default in
    let v = args.v in
    λ A room limit level inner l b h. lead_as (nil_same room A level inner v (nil_row l.noded v b kinds.rest.1 kinds.rest.0.0.1 kinds.rest.0.1 h)) (write-byte2.ensures A room limit _)
