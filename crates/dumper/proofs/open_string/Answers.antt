-- The proof of open_string.
use native.Mathlib.Omega.{arith}
use Rattle.dumper.proofs.Bodies.{here, pairs_ready, some_variables, first_stops, first_whole, first_done, whole, variables_heads, variables_in, class_ready, string_inside, string_class, string_pairs, string_first}
use Rattle.dumper.proofs.open_string.Goals as goal

pub open_text-requires : goal.open_text-requires
open_text-requires c =
    let h = here c.args.nodes.now c.args.references.now c.args.bytes.now c.args.v c.args.levels in
    let f = c.requires.1.fact in
    (string_inside h c.requires.0 c.requires.1.arena f.0 f.2, class_ready h 7 c.requires.0 (omega arith) _ (omega arith) (string_class h c.requires.0) c.requires.1)

pub returns-in_err-open_text-clause-heads : goal.returns-in_err-open_text-clause-heads
returns-in_err-open_text-clause-heads c =
    let h = here c.args.nodes.now c.args.references.now c.args.bytes.now c.args.v c.args.levels in
    first_stops h 7 _ c.from_residual.ensures (string_first h c.requires.0 c.in_err-open_text.ensures)

pub returns-in-Whole-clause-heads : goal.returns-in-Whole-clause-heads
returns-in-Whole-clause-heads c =
    let h = here c.args.nodes.now c.args.references.now c.args.bytes.now c.args.v c.args.levels in
    first_whole h 7 _ (string_first h c.requires.0 c.in_ok-open_text.ensures) c.in-Whole.is

pub returns-then-f-eq0-clause-heads : goal.returns-then-f-eq0-clause-heads
returns-then-f-eq0-clause-heads c =
    let h = here c.args.nodes.now c.args.references.now c.args.bytes.now c.args.v c.args.levels in
    whole h 7 c.if-f-eq0.true (first_done h 7 _ (string_first h c.requires.0 c.in_ok-open_text.ensures) c.in_default.not-Whole)

pub open_variables-requires : goal.open_variables-requires
open_variables-requires c =
    let h = here c.args.nodes.now c.args.references.now c.args.bytes.now c.args.v c.args.levels in
    let written = first_done h 7 _ (string_first h c.requires.0 c.in_ok-open_text.ensures) c.in_default.not-Whole in
    pairs_ready h _ (string_pairs h c.requires.0 c.if-f-eq0.false) written c.requires.1

pub returns : goal.returns
returns c =
    let h = here c.args.nodes.now c.args.references.now c.args.bytes.now c.args.v c.args.levels in
    let written = first_done h 7 _ (string_first h c.requires.0 c.in_ok-open_text.ensures) c.in_default.not-Whole in
    record { heads = variables_heads h 7 c.requires.0 (omega arith) (string_pairs h c.requires.0 c.if-f-eq0.false) (some_variables h c.if-f-eq0.false written) c.open_variables.ensures; members_in = variables_in h 7 c.requires.0 (omega arith) (string_pairs h c.requires.0 c.if-f-eq0.false) }
