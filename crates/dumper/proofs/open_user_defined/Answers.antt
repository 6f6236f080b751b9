-- The proof of open_user_defined.
use native.Mathlib.Omega.{arith}
use mathlib.Core.Path.{refl, ◌∙◌}
use Rattle.dumper.proofs.Bodies.{here, text_rest, pairs_ready, some_variables, first_stops, first_whole, name_ready, name_stops, name_done, text_stops, text_done, whole, variables_heads, variables_in, object_ready, user_inside, user_pairs, user_name, user_first}
use Rattle.dumper.proofs.open_user_defined.Goals as goal

pub open_marked-requires : goal.open_marked-requires
open_marked-requires c =
    let h = here c.args.nodes.now c.args.references.now c.args.bytes.now c.args.v c.args.levels in
    object_ready h 8 c.requires.0 (omega arith) (omega arith) c.requires.1

pub returns-in_err-open_marked-clause-heads : goal.returns-in_err-open_marked-clause-heads
returns-in_err-open_marked-clause-heads c =
    let h = here c.args.nodes.now c.args.references.now c.args.bytes.now c.args.v c.args.levels in
    first_stops h 8 _ c.from_residual.ensures (user_first h c.requires.0 _ refl c.in_err-open_marked.ensures)

pub returns-in-Whole-clause-heads : goal.returns-in-Whole-clause-heads
returns-in-Whole-clause-heads c =
    let h = here c.args.nodes.now c.args.references.now c.args.bytes.now c.args.v c.args.levels in
    first_whole h 8 _ (user_first h c.requires.0 _ refl c.in_ok-open_marked.ensures) c.in-Whole.is

pub write_named-requires : goal.write_named-requires
write_named-requires c =
    let h = here c.args.nodes.now c.args.references.now c.args.bytes.now c.args.v c.args.levels in
    name_ready h 8 (text_rest h) _ _ (user_first h c.requires.0 _ refl c.in_ok-open_marked.ensures) c.in_default.not-Whole (user_name h c.requires.0 _ refl) c.requires.1

pub returns-in_err-write_named-clause-heads : goal.returns-in_err-write_named-clause-heads
returns-in_err-write_named-clause-heads c =
    let h = here c.args.nodes.now c.args.references.now c.args.bytes.now c.args.v c.args.levels in
    name_stops h 8 (text_rest h) _ _ (user_first h c.requires.0 _ refl c.in_ok-open_marked.ensures) c.in_default.not-Whole (user_name h c.requires.0 _ refl) c.from_residual-in_err-write_named.ensures c.in_err-write_named.ensures

pub write_byte_string-requires : goal.write_byte_string-requires
write_byte_string-requires c =
    let h = here c.args.nodes.now c.args.references.now c.args.bytes.now c.args.v c.args.levels in
    let f = c.requires.1.fact in
    user_inside h c.requires.0 c.requires.1.arena f.0 f.2

pub returns-in_err-write_byte_string-clause-heads : goal.returns-in_err-write_byte_string-clause-heads
returns-in_err-write_byte_string-clause-heads c =
    let h = here c.args.nodes.now c.args.references.now c.args.bytes.now c.args.v c.args.levels in
    let named = name_done h 8 (text_rest h) _ _ (user_first h c.requires.0 _ refl c.in_ok-open_marked.ensures) c.in_default.not-Whole (user_name h c.requires.0 _ refl) c.in_ok-write_named.ensures in
    text_stops h 8 named c.from_residual-in_err-write_byte_string.ensures c.in_err-write_byte_string.ensures

pub returns-then-f-eq0-clause-heads : goal.returns-then-f-eq0-clause-heads
returns-then-f-eq0-clause-heads c =
    let h = here c.args.nodes.now c.args.references.now c.args.bytes.now c.args.v c.args.levels in
    let named = name_done h 8 (text_rest h) _ _ (user_first h c.requires.0 _ refl c.in_ok-open_marked.ensures) c.in_default.not-Whole (user_name h c.requires.0 _ refl) c.in_ok-write_named.ensures in
    let written = text_done h 8 named c.in_ok-write_byte_string.ensures in
    whole h 8 c.if-f-eq0.true written

pub open_variables-requires : goal.open_variables-requires
open_variables-requires c =
    let h = here c.args.nodes.now c.args.references.now c.args.bytes.now c.args.v c.args.levels in
    let named = name_done h 8 (text_rest h) _ _ (user_first h c.requires.0 _ refl c.in_ok-open_marked.ensures) c.in_default.not-Whole (user_name h c.requires.0 _ refl) c.in_ok-write_named.ensures in
    let written = text_done h 8 named c.in_ok-write_byte_string.ensures in
    pairs_ready h _ (user_pairs h c.requires.0 c.if-f-eq0.false) written c.requires.1

pub returns : goal.returns
returns c =
    let h = here c.args.nodes.now c.args.references.now c.args.bytes.now c.args.v c.args.levels in
    let named = name_done h 8 (text_rest h) _ _ (user_first h c.requires.0 _ refl c.in_ok-open_marked.ensures) c.in_default.not-Whole (user_name h c.requires.0 _ refl) c.in_ok-write_named.ensures in
    let written = text_done h 8 named c.in_ok-write_byte_string.ensures in
    record { heads = variables_heads h 8 c.requires.0 (omega arith) (user_pairs h c.requires.0 c.if-f-eq0.false) (some_variables h c.if-f-eq0.false written) c.open_variables.ensures; members_in = variables_in h 8 c.requires.0 (omega arith) (user_pairs h c.requires.0 c.if-f-eq0.false) }

pub bounds-nodes-v-3 : goal.bounds-nodes-v-3
bounds-nodes-v-3 c =
    let pre = c.requires in
    omega (arith, pre.1.fact.2, pre.1.fact.0.noded.nodes_fit)

pub bounds-nodes-v-4 : goal.bounds-nodes-v-4
bounds-nodes-v-4 c =
    let pre = c.requires in
    omega (arith, pre.1.fact.2, pre.1.fact.0.noded.nodes_fit)

pub shape_of-scratch-then-f-eq0 : goal.shape_of-scratch-then-f-eq0
shape_of-scratch-then-f-eq0 c =
    let write-named = c.write_named in
    let open-marked = c.open_marked in
    write-named.auto.scratch ∙ open-marked.auto.scratch

pub shape_of-output-then-f-eq0 : goal.shape_of-output-then-f-eq0
shape_of-output-then-f-eq0 c =
    let write-byte-string = c.write_byte_string in
    let write-named = c.write_named in
    let open-marked = c.open_marked in
    write-byte-string.auto.output ∙ write-named.auto.output ∙ open-marked.auto.output

pub overflow_mul-v-4 : goal.overflow_mul-v-4
overflow_mul-v-4 c =
    let pre = c.requires in
    omega (arith, pre.1.fact.2, pre.1.fact.0.noded.nodes_fit, pre.1.fact.0.noded.nodes_small)

pub overflow_add-v-4 : goal.overflow_add-v-4
overflow_add-v-4 c =
    let pre = c.requires in
    omega (arith, pre.1.fact.2, pre.1.fact.0.noded.nodes_fit, pre.1.fact.0.noded.nodes_small)

pub offset_bounds-nodes-v-5 : goal.offset_bounds-nodes-v-5
offset_bounds-nodes-v-5 c =
    let pre = c.requires in
    omega (arith, pre.1.fact.2, pre.1.fact.0.noded.nodes_fit, pre.1.fact.0.noded.nodes_small)

pub bounds-nodes-v-5 : goal.bounds-nodes-v-5
bounds-nodes-v-5 c =
    let pre = c.requires in
    omega (arith, pre.1.fact.2, pre.1.fact.0.noded.nodes_fit)

pub overflow_mul-v-5 : goal.overflow_mul-v-5
overflow_mul-v-5 c =
    let pre = c.requires in
    omega (arith, pre.1.fact.2, pre.1.fact.0.noded.nodes_fit, pre.1.fact.0.noded.nodes_small)

pub overflow_add-v-5 : goal.overflow_add-v-5
overflow_add-v-5 c =
    let pre = c.requires in
    omega (arith, pre.1.fact.2, pre.1.fact.0.noded.nodes_fit, pre.1.fact.0.noded.nodes_small)

pub offset_bounds-nodes-v-6 : goal.offset_bounds-nodes-v-6
offset_bounds-nodes-v-6 c =
    let pre = c.requires in
    omega (arith, pre.1.fact.2, pre.1.fact.0.noded.nodes_fit, pre.1.fact.0.noded.nodes_small)

pub bounds-nodes-v-6 : goal.bounds-nodes-v-6
bounds-nodes-v-6 c =
    let pre = c.requires in
    omega (arith, pre.1.fact.2, pre.1.fact.0.noded.nodes_fit)

pub shape_of-scratch : goal.shape_of-scratch
shape_of-scratch c =
    let open-variables = c.open_variables in
    let write-named = c.write_named in
    let open-marked = c.open_marked in
    open-variables.auto.scratch ∙ write-named.auto.scratch ∙ open-marked.auto.scratch

pub shape_of-output : goal.shape_of-output
shape_of-output c =
    let open-variables = c.open_variables in
    let write-byte-string = c.write_byte_string in
    let write-named = c.write_named in
    let open-marked = c.open_marked in
    open-variables.auto.output ∙ write-byte-string.auto.output ∙ write-named.auto.output ∙ open-marked.auto.output
