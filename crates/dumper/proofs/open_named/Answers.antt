-- The proof of open_named.
use native.Mathlib.Omega.{arith}
use mathlib.Core.Path.{refl}
use Rattle.dumper.proofs.Bodies.{here, variables, pairs_ready, first_stops, first_whole, name_ready, name_stops, name_done, variables_heads, variables_in, object_ready, object_pairs, object_name, object_first}
use Rattle.dumper.proofs.open_named.Goals as goal

pub number_object-requires : goal.number_object-requires
number_object-requires c =
    let h = here c.args.nodes.now c.args.references.now c.args.bytes.now c.args.v c.args.levels in
    object_ready h 6 c.requires.0 (omega arith) (omega arith) c.requires.1

pub returns-in_err-number_object-clause-heads : goal.returns-in_err-number_object-clause-heads
returns-in_err-number_object-clause-heads c =
    let h = here c.args.nodes.now c.args.references.now c.args.bytes.now c.args.v c.args.levels in
    first_stops h 6 _ c.from_residual.ensures (object_first h c.requires.0 _ refl c.in_err-number_object.ensures)

pub returns-in-Whole-clause-heads : goal.returns-in-Whole-clause-heads
returns-in-Whole-clause-heads c =
    let h = here c.args.nodes.now c.args.references.now c.args.bytes.now c.args.v c.args.levels in
    first_whole h 6 _ (object_first h c.requires.0 _ refl c.in_ok-number_object.ensures) c.in-Whole.is

pub write_named-requires : goal.write_named-requires
write_named-requires c =
    let h = here c.args.nodes.now c.args.references.now c.args.bytes.now c.args.v c.args.levels in
    name_ready h 6 (variables h) _ _ (object_first h c.requires.0 _ refl c.in_ok-number_object.ensures) c.in_default.not-Whole (object_name h c.requires.0 _ refl) c.requires.1

pub returns-in_err-write_named-clause-heads : goal.returns-in_err-write_named-clause-heads
returns-in_err-write_named-clause-heads c =
    let h = here c.args.nodes.now c.args.references.now c.args.bytes.now c.args.v c.args.levels in
    name_stops h 6 (variables h) _ _ (object_first h c.requires.0 _ refl c.in_ok-number_object.ensures) c.in_default.not-Whole (object_name h c.requires.0 _ refl) c.from_residual-in_err-write_named.ensures c.in_err-write_named.ensures

pub bounds-nodes-v-2 : goal.bounds-nodes-v-2
bounds-nodes-v-2 c = omega (arith, c.requires.1.fact.2, c.requires.1.fact.0.noded.nodes_fit)

pub bounds-nodes-v-3 : goal.bounds-nodes-v-3
bounds-nodes-v-3 c = omega (arith, c.requires.1.fact.2, c.requires.1.fact.0.noded.nodes_fit)

pub open_variables-requires : goal.open_variables-requires
open_variables-requires c =
    let h = here c.args.nodes.now c.args.references.now c.args.bytes.now c.args.v c.args.levels in
    let named = name_done h 6 (variables h) _ _ (object_first h c.requires.0 _ refl c.in_ok-number_object.ensures) c.in_default.not-Whole (object_name h c.requires.0 _ refl) c.in_ok-write_named.ensures in
    pairs_ready h _ (object_pairs h c.requires.0) named c.requires.1

pub returns : goal.returns
returns c =
    let h = here c.args.nodes.now c.args.references.now c.args.bytes.now c.args.v c.args.levels in
    let named = name_done h 6 (variables h) _ _ (object_first h c.requires.0 _ refl c.in_ok-number_object.ensures) c.in_default.not-Whole (object_name h c.requires.0 _ refl) c.in_ok-write_named.ensures in
    record { heads = variables_heads h 6 c.requires.0 (omega arith) (object_pairs h c.requires.0) named c.open_variables.ensures; members_in = variables_in h 6 c.requires.0 (omega arith) (object_pairs h c.requires.0) }
