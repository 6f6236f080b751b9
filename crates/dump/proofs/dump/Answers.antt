-- The proof of dump.
use mathlib.Core.Path.{refl, ◌∙◌}
use Rattle.definition.specs.Arena.{tables_of}
use Rattle.definition.specs.Dump.{dump_answer}
use Rattle.lists.specs.Runs.{err_is}
use Rattle.dump.proofs.Whole.{past, tables_wrong, arena_wrong, ready_start, written_fits, accepted, turned_down}
use Rattle.dump.proofs.dump.Goals as goal

pub returns-then-w-ne0 : goal.returns-then-w-ne0
unfolding dump_answer
returns-then-w-ne0 c =
    let a = c.args in
    tables_wrong (tables_of a.nodes.now a.references.now a.bytes.now) a.counts a.scratch.now a.output.now a.limit _ c.wrong_slice-w.ensures.value c.if-w-ne0.true

pub returns-in_err-map_err : goal.returns-in_err-map_err
unfolding dump_answer
returns-in_err-map_err c =
    let a = c.args in
    rw (err_is c.from_residual.result c.from_residual.ensures.1) (arena_wrong (tables_of a.nodes.now a.references.now a.bytes.now) a.counts a.scratch.now a.output.now a.limit _ c.wrong_slice-w.ensures.value c.if-w-ne0.false _ _ c.map_err.ensures.cases c.check.ensures.result_value c.in_err-map_err.was)

pub write_root-w-requires : goal.write_root-w-requires
write_root-w-requires c =
    let S = past _ _ c.wrong_slice-w.ensures.value c.wrong_slice-w.ensures.allowed c.if-w-ne0.false c.map_err.ensures.cases c.check.ensures.result_value c.in_ok-map_err.was refl in
    ready_start S c.fill_from.ensures

pub fill_from-requires-in-Ok : goal.fill_from-requires-in-Ok
fill_from-requires-in-Ok c =
    let S = past _ _ c.wrong_slice-w.ensures.value c.wrong_slice-w.ensures.allowed c.if-w-ne0.false c.map_err.ensures.cases c.check.ensures.result_value c.in_ok-map_err.was refl in
    written_fits S c.fill_from.ensures c.write_root-w.ensures c.in-Ok.is

pub returns-in-Ok : goal.returns-in-Ok
unfolding dump_answer
returns-in-Ok c =
    let S = past _ _ c.wrong_slice-w.ensures.value c.wrong_slice-w.ensures.allowed c.if-w-ne0.false c.map_err.ensures.cases c.check.ensures.result_value c.in_ok-map_err.was refl in
    let root = c.write_root-w in
    accepted S c.fill_from.ensures root.ensures c.fill_from-2.ensures (root.auto.scratch ∙ c.fill_from.auto.list) c.in-Ok.is c.fill_from-in-Ok.ensures

pub returns-in-Err : goal.returns-in-Err
unfolding dump_answer
returns-in-Err c =
    let S = past _ _ c.wrong_slice-w.ensures.value c.wrong_slice-w.ensures.allowed c.if-w-ne0.false c.map_err.ensures.cases c.check.ensures.result_value c.in_ok-map_err.was refl in
    let root = c.write_root-w in
    turned_down S c.fill_from.ensures root.ensures c.fill_from-2.ensures (root.auto.scratch ∙ c.fill_from.auto.list) c.in-Err.is c.refusal.ensures c.fill_from-in-Err.ensures root.auto.output
