-- The proof of check.
use mathlib.Core.Path.{refl}
use Rattle.definition.specs.Arena.{arena, tables_of}
use Rattle.arena_check.proofs.Rights.{held, fit_if, checked_in, checked_out}
use Rattle.arena_check.proofs.check.Goals as goal

pub returns : goal.returns
returns c =
    let a = c.args in
    let T = tables_of a.nodes.now a.references.now a.bytes.now in
    let f = c.counts_fit.ensures.fits c.if-not-counts_fit.false in
    record { result_value = checked_in T a.counts _ (c.if-not-counts_fit.ensures.value T refl refl refl) (c.check_nodes.ensures (arena T a.counts) (held T a.counts _ refl refl refl refl refl f.bytes_fit)); fit_if = fit_if c.check_nodes.result f }

pub returns-then-not-counts_fit : goal.returns-then-not-counts_fit
returns-then-not-counts_fit c =
    let a = c.args in
    let T = tables_of a.nodes.now a.references.now a.bytes.now in
    record { result_value = checked_out T a.counts (c.if-not-counts_fit.ensures.value T refl refl refl); fit_if = tt }
