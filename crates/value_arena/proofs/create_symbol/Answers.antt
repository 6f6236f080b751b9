-- The proof of create_symbol.
use mathlib.Core.Path.{refl, sym, ap, ◌∙◌}
use mathlib.Core.List.{[], ◌∷◌}
use lib.ListN.{length}
use Rattle.definition.specs.Node.{symbol, words}
use Rattle.definition.specs.Build.{lent, held, check, add_symbol, byte_slice, create_symbol}
use Rattle.node_adder.specs.Added.{found}
use Rattle.call_check.proofs.Tests.{held_nodes}
use Rattle.value_arena.proofs.Building.{build_on, build_stop, known, unknown, held_bytes}
use Rattle.node_adder.proofs.Names.{symbols_in}
use Rattle.value_arena.proofs.create_symbol.Goals as goal

pub returns-in-Some : goal.returns-in-Some
unfolding create_symbol
returns-in-Some c =
    let a = c.args in
    let L = lent a.nodes.now a.references.now a.bytes.now a.counts in
    let checked = c.in_ok-begin.ensures.by_index (byte_slice a.name.now ∷ []) (c.wrong_bytes.ensures a.name.now refl) in
    build_on (check (byte_slice a.name.now ∷ [])) _ L checked (known L a.name.now _ (ap found (sym c.in-Some.is) ∙ c.find_named.ensures (held L) (held_nodes L _ _ refl refl) (held_bytes L) (symbols_in L _ checked)))

pub returns-in-None : goal.returns-in-None
unfolding create_symbol add_symbol words
returns-in-None c =
    let a = c.args in
    let L = lent a.nodes.now a.references.now a.bytes.now a.counts in
    let checked = c.in_ok-begin.ensures.by_index (byte_slice a.name.now ∷ []) (c.wrong_bytes.ensures a.name.now refl) in
    build_on (check (byte_slice a.name.now ∷ [])) _ L checked (unknown L a.name.now (ap found (sym c.in-None.is) ∙ c.find_named.ensures (held L) (held_nodes L _ _ refl refl) (held_bytes L) (symbols_in L _ checked)) (c.add_string.ensures a.references.now (λ b r. symbol b (length a.name.now)) (λ l. refl)))

pub returns-in_err-begin : goal.returns-in_err-begin
unfolding create_symbol
returns-in_err-begin c =
    let a = c.args in
    let L = lent a.nodes.now a.references.now a.bytes.now a.counts in
    build_stop (check (byte_slice a.name.now ∷ [])) _ L _ c.from_residual.ensures.1 (c.in_err-begin.ensures.by_index _ (c.wrong_bytes.ensures a.name.now refl))
