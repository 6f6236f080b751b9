-- The proof of counts_fit.
use Prim.Native.Nat.{◌/◌}
use native.Mathlib.Omega.{arith}
use mathlib.Core.Bool.{◌&&◌}
use mathlib.Core.Path.{◌≡◌, refl, sym, ◌∙◌}
use lib.Dec.{leb, ltb}
use Rattle.std.proofs.lemmas.Bool.Decides.{nat_tests}
use Rattle.definition.specs.Node.{width}
use Rattle.arena_check.proofs.Rights.{and_on, and_off, counts_are}
use Rattle.arena_check.proofs.counts_fit.Goals.{then-counts-ne0, else-counts-ne0, then-counts-nodes, else-counts-nodes, then-counts-references, else-counts-references}
use Rattle.arena_check.proofs.counts_fit.Goals as goal

pub returns-then-counts-bytes-clause-value : goal.returns-then-counts-bytes-clause-value
returns-then-counts-bytes-clause-value c =
    let n = c.args.counts in
    let x = leb 1 n.nodes in
    let y = leb n.nodes (c.args.nodes / width) in
    let z = leb n.references c.args.references in
    let w = leb n.bytes c.args.bytes in
    let two : c.if-counts-ne0.value ≡ (x && y) = elim c.if-counts-ne0.branch [ then-counts-ne0 k ↦ grind (arith, nat_tests) | else-counts-ne0 k ↦ grind (arith, nat_tests) ] in
    let three : c.if-counts-nodes.value ≡ (x && y && z) = elim c.if-counts-nodes.branch [
      | then-counts-nodes k ↦ and_on (x && y) z (sym k.if-counts-nodes.true ∙ two) k.value-is
      | else-counts-nodes k ↦ k.value-is ∙ and_off (x && y) z k.if-counts-nodes.false two
    ] in
    let four : c.if-counts-references.value ≡ (x && y && z && w) = elim c.if-counts-references.branch [
      | then-counts-references k ↦ and_on (x && y && z) w (sym k.if-counts-references.true ∙ three) k.value-is
      | else-counts-references k ↦ k.value-is ∙ and_off (x && y && z) w k.if-counts-references.false three
    ] in
    λ T p q s. and_on (x && y && z && w) (ltb n.root n.nodes) (sym c.if-counts-bytes.true ∙ four) refl ∙ counts_are T n p q s

pub returns-else-counts-bytes-clause-value : goal.returns-else-counts-bytes-clause-value
returns-else-counts-bytes-clause-value c =
    let n = c.args.counts in
    let x = leb 1 n.nodes in
    let y = leb n.nodes (c.args.nodes / width) in
    let z = leb n.references c.args.references in
    let w = leb n.bytes c.args.bytes in
    let two : c.if-counts-ne0.value ≡ (x && y) = elim c.if-counts-ne0.branch [ then-counts-ne0 k ↦ grind (arith, nat_tests) | else-counts-ne0 k ↦ grind (arith, nat_tests) ] in
    let three : c.if-counts-nodes.value ≡ (x && y && z) = elim c.if-counts-nodes.branch [
      | then-counts-nodes k ↦ and_on (x && y) z (sym k.if-counts-nodes.true ∙ two) k.value-is
      | else-counts-nodes k ↦ k.value-is ∙ and_off (x && y) z k.if-counts-nodes.false two
    ] in
    let four : c.if-counts-references.value ≡ (x && y && z && w) = elim c.if-counts-references.branch [
      | then-counts-references k ↦ and_on (x && y && z) w (sym k.if-counts-references.true ∙ three) k.value-is
      | else-counts-references k ↦ k.value-is ∙ and_off (x && y && z) w k.if-counts-references.false three
    ] in
    λ T p q s. and_off (x && y && z && w) (ltb n.root n.nodes) c.if-counts-bytes.false four ∙ counts_are T n p q s
