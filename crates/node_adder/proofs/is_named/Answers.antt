-- The proof of is_named.
use native.Mathlib.Omega.{arith}
use Prim.Native.Nat.{ℕ, ◌+◌, ◌-◌, ◌*◌}
use mathlib.Core.Path.{◌≡◌, ap, ◌∙◌}
use mathlib.Core.List.{List}
use lib.ListN.{drop, get_or, take}
use Rattle.definition.specs.Node.{equal, width, START, LENGTH}
use Rattle.store.specs.Laws.{says_equal}
use Rattle.node_adder.proofs.Names.{no_symbol, other_length, same_name, stored_in}
use Rattle.node_adder.proofs.is_named.Goals as goal

abbrev word : List ℕ → ℕ → ℕ → ℕ
word nodes i k = get_or nodes (i * width + k) 0

sliced : (from n : ℕ) → from + n - from ≡ n
sliced from n = omega arith

pub returns-then-nodes-at-ne-SYMBOL : goal.returns-then-nodes-at-ne-SYMBOL
returns-then-nodes-at-ne-SYMBOL c =
    let a = c.args in
    λ A e f s. no_symbol A a.count a.nodes.now a.i a.name.now e c.requires.0 c.requires.1 c.if-nodes-at-ne-SYMBOL.true

pub returns-then-n-name : goal.returns-then-n-name
returns-then-n-name c =
    let a = c.args in
    λ A e f s. other_length A a.count a.nodes.now a.i a.name.now e c.requires.0 c.requires.1 s c.if-nodes-at-ne-SYMBOL.false c.if-n-name.true

pub returns-then-from-n : goal.returns-then-from-n
returns-then-from-n c =
    let a = c.args in
    λ A e f s.
    says_equal _ _ _ c.same_bytes.ensures
    ∙ ap (λ k. equal a.name.now (take k (drop (word a.nodes.now a.i START) a.bytes.now))) (sliced (word a.nodes.now a.i START) (word a.nodes.now a.i LENGTH))
    ∙ same_name A a.count a.nodes.now a.i a.name.now e c.requires.0 c.requires.1 a.bytes.now a.stored f c.if-nodes-at-ne-SYMBOL.false c.if-from-n.true

pub returns-else-from-n : goal.returns-else-from-n
returns-else-from-n c =
    let a = c.args in
    λ A e f s. let l = stored_in A a.count a.nodes.now a.i a.name.now e c.requires.0 c.requires.1 a.bytes.now a.stored c.requires.2 f s c.if-nodes-at-ne-SYMBOL.false in absurd (omega (arith, c.if-from-n.false))
