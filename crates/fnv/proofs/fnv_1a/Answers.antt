-- The proof of fnv_1a.
use native.Mathlib.Omega.{arith}
use Prim.Native.Nat.{◌+◌, ◌-◌}
use mathlib.Core.Path.{◌≡◌, ◌∙◌, ap}
use lib.ListN.{take, drop}
use Rattle.std.specs.Prelude.{fold}
use Rattle.std.proofs.lemmas.Grind.{common_steps}
use Rattle.definition.specs.Buckets.{fnv_1a}
use Rattle.fnv.proofs.Laws.{next_hash, hash_fold}
use Rattle.fnv.proofs.fnv_1a.Goals as goal

pub returns : goal.returns
returns c =
    let a = c.args in
    let part : a.from + a.n - a.from ≡ a.n = omega arith in
    let folded : c.fold.result ≡ fold next_hash 2166136261 (take (a.from + a.n - a.from) (drop a.from a.input.now)) = grind (arith, common_steps) in
    folded ∙ hash_fold _ ∙ ap (λ m. fnv_1a (take m (drop a.from a.input.now))) part
