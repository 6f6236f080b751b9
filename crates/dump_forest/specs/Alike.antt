-- Arenas with the same graph are dumped alike.
use Rattle.std.specs.Prelude.{ℕ, ◌+◌, ◌≡◌, List, [], ◌∷◌, length}
use Rattle.std.proofs.Common.{ap, sym as psym, ◌∙◌, arith}
use Rattle.definition.specs.Run.{ok}
use Rattle.definition.specs.Arena.{Arena}
use Rattle.definition.specs.Graph.{SameGraph}
use Rattle.definition.specs.Dump.{Written, dump}
use Rattle.graph.specs.Forest.{F, Text, values}
use Rattle.graph.specs.Describe.{Says}
use Rattle.well_formed.specs.Right.{Right, Fixnums}
use Rattle.dump_forest.specs.Writers.{num, written, ok_inj}
use Rattle.dump_forest.specs.Sound.{dump_sound}
use Rattle.dump_forest.specs.Complete.{dump_complete, text_up}
use Rattle.dump_forest.specs.Same.{graph_of, same_forest}

-- two forests that describe one arena have the same bytes
pub one_text : (A : Arena) (limit limit' : ℕ) (g g' : F) (x x' : List ℕ) → Text values limit g x → Text values limit' g' x' → Says (graph_of A) g → Says (graph_of A) g' → x ≡ x'
one_text A limit limit' g g' x x' t t' (σ, d) (σ', d') =
    let size : ℕ = length x + length x' + 2 in
    let most : ℕ = limit + limit' in
    let e = dump_complete size A most g x σ (text_up most (omega arith) t) d (omega arith) in
    let e' = dump_complete size A most g' x' σ' (text_up most (omega arith) t') d' (omega arith) in
    let q : written (0x04 ∷ 0x08 ∷ x) σ ≡ written (0x04 ∷ 0x08 ∷ x') σ' = ok_inj _ _ (psym e ∙ e') in
    ap after_version (ap (λ (w : Written). w.bytes) q)
  where
    after_version : List ℕ → List ℕ
    after_version [] = []
    after_version (a ∷ []) = []
    after_version (a ∷ b ∷ l) = l

-- two accepted dumps of the same graph write the same bytes, whatever the output's size and the limit
pub dump_same : (P Q : Arena) → Right P → Right Q → Fixnums P → Fixnums Q → SameGraph P Q → (size size' limit limit' : ℕ) (w w' : Written)
    → dump size P limit ≡ ok tt w → dump size' Q limit' ≡ ok tt w' → w.bytes ≡ w'.bytes
dump_same P Q ρ κ fp fq s size size' limit limit' w w' e e' =
    let d = dump_sound size P limit w ρ fp e in
    let d' = dump_sound size' Q limit' w' κ fq e' in
    let c = same_forest P Q ρ κ s d.forest (num w, d.says) in
    let q = one_text Q limit limit' d.forest d'.forest d.text d'.text d.writes d'.writes c (num w', d'.says) in
    d.is ∙ ap (λ (x : List ℕ). 0x04 ∷ 0x08 ∷ x) q ∙ psym d'.is
