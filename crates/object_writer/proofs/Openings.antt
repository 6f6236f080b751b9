-- How the writers' parts follow one another, as the definition has them.
use Prim.Native.Nat.{ℕ, suc, ◌-◌}
use native.Mathlib.Omega.{arith}
use mathlib.Core.Path.{◌≡◌, refl, ap, ◌∙◌}
use mathlib.Core.List.{List, [], ◌∷◌}
use Rattle.definition.specs.Run.{refuse}
use Rattle.definition.specs.Kind.{INSTANCE_VARIABLES}
use Rattle.definition.specs.Arena.{Arena}
use Rattle.definition.specs.Dump.{Writer, ◌>>◌, write, write_level, write_object_or_link}
use Rattle.definition.specs.declared.Refusal.TheVariants.{TooDeep}
use Rattle.std.specs.declared.result.Result.TheVariants.{Ok, Err}
use Rattle.writer.specs.declared.Progress.{Progress}
use Rattle.writer.specs.declared.Stop.{Stop}
use Rattle.writer.specs.Held.{Buffers, Goes, Meets}
use Rattle.writer.specs.Laws.{Passed, assoc, unit_left, write_join, then, goes_first, lead_first}
use Rattle.object_writer.specs.Values.{Beginning, Heads, begun, opened}
use Rattle.object_writer.specs.Laws.{head_stop, head_after}

-- a byte and more bytes
pub byte_then : (room k : ℕ) (bs : List ℕ) (rest : Writer) → write room (k ∷ bs) >> rest ≡ write room (k ∷ []) >> (write room bs >> rest)
byte_then room k bs rest = ap (λ (w : Writer). w >> rest) (write_join room (k ∷ []) bs) ∙ assoc (write room (k ∷ [])) (write room bs) rest

-- the first call, and one that writes x after it
module _ {A : Arena} {room limit : ℕ} {B B₁ B₂ : Buffers} {c c₁ c₂ : Progress} {m x : Writer} (rest : Writer) (first : Goes A room m B c (x >> rest) B₁ c₁) where
  pub next_stops : {B₃ : Buffers} {c₃ : Progress} {m' : Writer} {q : Stop} {s : Beginning} → Passed s q → Meets A room limit x B₁ c₁ (Err q) B₂ c₂ → Heads A room limit m m' B c s B₃ c₃
  next_stops p next = head_after first (head_stop _ p (lead_first rest next).leads)

  pub next_done : {u : Unit {0}} → Meets A room limit x B₁ c₁ (Ok u) B₂ c₂ → Goes A room m B c rest B₂ c₂
  next_done next = then first (goes_first rest next.leads)

-- ---- `I` and the level

module _ (room v limit levels f : ℕ) (rest : Writer) where
  abbrev level : Writer
  level = write_level limit levels

  pub no_mark : f ≡ 0 → write_object_or_link room v (begun room level f rest) ≡ write_object_or_link room v rest
  unfolding begun
  no_mark e = rw e refl

  pub mark : (f ≡ 0 → ⊥) → write_object_or_link room v (begun room level f rest) ≡ opened room v (INSTANCE_VARIABLES ∷ []) (level >> rest)
  unfolding begun
  mark n =
      let e : f ≡ suc (f - 1) = omega arith in
      rw e (ap (write_object_or_link room v) (assoc (write room (INSTANCE_VARIABLES ∷ [])) level rest))

  pub mark_deep : (f ≡ 0 → ⊥) → levels ≡ 0 → write_object_or_link room v (begun room level f rest) ≡ opened room v (INSTANCE_VARIABLES ∷ []) (refuse (TooDeep limit) >> rest)
  unfolding write_level
  mark_deep n e = mark n ∙ rw e refl

  pub mark_level : (f ≡ 0 → ⊥) → (levels ≡ 0 → ⊥) → write_object_or_link room v (begun room level f rest) ≡ opened room v (INSTANCE_VARIABLES ∷ []) rest
  unfolding write_level
  mark_level n l =
      let e : levels ≡ suc (levels - 1) = omega arith in
      mark n ∙ rw e (ap (opened room v (INSTANCE_VARIABLES ∷ [])) (unit_left rest))
