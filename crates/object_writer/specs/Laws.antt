-- How a value's beginning and what comes after it compose.
use Rattle.std.specs.Prelude.{ℕ, ◌≡◌, List}
use Rattle.std.specs.declared.result.Result.TheVariants.{Ok, Err}
use Rattle.std.proofs.Common.{sym, ap, ◌∙◌, subst}
use Rattle.std.proofs.Math.Path.{refl}
use Rattle.definition.specs.Run.{refused, pure, refuse, next, ◌>>=◌}
use Rattle.definition.specs.Arena.{Arena}
use Rattle.definition.specs.Dump.{Writer, ◌>>◌, write_class}
use Rattle.definition.specs.declared.Refusal.TheVariants.{TooDeep}
use Rattle.writer.specs.declared.Progress.{Progress}
use Rattle.writer.specs.declared.Stop.{Stop}
use Rattle.writer.specs.declared.Stop.TheVariants.{TooDeep as Deep}
use Rattle.writer.specs.Held.{Buffers, Ready, Goes, Refuses, stopped}
use Rattle.writer.specs.Laws.{Passed, then, then_refused, ready_goes}
use Rattle.object_writer.specs.declared.Opened.{Opened}
use Rattle.object_writer.specs.declared.Opened.TheVariants.{More, Whole}
use Rattle.object_writer.specs.Values.{Beginning, Heads, opened, classed}

module _ {A : Arena} {room limit : ℕ} where
  -- ---- an answer by what it says

  pub head_as : {m n m' : Writer} {B B' : Buffers} {c c' : Progress} {r : Beginning} → m ≡ n → Heads A room limit n m' B c r B' c' → Heads A room limit m m' B c r B' c'
  head_as {m' = m'} {B} {B'} {c} {c'} {r} e k = subst (λ (x : Writer). Heads A room limit x m' B c r B' c') (sym e) k

  pub head_to : {m n m' : Writer} {B B' : Buffers} {c c' : Progress} {r : Beginning} → m' ≡ n → Heads A room limit m m' B c r B' c' → Heads A room limit m n B c r B' c'
  head_to {m} {B = B} {B'} {c} {c'} {r} e k = subst (λ (x : Writer). Heads A room limit m x B c r B' c') e k

  pub head_goes : {m m' : Writer} {B B' : Buffers} {c c' : Progress} {x : Opened} → (x ≡ Whole → ⊥) → Heads A room limit m m' B c (Ok x) B' c' → Goes A room m B c m' B' c'
  head_goes {x = More} n k = k.heads
  head_goes {x = Whole} n k = absurd (n refl)

  pub head_whole : {m m' : Writer} {B B' : Buffers} {c c' : Progress} {x : Opened} → x ≡ Whole → Heads A room limit m m' B c (Ok x) B' c' → Goes A room m B c (pure tt) B' c'
  head_whole {m} {m'} {B} {B'} {c} {c'} e k = (subst (λ (y : Opened). Heads A room limit m m' B c (Ok y) B' c') e k).heads

  -- nothing comes after it
  pub head_done : {m : Writer} {B B' : Buffers} {c c' : Progress} {x : Opened} → Heads A room limit m (pure tt) B c (Ok x) B' c' → Goes A room m B c (pure tt) B' c'
  head_done {x = More} k = k.heads
  head_done {x = Whole} k = k.heads

  -- ---- after one another

  pub head_after : {m n m' : Writer} {B B' B'' : Buffers} {c c' c'' : Progress} {r : Beginning} → Goes A room m B c n B' c' → Heads A room limit n m' B' c' r B'' c'' → Heads A room limit m m' B c r B'' c''
  head_after {r = Ok More} a k = record { heads = then a k.heads }
  head_after {r = Ok Whole} a k = record { heads = then a k.heads }
  head_after {r = Err q} a k = record { heads = λ s H. let w = a.goes s H in w.same ∙ k.heads w.state w.holds }

  -- ---- a refusal that is handed up

  pub head_stop : {m n : Writer} {B B' : Buffers} {c c' : Progress} {s : Beginning} (q : Stop) → Passed s q → Refuses A room m B c (stopped limit q) → Heads A room limit m n B c s B' c'
  head_stop {s = Ok x} q p k = absurd p.1
  head_stop {s = Err e} q p k = record { heads = λ t H. k t H ∙ ap (λ (x : Stop). refused (stopped limit x)) (sym p.1) }

-- no level is left
module _ {A : Arena} {room : ℕ} (limit : ℕ) where
  pub deep : {B : Buffers} {c : Progress} (rest : Writer) → Refuses A room (refuse (TooDeep limit) >> rest) B c (stopped limit Deep)
  unfolding refuse stopped
  deep rest s H = then_refused (λ _. refused (TooDeep limit)) rest s (TooDeep limit) refl

  pub deep_here : {B : Buffers} {c : Progress} → Refuses A room (refuse (TooDeep limit)) B c (stopped limit Deep)
  unfolding refuse stopped
  deep_here s H = refl

-- ---- what is held goes on to be held

pub ready_head : {P : Arena → Type 0} {B B' : Buffers} {c c' : Progress} {x : Opened} (m m' : Arena → ℕ → Writer) → Ready P B c → (x ≡ Whole → ⊥) → ((A : Arena) (room : ℕ) → P A → Heads A room 0 (m A room) (m' A room) B c (Ok x) B' c') → Ready P B' c'
ready_head m m' d n k = ready_goes d (head_goes n (k d.arena d.room d.fact))

-- no class is written as nothing
pub unclassed : (room : ℕ) (A : Arena) (v : ℕ) (bs : List ℕ) (rest : Writer) {w : ℕ} → w ≡ 0 → classed room A v w bs rest ≡ opened room v bs rest
unfolding write_class ◌>>◌ ◌>>=◌ next pure
unclassed room A v bs rest e = rw e refl
