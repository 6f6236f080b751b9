-- What an arena that load filled is: well formed, no two symbols of one name, no nil, bool or fixnum shared.
use Rattle.std.specs.Prelude.{ℕ, zero, suc, ◌+◌, ◌≤◌, ◌<◌, ◌≡◌, refl, List}
use Rattle.std.proofs.Common.{ap, subst, sym as psym, ◌∙◌, arith}
use Rattle.std.proofs.Math.Option.{none, some}
use Rattle.std.proofs.Math.Decide.{ℕ_discrete}
use Rattle.definition.specs.Run.{ok}
use Rattle.definition.specs.Node.{Row, symbol, kind}
use Rattle.definition.specs.Arena.{Arena, range, fault}
use Rattle.definition.specs.State.{State}
use Rattle.definition.specs.Load.{Lists, room_of, load}
use Rattle.definition.specs.Graph.{Header, header, links}
use Rattle.lists.specs.Lists.{At, apart}
use Rattle.graph.specs.Sums.{weight, total_one, total_two}
use Rattle.graph.specs.Forest.{Node, sym, box}
use Rattle.graph.specs.Build.{Names, node_leaf, lf, w, Φ}
use Rattle.graph.specs.View.{node_by_kind, node_of, see, header_kind, Headed, nil_headed, bool_headed, fixnum_headed, symbol_headed, box_headed, headed, seen, arena_of, see_at}
use Rattle.load_forest.specs.Names.{load_arena_names}
use Rattle.load_forest.specs.Space.{only, only_there, load_once}
use Rattle.load_forest.specs.Call.{load_accepted, call_arena, call_well_formed}
use Rattle.round_trip.specs.Statement.{LoadAccepted, tables, counts, filled}
use Rattle.states.specs.States.{seen_root}

-- ---- well formed

pub loaded_well_formed : (input : List ℕ) (T : Lists) (limit : ℕ) → LoadAccepted input T limit → fault (tables input T limit) (counts input T limit) ≡ none
loaded_well_formed input T limit l = call_well_formed input T limit (load_accepted input T limit l)

-- ---- distinct names

-- no two symbol nodes have one name
abbrev pub DistinctNames : Arena → Type 0
DistinctNames A = (i j s l s' l' : ℕ) → At A.nodes i (symbol s l) → At A.nodes j (symbol s' l') → range A.bytes s l ≡ range A.bytes s' l' → i ≡ j

names_distinct : (A : Arena) → Names (seen A) → DistinctNames A
unfolding see header
names_distinct A n i j s l s' l' a b e = n i j (range A.bytes s l) (see_at A i (symbol s l) a) (see_at A j (symbol s' l') b ∙ ap (λ (x : List ℕ). some (sym x)) (psym e))

pub loaded_names : (input : List ℕ) (T : Lists) (limit : ℕ) → LoadAccepted input T limit → DistinctNames (filled input T limit)
loaded_names input T limit l =
    let a = load_accepted input T limit l in
    subst DistinctNames (psym (call_arena input T limit a)) (names_distinct (arena_of a.state a.root) (load_arena_names input (room_of T) limit a.root a.state a.loads))

-- ---- no shared scalars

-- a nil, bool or fixnum node v is linked from one place at most; not at all if it is the root or node 0
pub record Unshared (A : Arena) : Type 0 where
  pub once : (v : ℕ) (x : Row) → At A.nodes v x → kind x < 3
      → (a b k j : ℕ) (r q : Row) → At A.nodes a r → At (links A r) k v → At A.nodes b q → At (links A q) j v → (a ≡ b) × (k ≡ j)
  pub root : (x : Row) → At A.nodes A.root x → kind x < 3 → (a k : ℕ) (r : Row) → At A.nodes a r → At (links A r) k A.root → ⊥
  pub first : (x : Row) → At A.nodes 0 x → kind x < 3 → (a k : ℕ) (r : Row) → At A.nodes a r → At (links A r) k 0 → ⊥

-- a row with links is seen as a box, a row of kind 0 to 2 as a leaf
links_box : (A : Arena) (r : Row) (k v : ℕ) → At (links A r) k v → see A r ≡ box (header A r) (links A r)
unfolding see
links_box A r k v e = go (headed A r) e
  where
    go : {h : Header} {ms : List ℕ} → Headed h ms → At ms k v → node_of h ms ≡ box h ms
    go (nil_headed x) e = apart (cc)
    go (bool_headed x) e = apart (cc)
    go (fixnum_headed x) e = apart (cc)
    go (symbol_headed b) e = apart (cc)
    go (box_headed k x b n p c ms) e = refl

scalar_leaf : (A : Arena) (x : Row) → kind x < 3 → node_leaf (see A x) ≡ 1
unfolding see
scalar_leaf A x h = go (header A x).kind (rw (header_kind A x) h)
  where
    go : (k : ℕ) → k < 3 → node_leaf (node_by_kind k (header A x) (links A x)) ≡ 1
    go zero l = refl
    go (suc zero) l = refl
    go (suc (suc zero)) l = refl
    go (suc (suc (suc k))) l = absurd (omega arith)

module _ (P : List Node) (v : ℕ) where
  -- a box with v weighs at least 1
  member_weighs : (h : Header) (ms : List ℕ) (k : ℕ) → At ms k v → 1 ≤ w (only v) 0 (box h ms)
  member_weighs h ms k e = omega (arith, total_one (only v) ms k v e, only_there v)

  weighs : (a : ℕ) (h : Header) (ms : List ℕ) (k : ℕ) → At P a (box h ms) → At ms k v → 1 ≤ Φ (only v) 0 P
  weighs a h ms k x e = omega (arith, total_one (w (only v) 0) P a (box h ms) x, member_weighs h ms k e)

  one_place : Φ (only v) 0 P ≤ 1 → (a b k j : ℕ) (h h' : Header) (ms ns : List ℕ) → At P a (box h ms) → At ms k v → At P b (box h' ns) → At ns j v → (a ≡ b) × (k ≡ j)
  one_place m a b k j h h' ms ns x e y f = by_node (ℕ_discrete a b)
    where
      by_place : a ≡ b → At ms j v → Dec (k ≡ j) → (a ≡ b) × (k ≡ j)
      by_place p g (yes q) = (p, q)
      by_place p g (no n) = absurd (omega (arith, total_two (only v) ms k j v v e g n, only_there v, total_one (w (only v) 0) P a (box h ms) x))

      by_node : Dec (a ≡ b) → (a ≡ b) × (k ≡ j)
      by_node (yes p) = let z : ns ≡ ms = cc in by_place p (subst (λ (l : List ℕ). At l j v) z f) (ℕ_discrete k j)
      by_node (no n) = absurd (omega (arith, total_two (w (only v) 0) P a b (box h ms) (box h' ns) x y n, member_weighs h ms k e, member_weighs h' ns j f))

module _ (A : Arena) (fits : (v : ℕ) → lf (seen A) v ≡ 1 → Φ (only v) 0 (seen A) + only v A.root + only v 0 ≤ 1) where
  fits_at : (v : ℕ) (x : Row) → At A.nodes v x → kind x < 3 → Φ (only v) 0 (seen A) + only v A.root + only v 0 ≤ 1
  fits_at v x e h = fits v (ap (weight node_leaf) (see_at A v x e) ∙ scalar_leaf A x h)

  box_at : (a k v : ℕ) (r : Row) → At A.nodes a r → At (links A r) k v → At (seen A) a (box (header A r) (links A r))
  box_at a k v r e l = see_at A a r e ∙ ap some (links_box A r k v l)

  unshared : Unshared A
  unshared = record {
    once = λ v x e h a b k j r q i l i' l'. one_place (seen A) v (omega (arith, fits_at v x e h)) a b k j (header A r) (header A q) (links A r) (links A q) (box_at a k v r i l) l (box_at b j v q i' l') l';
    root = λ x e h a k r i l. omega (arith, fits_at A.root x e h, weighs (seen A) A.root a (header A r) (links A r) k (box_at a k A.root r i l) l, only_there A.root);
    first = λ x e h a k r i l. omega (arith, fits_at 0 x e h, weighs (seen A) 0 a (header A r) (links A r) k (box_at a k 0 r i l) l, only_there 0);
  }

pub loaded_unshared : (input : List ℕ) (T : Lists) (limit : ℕ) → LoadAccepted input T limit → Unshared (filled input T limit)
loaded_unshared input T limit l =
    let a = load_accepted input T limit l in
    subst Unshared (psym (call_arena input T limit a)) (unshared (arena_of a.state a.root) (fits a.state a.root a.loads))
  where
    fits : (s : State) (h : ℕ) → load input (room_of T) limit ≡ ok h s → (v : ℕ) → lf (seen (arena_of s h)) v ≡ 1 → Φ (only v) 0 (seen (arena_of s h)) + only v h + only v 0 ≤ 1
    fits s h e = subst (λ (P : List Node). (v : ℕ) → lf P v ≡ 1 → Φ (only v) 0 P + only v h + only v 0 ≤ 1) (psym (seen_root s h)) (load_once input (room_of T) limit h s e)
