-- A loaded arena's forest fits the room that the load had.
use Rattle.std.specs.Prelude.{ℕ, zero, suc, ◌+◌, ◌≤◌, ◌≡◌, refl, ◌⊎◌, List, [], ◌∷◌, ◌++◌, length}
use Rattle.std.proofs.Common.{subst, inl, inr, arith}
use Rattle.definition.specs.Run.{ok}
use Rattle.definition.specs.State.{State, Room}
use Rattle.definition.specs.Load.{load}
use Rattle.definition.specs.Graph.{Header}
use Rattle.lists.specs.Lists.{At, Distinct, Below, at_lt, at_snoc_inv, apart, below_join}
use Rattle.graph.specs.Sums.{sum_l, sum_l_app, sum_to, sum_distinct, total, weigh, sum_to_total}
use Rattle.graph.specs.Forest.{Node, sym, box, Num, add_o, add_s, fresh, F, refs_of, bytes_of, boxes_of, syms_of, node_words, node_bytes, node_box, node_sym}
use Rattle.graph.specs.Describe.{E, e_end, e_leaf, e_box, e_ref, e_sym, e_symref, Dist, e_dist, no_dist, boxes_numbered, symbols_numbered}
use Rattle.graph.specs.Build.{Fin, nodes_of_forest, lf, w, wt, Φ, cnt}
use Rattle.graph.specs.View.{seen, arena_of, state_seen}
use Rattle.dump_forest.specs.Space.{takes}
use Rattle.load_forest.specs.Space.{load_within, load_holds, load_paid}
use Rattle.load_text.specs.Back.{RoomFor}
use Rattle.states.specs.States.{seen_root}

-- ---- what is numbered

-- objects are boxes, symbols are symbols
abbrev Numbered : List Node → Num → Type 0
Numbered t σ = Fin t (record { nodes = t; objs = σ.objs; syms = σ.syms })

numbered_box : (t : List Node) (σ : Num) (u : ℕ) (h : Header) (ms : List ℕ) → At t u (box h ms) → Numbered t σ → Numbered t (add_o u σ)
numbered_box t σ u h ms a n = record { fo = λ k v e. go v (at_snoc_inv σ.objs u k v e); fy = n.fy }
  where
    go : {k : ℕ} (v : ℕ) → At σ.objs k v ⊎ ((k ≡ length σ.objs) × (v ≡ u)) → (h : Header) × (ms : List ℕ) × At t v (box h ms)
    go v (inl e) = n.fo _ v e
    go v (inr e) = (h, ms, rw e.1 a)

numbered_symbol : (t : List Node) (σ : Num) (u : ℕ) (b : List ℕ) → At t u (sym b) → Numbered t σ → Numbered t (add_s u σ)
numbered_symbol t σ u b a n = record { fo = n.fo; fy = λ k v e. go v (at_snoc_inv σ.syms u k v e) }
  where
    go : {k : ℕ} (v : ℕ) → At σ.syms k v ⊎ ((k ≡ length σ.syms) × (v ≡ u)) → (b : List ℕ) × At t v (sym b)
    go v (inl e) = n.fy _ v e
    go v (inr e) = (b, rw e.1 a)

numbered : {t : List Node} {g : F} {vs : List ℕ} {σ σ' : Num} → E t g vs σ σ' → Numbered t σ → Numbered t σ'
numbered e_end n = n
numbered (e_leaf a d) n = numbered d n
numbered {t = t} (e_box {h = h} {v = v} {us = us} {ms = ms} {σ₁ = σ₁} a d₀ x d₁ d) n = numbered d (numbered d₁ (numbered_box t σ₁ v h (us ++ ms) a (numbered d₀ n)))
numbered (e_ref a x d) n = numbered d n
numbered {t = t} (e_sym {b = b} {v = v} {σ = σ} a x d) n = numbered d (numbered_symbol t σ v b a n)
numbered (e_symref a x d) n = numbered d n

none_numbered : (t : List Node) → Numbered t fresh
none_numbered t = record { fo = λ k v e. apart (cc); fy = λ k v e. apart (cc) }

-- ---- sums

at_app_inv : {A : Type 0} (l m : List A) (k : ℕ) (v : A) → At (l ++ m) k v → At l k v ⊎ ((j : ℕ) × (k ≡ length l + j) × At m j v)
at_app_inv [] m k v e = inr (k, omega arith, e)
at_app_inv (x ∷ l) m zero v e = inl e
at_app_inv (x ∷ l) m (suc k) v e = go (at_app_inv l m k v e)
  where
    go : At l k v ⊎ ((j : ℕ) × (k ≡ length l + j) × At m j v) → At l k v ⊎ ((j : ℕ) × (suc k ≡ suc (length l) + j) × At m j v)
    go (inl a) = inl a
    go (inr (j, p, a)) = inr (j, omega arith, a)

distinct_app : {A : Type 0} (l m : List A) → Distinct l → Distinct m → ((k j : ℕ) (v : A) → At l k v → At m j v → ⊥) → Distinct (l ++ m)
distinct_app l m d d' n k k' v e e' = go (at_app_inv l m k v e) (at_app_inv l m k' v e')
  where
    go : At l k v ⊎ ((j : ℕ) × (k ≡ length l + j) × At m j v) → At l k' v ⊎ ((j : ℕ) × (k' ≡ length l + j) × At m j v) → k ≡ k'
    go (inl a) (inl b) = d k k' v a b
    go (inl a) (inr (j, p, b)) = absurd (n k j v a b)
    go (inr (j, p, a)) (inl b) = absurd (n k' j v b a)
    go (inr (j, p, a)) (inr (j', p', b)) = omega (arith, d' j j' v a b)

-- each entry weighs 1
sum_ones : (w : ℕ → ℕ) (l : List ℕ) → ((k v : ℕ) → At l k v → w v ≡ 1) → sum_l w l ≡ length l
sum_ones w [] h = refl
sum_ones w (x ∷ l) h = omega (arith, h 0 x refl, sum_ones w l (λ k v e. h (suc k) v e))

-- ---- the room

module _ (t : List Node) (σ : Num) (n : Numbered t σ) (d : Dist σ) where
  objects_below : Below (length t) σ.objs
  objects_below k v e = let (h, ms, a) = n.fo k v e in at_lt t v (box h ms) a

  symbols_below : Below (length t) σ.syms
  symbols_below k v e = let (b, a) = n.fy k v e in at_lt t v (sym b) a

  no_both : (k j v : ℕ) → At σ.objs k v → At σ.syms j v → ⊥
  no_both k j v e e' =
      let (h, ms, a) = n.fo k v e in
      let (b, c) = n.fy j v e' in
      apart (cc)

  -- the objects, or objects and symbols, weigh at most what all nodes weigh
  objects_weigh : (w : ℕ → ℕ) → sum_l w σ.objs ≤ sum_to w (length t)
  objects_weigh w = sum_distinct w (length t) σ.objs d.dob objects_below

  symbols_weigh : (w : ℕ → ℕ) → sum_l w σ.syms ≤ sum_to w (length t)
  symbols_weigh w = sum_distinct w (length t) σ.syms d.dsy symbols_below

  both_weigh : (w : ℕ → ℕ) → sum_l w σ.objs + sum_l w σ.syms ≤ sum_to w (length t)
  both_weigh w =
      let x = sum_distinct w (length t) (σ.objs ++ σ.syms) (distinct_app σ.objs σ.syms d.dob d.dsy no_both) (below_join (length t) σ.objs σ.syms objects_below symbols_below) in
      omega (arith, sum_l_app w σ.objs σ.syms)

box_weighs : (t : List Node) (v : ℕ) (h : Header) (ms : List ℕ) → At t v (box h ms) → weigh node_box t v ≡ 1
box_weighs t v h ms a = rw a

symbol_weighs : (t : List Node) (v : ℕ) (b : List ℕ) → At t v (sym b) → weigh node_sym t v ≡ 1
symbol_weighs t v b a = rw a

-- what a forest takes of each table and list, where it describes a table of nodes
pub record Takes (t : List Node) (g : F) (v : ℕ) : Type 0 where
  words : refs_of g ≤ total node_words t
  bytes : bytes_of g ≤ total node_bytes t
  pub objects : boxes_of g ≤ total node_box t
  pub symbols : syms_of g ≤ total node_sym t
  nodes : nodes_of_forest g ≤ Φ (lf t) 1 t + lf t v

pub taken : (t : List Node) (g : F) (v : ℕ) (σ : Num) → E t g (v ∷ []) fresh σ → Takes t g v
taken t g v σ d =
    let n = numbered d (none_numbered t) in
    let i = e_dist d no_dist in
    let k = takes d in
    let ones = sum_ones (weigh node_box t) σ.objs (λ j u e. let (h, ms, a) = n.fo j u e in box_weighs t u h ms a) in
    let ones' = sum_ones (weigh node_sym t) σ.syms (λ j u e. let (b, a) = n.fy j u e in symbol_weighs t u b a) in
    record {
      words = omega (arith, k.words, objects_weigh t σ n i (weigh node_words t), sum_to_total node_words t);
      bytes = omega (arith, k.bytes, both_weigh t σ n i (weigh node_bytes t), sum_to_total node_bytes t);
      objects = omega (arith, boxes_numbered d, ones, objects_weigh t σ n i (weigh node_box t), sum_to_total node_box t);
      symbols = omega (arith, symbols_numbered d, ones', symbols_weigh t σ n i (weigh node_sym t), sum_to_total node_sym t);
      nodes = omega (arith, cnt d, both_weigh t σ n i (wt t), sum_to_total (w (lf t) 1) t);
    }

-- what describes a loaded arena fits the room that its load had
pub room_for : (input : List ℕ) (room : Room) (limit h : ℕ) (s : State) → 1 ≤ room.nodes → load input room limit ≡ ok h s
    → (g : F) (σ : Num) → E (seen (arena_of s h)) g (h ∷ []) fresh σ → RoomFor room g
room_for input room limit h s one e g σ d =
    let t = taken (state_seen s).nodes g h σ (subst (λ (l : List Node). E l g (h ∷ []) fresh σ) (seen_root s h) d) in
    let i = load_within input room limit h s one e in
    let c = load_holds input room limit h s e in
    let p = load_paid input room limit h s e in
    record {
      nodes = omega (arith, t.nodes, i.nodes);
      objects = omega (arith, t.objects, c.boxes, i.objects);
      symbols = omega (arith, t.symbols, c.names, i.symbols);
      references = omega (arith, t.words, c.words, i.references);
      bytes = omega (arith, t.bytes, c.bytes, i.bytes);
    }
