-- What a dump of an arena wrote is loaded, and what is then there is described by the same forest.
use Rattle.std.specs.Prelude.{ℕ, zero, suc, ◌+◌, ◌≤◌, ◌≡◌, refl, true, ◌⊎◌, List, [], ◌∷◌, ◌++◌, length, set, replicate}
use Rattle.std.proofs.Common.{ap, subst, sym as psym, ◌∙◌, inl, inr, append-nil, length-append, arith}
use Rattle.definition.specs.Run.{ok, pick}
use Rattle.definition.specs.State.{Room, State, at_set}
use Rattle.definition.specs.Load.{note, read_header, read_value, begin, load}
use Rattle.definition.specs.Graph.{Header, header}
use Rattle.lists.specs.Lists.{At, at_app, at_snoc, at_snoc_inv, at_set_other, no_at, apart}
use Rattle.graph.specs.Forest.{Node, leaf, sym, box, Num, fresh, F, f_end, refs_of, bytes_of, boxes_of, syms_of, values, Text}
use Rattle.graph.specs.Describe.{E, e_len}
use Rattle.graph.specs.Build.{St, push, push_o, put, add_sym, num, Ph, ph_nosym, B, b_end, b_leaf, b_box, b_ref, b_known, b_new, b_symref, b_iv, keep, desc, boxed, Names, Inv, nodes_of_forest}
use Rattle.graph.specs.View.{see, seen, arena_of, state_seen}
use Rattle.states.specs.States.{seen_root, begin_ranged}
use Rattle.load_text.specs.Steps.{step}
use Rattle.load_text.specs.Input.{Ahead, ahead_as, read_byte_ahead}
use Rattle.load_text.specs.Items.{Step, Items}
use Rattle.load_text.specs.Leaves.{Small}
use Rattle.load_text.specs.Boxes.{one_left}
use Rattle.load_text.specs.Complete.{load_complete}

-- ---- the numbers on the symbol list are symbols

abbrev Symbols : St → Type 0
Symbols s = (k v : ℕ) → At s.syms k v → (b : List ℕ) × At s.nodes v (sym b)

symbols_on : (s : St) (l : List Node) → ((v : ℕ) (b : List ℕ) → At s.nodes v (sym b) → At l v (sym b)) → Symbols s → Symbols (record { nodes = l; objs = s.objs; syms = s.syms })
symbols_on s l f h k v e = let (b, a) = h k v e in (b, f v b a)

symbols_new : (s : St) (b : List ℕ) → Symbols s → Symbols (add_sym (length s.nodes) (push (sym b) s))
symbols_new s b h k v e = go (at_snoc_inv s.syms (length s.nodes) k v e)
  where
    go : At s.syms k v ⊎ ((k ≡ length s.syms) × (v ≡ length s.nodes)) → (c : List ℕ) × At (s.nodes ++ (sym b ∷ [])) v (sym c)
    go (inl a) = let (c, x) = h k v a in (c, at_app s.nodes (sym b ∷ []) v (sym c) x)
    go (inr a) = (b, rw a.1 (at_snoc s.nodes (sym b)))

-- what stands for a box is no symbol
symbols_fill : (hd : Header) (φ : Node) (i : ℕ) (ms : List ℕ) (s : St) → Ph ⊥ hd φ → At s.nodes i φ → Symbols s → Symbols (put i (box hd ms) s)
symbols_fill hd φ i ms s p a h =
    symbols_on s (set s.nodes i (box hd ms)) (λ v b e. at_set_other s.nodes i v (box hd ms) (sym b) (λ q. ph_nosym ⊥ hd φ p b (one v b e q)) e) h
  where
    one : (v : ℕ) (b : List ℕ) → At s.nodes v (sym b) → v ≡ i → φ ≡ sym b
    one v b e q = cc

pub symbols : {f : F} {s s' : St} {vs : List ℕ} → B ⊥ f s vs s' → Symbols s → Symbols s'
symbols b_end h = h
symbols (b_leaf {k = k} {x = x} {s = s} b) h = symbols b (symbols_on s (s.nodes ++ (leaf k x ∷ [])) (λ v c e. at_app s.nodes (leaf k x ∷ []) v (sym c) e) h)
symbols (b_box {h = hd} {φ = φ} {s₁ = s₁} {s₂ = s₂} {us = us} {ms = ms} b₀ p b₁ b) h =
    let h₁ = symbols b₀ h in
    let hp : Symbols (push_o φ s₁) = λ k v e. let (c, a) = h₁ k v e in (c, at_app s₁.nodes (φ ∷ []) v (sym c) a) in
    symbols b (symbols_fill hd φ (length s₁.nodes) (us ++ ms) s₂ p (keep b₁ (length s₁.nodes) φ (at_snoc s₁.nodes φ)) (symbols b₁ hp))
symbols (b_ref a b) h = symbols b h
symbols (b_known c a b) h = absurd c
symbols (b_new {b = b} {s = s} a t) h = symbols t (symbols_new s b h)
symbols (b_symref a b) h = symbols b h
symbols (b_iv hd us os c b₁ b₂ a t) h = absurd c

-- ---- what was built from nothing is described

pub describes : (g : F) (v : ℕ) (s s' : St) → s.objs ≡ [] → s.syms ≡ [] → B ⊥ g s (v ∷ []) s' → E s'.nodes g (v ∷ []) (num s) (num s')
describes g v s s' e₁ e₂ b =
    desc s'.nodes b (λ i x l a. a)
    (record { fo = λ k u a. go k u (boxed b k u a); fy = symbols b (λ k u a. no_at k u (subst (λ (l : List ℕ). At l k u) e₂ a)) })
    (record { wo = λ k u a. no_at k u (subst (λ (l : List ℕ). At l k u) e₁ a); wy = λ k u a. no_at k u (subst (λ (l : List ℕ). At l k u) e₂ a) })
  where
    go : (k u : ℕ) → At s.objs k u ⊎ ((h : Header) × (ms : List ℕ) × At s'.nodes u (box h ms)) → (h : Header) × (ms : List ℕ) × At s'.nodes u (box h ms)
    go k u (inl a) = no_at k u (subst (λ (l : List ℕ). At l k u) e₁ a)
    go k u (inr a) = a

-- ---- the call

-- room for what a forest takes
pub record RoomFor (room : Room) (g : F) : Type 0 where
  pub nodes : 1 + nodes_of_forest g ≤ room.nodes
  pub objects : boxes_of g ≤ room.objects
  pub symbols : syms_of g ≤ room.symbols
  pub references : refs_of g ≤ room.references
  pub bytes : bytes_of g ≤ room.bytes

-- x, whatever follows it: the load was accepted, the bytes used are x's, all as dump writes them; what is there is described by g, and takes what g takes
pub record Back (room : Room) (limit : ℕ) (g : F) (x y : List ℕ) : Type 0 where
  pub root : ℕ
  pub state : State
  pub runs : load (0x04 ∷ 0x08 ∷ (x ++ y)) room limit ≡ ok root state
  pub used : state.at ≡ length x + 2
  pub form : state.notes.form ≡ true
  pub num : Num
  pub says : E (seen (arena_of state root)) g (root ∷ []) fresh num
  pub nodes : length state.nodes ≡ 1 + nodes_of_forest g
  pub objects : length state.objects ≡ boxes_of g
  pub symbols : length state.symbols ≡ syms_of g
  pub references : length state.references ≡ refs_of g
  pub bytes : length state.bytes ≡ bytes_of g

abbrev opening : State
opening = at_set 2 begin

header_runs : (x : List ℕ) → read_header (0x04 ∷ 0x08 ∷ x) begin ≡ ok tt opening
unfolding read_header note pick
header_runs x =
    let input : List ℕ = 0x04 ∷ 0x08 ∷ x in
    let a : Ahead input 0 (0x04 ∷ 0x08 ∷ x) = record { rest = refl; size = omega arith } in
    let b : Ahead input 1 (0x08 ∷ x) = record { rest = refl; size = omega arith } in
    step _ _ begin 4 (at_set 1 begin) (read_byte_ahead input begin 4 (0x08 ∷ x) a) ∙ step _ _ (at_set 1 begin) 8 opening (read_byte_ahead input (at_set 1 begin) 8 x b)

opening_inv : (P : List Node) → Inv P fresh (state_seen opening)
unfolding see seen state_seen header
opening_inv P = record { io = refl; iy = refl; im = go }
  where
    go : (i : ℕ) (b : List ℕ) → At (leaf 0 0 ∷ []) i (sym b) → (k : ℕ) × (u : ℕ) × At fresh.syms k u × At P u (sym b)
    go zero b e = apart (cc)
    go (suc i) b e = apart (cc)

back : (room : Room) (limit : ℕ) (P : List Node) (g : F) (x y : List ℕ) (σ : Num)
    → Step (0x04 ∷ 0x08 ∷ (x ++ y)) room P (read_value (0x04 ∷ 0x08 ∷ (x ++ y)) room limit limit) g f_end σ opening y → Back room limit g x y
unfolding load state_seen
back room limit P g x y σ t =
    let s = t.then' in
    let h = t.value in
    let d = describes g h (state_seen opening) (state_seen s) refl refl (t.built [] (state_seen s) b_end) in
    let ev = t.even in
    record {
      root = h;
      state = s;
      runs = step _ _ begin tt opening (header_runs (x ++ y)) ∙ t.runs;
      used = omega (arith, t.ahead.size, length-append x y);
      form = t.form;
      num = num (state_seen s);
      says = subst (λ (L : List Node). E L g (h ∷ []) fresh (num (state_seen s))) (psym (seen_root s h)) d;
      nodes = omega (arith, ev.nodes);
      objects = omega (arith, ev.objects);
      symbols = omega (arith, ev.symbols);
      references = omega (arith, ev.references);
      bytes = omega (arith, ev.bytes);
    }

pub load_back : (P : List Node) → Names P → (limit root : ℕ) (g : F) (x y : List ℕ) (σ : Num) (room : Room) → Small room → RoomFor room g
    → Text values limit g x → E P g (root ∷ []) fresh σ → Back room limit g x y
load_back P nm limit root g x y σ room sm rf t d =
    let input : List ℕ = 0x04 ∷ 0x08 ∷ (x ++ y) in
    let rd = read_value input room limit limit in
    let it : Items input room P (rd ∷ []) g x fresh σ =
    subst (λ (n : ℕ). Items input room P (replicate n rd) g x fresh σ) (e_len d) (load_complete input room sm limit P nm t d tt) in
    let (z, tk, e) = one_left input room P it in
    let a : Ahead input 2 (x ++ y) = record { rest = refl; size = omega arith } in
    back room limit P g x y σ
    (tk opening y (opening_inv P) begin_ranged (ahead_as _ _ (ap (λ (l : List ℕ). l ++ y) (e ∙ append-nil z)) a)
    (record { nodes = rf.nodes; objects = omega (arith, rf.objects); symbols = omega (arith, rf.symbols); references = omega (arith, rf.references); bytes = omega (arith, rf.bytes) }))
