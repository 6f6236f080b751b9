-- Values without a list of their own: leaves, links, symbols.
use Rattle.std.specs.Prelude.{ℕ, suc, ◌+◌, ◌≤◌, ◌<◌, ◌≡◌, Bool, List, [], ◌∷◌, ◌++◌}
use Rattle.std.proofs.Math.Path.{refl, ap, subst}
use Rattle.std.proofs.Common.{sym as psym, ◌∙◌, arith}
use Rattle.std.proofs.Math.Logic.{inl}
use Rattle.std.proofs.Math.ListN.{length, length-append}
use Rattle.definition.specs.Run.{ok, look, pick}
use Rattle.definition.specs.Integer.{integer_bytes}
use Rattle.definition.specs.Kind.{SYMBOL, SYMBOL_LINK}
use Rattle.definition.specs.Node.{Row, fixnum, symbol}
use Rattle.definition.specs.Arena.{Arena}
use Rattle.definition.specs.State.{Room, State, Reader, at_set}
use Rattle.definition.specs.Load.{add_node, read_fixnum, read_symbol, intern, intern_as, read_symbol_link, read_object_link, read_symbol_like, read_value, value_of, head}
use Rattle.definition.specs.Dump.{byte_string_bytes}
use Rattle.lists.specs.Lists.{At, NotIn, lt_at, len_snoc, apart}
use Rattle.graph.specs.Forest.{Node, leaf, sym, Num, add_s, F, f_leaf, f_ref, f_sym, f_symref}
use Rattle.graph.specs.Build.{St, push, add_sym, B, b_leaf, b_ref, b_new, b_symref, Inv, Names, inv_push, inv_sym, new_name}
use Rattle.graph.specs.View.{see, arena_of, state_seen}
use Rattle.states.specs.States.{Inside, Ranged, Above, sought, with_node, with_bytes, with_new_symbol, length_seen, seen_at_set, seen_sought, seen_node, new_symbol_seen, ranged_node, ranged_new_symbol, frame_trans, frame_at_set, frame_sought, frame_node, frame_new_symbol, keeps_refl, keeps_trans, keeps_node}
use Rattle.states.specs.Symbols.{not_found}
use Rattle.load_text.specs.Steps.{step, compare_runs, add_node_runs, add_bytes_runs, add_symbol_runs, entry_runs}
use Rattle.load_text.specs.Input.{Ahead, ahead_past, read_byte_ahead, read_integer_ahead, read_count_ahead, read_byte_string_ahead}
use Rattle.load_text.specs.Items.{Even, Step, Takes}

-- counts and indexes stay below 2^31
pub record Small (room : Room) : Type 0 where
  pub references : room.references < 2147483648
  pub bytes : room.bytes < 2147483648
  pub symbols : room.symbols < 2147483648
  pub objects : room.objects < 2147483648

module _ (input : List ℕ) (room : Room) (P : List Node) where
  -- a byte is read first
  pub takes_past : (rd rd' : Reader ℕ) (k : ℕ) (z : List ℕ) {g r : F} {σ σ₁ : Num}
      → ((s : State) (x : List ℕ) → Ahead input s.at (k ∷ x) → rd' s ≡ rd (at_set (s.at + 1) s))
      → Takes input room P rd g r z σ σ₁ → Takes input room P rd' g r (k ∷ z) σ σ₁
  unfolding state_seen
  takes_past rd rd' k z e tk s y v a h f =
      let s₁ = at_set (s.at + 1) s in
      let t = tk s₁ y v a (ahead_past (k ∷ []) (z ++ y) h) f in
      record {
        value = t.value;
        then' = t.then';
        runs = e s (z ++ y) h ∙ t.runs;
        ahead = t.ahead;
        built = t.built;
        inv = t.inv;
        ranged = t.ranged;
        frame = frame_trans (frame_at_set _ _ s) t.frame;
        keeps = keeps_trans (keeps_refl s s₁ refl) t.keeps;
        form = t.form;
        even = t.even;
      }

  -- the kind byte k is read, and then what rd reads
  pub kind_runs : (limit l k : ℕ) (rd : Reader ℕ) → value_of input room (read_value input room limit l) k (head k) ≡ rd
      → (s : State) (x : List ℕ) → Ahead input s.at (k ∷ x) → read_value input room limit (suc l) s ≡ rd (at_set (s.at + 1) s)
  unfolding read_value
  kind_runs limit l k rd e s x h = step _ _ s k _ (read_byte_ahead input s k x h) ∙ ap (λ (m : Reader ℕ). m (at_set (s.at + 1) s)) e

  pub takes_kind : (limit l k : ℕ) (rd : Reader ℕ) (z : List ℕ) {g r : F} {σ σ₁ : Num} → value_of input room (read_value input room limit l) k (head k) ≡ rd
      → Takes input room P rd g r z σ σ₁ → Takes input room P (read_value input room limit (suc l)) g r (k ∷ z) σ σ₁
  takes_kind limit l k rd z e tk = takes_past rd (read_value input room limit (suc l)) k z (kind_runs limit l k rd e) tk

  pub takes_name : (z : List ℕ) {g r : F} {σ σ₁ : Num} → Takes input room P (read_symbol input room) g r z σ σ₁ → Takes input room P (read_symbol_like input room) g r (SYMBOL ∷ z) σ σ₁
  unfolding read_symbol_like pick
  takes_name z tk = takes_past (read_symbol input room) (read_symbol_like input room) SYMBOL z (λ s x h. step _ _ s SYMBOL _ (read_byte_ahead input s SYMBOL x h)) tk

  pub takes_name_link : (z : List ℕ) {g r : F} {σ σ₁ : Num} → Takes input room P (read_symbol_link input) g r z σ σ₁ → Takes input room P (read_symbol_like input room) g r (SYMBOL_LINK ∷ z) σ σ₁
  unfolding read_symbol_like pick
  takes_name_link z tk = takes_past (read_symbol_link input) (read_symbol_like input room) SYMBOL_LINK z (λ s x h. step _ _ s SYMBOL_LINK _ (read_byte_ahead input s SYMBOL_LINK x h)) tk

  -- ---- leaves

  pub takes_leaf : (rd : Reader ℕ) (row : Row) (k x : ℕ) (z : List ℕ) (r : F) (σ : Num) → ((A : Arena) → see A row ≡ leaf k x)
      → ((s : State) → Inside s row) → ((p : ℕ) → Above p row)
      → ((s : State) (y : List ℕ) → Ahead input s.at (z ++ y) → length s.nodes < room.nodes
      → (n : ℕ) × Ahead input n y × (rd s ≡ ok (length s.nodes) (with_node row (at_set n s))))
      → Takes input room P rd (f_leaf k x r) r z σ σ
  takes_leaf rd row k x z r σ sees inside above runs s y v a h f =
      let (n, h₁, e) = runs s y h (omega (arith, f.nodes)) in
      let s₀ = at_set n s in
      let s₁ = with_node row s₀ in
      let q : state_seen s₁ ≡ push (leaf k x) (state_seen s) = seen_node row s₀ ∙ ap (λ (t : Node). push t (state_seen s₀)) (sees (arena_of s 0)) ∙ ap (push (leaf k x)) (seen_at_set n s) in
      let ln = len_snoc s.nodes row in
      record {
        value = length s.nodes;
        then' = s₁;
        runs = e;
        ahead = h₁;
        built = λ ws T b. subst (λ (u : ℕ). B ⊥ (f_leaf k x r) (state_seen s) (u ∷ ws) T) (length_seen s) (b_leaf (subst (λ (S : St). B ⊥ r S ws T) q b));
        inv = subst (Inv P σ) (psym q) (inv_push P σ (state_seen s) (leaf k x) (λ b p. apart (cc)) v);
        ranged = ranged_node row s₀ (inside s₀) a;
        frame = frame_trans (frame_at_set _ n s) (frame_node _ row s₀ (above _));
        keeps = keeps_trans (keeps_refl s s₀ refl) (keeps_node row s₀);
        form = refl;
        even = record { nodes = omega (arith, ln); objects = refl; symbols = refl; references = omega arith; bytes = refl };
      }

  -- the row of a kind with nothing behind its kind byte
  pub node_runs : (row : Row) (s : State) (y : List ℕ) → Ahead input s.at y → length s.nodes < room.nodes
      → (n : ℕ) × Ahead input n y × (add_node room row s ≡ ok (length s.nodes) (with_node row (at_set n s)))
  node_runs row s y h l = (s.at, h, add_node_runs room s row l)

  pub fixnum_runs : (w : ℕ) → w < 4294967296 → (s : State) (y : List ℕ) → Ahead input s.at (integer_bytes w ++ y) → length s.nodes < room.nodes
      → (n : ℕ) × Ahead input n y × (read_fixnum input room s ≡ ok (length s.nodes) (with_node (fixnum w) (at_set n s)))
  unfolding read_fixnum
  fixnum_runs w k s y h l =
      let n = s.at + length (integer_bytes w) in
      (n, ahead_past (integer_bytes w) y h, step _ _ s w _ (read_integer_ahead input s w y k h) ∙ add_node_runs room (at_set n s) (fixnum w) l)

  -- ---- links

  -- only the input was read; g, before r, takes no more than r
  link_step : (rd : Reader ℕ) (g r : F) (σ : Num) (s : State) (x y : List ℕ) (u : ℕ) → rd s ≡ ok u (at_set (s.at + length x) s)
      → ((ws : List ℕ) (T : St) → B ⊥ r (state_seen s) ws T → B ⊥ g (state_seen s) (u ∷ ws) T)
      → Inv P σ (state_seen s) → Ranged s → Ahead input s.at (x ++ y) → Even 0 g s r s → Step input room P rd g r σ s y
  unfolding state_seen
  link_step rd g r σ s x y u e b v a h ev = record {
    value = u;
    then' = at_set (s.at + length x) s;
    runs = e;
    ahead = ahead_past x y h;
    built = b;
    inv = v;
    ranged = a;
    frame = frame_at_set _ _ s;
    keeps = keeps_refl s (at_set (s.at + length x) s) refl;
    form = refl;
    even = ev;
  }

  pub takes_object_link : Small room → (k : ℕ) (r : F) (σ : Num) → k < length σ.objs → Takes input room P (read_object_link input) (f_ref k r) r (integer_bytes k) σ σ
  unfolding read_object_link look state_seen
  takes_object_link sm k r σ l s y v a h f =
      let (u, p) = lt_at s.objects k (omega (arith, v.io)) in
      link_step (read_object_link input) (f_ref k r) r σ s (integer_bytes k) y u
      (step _ _ s k _ (read_count_ahead input s k y (omega (arith, v.io, f.objects, sm.objects)) h) ∙ entry_runs s.objects k u _ p _)
      (λ ws T b. b_ref p b) v a h (record { nodes = refl; objects = refl; symbols = refl; references = omega arith; bytes = refl })

  pub takes_symbol_link : Small room → (m : Bool) (k : ℕ) (r : F) (σ : Num) → k < length σ.syms → Takes input room P (read_symbol_link input) (f_symref m k r) r (integer_bytes k) σ σ
  unfolding read_symbol_link look state_seen
  takes_symbol_link sm m k r σ l s y v a h f =
      let (u, p) = lt_at s.symbols k (omega (arith, v.iy)) in
      link_step (read_symbol_link input) (f_symref m k r) r σ s (integer_bytes k) y u
      (step _ _ s k _ (read_count_ahead input s k y (omega (arith, v.iy, f.symbols, sm.symbols)) h) ∙ entry_runs s.symbols k u _ p _)
      (λ ws T b. b_symref p b) v a h (record { nodes = refl; objects = refl; symbols = refl; references = omega arith; bytes = refl })

  -- ---- a new symbol

  intern_runs : (b : List ℕ) (s : State) → NotIn (sym b) (state_seen s).nodes → length s.nodes < room.nodes → length s.bytes + length b ≤ room.bytes
      → intern room b s ≡ ok (length s.nodes) (with_node (symbol (length s.bytes) (length b)) (with_bytes b (sought b s)))
  unfolding intern look intern_as
  intern_runs b s n h k =
      let t = sought b s in
      rw (not_found s b n) (step _ _ s tt t (compare_runs _ s) ∙ step _ _ t _ _ (add_bytes_runs room t b k) ∙ add_node_runs room (with_bytes b t) (symbol (length s.bytes) (length b)) h)

  pub takes_symbol : Small room → Names P → (m : Bool) (b : List ℕ) (r : F) (σ : Num) (u : ℕ) → At P u (sym b) → NotIn u σ.syms
      → Takes input room P (read_symbol input room) (f_sym m b r) r (byte_string_bytes b) σ (add_s u σ)
  unfolding read_symbol
  takes_symbol sm nm m b r σ u at ni s y v a h f =
      let n = s.at + length (byte_string_bytes b) in
      let s₀ = at_set n s in
      let s₁ = sought b s₀ in
      let new : NotIn (sym b) (state_seen s).nodes = new_name P nm (λ h us. leaf 0 0) (λ h us. inl refl) σ (state_seen s) u b v at ni in
      let q : state_seen (with_new_symbol b s₁) ≡ add_sym (length (state_seen s).nodes) (push (sym b) (state_seen s)) =
      new_symbol_seen b s₁ a ∙ ap (λ (S : St). add_sym (length S.nodes) (push (sym b) S)) (seen_sought b s₀ ∙ seen_at_set n s) in
      let l₁ = len_snoc s.nodes (symbol (length s.bytes) (length b)) in
      let l₂ = length-append s.bytes b in
      let l₃ = len_snoc s.symbols (length s.nodes) in
      record {
        value = length s.nodes;
        then' = with_new_symbol b s₁;
        runs = step _ _ s b _ (read_byte_string_ahead input s b y (omega (arith, f.bytes, sm.bytes)) h)
            ∙ step _ _ s₀ _ _ (intern_runs b s₀ (subst (λ (S : St). NotIn (sym b) S.nodes) (psym (seen_at_set n s)) new) (omega (arith, f.nodes)) (omega (arith, f.bytes)))
            ∙ add_symbol_runs room (with_node (symbol (length s.bytes) (length b)) (with_bytes b s₁)) (length s.nodes) (omega (arith, f.symbols));
        ahead = ahead_past (byte_string_bytes b) y h;
        built = λ ws T t. subst (λ (k : ℕ). B ⊥ (f_sym m b r) (state_seen s) (k ∷ ws) T) (length_seen s) (b_new new (subst (λ (S : St). B ⊥ r S ws T) q t));
        inv = subst (Inv P (add_s u σ)) (psym q) (inv_sym P σ (state_seen s) u b at v);
        ranged = ranged_new_symbol b s₁ a;
        frame = frame_trans (frame_at_set _ n s) (frame_trans (frame_sought _ b s₀) (frame_new_symbol _ b s₁));
        keeps = keeps_trans (keeps_refl s s₀ refl) (keeps_trans (keeps_node _ s₀) (keeps_refl (with_node _ s₀) (with_new_symbol b s₁) refl));
        form = refl;
        even = record { nodes = omega (arith, l₁); objects = refl; symbols = omega (arith, l₃); references = omega arith; bytes = omega (arith, l₂) };
      }
