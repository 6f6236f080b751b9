-- Boxes: a node that is added whole, and values with a list of their own, arrays, hashes and objects.
use Rattle.std.specs.Prelude.{ℕ, ◌+◌, ◌*◌, ◌≤◌, ◌<◌, ◌≡◌, Bool, replicate}
use Rattle.std.proofs.Math.Path.{refl}
use Rattle.std.proofs.Common.{ap, subst, sym as psym, ◌∙◌, inl, inr, length-set, ne_eqb}
use Rattle.std.proofs.Math.Bool.{true, false}
use mathlib.Core.List.{List, [], ◌∷◌, ◌++◌, append_assoc, append-nil}
use Rattle.std.proofs.Math.ListN.{length}
use Rattle.std.proofs.lemmas.List.{length-replicate, replicate-append-replicate}
use Rattle.std.proofs.Math.Seq.{set-append_seam}
use native.Mathlib.Omega.{arith}
use Rattle.definition.specs.Run.{ok, ◌>>=◌, pick}
use Rattle.definition.specs.Integer.{integer_bytes}
use Rattle.definition.specs.Node.{Row, nil, array, hash, object, optional_node, optional_present}
use Rattle.definition.specs.Arena.{range}
use Rattle.definition.specs.State.{Room, State, Reader, nodes_set}
use Rattle.definition.specs.Load.{add_object_node, fill, counted, read_elements, read_pairs, read_instance_variables, read_symbol_like, read_array, read_hash, read_default, read_object}
use Rattle.definition.specs.Graph.{Header, header_of}
use Rattle.lists.specs.Lists.{len_snoc, apart}
use Rattle.graph.specs.Forest.{Node, leaf, box, Num, add_o, F, f_end, f_box, refs_of, bytes_of, boxes_of, syms_of, list_words}
use Rattle.graph.specs.Build.{St, push_o, put, B, b_end, b_box, Ph, Inv, nodes_of_forest, inv_push_o, inv_put}
use Rattle.graph.specs.View.{arena_of, state_seen}
use Rattle.states.specs.Rows.{list_length, Listed, is_array, is_hash, see_array, see_hash, see_hash_default, see_object, ranges}
use Rattle.states.specs.States.{row_seen, Inside, Ranged, Above, Frame, Keeps, with_object_node, with_row, length_seen, row_seen_by, seen_object_node, seen_row, opened_seen, opened_ranged, ranged_node, ranged_row, inside_listed, inside_hash, inside_object, above_listed, above_hash, above_object, frame_trans, frame_below, frame_opened, frame_object_node, frame_row, frame_range, keeps_trans, keeps_object_node, keeps_row}
use Rattle.load_text.specs.Steps.{step, add_object_node_runs}
use Rattle.load_text.specs.Input.{Ahead, ahead_as}
use Rattle.load_text.specs.Items.{Every, Fits, Even, even_same, Step, Takes, Before, Wrapped, Items, end, item, Counted, counted_runs, elements_in_turn, pairs_in_turn, by_turns, length_by_turns}
use Rattle.load_text.specs.Leaves.{Small}

words_array : (n : ℕ) (c : Bool) → list_words (header_of 4 0 [] n false c) ≡ n
unfolding pick
words_array n c = refl

pub words_pairs : (k n : ℕ) (b : List ℕ) (p c : Bool) → 4 < k → list_words (header_of k 0 b n p c) ≡ n * 2
unfolding pick
words_pairs k n b p c h = rw (ne_eqb k 4 (omega arith))

-- c tells whether there is a class
pub of_class : {x : Node} {k n : ℕ} {b ms : List ℕ} {p c : Bool} (w : ℕ) → optional_present w ≡ c → x ≡ box (header_of k 0 b n p (optional_present w)) ms → x ≡ box (header_of k 0 b n p c) ms
of_class w o e = rw (← o) e

-- what a box's parts build
fill_built : (hd : Header) (p f r : F) (φ : Node) (row : Row) (s u t w : State) (us ms : List ℕ)
    → B ⊥ p (state_seen s) us (state_seen u) → Ph ⊥ hd φ → state_seen t ≡ push_o φ (state_seen u) → B ⊥ f (state_seen t) ms (state_seen w)
    → state_seen (with_row (length u.nodes) row w) ≡ put (length u.nodes) (box hd (us ++ ms)) (state_seen w)
    → (ws : List ℕ) (T : St) → B ⊥ r (state_seen (with_row (length u.nodes) row w)) ws T → B ⊥ (f_box hd p f r) (state_seen s) (length u.nodes ∷ ws) T
fill_built hd p f r φ row s u t w us ms b₀ ph e₁ b₁ q ws T b =
    let n = length_seen u in
    let q₁ = q ∙ ap (λ (k : ℕ). put k (box hd (us ++ ms)) (state_seen w)) (psym n) in
    subst (λ (k : ℕ). B ⊥ (f_box hd p f r) (state_seen s) (k ∷ ws) T) n
    (b_box b₀ ph (subst (λ (S : St). B ⊥ f S ms (state_seen w)) e₁ b₁) (subst (λ (S : St). B ⊥ r S ws T) q₁ b))

module _ (input : List ℕ) (room : Room) (P : List Node) where
  pub box_step : (rd : Reader ℕ) (hd : Header) (p f r : F) (φ : Node) (row : Row) (σ₂ : Num) (s u t w : State) (us ms : List ℕ) (y : List ℕ)
      → rd s ≡ ok (length u.nodes) (with_row (length u.nodes) row w)
      → B ⊥ p (state_seen s) us (state_seen u) → Ph ⊥ hd φ → state_seen t ≡ push_o φ (state_seen u) → B ⊥ f (state_seen t) ms (state_seen w)
      → row_seen w row ≡ box hd (us ++ ms)
      → Ahead input w.at y → Inv P σ₂ (state_seen w) → Ranged w → Inside w row
      → Frame (length s.references) s w → Keeps Every s w → w.notes.form ≡ s.notes.form → Above (length s.references) row → length s.nodes ≤ length u.nodes
      → Even 0 (f_box hd p f r) s r w → Step input room P rd (f_box hd p f r) r σ₂ s y
  box_step rd hd p f r φ row σ₂ s u t w us ms y e b₀ ph e₁ b₁ e₂ h v a i fr k m o l ev =
      let n = length u.nodes in
      let q : state_seen (with_row n row w) ≡ put n (box hd (us ++ ms)) (state_seen w) = seen_row n row w ∙ ap (λ (x : Node). put n x (state_seen w)) e₂ in
      record {
        value = n;
        then' = with_row n row w;
        runs = e;
        ahead = h;
        built = fill_built hd p f r φ row s u t w us ms b₀ ph e₁ b₁ q;
        inv = subst (Inv P σ₂) (psym q) (inv_put P σ₂ (state_seen w) n hd (us ++ ms) v);
        ranged = ranged_row n row w i a;
        frame = frame_trans fr (frame_row _ n row w o);
        keeps = keeps_row n row s w l k;
        form = m;
        even = record {
          nodes = omega (arith, ev.nodes, length-set w.nodes n row);
          objects = ev.objects;
          symbols = ev.symbols;
          references = ev.references;
          bytes = ev.bytes;
        };
      }

  -- a node without a list, added whole: a string or a user-defined value without variables, a Float or a Bignum; w is what is there before it
  pub node_step : (rd : Reader ℕ) (hd : Header) (row : Row) (p r : F) (σ : Num) (v : ℕ) (s w : State) (us y : List ℕ)
      → rd s ≡ ok (length w.nodes) (with_object_node row w)
      → B ⊥ p (state_seen s) us (state_seen w) → 7 ≤ hd.kind → row_seen w row ≡ box hd us
      → Ahead input w.at y → Inv P σ (state_seen w) → Ranged w → Inside w row → Above (length s.references) row
      → Frame (length s.references) s w → Keeps Every s w → w.notes.form ≡ s.notes.form
      → Even 0 (f_box hd p f_end r) s r (with_object_node row w) → Step input room P rd (f_box hd p f_end r) r (add_o v σ) s y
  node_step rd hd row p r σ v s w us y e b₀ k e₁ h i a x o fr kp m ev =
      let n = length w.nodes in
      let t = with_object_node row w in
      let q : t ≡ with_row n row t = ap (λ (l : List Row). nodes_set l t) (psym (set-append_seam w.nodes row [] row)) in
      let z : state_seen t ≡ push_o (box hd us) (state_seen w) = seen_object_node row w ∙ ap (λ (c : Node). push_o c (state_seen w)) e₁ in
      box_step rd hd p f_end r (box hd us) row (add_o v σ) s w t t us [] y (e ∙ ap (ok n) q) b₀ (inr ((λ c. c), (λ b c. apart (cc)), k)) z b_end
      (row_seen_by w t row refl refl ∙ e₁ ∙ ap (box hd) (psym (append-nil us))) h
      (subst (Inv P (add_o v σ)) (psym z) (inv_push_o P σ (state_seen w) v (box hd us) (λ b c. apart (cc)) i)) (ranged_node row w x a) x
      (frame_trans fr (frame_object_node _ row w o)) (keeps_trans kp (keeps_object_node row w)) m o kp.grows ev

  -- ---- a counted list with nothing left

  pub record Told (each n : ℕ) (read : ℕ → ℕ → Reader (Unit {0})) (f : F) (σ' : Num) (s : State) (z : List ℕ) : Type 0 where
    pub values : List ℕ
    pub then' : State
    pub runs : (k : ℕ → ℕ → Reader ℕ) → counted input room each (λ start m. read start m >>= λ _. k start m) s ≡ k (length s.references) n then'
    pub ahead : Ahead input then'.at z
    pub built : B ⊥ f (state_seen s) values (state_seen then')
    pub inv : Inv P σ' (state_seen then')
    pub ranged : Ranged then'
    pub frame : Frame (length s.references) s then'
    pub keeps : Keeps Every s then'
    pub form : then'.notes.form ≡ s.notes.form
    pub holds : range then'.references (length s.references) (n * each) ≡ values
    pub inside : length s.references + n * each ≤ length then'.references
    pub even : Even (n * each) f s f_end then'

  pub nothing : {g : F} {x : List ℕ} {σ σ' : Num} → Items input room P [] g x σ σ' → (g ≡ f_end) × (x ≡ []) × (σ ≡ σ')
  nothing end = (refl, refl, refl)

  told : (each n : ℕ) (read : ℕ → ℕ → Reader (Unit {0})) (f : F) (σ' : Num) (s : State) (z : List ℕ)
      → Counted input room P each n [] read f σ' s z → Told each n read f σ' s z
  told each n read f σ' s z c =
      let (e₁, e₂, e₃) = nothing c.left in
      let b = c.built [] (state_seen c.then') (subst (λ (g : F). B ⊥ g (state_seen c.then') [] (state_seen c.then')) (psym e₁) b_end) in
      let ev = c.even in
      let n₁ : nodes_of_forest c.forest ≡ 0 = ap nodes_of_forest e₁ in
      let n₂ : boxes_of c.forest ≡ 0 = ap boxes_of e₁ in
      let n₃ : syms_of c.forest ≡ 0 = ap syms_of e₁ in
      let n₄ : refs_of c.forest ≡ 0 = ap refs_of e₁ in
      let n₅ : bytes_of c.forest ≡ 0 = ap bytes_of e₁ in
      record {
        values = c.values;
        then' = c.then';
        runs = c.runs;
        ahead = ahead_as _ _ (ap (λ (t : List ℕ). t ++ z) e₂) c.ahead;
        built = subst (λ (l : List ℕ). B ⊥ f (state_seen s) l (state_seen c.then')) (append-nil c.values) b;
        inv = subst (λ (τ : Num). Inv P τ (state_seen c.then')) e₃ c.inv;
        ranged = c.ranged;
        frame = c.frame;
        keeps = c.keeps;
        form = c.form;
        holds = c.holds;
        inside = c.inside;
        even = record {
          nodes = omega (arith, ev.nodes, n₁);
          objects = omega (arith, ev.objects, n₂);
          symbols = omega (arith, ev.symbols, n₃);
          references = omega (arith, ev.references, n₄);
          bytes = omega (arith, ev.bytes, n₅);
        };
      }

  told_elements : (each n : ℕ) (inner : Reader ℕ) (read : ℕ → ℕ → Reader (Unit {0})) {f : F} {y : List ℕ} {σ σ' : Num} (s : State) (z : List ℕ)
      → read (length s.references) n ≡ read_elements inner (n * each) (length s.references) → n < 2147483648
      → Items input room P (replicate (n * each) inner) f y σ σ'
      → Inv P σ (state_seen s) → Ranged s → Ahead input s.at (integer_bytes n ++ (y ++ z)) → Fits room (n * each) f s → Told each n read f σ' s z
  told_elements each n inner read {f = f} {y = y} {σ = σ} {σ' = σ'} s z e l it v a h g =
      told each n read f σ' s z
      (counted_runs input room P each n (replicate (n * each) inner) [] read s z (e ∙ elements_in_turn inner (n * each) (length s.references)) (length-replicate (n * each) inner) l
      (subst (λ (rds : List (Reader ℕ)). Items input room P rds f y σ σ') (psym (append-nil (replicate (n * each) inner))) it) v a h g)

  pub told_pairs : (n : ℕ) (name inner : Reader ℕ) {f : F} {y : List ℕ} {σ σ' : Num} (s : State) (z : List ℕ) → n < 2147483648
      → Items input room P (by_turns name inner n) f y σ σ'
      → Inv P σ (state_seen s) → Ranged s → Ahead input s.at (integer_bytes n ++ (y ++ z)) → Fits room (n * 2) f s → Told 2 n (λ start m. read_pairs name inner m start) f σ' s z
  told_pairs n name inner {f = f} {y = y} {σ = σ} {σ' = σ'} s z l it v a h g =
      told 2 n (λ start m. read_pairs name inner m start) f σ' s z
      (counted_runs input room P 2 n (by_turns name inner n) [] (λ start m. read_pairs name inner m start) s z (pairs_in_turn name inner n (length s.references)) (length_by_turns name inner n) l
      (subst (λ (rds : List (Reader ℕ)). Items input room P rds f y σ σ') (psym (append-nil (by_turns name inner n))) it) v a h g)

  -- ---- arrays, hashes and objects: a nil node stands for them while they are read

  nil_inv : (σ : Num) (v : ℕ) (s : State) → Inv P σ (state_seen s) → Inv P (add_o v σ) (state_seen (with_object_node nil s))
  nil_inv σ v s i = subst (Inv P (add_o v σ)) (psym (opened_seen s)) (inv_push_o P σ (state_seen s) v (leaf 0 0) (λ b q. apart (cc)) i)

  -- room for what is in the box, when what comes before its node was read and the node has been added
  nil_fits : (hd : Header) (p f r : F) (s u : State) → Even 0 p s f_end u → Fits room 0 (f_box hd p f r) s → Fits room (list_words hd) f (with_object_node nil u)
  nil_fits hd p f r s u e g = record {
    nodes = omega (arith, e.nodes, g.nodes, len_snoc u.nodes nil);
    objects = omega (arith, e.objects, g.objects, len_snoc u.objects (length u.nodes));
    symbols = omega (arith, e.symbols, g.symbols);
    references = omega (arith, e.references, g.references);
    bytes = omega (arith, e.bytes, g.bytes);
  }

  -- and room for the node itself
  opens : (hd : Header) (p f r : F) (s u : State) → Even 0 p s f_end u → Fits room 0 (f_box hd p f r) s → add_object_node room nil u ≡ ok (length u.nodes) (with_object_node nil u)
  opens hd p f r s u e g = add_object_node_runs room u nil (omega (arith, e.nodes, g.nodes)) (omega (arith, e.objects, g.objects))

  -- what is left then
  nil_even : (hd : Header) (p f r : F) (s u w : State) → hd.bytes ≡ [] → Even 0 p s f_end u → Even (list_words hd) f (with_object_node nil u) f_end w → Even 0 (f_box hd p f r) s r w
  nil_even hd p f r s u w q e g = record {
    nodes = omega (arith, e.nodes, g.nodes, len_snoc u.nodes nil);
    objects = omega (arith, e.objects, g.objects, len_snoc u.objects (length u.nodes));
    symbols = omega (arith, e.symbols, g.symbols);
    references = omega (arith, e.references, g.references);
    bytes = omega (arith, e.bytes, g.bytes, ap length q);
  }

  -- a list filled by readers in turn and then put into the node: the row's list is where the words were reserved
  nil_step : (rd : Reader ℕ) (hd : Header) {p : F} {us : List ℕ} (f r : F) (row : Row) {σ : Num} (σ₂ : Num) {s u : State} (y : List ℕ) (each n : ℕ) (read : ℕ → ℕ → Reader (Unit {0}))
      → Before input room P p us σ s u → Listed (length u.references) row → list_length row ≡ n * each → list_words hd ≡ n * each → hd.bytes ≡ []
      → (t : Told each n read f σ₂ (with_object_node nil u) y)
      → row_seen t.then' row ≡ box hd (us ++ t.values)
      → rd s ≡ ok (length u.nodes) (with_row (length u.nodes) row t.then')
      → Step input room P rd (f_box hd p f r) r σ₂ s y
  nil_step rd hd {p} {us} f r row σ₂ {s} {u} y each n read bf li e₁ e₂ e₃ t e₄ runs =
      let w = t.then' in
      let q = length s.references in
      let l = bf.frame.references_grow in
      box_step rd hd p f r (leaf 0 0) row σ₂ s u (with_object_node nil u) w us t.values y runs bf.built (inl refl) (opened_seen u) t.built e₄ t.ahead t.inv t.ranged
      (inside_listed w row li (omega (arith, t.inside))) (frame_trans bf.frame (frame_trans (frame_opened q u) (frame_below q l t.frame)))
      (keeps_trans bf.keeps (keeps_trans (keeps_object_node nil u) t.keeps)) (t.form ∙ bf.form)
      (above_listed q row l li) bf.keeps.grows (nil_even hd p f r s u w e₃ bf.even (rw e₂ t.even))

  pub takes_array : Small room → (inner : Reader ℕ) (n : ℕ) (c : Bool) (p f r : F) (y : List ℕ) (σ σ₂ : Num) (v : ℕ) → Items input room P (replicate n inner) f y (add_o v σ) σ₂
      → Wrapped input room P (read_array input room inner) c p (f_box (header_of 4 0 [] n false c) p f r) r (integer_bytes n ++ y) σ σ₂
  unfolding read_array fill list_length ranges
  takes_array sm inner n c p f r y σ σ₂ v it w s u z o bf h g =
      let hd = header_of 4 0 [] n false c in
      let e : n ≡ n * 1 = omega arith in
      let e₁ = words_array n c in
      let k = length u.nodes in
      let q = length u.references in
      let t = told_elements 1 n inner (λ start m. read_elements inner m start) (with_object_node nil u) z (ap (λ (m : ℕ). read_elements inner m q) e)
      (omega (arith, g.references, e₁, sm.references)) (subst (λ (m : ℕ). Items input room P (replicate m inner) f y (add_o v σ) σ₂) e it) (nil_inv σ v u bf.inv) (opened_ranged u bf.ranged)
      (ahead_as _ _ (append_assoc (integer_bytes n) y z) h) (rw (← (e₁ ∙ e)) (nil_fits hd p f r s u bf.even g)) in
      nil_step (λ _. read_array input room inner w u) hd f r (array q n w) σ₂ z 1 n (λ start m. read_elements inner m start) bf (is_array n w) e (e₁ ∙ e) refl t
      (of_class w o (see_array (arena_of t.then' 0) q n w t.values (subst (λ (m : ℕ). range t.then'.references q m ≡ t.values) (psym e) t.holds)))
      (step _ _ u k _ (opens hd p f r s u bf.even g) ∙ t.runs (λ start m. fill k (array start m w)))

  pub takes_hash : Small room → (inner : Reader ℕ) (n : ℕ) (c : Bool) (p f r : F) (y : List ℕ) (σ σ₂ : Num) (v : ℕ) → Items input room P (replicate (n * 2) inner) f y (add_o v σ) σ₂
      → Wrapped input room P (read_hash false input room inner) c p (f_box (header_of 5 0 [] n false c) p f r) r (integer_bytes n ++ y) σ σ₂
  unfolding read_hash read_default fill list_length ranges
  takes_hash sm inner n c p f r y σ σ₂ v it w s u z o bf h g =
      let hd = header_of 5 0 [] n false c in
      let e₁ : list_words hd ≡ n * 2 = words_pairs 5 n [] false c (omega arith) in
      let k = length u.nodes in
      let q = length u.references in
      let t = told_elements 2 n inner (λ start m. read_elements inner (m * 2) start) (with_object_node nil u) z refl
      (omega (arith, g.references, e₁, sm.references)) it (nil_inv σ v u bf.inv) (opened_ranged u bf.ranged)
      (ahead_as _ _ (append_assoc (integer_bytes n) y z) h) (rw (← e₁) (nil_fits hd p f r s u bf.even g)) in
      nil_step (λ _. read_hash false input room inner w u) hd f r (hash q n 0 w) σ₂ z 2 n (λ start m. read_elements inner (m * 2) start) bf (is_hash n w) refl e₁ refl t
      (of_class w o (see_hash (arena_of t.then' 0) q n w t.values t.holds))
      (step _ _ u k _ (opens hd p f r s u bf.even g) ∙ t.runs (λ start m. fill k (hash start m 0 w)))

  -- ---- a hash with a default, which comes last

  pub one_left : {rd : Reader ℕ} {g : F} {x : List ℕ} {σ σ' : Num} → Items input room P (rd ∷ []) g x σ σ' → (z : List ℕ) × Takes input room P rd g f_end z σ σ' × (x ≡ z ++ [])
  one_left (item z tk end) = (z, tk, refl)

  even_on : (a b c : ℕ) (f g h : F) (s t w : State) → c ≡ a + b → Even a f s g t → Even b g t h w → Even c f s h w
  even_on a b c f g h s t w e x y = record {
    nodes = y.nodes ∙ x.nodes;
    objects = y.objects ∙ x.objects;
    symbols = y.symbols ∙ x.symbols;
    references = omega (arith, x.references, y.references, e);
    bytes = y.bytes ∙ x.bytes;
  }

  -- what is left of the room for c words besides, when a of them were added
  fits_left : (a k c : ℕ) (f g : F) (s t : State) → c ≡ a + k → Even a f s g t → Fits room c f s → Fits room k g t
  fits_left a k c f g s t q e h = record {
    nodes = omega (arith, e.nodes, h.nodes);
    objects = omega (arith, e.objects, h.objects);
    symbols = omega (arith, e.symbols, h.symbols);
    references = omega (arith, e.references, h.references);
    bytes = omega (arith, e.bytes, h.bytes);
  }

  default_step : (inner : Reader ℕ) (n : ℕ) (b : Bool) {p : F} (f r : F) {σ : Num} (σ₂ : Num) (class : ℕ) {s : State} (u : State) (z : List ℕ) → optional_present class ≡ b → Before input room P p (optional_node class) σ s u
      → Fits room 0 (f_box (header_of 5 0 [] n true b) p f r) s
      → (c : Counted input room P 2 n (inner ∷ []) (λ start m. read_elements inner (m * 2) start) f σ₂ (with_object_node nil u) z) → Step input room P inner c.forest f_end σ₂ c.then' z
      → Step input room P (λ _. read_hash true input room inner class u) (f_box (header_of 5 0 [] n true b) p f r) r σ₂ s z
  unfolding read_hash read_default fill
  default_step inner n b {p} f r σ₂ class {s} u z o bf g c t =
      let hd = header_of 5 0 [] n true b in
      let e₁ : list_words hd ≡ n * 2 = words_pairs 5 n [] true b (omega arith) in
      let k = length u.nodes in
      let start = length u.references in
      let q = length s.references in
      let l = bf.frame.references_grow in
      let d = t.value in
      let w = t.then' in
      let e₂ : range w.references start (n * 2) ≡ c.values = frame_range start (n * 2) t.frame c.inside c.inside ∙ c.holds in
      box_step (λ _. read_hash true input room inner class u) hd p f r (leaf 0 0) (hash start n (d + 1) class) σ₂ s u (with_object_node nil u) w (optional_node class) (c.values ++ (d ∷ [])) z
      (step _ _ u k _ (opens hd p f r s u bf.even g) ∙ c.runs (λ start m. read_default true inner class k start m) ∙ step _ _ c.then' d w t.runs)
      bf.built (inl refl) (opened_seen u) (c.built (d ∷ []) (state_seen w) (t.built [] (state_seen w) b_end))
      (of_class class o (see_hash_default (arena_of w 0) start n d class c.values e₂))
      t.ahead t.inv t.ranged (inside_hash w start n (d + 1) class (omega (arith, c.inside, t.frame.references_grow)))
      (frame_trans bf.frame (frame_trans (frame_opened q u) (frame_trans (frame_below q l c.frame) (frame_below q (omega (arith, c.inside)) t.frame))))
      (keeps_trans bf.keeps (keeps_trans (keeps_object_node nil u) (keeps_trans c.keeps t.keeps))) (t.form ∙ c.form ∙ bf.form) (above_hash q start n (d + 1) class l) bf.keeps.grows
      (nil_even hd p f r s u w refl bf.even (rw e₁ (even_on (n * 2) 0 (n * 2) f c.forest f_end (with_object_node nil u) c.then' w (omega arith) c.even t.even)))

  pub takes_hash_default : Small room → (inner : Reader ℕ) (n : ℕ) (b : Bool) (p f r : F) (y : List ℕ) (σ σ₂ : Num) (v : ℕ) → Items input room P (replicate (n * 2 + 1) inner) f y (add_o v σ) σ₂
      → Wrapped input room P (read_hash true input room inner) b p (f_box (header_of 5 0 [] n true b) p f r) r (integer_bytes n ++ y) σ σ₂
  takes_hash_default sm inner n b p f r y σ σ₂ v it w s u z o bf h g =
      let hd = header_of 5 0 [] n true b in
      let e₁ : list_words hd ≡ n * 2 = words_pairs 5 n [] true b (omega arith) in
      let g₁ : Fits room (n * 2) f (with_object_node nil u) = rw (← e₁) (nil_fits hd p f r s u bf.even g) in
      let c = counted_runs input room P 2 n (replicate (n * 2) inner) (inner ∷ []) (λ start m. read_elements inner (m * 2) start) (with_object_node nil u) z
      (elements_in_turn inner (n * 2) (length u.references)) (length-replicate (n * 2) inner) (omega (arith, g.references, e₁, sm.references))
      (subst (λ (rds : List (Reader ℕ)). Items input room P rds f y (add_o v σ) σ₂) (psym (replicate-append-replicate (n * 2) 1 inner)) it)
      (nil_inv σ v u bf.inv) (opened_ranged u bf.ranged) (ahead_as _ _ (append_assoc (integer_bytes n) y z) h) g₁ in
      let (z₁, tk, e₂) = one_left c.left in
      let t = tk c.then' z c.inv c.ranged (ahead_as _ _ (ap (λ (l : List ℕ). l ++ z) (e₂ ∙ append-nil z₁)) c.ahead)
      (fits_left (n * 2) 0 (n * 2) f c.forest (with_object_node nil u) c.then' (omega arith) c.even g₁) in
      default_step inner n b f r σ₂ w u z o bf g c t

  -- ---- objects: the name comes before the count

  object_step : (inner : Reader ℕ) (n : ℕ) (f f' r : F) (σ₁ σ₂ : Num) (s : State) (x z : List ℕ) → Fits room 0 (f_box (header_of 6 0 [] n false false) f_end f r) s
      → (m : Step input room P (read_symbol_like input room) f f' σ₁ (with_object_node nil s) x)
      → Told 2 n (λ start k. read_pairs (read_symbol_like input room) inner k start) f' σ₂ m.then' z
      → Step input room P (read_object input room inner) (f_box (header_of 6 0 [] n false false) f_end f r) r σ₂ s z
  unfolding read_object read_instance_variables fill
  object_step inner n f f' r σ₁ σ₂ s x z g m t =
      let hd = header_of 6 0 [] n false false in
      let e₁ : list_words hd ≡ n * 2 = words_pairs 6 n [] false false (omega arith) in
      let k = length s.nodes in
      let u = m.then' in
      let w = t.then' in
      let c = m.value in
      let start = length u.references in
      let p = length s.references in
      let l₁ : p ≤ start = m.frame.references_grow in
      let ev = even_same s in
      box_step (read_object input room inner) hd f_end f r (leaf 0 0) (object start n c) σ₂ s s (with_object_node nil s) w [] (c ∷ t.values) z
      (step _ _ s k _ (opens hd f_end f r s s ev g) ∙ step _ _ (with_object_node nil s) c u m.runs ∙ t.runs (λ start i. fill k (object start i c)))
      b_end (inl refl) (opened_seen s) (m.built t.values (state_seen w) t.built) (see_object (arena_of w 0) start n c t.values t.holds)
      t.ahead t.inv t.ranged (inside_object w start n c t.inside)
      (frame_trans (frame_opened p s) (frame_trans m.frame (frame_below p l₁ t.frame)))
      (keeps_trans (keeps_object_node nil s) (keeps_trans m.keeps t.keeps)) (t.form ∙ m.form) (above_object p start n c l₁) (omega arith)
      (nil_even hd f_end f r s s w refl ev (rw e₁ (even_on 0 (n * 2) (n * 2) f f' f_end (with_object_node nil s) u w (omega arith) m.even t.even)))

  fits_without : (k : ℕ) (f : F) (s : State) → Fits room k f s → Fits room 0 f s
  fits_without k f s h = record { nodes = h.nodes; objects = h.objects; symbols = h.symbols; references = omega (arith, h.references); bytes = h.bytes }

  pub takes_object : Small room → (inner : Reader ℕ) (n : ℕ) (f f' r : F) (x y : List ℕ) (σ σ₁ σ₂ : Num) (v : ℕ)
      → Takes input room P (read_symbol_like input room) f f' x (add_o v σ) σ₁ → Items input room P (by_turns (read_symbol_like input room) inner n) f' y σ₁ σ₂
      → Takes input room P (read_object input room inner) (f_box (header_of 6 0 [] n false false) f_end f r) r (x ++ integer_bytes n ++ y) σ σ₂
  takes_object sm inner n f f' r x y σ σ₁ σ₂ v tk it s z i a h g =
      let hd = header_of 6 0 [] n false false in
      let e₁ : list_words hd ≡ n * 2 = words_pairs 6 n [] false false (omega arith) in
      let g₁ : Fits room (n * 2) f (with_object_node nil s) = rw (← e₁) (nil_fits hd f_end f r s s (even_same s) g) in
      let e₂ : x ++ integer_bytes n ++ y ++ z ≡ x ++ (integer_bytes n ++ (y ++ z)) = simp append_assoc in
      let m = tk (with_object_node nil s) (integer_bytes n ++ (y ++ z)) (nil_inv σ v s i) (opened_ranged s a) (ahead_as _ _ e₂ h) (fits_without (n * 2) f (with_object_node nil s) g₁) in
      let t = told_pairs n (read_symbol_like input room) inner m.then' z (omega (arith, g.references, e₁, sm.references)) it m.inv m.ranged m.ahead
      (fits_left 0 (n * 2) (n * 2) f f' (with_object_node nil s) m.then' (omega arith) m.even g₁) in
      object_step inner n f f' r σ₁ σ₂ s (integer_bytes n ++ (y ++ z)) z g m t
