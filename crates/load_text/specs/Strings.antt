-- Strings and user-defined values, with and without variables, and Floats.
use Rattle.std.specs.Prelude.{ℕ, ◌+◌, ◌*◌, ◌≤◌, ◌≡◌, refl, Bool, get_or}
use Rattle.std.proofs.Math.Path.{ap}
use Rattle.std.proofs.Common.{subst, sym as psym, ◌∙◌, inr, arith}
use Rattle.std.proofs.Math.Bool.{true, false}
use mathlib.Core.List.{List, [], ◌∷◌, ◌++◌, append_assoc}
use Rattle.std.proofs.Math.ListN.{length, length-append}
use Rattle.definition.specs.Run.{ok, look, pick}
use Rattle.definition.specs.Integer.{integer_bytes}
use Rattle.definition.specs.Node.{Row, nil, string, user, absent, present, kind, words, row_of, vars, optional_node, optional_present}
use Rattle.definition.specs.Arena.{Arena, range}
use Rattle.definition.specs.State.{Room, State, Reader, at_set}
use Rattle.definition.specs.Load.{fill, read_pairs, read_instance_variables, read_symbol_like, read_text, read_user_defined, read_variables, set_variables, takes_variables}
use Rattle.definition.specs.Dump.{byte_string_bytes}
use Rattle.definition.specs.Graph.{Header, header_of, header, links, vars_count, vars_present, vars_links}
use Rattle.lists.specs.Lists.{At, at_snoc, len_snoc, get_d_at, apart}
use Rattle.lists.specs.Ranges.{range_more, range_last}
use Rattle.graph.specs.Forest.{Node, box, Num, add_o, F, f_end, f_box, list_words, Texted, text_string, high_text}
use Rattle.graph.specs.Build.{push_o, B, Ph, Inv, inv_push_o}
use Rattle.graph.specs.View.{see, text_row, see_text, arena_of, state_seen}
use Rattle.states.specs.Rows.{Varied, varied_string, varied_user, see_string_variables}
use Rattle.states.specs.States.{ranged_bytes, ranged_stored, frame_bytes, frame_stored, row_seen, Inside, Ranged, Above, Frame, Keeps, with_object_node, with_bytes, with_row, seen_at_set, seen_bytes, bytes_node_seen, inside_text, inside_user, inside_varied, above_text, above_user, above_varied, frame_trans, frame_below, frame_at_set, keeps_refl, keeps_trans, keeps_object_node}
use Rattle.load_text.specs.Steps.{step, note_runs, add_object_node_runs, add_bytes_runs}
use Rattle.load_text.specs.Input.{Ahead, ahead_past, ahead_as, first_ahead, read_byte_string_ahead}
use Rattle.load_text.specs.Items.{Every, Fits, Even, Step, Takes, Before, before_one, before_at, Wrapped, Items, by_turns}
use Rattle.load_text.specs.Leaves.{Small}
use Rattle.load_text.specs.Boxes.{words_pairs, of_class, box_step, node_step, Told, told_pairs}

-- bytes and a row were added, the node put on the object list
abbrev stored : List ℕ → Row → ℕ → State → State
stored b row n s = with_object_node row (with_bytes b (at_set n s))

-- rows of the kind kd with bytes of the length len; c: has it a class? us is the name or the class, if there is one
pub record Stores (kd : ℕ) (c : Bool) (len : ℕ) (us : List ℕ) (row : ℕ → Row) : Type 1 where
  pub high : 7 ≤ kd
  pub sees : (A : Arena) (st : ℕ) → see A (row st) ≡ box (header_of kd 0 (range A.bytes st len) 0 false c) us
  pub inside : (s : State) (st : ℕ) → st + len ≤ length s.bytes → Inside s (row st)
  pub above : (p st : ℕ) → Above p (row st)

-- and the same with n pairs of variables from the word start on
pub record Varies (kd : ℕ) (c : Bool) (len : ℕ) (us : List ℕ) (row : ℕ → Row) (row' : ℕ → ℕ → ℕ → Row) : Type 1 where
  pub sees : (A : Arena) (st start n : ℕ) → see A (row' st start n) ≡ box (header_of kd 0 (range A.bytes st len) n true c) (us ++ range A.references start (n * 2))
  pub varied : (st start n : ℕ) → Varied start n (row st) (row' st start n)
  pub sets : (st h start n : ℕ) (s : State) → set_variables h start n (row st) s ≡ ok h (with_row h (row' st start n) s)

stores_text : {k kd : ℕ} {c : Bool} (q : Texted k kd c) (len w : ℕ) → optional_present w ≡ c → Stores kd c len (optional_node w) (λ st. text_row q st len w)
stores_text q len w o = record {
  high = high_text q;
  sees = λ A st. see_text q A st len w _ o refl;
  inside = λ s st h. inside_text q s st len w h;
  above = λ p st. above_text q p st len w;
}

varies_string : (c : Bool) (len w : ℕ) → optional_present w ≡ c → Varies 7 c len (optional_node w) (λ st. string st len absent w) (λ st start n. string st len (present start n) w)
unfolding set_variables fill kind words row_of vars pick
varies_string c len w o = record {
  sees = λ A st start n. of_class w o (see_string_variables A st len start n w _ _ refl refl);
  varied = λ st start n. varied_string;
  sets = λ st h start n s. refl;
}

stores_user : (len c : ℕ) → Stores 8 false len (c ∷ []) (λ st. user st len c absent)
unfolding see header links vars_count vars_present vars_links
stores_user len c = record {
  high = omega arith;
  sees = λ A st. refl;
  inside = λ s st h. inside_user s st len c h;
  above = λ p st. above_user p st len c;
}

varies_user : (len c : ℕ) → Varies 8 false len (c ∷ []) (λ st. user st len c absent) (λ st start n. user st len c (present start n))
unfolding see header links vars_count vars_present vars_links set_variables fill kind words row_of vars pick
varies_user len c = record { sees = λ A st start n. refl; varied = λ st start n. varied_user; sets = λ st h start n s. refl }

-- what a state is when bytes and a node have been added
module _ {kd : ℕ} {c : Bool} {us : List ℕ} {row : ℕ → Row} (b : List ℕ) (ss : Stores kd c (length b) us row) (n : ℕ) (u : State) where
  stored_sees : (A : Arena) → A.bytes ≡ u.bytes ++ b → see A (row (length u.bytes)) ≡ box (header_of kd 0 b 0 false c) us
  stored_sees A e =
      ss.sees A (length u.bytes)
      ∙ ap (λ (t : List ℕ). box (header_of kd 0 t 0 false c) us) (ap (λ (l : List ℕ). range l (length u.bytes) (length b)) e ∙ range_last u.bytes b)

  stored_seen : Ranged u → state_seen (stored b (row (length u.bytes)) n u) ≡ push_o (box (header_of kd 0 b 0 false c) us) (state_seen u)
  stored_seen a = bytes_node_seen b (at_set n u) _ _ a (stored_sees (arena_of (with_bytes b u) 0) refl) ∙ ap (push_o (box (header_of kd 0 b 0 false c) us)) (seen_at_set n u)

  stored_ranged : Ranged u → Ranged (stored b (row (length u.bytes)) n u)
  stored_ranged a = ranged_stored _ b (at_set n u) (ss.inside (with_bytes b (at_set n u)) (length u.bytes) (omega (arith, length-append u.bytes b))) a

  stored_frame : (p : ℕ) → Frame p u (stored b (row (length u.bytes)) n u)
  stored_frame p = frame_trans (frame_at_set p n u) (frame_stored p _ b (at_set n u) (ss.above p _))

  stored_keeps : Keeps Every u (stored b (row (length u.bytes)) n u)
  stored_keeps = keeps_trans (keeps_refl u (with_bytes b (at_set n u)) refl) (keeps_object_node _ (with_bytes b (at_set n u)))

  stored_inv : (P : List Node) (σ : Num) (v : ℕ) → Ranged u → Inv P σ (state_seen u) → Inv P (add_o v σ) (state_seen (stored b (row (length u.bytes)) n u))
  stored_inv P σ v a i = subst (Inv P (add_o v σ)) (psym (stored_seen a)) (inv_push_o P σ (state_seen u) v (box (header_of kd 0 b 0 false c) us) (λ b q. apart (cc)) i)

  stored_ph : (m : ℕ) (p : Bool) → Ph ⊥ (header_of kd 0 b m p c) (box (header_of kd 0 b 0 false c) us)
  stored_ph m p = inr ((λ x. x), (λ b q. apart (cc)), ss.high)

module _ (input : List ℕ) (room : Room) (P : List Node) where
  -- p was read to u; then the box's bytes are read and stored, where there is room for all of the box
  text_runs : Small room → (hd : Header) (p f r : F) (row : ℕ → ℕ → Row) (s u : State) (y : List ℕ) → Ahead input u.at (byte_string_bytes hd.bytes ++ y) → Even 0 p s f_end u → Fits room 0 (f_box hd p f r) s
      → read_text input room row u ≡ ok (length u.nodes) (stored hd.bytes (row (length u.bytes) (length hd.bytes)) (u.at + length (byte_string_bytes hd.bytes)) u)
  unfolding read_text
  text_runs sm hd p f r row s u y h ev g =
      let b = hd.bytes in
      let u₁ = at_set (u.at + length (byte_string_bytes b)) u in
      let u₂ = with_bytes b u₁ in
      step _ _ u b u₁ (read_byte_string_ahead input u b y (omega (arith, g.bytes, sm.bytes)) h) ∙ step _ _ u₁ (length u.bytes) u₂ (add_bytes_runs room u₁ b (omega (arith, g.bytes, ev.bytes)))
      ∙ add_object_node_runs room u₂ (row (length u.bytes) (length b)) (omega (arith, g.nodes, ev.nodes)) (omega (arith, g.objects, ev.objects))

  -- without variables: p was read to u, and then rd reads the bytes
  store_step : Small room → (rd : Reader ℕ) {kd : ℕ} {c : Bool} {us : List ℕ} (row : ℕ → ℕ → Row) (b : List ℕ) → Stores kd c (length b) us (λ st. row st (length b)) → {p : F} (r : F) {σ : Num} (v : ℕ) {s : State} (u : State) (y : List ℕ)
      → rd s ≡ read_text input room row u → Ahead input u.at (byte_string_bytes b ++ y) → Before input room P p us σ s u → Fits room 0 (f_box (header_of kd 0 b 0 false c) p f_end r) s
      → Step input room P rd (f_box (header_of kd 0 b 0 false c) p f_end r) r (add_o v σ) s y
  store_step sm rd {kd} {c} {us} row b ss {p} r {σ} v {s} u y e h bf g =
      let hd = header_of kd 0 b 0 false c in
      let n = u.at + length (byte_string_bytes b) in
      let st = length u.bytes in
      let r₁ = row st (length b) in
      let w = with_bytes b (at_set n u) in
      let ev = bf.even in
      let q : state_seen w ≡ state_seen u = seen_bytes b (at_set n u) bf.ranged ∙ seen_at_set n u in
      let l₁ : list_words hd ≡ 0 = words_pairs kd 0 b false c (omega (arith, ss.high)) in
      let l₃ = len_snoc u.nodes r₁ in
      let l₄ = len_snoc u.objects (length u.nodes) in
      let l₅ = length-append u.bytes b in
      node_step input room P rd hd r₁ p r σ v s w us y (e ∙ text_runs sm hd p f_end r row s u y h ev g) (subst (B ⊥ p (state_seen s) us) (psym q) bf.built) ss.high (stored_sees b ss n u (arena_of w 0) refl)
      (ahead_past (byte_string_bytes b) y h) (subst (Inv P σ) (psym q) bf.inv) (ranged_bytes b (at_set n u) bf.ranged) (ss.inside w st (omega arith)) (ss.above _ st)
      (frame_trans bf.frame (frame_trans (frame_at_set _ n u) (frame_bytes _ b (at_set n u)))) (keeps_trans bf.keeps (keeps_refl u w refl)) bf.form
      (record {
        nodes = omega (arith, ev.nodes);
        objects = omega (arith, ev.objects);
        symbols = omega (arith, ev.symbols);
        references = omega (arith, ev.references);
        bytes = omega (arith, ev.bytes);
      })

  pub takes_text : Small room → {k kd : ℕ} {c : Bool} (q : Texted k kd c) (b : List ℕ) (p r : F) (σ : Num) (v : ℕ)
      → Wrapped input room P (λ w. read_text input room (λ start n. text_row q start n w)) c p (f_box (header_of kd 0 b 0 false c) p f_end r) r (byte_string_bytes b) σ (add_o v σ)
  takes_text sm q b p r σ v w s u y o bf h g = store_step sm _ (λ start n. text_row q start n w) b (stores_text q (length b) w o) r v u y refl h bf g

  -- the part that comes before a box's node
  pub fits_before : (hd : Header) (p f r : F) (s : State) → Fits room 0 (f_box hd p f r) s → Fits room 0 p s
  fits_before hd p f r s g = record {
    nodes = omega (arith, g.nodes);
    objects = omega (arith, g.objects);
    symbols = omega (arith, g.symbols);
    references = omega (arith, g.references);
    bytes = omega (arith, g.bytes);
  }

  -- the name of a user-defined value was read, and then its bytes are
  user_runs : (c : ℕ) (s u : State) → read_symbol_like input room s ≡ ok c u → read_user_defined input room s ≡ read_text input room (λ start n. user start n c absent) u
  unfolding read_user_defined
  user_runs c s u e = step _ _ s c u e

  pub takes_user : Small room → (b x : List ℕ) (p r : F) (σ σ₁ : Num) (v : ℕ) → Takes input room P (read_symbol_like input room) p f_end x σ σ₁
      → Takes input room P (read_user_defined input room) (f_box (header_of 8 0 b 0 false false) p f_end r) r (x ++ byte_string_bytes b) σ (add_o v σ₁)
  takes_user sm b x p r σ σ₁ v tk s y i a h g =
      let m = tk s (byte_string_bytes b ++ y) i a (ahead_as _ _ (append_assoc x (byte_string_bytes b) y) h) (fits_before (header_of 8 0 b 0 false false) p f_end r s g) in
      store_step sm (read_user_defined input room) (λ start n. user start n m.value absent) b (stores_user (length b) m.value) r v m.then' y
      (user_runs m.value s m.then' m.runs) m.ahead (before_one input room P m) g

  -- ---- with variables

  -- a value without variables was read to u and stored
  vars_step : (inner : Reader ℕ) {kd : ℕ} {c : Bool} {us : List ℕ} {row : ℕ → Row} {row' : ℕ → ℕ → ℕ → Row} (b : List ℕ) → Stores kd c (length b) us row → Varies kd c (length b) us row row'
      → {p : F} (f r : F) {σ₁ : Num} (σ₂ : Num) {s : State} (u : State) (z : List ℕ) (k n : ℕ)
      → takes_variables (get_or input s.at 0) ≡ true → inner s ≡ ok (length u.nodes) (stored b (row (length u.bytes)) k u)
      → Before input room P p us σ₁ s u
      → Told input room P 2 n (λ start m. read_pairs (read_symbol_like input room) inner m start) f σ₂ (stored b (row (length u.bytes)) k u) z
      → Step input room P (read_variables input room inner) (f_box (header_of kd 0 b n true c) p f r) r σ₂ s z
  unfolding read_variables read_instance_variables look
  vars_step inner {kd} {c} {us} {row} {row'} b ss vs {p} f r σ₂ {s} u z k n tv e bf t =
      let hd = header_of kd 0 b n true c in
      let st = length u.bytes in
      let h = length u.nodes in
      let start = length u.references in
      let s₁ = stored b (row st) k u in
      let w = t.then' in
      let r₁ = row' st start n in
      let e₁ : At w.nodes h (row st) = t.keeps.stands h (row st) tt (at_snoc u.nodes (row st)) in
      let e₂ : range w.bytes st (length b) ≡ b =
      ap (λ (l : List ℕ). range l st (length b)) t.frame.bytes_are ∙ range_more (u.bytes ++ b) t.frame.bytes_added st (length b) (omega (arith, length-append u.bytes b)) ∙ range_last u.bytes b in
      let e₃ : row_seen w r₁ ≡ box hd (us ++ t.values) =
      vs.sees (arena_of w 0) st start n ∙ ap (λ (l : List ℕ). box (header_of kd 0 l n true c) (us ++ range w.references start (n * 2))) e₂
      ∙ ap (λ (l : List ℕ). box hd (us ++ l)) t.holds in
      let e₄ : set_variables h start n (get_or w.nodes h nil) w ≡ ok h (with_row h r₁ w) =
      ap (λ (x : Row). set_variables h start n x w) (get_d_at w.nodes h nil (row st) e₁) ∙ vs.sets st h start n w in
      let l₁ : list_words hd ≡ n * 2 = words_pairs kd n b true c (omega (arith, ss.high)) in
      let l₃ = len_snoc u.nodes (row st) in
      let l₄ = len_snoc u.objects h in
      let l₅ = length-append u.bytes b in
      let p' = length s.references in
      let lg = bf.frame.references_grow in
      let vd = vs.varied st start n in
      let ev = bf.even in
      let wv = t.even in
      box_step input room P (read_variables input room inner) hd p f r (box (header_of kd 0 b 0 false c) us) r₁ σ₂ s u s₁ w us t.values z
      (step _ _ s tt s (note_runs _ s tv) ∙ step _ _ s h s₁ e ∙ t.runs (λ start m y. set_variables h start m (get_or y.nodes h nil) y) ∙ e₄)
      bf.built (stored_ph b ss k u n true) (stored_seen b ss k u bf.ranged) t.built e₃ t.ahead t.inv t.ranged
      (inside_varied w (row st) r₁ vd t.inside (t.ranged h (row st) e₁))
      (frame_trans bf.frame (frame_trans (stored_frame b ss k u p') (frame_below p' lg t.frame)))
      (keeps_trans bf.keeps (keeps_trans (stored_keeps b ss k u) t.keeps)) (t.form ∙ bf.form) (above_varied p' (row st) r₁ lg vd) bf.keeps.grows
      (record {
        nodes = omega (arith, ev.nodes, wv.nodes);
        objects = omega (arith, ev.objects, wv.objects);
        symbols = omega (arith, ev.symbols, wv.symbols);
        references = omega (arith, ev.references, wv.references);
        bytes = omega (arith, ev.bytes, wv.bytes);
      })

  -- room for the variables when the value has been stored
  fits_stored : {kd : ℕ} {c : Bool} {us : List ℕ} {row : ℕ → Row} (b : List ℕ) → Stores kd c (length b) us row → (p f r : F) (s u : State) (k n : ℕ) → Even 0 p s f_end u
      → Fits room 0 (f_box (header_of kd 0 b n true c) p f r) s → Fits room (n * 2) f (stored b (row (length u.bytes)) k u)
  fits_stored {kd} {c} {row = row} b ss p f r s u k n ev g =
      let l₁ : list_words (header_of kd 0 b n true c) ≡ n * 2 = words_pairs kd n b true c (omega (arith, ss.high)) in
      let l₃ = len_snoc u.nodes (row (length u.bytes)) in
      let l₄ = len_snoc u.objects (length u.nodes) in
      let l₅ = length-append u.bytes b in
      record {
        nodes = omega (arith, g.nodes, ev.nodes);
        objects = omega (arith, g.objects, ev.objects);
        symbols = omega (arith, g.symbols, ev.symbols);
        references = omega (arith, g.references, ev.references);
        bytes = omega (arith, g.bytes, ev.bytes);
      }

  -- p was read to u, then inner reads the bytes, and then come the variables
  vary_step : Small room → (inner : Reader ℕ) {kd : ℕ} {c : Bool} {us : List ℕ} (row : ℕ → ℕ → Row) {row' : ℕ → ℕ → ℕ → Row} (b : List ℕ) → Stores kd c (length b) us (λ st. row st (length b))
      → Varies kd c (length b) us (λ st. row st (length b)) row' → (n : ℕ) {p : F} (f r : F) (y : List ℕ) {σ₁ : Num} (σ₂ : Num) (v : ℕ) {s : State} (u : State) (z : List ℕ)
      → Items input room P (by_turns (read_symbol_like input room) inner n) f y (add_o v σ₁) σ₂
      → takes_variables (get_or input s.at 0) ≡ true → inner s ≡ read_text input room row u → Ahead input u.at (byte_string_bytes b ++ (integer_bytes n ++ (y ++ z))) → Before input room P p us σ₁ s u
      → Fits room 0 (f_box (header_of kd 0 b n true c) p f r) s → Step input room P (read_variables input room inner) (f_box (header_of kd 0 b n true c) p f r) r σ₂ s z
  vary_step sm inner {kd} {c} row b ss vs n {p} f r y {σ₁} σ₂ v {s} u z it tv e h bf g =
      let hd = header_of kd 0 b n true c in
      let x = integer_bytes n ++ (y ++ z) in
      let k = u.at + length (byte_string_bytes b) in
      let s₁ = stored b (row (length u.bytes) (length b)) k u in
      let l₁ : list_words hd ≡ n * 2 = words_pairs kd n b true c (omega (arith, ss.high)) in
      let t = told_pairs input room P n (read_symbol_like input room) inner s₁ z (omega (arith, g.references, l₁, sm.references)) it (stored_inv b ss k u P σ₁ v bf.ranged bf.inv) (stored_ranged b ss k u bf.ranged)
      (ahead_past (byte_string_bytes b) x h) (fits_stored b ss p f r s u k n bf.even g) in
      vars_step inner b ss vs f r σ₂ u z k n tv (e ∙ text_runs sm hd p f r row s u x h bf.even g) bf t

  pub takes_string_vars : Small room → (inner : Reader ℕ) (b : List ℕ) (n : ℕ) (c : Bool) (p f r : F) (y : List ℕ) (σ₁ σ₂ : Num) (v : ℕ)
      → Items input room P (by_turns (read_symbol_like input room) inner n) f y (add_o v σ₁) σ₂
      → (w : ℕ) (s u : State) (z : List ℕ) → optional_present w ≡ c → takes_variables (get_or input s.at 0) ≡ true → inner s ≡ read_text input room (λ start m. string start m absent w) u
      → Ahead input u.at (byte_string_bytes b ++ (integer_bytes n ++ (y ++ z))) → Before input room P p (optional_node w) σ₁ s u
      → Fits room 0 (f_box (header_of 7 0 b n true c) p f r) s → Step input room P (read_variables input room inner) (f_box (header_of 7 0 b n true c) p f r) r σ₂ s z
  takes_string_vars sm inner b n c p f r y σ₁ σ₂ v it w s u z o tv e h bf g =
      vary_step sm inner (λ start m. string start m absent w) b (stores_text text_string (length b) w o) (varies_string c (length b) w o) n f r y σ₂ v u z it tv e h bf g

  -- inner reads the kind byte k and then what rd reads
  abbrev pub Behind : ℕ → Reader ℕ → Reader ℕ → Type 0
  Behind k rd inner = (s : State) (x : List ℕ) → Ahead input s.at (k ∷ x) → inner s ≡ rd (at_set (s.at + 1) s)

  pub takes_user_vars : Small room → (inner : Reader ℕ) (k : ℕ) → takes_variables k ≡ true → Behind k (read_user_defined input room) inner → (b : List ℕ) (n : ℕ) (p f r : F) (x y : List ℕ) (σ σ₁ σ₂ : Num) (v : ℕ)
      → Takes input room P (read_symbol_like input room) p f_end x σ σ₁ → Items input room P (by_turns (read_symbol_like input room) inner n) f y (add_o v σ₁) σ₂
      → Takes input room P (read_variables input room inner) (f_box (header_of 8 0 b n true false) p f r) r (k ∷ x ++ byte_string_bytes b ++ integer_bytes n ++ y) σ σ₂
  unfolding state_seen
  takes_user_vars sm inner k tv bh b n p f r x y σ σ₁ σ₂ v tk it s z i a h g =
      let e₁ : x ++ byte_string_bytes b ++ integer_bytes n ++ y ++ z ≡ x ++ (byte_string_bytes b ++ (integer_bytes n ++ (y ++ z))) = simp append_assoc in
      let h₁ : Ahead input (s.at + 1) (x ++ (byte_string_bytes b ++ (integer_bytes n ++ (y ++ z)))) =
      ahead_as _ _ e₁ (ahead_past (k ∷ []) (x ++ byte_string_bytes b ++ integer_bytes n ++ y ++ z) h) in
      let m = tk (at_set (s.at + 1) s) (byte_string_bytes b ++ (integer_bytes n ++ (y ++ z))) i a h₁ (fits_before (header_of 8 0 b n true false) p f r s g) in
      let u = m.then' in
      vary_step sm inner (λ start m'. user start m' m.value absent) b (stores_user (length b) m.value) (varies_user (length b) m.value) n f r y σ₂ v u z it
      (ap takes_variables (first_ahead input s.at k _ h) ∙ tv) (bh s _ h ∙ user_runs m.value (at_set (s.at + 1) s) u m.runs) m.ahead (before_at input room P (s.at + 1) u.at (before_one input room P m)) g
