-- An accepted load built a forest; where it is in dump form, a canonical one, whose text is what was read.
use Rattle.std.specs.Prelude.{ℕ, suc, ◌+◌, ◌*◌, ◌≤◌, ◌≡◌, Bool, ◌⊎◌, length, drop}
use Rattle.std.proofs.Math.Path.{refl, ap, subst, sym as psym}
use Rattle.std.proofs.Common.{◌∙◌, inl, inr, arith}
use Rattle.std.proofs.Math.Bool.{true, false}
use Rattle.std.proofs.Math.Option.{some}
use mathlib.Core.List.{List, [], ◌∷◌, ◌++◌, append-nil, append_assoc}
use Rattle.std.proofs.Math.Seq.{set-append_seam}
use Rattle.definition.specs.Run.{ok}
use Rattle.definition.specs.Integer.{integer_bytes}
use Rattle.definition.specs.Magnitude.{magnitude, bignum_bytes}
use Rattle.definition.specs.Kind.{SYMBOL, SYMBOL_LINK, OBJECT_LINK, INSTANCE_VARIABLES, ARRAY, HASH, HASH_DEFAULT, OBJECT, USER_DEFINED, BIGNUM, USER_CLASS}
use Rattle.definition.specs.Node.{Row, nil, hash, object, string, user, bignum, absent, present, optional_node, optional_present}
use Rattle.definition.specs.Arena.{Arena, range}
use Rattle.definition.specs.State.{State, Room, noted}
use Rattle.definition.specs.Load.{begin, load}
use Rattle.definition.specs.Dump.{byte_string_bytes}
use Rattle.definition.specs.Graph.{Header, header, header_of, links, vars_links, vars_count, vars_present}
use Rattle.lists.specs.Lists.{At, NotIn, Below, at_snoc, apart}
use Rattle.lists.specs.Ranges.{range_last}
use Rattle.graph.specs.Forest as F
use Rattle.graph.specs.Forest.{Node, leaf, sym, box, F, f_end, f_leaf, f_box, f_ref, f_sym, f_symref, f_iv, Class, no_class, a_class, Texted, high_text, Text, t_end, t_nil, t_false, t_true, t_fixnum, t_symbol, t_symbol_link, t_object_link, t_array, t_hash, t_hash_default, t_object, t_bignum}
use Rattle.graph.specs.Build.{St, push, push_o, add_sym, put, Ph, B, b_end, b_leaf, b_box, b_ref, b_known, b_new, b_symref, b_iv, keep}
use Rattle.graph.specs.View.{see, text_row, see_text, arena_of, state_seen}
use Rattle.well_formed.specs.Right.{NumberRight}
use Rattle.load_forest.specs.Trace.{Off, Spelt, Mode, value, text, name, opening, elements, pairs, One, as_value, as_name, Plain, plain_nil, plain_true, plain_false, plain_fixnum, list_bytes, list_class, inner_text, inner_value, Trace, reading, plain, known, new, symbol_link, object_link, unclassed, classed, list, hash_default, object_pairs, text_bytes, user_bytes, bignum_node, stored, variables, no_elements, element, no_pairs, pair, forwards}
use Rattle.load_forest.specs.Readers.{load_traced}
use Rattle.load_forest.specs.Bytes.{integer_below}
use Rattle.load_forest.specs.Frames.{Ready, Left, left, ready_reading, ready_text, ready_value, ready_name, ready_opening, ready_pairs, ready_opened, ready_next, ready_after_name, ready_after_value}
use Rattle.states.specs.Rows.{list_length, see_array, see_hash, see_hash_default, see_object, see_string_variables, see_bignum, see_user, see_user_variables, Listed, is_array, is_hash, Varied, varied_string, varied_user, ranges}
use Rattle.states.specs.States.{read_to, sought, row_seen, Ranged, with_node, with_object_node, with_bytes, with_word, with_row, st_eq, length_seen, seen_at, seen_read_to, seen_sought, objs_seen, syms_seen, seen_symbol, seen_node, seen_object_node, seen_row, seen_word, frame_range, free_part, with_room, opened_ranged, opened_seen, room_seen, new_symbol_seen, bytes_node_seen, begin_ranged, with_new_symbol}
use Rattle.load_forest.specs.Spelling.{Named, named_new, named_link, OneTree, Trees, Told, told_all, joined, told_reading, closed_trees, closed_pairs, one_name, class_text, no_trees, more_trees, last_tree, no_pairs_told, ValuePairs, value_then, more_pairs, Lettered, letters, user_letters, class_tree, lettered_tree, varied_tree}

-- ---- which inputs

pub data Inputs : Type 0 where
  every canonical : Inputs

-- what a canonical input does not have: a repeated name, variables put on a value that stands already
abbrev pub Odd : Inputs → Type 0
Odd every = Unit {0}
Odd canonical = ⊥

formed : (w : Inputs) (x : Bool) → (x ≡ false → Odd w) → (Odd w → ⊥) → x ≡ true
formed w true q n = refl
formed w false q n = absurd (n (q refl))

-- ---- what is built

module _ (input : List ℕ) (w : Inputs) where
  -- from σ to τ trees were read that give vs: what stands before the trees to come
  pub record Head (P : (F → F) → Type 0) (σ : St) (vs : List ℕ) (τ : St) : Type 0 where
    pub head : F → F
    pub built : (r : F) (ws : List ℕ) (υ : St) → B (Odd w) r τ ws υ → B (Odd w) (head r) σ (vs ++ ws) υ
    pub told : (Odd w → ⊥) → P head

  whole : {P : (F → F) → Type 0} {σ τ : St} {vs : List ℕ} (x : Head P σ vs τ) → B (Odd w) (x.head f_end) σ vs τ
  whole {P} {σ} {τ} {vs} x = subst (λ (l : List ℕ). B (Odd w) (x.head f_end) σ l τ) (append-nil vs) (x.built f_end [] τ b_end)

  -- between states that are the same, and told otherwise
  moved : {P Q : (F → F) → Type 0} {σ σ' τ τ' : St} {vs : List ℕ} → σ ≡ σ' → τ ≡ τ' → ((h : F → F) → ((Odd w → ⊥) → P h) → (Odd w → ⊥) → Q h) → Head P σ vs τ → Head Q σ' vs τ'
  moved {P} {Q} {σ} {σ'} {τ} {τ'} {vs} p q f x = record {
    head = x.head;
    built = λ r ws υ b. subst (λ (ρ : St). B (Odd w) (x.head r) ρ (vs ++ ws) υ) p (x.built r ws υ (subst (λ (ρ : St). B (Odd w) r ρ ws υ) (psym q) b));
    told = f x.head x.told;
  }

  head_none : {P : (F → F) → Type 0} (σ : St) → P (λ r. r) → Head P σ [] σ
  head_none σ p = record { head = λ r. r; built = λ r ws υ b. b; told = λ n. p }

  head_append : {P Q R : (F → F) → Type 0} {σ τ υ : St} {us vs : List ℕ} → ((h g : F → F) → P h → Q g → R (λ r. h (g r))) → Head P σ us τ → Head Q τ vs υ → Head R σ (us ++ vs) υ
  head_append {σ = σ} {us = us} {vs = vs} f x y = record {
    head = λ r. x.head (y.head r);
    built = λ r ws υ b. subst (λ (l : List ℕ). B (Odd w) (x.head (y.head r)) σ l υ) (psym (append_assoc us vs ws)) (x.built (y.head r) (vs ++ ws) υ (y.built r ws υ b));
    told = λ n. f x.head y.head (x.told n) (y.told n);
  }

  module _ {P : (F → F) → Type 0} (σ : St) where
    head_leaf : (k x : ℕ) → ((Odd w → ⊥) → P (f_leaf k x)) → Head P σ (length σ.nodes ∷ []) (push (leaf k x) σ)
    head_leaf k x p = record { head = f_leaf k x; built = λ r ws υ b. b_leaf b; told = p }

    head_known : (m : Bool) (b : List ℕ) (v : ℕ) → Odd w → At σ.nodes v (sym b) → Head P σ (v ∷ []) (add_sym v σ)
    head_known m b v o a = record { head = f_sym m b; built = λ r ws υ z. b_known o a z; told = λ n. absurd (n o) }

    head_new : (m : Bool) (b : List ℕ) → NotIn (sym b) σ.nodes → ((Odd w → ⊥) → P (f_sym m b)) → Head P σ (length σ.nodes ∷ []) (add_sym (length σ.nodes) (push (sym b) σ))
    head_new m b n p = record { head = f_sym m b; built = λ r ws υ z. b_new n z; told = p }

    head_symref : (m : Bool) (k v : ℕ) → At σ.syms k v → ((Odd w → ⊥) → P (f_symref m k)) → Head P σ (v ∷ []) σ
    head_symref m k v a p = record { head = f_symref m k; built = λ r ws υ z. b_symref a z; told = p }

    head_ref : (k v : ℕ) → At σ.objs k v → ((Odd w → ⊥) → P (f_ref k)) → Head P σ (v ∷ []) σ
    head_ref k v a p = record { head = f_ref k; built = λ r ws υ z. b_ref a z; told = p }

  head_box : {P : (F → F) → Type 0} {σ σ₁ τ : St} {us ms : List ℕ} (hd : Header) (c f : F) (φ : Node) → Ph (Odd w) hd φ → B (Odd w) c σ us σ₁ → B (Odd w) f (push_o φ σ₁) ms τ → ((Odd w → ⊥) → P (f_box hd c f))
      → Head P σ (length σ₁.nodes ∷ []) (put (length σ₁.nodes) (box hd (us ++ ms)) τ)
  head_box hd c f φ h b₀ b₁ p = record { head = f_box hd c f; built = λ r ws υ z. b_box b₀ h b₁ z; told = p }

  head_iv : {P : (F → F) → Type 0} {σ σ₁ σ₂ : St} {v : ℕ} {ms : List ℕ} (hd hd' : Header) (us os : List ℕ) (f p : F) → Odd w → B (Odd w) f σ (v ∷ []) σ₁ → B (Odd w) p σ₁ ms σ₂ → At σ₂.nodes v (box hd (us ++ os))
      → Head P σ (v ∷ []) (put v (box hd' (us ++ ms)) σ₂)
  head_iv hd hd' us os f p o b₁ b₂ a = record { head = f_iv f p; built = λ r ws υ z. b_iv {h = hd} hd' us os o b₁ b₂ a z; told = λ n. absurd (n o) }

  -- ---- the same, between states

  placed : {P : (F → F) → Type 0} {σ σ' τ τ' : St} {vs vs' : List ℕ} → σ ≡ σ' → vs ≡ vs' → τ ≡ τ' → Head P σ vs τ → Head P σ' vs' τ'
  placed {P} {σ} {σ'} {τ} {τ'} {vs} {vs'} p v q x = record {
    head = x.head;
    built = λ r ws υ b. subst (λ (ρ : St). B (Odd w) (x.head r) ρ (vs' ++ ws) υ) p (subst (λ (us : List ℕ). B (Odd w) (x.head r) σ (us ++ ws) υ) v (x.built r ws υ (subst (λ (ρ : St). B (Odd w) r ρ ws υ) (psym q) b)));
    told = x.told;
  }

  -- the new node's number
  number : (s : State) → length (state_seen s).nodes ∷ [] ≡ length s.nodes ∷ []
  number s = ap (λ (n : ℕ). n ∷ []) (length_seen s)

  -- a box opened at s₁ and filled at t
  box_of : {P : (F → F) → Type 0} (s s₁ s₂ t : State) (r : Row) (hd : Header) (us ms : List ℕ) (c f : F) → B (Odd w) c (state_seen s) us (state_seen s₁) → state_seen s₂ ≡ push_o (leaf 0 0) (state_seen s₁)
      → B (Odd w) f (state_seen s₂) ms (state_seen t) → row_seen t r ≡ box hd (us ++ ms) → ((Odd w → ⊥) → P (f_box hd c f)) → Head P (state_seen s) (length s₁.nodes ∷ []) (state_seen (with_row (length s₁.nodes) r t))
  box_of s s₁ s₂ t r hd us ms c f b₀ e b₁ q p =
      placed refl (number s₁)
      (ap (λ (n : ℕ). put n (box hd (us ++ ms)) (state_seen t)) (length_seen s₁) ∙ ap (λ (n : Node). put (length s₁.nodes) n (state_seen t)) (psym q) ∙ psym (seen_row (length s₁.nodes) r t))
      (head_box hd c f (leaf 0 0) (inl refl) b₀ (subst (λ (ρ : St). B (Odd w) f ρ ms (state_seen t)) e b₁) p)

  -- a class v or none was read, and then the bytes q
  pub record Opened (v : ℕ) (q p : List ℕ) (s : State) (us : List ℕ) (t : State) : Type 0 where
    forest : F
    built : B (Odd w) forest (state_seen s) us (state_seen t)
    told : (Odd w → ⊥) → (x : List ℕ) × (drop s.at input ≡ x ++ drop t.at input) × (z : List ℕ) × Class (optional_present v) forest z × (z ++ q ≡ p ++ x)

  -- a byte string was stored: after its name or its class, if it has one, its node is added whole
  pub record Stored (l : ℕ) (p : List ℕ) (s : State) (vs : List ℕ) (t : State) : Type 0 where
    kd : ℕ
    class : Bool
    bytes : List ℕ
    us : List ℕ
    forest : F
    before : St
    named : B (Odd w) forest (state_seen s) us before
    numbered : vs ≡ length before.nodes ∷ []
    is : state_seen t ≡ push_o (box (header_of kd 0 bytes 0 false class) us) before
    high : 7 ≤ kd
    told : (Odd w → ⊥) → (x : List ℕ) × (drop s.at input ≡ x ++ drop t.at input) × Lettered l kd class forest bytes (p ++ x)

  -- a box added whole
  put_open : (x y : Node) (σ : St) → put (length σ.nodes) x (push_o y σ) ≡ push_o x σ
  put_open x y σ = st_eq _ _ (set-append_seam σ.nodes y [] x) refl refl

  stored_head : {l : ℕ} {p : List ℕ} {s : State} {vs : List ℕ} {t : State} → Stored l p s vs t → Head (Told input value l p s t) (state_seen s) vs (state_seen t)
  stored_head {l} {p} {s} {vs} {t} x =
      let hd = header_of x.kd 0 x.bytes 0 false x.class in
      placed refl (psym x.numbered) (put_open (box hd (x.us ++ [])) (leaf 0 0) x.before ∙ ap (λ (us : List ℕ). push_o (box hd us) x.before) (append-nil x.us) ∙ psym x.is)
      (head_box hd x.forest f_end (leaf 0 0) (inl refl) x.named b_end (λ n. let (y, e, z) = x.told n in record { bytes = y; here = e; says = lettered_tree z }))

  -- ---- what was read, by its mode

  abbrev Out : Mode → ℕ → List ℕ → State → List ℕ → State → Type 0
  Out value l p s vs t = Head (Told input value l p s t) (state_seen s) vs (state_seen t)
  Out text l p s vs t = Stored l p s vs t
  Out name l p s vs t = Head (Told input name l p s t) (state_seen s) vs (state_seen t)
  Out (opening v q) l p s vs t = Opened v q p s vs t
  Out (elements n i) l p s vs t = Head (Told input (elements n i) l p s t) (state_seen s) vs (state_seen t)
  Out (pairs n i) l p s vs t = Head (Told input (pairs n i) l p s t) (state_seen s) vs (state_seen t)

  module _ {k : ℕ} {y : List ℕ} {n : Bool} {s : State} (l : ℕ) (p vs : List ℕ) (t : State) (a : Spelt input s k n y) (q : Off n → Odd w) where
    head_reading : (m : Mode) → Head (Told input m l (p ++ y) (read_to k n s) t) (state_seen (read_to k n s)) vs (state_seen t) → Head (Told input m l p s t) (state_seen s) vs (state_seen t)
    head_reading m x = moved (seen_read_to k n s) refl (λ h g o. told_reading a (formed w n q o) (g o)) x

    opened_reading : (v : ℕ) (q : List ℕ) → Opened v q (p ++ y) (read_to k n s) vs t → Opened v q p s vs t
    opened_reading v g x = record {
      forest = x.forest;
      built = subst (λ (ρ : St). B (Odd w) x.forest ρ vs (state_seen t)) (seen_read_to k n s) x.built;
      told = λ o. let (z, e, c, i, j) = x.told o in (y ++ z, joined y z _ (a.text (formed w n q o)) e, c, i, j ∙ append_assoc p y z);
    }

    stored_reading : Stored l (p ++ y) (read_to k n s) vs t → Stored l p s vs t
    stored_reading x = record {
      kd = x.kd;
      class = x.class;
      bytes = x.bytes;
      us = x.us;
      forest = x.forest;
      before = x.before;
      named = subst (λ (ρ : St). B (Odd w) x.forest ρ x.us x.before) (seen_read_to k n s) x.named;
      numbered = x.numbered;
      is = x.is;
      high = x.high;
      told = λ o. let (z, e, c) = x.told o in (y ++ z, joined y z _ (a.text (formed w n q o)) e, subst (Lettered l x.kd x.class x.forest x.bytes) (append_assoc p y z) c);
    }

    out_reading : (m : Mode) → Out m l (p ++ y) (read_to k n s) vs t → Out m l p s vs t
    out_reading value x = head_reading value x
    out_reading text x = stored_reading x
    out_reading name x = head_reading name x
    out_reading (opening v g) x = opened_reading v g x
    out_reading (elements j i) x = head_reading (elements j i) x
    out_reading (pairs j i) x = head_reading (pairs j i) x

  -- ---- the steps

  plain_tree : {l : ℕ} {p : List ℕ} (r : Row) → Plain input p r → (k : ℕ) × (x : ℕ) × ((A : Arena) → see A r ≡ leaf k x) × (Below 256 input → OneTree (suc l) (f_leaf k x) p)
  unfolding see header
  plain_tree r plain_nil = (0, 0, λ A. refl, λ b. record { trees_are = λ r. refl; writes = λ m r y v t. t_nil v t })
  plain_tree r plain_true = (1, 1, λ A. refl, λ b. record { trees_are = λ r. refl; writes = λ m r y v t. t_true v t })
  plain_tree r plain_false = (1, 0, λ A. refl, λ b. record { trees_are = λ r. refl; writes = λ m r y v t. t_false v t })
  plain_tree r (plain_fixnum x s t e) = (2, x, λ A. refl, λ b. record { trees_are = λ r. refl; writes = λ m r y v u. t_fixnum v (integer_below input b s t x e) u })

  module _ (low : (Odd w → ⊥) → Below 256 input) where
    out_plain : {l : ℕ} {p : List ℕ} (s : State) (r : Row) → Plain input p r → Out value (suc l) p s (length s.nodes ∷ []) (with_node r s)
    out_plain s r z =
        let (k, x, q, o) = plain_tree r z in
        placed refl (number s) (psym (seen_node r s ∙ ap (λ (y : Node). push y (state_seen s)) (q (arena_of s 0)))) (head_leaf (state_seen s) k x (λ n. told_all refl (o (low n))))

  -- a symbol, as a value or as a name
  known_head : {l : ℕ} {m : Mode} (p : List ℕ) (s t : State) (b : List ℕ) (h : ℕ) → One l m → Odd w → At (state_seen s).nodes h (sym b) → state_seen t ≡ add_sym h (state_seen s) → Out m l p s (h ∷ []) t
  known_head p s t b h as_value o a e = placed refl refl (psym e) (head_known (state_seen s) true b h o a)
  known_head p s t b h as_name o a e = placed refl refl (psym e) (head_known (state_seen s) false b h o a)

  new_seen : (s : State) (b : List ℕ) → Ranged s → state_seen (with_new_symbol b (sought b s)) ≡ add_sym (length (state_seen s).nodes) (push (sym b) (state_seen s))
  new_seen s b h = new_symbol_seen b (sought b s) h ∙ ap (λ (σ : St). add_sym (length σ.nodes) (push (sym b) σ)) (seen_sought b s)

  new_head : {l : ℕ} {m : Mode} {p : List ℕ} (s : State) (b : List ℕ) → One l m → p ≡ SYMBOL ∷ byte_string_bytes b → Ranged s → NotIn (sym b) (state_seen s).nodes → Out m l p s (length s.nodes ∷ []) (with_new_symbol b (sought b s))
  new_head s b (as_value {l}) e h n =
      placed refl (number s) (psym (new_seen s b h))
      (head_new (state_seen s) true b n (λ _. told_all refl (subst (OneTree (suc l) (f_sym true b)) (psym e) (record { trees_are = λ r. refl; writes = λ m r y v t. t_symbol v t }))))
  new_head s b as_name e h n = placed refl (number s) (psym (new_seen s b h)) (head_new (state_seen s) false b n (λ _. told_all refl (subst (Named (f_sym false b)) (psym e) named_new)))

  link_head : {l : ℕ} {m : Mode} {p : List ℕ} (s : State) (k v : ℕ) → One l m → p ≡ SYMBOL_LINK ∷ integer_bytes k → At s.symbols k v → Out m l p s (v ∷ []) s
  link_head s k v (as_value {l}) e a =
      head_symref (state_seen s) true k v (rw (syms_seen s) a) (λ _. told_all refl (subst (OneTree (suc l) (f_symref true k)) (psym e) (record { trees_are = λ r. refl; writes = λ m r y v t. t_symbol_link v t })))
  link_head s k v as_name e a = head_symref (state_seen s) false k v (rw (syms_seen s) a) (λ _. told_all refl (subst (Named (f_symref false k)) (psym e) named_link))

  ref_head : {l : ℕ} {p : List ℕ} (s : State) (k v : ℕ) → p ≡ OBJECT_LINK ∷ integer_bytes k → At s.objects k v → Out value (suc l) p s (v ∷ []) s
  ref_head {l} s k v e a =
      head_ref (state_seen s) k v (rw (objs_seen s) a) (λ _. told_all refl (subst (OneTree (suc l) (f_ref k)) (psym e) (record { trees_are = λ r. refl; writes = λ m r y v t. t_object_link v t })))

  -- a class: none, or a name
  out_unclassed : {p q : List ℕ} (s : State) → p ≡ q → Opened 0 q p s [] s
  unfolding optional_present
  out_unclassed {p} s e = record { forest = f_end; built = b_end; told = λ o. ([], refl, [], no_class, psym (append-nil p ∙ e)) }

  out_classed : {l k c : ℕ} {p q : List ℕ} {a : Bool} (s t : State) → p ≡ USER_CLASS ∷ [] → Spelt input t k a q → (Off a → Odd w) → Out name l [] s (c ∷ []) t → Opened (suc c) q p s (c ∷ []) (read_to k a t)
  unfolding optional_present
  out_classed {k = k} {c = c} {q = q} {a = a} s t e b f x = record {
    forest = x.head f_end;
    built = subst (B (Odd w) (x.head f_end) (state_seen s) (c ∷ [])) (psym (seen_read_to k a t)) (whole x);
    told = λ o.
        let d = x.told o in
        (d.bytes ++ q, joined d.bytes q _ d.here (b.text (formed w a f o)), USER_CLASS ∷ d.bytes, a_class (one_name d.says), ap (λ (p : List ℕ). p ++ (d.bytes ++ q)) (psym e));
  }

  -- a class, and then bytes that it is told with
  after_class : {v : ℕ} {q p : List ℕ} {s : State} {us : List ℕ} {o : State} {l : ℕ} {t : State} {h : F → F} (c : Opened v q p s us o) (n : Odd w → ⊥) (x : List ℕ) → drop o.at input ≡ x ++ drop t.at input
      → ((z : List ℕ) → Class (optional_present v) c.forest z → OneTree l h (z ++ (q ++ x))) → Told input value l p s t h
  after_class {q = q} {p = p} {l = l} {h = h} c n x e f =
      let (y, g, z, i, j) = c.told n in
      record { bytes = y ++ x; here = joined y x _ g e; says = subst (OneTree l h) (psym (append_assoc z q x) ∙ ap (λ (b : List ℕ). b ++ x) j ∙ append_assoc p y x) (f z i) }

  -- an array or a hash: its header, as it is seen, and its tree
  listed_box : {q l : ℕ} (A : Arena) (r : Row) (ms : List ℕ) (g : Listed q r) → range A.references q (list_length r) ≡ ms
      → (hd : Header) × (see A r ≡ box hd (optional_node (list_class g) ++ ms))
      × ((c : F) (z : List ℕ) → Class (optional_present (list_class g)) c z → (h : F → F) (x : List ℕ) → Trees l (list_length r) h x → OneTree (suc l) (f_box hd c (h f_end)) (z ++ (list_bytes g ++ x)))
  unfolding list_length ranges
  listed_box {q} A r ms (is_array n v) e = (
    header_of 4 0 [] n false (optional_present v),
    see_array A q n v ms e,
    λ c z i h x a. let (t, j) = closed_trees a in class_tree z (ARRAY ∷ integer_bytes n ++ x) (λ r. refl) (λ m r y v u. t_array v i j t u),
  )
  listed_box {q} A r ms (is_hash n v) e = (
    header_of 5 0 [] n false (optional_present v),
    see_hash A q n v ms e,
    λ c z i h x a. let (t, j) = closed_trees a in class_tree z (HASH ∷ integer_bytes n ++ x) (λ r. refl) (λ m r y v u. t_hash v i j t u),
  )

  out_list : {l : ℕ} {p : List ℕ} (s o t : State) (r : Row) (ms : List ℕ) (z : Listed (length o.references) r) → Opened (list_class z) (list_bytes z) p s (optional_node (list_class z)) o → Ranged o
      → range t.references (length o.references) (list_length r) ≡ ms → Out (elements (list_length r) (length o.references)) l [] (with_room (list_length r) (with_object_node nil o)) ms t
      → Out value (suc l) p s (length o.nodes ∷ []) (with_row (length o.nodes) r t)
  out_list {l} {p} s o t r ms z c h e x =
      let (hd, q, f) = listed_box {l = l} (arena_of t 0) r ms z e in
      box_of s o _ t r hd _ ms c.forest (x.head f_end) c.built (room_seen (list_length r) (with_object_node nil o) (opened_ranged o h) ∙ opened_seen o) (whole x) q
      (λ n. let a = x.told n in after_class c n a.bytes a.here (λ b i. f c.forest b i x.head a.bytes a.says))

  out_hash_default : {l : ℕ} {p : List ℕ} (s o t u : State) (n d v : ℕ) (ms : List ℕ) → Opened v (HASH_DEFAULT ∷ integer_bytes n) p s (optional_node v) o → Ranged o → range u.references (length o.references) (n * 2) ≡ ms
      → Out (elements (n * 2) (length o.references)) l [] (with_room (n * 2) (with_object_node nil o)) ms t → Out value l [] t (d ∷ []) u
      → Out value (suc l) p s (length o.nodes ∷ []) (with_row (length o.nodes) (hash (length o.references) n (d + 1) v) u)
  out_hash_default {l} {p} s o t u n d v ms c h e x y =
      let hd = header_of 5 0 [] n true (optional_present v) in
      let g = x.head (y.head f_end) in
      box_of s o _ u (hash (length o.references) n (d + 1) v) hd (optional_node v) (ms ++ (d ∷ [])) c.forest g c.built
      (room_seen (n * 2) (with_object_node nil o) (opened_ranged o h) ∙ opened_seen o) (x.built (y.head f_end) (d ∷ []) (state_seen u) (whole y))
      (see_hash_default (arena_of u 0) (length o.references) n d v ms e)
      (λ i.
      let a = x.told i in
      let b = y.told i in
      let (f, k) = last_tree a.says b.says in
      after_class c i (a.bytes ++ b.bytes) (joined a.bytes b.bytes _ a.here b.here)
      (λ z j. class_tree z (HASH_DEFAULT ∷ integer_bytes n ++ (a.bytes ++ b.bytes)) (λ r. refl) (λ m r y v u. t_hash_default v j k f u)))

  out_object : {l k : ℕ} {p : List ℕ} {a : Bool} (s t u : State) (n c : ℕ) (ms : List ℕ) → p ≡ OBJECT ∷ [] → Ranged t → range u.references (length t.references) (n * 2) ≡ ms
      → Spelt input t k a (integer_bytes n) → (Off a → Odd w)
      → Out name l [] (with_object_node nil s) (c ∷ []) t → Out (pairs n (length t.references)) l [] (with_room (n * 2) (read_to k a t)) ms u
      → Out value (suc l) p s (length s.nodes ∷ []) (with_row (length s.nodes) (object (length t.references) n c) u)
  out_object {l} {k} {p} {a} s t u n c ms f h e b q x y =
      let hd = header_of 6 0 [] n false false in
      let g = x.head (y.head f_end) in
      let members = subst (λ (ρ : St). B (Odd w) (y.head f_end) ρ ms (state_seen u)) (room_seen (n * 2) (read_to k a t) h ∙ seen_read_to k a t) (whole y) in
      box_of s s (with_object_node nil s) u (object (length t.references) n c) hd [] (c ∷ ms) f_end g b_end (opened_seen s) (x.built (y.head f_end) ms (state_seen u) members)
      (see_object (arena_of u 0) (length t.references) n c ms e)
      (λ o.
      let d = x.told o in
      let i = y.told o in
      record {
        bytes = d.bytes ++ integer_bytes n ++ i.bytes;
        here = joined (d.bytes ++ integer_bytes n) i.bytes _ (joined d.bytes (integer_bytes n) _ d.here (b.text (formed w a q o))) i.here;
        says = subst (λ (z : List ℕ). OneTree (suc l) (f_box hd f_end g) (z ++ (d.bytes ++ integer_bytes n ++ i.bytes))) (psym f)
            (record { trees_are = λ r. refl; writes = λ m r z v v'. t_object v (class_text d.says (closed_pairs i.says)) v' });
      })

  -- a node with its bytes is added at t
  stored_seen : (t : State) (b us : List ℕ) (kd : ℕ) (d : Bool) (r : Row) → Ranged t → row_seen (with_bytes b t) r ≡ box (header_of kd 0 b 0 false d) us
      → state_seen (with_object_node r (with_bytes b t)) ≡ push_o (box (header_of kd 0 b 0 false d) us) (state_seen t)
  stored_seen t b us kd d r h e = bytes_node_seen b t r _ h e

  out_text : {l k n : ℕ} {d : Bool} {p : List ℕ} (q : Texted k n d) (v : ℕ) (s o : State) (b : List ℕ) → optional_present v ≡ d → Opened v (k ∷ byte_string_bytes b) p s (optional_node v) o → Ranged o
      → Out text (suc l) p s (length o.nodes ∷ []) (with_object_node (text_row q (length o.bytes) (length b) v) (with_bytes b o))
  out_text {l} {k} {n} {d} {p} q v s o b e c h = record {
    kd = n;
    class = d;
    bytes = b;
    us = optional_node v;
    forest = c.forest;
    before = state_seen o;
    named = c.built;
    numbered = psym (number o);
    is = stored_seen o b (optional_node v) n d _ h (see_text q (arena_of (with_bytes b o) 0) (length o.bytes) (length b) v b e (range_last o.bytes b));
    high = high_text q;
    told = λ i.
        let (x, f, z, j, g) = c.told i in
        (x, f, subst (Lettered (suc l) n d c.forest b) g (letters q (subst (λ (d : Bool). Class d c.forest z) e j)));
  }

  out_bignum : {l : ℕ} {p : List ℕ} (s : State) (low high n : ℕ) (m : Bool) → p ≡ BIGNUM ∷ bignum_bytes m n → magnitude low high ≡ n → NumberRight n m
      → Out value (suc l) p s (length s.nodes ∷ []) (with_object_node (bignum low high m) s)
  out_bignum {l} s low high n m e q h =
      let hd = header_of 10 n [] 0 m false in
      placed refl (number s) (put_open (box hd []) (leaf 0 0) (state_seen s) ∙ psym (seen_object_node (bignum low high m) s ∙ ap (λ (x : Node). push_o x (state_seen s)) (see_bignum (arena_of s 0) low high n m q)))
      (head_box hd f_end f_end (leaf 0 0) (inl refl) b_end b_end (λ o. told_all refl (subst (OneTree (suc l) (f_box hd f_end f_end)) (psym e) (record { trees_are = λ r. refl; writes = λ i r y v t. t_bignum v h t }))))

  out_user : {l k : ℕ} {p : List ℕ} {a : Bool} (s t : State) (c : ℕ) (b : List ℕ) → p ≡ USER_DEFINED ∷ [] → Ranged t → Spelt input t k a (byte_string_bytes b) → (Off a → Odd w) → Out name l [] s (c ∷ []) t
      → Out text (suc l) p s (length t.nodes ∷ []) (with_object_node (user (length t.bytes) (length b) c absent) (with_bytes b (read_to k a t)))
  out_user {l} {k} {p} {a} s t c b e h y q x = record {
    kd = 8;
    class = false;
    bytes = b;
    us = c ∷ [];
    forest = x.head f_end;
    before = state_seen t;
    named = whole x;
    numbered = psym (number t);
    is = stored_seen (read_to k a t) b (c ∷ []) 8 false _ h (see_user (arena_of (with_bytes b t) 0) (length t.bytes) (length b) c b (range_last t.bytes b)) ∙ ap (push_o (box (header_of 8 0 b 0 false false) (c ∷ []))) (seen_read_to k a t);
    high = omega arith;
    told = λ o.
        let d = x.told o in
        (d.bytes ++ byte_string_bytes b, joined d.bytes (byte_string_bytes b) _ d.here (y.text (formed w a q o)), subst (λ (z : List ℕ). Lettered (suc l) 8 false (x.head f_end) b (z ++ (d.bytes ++ byte_string_bytes b))) (psym e) (user_letters (one_name d.says)));
  }

  -- ---- variables

  -- a row and the same row with other variables
  varied_seen : {p n : ℕ} (A : Arena) (r r' : Row) (ms : List ℕ) → Varied p n r r' → range A.references p (n * 2) ≡ ms
      → (hd : Header) × (hd' : Header) × (us : List ℕ) × (os : List ℕ) × (see A r ≡ box hd (us ++ os)) × (see A r' ≡ box hd' (us ++ ms))
  unfolding see header links
  varied_seen {p} {n} A r r' ms (varied_string {s = s} {l = l} {w = c} {v = v}) e =
      (header A (string s l v c), header_of 7 0 (range A.bytes s l) n true (optional_present c), optional_node c, vars_links A v, refl, see_string_variables A s l p n c _ ms refl e)
  varied_seen {p} {n} A r r' ms (varied_user {s = s} {l = l} {c = c} {v = v}) e =
      (header A (user s l c v), header_of 8 0 (range A.bytes s l) n true false, c ∷ [], vars_links A v, refl, see_user_variables A s l c p n _ ms refl e)

  module _ {l k : ℕ} {a : Bool} (s t u : State) (n h : ℕ) (r r' : Row) (ms : List ℕ) (g : Ranged t) (e : range u.references (length t.references) (n * 2) ≡ ms)
      (y : Out (pairs n (length t.references)) l [] (with_room (n * 2) (read_to k a t)) ms u) (i : At u.nodes h r) (v : Varied (length t.references) n r r') where
    members_built : B (Odd w) (y.head f_end) (state_seen t) ms (state_seen u)
    members_built = subst (λ (ρ : St). B (Odd w) (y.head f_end) ρ ms (state_seen u)) (room_seen (n * 2) (read_to k a t) g ∙ seen_read_to k a t) (whole y)

    -- put on a value that stands
    out_put : {p : List ℕ} {f : F} → Odd w → B (Odd w) f (state_seen s) (h ∷ []) (state_seen t) → Out value (suc l) p s (h ∷ []) (with_row h r' u)
    out_put {p} {f} o x =
        let (hd, hd', us, os, e₁, e₂) = varied_seen (arena_of u 0) r r' ms v e in
        let at : At (state_seen u).nodes h (box hd (us ++ os)) = seen_at u h r i ∙ ap some e₁ in
        placed refl refl (ap (λ (b : Node). put h b (state_seen u)) (psym e₂) ∙ psym (seen_row h r' u)) (head_iv hd hd' us os f (y.head f_end) o x members_built at)

-- a box's header and members
abbrev header_in : Node → Header
header_in (leaf k x) = header_of 0 0 [] 0 false false
header_in (sym b) = header_of 0 0 [] 0 false false
header_in (box h ms) = h

abbrev members_in : Node → List ℕ
members_in (leaf k x) = []
members_in (sym b) = []
members_in (box h ms) = ms

-- a row that is seen without variables, and with them
varied_whole : {p n : ℕ} (A : Arena) (r r' : Row) (ms : List ℕ) → Varied p n r r' → range A.references p (n * 2) ≡ ms → (kd : ℕ) (d : Bool) (b us : List ℕ) → see A r ≡ box (header_of kd 0 b 0 false d) us
    → (see A r' ≡ box (header_of kd 0 b n true d) (us ++ ms)) × ((kd ≡ 7) ⊎ (kd ≡ 8))
unfolding see header links vars_links vars_count vars_present
varied_whole {n = n} A r r' ms (varied_string {w = w} {v = absent}) e kd d b us q =
    let k = ap (λ (x : Node). (header_in x).kind) q in
    let o = ap (λ (x : Node). (header_in x).class) q in
    let c = ap (λ (x : Node). (header_in x).bytes) q in
    let m = psym (append-nil (optional_node w)) ∙ ap members_in q in
    (λ i. box (header_of (k i) 0 (c i) n true (o i)) (m i ++ e i), inl (psym k))
varied_whole A r r' ms (varied_string {v = present a j}) e kd d b us q = let z = ap (λ (x : Node). (header_in x).presence) q in apart (cc)
varied_whole {n = n} A r r' ms (varied_user {v = absent}) e kd d b us q =
    let k = ap (λ (x : Node). (header_in x).kind) q in
    let o = ap (λ (x : Node). (header_in x).class) q in
    let c = ap (λ (x : Node). (header_in x).bytes) q in
    let m = ap members_in q in
    (λ i. box (header_of (k i) 0 (c i) n true (o i)) (m i ++ e i), inr (psym k))
varied_whole A r r' ms (varied_user {v = present a j}) e kd d b us q = let z = ap (λ (x : Node). (header_in x).presence) q in apart (cc)

same_node : (l : List Node) (i : ℕ) (x y : Node) → At l i x → At l i y → x ≡ y
same_node l i x y a b = cc

same_number : (h k : ℕ) → ◌≡◌ {A = List ℕ} (h ∷ []) (k ∷ []) → h ≡ k
same_number h k e = cc

module _ (input : List ℕ) {l k : ℕ} {p : List ℕ} {a : Bool} (s t u : State) (n h : ℕ) (r r' : Row) (ms : List ℕ) (f : p ≡ INSTANCE_VARIABLES ∷ []) (g : Ranged t)
    (e : range u.references (length t.references) (n * 2) ≡ ms) (b : Spelt input t k a (integer_bytes n)) (i : At u.nodes h r) (v : Varied (length t.references) n r r') where
  -- variables of what stands directly after `I`: in a canonical input they are its from the start
  out_variables : (w : Inputs) → (Off a → Odd w) → Stored input w l [] s (h ∷ []) t → Out input w (pairs n (length t.references)) l [] (with_room (n * 2) (read_to k a t)) ms u → Out input w value (suc l) p s (h ∷ []) (with_row h r' u)
  out_variables every q x y = out_put input every s t u n h r r' ms g e y i v tt (whole input every (stored_head input every x))
  out_variables canonical q x y =
      let φ = box (header_of x.kd 0 x.bytes 0 false x.class) x.us in
      let hd = header_of x.kd 0 x.bytes n true x.class in
      let d = y.head f_end in
      let z = same_number h (length x.before.nodes) x.numbered in
      let members = members_built input canonical s t u n h r r' ms g e y i v in
      let stands : At (state_seen t).nodes h φ = rw (x.is, z) (at_snoc x.before.nodes φ) in
      let c = same_node (state_seen u).nodes h (row_seen u r) φ (seen_at u h r i) (keep members h φ stands) in
      let (o, kinds) = varied_whole (arena_of u 0) r r' ms v e x.kd x.class x.bytes x.us c in
      placed input canonical refl (psym x.numbered)
      (ap (λ (j : ℕ). put j (box hd (x.us ++ ms)) (state_seen u)) (psym z) ∙ ap (λ (m : Node). put h m (state_seen u)) (psym o) ∙ psym (seen_row h r' u))
      (head_box input canonical hd x.forest d φ (inr (λ j. j, λ b j. apart (cc), x.high)) x.named (subst (λ (ρ : St). B ⊥ d ρ ms (state_seen u)) x.is members)
      (λ j.
      let (y₁, e₁, letters-are) = x.told j in
      let y₂ = y.told j in
      record {
        bytes = y₁ ++ integer_bytes n ++ y₂.bytes;
        here = joined (y₁ ++ integer_bytes n) y₂.bytes _ (joined y₁ (integer_bytes n) _ e₁ (b.text (formed canonical a q j))) y₂.here;
        says = subst (λ (j : List ℕ). OneTree (suc l) (f_box hd x.forest d) (j ++ (y₁ ++ integer_bytes n ++ y₂.bytes))) (psym f) (varied_tree letters-are kinds (closed_pairs y₂.says));
      }))

-- ---- any trace

module _ (input : List ℕ) (w : Inputs) where
  out_element : {l : ℕ} (s t u : State) (n i v : ℕ) (vs : List ℕ) → Ready (elements (suc n) i) s → Left value s (v ∷ []) t
      → Out input w value l [] s (v ∷ []) t → Out input w (elements n (suc i)) l [] (with_word i v t) vs u → Out input w (elements (suc n) i) l [] s (v ∷ vs) u
  out_element s t u n i v vs h y x z =
      let free = free_part i (suc n) i 1 t (omega arith) (omega arith) (y.frame.stays_free i (suc n) h.fits h.free) in
      head_append input w (λ f g a b. record { bytes = a.bytes ++ b.bytes; here = joined a.bytes b.bytes _ a.here b.here; says = more_trees a.says b.says }) x
      (placed input w (seen_word i v t y.ranged free) refl refl z)

  out_pair : {l : ℕ} (s t u x : State) (n i c v : ℕ) (vs : List ℕ) → Ready (pairs (suc n) i) s → Left name s (c ∷ []) t → Left value (with_word i c t) (v ∷ []) u
      → Out input w name l [] s (c ∷ []) t → Out input w value l [] (with_word i c t) (v ∷ []) u → Out input w (pairs n (suc (suc i))) l [] (with_word (suc i) v u) vs x
      → Out input w (pairs (suc n) i) l [] s (c ∷ v ∷ vs) x
  out_pair {l} s t u x n i c v vs h y₁ y₂ x₁ x₂ z =
      let f₁ = free_part i (suc n * 2) i 1 t (omega arith) (omega arith) (y₁.frame.stays_free i (suc n * 2) h.fits h.free) in
      let r = ready_after_name n i c s t (c ∷ []) h y₁ in
      let f₂ = free_part (suc i) (suc (n * 2)) (suc i) 1 u (omega arith) (omega arith) (y₂.frame.stays_free (suc i) (suc (n * 2)) r.fits r.free) in
      let value_read = placed input w (seen_word i c t y₁.ranged f₁) refl refl x₂ in
      let rest = placed input w (seen_word (suc i) v u y₂.ranged f₂) refl refl z in
      head_append input w {Q = λ h. (b : List ℕ) × (drop t.at input ≡ b ++ drop x.at input) × ValuePairs l n h b}
      (λ f g a (b, e, d). record { bytes = a.bytes ++ b; here = joined a.bytes b _ a.here e; says = more_pairs a.says d })
      x₁ (head_append input w (λ f g b d. (b.bytes ++ d.bytes, joined b.bytes d.bytes _ b.here d.here, value_then b.says d.says)) value_read rest)

  -- what a trace built, where its end may be out of dump form only for an input that may be odd; a canonical input is of bytes
  module _ (room : Room) (low : (Odd w → ⊥) → Below 256 input) where
    pub sound : {l : ℕ} {m : Mode} {p : List ℕ} {s t : State} {vs : List ℕ} → Trace input room l m p s vs t → (Off t.notes.form → Odd w) → Ready m s → Out input w m l p s vs t
    sound {l = l} {m = m} {p = p} {s = s} {t = t} {vs = vs} (reading k n a x) q h = out_reading input w l p vs t a (λ o. q ((forwards x).off o)) m (sound x q (ready_reading m s k n h))
    sound {s = s} (plain r z j) q h = out_plain input w low s r z
    sound {p = p} {s = s} {t = t} (known b v o a j) q h =
        known_head input w p s t b v o (q refl) a (seen_symbol v (noted false (sought b s)) ∙ ap (add_sym v) (seen_read_to s.at _ (sought b s) ∙ seen_sought b s))
    sound {s = s} (new b e o n z l₁ l₂ l₃) q h = new_head input w s b o e h.ranged n
    sound {s = s} (symbol_link i v e o a) q h = link_head input w s i v o e a
    sound {s = s} (object_link i v e a) q h = ref_head input w s i v e a
    sound {s = s} (unclassed e) q h = out_unclassed input w s e
    sound {s = s} (classed {t = t} k a e x b) q h = out_classed input w s t e b q (sound x (λ i. q (b.off i)) (ready_name s h.ranged))
    sound {s = s} (list {o = o} {t = t} {ms = ms} r z c l₁ l₂ l₃ x) q h =
        let i = ready_opening _ _ s h.ranged in
        let g = (left c i).ranged in
        let j = ready_opened (list_length r) o g in
        out_list input w s o t r ms z (sound c (λ i. q ((forwards x).off i)) i) g (left x j).words (sound x q j)
    sound {s = s} (hash_default {o = o} {t = t} {u = u} {ms = ms} {d = d} n v c l₁ l₂ l₃ x y) q h =
        let i = ready_opening _ _ s h.ranged in
        let g = (left c i).ranged in
        let j = ready_opened (n * 2) o g in
        let z = left x j in
        let k = ready_value t z.ranged in
        let e = frame_range (length o.references) (n * 2) (left y k).frame (omega (arith, j.fits, z.frame.references_grow)) (omega (arith, j.fits, z.frame.references_grow)) ∙ z.words in
        let q₂ : Off t.notes.form → Odd w = λ i. q ((forwards y).off i) in
        out_hash_default input w s o t u n d v ms (sound c (λ i. q₂ ((forwards x).off i)) i) g e (sound x q₂ j) (sound y q k)
    sound {s = s} (object_pairs {t = t} {u = u} {ms = ms} {c = c} n k a f l₁ l₂ x b l₃ y) q h =
        let o = ready_name (with_object_node nil s) (opened_ranged s h.ranged) in
        let g = (left x o).ranged in
        let r = ready_pairs n (read_to k a t) g in
        let off : Off a → Odd w = λ i. q ((forwards y).off i) in
        out_object input w s t u n c ms f g (left y r).words b off (sound x (λ i. off (b.off i)) o) (sound y q r)
    sound {s = s} (text_bytes {o = o} z v b e c i l₁ l₂ l₃) q h =
        let j = ready_opening _ _ s h.ranged in
        out_text input w z v s o b e (sound c q j) (left c j).ranged
    sound {s = s} (user_bytes {t = t} {c = c} b k a e x d i l₁ l₂ l₃) q h =
        let o = ready_name s h.ranged in
        out_user input w s t c b e (left x o).ranged d q (sound x (λ i. q (d.off i)) o)
    sound {s = s} (bignum_node low high n m e z i l₁ l₂) q h = out_bignum input w s low high n m e z i
    sound (stored x) q h = stored_head input w (sound x q (ready_text h))
    sound {s = s} (variables {t = t} {u = u} {ms = ms} {h = v} {r = r} {r' = r'} n k a e inner_text x b l₁ y c z) q h =
        let o = ready_text h in
        let g = (left x o).ranged in
        let j = ready_pairs n (read_to k a t) g in
        let off : Off a → Odd w = λ i. q ((forwards y).off i) in
        out_variables input s t u n v r r' ms e g (left y j).words b c z w off (sound x (λ i. off (b.off i)) o) (sound y q j)
    sound {s = s} (variables {t = t} {u = u} {ms = ms} {h = v} {r = r} {r' = r'} n k a e (inner_value i) x b l₁ y c z) q h =
        let g = (left x h).ranged in
        let j = ready_pairs n (read_to k a t) g in
        let odd = q ((forwards y).off (b.off i)) in
        out_put input w s t u n v r r' ms g (left y j).words (sound y q j) c z odd (whole input w (sound x (λ i. odd) h))
    sound {l = l} {s = s} no_elements q h = head_none input w (state_seen s) (told_all refl (no_trees l))
    sound {s = s} (element {t = t} {u = u} {n = n} {i = i} {v = v} {vs = vs} x y) q h =
        let o = ready_value s h.ranged in
        let z = left x o in
        out_element s t u n i v vs h z (sound x (λ i. q ((forwards y).off i)) o) (sound y q (ready_next n i v s t h.fits h.free z.ranged z.frame))
    sound {l = l} {s = s} no_pairs q h = head_none input w (state_seen s) (told_all refl (no_pairs_told l))
    sound {s = s} (pair {t = t} {u = u} {w = d} {n = n} {i = i} {c = c} {v = v} {vs = vs} x y z) q h =
        let o = ready_name s h.ranged in
        let a = left x o in
        let j = ready_value (with_word i c t) (ready_after_name n i c s t (c ∷ []) h a).ranged in
        let b = left y j in
        let q₂ : Off u.notes.form → Odd w = λ i. q ((forwards z).off i) in
        out_pair s t u d n i c v vs h a b (sound x (λ i. q₂ ((forwards y).off i)) o) (sound y q₂ j) (sound z q (ready_after_value n i c v s t u (c ∷ []) (v ∷ []) h a b))

-- ---- an accepted load

-- it built a forest with one tree, from the nil node on
pub load_sound : (input : List ℕ) (room : Room) (limit h : ℕ) (s : State) → load input room limit ≡ ok h s → (f : F) × B (Unit {0}) f (state_seen begin) (h ∷ []) (state_seen s)
load_sound input room limit h s e =
    let x = load_traced input room limit s h e in
    let y = sound input every room (λ n. absurd (n tt)) x.trace (λ o. tt) (ready_value _ begin_ranged) in
    (y.head f_end, subst (λ (σ : St). B (Unit {0}) (y.head f_end) σ (h ∷ []) (state_seen s)) (seen_read_to x.offset x.form begin) (whole input every y))

-- in dump form: the forest is canonical, and the header and its text are what was read
pub record LoadWrites (input : List ℕ) (limit h : ℕ) (s : State) : Type 0 where
  pub forest : F
  pub built : B ⊥ forest (state_seen begin) (h ∷ []) (state_seen s)
  pub bytes : List ℕ
  pub writes : Text F.values limit forest bytes
  pub reads : input ≡ 0x04 ∷ 0x08 ∷ (bytes ++ drop s.at input)

pub load_writes : (input : List ℕ) (room : Room) (limit h : ℕ) (s : State) → Below 256 input → load input room limit ≡ ok h s → s.notes.form ≡ true → LoadWrites input limit h s
load_writes input room limit h s b e f =
    let x = load_traced input room limit s h e in
    let off : Off s.notes.form → ⊥ = λ o. apart (cc) in
    let y = sound input canonical room (λ n. b) x.trace off (ready_value _ begin_ranged) in
    let t = y.told (λ n. n) in
    let g = formed canonical x.form (λ o. off ((forwards x.trace).off o)) (λ n. n) in
    record {
      forest = y.head f_end;
      built = subst (λ (σ : St). B ⊥ (y.head f_end) σ (h ∷ []) (state_seen s)) (seen_read_to x.offset x.form begin) (whole input canonical y);
      bytes = t.bytes;
      writes = subst (Text F.values limit (y.head f_end)) (append-nil t.bytes) (t.says.writes F.values f_end [] tt t_end);
      reads = x.header.text g ∙ ap (λ (l : List ℕ). 0x04 ∷ 0x08 ∷ l) t.here;
    }
