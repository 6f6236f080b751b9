-- A load's state seen as nodes: what each step of the loader does to the view, and what it leaves alone.
use Rattle.std.specs.Prelude.{ℕ, zero, suc, ◌+◌, ◌*◌, ◌≤◌, ◌<◌, ◌≡◌, refl, Bool, ◌⊎◌, ◌≢◌, List, [], ◌∷◌, ◌++◌, map, length, set, replicate}
use Rattle.std.proofs.Common.{ap, sym as psym, ◌∙◌, inl, inr, append_assoc, append-nil, length-set, length-append, arith}
use Rattle.std.proofs.lemmas.List.{map-append, length-map}
use Rattle.definition.specs.Node.{Row, nil, bool, fixnum, symbol, hash, object, user, bignum, absent}
use Rattle.definition.specs.Arena.{range, compared_among}
use Rattle.definition.specs.State.{State, at_set, nodes_set, references_set, bytes_set, symbols_set, objects_set, notes_set, copied_more, compared_more}
use Rattle.definition.specs.Load.{begin}
use Rattle.lists.specs.Lists.{At, at_app, at_snoc_inv, at_set_same, at_set_other, at_set_inv, apart, map_set, map_ext, map_at, map_at_inv, len_snoc, at_lt}
use Rattle.lists.specs.Ranges.{range_next, range_same, range_more, range_last}
use Rattle.graph.specs.Forest.{Node, sym, leaf, Texted, text_string, text_float}
use Rattle.graph.specs.Build.{St, push, push_o, add_sym, put}
use Rattle.graph.specs.View.{see, text_row, seen, arena_of, state_seen}
use Rattle.states.specs.Rows.{bytes_start, bytes_length, vars_start, vars_length, list_start, list_length, row_words, Within, see_same, see_symbol, Listed, is_array, is_hash, Varied, varied_string, varied_user, ranges}
use Rattle.definition.specs.Graph.{header}

-- a row of a state, seen
abbrev pub row_seen : State → Row → Node
row_seen s r = see (arena_of s 0) r

-- a row's ranges lie inside the bytes and the references
abbrev pub Inside : State → Row → Type 0
Inside s r = Within s.references s.bytes r

abbrev pub Ranged : State → Type 0
Ranged s = (i : ℕ) (r : Row) → At s.nodes i r → Inside s r

-- a row's list lies below the n words from p on, or above them
abbrev pub Apart : ℕ → ℕ → Row → Type 0
Apart p n r = (list_start r + list_length r ≤ p) ⊎ (p + n ≤ list_start r)

-- no row's list has one of the n words from p on
abbrev pub Free : ℕ → ℕ → State → Type 0
Free p n s = (i : ℕ) (r : Row) → At s.nodes i r → Apart p n r

-- the states that the steps lead to; reading moves the offset and may leave dump form, and both counts stand
abbrev pub read_to : ℕ → Bool → State → State
read_to k f s = notes_set (record { form = f; copied = s.notes.copied; compared = s.notes.compared }) (at_set k s)

-- a search for the name b was counted
abbrev pub sought : List ℕ → State → State
sought b s = compared_more (compared_among s.bytes b s.nodes) s

abbrev pub with_node : Row → State → State
with_node r s = nodes_set (s.nodes ++ (r ∷ [])) s

abbrev pub with_object : ℕ → State → State
with_object h s = objects_set (s.objects ++ (h ∷ [])) s

abbrev pub with_symbol : ℕ → State → State
with_symbol h s = symbols_set (s.symbols ++ (h ∷ [])) s

abbrev pub with_object_node : Row → State → State
with_object_node r s = with_object (length s.nodes) (with_node r s)

-- bytes at the end, which are copied there
abbrev pub with_bytes : List ℕ → State → State
with_bytes bs s = copied_more (length bs) (bytes_set (s.bytes ++ bs) s)

abbrev pub with_words : List ℕ → State → State
with_words ws s = references_set (s.references ++ ws) s

abbrev pub with_word : ℕ → ℕ → State → State
with_word i v s = references_set (set s.references i v) s

abbrev pub with_row : ℕ → Row → State → State
with_row i r s = nodes_set (set s.nodes i r) s

-- a new symbol with its bytes
abbrev pub with_new_symbol : List ℕ → State → State
with_new_symbol b s = with_symbol (length s.nodes) (with_node (symbol (length s.bytes) (length b)) (with_bytes b s))

-- n words reserved at the end
abbrev pub with_room : ℕ → State → State
with_room n s = with_words (replicate n 0) s

-- ---- the view after each step

pub st_eq : (s t : St) → s.nodes ≡ t.nodes → s.objs ≡ t.objs → s.syms ≡ t.syms → s ≡ t
st_eq s t p q r = λ i. record { nodes = p i; objs = q i; syms = r i }

nodes_are : (s : State) → (state_seen s).nodes ≡ map (see (arena_of s 0)) s.nodes
unfolding state_seen seen
nodes_are s = refl

pub length_seen : (s : State) → length (state_seen s).nodes ≡ length s.nodes
length_seen s = ap length (nodes_are s) ∙ length-map s.nodes (see (arena_of s 0))

pub objs_seen : (s : State) → (state_seen s).objs ≡ s.objects
unfolding state_seen
objs_seen s = refl

pub syms_seen : (s : State) → (state_seen s).syms ≡ s.symbols
unfolding state_seen
syms_seen s = refl

pub seen_at : (s : State) (i : ℕ) (r : Row) → At s.nodes i r → At (state_seen s).nodes i (row_seen s r)
seen_at s i r e = rw (nodes_are s) (map_at (see (arena_of s 0)) s.nodes i r e)

pub seen_at_inv : (s : State) (i : ℕ) (x : Node) → At (state_seen s).nodes i x → (r : Row) × At s.nodes i r × (row_seen s r ≡ x)
seen_at_inv s i x e = map_at_inv (see (arena_of s 0)) s.nodes i x (rw (nodes_are s) at e)

-- states with the same rows and lists whose rows are seen alike
seen_alike : (s t : State) → t.nodes ≡ s.nodes → t.objects ≡ s.objects → t.symbols ≡ s.symbols → ((i : ℕ) (r : Row) → At s.nodes i r → row_seen t r ≡ row_seen s r) → state_seen t ≡ state_seen s
seen_alike s t n o y h =
    st_eq (state_seen t) (state_seen s)
    (nodes_are t ∙ ap (map (see (arena_of t 0))) n ∙ map_ext (see (arena_of t 0)) (see (arena_of s 0)) s.nodes h ∙ psym (nodes_are s))
    (objs_seen t ∙ o ∙ psym (objs_seen s))
    (syms_seen t ∙ y ∙ psym (syms_seen s))

-- a row is seen by the references and the bytes alone
pub row_seen_by : (s t : State) (r : Row) → t.references ≡ s.references → t.bytes ≡ s.bytes → row_seen t r ≡ row_seen s r
row_seen_by s t r w b =
    see_same (arena_of s 0) (arena_of t 0) r
    (ap (λ (l : List ℕ). range l (bytes_start r) (bytes_length r)) b)
    (ap (λ (l : List ℕ). range l (list_start r) (list_length r)) w)

-- the root is no part of what is seen
pub seen_root : (s : State) (h : ℕ) → seen (arena_of s h) ≡ (state_seen s).nodes
unfolding seen state_seen
seen_root s h = map_ext (see (arena_of s h)) (see (arena_of s 0)) s.nodes (λ i r e. see_same (arena_of s 0) (arena_of s h) r refl refl)

pub seen_read_to : (k : ℕ) (f : Bool) (s : State) → state_seen (read_to k f s) ≡ state_seen s
seen_read_to k f s = seen_alike s (read_to k f s) refl refl refl (λ i r e. refl)

pub seen_sought : (b : List ℕ) (s : State) → state_seen (sought b s) ≡ state_seen s
seen_sought b s = seen_alike s (sought b s) refl refl refl (λ i r e. refl)

pub seen_at_set : (k : ℕ) (s : State) → state_seen (at_set k s) ≡ state_seen s
seen_at_set k s = seen_read_to k s.notes.form s

pub seen_symbol : (h : ℕ) (s : State) → state_seen (with_symbol h s) ≡ add_sym h (state_seen s)
unfolding state_seen
seen_symbol h s = refl

pub seen_node : (r : Row) (s : State) → state_seen (with_node r s) ≡ push (row_seen s r) (state_seen s)
seen_node r s =
    let t = with_node r s in
    st_eq (state_seen t) (push (row_seen s r) (state_seen s))
    (nodes_are t
    ∙ map-append (see (arena_of t 0)) s.nodes (r ∷ [])
    ∙ ap (λ (l : List Node). l ++ (row_seen t r ∷ [])) (map_ext (see (arena_of t 0)) (see (arena_of s 0)) s.nodes (λ i x e. row_seen_by s t x refl refl))
    ∙ ap (λ (x : Node). map (see (arena_of s 0)) s.nodes ++ (x ∷ [])) (row_seen_by s t r refl refl)
    ∙ ap (λ (l : List Node). l ++ (row_seen s r ∷ [])) (psym (nodes_are s)))
    (objs_seen t ∙ psym (objs_seen s))
    (syms_seen t ∙ psym (syms_seen s))

pub seen_object_node : (r : Row) (s : State) → state_seen (with_object_node r s) ≡ push_o (row_seen s r) (state_seen s)
seen_object_node r s =
    let t = with_object_node r s in
    st_eq (state_seen t) (push_o (row_seen s r) (state_seen s))
    (nodes_are t ∙ psym (nodes_are (with_node r s)) ∙ ap (λ (x : St). x.nodes) (seen_node r s))
    (objs_seen t ∙ ap (λ (k : ℕ). s.objects ++ (k ∷ [])) (psym (length_seen s)) ∙ ap (λ (l : List ℕ). l ++ (length (state_seen s).nodes ∷ [])) (psym (objs_seen s)))
    (syms_seen t ∙ psym (syms_seen s))

pub seen_row : (i : ℕ) (r : Row) (s : State) → state_seen (with_row i r s) ≡ put i (row_seen s r) (state_seen s)
seen_row i r s =
    let t = with_row i r s in
    st_eq (state_seen t) (put i (row_seen s r) (state_seen s))
    (nodes_are t
    ∙ map_ext (see (arena_of t 0)) (see (arena_of s 0)) (set s.nodes i r) (λ k x e. row_seen_by s t x refl refl)
    ∙ map_set (see (arena_of s 0)) s.nodes i r
    ∙ ap (λ (l : List Node). set l i (row_seen s r)) (psym (nodes_are s)))
    (objs_seen t ∙ psym (objs_seen s))
    (syms_seen t ∙ psym (syms_seen s))

-- a row has its words when another word is written
pub words_but : (i v : ℕ) (s : State) (r : Row) → Inside s r → Apart i 1 r → range (set s.references i v) (list_start r) (list_length r) ≡ row_words (arena_of s 0) r
words_but i v s r h f =
    range_same s.references (set s.references i v) (list_length r) (list_start r) h.list_inside (λ j x p q a. at_set_other s.references i j v x (other f j p q) a)
  where
    other : Apart i 1 r → (j : ℕ) → list_start r ≤ j → j < list_start r + list_length r → j ≢ i
    other (inl l) j p q z = omega arith
    other (inr l) j p q z = omega arith

pub seen_bytes : (bs : List ℕ) (s : State) → Ranged s → state_seen (with_bytes bs s) ≡ state_seen s
seen_bytes bs s h =
    seen_alike s (with_bytes bs s) refl refl refl (λ i r e. see_same (arena_of s 0) (arena_of (with_bytes bs s) 0) r (range_more s.bytes bs _ _ (h i r e).bytes_inside) refl)

pub seen_words : (ws : List ℕ) (s : State) → Ranged s → state_seen (with_words ws s) ≡ state_seen s
seen_words ws s h =
    seen_alike s (with_words ws s) refl refl refl (λ i r e. see_same (arena_of s 0) (arena_of (with_words ws s) 0) r refl (range_more s.references ws _ _ (h i r e).list_inside))

pub seen_word : (i v : ℕ) (s : State) → Ranged s → Free i 1 s → state_seen (with_word i v s) ≡ state_seen s
seen_word i v s h f =
    seen_alike s (with_word i v s) refl refl refl (λ k r e. see_same (arena_of s 0) (arena_of (with_word i v s) 0) r refl (words_but i v s r (h k r e) (f k r e)))

-- opened: the node is nil and on the object list
nil_seen : (s : State) → row_seen s nil ≡ leaf 0 0
unfolding see header
nil_seen s = refl

pub opened_seen : (s : State) → state_seen (with_object_node nil s) ≡ push_o (leaf 0 0) (state_seen s)
opened_seen s = seen_object_node nil s ∙ ap (λ (x : Node). push_o x (state_seen s)) (nil_seen s)

pub room_seen : (n : ℕ) (s : State) → Ranged s → state_seen (with_room n s) ≡ state_seen s
room_seen n s h = seen_words (replicate n 0) s h

pub new_symbol_seen : (b : List ℕ) (s : State) → Ranged s → state_seen (with_new_symbol b s) ≡ add_sym (length (state_seen s).nodes) (push (sym b) (state_seen s))
new_symbol_seen b s h =
    let r = symbol (length s.bytes) (length b) in
    seen_symbol (length s.nodes) (with_node r (with_bytes b s))
    ∙ ap (add_sym (length s.nodes))
    (seen_node r (with_bytes b s)
    ∙ ap (λ (x : Node). push x (state_seen (with_bytes b s))) (see_symbol (arena_of (with_bytes b s) 0) (length s.bytes) (length b) b (range_last s.bytes b))
    ∙ ap (push (sym b)) (seen_bytes b s h))
    ∙ ap (λ (n : ℕ). add_sym n (push (sym b) (state_seen s))) (psym (length_seen s))

-- a node with its bytes, added whole
pub bytes_node_seen : (b : List ℕ) (t : State) (r : Row) (x : Node) → Ranged t → row_seen (with_bytes b t) r ≡ x → state_seen (with_object_node r (with_bytes b t)) ≡ push_o x (state_seen t)
bytes_node_seen b t r x h q = seen_object_node r (with_bytes b t) ∙ ap (λ (y : Node). push_o y (state_seen (with_bytes b t))) q ∙ ap (push_o x) (seen_bytes b t h)

-- ---- ranges stay inside

pub inside_up : (s t : State) (r : Row) → length s.bytes ≤ length t.bytes → length s.references ≤ length t.references → Inside s r → Inside t r
inside_up s t r b w h = record { bytes_inside = omega (arith, h.bytes_inside); list_inside = omega (arith, h.list_inside) }

pub ranged_node : (r : Row) (s : State) → Inside s r → Ranged s → Ranged (with_node r s)
ranged_node r s x h i q e = go (at_snoc_inv s.nodes r i q e)
  where
    go : At s.nodes i q ⊎ ((i ≡ length s.nodes) × (q ≡ r)) → Inside (with_node r s) q
    go (inl a) = h i q a
    go (inr a) = rw a.1 x

pub ranged_row : (i : ℕ) (r : Row) (s : State) → Inside s r → Ranged s → Ranged (with_row i r s)
ranged_row i r s x h k q e = go (at_set_inv s.nodes i k r q e)
  where
    go : ((k ≡ i) × (q ≡ r)) ⊎ ((k ≢ i) × At s.nodes k q) → Inside (with_row i r s) q
    go (inl a) = rw a.1 x
    go (inr a) = h k q a.1

pub ranged_bytes : (bs : List ℕ) (s : State) → Ranged s → Ranged (with_bytes bs s)
ranged_bytes bs s h i r e = inside_up s (with_bytes bs s) r (omega (arith, length-append s.bytes bs)) (omega arith) (h i r e)

pub ranged_words : (ws : List ℕ) (s : State) → Ranged s → Ranged (with_words ws s)
ranged_words ws s h i r e = inside_up s (with_words ws s) r (omega arith) (omega (arith, length-append s.references ws)) (h i r e)

pub ranged_word : (i v : ℕ) (s : State) → Ranged s → Ranged (with_word i v s)
ranged_word i v s h k r e = inside_up s (with_word i v s) r (omega arith) (omega (arith, length-set s.references i v)) (h k r e)

-- a row with no list and no bytes
pub inside_nil : (s : State) → Inside s nil
unfolding bytes_start bytes_length list_start list_length ranges
inside_nil s = record { bytes_inside = omega arith; list_inside = omega arith }

pub inside_bool : (b : Bool) (s : State) → Inside s (bool b)
unfolding bytes_start bytes_length list_start list_length ranges
inside_bool b s = record { bytes_inside = omega arith; list_inside = omega arith }

pub inside_fixnum : (w : ℕ) (s : State) → Inside s (fixnum w)
unfolding bytes_start bytes_length list_start list_length ranges
inside_fixnum w s = record { bytes_inside = omega arith; list_inside = omega arith }

pub inside_symbol : (s : State) (a l : ℕ) → a + l ≤ length s.bytes → Inside s (symbol a l)
unfolding bytes_start bytes_length list_start list_length ranges
inside_symbol s a l h = record { bytes_inside = h; list_inside = omega arith }

pub inside_text : {k n : ℕ} {c : Bool} (q : Texted k n c) (s : State) (a l w : ℕ) → a + l ≤ length s.bytes → Inside s (text_row q a l w)
unfolding bytes_start bytes_length list_start list_length vars_start vars_length ranges
inside_text text_string s a l w h = record { bytes_inside = h; list_inside = omega arith }
inside_text text_float s a l w h = record { bytes_inside = h; list_inside = omega arith }

pub inside_bignum : (low high : ℕ) (m : Bool) (s : State) → Inside s (bignum low high m)
unfolding bytes_start bytes_length list_start list_length ranges
inside_bignum low high m s = record { bytes_inside = omega arith; list_inside = omega arith }

pub inside_user : (s : State) (a l c : ℕ) → a + l ≤ length s.bytes → Inside s (user a l c absent)
unfolding bytes_start bytes_length list_start list_length vars_start vars_length ranges
inside_user s a l c h = record { bytes_inside = h; list_inside = omega arith }

pub inside_listed : {p : ℕ} (s : State) (r : Row) → Listed p r → p + list_length r ≤ length s.references → Inside s r
unfolding bytes_start bytes_length list_start list_length ranges
inside_listed s r (is_array n w) h = record { bytes_inside = omega arith; list_inside = h }
inside_listed s r (is_hash n w) h = record { bytes_inside = omega arith; list_inside = h }

pub inside_hash : (s : State) (p n d w : ℕ) → p + n * 2 ≤ length s.references → Inside s (hash p n d w)
unfolding bytes_start bytes_length list_start list_length ranges
inside_hash s p n d w h = record { bytes_inside = omega arith; list_inside = h }

pub inside_object : (s : State) (p n c : ℕ) → p + n * 2 ≤ length s.references → Inside s (object p n c)
unfolding bytes_start bytes_length list_start list_length ranges
inside_object s p n c h = record { bytes_inside = omega arith; list_inside = h }

pub inside_varied : {p n : ℕ} (s : State) (r r' : Row) → Varied p n r r' → p + n * 2 ≤ length s.references → Inside s r → Inside s r'
unfolding bytes_start bytes_length list_start list_length vars_start vars_length ranges
inside_varied s r r' varied_string h x = record { bytes_inside = x.bytes_inside; list_inside = h }
inside_varied s r r' varied_user h x = record { bytes_inside = x.bytes_inside; list_inside = h }

pub ranged_stored : (r : Row) (b : List ℕ) (t : State) → Inside (with_bytes b t) r → Ranged t → Ranged (with_object_node r (with_bytes b t))
ranged_stored r b t i h = ranged_node r (with_bytes b t) i (ranged_bytes b t h)

pub ranged_new_symbol : (b : List ℕ) (s : State) → Ranged s → Ranged (with_new_symbol b s)
ranged_new_symbol b s h = ranged_stored (symbol (length s.bytes) (length b)) b s (inside_symbol (with_bytes b s) (length s.bytes) (length b) (omega (arith, length-append s.bytes b))) h

pub opened_ranged : (s : State) → Ranged s → Ranged (with_object_node nil s)
opened_ranged s h = ranged_node nil s (inside_nil s) h

-- ---- what a step leaves alone

-- from s to t: words below p stand, bytes are only added, and the words below p that no list has stay free
pub record Frame (p : ℕ) (s t : State) : Type 0 where
  pub references_grow : length s.references ≤ length t.references
  pub words_stand : (k v : ℕ) → k < p → At s.references k v → At t.references k v
  pub bytes_added : List ℕ
  pub bytes_are : t.bytes ≡ s.bytes ++ bytes_added
  pub stays_free : (a n : ℕ) → a + n ≤ p → Free a n s → Free a n t

-- words and bytes are those of before
frame_rows : (p : ℕ) (s t : State) → t.references ≡ s.references → t.bytes ≡ s.bytes → ((a n : ℕ) → a + n ≤ p → Free a n s → Free a n t) → Frame p s t
frame_rows p s t w b f = record {
  references_grow = rw w (omega arith);
  words_stand = λ k v l e. rw w e;
  bytes_added = [];
  bytes_are = b ∙ psym (append-nil s.bytes);
  stays_free = f;
}

-- rows too
frame_same : (p : ℕ) (s t : State) → t.nodes ≡ s.nodes → t.references ≡ s.references → t.bytes ≡ s.bytes → Frame p s t
frame_same p s t n w b = frame_rows p s t w b (λ a m l f i r e. f i r (rw n at e))

pub frame_refl : (p : ℕ) (s : State) → Frame p s s
frame_refl p s = frame_same p s s refl refl refl

pub frame_trans : {p : ℕ} {s t u : State} → Frame p s t → Frame p t u → Frame p s u
frame_trans {s = s} f g = record {
  references_grow = omega (arith, f.references_grow, g.references_grow);
  words_stand = λ k v l e. g.words_stand k v l (f.words_stand k v l e);
  bytes_added = f.bytes_added ++ g.bytes_added;
  bytes_are = g.bytes_are ∙ ap (λ (l : List ℕ). l ++ g.bytes_added) f.bytes_are ∙ append_assoc s.bytes f.bytes_added g.bytes_added;
  stays_free = λ a n l e. g.stays_free a n l (f.stays_free a n l e);
}

pub frame_below : {p : ℕ} {s t : State} (q : ℕ) → q ≤ p → Frame p s t → Frame q s t
frame_below q h f = record {
  references_grow = f.references_grow;
  words_stand = λ k v l e. f.words_stand k v (omega arith) e;
  bytes_added = f.bytes_added;
  bytes_are = f.bytes_are;
  stays_free = λ a n l e. f.stays_free a n (omega arith) e;
}

pub frame_read_to : (p k : ℕ) (f : Bool) (s : State) → Frame p s (read_to k f s)
frame_read_to p k f s = frame_same p s (read_to k f s) refl refl refl

pub frame_sought : (p : ℕ) (b : List ℕ) (s : State) → Frame p s (sought b s)
frame_sought p b s = frame_same p s (sought b s) refl refl refl

pub frame_at_set : (p k : ℕ) (s : State) → Frame p s (at_set k s)
frame_at_set p k s = frame_read_to p k s.notes.form s

pub frame_object : (p h : ℕ) (s : State) → Frame p s (with_object h s)
frame_object p h s = frame_same p s (with_object h s) refl refl refl

pub frame_symbol : (p h : ℕ) (s : State) → Frame p s (with_symbol h s)
frame_symbol p h s = frame_same p s (with_symbol h s) refl refl refl

pub frame_bytes : (p : ℕ) (bs : List ℕ) (s : State) → Frame p s (with_bytes bs s)
frame_bytes p bs s = record { references_grow = omega arith; words_stand = λ k v l e. e; bytes_added = bs; bytes_are = refl; stays_free = λ a n l f. f }

pub frame_words : (p : ℕ) (ws : List ℕ) (s : State) → Frame p s (with_words ws s)
frame_words p ws s = record {
  references_grow = omega (arith, length-append s.references ws);
  words_stand = λ k v l e. at_app s.references ws k v e;
  bytes_added = [];
  bytes_are = psym (append-nil s.bytes);
  stays_free = λ a n l f. f;
}

-- a word at p or above
pub frame_word : (p i v : ℕ) (s : State) → p ≤ i → Frame p s (with_word i v s)
frame_word p i v s h = record {
  references_grow = omega (arith, length-set s.references i v);
  words_stand = λ k x l e. at_set_other s.references i k v x (omega arith) e;
  bytes_added = [];
  bytes_are = psym (append-nil s.bytes);
  stays_free = λ a n l f. f;
}

-- a row whose list has no word, or starts at p or above
abbrev pub Above : ℕ → Row → Type 0
Above p r = (list_start r + list_length r ≡ 0) ⊎ (p ≤ list_start r)

pub above_nil : (p : ℕ) → Above p nil
unfolding list_start list_length ranges
above_nil p = inl refl

pub above_bool : (p : ℕ) (b : Bool) → Above p (bool b)
unfolding list_start list_length ranges
above_bool p b = inl refl

pub above_fixnum : (p w : ℕ) → Above p (fixnum w)
unfolding list_start list_length ranges
above_fixnum p w = inl refl

pub above_symbol : (p a l : ℕ) → Above p (symbol a l)
unfolding list_start list_length ranges
above_symbol p a l = inl refl

pub above_text : {k n : ℕ} {c : Bool} (q : Texted k n c) (p a l w : ℕ) → Above p (text_row q a l w)
unfolding list_start list_length vars_start vars_length ranges
above_text text_string p a l w = inl refl
above_text text_float p a l w = inl refl

pub above_bignum : (p low high : ℕ) (m : Bool) → Above p (bignum low high m)
unfolding list_start list_length ranges
above_bignum p low high m = inl refl

pub above_user : (p a l c : ℕ) → Above p (user a l c absent)
unfolding list_start list_length vars_start vars_length ranges
above_user p a l c = inl refl

pub above_listed : {p : ℕ} (q : ℕ) (r : Row) → q ≤ p → Listed p r → Above q r
unfolding list_start ranges
above_listed q r h (is_array n w) = inr h
above_listed q r h (is_hash n w) = inr h

pub above_hash : (q p n d w : ℕ) → q ≤ p → Above q (hash p n d w)
unfolding list_start ranges
above_hash q p n d w h = inr h

pub above_object : (q p n c : ℕ) → q ≤ p → Above q (object p n c)
unfolding list_start ranges
above_object q p n c h = inr h

pub above_varied : {p n : ℕ} (q : ℕ) (r r' : Row) → q ≤ p → Varied p n r r' → Above q r'
unfolding list_start vars_start ranges
above_varied q r r' h varied_string = inr h
above_varied q r r' h varied_user = inr h

above_apart : (p a n : ℕ) (r : Row) → a + n ≤ p → Above p r → Apart a n r
above_apart p a n r l (inl h) = inl (omega arith)
above_apart p a n r l (inr h) = inr (omega arith)

pub frame_node : (p : ℕ) (r : Row) (s : State) → Above p r → Frame p s (with_node r s)
frame_node p r s h = frame_rows p s (with_node r s) refl refl (λ a n l f i q e. go a n l f i q (at_snoc_inv s.nodes r i q e))
  where
    go : (a n : ℕ) → a + n ≤ p → Free a n s → (i : ℕ) (q : Row) → At s.nodes i q ⊎ ((i ≡ length s.nodes) × (q ≡ r)) → Apart a n q
    go a n l f i q (inl x) = f i q x
    go a n l f i q (inr x) = rw x.1 (above_apart p a n r l h)

pub frame_object_node : (p : ℕ) (r : Row) (s : State) → Above p r → Frame p s (with_object_node r s)
frame_object_node p r s h = frame_trans (frame_node p r s h) (frame_object p (length s.nodes) (with_node r s))

pub frame_stored : (p : ℕ) (r : Row) (b : List ℕ) (t : State) → Above p r → Frame p t (with_object_node r (with_bytes b t))
frame_stored p r b t a = frame_trans (frame_bytes p b t) (frame_object_node p r (with_bytes b t) a)

pub frame_new_symbol : (p : ℕ) (b : List ℕ) (s : State) → Frame p s (with_new_symbol b s)
frame_new_symbol p b s =
    let t = with_node (symbol (length s.bytes) (length b)) (with_bytes b s) in
    frame_trans (frame_bytes p b s) (frame_trans (frame_node p _ (with_bytes b s) (above_symbol p _ _)) (frame_symbol p (length s.nodes) t))

pub frame_opened : (p : ℕ) (s : State) → Frame p s (with_object_node nil s)
frame_opened p s = frame_object_node p nil s (above_nil p)

pub frame_row : (p i : ℕ) (r : Row) (s : State) → Above p r → Frame p s (with_row i r s)
frame_row p i r s h = frame_rows p s (with_row i r s) refl refl (λ a n l f k q e. go a n l f k q (at_set_inv s.nodes i k r q e))
  where
    go : (a n : ℕ) → a + n ≤ p → Free a n s → (k : ℕ) (q : Row) → ((k ≡ i) × (q ≡ r)) ⊎ ((k ≢ i) × At s.nodes k q) → Apart a n q
    go a n l f k q (inl x) = rw x.1 (above_apart p a n r l h)
    go a n l f k q (inr x) = f k q x.1

-- words just reserved are free
pub free_new : (n : ℕ) (ws : List ℕ) (s : State) → Ranged s → Free (length s.references) n (with_words ws s)
free_new n ws s h i r e = inl (h i r e).list_inside

-- fewer words, of those that are free
pub free_part : (p n q m : ℕ) (s : State) → p ≤ q → q + m ≤ p + n → Free p n s → Free q m s
free_part p n q m s h l f i r e = go (f i r e)
  where
    go : Apart p n r → Apart q m r
    go (inl x) = inl (omega arith)
    go (inr x) = inr (omega arith)

-- what is inside a frame is seen alike, and words written below p stand
pub frame_range : {p : ℕ} {s t : State} (a n : ℕ) → Frame p s t → a + n ≤ p → a + n ≤ length s.references → range t.references a n ≡ range s.references a n
frame_range {s = s} {t = t} a n f h l = range_same s.references t.references n a l (λ k v x y e. f.words_stand k v (omega arith) e)

-- the range of n + 1 words: the first was written at s, the others stand at t
pub range_written : (s t : State) (i n v : ℕ) (ms : List ℕ) → i < length s.references → Frame (suc i) (with_word i v s) t → range t.references (suc i) n ≡ ms → range t.references i (suc n) ≡ v ∷ ms
range_written s t i n v ms l f e =
    range_next t.references i n v (f.words_stand i v (omega arith) (at_set_same s.references i v l)) ∙ ap (λ (x : List ℕ). v ∷ x) e

-- ---- rows that stand

-- nodes are only added, and the rows of the kind K stand
pub record Keeps (K : Row → Type 0) (s t : State) : Type 0 where
  pub grows : length s.nodes ≤ length t.nodes
  pub stands : (i : ℕ) (r : Row) → K r → At s.nodes i r → At t.nodes i r

module _ {K : Row → Type 0} where
  -- the same rows
  pub keeps_refl : (s t : State) → t.nodes ≡ s.nodes → Keeps K s t
  keeps_refl s t e = record { grows = rw e (omega arith); stands = λ i r f a. rw e a }

  pub keeps_trans : {s t u : State} → Keeps K s t → Keeps K t u → Keeps K s u
  keeps_trans x y = record { grows = omega (arith, x.grows, y.grows); stands = λ i r f a. y.stands i r f (x.stands i r f a) }

  pub keeps_node : (r : Row) (s : State) → Keeps K s (with_node r s)
  keeps_node r s = record { grows = omega (arith, len_snoc s.nodes r); stands = λ i q f a. at_app s.nodes (r ∷ []) i q a }

  pub keeps_object_node : (r : Row) (s : State) → Keeps K s (with_object_node r s)
  keeps_object_node r s = keeps_trans (keeps_node r s) (keeps_refl (with_node r s) (with_object_node r s) refl)

  -- a node from s's last on is filled
  pub keeps_row : (h : ℕ) (r : Row) (s t : State) → length s.nodes ≤ h → Keeps K s t → Keeps K s (with_row h r t)
  keeps_row h r s t l x = record {
    grows = omega (arith, x.grows, length-set t.nodes h r);
    stands = λ i q f a. at_set_other t.nodes h i r q (omega (arith, at_lt s.nodes i q a)) (x.stands i q f a);
  }

-- ---- at the beginning

pub begin_ranged : Ranged begin
begin_ranged zero r e = let q : nil ≡ r = cc in rw (← q) (inside_nil begin)
begin_ranged (suc i) r e = apart (cc)
