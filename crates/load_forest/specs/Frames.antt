-- What a trace leaves alone, that ranges stay inside, and that the words reserved for members hold them.
use Rattle.std.specs.Prelude.{ℕ, suc, ◌+◌, ◌*◌, ◌≤◌, ◌≡◌, Bool, false, List, [], ◌∷◌, length, set, replicate}
use Rattle.std.proofs.Common.{subst, sym as psym, inl, length-append, length-set, arith}
use Rattle.std.proofs.lemmas.List.{length-replicate}
use Rattle.definition.specs.Node.{Row, nil, hash, object, user, bignum, absent}
use Rattle.definition.specs.Arena.{range}
use Rattle.definition.specs.State.{State, Room, noted}
use Rattle.lists.specs.Lists.{At}
use Rattle.lists.specs.Ranges.{range_none}
use Rattle.graph.specs.Forest.{Texted}
use Rattle.graph.specs.View.{text_row}
use Rattle.load_forest.specs.Trace.{Mode, value, text, name, opening, elements, pairs, One, as_value, as_name, Plain, plain_nil, plain_true, plain_false, plain_fixnum, Inner, inner_text, inner_value, Trace, reading, plain, known, new, symbol_link, object_link, unclassed, classed, list, hash_default, object_pairs, text_bytes, user_bytes, bignum_node, stored, variables, no_elements, element, no_pairs, pair}
use Rattle.states.specs.Rows.{list_length, Listed, Varied}
use Rattle.states.specs.States.{read_to, sought, ranged_stored, frame_stored, Inside, Ranged, Free, Above, Frame, with_node, with_symbol, with_object_node, with_bytes, with_word, with_row, ranged_node, ranged_row, ranged_words, ranged_word, inside_nil, inside_bool, inside_fixnum, frame_refl, frame_trans, frame_below, frame_read_to, frame_sought, frame_symbol, frame_words, frame_word, frame_node, frame_object_node, frame_row, free_new, free_part, range_written, with_room, inside_text, inside_bignum, inside_user, inside_listed, inside_hash, inside_object, inside_varied, opened_ranged, above_nil, above_text, above_bignum, above_user, above_listed, above_hash, above_object, above_varied, with_new_symbol, ranged_new_symbol, above_bool, above_fixnum, frame_new_symbol, frame_opened}

-- the word from which on a read may write, where n words are used so far
abbrev pub from : Mode → ℕ → ℕ
from value n = n
from text n = n
from name n = n
from (opening w q) n = n
from (elements m i) n = i
from (pairs m i) n = i

-- the words that it is to fill there
abbrev pub slots : Mode → ℕ
slots value = 0
slots text = 0
slots name = 0
slots (opening w q) = 0
slots (elements n i) = n
slots (pairs n i) = n * 2

-- before: ranges are inside, and the words to fill are reserved and no row's
pub record Ready (m : Mode) (s : State) : Type 0 where
  pub ranged : Ranged s
  pub fits : from m (length s.references) + slots m ≤ length s.references
  pub free : Free (from m (length s.references)) (slots m) s

-- the words filled hold what was read
abbrev pub Words : Mode → State → List ℕ → Type 0
Words value t vs = Unit {0}
Words text t vs = Unit {0}
Words name t vs = Unit {0}
Words (opening w q) t vs = Unit {0}
Words (elements n i) t vs = range t.references i n ≡ vs
Words (pairs n i) t vs = range t.references i (n * 2) ≡ vs

-- after
pub record Left (m : Mode) (s : State) (vs : List ℕ) (t : State) : Type 0 where
  pub ranged : Ranged t
  pub frame : Frame (from m (length s.references)) s t
  pub words : Words m t vs

-- a value or a name may always be read
pub ready_value : (s : State) → Ranged s → Ready value s
ready_value s h = record { ranged = h; fits = omega arith; free = λ i r e. inl (h i r e).list_inside }

pub ready_name : (s : State) → Ranged s → Ready name s
ready_name s h = record { ranged = h; fits = omega arith; free = λ i r e. inl (h i r e).list_inside }

pub ready_opening : (w : ℕ) (q : List ℕ) (s : State) → Ranged s → Ready (opening w q) s
ready_opening w q s h = record { ranged = h; fits = omega arith; free = λ i r e. inl (h i r e).list_inside }

-- a byte string is read as a value is
pub ready_text : {s : State} → Ready value s → Ready text s
ready_text h = record { ranged = h.ranged; fits = h.fits; free = h.free }

pub ready_inner : {m : Mode} {s t : State} → Inner t m → Ready value s → Ready m s
ready_inner inner_text h = ready_text h
ready_inner (inner_value o) h = h

-- n words just reserved
pub ready_elements : (n : ℕ) (s : State) → Ranged s → Ready (elements n (length s.references)) (with_room n s)
ready_elements n s h = record {
  ranged = ranged_words (replicate n 0) s h;
  fits = omega (arith, length-append s.references (replicate n 0), length-replicate {A = ℕ} n 0);
  free = free_new n (replicate n 0) s h;
}

pub ready_pairs : (n : ℕ) (s : State) → Ranged s → Ready (pairs n (length s.references)) (with_room (n * 2) s)
ready_pairs n s h = let r = ready_elements (n * 2) s h in record { ranged = r.ranged; fits = r.fits; free = r.free }

-- ---- rows

inside_plain : {input p : List ℕ} (s : State) (r : Row) → Plain input p r → Inside s r
inside_plain s r plain_nil = inside_nil s
inside_plain s r plain_true = inside_bool _ s
inside_plain s r plain_false = inside_bool _ s
inside_plain s r (plain_fixnum w u t e) = inside_fixnum w s

above_plain : {input q : List ℕ} (p : ℕ) (r : Row) → Plain input q r → Above p r
above_plain p r plain_nil = above_nil p
above_plain p r plain_true = above_bool p _
above_plain p r plain_false = above_bool p _
above_plain p r (plain_fixnum w u t e) = above_fixnum p w

-- ---- the steps

pub ready_reading : (m : Mode) (s : State) (k : ℕ) (n : Bool) → Ready m s → Ready m (read_to k n s)
ready_reading m s k n h = record { ranged = h.ranged; fits = h.fits; free = h.free }

left_reading : (m : Mode) (s t : State) (vs : List ℕ) (k : ℕ) (n : Bool) → Left m (read_to k n s) vs t → Left m s vs t
left_reading m s t vs k n h = record { ranged = h.ranged; frame = frame_trans (frame_read_to (from m (length s.references)) k n s) h.frame; words = h.words }

-- a name or a value was read, and then more of the input
left_then : (s t : State) (vs : List ℕ) (k : ℕ) (n : Bool) → Left name s vs t → Left name s vs (read_to k n t)
left_then s t vs k n h = record { ranged = h.ranged; frame = frame_trans h.frame (frame_read_to (length s.references) k n t); words = tt }

left_inner : {m : Mode} (s t : State) (vs : List ℕ) (k : ℕ) (n : Bool) → Inner t m → Left m s vs t → Left value s vs (read_to k n t)
left_inner s t vs k n inner_text h = record { ranged = h.ranged; frame = frame_trans h.frame (frame_read_to (length s.references) k n t); words = tt }
left_inner s t vs k n (inner_value o) h = record { ranged = h.ranged; frame = frame_trans h.frame (frame_read_to (length s.references) k n t); words = tt }

left_plain : {input p : List ℕ} (s : State) (r : Row) (vs : List ℕ) → Plain input p r → Ready value s → Left value s vs (with_node r s)
left_plain s r vs p h = record { ranged = ranged_node r s (inside_plain s r p) h.ranged; frame = frame_node (length s.references) r s (above_plain _ r p); words = tt }

one_words : {l : ℕ} {m : Mode} → One l m → (t : State) (vs : List ℕ) → Words m t vs
one_words as_value t vs = tt
one_words as_name t vs = tt

left_known : {l : ℕ} (m : Mode) → One l m → (s : State) (b : List ℕ) (h : ℕ) (vs : List ℕ) → Ready m s → Left m s vs (with_symbol h (noted false (sought b s)))
left_known m o s b h vs x = record {
  ranged = x.ranged;
  frame = frame_trans (frame_sought _ b s) (frame_trans (frame_read_to _ s.at _ (sought b s)) (frame_symbol _ h (noted false (sought b s))));
  words = one_words o (with_symbol h (noted false (sought b s))) vs;
}

left_new : {l : ℕ} (m : Mode) → One l m → (s : State) (b vs : List ℕ) → Ready m s → Left m s vs (with_new_symbol b (sought b s))
left_new m o s b vs x = record {
  ranged = ranged_new_symbol b (sought b s) x.ranged;
  frame = frame_trans (frame_sought _ b s) (frame_new_symbol _ b (sought b s));
  words = one_words o (with_new_symbol b (sought b s)) vs;
}

left_same : {l : ℕ} (m : Mode) → One l m → (s : State) (vs : List ℕ) → Ready m s → Left m s vs s
left_same m o s vs x = record { ranged = x.ranged; frame = frame_refl _ s; words = one_words o s vs }

-- a class, and then from o to t
after_class : (s o t : State) (w : ℕ) (q us : List ℕ) → Left (opening w q) s us o → Frame (length o.references) o t → Frame (length s.references) s t
after_class s o t w q us x f = frame_trans x.frame (frame_below _ x.frame.references_grow f)

-- a node opened as nil, and words reserved
opened_frame : (n : ℕ) (s : State) → Frame (length s.references) s (with_room n (with_object_node nil s))
opened_frame n s = frame_trans (frame_opened _ s) (frame_words _ (replicate n 0) (with_object_node nil s))

pub ready_opened : (n : ℕ) (s : State) → Ranged s → Ready (elements n (length s.references)) (with_room n (with_object_node nil s))
ready_opened n s h = ready_elements n (with_object_node nil s) (opened_ranged s h)

left_list : (s t : State) (r : Row) (ms vs : List ℕ) (h : ℕ) → Listed (length s.references) r → Ranged s
    → Left (elements (list_length r) (length s.references)) (with_room (list_length r) (with_object_node nil s)) ms t → Left value s vs (with_row h r t)
left_list s t r ms vs h l x y =
    let f : Frame (length s.references) s t = frame_trans (opened_frame (list_length r) s) y.frame in
    let fits = (ready_opened (list_length r) s x).fits in
    record {
      ranged = ranged_row h r t (inside_listed t r l (omega (arith, fits, y.frame.references_grow))) y.ranged;
      frame = frame_trans f (frame_row (length s.references) h r t (above_listed _ r (omega arith) l));
      words = tt;
    }

left_hash_default : (s t u : State) (n d w : ℕ) (ms ds vs : List ℕ) (h : ℕ) → Ranged s
    → Left (elements (n * 2) (length s.references)) (with_room (n * 2) (with_object_node nil s)) ms t → Left value t ds u
    → Left value s vs (with_row h (hash (length s.references) n (d + 1) w) u)
left_hash_default s t u n d w ms ds vs h x y z =
    let p = length s.references in
    let fits = (ready_opened (n * 2) s x).fits in
    let g : p + n * 2 ≤ length t.references = omega (arith, fits, y.frame.references_grow) in
    let f : Frame p s u = frame_trans (frame_trans (opened_frame (n * 2) s) y.frame) (frame_below p (omega arith) z.frame) in
    let r = hash p n (d + 1) w in
    record {
      ranged = ranged_row h r u (inside_hash u p n (d + 1) w (omega (arith, z.frame.references_grow))) z.ranged;
      frame = frame_trans f (frame_row p h r u (above_hash p p n (d + 1) w (omega arith)));
      words = tt;
    }

-- n pairs read from the end of t on
paired_frame : (p n : ℕ) (t u : State) (ms : List ℕ) → p ≤ length t.references → Left (pairs n (length t.references)) (with_room (n * 2) t) ms u → Frame p t u
paired_frame p n t u ms h y = frame_trans (frame_words p (replicate (n * 2) 0) t) (frame_below p h y.frame)

paired_fits : (n : ℕ) (t u : State) (ms : List ℕ) → Left (pairs n (length t.references)) (with_room (n * 2) t) ms u → length t.references + n * 2 ≤ length u.references
paired_fits n t u ms y = omega (arith, y.frame.references_grow, length-append t.references (replicate (n * 2) 0), length-replicate {A = ℕ} (n * 2) 0)

left_object : (s t u : State) (n c : ℕ) (ns ms vs : List ℕ) (h : ℕ) → Ready value s → Left name (with_object_node nil s) ns t
    → Left (pairs n (length t.references)) (with_room (n * 2) t) ms u → Left value s vs (with_row h (object (length t.references) n c) u)
left_object s t u n c ns ms vs h x y z =
    let p = length s.references in
    let g : p ≤ length t.references = y.frame.references_grow in
    let f : Frame p s u = frame_trans (frame_trans (frame_opened p s) y.frame) (paired_frame p n t u ms g z) in
    let r = object (length t.references) n c in
    record {
      ranged = ranged_row h r u (inside_object u (length t.references) n c (paired_fits n t u ms z)) z.ranged;
      frame = frame_trans f (frame_row p h r u (above_object p (length t.references) n c g));
      words = tt;
    }

left_text : {k n : ℕ} {c : Bool} (q : Texted k n c) (w : ℕ) (s : State) (b vs : List ℕ) → Ranged s → Left text s vs (with_object_node (text_row q (length s.bytes) (length b) w) (with_bytes b s))
left_text q w s b vs x = record {
  ranged = ranged_stored _ b s (inside_text q (with_bytes b s) (length s.bytes) (length b) w (omega (arith, length-append s.bytes b))) x;
  frame = frame_stored _ _ b s (above_text q _ (length s.bytes) (length b) w);
  words = tt;
}

left_bignum : (s : State) (low high : ℕ) (m : Bool) (vs : List ℕ) → Ready value s → Left value s vs (with_object_node (bignum low high m) s)
left_bignum s low high m vs x = record {
  ranged = ranged_node _ s (inside_bignum low high m s) x.ranged;
  frame = frame_object_node _ _ s (above_bignum _ low high m);
  words = tt;
}

left_user : (s t : State) (c : ℕ) (b ns vs : List ℕ) → Left name s ns t → Left text s vs (with_object_node (user (length t.bytes) (length b) c absent) (with_bytes b t))
left_user s t c b ns vs y = record {
  ranged = ranged_stored _ b t (inside_user (with_bytes b t) (length t.bytes) (length b) c (omega (arith, length-append t.bytes b))) y.ranged;
  frame = frame_trans y.frame (frame_stored _ _ b t (above_user _ (length t.bytes) (length b) c));
  words = tt;
}

left_variables : (s t u : State) (n h : ℕ) (r r' : Row) (hs ms vs : List ℕ) → Left value s hs t → Left (pairs n (length t.references)) (with_room (n * 2) t) ms u
    → At u.nodes h r → Varied (length t.references) n r r' → Left value s vs (with_row h r' u)
left_variables s t u n h r r' hs ms vs y z a q =
    let p = length s.references in
    let g : p ≤ length t.references = y.frame.references_grow in
    record {
      ranged = ranged_row h r' u (inside_varied u r r' q (paired_fits n t u ms z) (z.ranged h r a)) z.ranged;
      frame = frame_trans y.frame (frame_trans (paired_frame p n t u ms g z) (frame_row p h r' u (above_varied p r r' g q)));
      words = tt;
    }

left_no_elements : (s : State) (i : ℕ) → Ready (elements 0 i) s → Left (elements 0 i) s [] s
left_no_elements s i x = record { ranged = x.ranged; frame = frame_refl i s; words = range_none s.references i }

left_no_pairs : (s : State) (i : ℕ) → Ready (pairs 0 i) s → Left (pairs 0 i) s [] s
left_no_pairs s i x = record { ranged = x.ranged; frame = frame_refl i s; words = range_none s.references i }

-- one word of k + 1 is written, after a value or a name was read from s to t; k are left
pub ready_next : (k i v : ℕ) (s t : State) → i + suc k ≤ length s.references → Free i (suc k) s → Ranged t → Frame (length s.references) s t → Ready (elements k (suc i)) (with_word i v t)
ready_next k i v s t h f r φ = record {
  ranged = ranged_word i v t r;
  fits = omega (arith, φ.references_grow, length-set t.references i v);
  free = free_part i (suc k) (suc i) k t (omega arith) (omega arith) (φ.stays_free i (suc k) h f);
}

left_element : (n i v : ℕ) (s t u : State) (ns vs : List ℕ) → Ready (elements (suc n) i) s → Left value s ns t → Left (elements n (suc i)) (with_word i v t) vs u
    → Left (elements (suc n) i) s (v ∷ vs) u
left_element n i v s t u ns vs x y z =
    let h : i + suc n ≤ length s.references = x.fits in
    record {
      ranged = z.ranged;
      frame = frame_trans (frame_below i (omega arith) y.frame) (frame_trans (frame_word i i v t (omega arith)) (frame_below i (omega arith) z.frame));
      words = range_written t u i n v vs (omega (arith, y.frame.references_grow)) z.frame z.words;
    }

-- a pair's two words
two_words : (n : ℕ) → suc n * 2 ≡ suc (suc (n * 2))
two_words n = omega arith

-- after the name, after the value
pub ready_after_name : (n i c : ℕ) (s t : State) (ns : List ℕ) → Ready (pairs (suc n) i) s → Left name s ns t → Ready (elements (suc (n * 2)) (suc i)) (with_word i c t)
ready_after_name n i c s t ns x y =
    let h : i + suc n * 2 ≤ length s.references = x.fits in
    ready_next (suc (n * 2)) i c s t (omega arith) (subst (λ (k : ℕ). Free i k s) (two_words n) x.free) y.ranged y.frame

pub ready_after_value : (n i c v : ℕ) (s t u : State) (ns vs : List ℕ) → Ready (pairs (suc n) i) s → Left name s ns t → Left value (with_word i c t) vs u
    → Ready (pairs n (suc (suc i))) (with_word (suc i) v u)
ready_after_value n i c v s t u ns vs x y₁ y₂ =
    let r = ready_after_name n i c s t ns x y₁ in
    let q = ready_next (n * 2) (suc i) v (with_word i c t) u r.fits r.free y₂.ranged y₂.frame in
    record { ranged = q.ranged; fits = q.fits; free = q.free }

left_pair : (n i c v : ℕ) (s t u w : State) (ns us vs : List ℕ) → Ready (pairs (suc n) i) s → Left name s ns t → Left value (with_word i c t) us u
    → Left (pairs n (suc (suc i))) (with_word (suc i) v u) vs w → Left (pairs (suc n) i) s (c ∷ v ∷ vs) w
left_pair n i c v s t u w ns us vs x y₁ y₂ z =
    let h₀ : i + suc n * 2 ≤ length s.references = x.fits in
    let h₁ : suc i + suc (n * 2) ≤ length (set t.references i c) = (ready_after_name n i c s t ns x y₁).fits in
    let h₂ : length (set t.references i c) ≤ length u.references = y₂.frame.references_grow in
    let f : Frame (suc i) (with_word i c t) w =
    frame_trans (frame_below (suc i) (omega arith) y₂.frame) (frame_trans (frame_word (suc i) (suc i) v u (omega arith)) (frame_below (suc i) (omega arith) z.frame)) in
    let inner : range w.references (suc i) (suc (n * 2)) ≡ v ∷ vs = range_written u w (suc i) (n * 2) v vs (omega arith) z.frame z.words in
    let outer : range w.references i (suc (suc (n * 2))) ≡ c ∷ v ∷ vs = range_written t w i (suc (n * 2)) c (v ∷ vs) (omega (arith, length-set t.references i c)) f inner in
    record {
      ranged = z.ranged;
      frame = frame_trans (frame_below i (omega arith) y₁.frame) (frame_trans (frame_word i i c t (omega arith)) (frame_below i (omega arith) f));
      words = subst (λ (k : ℕ). range w.references i k ≡ c ∷ v ∷ vs) (psym (two_words n)) outer;
    }

-- ---- any trace

pub left : {input : List ℕ} {room : Room} {l : ℕ} {m : Mode} {p : List ℕ} {s t : State} {vs : List ℕ} → Trace input room l m p s vs t → Ready m s → Left m s vs t
left {m = m} {s = s} {t = t} {vs = vs} (reading k n a x) h = left_reading m s t vs k n (left x (ready_reading m s k n h))
left {s = s} {vs = vs} (plain r p l) h = left_plain s r vs p h
left {m = m} {s = s} {vs = vs} (known b v o a l) h = left_known m o s b v vs h
left {m = m} {s = s} {vs = vs} (new b e o n p l₁ l₂ l₃) h = left_new m o s b vs h
left {m = m} {s = s} {vs = vs} (symbol_link i v e o a) h = left_same m o s vs h
left {l = l} {s = s} {vs = vs} (object_link i v e a) h = left_same {l = l} value as_value s vs h
left {s = s} (unclassed e) h = record { ranged = h.ranged; frame = frame_refl _ s; words = tt }
left {s = s} (classed {t = t} {c = c} k a e x b) h = let z = left_then s t (c ∷ []) k a (left x (ready_name s h.ranged)) in record { ranged = z.ranged; frame = z.frame; words = tt }
left {s = s} {t = t} {vs = vs} (list {o = o} {t = u} {ms = ms} r q c l₁ l₂ l₃ x) h =
    let y = left c (ready_opening _ _ s h.ranged) in
    let z = left_list o u r ms vs (length o.nodes) q y.ranged (left x (ready_opened (list_length r) o y.ranged)) in
    record { ranged = z.ranged; frame = after_class s o t _ _ _ y z.frame; words = tt }
left {s = s} {t = t} {vs = vs} (hash_default {o = o} {t = u} {u = u₂} {ms = ms} {d = d} n w c l₁ l₂ l₃ x y) h =
    let b = left c (ready_opening _ _ s h.ranged) in
    let a = left x (ready_opened (n * 2) o b.ranged) in
    let z = left_hash_default o u u₂ n d w ms (d ∷ []) vs (length o.nodes) b.ranged a (left y (ready_value u a.ranged)) in
    record { ranged = z.ranged; frame = after_class s o t _ _ _ b z.frame; words = tt }
left {s = s} {vs = vs} (object_pairs {t = t} {u = u} {ms = ms} {c = c} n k a e l₁ l₂ x b l₃ y) h =
    let z = left x (ready_name (with_object_node nil s) (opened_ranged s h.ranged)) in
    left_object s (read_to k a t) u n c (c ∷ []) ms vs (length s.nodes) h (left_then _ t (c ∷ []) k a z) (left y (ready_pairs n (read_to k a t) z.ranged))
left {s = s} {t = t} {vs = vs} (text_bytes {o = o} q w b e c p l₁ l₂ l₃) h =
    let y = left c (ready_opening _ _ s h.ranged) in
    let z = left_text q w o b vs y.ranged in
    record { ranged = z.ranged; frame = after_class s o t _ _ _ y z.frame; words = tt }
left {s = s} {vs = vs} (user_bytes {t = t} {c = c} b k a e x d p l₁ l₂ l₃) h = left_user s (read_to k a t) c b (c ∷ []) vs (left_then s t (c ∷ []) k a (left x (ready_name s h.ranged)))
left {s = s} {vs = vs} (bignum_node low high n m e q i l₁ l₂) h = left_bignum s low high m vs h
left (stored x) h = let z = left x (ready_text h) in record { ranged = z.ranged; frame = z.frame; words = tt }
left {s = s} {vs = vs} (variables {t = t} {u = u} {ms = ms} {h = v} {r = r} {r' = r'} n k a e i x b l y c q) h =
    let z = left_inner s t (v ∷ []) k a i (left x (ready_inner i h)) in
    left_variables s (read_to k a t) u n v r r' (v ∷ []) ms vs z (left y (ready_pairs n (read_to k a t) z.ranged)) c q
left {s = s} (no_elements {i = i}) h = left_no_elements s i h
left {s = s} (element {t = t} {u = u} {n = n} {i = i} {v = v} {vs = vs} x y) h =
    let z = left x (ready_value s h.ranged) in
    left_element n i v s t u (v ∷ []) vs h z (left y (ready_next n i v s t h.fits h.free z.ranged z.frame))
left {s = s} (no_pairs {i = i}) h = left_no_pairs s i h
left {s = s} (pair {t = t} {u = u} {w = w} {n = n} {i = i} {c = c} {v = v} {vs = vs} x y z) h =
    let a = left x (ready_name s h.ranged) in
    let b = left y (ready_value (with_word i c t) (ready_after_name n i c s t (c ∷ []) h a).ranged) in
    left_pair n i c v s t u w (c ∷ []) (v ∷ []) vs h a b (left z (ready_after_value n i c v s t u (c ∷ []) (v ∷ []) h a b))
