-- The space an accepted load took: within the room given, and no less than what its nodes hold.
use Rattle.std.specs.Prelude.{ℕ, zero, suc, ◌+◌, ◌-◌, ◌*◌, ◌≤◌, ◌<◌, ◌≡◌, refl, Bool, true, false, ◌⊎◌, ◌≢◌, List, [], ◌∷◌, ◌++◌, map, eqb, ltb, length, replicate}
use Rattle.std.proofs.Common.{ap, subst, sym as psym, ◌∙◌, inl, inr, length-set, length-append, length-take, arith, eq-eqb, ne_eqb}
use Rattle.std.proofs.Math.Option.{Option, none, some}
use Rattle.std.proofs.Math.ListN.{get_elem?}
use Rattle.std.proofs.lemmas.List.{length-replicate}
use Rattle.std.proofs.Math.Decide.{ℕ_discrete}
use Rattle.definition.specs.Run.{ok, pick}
use Rattle.definition.specs.Node.{Row, Vars, nil, bool, fixnum, symbol, array, hash, object, string, user, float, bignum, absent, present, symbol_kind, kind}
use Rattle.definition.specs.Arena.{Arena, range}
use Rattle.definition.specs.State.{State, Room}
use Rattle.definition.specs.Load.{begin, load}
use Rattle.definition.specs.Graph.{Header, header, vars_count}
use Rattle.lists.specs.Lists.{At, len_snoc, apart}
use Rattle.graph.specs.Sums.{sum_to, total, total_snoc, total_set, total_set_most}
use Rattle.graph.specs.Forest.{Node, leaf, sym, box, node_words, node_bytes, node_box, node_sym, Texted, text_string, text_float}
use Rattle.graph.specs.Build.{Zero, paid, boxed, lf, Φ}
use Rattle.graph.specs.View.{see, text_row, seen, arena_of, state_seen}
use Rattle.load_forest.specs.Trace.{Mode, Plain, plain_nil, plain_true, plain_false, plain_fixnum, Trace, reading, plain, known, new, symbol_link, object_link, unclassed, classed, list, hash_default, object_pairs, text_bytes, user_bytes, bignum_node, stored, variables, no_elements, element, no_pairs, pair}
use Rattle.load_forest.specs.Readers.{load_traced}
use Rattle.load_forest.specs.Sound.{load_sound}
use Rattle.load_forest.specs.Right.{IsName, load_right_state}
use Rattle.states.specs.Rows.{bytes_length, list_length, vars_length, Listed, is_array, is_hash, Varied, varied_string, varied_user, ranges}
use Rattle.states.specs.States.{read_to, sought, row_seen, with_node, with_symbol, with_object_node, with_bytes, with_word, with_row, length_seen, syms_seen, seen_at, with_room}

-- ---- within the room

pub record Within (room : Room) (s : State) : Type 0 where
  pub nodes : length s.nodes ≤ room.nodes
  pub references : length s.references ≤ room.references
  pub bytes : length s.bytes ≤ room.bytes
  pub symbols : length s.symbols ≤ room.symbols
  pub objects : length s.objects ≤ room.objects

module _ (room : Room) where
  -- the same lengths, or less
  within_same : (s t : State) → length t.nodes ≤ length s.nodes → length t.references ≤ length s.references → length t.bytes ≤ length s.bytes
      → length t.symbols ≤ length s.symbols → length t.objects ≤ length s.objects → Within room s → Within room t
  within_same s t n r b y o w = record {
    nodes = omega (arith, w.nodes);
    references = omega (arith, w.references);
    bytes = omega (arith, w.bytes);
    symbols = omega (arith, w.symbols);
    objects = omega (arith, w.objects);
  }

  within_node : (r : Row) (s : State) → length s.nodes < room.nodes → Within room s → Within room (with_node r s)
  within_node r s l w = record { nodes = omega (arith, len_snoc s.nodes r); references = w.references; bytes = w.bytes; symbols = w.symbols; objects = w.objects }

  within_symbol : (h : ℕ) (s : State) → length s.symbols < room.symbols → Within room s → Within room (with_symbol h s)
  within_symbol h s l w = record { nodes = w.nodes; references = w.references; bytes = w.bytes; symbols = omega (arith, len_snoc s.symbols h); objects = w.objects }

  within_object_node : (r : Row) (s : State) → length s.nodes < room.nodes → length s.objects < room.objects → Within room s → Within room (with_object_node r s)
  within_object_node r s l₁ l₂ w = record {
    nodes = omega (arith, len_snoc s.nodes r);
    references = w.references;
    bytes = w.bytes;
    symbols = w.symbols;
    objects = omega (arith, len_snoc s.objects (length s.nodes));
  }

  within_bytes : (b : List ℕ) (s : State) → length b ≤ room.bytes - length s.bytes → Within room s → Within room (with_bytes b s)
  within_bytes b s l w = record { nodes = w.nodes; references = w.references; bytes = omega (arith, length-append s.bytes b, w.bytes); symbols = w.symbols; objects = w.objects }

  within_room : (n : ℕ) (s : State) → n ≤ room.references - length s.references → Within room s → Within room (with_room n s)
  within_room n s l w = record {
    nodes = w.nodes;
    references = omega (arith, length-append s.references (replicate n 0), length-replicate {A = ℕ} n 0, w.references);
    bytes = w.bytes;
    symbols = w.symbols;
    objects = w.objects;
  }

  within_word : (i v : ℕ) (s : State) → Within room s → Within room (with_word i v s)
  within_word i v s w = within_same s (with_word i v s) (omega arith) (omega (arith, length-set s.references i v)) (omega arith) (omega arith) (omega arith) w

  within_row : (h : ℕ) (r : Row) (s : State) → Within room s → Within room (with_row h r s)
  within_row h r s w = within_same s (with_row h r s) (omega (arith, length-set s.nodes h r)) (omega arith) (omega arith) (omega arith) (omega arith) w

  within_read : (k : ℕ) (n : Bool) (s : State) → Within room s → Within room (read_to k n s)
  within_read k n s w = record { nodes = w.nodes; references = w.references; bytes = w.bytes; symbols = w.symbols; objects = w.objects }

  within_sought : (b : List ℕ) (s : State) → Within room s → Within room (sought b s)
  within_sought b s w = record { nodes = w.nodes; references = w.references; bytes = w.bytes; symbols = w.symbols; objects = w.objects }

pub within : {input : List ℕ} {room : Room} {l : ℕ} {m : Mode} {p : List ℕ} {s t : State} {vs : List ℕ} → Trace input room l m p s vs t → Within room s → Within room t
within {room = room} {s = s} (reading k n a x) w = within x (within_read room k n s w)
within {room = room} {s = s} (plain r p l) w = within_node room r s l w
within {room = room} {s = s} (known b h o a l) w = within_symbol room h _ l (within_read room s.at _ (sought b s) (within_sought room b s w))
within {room = room} {s = s} (new b e o n p l₁ l₂ l₃) w = within_symbol room (length s.nodes) _ l₃ (within_node room _ (with_bytes b (sought b s)) l₂ (within_bytes room b (sought b s) l₁ (within_sought room b s w)))
within (symbol_link i h e o a) w = w
within (object_link i h e a) w = w
within (unclassed e) w = w
within {room = room} (classed {t = t} k a e x b) w = within_read room k a t (within x w)
within {room = room} (list {o = o} {t = t} r q c l₁ l₂ l₃ x) w =
    within_row room (length o.nodes) r t (within x (within_room room (list_length r) (with_object_node nil o) l₃ (within_object_node room nil o l₁ l₂ (within c w))))
within {room = room} (hash_default {o = o} {u = u} n d c l₁ l₂ l₃ x y) w =
    within_row room (length o.nodes) _ u (within y (within x (within_room room (n * 2) (with_object_node nil o) l₃ (within_object_node room nil o l₁ l₂ (within c w)))))
within {room = room} {s = s} (object_pairs {t = t} {u = u} n k a e l₁ l₂ x b l₃ y) w =
    within_row room (length s.nodes) _ u (within y (within_room room (n * 2) (read_to k a t) l₃ (within_read room k a t (within x (within_object_node room nil s l₁ l₂ w)))))
within {room = room} (text_bytes {o = o} q d b e c p l₁ l₂ l₃) w = within_object_node room _ (with_bytes b o) l₂ l₃ (within_bytes room b o l₁ (within c w))
within {room = room} (user_bytes {t = t} b k a e x d p l₁ l₂ l₃) w = within_object_node room _ (with_bytes b (read_to k a t)) l₂ l₃ (within_bytes room b (read_to k a t) l₁ (within_read room k a t (within x w)))
within {room = room} {s = s} (bignum_node low high n m e q h l₁ l₂) w = within_object_node room _ s l₁ l₂ w
within (stored x) w = within x w
within {room = room} (variables {t = t} {u = u} {h = h} {r' = r'} n k a e i x b l y c q) w = within_row room h r' u (within y (within_room room (n * 2) (read_to k a t) l (within_read room k a t (within x w))))
within no_elements w = w
within {room = room} (element {t = t} {i = i} {v = v} x y) w = within y (within_word room i v t (within x w))
within no_pairs w = w
within {room = room} (pair {t = t} {u = u} {i = i} {c = c} {v = v} x y z) w = within z (within_word room (suc i) v u (within y (within_word room i c t (within x w))))

-- an accepted load kept within the room
pub load_within : (input : List ℕ) (room : Room) (limit h : ℕ) (s : State) → 1 ≤ room.nodes → load input room limit ≡ ok h s → Within room s
load_within input room limit h s l e = within (load_traced input room limit s h e).trace (record { nodes = l; references = omega arith; bytes = omega arith; symbols = omega arith; objects = omega arith })

-- ---- what the rows hold was taken

unfoldable pub is_box : Row → ℕ
is_box r = pick (ltb symbol_kind (kind r)) 1 0

unfoldable pub is_symbol : Row → ℕ
is_symbol r = pick (eqb (kind r) symbol_kind) 1 0

-- from s to t the rows gained no more than was taken
record Covered (s t : State) : Type 0 where
  words : total list_length t.nodes + length s.references ≤ total list_length s.nodes + length t.references
  bytes : total bytes_length t.nodes + length s.bytes ≤ total bytes_length s.nodes + length t.bytes
  boxes : total is_box t.nodes + length s.objects ≤ total is_box s.nodes + length t.objects
  names : total is_symbol t.nodes + length s.symbols ≤ total is_symbol s.nodes + length t.symbols

covered_same : (s t : State) → t.nodes ≡ s.nodes → length s.references ≤ length t.references → length s.bytes ≤ length t.bytes → length s.objects ≤ length t.objects
    → length s.symbols ≤ length t.symbols → Covered s t
covered_same s t n r b o y = record { words = rw n (omega arith); bytes = rw n (omega arith); boxes = rw n (omega arith); names = rw n (omega arith) }

covered_refl : (s : State) → Covered s s
covered_refl s = covered_same s s refl (omega arith) (omega arith) (omega arith) (omega arith)

covered_trans : {s t u : State} → Covered s t → Covered t u → Covered s u
covered_trans x y = record {
  words = omega (arith, x.words, y.words);
  bytes = omega (arith, x.bytes, y.bytes);
  boxes = omega (arith, x.boxes, y.boxes);
  names = omega (arith, x.names, y.names);
}

-- the four weights of a row
record Weighs (r : Row) (words bytes boxes names : ℕ) : Type 0 where
  words_are : list_length r ≡ words
  bytes_are : bytes_length r ≡ bytes
  boxes_are : is_box r ≡ boxes
  names_are : is_symbol r ≡ names

plain_weighs : {input p : List ℕ} (r : Row) → Plain input p r → Weighs r 0 0 0 0
unfolding list_length bytes_length is_box is_symbol kind pick ranges
plain_weighs r plain_nil = record { words_are = refl; bytes_are = refl; boxes_are = refl; names_are = refl }
plain_weighs r plain_true = record { words_are = refl; bytes_are = refl; boxes_are = refl; names_are = refl }
plain_weighs r plain_false = record { words_are = refl; bytes_are = refl; boxes_are = refl; names_are = refl }
plain_weighs r (plain_fixnum w s t e) = record { words_are = refl; bytes_are = refl; boxes_are = refl; names_are = refl }

nil_weighs : Weighs nil 0 0 0 0
unfolding list_length bytes_length is_box is_symbol kind pick ranges
nil_weighs = record { words_are = refl; bytes_are = refl; boxes_are = refl; names_are = refl }

symbol_weighs : (a l : ℕ) → Weighs (symbol a l) 0 l 0 1
unfolding list_length bytes_length is_box is_symbol kind pick ranges
symbol_weighs a l = record { words_are = refl; bytes_are = refl; boxes_are = refl; names_are = refl }

listed_weighs : {p : ℕ} (r : Row) → Listed p r → Weighs r (list_length r) 0 1 0
unfolding bytes_length is_box is_symbol kind pick ranges
listed_weighs r (is_array n w) = record { words_are = refl; bytes_are = refl; boxes_are = refl; names_are = refl }
listed_weighs r (is_hash n w) = record { words_are = refl; bytes_are = refl; boxes_are = refl; names_are = refl }

hash_weighs : (p n d w : ℕ) → Weighs (hash p n d w) (n * 2) 0 1 0
unfolding list_length bytes_length is_box is_symbol kind pick ranges
hash_weighs p n d w = record { words_are = refl; bytes_are = refl; boxes_are = refl; names_are = refl }

object_weighs : (p n c : ℕ) → Weighs (object p n c) (n * 2) 0 1 0
unfolding list_length bytes_length is_box is_symbol kind pick ranges
object_weighs p n c = record { words_are = refl; bytes_are = refl; boxes_are = refl; names_are = refl }

text_weighs : {k n : ℕ} {c : Bool} (q : Texted k n c) (a l w : ℕ) → Weighs (text_row q a l w) 0 l 1 0
unfolding list_length bytes_length is_box is_symbol kind pick vars_length ranges
text_weighs text_string a l w = record { words_are = refl; bytes_are = refl; boxes_are = refl; names_are = refl }
text_weighs text_float a l w = record { words_are = refl; bytes_are = refl; boxes_are = refl; names_are = refl }

bignum_weighs : (low high : ℕ) (m : Bool) → Weighs (bignum low high m) 0 0 1 0
unfolding list_length bytes_length is_box is_symbol kind pick ranges
bignum_weighs low high m = record { words_are = refl; bytes_are = refl; boxes_are = refl; names_are = refl }

user_weighs : (a l c : ℕ) → Weighs (user a l c absent) 0 l 1 0
unfolding list_length bytes_length is_box is_symbol kind pick vars_length ranges
user_weighs a l c = record { words_are = refl; bytes_are = refl; boxes_are = refl; names_are = refl }

-- a row and the same with variables
record SameBut (n : ℕ) (r r' : Row) : Type 0 where
  new_words : list_length r' ≡ n * 2
  same_bytes : bytes_length r' ≡ bytes_length r
  same_boxes : is_box r' ≡ is_box r
  same_names : is_symbol r' ≡ is_symbol r

varied_same : {p n : ℕ} (r r' : Row) → Varied p n r r' → SameBut n r r'
unfolding list_length bytes_length is_box is_symbol kind pick vars_length ranges
varied_same r r' varied_string = record { new_words = refl; same_bytes = refl; same_boxes = refl; same_names = refl }
varied_same r r' varied_user = record { new_words = refl; same_bytes = refl; same_boxes = refl; same_names = refl }

-- a row is added, and what it weighs is taken besides: s to t
covered_added : (s t : State) (r : Row) (l b x y : ℕ) → Weighs r l b x y → t.nodes ≡ s.nodes ++ (r ∷ [])
    → length s.references + l ≤ length t.references → length s.bytes + b ≤ length t.bytes → length s.objects + x ≤ length t.objects → length s.symbols + y ≤ length t.symbols → Covered s t
covered_added s t r l b x y w n h₁ h₂ h₃ h₄ = record {
  words = rw n (omega (arith, total_snoc list_length s.nodes r, w.words_are));
  bytes = rw n (omega (arith, total_snoc bytes_length s.nodes r, w.bytes_are));
  boxes = rw n (omega (arith, total_snoc is_box s.nodes r, w.boxes_are));
  names = rw n (omega (arith, total_snoc is_symbol s.nodes r, w.names_are));
}

-- from s to t, with l reference words more than the rows gained
Spare : ℕ → State → State → Type 0
Spare l s t = total list_length t.nodes + l + length s.references ≤ total list_length s.nodes + length t.references

-- a node opened at s is filled at t; the words of its list were reserved on the way
covered_filled : (s t : State) (h l : ℕ) (r : Row) → Weighs r l 0 1 0 → Covered (with_object_node nil s) t → Spare l (with_object_node nil s) t → Covered s (with_row h r t)
unfolding Spare
covered_filled s t h l r w c p = record {
  words = omega (arith, total_snoc list_length s.nodes nil, total_set_most list_length t.nodes h r, w.words_are, nil_weighs.words_are, p);
  bytes = omega (arith, total_snoc bytes_length s.nodes nil, total_set_most bytes_length t.nodes h r, w.bytes_are, nil_weighs.bytes_are, c.bytes);
  boxes = omega (arith, total_snoc is_box s.nodes nil, total_set_most is_box t.nodes h r, w.boxes_are, nil_weighs.boxes_are, len_snoc s.objects (length s.nodes), c.boxes);
  names = omega (arith, total_snoc is_symbol s.nodes nil, total_set_most is_symbol t.nodes h r, w.names_are, nil_weighs.names_are, c.names);
}

covered_room : (n : ℕ) (s : State) → Covered s (with_room n s)
covered_room n s = covered_same s (with_room n s) refl (omega (arith, length-append s.references (replicate n 0))) (omega arith) (omega arith) (omega arith)

covered_word : (i v : ℕ) (s : State) → Covered s (with_word i v s)
covered_word i v s = covered_same s (with_word i v s) refl (omega (arith, length-set s.references i v)) (omega arith) (omega arith) (omega arith)

covered_read : (k : ℕ) (n : Bool) (s : State) → Covered s (read_to k n s)
covered_read k n s = covered_same s (read_to k n s) refl (omega arith) (omega arith) (omega arith) (omega arith)

-- words reserved at s are spare at t
spare_room : (n : ℕ) (s t : State) → Covered (with_room n s) t → Spare n s t
unfolding Spare
spare_room n s t c = omega (arith, c.words, length-append s.references (replicate n 0), length-replicate {A = ℕ} n 0)

spare_after : (n : ℕ) (s t u : State) → Spare n s t → Covered t u → Spare n s u
unfolding Spare
spare_after n s t u p c = omega (arith, c.words, p)

spare_before : (n : ℕ) (s t u : State) → Covered s t → Spare n t u → Spare n s u
unfolding Spare
spare_before n s t u c p = omega (arith, c.words, p)

covered_varied : (s u : State) (n h : ℕ) (r r' : Row) → At u.nodes h r → SameBut n r r' → Covered s u → Spare (n * 2) s u → Covered s (with_row h r' u)
unfolding Spare
covered_varied s u n h r r' a q c p = record {
  words = omega (arith, total_set_most list_length u.nodes h r', q.new_words, p);
  bytes = omega (arith, total_set bytes_length u.nodes h r' r a, q.same_bytes, c.bytes);
  boxes = omega (arith, total_set is_box u.nodes h r' r a, q.same_boxes, c.boxes);
  names = omega (arith, total_set is_symbol u.nodes h r' r a, q.same_names, c.names);
}

covered : {input : List ℕ} {room : Room} {l : ℕ} {m : Mode} {p : List ℕ} {s t : State} {vs : List ℕ} → Trace input room l m p s vs t → Covered s t
covered {s = s} (reading k n a x) = covered_trans (covered_read k n s) (covered x)
covered {s = s} (plain r p l) = covered_added s (with_node r s) r 0 0 0 0 (plain_weighs r p) refl (omega arith) (omega arith) (omega arith) (omega arith)
covered {s = s} {t = t} (known b h o a l) = covered_same s t refl (omega arith) (omega arith) (omega arith) (omega (arith, len_snoc s.symbols h))
covered {s = s} {t = t} (new b e o n p l₁ l₂ l₃) =
    covered_added s t (symbol (length s.bytes) (length b)) 0 (length b) 0 1 (symbol_weighs _ _) refl (omega arith) (omega (arith, length-append s.bytes b)) (omega arith) (omega (arith, len_snoc s.symbols (length s.nodes)))
covered {s = s} (symbol_link i h e o a) = covered_refl s
covered {s = s} (object_link i h e a) = covered_refl s
covered {s = s} (unclassed e) = covered_refl s
covered (classed {t = t} k a e x b) = covered_trans (covered x) (covered_read k a t)
covered (list {o = o} {t = t} r q c l₁ l₂ l₃ x) =
    let s₁ = with_object_node nil o in
    covered_trans (covered c)
    (covered_filled o t (length o.nodes) (list_length r) r (listed_weighs r q) (covered_trans (covered_room (list_length r) s₁) (covered x)) (spare_room (list_length r) s₁ t (covered x)))
covered (hash_default {o = o} {t = t} {u = u} {d = d} n w c l₁ l₂ l₃ x y) =
    let s₁ = with_object_node nil o in
    covered_trans (covered c)
    (covered_filled o u (length o.nodes) (n * 2) (hash (length o.references) n (d + 1) w) (hash_weighs _ n (d + 1) w) (covered_trans (covered_room (n * 2) s₁) (covered_trans (covered x) (covered y)))
    (spare_after (n * 2) s₁ t u (spare_room (n * 2) s₁ t (covered x)) (covered y)))
covered {s = s} (object_pairs {t = t} {u = u} {c = c} n k a e l₁ l₂ x b l₃ y) =
    let s₁ = with_object_node nil s in
    let v = read_to k a t in
    let z = covered_trans (covered x) (covered_read k a t) in
    covered_filled s u (length s.nodes) (n * 2) (object (length t.references) n c) (object_weighs _ n c) (covered_trans z (covered_trans (covered_room (n * 2) v) (covered y)))
    (spare_before (n * 2) s₁ v u z (spare_room (n * 2) v u (covered y)))
covered {t = t} (text_bytes {o = o} q w b e c p l₁ l₂ l₃) =
    covered_trans (covered c)
    (covered_added o t (text_row q (length o.bytes) (length b) w) 0 (length b) 1 0 (text_weighs q _ _ w) refl (omega arith) (omega (arith, length-append o.bytes b)) (omega (arith, len_snoc o.objects (length o.nodes))) (omega arith))
covered {t = t} (user_bytes {t = u} {c = c} b k a e x d p l₁ l₂ l₃) =
    covered_trans (covered x)
    (covered_added u t (user (length u.bytes) (length b) c absent) 0 (length b) 1 0 (user_weighs _ _ c) refl (omega arith) (omega (arith, length-append u.bytes b)) (omega (arith, len_snoc u.objects (length u.nodes))) (omega arith))
covered {s = s} {t = t} (bignum_node low high n m e q h l₁ l₂) =
    covered_added s t (bignum low high m) 0 0 1 0 (bignum_weighs low high m) refl (omega arith) (omega arith) (omega (arith, len_snoc s.objects (length s.nodes))) (omega arith)
covered (stored x) = covered x
covered {s = s} (variables {t = t} {u = u} {h = h} {r = r} {r' = r'} n k a e i x b l y c q) =
    let v = read_to k a t in
    let z = covered_trans (covered x) (covered_read k a t) in
    covered_varied s u n h r r' c (varied_same r r' q) (covered_trans z (covered_trans (covered_room (n * 2) v) (covered y))) (spare_before (n * 2) s v u z (spare_room (n * 2) v u (covered y)))
covered {s = s} no_elements = covered_refl s
covered (element {t = t} {i = i} {v = v} x y) = covered_trans (covered x) (covered_trans (covered_word i v t) (covered y))
covered {s = s} no_pairs = covered_refl s
covered (pair {t = t} {u = u} {i = i} {c = c} {v = v} x y z) = covered_trans (covered x) (covered_trans (covered_word i c t) (covered_trans (covered y) (covered_trans (covered_word (suc i) v u) (covered z))))

-- ---- the same for the nodes seen

vars_words : (v : Vars) → vars_count v * 2 ≤ vars_length v
unfolding vars_count vars_length
vars_words absent = omega arith
vars_words (present p n) = omega arith

pub range_most : (l : List ℕ) (a n : ℕ) → length (range l a n) ≤ n
unfolding range
range_most l a n = simp length-take (omega arith)

-- the node seen of a row weighs no more than the row
see_most : (A : Arena) (r : Row) → (node_words (see A r) ≤ list_length r) × (node_bytes (see A r) ≤ bytes_length r) × (node_box (see A r) ≤ is_box r) × (node_sym (see A r) ≤ is_symbol r)
unfolding see header list_length bytes_length is_box is_symbol kind pick ranges
see_most A nil = omega arith
see_most A (bool true) = omega arith
see_most A (bool false) = omega arith
see_most A (fixnum w) = omega arith
see_most A (symbol s l) = omega (arith, range_most A.bytes s l)
see_most A (array s n w) = omega arith
see_most A (hash s n d w) = omega arith
see_most A (object s n c) = omega arith
see_most A (string s l v w) = omega (arith, vars_words v, range_most A.bytes s l)
see_most A (user s l c v) = omega (arith, vars_words v, range_most A.bytes s l)
see_most A (float s l) = omega (arith, range_most A.bytes s l)
see_most A (bignum low high m) = omega arith

total_map : {A C : Type 0} (w : C → ℕ) (u : A → ℕ) (f : A → C) → ((x : A) → w (f x) ≤ u x) → (l : List A) → total w (map f l) ≤ total u l
total_map w u f h [] = omega arith
total_map w u f h (x ∷ l) = omega (arith, h x, total_map w u f h l)

seen_total : (w : Node → ℕ) (u : Row → ℕ) (s : State) → ((A : Arena) (r : Row) → w (see A r) ≤ u r) → total w (state_seen s).nodes ≤ total u s.nodes
unfolding state_seen seen
seen_total w u s h = total_map w u (see (arena_of s 0)) (h (arena_of s 0)) s.nodes

-- what the nodes of a loaded arena hold
pub record Holds (s : State) : Type 0 where
  pub words : total node_words (state_seen s).nodes ≤ length s.references
  pub bytes : total node_bytes (state_seen s).nodes ≤ length s.bytes
  pub boxes : total node_box (state_seen s).nodes ≤ length s.objects
  pub names : total node_sym (state_seen s).nodes ≤ length s.symbols

pub load_holds : (input : List ℕ) (room : Room) (limit h : ℕ) (s : State) → load input room limit ≡ ok h s → Holds s
unfolding list_length bytes_length is_box is_symbol kind pick ranges
load_holds input room limit h s e =
    let c = covered (load_traced input room limit s h e).trace in
    record {
      words = omega (arith, c.words, seen_total node_words list_length s (λ A r. (see_most A r).0));
      bytes = omega (arith, c.bytes, seen_total node_bytes bytes_length s (λ A r. (see_most A r).1));
      boxes = omega (arith, c.boxes, seen_total node_box is_box s (λ A r. (see_most A r).2));
      names = omega (arith, c.names, seen_total node_sym is_symbol s (λ A r. (see_most A r).3));
    }

pub lf_most : (P : List Node) (v : ℕ) → lf P v ≤ 1
lf_most P v = go (get_elem? P v) refl
  where
    go : (o : Option Node) → get_elem? P v ≡ o → lf P v ≤ 1
    go none e = rw e (omega arith)
    go (some (leaf k x)) e = rw e (omega arith)
    go (some (sym b)) e = rw e (omega arith)
    go (some (box h ms)) e = rw e (omega arith)

-- ---- nodes: no more leaves are members than were made

box_no_leaf : (P : List Node) (v : ℕ) (h : Header) (ms : List ℕ) → At P v (box h ms) → lf P v ≡ 0
box_no_leaf P v h ms e = rw e

sym_no_leaf : (P : List Node) (v : ℕ) (b : List ℕ) → At P v (sym b) → lf P v ≡ 0
sym_no_leaf P v b e = rw e

name_seen : (s : State) (a l : ℕ) → row_seen s (symbol a l) ≡ sym (range s.bytes a l)
unfolding see header
name_seen s a l = refl

no_objects : {A : Type 0} (k v : ℕ) → At (state_seen begin).objs k v → A
unfolding state_seen
no_objects k v a = apart (cc)

-- numbers on both lists are no leaves at the end
pub load_zero : (input : List ℕ) (room : Room) (limit h : ℕ) (s : State) → load input room limit ≡ ok h s → Zero (lf (state_seen s).nodes) (state_seen s)
load_zero input room limit h s e = record {
  zo = λ k v a. object k v (boxed (load_sound input room limit h s e).1 k v a);
  zs = λ k v a. name k v ((load_right_state input room limit h s e).0.symbols k v (rw (syms_seen s) at a));
}
  where
    object : (k v : ℕ) → At (state_seen begin).objs k v ⊎ ((h : Header) × (ms : List ℕ) × At (state_seen s).nodes v (box h ms)) → lf (state_seen s).nodes v ≡ 0
    object k v (inl x) = no_objects k v x
    object k v (inr (h', ms, x)) = box_no_leaf (state_seen s).nodes v h' ms x

    name : (k v : ℕ) → IsName s v → lf (state_seen s).nodes v ≡ 0
    name k v (i, l, x) = sym_no_leaf (state_seen s).nodes v (range s.bytes i l) (seen_at s v (symbol i l) x ∙ ap some (name_seen s i l))

sum_of_ones : (n : ℕ) → sum_to (λ v. 1) n ≡ n
sum_of_ones zero = refl
sum_of_ones (suc n) = omega (arith, sum_of_ones n)

begin_nodes : (state_seen begin).nodes ≡ leaf 0 0 ∷ []
unfolding state_seen seen see header
begin_nodes = refl

-- each box and each symbol, and each leaf that is a member of a box or the root, is a node besides the first
pub load_paid : (input : List ℕ) (room : Room) (limit h : ℕ) (s : State) → load input room limit ≡ ok h s
    → Φ (lf (state_seen s).nodes) 1 (state_seen s).nodes + lf (state_seen s).nodes h + 1 ≤ length s.nodes
load_paid input room limit h s e =
    let P = (state_seen s).nodes in
    let w = lf P in
    let p = paid w (λ v. 1) 1 (lf_most P) (λ v. omega arith) (load_sound input room limit h s e).1 (load_zero input room limit h s e) in
    let q : Φ w 1 P + (w h + 0) + 1 ≤ 0 + 0 + sum_to (λ v. 1) (length P) = subst (λ (l : List Node). Φ w 1 P + (w h + 0) + sum_to (λ v. 1) (length l) ≤ Φ w 1 l + sum_to (λ v. 1) (length P)) begin_nodes p in
    omega (arith, length_seen s, sum_of_ones (length P))

-- ---- leaves: none is a member twice

-- 1 at v, else 0
abbrev pub only : ℕ → ℕ → ℕ
only v u = pick (eqb v u) 1 0

pub only_there : (v : ℕ) → only v v ≡ 1
unfolding pick
only_there v = rw (eq-eqb v v refl)

only_other : (v u : ℕ) → v ≢ u → only v u ≡ 0
unfolding pick
only_other v u n = rw (ne_eqb v u n)

sum_only : (v n : ℕ) → sum_to (only v) n ≤ 1
sum_only v n = (go n).0
  where
    at : (n : ℕ) → Dec (v ≡ n) → (sum_to (only v) n ≤ 1) × (n ≤ v → sum_to (only v) n ≡ 0) → (sum_to (only v) (suc n) ≤ 1) × (suc n ≤ v → sum_to (only v) (suc n) ≡ 0)
    at n (yes e) (p, q) = (rw (← e) (omega (arith, only_there v, subst (λ (m : ℕ). m ≤ v → sum_to (only v) m ≡ 0) (psym e) q (omega arith))), λ h. absurd (omega arith))
    at n (no e) (p, q) = (omega (arith, only_other v n e), λ h. omega (arith, only_other v n e, q (omega arith)))

    go : (n : ℕ) → (sum_to (only v) n ≤ 1) × (n ≤ v → sum_to (only v) n ≡ 0)
    go zero = (omega arith, λ h. refl)
    go (suc n) = at n (ℕ_discrete v n) (go n)

-- a leaf is a member of all boxes together, or the root, at most once, and the first node never
pub load_once : (input : List ℕ) (room : Room) (limit h : ℕ) (s : State) → load input room limit ≡ ok h s → (v : ℕ) → lf (state_seen s).nodes v ≡ 1
    → Φ (only v) 0 (state_seen s).nodes + only v h + only v 0 ≤ 1
load_once input room limit h s e v l =
    let P = (state_seen s).nodes in
    let z = load_zero input room limit h s e in
    let z' : Zero (only v) (state_seen s) = record {
      zo = λ k u a. only_other v u (λ q. no_leaf u q (z.zo k u a));
      zs = λ k u a. only_other v u (λ q. no_leaf u q (z.zs k u a));
    } in
    let p = paid (only v) (only v) 0 (λ u. omega arith) (λ u. omega arith) (load_sound input room limit h s e).1 z' in
    let q : Φ (only v) 0 P + (only v h + 0) + (0 + only v 0) ≤ 0 + 0 + sum_to (only v) (length P) =
    subst (λ (l : List Node). Φ (only v) 0 P + (only v h + 0) + sum_to (only v) (length l) ≤ Φ (only v) 0 l + sum_to (only v) (length P)) begin_nodes p in
    omega (arith, sum_only v (length P))
  where
    no_leaf : (u : ℕ) → v ≡ u → lf (state_seen s).nodes u ≡ 0 → ⊥
    no_leaf u q a = let b : lf (state_seen s).nodes u ≡ 1 = rw (← q) l in omega arith
