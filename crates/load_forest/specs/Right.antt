-- A loaded arena is well formed: ranges are inside, links are nodes, names are symbols, and a Bignum's number is right.
use Rattle.std.specs.Prelude.{ℕ, zero, suc, ◌+◌, ◌*◌, ◌≤◌, ◌<◌, ◌≡◌, refl, Bool, true, false, ◌⊎◌, ◌≢◌, List, [], ◌∷◌, ◌++◌, length, replicate}
use Rattle.std.proofs.Common.{ap, subst, ◌∙◌, inl, inr, append-nil, length-set, length-append, arith}
use Rattle.std.proofs.Math.Option.{some}
use Rattle.definition.specs.Run.{ok, pick}
use Rattle.definition.specs.Magnitude.{magnitude}
use Rattle.definition.specs.Node.{Row, nil, fixnum, symbol, hash, object, user, bignum, absent, kind, words, optional_node}
use Rattle.definition.specs.Arena.{Arena, range, firsts, row_right}
use Rattle.definition.specs.State.{State, Room, noted}
use Rattle.definition.specs.Load.{begin, load}
use Rattle.definition.specs.Graph.{links, vars_links}
use Rattle.lists.specs.Lists.{At, at_lt, at_app, at_snoc, at_snoc_inv, at_set_same, at_set_other, at_set_inv, len_snoc, apart, Below, below_up, below_snoc, below_first, below_join, no_at, below_one}
use Rattle.lists.specs.Ranges.{range_more}
use Rattle.graph.specs.Forest.{sym, Texted, text_string, text_float}
use Rattle.graph.specs.View.{text_row, arena_of, state_seen}
use Rattle.well_formed.specs.Nodes.{Name}
use Rattle.well_formed.specs.Right as W
use Rattle.well_formed.specs.Right.{NumberRight, name_below}
use Rattle.load_forest.specs.Trace.{Mode, value, text, name, opening, elements, pairs, One, as_value, as_name, Plain, plain_nil, plain_true, plain_false, plain_fixnum, list_class, Trace, reading, plain, known, new, symbol_link, object_link, unclassed, classed, list, hash_default, object_pairs, text_bytes, user_bytes, bignum_node, stored, variables, no_elements, element, no_pairs, pair}
use Rattle.load_forest.specs.Readers.{load_traced}
use Rattle.load_forest.specs.Frames.{Ready, left, ready_reading, ready_text, ready_inner, ready_value, ready_name, ready_opening, ready_pairs, ready_opened, ready_next, ready_after_name, ready_after_value}
use Rattle.load_forest.specs.Kept.{Kept, kept, nil_fixed, symbol_fixed}
use Rattle.states.specs.Rows.{bytes_start, bytes_length, list_start, list_length, vars_start, vars_length, row_words, Listed, is_array, is_hash, Varied, varied_string, varied_user, ranges}
use Rattle.states.specs.States.{keeps_refl, keeps_trans, keeps_object_node, Inside, Ranged, Free, read_to, sought, with_node, with_object, with_symbol, with_object_node, with_bytes, with_words, with_word, with_row, with_new_symbol, inside_up, seen_at_inv, frame_range, free_part, inside_nil, inside_bignum, words_but, with_room, opened_ranged, begin_ranged}
use Rattle.states.specs.Symbols.{symbol_of}
use Rattle.states.specs.Right.{row_names, Numbered, RightIn, Onward, right_yes, row_onward, names_first, names_join, names_left, pair_names, own_names}

-- node c is a symbol
abbrev pub IsName : State → ℕ → Type 0
IsName s c = Name (arena_of s 0) c

abbrev pub RowRight : State → Row → Type 0
RowRight s r = RightIn (arena_of s 0) r

pub record Right (s : State) : Type 0 where
  pub rows : (i : ℕ) (r : Row) → At s.nodes i r → RowRight s r
  pub objects : Below (length s.nodes) s.objects
  pub symbols : (k c : ℕ) → At s.symbols k c → IsName s c

pub name_kept : {s t : State} (c : ℕ) → Kept s t → IsName s c → IsName t c
name_kept c κ (a, l, e) = (a, l, κ.stands c (symbol a l) symbol_fixed e)

-- a class, where there is one, is a symbol
abbrev ClassRight : State → ℕ → Type 0
ClassRight s w = W.ClassRight (arena_of s 0) w

class_kept : {s t : State} (w : ℕ) → Kept s t → ClassRight s w → ClassRight t w
class_kept w κ h k c a = name_kept c κ (h k c a)

-- ---- a row is right in a later state, where its words are the same

abbrev On : State → State → Type 0
On s t = Onward (arena_of s 0) (arena_of t 0)

row_on : (s t : State) (r : Row) → On s t → row_words (arena_of t 0) r ≡ row_words (arena_of s 0) r → RowRight s r → RowRight t r
row_on s t r o e h = row_onward (arena_of s 0) (arena_of t 0) r o e h

lists_on : (s t : State) → On s t → t.objects ≡ s.objects → t.symbols ≡ s.symbols → ((i : ℕ) (r : Row) → At t.nodes i r → RowRight t r) → Right s → Right t
lists_on s t o p q h x = record {
  rows = h;
  objects = λ k v a. omega (arith, o.count, x.objects k v (rw p at a));
  symbols = λ k c a. o.names c (x.symbols k c (rw q at a));
}

-- the same rows, whose words are the same
right_on : (s t : State) → On s t → t.nodes ≡ s.nodes → t.objects ≡ s.objects → t.symbols ≡ s.symbols
    → ((i : ℕ) (r : Row) → At s.nodes i r → row_words (arena_of t 0) r ≡ row_words (arena_of s 0) r) → Right s → Right t
right_on s t o n p q w x = lists_on s t o p q (λ i r a. let b : At s.nodes i r = rw n at a in row_on s t r o (w i r b) (x.rows i r b)) x

on_same : (s t : State) → t.nodes ≡ s.nodes → length s.bytes ≤ length t.bytes → length s.references ≤ length t.references → On s t
on_same s t n b w = record { count = rw n (omega arith); names = λ c (a, l, e). (a, l, rw n e); more_bytes = b; more_words = w }

right_read : (k : ℕ) (n : Bool) (s : State) → Right s → Right (read_to k n s)
right_read k n s x = right_on s (read_to k n s) (on_same s (read_to k n s) refl (omega arith) (omega arith)) refl refl refl (λ i r a. refl) x

right_sought : (b : List ℕ) (s : State) → Right s → Right (sought b s)
right_sought b s x = right_on s (sought b s) (on_same s (sought b s) refl (omega arith) (omega arith)) refl refl refl (λ i r a. refl) x

right_bytes : (b : List ℕ) (s : State) → Right s → Right (with_bytes b s)
right_bytes b s x = right_on s (with_bytes b s) (on_same s (with_bytes b s) refl (omega (arith, length-append s.bytes b)) (omega arith)) refl refl refl (λ i r a. refl) x

right_words : (ws : List ℕ) (s : State) → Right s → Right (with_words ws s)
right_words ws s x =
    right_on s (with_words ws s) (on_same s (with_words ws s) refl (omega arith) (omega (arith, length-append s.references ws))) refl refl refl
    (λ i r a. range_more s.references ws _ _ (x.rows i r a).inside.list_inside) x

right_word : (i v : ℕ) (s : State) → Free i 1 s → Right s → Right (with_word i v s)
right_word i v s f x =
    right_on s (with_word i v s) (on_same s (with_word i v s) refl (omega arith) (omega (arith, length-set s.references i v))) refl refl refl
    (λ j r a. words_but i v s r (x.rows j r a).inside (f j r a)) x

right_symbol : (h : ℕ) (s : State) → IsName s h → Right s → Right (with_symbol h s)
right_symbol h s n x =
    let t = with_symbol h s in
    let o = on_same s t refl (omega arith) (omega arith) in
    record {
      rows = λ i r a. row_on s t r o refl (x.rows i r a);
      objects = x.objects;
      symbols = λ k c a. go k c (at_snoc_inv s.symbols h k c a);
    }
  where
    go : (k c : ℕ) → At s.symbols k c ⊎ ((k ≡ length s.symbols) × (c ≡ h)) → IsName s c
    go k c (inl a) = x.symbols k c a
    go k c (inr a) = rw a.1 n

right_object : (h : ℕ) (s : State) → h < length s.nodes → Right s → Right (with_object h s)
right_object h s l x =
    let t = with_object h s in
    record {
      rows = λ i r a. row_on s t r (on_same s t refl (omega arith) (omega arith)) refl (x.rows i r a);
      objects = below_snoc (length s.nodes) s.objects h l x.objects;
      symbols = x.symbols;
    }

on_node : (r : Row) (s : State) → On s (with_node r s)
on_node r s = record {
  count = omega (arith, len_snoc s.nodes r);
  names = λ c (a, l, e). (a, l, at_app s.nodes (r ∷ []) c (symbol a l) e);
  more_bytes = omega arith;
  more_words = omega arith;
}

right_node : (r : Row) (s : State) → RowRight s r → Right s → Right (with_node r s)
right_node r s h x = lists_on s (with_node r s) (on_node r s) refl refl (λ i q a. go i q (at_snoc_inv s.nodes r i q a)) x
  where
    go : (i : ℕ) (q : Row) → At s.nodes i q ⊎ ((i ≡ length s.nodes) × (q ≡ r)) → RowRight (with_node r s) q
    go i q (inl a) = row_on s (with_node r s) q (on_node r s) refl (x.rows i q a)
    go i q (inr a) = rw a.1 (row_on s (with_node r s) r (on_node r s) refl h)

right_object_node : (r : Row) (s : State) → RowRight s r → Right s → Right (with_object_node r s)
right_object_node r s h x = right_object (length s.nodes) (with_node r s) (omega (arith, len_snoc s.nodes r)) (right_node r s h x)

-- a row that is no symbol is filled
on_row : (h : ℕ) (r q : Row) (s : State) → At s.nodes h q → ((a l : ℕ) → q ≡ symbol a l → ⊥) → On s (with_row h r s)
on_row h r q s e n = record {
  count = omega (arith, length-set s.nodes h r);
  names = λ c (a, l, x). (a, l, at_set_other s.nodes h c r (symbol a l) (λ z. absurd (other c a l x z)) x);
  more_bytes = omega arith;
  more_words = omega arith;
}
  where
    other : (c a l : ℕ) → At s.nodes c (symbol a l) → c ≡ h → ⊥
    other c a l x z = n a l (cc)

right_row : (h : ℕ) (r q : Row) (s : State) → At s.nodes h q → ((a l : ℕ) → q ≡ symbol a l → ⊥) → RowRight s r → Right s → Right (with_row h r s)
right_row h r q s e n y x = lists_on s (with_row h r s) (on_row h r q s e n) refl refl (λ i p a. go i p (at_set_inv s.nodes h i r p a)) x
  where
    go : (i : ℕ) (p : Row) → ((i ≡ h) × (p ≡ r)) ⊎ ((i ≢ h) × At s.nodes i p) → RowRight (with_row h r s) p
    go i p (inl a) = rw a.1 (row_on s (with_row h r s) r (on_row h r q s e n) refl y)
    go i p (inr a) = row_on s (with_row h r s) p (on_row h r q s e n) refl (x.rows i p a.1)

-- ---- what was read

abbrev names_of : Mode → List ℕ → List ℕ
names_of value vs = []
names_of text vs = []
names_of name vs = vs
names_of (opening w q) vs = vs
names_of (elements n i) vs = []
names_of (pairs n i) vs = firsts vs

-- nodes of t, and names where names were read
record Given (m : Mode) (t : State) (vs : List ℕ) : Type 0 where
  below : Below (length t.nodes) vs
  named : (k c : ℕ) → At (names_of m vs) k c → IsName t c

given_value : (t : State) (v : ℕ) → v < length t.nodes → Given value t (v ∷ [])
given_value t v h = record { below = below_one _ v h; named = λ k c a. no_at k c a }

given_name : {l : ℕ} {m : Mode} → One l m → (t : State) (v : ℕ) → IsName t v → Given m t (v ∷ [])
given_name as_value t v n = given_value t v (name_below (arena_of t 0) v n)
given_name as_name t v n = record { below = below_one _ v (name_below (arena_of t 0) v n); named = names_first (arena_of t 0) v [] n (λ k c a. no_at k c a) }

nil_no_symbol : (a l : ℕ) → nil ≡ symbol a l → ⊥
nil_no_symbol a l e = apart (cc)

-- the node opened at s's end is still nil when it is filled
still_nil : (s t : State) → Kept (with_object_node nil s) t → At t.nodes (length s.nodes) nil
still_nil s t κ = κ.stands (length s.nodes) nil nil_fixed (at_snoc s.nodes nil)

-- ---- the rows that are added or filled

bare : (s : State) (r : Row) → Inside s r → links (arena_of s 0) r ≡ [] → row_names (arena_of s 0) r ≡ [] → Numbered r → RowRight s r
bare s r i l n m = record {
  inside = i;
  below = λ k v a. no_at k v (subst (λ (x : List ℕ). At x k v) l a);
  names = λ k v a. no_at k v (subst (λ (x : List ℕ). At x k v) n a);
  number = m;
}

plain_right : {input p : List ℕ} (s : State) (r : Row) → Plain input p r → Inside s r → RowRight s r
unfolding links row_names pair_names own_names kind words optional_node pick
plain_right s r plain_nil i = bare s nil i refl refl (λ low high m e. apart (cc))
plain_right s r plain_true i = bare s _ i refl refl (λ low high m e. apart (cc))
plain_right s r plain_false i = bare s _ i refl refl (λ low high m e. apart (cc))
plain_right s r (plain_fixnum w u t e) i = bare s (fixnum w) i refl refl (λ low high m e. apart (cc))

nil_right : (s : State) → RowRight s nil
unfolding links row_names pair_names own_names kind words optional_node pick
nil_right s = bare s nil (inside_nil s) refl refl (λ low high m e. apart (cc))

symbol_right : (s : State) (a l : ℕ) → Inside s (symbol a l) → RowRight s (symbol a l)
unfolding links row_names pair_names own_names kind words optional_node pick
symbol_right s a l i = bare s (symbol a l) i refl refl (λ low high m e. apart (cc))

-- links and names that begin with a class
class_links : (s : State) (w : ℕ) (ms : List ℕ) → ClassRight s w → Below (length s.nodes) ms → Below (length s.nodes) (optional_node w ++ ms)
class_links s w ms c b = below_join _ (optional_node w) ms (W.class_below (arena_of s 0) w c) b

class_names : (s : State) (w : ℕ) → ClassRight s w → (k d : ℕ) → At (optional_node w ++ []) k d → IsName s d
class_names s w c = names_join (arena_of s 0) (optional_node w) [] c (λ k d a. no_at k d a)

text_right : {k n : ℕ} {d : Bool} (q : Texted k n d) (s : State) (a l w : ℕ) → ClassRight s w → Inside s (text_row q a l w) → RowRight s (text_row q a l w)
unfolding links row_names vars_links firsts range list_length vars_length ranges pair_names own_names kind words optional_node pick
text_right text_string s a l w c i = record { inside = i; below = class_links s w [] c (λ k v a. no_at k v a); names = class_names s w c; number = λ low high m e. apart (cc) }
text_right text_float s a l w c i = bare s _ i refl refl (λ low high m e. apart (cc))

bignum_right : (s : State) (low high : ℕ) (m : Bool) → NumberRight (magnitude low high) m → RowRight s (bignum low high m)
unfolding links row_names pair_names own_names kind words optional_node pick
bignum_right s low high m h = bare s _ (inside_bignum low high m s) refl refl (λ a b c e. subst (W.RowRight (arena_of s 0)) e h)

user_right : (s : State) (a l c : ℕ) → Inside s (user a l c absent) → IsName s c → RowRight s (user a l c absent)
unfolding links row_names vars_links firsts range list_length vars_length ranges pair_names own_names kind words optional_node pick
user_right s a l c i n = record { inside = i; below = below_one _ c (name_below (arena_of s 0) c n); names = names_first (arena_of s 0) c [] n (λ k d a. no_at k d a); number = λ low high m e. apart (cc) }

listed_right : {p : ℕ} (s : State) (r : Row) (ms : List ℕ) (q : Listed p r) → ClassRight s (list_class q) → Inside s r → range s.references p (list_length r) ≡ ms → Below (length s.nodes) ms → RowRight s r
unfolding links row_names list_length ranges pair_names own_names kind words optional_node pick
listed_right {p = p} s r ms (is_array n w) c i e b = record {
  inside = i;
  below = class_links s w (range s.references p n) c (λ k v a. b k v (rw e at a));
  names = class_names s w c;
  number = λ low high m q. apart (cc);
}
listed_right {p = p} s r ms (is_hash n w) c i e b = record {
  inside = i;
  below = class_links s w (range s.references p (n * 2) ++ []) c (λ k v a. b k v (subst (λ (x : List ℕ). At x k v) (append-nil (range s.references p (n * 2)) ∙ e) a));
  names = class_names s w c;
  number = λ low high m q. apart (cc);
}

hash_right : (s : State) (p n d w : ℕ) (ms : List ℕ) → ClassRight s w → Inside s (hash p n (d + 1) w) → range s.references p (n * 2) ≡ ms → Below (length s.nodes) ms → d < length s.nodes → RowRight s (hash p n (d + 1) w)
unfolding links row_names pair_names own_names kind words optional_node pick
hash_right s p n d w ms c i e b h = record {
  inside = i;
  below = class_links s w (range s.references p (n * 2) ++ optional_node (d + 1)) c (below_join _ (range s.references p (n * 2)) (optional_node (d + 1)) (λ k v a. b k v (rw e at a)) last);
  names = class_names s w c;
  number = λ low high m q. apart (cc);
}
  where
    last : Below (length s.nodes) (optional_node (d + 1))
    last = let z : d + 1 ≡ suc d = omega arith in rw z (below_one _ d h)

object_right : (s : State) (p n c : ℕ) (ms : List ℕ) → Inside s (object p n c) → range s.references p (n * 2) ≡ ms → IsName s c → Below (length s.nodes) ms
    → ((k d : ℕ) → At (firsts ms) k d → IsName s d) → RowRight s (object p n c)
unfolding links row_names list_start list_length ranges pair_names own_names kind words optional_node pick
object_right s p n c ms i e x b h = record {
  inside = i;
  below = below_first _ c (range s.references p (n * 2)) (name_below (arena_of s 0) c x) (λ k v a. b k v (rw e at a));
  names = names_first (arena_of s 0) c (firsts (range s.references p (n * 2))) x (λ k d a. h k d (subst (λ (l : List ℕ). At (firsts l) k d) e a));
  number = λ low high m q. apart (cc);
}

varied_right : {p n : ℕ} (s : State) (r r' : Row) (ms : List ℕ) → Varied p n r r' → Inside s r' → range s.references p (n * 2) ≡ ms → RowRight s r → Below (length s.nodes) ms
    → ((k d : ℕ) → At (firsts ms) k d → IsName s d) → RowRight s r'
unfolding links row_names vars_links list_start list_length vars_start vars_length ranges pair_names own_names kind words pick
varied_right {p = p} {n = n} s r r' ms (varied_string {w = w}) i e x b h =
    let c = names_left (arena_of s 0) (optional_node w) _ x.names in
    record {
      inside = i;
      below = class_links s w (range s.references p (n * 2)) c (λ k v a. b k v (rw e at a));
      names = names_join (arena_of s 0) (optional_node w) (firsts (range s.references p (n * 2))) c (λ k d a. h k d (subst (λ (l : List ℕ). At (firsts l) k d) e a));
      number = λ low high m q. apart (cc);
    }
varied_right {p = p} {n = n} s r r' ms (varied_user {c = c}) i e x b h = record {
  inside = i;
  below = below_first _ c (range s.references p (n * 2)) (x.below 0 c refl) (λ k v a. b k v (rw e at a));
  names = names_first (arena_of s 0) c (firsts (range s.references p (n * 2))) (x.names 0 c refl) (λ k d a. h k d (subst (λ (l : List ℕ). At (firsts l) k d) e a));
  number = λ low high m q. apart (cc);
}

varied_no_symbol : {p n : ℕ} (r r' : Row) → Varied p n r r' → (a l : ℕ) → r ≡ symbol a l → ⊥
varied_no_symbol {p} {n} r r' q a l e = symbol_fixed p n r' (subst (λ (x : Row). Varied p n x r') e q)

opened_right : (s : State) → Right s → Right (with_object_node nil s)
opened_right s x = right_object_node nil s (nil_right s) x

no_pair : {A : Type 0} (k v : ℕ) → At (firsts []) k v → A
unfolding firsts
no_pair k v a = no_at k v a

-- ---- the steps

record Done (m : Mode) (t : State) (vs : List ℕ) : Type 0 where
  right : Right t
  given : Given m t vs

done_plain : {input p : List ℕ} (s : State) (r : Row) → Plain input p r → Ranged (with_node r s) → Right s → Done value (with_node r s) (length s.nodes ∷ [])
done_plain s r p g x =
    let i = inside_up (with_node r s) s r (omega arith) (omega arith) (g (length s.nodes) r (at_snoc s.nodes r)) in
    record { right = right_node r s (plain_right s r p i) x; given = given_value (with_node r s) (length s.nodes) (omega (arith, len_snoc s.nodes r)) }

seen_name : (s : State) (b : List ℕ) (h : ℕ) → At (state_seen s).nodes h (sym b) → IsName s h
seen_name s b h a =
    let (r, e, q) = seen_at_inv s h (sym b) a in
    let (i, l, z, w) = symbol_of (arena_of s 0) b r q in
    (i, l, e ∙ ap some z)

done_known : {l : ℕ} (m : Mode) → One l m → (s : State) (b : List ℕ) (h : ℕ) → At (state_seen s).nodes h (sym b) → Right s → Done m (with_symbol h (noted false (sought b s))) (h ∷ [])
done_known m o s b h a x =
    let n = seen_name s b h a in
    record { right = right_symbol h (noted false (sought b s)) n (right_read s.at _ (sought b s) (right_sought b s x)); given = given_name o (with_symbol h (noted false (sought b s))) h n }

done_new : {l : ℕ} (m : Mode) → One l m → (s : State) (b : List ℕ) → Right s
    → Done m (with_new_symbol b (sought b s)) (length s.nodes ∷ [])
unfolding bytes_start bytes_length list_start list_length ranges
done_new m o s b x =
    let r = symbol (length s.bytes) (length b) in
    let u = with_bytes b (sought b s) in
    let t = with_node r u in
    let n : IsName t (length s.nodes) = (length s.bytes, length b, at_snoc s.nodes r) in
    let i : Inside u r = record { bytes_inside = omega (arith, length-append s.bytes b); list_inside = omega arith } in
    record {
      right = right_symbol (length s.nodes) t n (right_node r u (symbol_right u (length s.bytes) (length b) i) (right_bytes b (sought b s) (right_sought b s x)));
      given = given_name o (with_symbol (length s.nodes) t) (length s.nodes) n;
    }

-- the opened node is filled
filled_right : (s t : State) (r : Row) → Kept (with_object_node nil s) t → RowRight t r → Right t → Done value (with_row (length s.nodes) r t) (length s.nodes ∷ [])
filled_right s t r κ y x =
    let e = still_nil s t κ in
    record {
      right = right_row (length s.nodes) r nil t e nil_no_symbol y x;
      given = given_value (with_row (length s.nodes) r t) (length s.nodes) (omega (arith, at_lt t.nodes (length s.nodes) nil e, length-set t.nodes (length s.nodes) r));
    }

-- the row just filled, at t
filled_inside : (h : ℕ) (r : Row) (t : State) → h < length t.nodes → Ranged (with_row h r t) → Inside t r
filled_inside h r t l g = inside_up (with_row h r t) t r (omega arith) (omega arith) (g h r (at_set_same t.nodes h r l))

opened_at : (s t : State) → Kept (with_object_node nil s) t → length s.nodes < length t.nodes
opened_at s t κ = at_lt t.nodes (length s.nodes) nil (still_nil s t κ)

done_list : (s t : State) (r : Row) (ms : List ℕ) (l : Listed (length s.references) r) → ClassRight s (list_class l) → Kept (with_object_node nil s) t → Ranged (with_row (length s.nodes) r t)
    → range t.references (length s.references) (list_length r) ≡ ms → Done (elements (list_length r) (length s.references)) t ms
    → Done value (with_row (length s.nodes) r t) (length s.nodes ∷ [])
done_list s t r ms l c κ g e d =
    filled_right s t r κ (listed_right t r ms l (class_kept (list_class l) (keeps_trans (keeps_object_node nil s) κ) c) (filled_inside (length s.nodes) r t (opened_at s t κ) g) e d.given.below) d.right

done_hash_default : (s t u : State) (n d w : ℕ) (ms : List ℕ) → ClassRight s w → Kept (with_object_node nil s) t → Kept t u → Ranged (with_row (length s.nodes) (hash (length s.references) n (d + 1) w) u)
    → range u.references (length s.references) (n * 2) ≡ ms → Below (length t.nodes) ms → Done value u (d ∷ [])
    → Done value (with_row (length s.nodes) (hash (length s.references) n (d + 1) w) u) (length s.nodes ∷ [])
done_hash_default s t u n d w ms c κ λ' g e b x =
    let κ' = keeps_trans κ λ' in
    let r = hash (length s.references) n (d + 1) w in
    filled_right s u r κ'
    (hash_right u (length s.references) n d w ms (class_kept w (keeps_trans (keeps_object_node nil s) κ') c) (filled_inside (length s.nodes) r u (opened_at s u κ') g) e (below_up _ _ ms λ'.grows b) (x.given.below 0 d refl)) x.right

done_object : (s t u : State) (n c p : ℕ) (ms : List ℕ) → Kept (with_object_node nil s) t → Kept t u → Ranged (with_row (length s.nodes) (object p n c) u)
    → range u.references p (n * 2) ≡ ms → IsName t c → Done (pairs n p) u ms
    → Done value (with_row (length s.nodes) (object p n c) u) (length s.nodes ∷ [])
done_object s t u n c p ms κ λ' g e y x =
    let κ' = keeps_trans κ λ' in
    let r = object p n c in
    filled_right s u r κ'
    (object_right u p n c ms (filled_inside (length s.nodes) r u (opened_at s u κ') g) e (name_kept c λ' y) x.given.below x.given.named) x.right

-- a node just added at the end, with bytes of its own
added_inside : (r : Row) (b : List ℕ) (t : State) → Ranged (with_object_node r (with_bytes b t)) → Inside (with_bytes b t) r
added_inside r b t g = inside_up (with_object_node r (with_bytes b t)) (with_bytes b t) r (omega arith) (omega arith) (g (length t.nodes) r (at_snoc t.nodes r))

done_added : (r : Row) (b : List ℕ) (t : State) → RowRight (with_bytes b t) r → Right t → Done text (with_object_node r (with_bytes b t)) (length t.nodes ∷ [])
done_added r b t y x = record {
  right = right_object_node r (with_bytes b t) y (right_bytes b t x);
  given = record { below = below_one _ (length t.nodes) (omega (arith, len_snoc t.nodes r)); named = λ k c a. no_at k c a };
}

done_text : {k n : ℕ} {d : Bool} (q : Texted k n d) (s : State) (b : List ℕ) (a l w : ℕ) → ClassRight s w → Ranged (with_object_node (text_row q a l w) (with_bytes b s)) → Right s
    → Done text (with_object_node (text_row q a l w) (with_bytes b s)) (length s.nodes ∷ [])
done_text q s b a l w c g x = done_added (text_row q a l w) b s (text_right q (with_bytes b s) a l w c (added_inside _ b s g)) x

done_bignum : (s : State) (low high n : ℕ) (m : Bool) → magnitude low high ≡ n → NumberRight n m → Right s → Done value (with_object_node (bignum low high m) s) (length s.nodes ∷ [])
done_bignum s low high n m e h x =
    let r = bignum low high m in
    record {
      right = right_object_node r s (bignum_right s low high m (rw e h)) x;
      given = given_value (with_object_node r s) (length s.nodes) (omega (arith, len_snoc s.nodes r));
    }

done_user : (t : State) (b : List ℕ) (a l c : ℕ) → Ranged (with_object_node (user a l c absent) (with_bytes b t)) → IsName t c → Right t
    → Done text (with_object_node (user a l c absent) (with_bytes b t)) (length t.nodes ∷ [])
done_user t b a l c g n x = done_added (user a l c absent) b t (user_right (with_bytes b t) a l c (added_inside _ b t g) n) x

done_variables : {p n : ℕ} (u : State) (h : ℕ) (r r' : Row) (ms : List ℕ) → At u.nodes h r → Varied p n r r' → Ranged (with_row h r' u) → range u.references p (n * 2) ≡ ms
    → Done (pairs n p) u ms → Done value (with_row h r' u) (h ∷ [])
done_variables u h r r' ms a q g e x =
    let l = at_lt u.nodes h r a in
    record {
      right = right_row h r' r u a (varied_no_symbol r r' q) (varied_right u r r' ms q (filled_inside h r' u l g) e (x.right.rows h r a) x.given.below x.given.named) x.right;
      given = given_value (with_row h r' u) h (omega (arith, length-set u.nodes h r'));
    }

done_element : (t u : State) (n i v : ℕ) (vs : List ℕ) → Kept (with_word i v t) u → Given value t (v ∷ []) → Done (elements n (suc i)) u vs → Done (elements (suc n) i) u (v ∷ vs)
done_element t u n i v vs κ g x = record {
  right = x.right;
  given = record { below = below_first _ v vs (omega (arith, κ.grows, g.below 0 v refl)) x.given.below; named = λ k c a. no_at k c a };
}

done_pair : (t u w : State) (n i c v : ℕ) (vs : List ℕ) → Kept (with_word i c t) u → Kept (with_word (suc i) v u) w → Given name t (c ∷ []) → Given value u (v ∷ []) → Done (pairs n (suc (suc i))) w vs
    → Done (pairs (suc n) i) w (c ∷ v ∷ vs)
unfolding firsts
done_pair t u w n i c v vs κ₁ κ₂ g₁ g₂ x =
    let m₁ : IsName (with_word i c t) c = g₁.named 0 c refl in
    let m₂ : IsName (with_word (suc i) v u) c = name_kept c κ₁ m₁ in
    let m₃ : IsName w c = name_kept c κ₂ m₂ in
    record {
      right = x.right;
      given = record {
        below = below_first _ c (v ∷ vs) (name_below (arena_of w 0) c m₃) (below_first _ v vs (omega (arith, κ₂.grows, g₂.below 0 v refl)) x.given.below);
        named = names_first (arena_of w 0) c (firsts vs) m₃ x.given.named;
      };
    }

-- ---- any trace

right_of : {input : List ℕ} {room : Room} {l : ℕ} {m : Mode} {p : List ℕ} {s t : State} {vs : List ℕ} → Trace input room l m p s vs t → Ready m s → Right s → Done m t vs
right_of {m = m} {s = s} (reading k n a x) h d = right_of x (ready_reading m s k n h) (right_read k n s d)
right_of {room = room} {l = l} {s = s} (plain r p j) h d = done_plain s r p (left {room = room} {l = l} (plain r p j) h).ranged d
right_of {m = m} {s = s} (known b v o a l) h d = done_known m o s b v a d
right_of {m = m} {s = s} (new b e o n p l₁ l₂ l₃) h d = done_new m o s b d
right_of {m = m} {s = s} (symbol_link i v e o a) h d = record { right = d; given = given_name o s v (d.symbols i v a) }
right_of {s = s} (object_link i v e a) h d = record { right = d; given = given_value s v (d.objects i v a) }
right_of (unclassed e) h d = record { right = d; given = record { below = λ k v a. no_at k v a; named = λ k v a. no_at k v a } }
right_of {s = s} (classed {t = t} k a e x b) h d =
    let z = right_of x (ready_name s h.ranged) d in
    record { right = right_read k a t z.right; given = record { below = z.given.below; named = z.given.named } }
right_of {s = s} (list {o = s₁} {t = t} {ms = ms} r q c l₁ l₂ l₃ x) h d =
    let j = ready_opening _ _ s h.ranged in
    let d₀ = right_of c j d in
    let o = ready_opened (list_length r) s₁ (left c j).ranged in
    let κ = keeps_trans (keeps_refl (with_object_node nil s₁) (with_room (list_length r) (with_object_node nil s₁)) refl) (kept x) in
    done_list s₁ t r ms q d₀.given.named κ (left (list {ms = ms} r q c l₁ l₂ l₃ x) h).ranged (left x o).words
    (right_of x o (right_words (replicate (list_length r) 0) (with_object_node nil s₁) (opened_right s₁ d₀.right)))
right_of {s = s} (hash_default {o = s₁} {t = t} {u = u} {ms = ms} {d = v} n w c l₁ l₂ l₃ x y) h d =
    let j = ready_opening _ _ s h.ranged in
    let d₀ = right_of c j d in
    let o = ready_opened (n * 2) s₁ (left c j).ranged in
    let z = left x o in
    let i = ready_value t z.ranged in
    let e = frame_range (length s₁.references) (n * 2) (left y i).frame (omega (arith, o.fits, z.frame.references_grow)) (omega (arith, o.fits, z.frame.references_grow)) ∙ z.words in
    let κ = keeps_trans (keeps_refl (with_object_node nil s₁) (with_room (n * 2) (with_object_node nil s₁)) refl) (kept x) in
    let d₁ = right_of x o (right_words (replicate (n * 2) 0) (with_object_node nil s₁) (opened_right s₁ d₀.right)) in
    done_hash_default s₁ t u n v w ms d₀.given.named κ (kept y) (left (hash_default {ms = ms} n w c l₁ l₂ l₃ x y) h).ranged e d₁.given.below (right_of y i d₁.right)
right_of {s = s} (object_pairs {t = t} {u = u} {ms = ms} {c = c} n k a e l₁ l₂ x b l₃ y) h d =
    let o = ready_name (with_object_node nil s) (opened_ranged s h.ranged) in
    let v = read_to k a t in
    let p = ready_pairs n v (left x o).ranged in
    let d₁ = right_of x o (opened_right s d) in
    let d₂ = right_of y p (right_words (replicate (n * 2) 0) v (right_read k a t d₁.right)) in
    done_object s t u n c (length t.references) ms (kept x) (keeps_trans (keeps_refl t (with_room (n * 2) v) refl) (kept y)) (left (object_pairs {ms = ms} n k a e l₁ l₂ x b l₃ y) h).ranged (left y p).words (d₁.given.named 0 c refl) d₂
right_of {s = s} (text_bytes {o = s₁} q w b e c p l₁ l₂ l₃) h d =
    let d₀ = right_of c (ready_opening _ _ s h.ranged) d in
    done_text q s₁ b _ _ w d₀.given.named (left (text_bytes q w b e c p l₁ l₂ l₃) h).ranged d₀.right
right_of {s = s} (user_bytes {t = t} {c = c} b k a e x f p l₁ l₂ l₃) h d =
    let d₁ = right_of x (ready_name s h.ranged) d in
    done_user (read_to k a t) b _ _ c (left (user_bytes b k a e x f p l₁ l₂ l₃) h).ranged (d₁.given.named 0 c refl) (right_read k a t d₁.right)
right_of {s = s} (bignum_node low high n m e q i l₁ l₂) h d = done_bignum s low high n m q i d
right_of (stored x) h d = let z = right_of x (ready_text h) d in record { right = z.right; given = record { below = z.given.below; named = z.given.named } }
right_of {s = s} (variables {t = t} {u = u} {ms = ms} {h = v} {r = r} {r' = r'} n k a e i x b l y c q) h d =
    let o = ready_inner i h in
    let p = ready_pairs n (read_to k a t) (left x o).ranged in
    let d₁ = right_of x o d in
    done_variables u v r r' ms c q (left (variables {ms = ms} n k a e i x b l y c q) h).ranged (left y p).words (right_of y p (right_words (replicate (n * 2) 0) (read_to k a t) (right_read k a t d₁.right)))
right_of {s = s} no_elements h d = record { right = d; given = record { below = λ k v a. no_at k v a; named = λ k v a. no_at k v a } }
right_of {s = s} (element {t = t} {u = u} {n = n} {i = i} {v = v} {vs = vs} x y) h d =
    let o = ready_value s h.ranged in
    let z = left x o in
    let d₁ = right_of x o d in
    let f = free_part i (suc n) i 1 t (omega arith) (omega arith) (z.frame.stays_free i (suc n) h.fits h.free) in
    done_element t u n i v vs (kept y) d₁.given (right_of y (ready_next n i v s t h.fits h.free z.ranged z.frame) (right_word i v t f d₁.right))
right_of {s = s} no_pairs h d = record { right = d; given = record { below = λ k v a. no_at k v a; named = λ k v a. no_pair k v a } }
right_of {s = s} (pair {t = t} {u = u} {w = w} {n = n} {i = i} {c = c} {v = v} {vs = vs} x y z) h d =
    let o = ready_name s h.ranged in
    let a = left x o in
    let r = ready_after_name n i c s t (c ∷ []) h a in
    let p = ready_value (with_word i c t) r.ranged in
    let b = left y p in
    let d₁ = right_of x o d in
    let f₁ = free_part i (suc n * 2) i 1 t (omega arith) (omega arith) (a.frame.stays_free i (suc n * 2) h.fits h.free) in
    let d₂ = right_of y p (right_word i c t f₁ d₁.right) in
    let f₂ = free_part (suc i) (suc (n * 2)) (suc i) 1 u (omega arith) (omega arith) (b.frame.stays_free (suc i) (suc (n * 2)) r.fits r.free) in
    done_pair t u w n i c v vs (kept y) (kept z) d₁.given d₂.given (right_of z (ready_after_value n i c v s t u (c ∷ []) (v ∷ []) h a b) (right_word (suc i) v u f₂ d₂.right))

-- ---- an accepted load

begin_right : Right begin
begin_right = record { rows = λ i r a. one i r a; objects = λ k v a. no_at k v a; symbols = λ k v a. no_at k v a }
  where
    one : (i : ℕ) (r : Row) → At (nil ∷ []) i r → RowRight begin r
    one zero r a = let q : nil ≡ r = cc in rw (← q) (nil_right begin)
    one (suc i) r a = no_at i r a

pub load_right_state : (input : List ℕ) (room : Room) (limit h : ℕ) (s : State) → load input room limit ≡ ok h s → Right s × (h < length s.nodes)
load_right_state input room limit h s e =
    let d = right_of (load_traced input room limit s h e).trace (ready_value _ begin_ranged) (right_read _ _ begin begin_right) in
    (d.right, d.given.below 0 h refl)

-- a well-formed arena
pub record LoadRight (A : Arena) : Type 0 where
  pub root_below : A.root < length A.nodes
  pub rows_right : (i : ℕ) (r : Row) → At A.nodes i r → row_right A r ≡ true

-- the root does not matter
on_root : (s : State) (h : ℕ) → Onward (arena_of s 0) (arena_of s h)
on_root s h = record { count = omega arith; names = λ c n. n; more_bytes = omega arith; more_words = omega arith }

pub load_right : (input : List ℕ) (room : Room) (limit h : ℕ) (s : State) → load input room limit ≡ ok h s → LoadRight (arena_of s h)
load_right input room limit h s e =
    let (x, l) = load_right_state input room limit h s e in
    record { root_below = l; rows_right = λ i r a. right_yes (arena_of s h) r (row_onward (arena_of s 0) (arena_of s h) r (on_root s h) refl (x.rows i r a)) }
