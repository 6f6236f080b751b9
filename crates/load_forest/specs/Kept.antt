-- Nodes are only added, and but for the variables of a string or a user-defined node a filled row stands.
use Rattle.std.specs.Prelude.{ℕ, suc, ◌+◌, ◌*◌, ◌≤◌, ◌<◌, ◌≡◌, refl, false, List, length}
use Rattle.std.proofs.Common.{length-set, arith}
use Rattle.definition.specs.Node.{Row, nil, symbol, array, hash, object, user, bignum, absent, kind}
use Rattle.definition.specs.State.{State, Room, noted}
use Rattle.lists.specs.Lists.{At, at_set_other}
use Rattle.graph.specs.View.{text_row}
use Rattle.states.specs.States.{read_to, sought, Keeps, keeps_refl, keeps_trans, keeps_node, keeps_object_node, keeps_row, with_node, with_symbol, with_object_node, with_word, with_row, with_room}
use Rattle.load_forest.specs.Trace.{Mode, Trace, reading, plain, known, new, symbol_link, object_link, unclassed, classed, list, hash_default, object_pairs, text_bytes, user_bytes, bignum_node, stored, variables, no_elements, element, no_pairs, pair}
use Rattle.states.specs.Rows.{list_length, Varied, varied_string, varied_user}

-- a row that takes no variables
abbrev pub Fixed : Row → Type 0
Fixed r = (p n : ℕ) (r' : Row) → Varied p n r r' → ⊥

abbrev pub Kept : State → State → Type 0
Kept s t = Keeps Fixed s t

-- only kinds 7 and 8 do
varied_high : {p n : ℕ} {r r' : Row} → Varied p n r r' → 7 ≤ kind r
unfolding kind
varied_high varied_string = omega arith
varied_high varied_user = omega arith

low_fixed : (r : Row) → kind r < 7 → Fixed r
low_fixed r l p n r' v = omega (arith, varied_high v)

pub nil_fixed : Fixed nil
unfolding kind
nil_fixed = low_fixed nil (omega arith)

pub symbol_fixed : {s l : ℕ} → Fixed (symbol s l)
unfolding kind
symbol_fixed {s} {l} = low_fixed (symbol s l) (omega arith)

pub array_fixed : {s n w : ℕ} → Fixed (array s n w)
unfolding kind
array_fixed {s} {n} {w} = low_fixed (array s n w) (omega arith)

pub hash_fixed : {s n d w : ℕ} → Fixed (hash s n d w)
unfolding kind
hash_fixed {s} {n} {d} {w} = low_fixed (hash s n d w) (omega arith)

kept_varied : {p n : ℕ} (h : ℕ) (r r' : Row) (t : State) → At t.nodes h r → Varied p n r r' → Kept t (with_row h r' t)
kept_varied h r r' t a v = record {
  grows = omega (arith, length-set t.nodes h r');
  stands = λ i q f b. at_set_other t.nodes h i r' q (λ z. absurd (other i q f b z)) b;
}
  where
    other : (i : ℕ) (q : Row) → Fixed q → At t.nodes i q → i ≡ h → ⊥
    other i q f b z = let y : q ≡ r = cc in (rw y at f) _ _ _ v

pub kept : {input : List ℕ} {room : Room} {l : ℕ} {m : Mode} {p : List ℕ} {s t : State} {vs : List ℕ} → Trace input room l m p s vs t → Kept s t
kept {s = s} (reading k n a x) = keeps_trans (keeps_refl s (read_to k n s) refl) (kept x)
kept {s = s} (plain r p l) = keeps_node r s
kept {s = s} (known b h o a l) = keeps_refl s (with_symbol h (noted false (sought b s))) refl
kept {s = s} {t = t} (new b e o n p l₁ l₂ l₃) = keeps_trans (keeps_node (symbol (length s.bytes) (length b)) s) (keeps_refl (with_node (symbol (length s.bytes) (length b)) s) t refl)
kept {s = s} (symbol_link i h e o a) = keeps_refl s s refl
kept {s = s} (object_link i h e a) = keeps_refl s s refl
kept {s = s} (unclassed e) = keeps_refl s s refl
kept (classed {t = t} k a e x b) = keeps_trans (kept x) (keeps_refl t (read_to k a t) refl)
kept (list {o = o} {t = t} r q c l₁ l₂ l₃ x) =
    keeps_trans (kept c)
    (keeps_row (length o.nodes) r o t (omega arith) (keeps_trans (keeps_object_node nil o) (keeps_trans (keeps_refl _ (with_room (list_length r) (with_object_node nil o)) refl) (kept x))))
kept (hash_default {o = o} {t = t} {u = u} {d = d} n w c l₁ l₂ l₃ x y) =
    keeps_trans (kept c)
    (keeps_row (length o.nodes) (hash (length o.references) n (d + 1) w) o u (omega arith)
    (keeps_trans (keeps_object_node nil o) (keeps_trans (keeps_refl _ (with_room (n * 2) (with_object_node nil o)) refl) (keeps_trans (kept x) (kept y)))))
kept {s = s} (object_pairs {t = t} {u = u} {c = c} n k a e l₁ l₂ x b l₃ y) =
    keeps_row (length s.nodes) (object (length t.references) n c) s u (omega arith)
    (keeps_trans (keeps_object_node nil s) (keeps_trans (kept x) (keeps_trans (keeps_refl t (with_room (n * 2) (read_to k a t)) refl) (kept y))))
kept {t = t} (text_bytes {o = o} q w b e c p l₁ l₂ l₃) =
    let r = text_row q (length o.bytes) (length b) w in
    keeps_trans (kept c) (keeps_trans (keeps_node r o) (keeps_refl (with_node r o) t refl))
kept {t = t} (user_bytes {t = u} {c = c} b k a e x d p l₁ l₂ l₃) =
    let r = user (length u.bytes) (length b) c absent in
    keeps_trans (kept x) (keeps_trans (keeps_node r u) (keeps_refl (with_node r u) t refl))
kept {s = s} (bignum_node low high n m e q h l₁ l₂) = keeps_object_node (bignum low high m) s
kept (stored x) = kept x
kept {s = s} (variables {t = t} {u = u} {h = h} {r = r} {r' = r'} n k a e i x b l y c q) =
    keeps_trans (kept x) (keeps_trans (keeps_refl t (with_room (n * 2) (read_to k a t)) refl) (keeps_trans (kept y) (kept_varied h r r' u c q)))
kept {s = s} no_elements = keeps_refl s s refl
kept (element {t = t} {i = i} {v = v} x y) = keeps_trans (kept x) (keeps_trans (keeps_refl t (with_word i v t) refl) (kept y))
kept {s = s} no_pairs = keeps_refl s s refl
kept (pair {t = t} {u = u} {i = i} {c = c} {v = v} x y z) =
    keeps_trans (kept x) (keeps_trans (keeps_refl t (with_word i c t) refl) (keeps_trans (kept y) (keeps_trans (keeps_refl u (with_word (suc i) v u) refl) (kept z))))
