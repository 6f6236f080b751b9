-- From an input of bytes: fixnums are words of 32 bits, and the arena's bytes are bytes.
use Rattle.std.specs.Prelude.{ℕ, zero, suc, ◌+◌, ◌-◌, ◌*◌, ◌^◌, ◌≤◌, ◌<◌, ◌≡◌, refl, Bool, true, false, ◌⊎◌, ◌≢◌, List, [], ◌∷◌, leb, eqb, length, get_or}
use Rattle.std.proofs.Common.{sym as psym, inl, inr, arith, mod-lt, leb-true, leb-false}
use Rattle.std.proofs.Math.Bridge.{le_by_compare, IsLe}
use Rattle.definition.specs.Run.{ok, pick, ◌>>=◌}
use Rattle.definition.specs.Integer.{Form, value as form_value, data_bytes, form, little}
use Rattle.definition.specs.Node.{Row, nil, fixnum, symbol}
use Rattle.definition.specs.Arena.{range}
use Rattle.definition.specs.State.{State, Room, at_set, noted}
use Rattle.definition.specs.Load.{begin, load}
use Rattle.definition.specs.Load as L
use Rattle.lists.specs.Lists.{At, at_snoc_inv, at_set_inv, apart, at_get_d, Below, below_join}
use Rattle.lists.specs.Words.{little_below}
use Rattle.lists.specs.Ranges.{range_at, length_range_in}
use Rattle.graph.specs.Forest.{Texted, text_string, text_float}
use Rattle.graph.specs.View.{text_row}
use Rattle.load_forest.specs.Trace.{Mode, Part, Plain, plain_nil, plain_true, plain_false, plain_fixnum, Trace, reading, plain, known, new, symbol_link, object_link, unclassed, classed, list, hash_default, object_pairs, text_bytes, user_bytes, bignum_node, stored, variables, no_elements, element, no_pairs, pair}
use Rattle.load_forest.specs.Readers.{load_traced, read_byte_then, read_bytes_then, tell_then}
use Rattle.states.specs.States.{read_to, sought, with_node, with_symbol, with_object_node, with_bytes, with_word, with_row, with_room}
use Rattle.states.specs.Rows.{list_length, Listed, is_array, is_hash, Varied, varied_string, varied_user}

pub part_bytes : (input b : List ℕ) → Below 256 input → Part input b → Below 256 b
part_bytes input b h (i, n, e) k v a = h (i + k) v (range_at input n i k v (rw e at a))

-- ---- the integer

-- a form whose value has 32 bits
Fits : Form → Type 0
Fits (form_value w) = w < 4294967296
Fits (data_bytes n above) = (above + 1) * 256 ^ n ≤ 4294967296

few_fit : (b : ℕ) → b ≤ 4 → (0 + 1) * 256 ^ b ≤ 4294967296
unfolding IsLe
few_fit zero h = le_by_compare _ _ tt
few_fit (suc zero) h = le_by_compare _ _ tt
few_fit (suc (suc zero)) h = le_by_compare _ _ tt
few_fit (suc (suc (suc zero))) h = le_by_compare _ _ tt
few_fit (suc (suc (suc (suc zero)))) h = le_by_compare _ _ tt
few_fit (suc (suc (suc (suc (suc b))))) h = absurd (omega arith)

-- 256 − n to 255, for 1 to 4 bytes over ones
ones_fit : (j b : ℕ) → b ≡ 252 + j → j ≤ 3 → (256 ^ (b - 252) - 1 + 1) * 256 ^ (256 - b) ≤ 4294967296
unfolding IsLe
ones_fit zero b e h = rw e (le_by_compare _ _ tt)
ones_fit (suc zero) b e h = rw e (le_by_compare _ _ tt)
ones_fit (suc (suc zero)) b e h = rw e (le_by_compare _ _ tt)
ones_fit (suc (suc (suc zero))) b e h = rw e (le_by_compare _ _ tt)
ones_fit (suc (suc (suc (suc j)))) b e h = absurd (omega arith)

pub choose : (P : Form → Type 0) (x : Bool) (f g : Form) → (x ≡ true → P f) → (x ≡ false → P g) → P (pick x f g)
unfolding pick
choose P true f g h k = h refl
choose P false f g h k = k refl

form_fits : (b : ℕ) → b < 256 → Fits (form b)
unfolding form Fits
form_fits b h =
    choose Fits (eqb b 0) _ _ (λ e. omega arith)
    (λ e₀. choose Fits (leb b 4) _ _ (λ e. few_fit b (leb-true b 4 e))
    (λ e₁. choose Fits (leb b 127) _ _ (λ e. omega arith)
    (λ e₂. choose Fits (leb b 251) _ _ (λ e. mod-lt (2 ^ 32 + b - 251) (omega arith))
    (λ e₃. let l = leb-false b 251 e₃ in ones_fit (b - 252) b (omega arith) (omega arith)))))

form_below : (input : List ℕ) → Below 256 input → (b : ℕ) (f : Form) → Fits f → (s t : State) (w : ℕ) → L.read_form input b f s ≡ ok w t → w < 4294967296
unfolding L.read_form ◌>>=◌ Fits
form_below input h b (form_value x) g s t w e = tell_then b [] x s w t e λ q z r. omega (arith, g, z)
form_below input h b (data_bytes n above) g s t w e =
    read_bytes_then input n s _ w t e λ l e₁.
    let bs = range input s.at n in
    tell_then b bs (little bs above) _ w t e₁ λ a z r.
    let q : little bs above < (above + 1) * 256 ^ n = rw (length_range_in input s.at n l) at (little_below bs above (part_bytes input bs h (s.at, n, refl))) in
    omega arith

pub integer_below : (input : List ℕ) → Below 256 input → (s t : State) (w : ℕ) → L.read_integer input s ≡ ok w t → w < 4294967296
unfolding L.read_integer ◌>>=◌
integer_below input h s t w e =
    read_byte_then input s _ w t e λ l e₁.
    form_below input h (get_or input s.at 0) (form (get_or input s.at 0)) (form_fits _ (h s.at (get_or input s.at 0) (at_get_d input s.at 0 l))) (at_set (s.at + 1) s) t w e₁

-- ---- the arena

pub record Small (s : State) : Type 0 where
  pub fixnums : (i w : ℕ) → At s.nodes i (fixnum w) → w < 4294967296
  pub bytes : Below 256 s.bytes

small_same : (s t : State) → t.nodes ≡ s.nodes → t.bytes ≡ s.bytes → Small s → Small t
small_same s t n b x = record { fixnums = λ i w a. x.fixnums i w (rw n at a); bytes = λ k v a. x.bytes k v (rw b at a) }

small_bytes : (b : List ℕ) (s : State) → Below 256 b → Small s → Small (with_bytes b s)
small_bytes b s h x = record { fixnums = x.fixnums; bytes = below_join 256 s.bytes b x.bytes h }

small_node : (r : Row) (s : State) → ((w : ℕ) → r ≡ fixnum w → w < 4294967296) → Small s → Small (with_node r s)
small_node r s h x = record { fixnums = λ i w a. go i w (at_snoc_inv s.nodes r i (fixnum w) a); bytes = x.bytes }
  where
    go : (i w : ℕ) → At s.nodes i (fixnum w) ⊎ ((i ≡ length s.nodes) × (fixnum w ≡ r)) → w < 4294967296
    go i w (inl a) = x.fixnums i w a
    go i w (inr a) = h w (psym a.1)

small_row : (i : ℕ) (r : Row) (s : State) → ((w : ℕ) → r ≡ fixnum w → ⊥) → Small s → Small (with_row i r s)
small_row i r s h x = record { fixnums = λ k w a. go k w (at_set_inv s.nodes i k r (fixnum w) a); bytes = x.bytes }
  where
    go : (k w : ℕ) → ((k ≡ i) × (fixnum w ≡ r)) ⊎ ((k ≢ i) × At s.nodes k (fixnum w)) → w < 4294967296
    go k w (inl a) = absurd (h w (psym a.1))
    go k w (inr a) = x.fixnums k w a.1

plain_small : {input p : List ℕ} → Below 256 input → (r : Row) → Plain input p r → (w : ℕ) → r ≡ fixnum w → w < 4294967296
plain_small h r plain_nil w e = apart (cc)
plain_small h r plain_true w e = apart (cc)
plain_small h r plain_false w e = apart (cc)
plain_small {input = input} h r (plain_fixnum v s t x) w e = let z : v ≡ w = cc in rw (← z) (integer_below input h s t v x)

listed_no_fixnum : {p : ℕ} (r : Row) → Listed p r → (w : ℕ) → r ≡ fixnum w → ⊥
listed_no_fixnum r (is_array n c) w e = apart (cc)
listed_no_fixnum r (is_hash n c) w e = apart (cc)

varied_no_fixnum : {p n : ℕ} (r r' : Row) → Varied p n r r' → (w : ℕ) → r' ≡ fixnum w → ⊥
varied_no_fixnum r r' varied_string w e = apart (cc)
varied_no_fixnum r r' varied_user w e = apart (cc)

text_no_fixnum : {k n : ℕ} {d : Bool} (q : Texted k n d) (a l c w : ℕ) → text_row q a l c ≡ fixnum w → ⊥
text_no_fixnum text_string a l c w e = apart (cc)
text_no_fixnum text_float a l c w e = apart (cc)

small_opened : (r : Row) (s : State) → ((w : ℕ) → r ≡ fixnum w → ⊥) → Small s → Small (with_object_node r s)
small_opened r s h x = small_same (with_node r s) (with_object_node r s) refl refl (small_node r s (λ w e. absurd (h w e)) x)

small : {input : List ℕ} {room : Room} {l : ℕ} {m : Mode} {p : List ℕ} {s t : State} {vs : List ℕ} → Trace input room l m p s vs t → Below 256 input → Small s → Small t
small {s = s} (reading k n a x) h y = small x h (small_same s (read_to k n s) refl refl y)
small {s = s} (plain r p l) h y = small_node r s (plain_small h r p) y
small {s = s} (known b v o a l) h y = small_same s (with_symbol v (noted false (sought b s))) refl refl y
small {input = input} {s = s} {t = t} (new b e o n p l₁ l₂ l₃) h y =
    let r = symbol (length s.bytes) (length b) in
    small_same (with_node r (with_bytes b s)) t refl refl (small_node r (with_bytes b s) (λ w e. apart (cc)) (small_bytes b s (part_bytes input b h p) y))
small (symbol_link i v e o a) h y = y
small (object_link i v e a) h y = y
small (unclassed e) h y = y
small (classed {t = t} k a e x b) h y = small_same t (read_to k a t) refl refl (small x h y)
small (list {o = o} {t = t} r q c l₁ l₂ l₃ x) h y =
    let s₁ = with_object_node nil o in
    small_row (length o.nodes) r t (listed_no_fixnum r q) (small x h (small_same s₁ (with_room (list_length r) s₁) refl refl (small_opened nil o (λ w e. apart (cc)) (small c h y))))
small (hash_default {o = o} {u = u} n w c l₁ l₂ l₃ x z) h y =
    let s₁ = with_object_node nil o in
    small_row (length o.nodes) _ u (λ w e. apart (cc)) (small z h (small x h (small_same s₁ (with_room (n * 2) s₁) refl refl (small_opened nil o (λ w e. apart (cc)) (small c h y)))))
small {s = s} (object_pairs {t = t} {u = u} n k a e l₁ l₂ x b l₃ z) h y =
    small_row (length s.nodes) _ u (λ w e. apart (cc)) (small z h (small_same t (with_room (n * 2) (read_to k a t)) refl refl (small x h (small_opened nil s (λ w e. apart (cc)) y))))
small {input = input} (text_bytes {o = o} q w b e c p l₁ l₂ l₃) h y = small_opened _ (with_bytes b o) (text_no_fixnum q _ _ w) (small_bytes b o (part_bytes input b h p) (small c h y))
small {input = input} (user_bytes {t = t} b k a e x d p l₁ l₂ l₃) h y =
    small_opened _ (with_bytes b (read_to k a t)) (λ w e. apart (cc)) (small_bytes b (read_to k a t) (part_bytes input b h p) (small_same t (read_to k a t) refl refl (small x h y)))
small {s = s} (bignum_node low high n m e q i l₁ l₂) h y = small_opened _ s (λ w e. apart (cc)) y
small (stored x) h y = small x h y
small (variables {t = t} {u = u} {h = v} {r = r} {r' = r'} n k a e i x b l z c q) h y =
    small_row v r' u (varied_no_fixnum r r' q) (small z h (small_same t (with_room (n * 2) (read_to k a t)) refl refl (small x h y)))
small no_elements h y = y
small (element {t = t} {i = i} {v = v} x z) h y = small z h (small_same t (with_word i v t) refl refl (small x h y))
small no_pairs h y = y
small (pair {t = t} {u = u} {i = i} {c = c} {v = v} x z w) h y = small w h (small_same u (with_word (suc i) v u) refl refl (small z h (small_same t (with_word i c t) refl refl (small x h y))))

begin_small : Small begin
begin_small = record { fixnums = λ i w a. one i w a; bytes = λ k v a. apart (cc) }
  where
    one : (i w : ℕ) → At (nil ∷ []) i (fixnum w) → w < 4294967296
    one zero w a = apart (cc)
    one (suc i) w a = apart (cc)

pub load_small : (input : List ℕ) (room : Room) (limit h : ℕ) (s : State) → Below 256 input → load input room limit ≡ ok h s → Small s
load_small input room limit h s b e = small (load_traced input room limit s h e).trace b (small_same begin _ refl refl begin_small)
