-- The readers taken apart: an accepted read left a trace.
use Prim.Native.Nat.{ℕ, zero, suc, ◌+◌, ◌-◌, ◌*◌, ◌≤◌, ◌<◌}
use Rattle.std.specs.Prelude.{◌≡◌, ◌&&◌, ◌||◌, ◌⊎◌, leb}
use Rattle.std.proofs.Math.Path.{refl, subst, sym as psym}
use Rattle.std.proofs.Common.{ap, ◌∙◌, take-append-drop, drop-cons, drop-drop, arith}
use Rattle.std.proofs.Math.Bool.{Bool, true, false}
use Rattle.std.proofs.Math.Logic.{inl, inr}
use Rattle.std.proofs.Math.Option.{Option, none, some}
use mathlib.Core.List.{List, [], ◌∷◌, ◌++◌}
use Rattle.std.proofs.Math.Dec.{eqb}
use Rattle.std.proofs.Math.ListN.{length, get_or, drop}
use borrow.Author.Tests.{ltb-true, leb-true, eqb-true}
use Rattle.definition.specs.declared.Refusal.{Refusal}
use Rattle.definition.specs.declared.Refusal.TheVariants.{WrongSign, NotWrappable}
use Rattle.definition.specs.Run.{Outcome, ok, refused, pure, refuse, next, ◌>>=◌, look, pick}
use Rattle.definition.specs.Integer.{Form, value as form_value, data_bytes, form, little, wrong_sign, integer_bytes}
use Rattle.definition.specs.Magnitude.{fits, sign, fewest_units, sign_byte, unit_bytes, bignum_bytes, bignum_row}
use Rattle.definition.specs.Kind.{NIL, TRUE, FALSE, FIXNUM, SYMBOL, SYMBOL_LINK, OBJECT_LINK, INSTANCE_VARIABLES, ARRAY, HASH, HASH_DEFAULT, OBJECT, STRING, USER_DEFINED, FLOAT, BIGNUM, USER_CLASS, MINUS}
use Rattle.definition.specs.Node.{Row, nil, bool, fixnum, symbol, array, hash, object, string, user, float, bignum, absent, present, equal, kind, words, row_of, vars, optional_node, optional_present}
use Rattle.definition.specs.Arena.{range, find_symbol}
use Rattle.definition.specs.State.{State, Room, Reader, at_set, noted}
use Rattle.definition.specs.Load.{begin}
use Rattle.definition.specs.Dump.{byte_string_bytes}
use Rattle.definition.specs.Load as L
use Rattle.lists.specs.Lists.{At, apart, at_get_d, get_d_at, at_set_same, len_snoc}
use Rattle.lists.specs.Ranges.{length_range_in}
use Rattle.lists.specs.Runs.{no_ok, un as taken}
use Rattle.lists.specs.Words.{equal_true, length_low}
use Rattle.lists.specs.Magnitudes.{of_words}
use Rattle.graph.specs.Forest.{Texted, text_string, text_float}
use Rattle.graph.specs.View.{text_row}
use Rattle.load_forest.specs.Trace.{Spelt, Read, spelt_join, Mode, value, text, name, opening, elements, pairs, One, as_value, as_name, Part, Plain, plain_nil, plain_true, plain_false, plain_fixnum, Inner, inner_text, inner_value, Trace, reading, plain, known, new, symbol_link, object_link, unclassed, classed, list, hash_default, object_pairs, text_bytes, user_bytes, bignum_node, stored, variables, no_elements, element, no_pairs, pair, forwards}
use Rattle.load_forest.specs.Kept.{Fixed, array_fixed, hash_fixed, kept}
use Rattle.states.specs.Rows.{list_length, is_array, is_hash, Varied, varied_string, varied_user, ranges, varied_some}
use Rattle.states.specs.States.{read_to, sought, with_node, with_object, with_symbol, with_object_node, with_bytes, with_word, with_row, with_room}
use Rattle.states.specs.Symbols.{found, missed}
use Rattle.states.specs.Right.{sign_right}

-- ---- taking work apart

pub un : {A B G : Type 0} {o : Outcome State A} {k : A → Reader B} {b : B} {t : State} → next o k ≡ ok b t → ((a : A) (u : State) → o ≡ ok a u → k a u ≡ ok b t → G) → G
un {o = o} {k = k} e g = taken o k e g

ok_state : {A : Type 0} {a b : A} {s t : State} → ok a s ≡ ok b t → s ≡ t
ok_state e = cc

ok_result : {A : Type 0} {a b : A} {s t : State} → ok a s ≡ ok b t → a ≡ b
ok_result e = cc

-- a test that did not refuse
picked : {A B G : Type 0} (x : Bool) (a : A) (u : State) (r : Refusal) (k : A → Reader B) (b : B) (t : State) → next (pick x (ok a u) (refused r)) k ≡ ok b t → (x ≡ true → k a u ≡ ok b t → G) → G
unfolding pick next
picked true a u r k b t e g = g refl e
picked false a u r k b t e g = apart (cc)

picked_reader : {A G : Type 0} (x : Bool) (m : Reader A) (r : Refusal) (s : State) (b : A) (t : State) → pick x m (refuse r) s ≡ ok b t → (x ≡ true → m s ≡ ok b t → G) → G
unfolding pick refuse
picked_reader true m r s b t e g = g refl e
picked_reader false m r s b t e g = apart (cc)

-- the rest goes on from what a step is known to give
onward : {A B : Type 0} (k : A → Reader B) {a c : A} {u v t : State} {b : B} → ok a u ≡ ok c v → k c v ≡ ok b t → k a u ≡ ok b t
onward k x y = rw (ok_result x, ok_state x) y

-- a last step is a step with nothing after it
last : {A : Type 0} (o : Outcome State A) (b : A) (t : State) → o ≡ ok b t → next o pure ≡ ok b t
unfolding next pure
last o b t e = rw e

pub add_node_then : {B G : Type 0} (room : Room) (r : Row) (s : State) (k : ℕ → Reader B) (b : B) (t : State) → next (L.add_node room r s) k ≡ ok b t
    → (length s.nodes < room.nodes → k (length s.nodes) (with_node r s) ≡ ok b t → G) → G
unfolding L.add_node
add_node_then room r s k b t e g = picked _ _ _ _ k b t e λ x y. g (ltb-true _ _ x) y

pub reserve_then : {B G : Type 0} (room : Room) (n : ℕ) (s : State) (k : ℕ → Reader B) (b : B) (t : State) → next (L.reserve room n s) k ≡ ok b t
    → (n ≤ room.references - length s.references → k (length s.references) (with_room n s) ≡ ok b t → G) → G
unfolding L.reserve
reserve_then room n s k b t e g = picked _ _ _ _ k b t e λ x y. g (leb-true _ _ x) y

pub add_bytes_then : {B G : Type 0} (room : Room) (bs : List ℕ) (s : State) (k : ℕ → Reader B) (b : B) (t : State) → next (L.add_bytes room bs s) k ≡ ok b t
    → (length bs ≤ room.bytes - length s.bytes → k (length s.bytes) (with_bytes bs s) ≡ ok b t → G) → G
unfolding L.add_bytes
add_bytes_then room bs s k b t e g = picked _ _ _ _ k b t e λ x y. g (leb-true _ _ x) y

pub add_symbol_then : {B G : Type 0} (room : Room) (h : ℕ) (s : State) (k : ℕ → Reader B) (b : B) (t : State) → next (L.add_symbol room h s) k ≡ ok b t
    → (length s.symbols < room.symbols → k h (with_symbol h s) ≡ ok b t → G) → G
unfolding L.add_symbol
add_symbol_then room h s k b t e g = picked _ _ _ _ k b t e λ x y. g (ltb-true _ _ x) y

pub add_object_then : {B G : Type 0} (room : Room) (h : ℕ) (s : State) (k : ℕ → Reader B) (b : B) (t : State) → next (L.add_object room h s) k ≡ ok b t
    → (length s.objects < room.objects → k h (with_object h s) ≡ ok b t → G) → G
unfolding L.add_object
add_object_then room h s k b t e g = picked _ _ _ _ k b t e λ x y. g (ltb-true _ _ x) y

pub add_object_node_then : {B G : Type 0} (room : Room) (r : Row) (s : State) (k : ℕ → Reader B) (b : B) (t : State) → next (L.add_object_node room r s) k ≡ ok b t
    → (length s.nodes < room.nodes → length s.objects < room.objects → k (length s.nodes) (with_object_node r s) ≡ ok b t → G) → G
unfolding L.add_object_node ◌>>=◌ pure
add_object_node_then room r s k b t e g =
    un e λ h u e₁ e₂.
    add_node_then room r s (L.add_object room) h u e₁ λ l e₃.
    add_object_then room (length s.nodes) (with_node r s) pure h u (last _ _ _ e₃) λ o e₄.
    g l o (onward k e₄ e₂)

pub read_byte_then : {B G : Type 0} (input : List ℕ) (s : State) (k : ℕ → Reader B) (b : B) (t : State) → next (L.read_byte input s) k ≡ ok b t
    → (s.at < length input → k (get_or input s.at 0) (at_set (s.at + 1) s) ≡ ok b t → G) → G
unfolding L.read_byte
read_byte_then input s k b t e g = picked _ _ _ _ k b t e λ x y. g (ltb-true _ _ x) y

pub read_bytes_then : {B G : Type 0} (input : List ℕ) (n : ℕ) (s : State) (k : List ℕ → Reader B) (b : B) (t : State) → next (L.read_bytes input n s) k ≡ ok b t
    → (n ≤ length input - s.at → k (range input s.at n) (at_set (s.at + n) s) ≡ ok b t → G) → G
unfolding L.read_bytes
read_bytes_then input n s k b t e g = picked _ _ _ _ k b t e λ x y. g (leb-true _ _ x) y

-- ---- reading the input moves on in it and does nothing else, and where it stays in dump form the bytes are known

-- both tests hold
both_hold : (x y : Bool) → (x && y) ≡ true → (x ≡ true) × (y ≡ true)
both_hold true y e = (refl, e)
both_hold false y e = apart (cc)

and_off : (x y : Bool) → y ≡ false → (x && y) ≡ false
and_off true y e = e
and_off false y e = refl

byte_spelt : (input : List ℕ) (s : State) → s.at < length input → Spelt input s (s.at + 1) s.notes.form (get_or input s.at 0 ∷ [])
byte_spelt input s l = record {
  on = omega arith;
  inside = λ h. omega arith;
  off = λ o. o;
  text = λ f. let z : suc s.at ≡ s.at + 1 = omega arith in drop-cons input s.at 0 l ∙ ap (λ (k : ℕ). get_or input s.at 0 ∷ drop k input) z;
}

bytes_spelt : (input : List ℕ) (n : ℕ) (s : State) → n ≤ length input - s.at → Spelt input s (s.at + n) s.notes.form (range input s.at n)
unfolding range
bytes_spelt input n s l = record {
  on = omega arith;
  inside = λ h. omega arith;
  off = λ o. o;
  text = λ f. psym (take-append-drop n (drop s.at input)) ∙ ap (λ (x : List ℕ). range input s.at n ++ x) (drop-drop n s.at input);
}

-- only the offset and the form of a state matter; nothing is read
spelt_before : {input : List ℕ} {s : State} {k : ℕ} {n : Bool} {y : List ℕ} → Spelt input (with_object_node nil s) k n y → Spelt input s k n y
spelt_before a = record { on = a.on; inside = a.inside; off = a.off; text = a.text }

-- bytes that are others where a test holds, and the test is noted
noted_spelt : {input : List ℕ} {s : State} {k : ℕ} {n : Bool} (t : Bool) {x y : List ℕ} → (t ≡ true → x ≡ y) → Spelt input s k n x → Spelt input s k (t && n) y
noted_spelt {input} {s} {k} {n} t h a = record {
  on = a.on;
  inside = a.inside;
  off = λ o. and_off t n (a.off o);
  text = λ f.
      let (p, q) = both_hold t n f in
      a.text q ∙ ap (λ (z : List ℕ). z ++ drop k input) (h p);
}

-- bytes that are an integer's where they are the ones that dump writes
told_spelt : {input : List ℕ} {s : State} {k : ℕ} (bs : List ℕ) (w : ℕ) → Spelt input s k s.notes.form bs → Spelt input s k (equal bs (integer_bytes w) && s.notes.form) (integer_bytes w)
told_spelt bs w a = noted_spelt (equal bs (integer_bytes w)) (equal_true bs (integer_bytes w)) a

-- what an integer's bytes say is its word, and its size byte is not against its sign
pub tell_then : {G : Type 0} (b : ℕ) (bs : List ℕ) (x : ℕ) (s : State) (w : ℕ) (t : State) → L.integer_of b bs x s ≡ ok w t → (wrong_sign b x ≡ false → x ≡ w → noted (equal (b ∷ bs) (integer_bytes x)) s ≡ t → G) → G
unfolding L.integer_of L.note pure refuse ◌>>=◌ next pick
tell_then {G} b bs x s w t e g = go (wrong_sign b x) refl e
  where
    go : (y : Bool) → wrong_sign b x ≡ y → pick y (refuse (WrongSign b)) (L.note (equal (b ∷ bs) (integer_bytes x)) >>= λ _. pure x) s ≡ ok w t → G
    go true q e = no_ok e
    go false q e = g q (ok_result e) (ok_state e)

form_read : (input : List ℕ) (f : Form) (s : State) (w : ℕ) (u : State) → s.at < length input → L.read_form input (get_or input s.at 0) f (at_set (s.at + 1) s) ≡ ok w u → Read input integer_bytes w s u
unfolding L.read_form ◌>>=◌
form_read input (form_value x) s w u l e =
    let b = get_or input s.at 0 in
    tell_then b [] x _ w u e λ q r z. rw (← r) (s.at + 1, _, told_spelt (b ∷ []) x (byte_spelt input s l), psym z)
form_read input (data_bytes n above) s w u l e =
    let b = get_or input s.at 0 in
    read_bytes_then input n (at_set (s.at + 1) s) _ w u e λ h e₁.
    let bs = range input (s.at + 1) n in
    tell_then b bs (little bs above) _ w u e₁ λ q r z.
    rw (← r) (s.at + 1 + n, _, told_spelt (b ∷ bs) (little bs above) (spelt_join (byte_spelt input s l) (bytes_spelt input n (at_set (s.at + 1) s) h)), psym z)

integer_read : (input : List ℕ) (s : State) (w : ℕ) (u : State) → L.read_integer input s ≡ ok w u → Read input integer_bytes w s u
unfolding L.read_integer ◌>>=◌
integer_read input s w u e = read_byte_then input s _ w u e λ l e₁. form_read input (form (get_or input s.at 0)) s w u l e₁

-- and then a test, which reads nothing
tested_read : {A : Type 0} (input : List ℕ) (f : A → List ℕ) (m : Reader A) (test : A → Bool) (r : A → Refusal) (s : State) (w : A) (u : State) → ((x : A) (v : State) → m s ≡ ok x v → Read input f x s v)
    → (m >>= λ x. pick (test x) (pure x) (refuse (r x))) s ≡ ok w u → Read input f w s u
unfolding ◌>>=◌ pure
tested_read input f m test r s w u h e =
    un e λ x v e₁ e₂. picked_reader _ _ _ v w u e₂ λ p e₃.
    let (k, n, a, q) = h x v e₁ in
    rw (← (ok_result e₃)) (k, n, a, psym (ok_state e₃) ∙ q)

count_read : (input : List ℕ) (s : State) (w : ℕ) (u : State) → L.read_count input s ≡ ok w u → Read input integer_bytes w s u
unfolding L.read_count
count_read input s w u e = tested_read input integer_bytes (L.read_integer input) _ _ s w u (integer_read input s) e

-- a Bignum's sign byte and its count of units
sign_read : (input : List ℕ) (s : State) (b : ℕ) (u : State) → L.read_sign input s ≡ ok b u → Read input (λ b. b ∷ []) b s u
unfolding L.read_sign pure
sign_read input s b u e =
    tested_read input (λ (b : ℕ). b ∷ []) (L.read_byte input) _ _ s b u
    (λ x v e₁. read_byte_then input s pure x v (last _ _ _ e₁) λ l e₂. rw (← (ok_result e₂)) (s.at + 1, s.notes.form, byte_spelt input s l, psym (ok_state e₂))) e

unit_count_read : (input : List ℕ) (s : State) (w : ℕ) (u : State) → L.read_unit_count input s ≡ ok w u → Read input integer_bytes w s u
unfolding L.read_unit_count
unit_count_read input s w u e = tested_read input integer_bytes (L.read_count input) _ _ s w u (count_read input s) e

-- n units are those that dump writes, after a sign byte that dump writes
units_written : (b n m : ℕ) (minus : Bool) (bs : List ℕ) → length bs ≡ n * 2 → (eqb b (sign_byte minus) && equal bs (unit_bytes m)) ≡ true → (b ∷ integer_bytes n) ++ bs ≡ bignum_bytes minus m
unfolding bignum_bytes unit_bytes
units_written b n m minus bs l e =
    let (x, y) = both_hold (eqb b (sign_byte minus)) (equal bs (unit_bytes m)) e in
    let q = equal_true bs (unit_bytes m) y in
    let z : n ≡ fewest_units m = omega (arith, length_low (fewest_units m * 2) m, ap (λ (c : List ℕ). length c) q) in
    λ i. eqb-true b (sign_byte minus) x i ∷ (integer_bytes (z i) ++ q i)

-- a byte string is a part of the input
byte_string_read : (input : List ℕ) (s : State) (bs : List ℕ) (u : State) → L.read_byte_string input s ≡ ok bs u → Read input byte_string_bytes bs s u × Part input bs
unfolding L.read_byte_string byte_string_bytes ◌>>=◌ pure
byte_string_read input s bs u e =
    un e λ n v e₁ e₂. read_bytes_then input n v pure bs u (last _ _ _ e₂) λ h e₃.
    after n v (count_read input s n v e₁) h e₃
  where
    after : (n : ℕ) (v : State) → Read input integer_bytes n s v → n ≤ length input - v.at → pure (range input v.at n) (at_set (v.at + n) v) ≡ ok bs u → Read input byte_string_bytes bs s u × Part input bs
    after n v (k, a, x, q) h e₃ =
        let z : v.at ≡ k = ap (λ (y : State). y.at) q in
        let h' : n ≤ length input - k = omega arith in
        let r : range input k n ≡ bs = ap (λ (i : ℕ). range input i n) (psym z) ∙ ok_result e₃ in
        let m : length bs ≡ n = ap length (psym r) ∙ length_range_in input k n h' in
        let y = spelt_join x (bytes_spelt input n (read_to k a s) h') in (
          (
            k + n,
            a,
            subst (λ (c : List ℕ). Spelt input s (k + n) a c) (λ i. integer_bytes (psym m i) ++ r i) y,
            psym (ok_state e₃) ∙ ap (λ (y : State). at_set (y.at + n) y) q,
          ),
          (v.at, n, psym (ok_result e₃)),
        )

-- a reader that moves on, then the rest
read_then : {A B G : Type 0} (input : List ℕ) (f : A → List ℕ) (m : Reader A) (s : State) (c : A → Reader B) (b : B) (t : State) → next (m s) c ≡ ok b t
    → ((w : A) (u : State) → m s ≡ ok w u → Read input f w s u)
    → ((w : A) (k : ℕ) (n : Bool) → Spelt input s k n (f w) → m s ≡ ok w (read_to k n s) → c w (read_to k n s) ≡ ok b t → G) → G
read_then input f m s c b t e h g =
    un e λ w u e₁ e₂.
    let (k, n, a, q) = h w u e₁ in
    g w k n a (e₁ ∙ ap (ok w) q) (subst (λ (x : State). c w x ≡ ok b t) q e₂)

count_then : {B G : Type 0} (input : List ℕ) (s : State) (c : ℕ → Reader B) (b : B) (t : State) → next (L.read_count input s) c ≡ ok b t
    → ((w k : ℕ) (n : Bool) → Spelt input s k n (integer_bytes w) → c w (read_to k n s) ≡ ok b t → G) → G
count_then input s c b t e g = read_then input integer_bytes (L.read_count input) s c b t e (count_read input s) (λ w k n a x y. g w k n a y)

byte_string_then : {B G : Type 0} (input : List ℕ) (s : State) (c : List ℕ → Reader B) (b : B) (t : State) → next (L.read_byte_string input s) c ≡ ok b t
    → ((bs : List ℕ) (k : ℕ) (n : Bool) → Spelt input s k n (byte_string_bytes bs) → Part input bs → c bs (read_to k n s) ≡ ok b t → G) → G
byte_string_then input s c b t e g =
    read_then input byte_string_bytes (L.read_byte_string input) s c b t e (λ w u x. (byte_string_read input s w u x).0)
    (λ bs k n a x y. g bs k n a (byte_string_read input s bs (read_to k n s) x).1 y)

-- n entries of so many words: the count is read and the words are reserved
counted_then : {B G : Type 0} (input : List ℕ) (room : Room) (each : ℕ) (rest : ℕ → ℕ → Reader B) (s : State) (b : B) (t : State) → L.counted input room each rest s ≡ ok b t
    → ((n k : ℕ) (a : Bool) → Spelt input s k a (integer_bytes n) → n * each ≤ room.references - length s.references → rest (length s.references) n (with_room (n * each) (read_to k a s)) ≡ ok b t → G) → G
unfolding L.counted ◌>>=◌
counted_then input room each rest s b t e g =
    count_then input s _ b t e λ n k a x e₁.
    reserve_then room (n * each) (read_to k a s) _ b t e₁ λ r e₂.
    g n k a x r e₂

-- ---- kind bytes

-- what a head says of the kind byte
abbrev Kinded : ℕ → L.Head → Type 0
Kinded k L.Nil = k ≡ NIL
Kinded k L.True = k ≡ TRUE
Kinded k L.False = k ≡ FALSE
Kinded k L.Fixnum = k ≡ FIXNUM
Kinded k L.Symbol = k ≡ SYMBOL
Kinded k L.SymbolLink = k ≡ SYMBOL_LINK
Kinded k L.ObjectLink = k ≡ OBJECT_LINK
Kinded k L.InstanceVariables = k ≡ INSTANCE_VARIABLES
Kinded k L.Array = k ≡ ARRAY
Kinded k L.Hash = k ≡ HASH
Kinded k L.HashDefault = k ≡ HASH_DEFAULT
Kinded k L.Object = k ≡ OBJECT
Kinded k L.String = k ≡ STRING
Kinded k L.UserDefined = k ≡ USER_DEFINED
Kinded k L.Float = k ≡ FLOAT
Kinded k L.Bignum = k ≡ BIGNUM
Kinded k L.UserClass = k ≡ USER_CLASS
Kinded k L.Unknown = Unit {0}

kind_else : (k b : ℕ) (x y : L.Head) → (k ≡ b → Kinded k x) → Kinded k y → Kinded k (pick (eqb k b) x y)
unfolding pick
kind_else k b x y f g = go (eqb k b) refl
  where
    go : (t : Bool) → eqb k b ≡ t → Kinded k (pick t x y)
    go true e = f (eqb-true k b e)
    go false e = g

kinded : (k : ℕ) → Kinded k (L.head k)
unfolding L.head
kinded k =
    kind_else k NIL _ _ (λ e. e)
    (kind_else k TRUE _ _ (λ e. e)
    (kind_else k FALSE _ _ (λ e. e)
    (kind_else k FIXNUM _ _ (λ e. e)
    (kind_else k SYMBOL _ _ (λ e. e)
    (kind_else k SYMBOL_LINK _ _ (λ e. e)
    (kind_else k OBJECT_LINK _ _ (λ e. e)
    (kind_else k INSTANCE_VARIABLES _ _ (λ e. e)
    (kind_else k ARRAY _ _ (λ e. e)
    (kind_else k HASH _ _ (λ e. e)
    (kind_else k HASH_DEFAULT _ _ (λ e. e)
    (kind_else k OBJECT _ _ (λ e. e)
    (kind_else k STRING _ _ (λ e. e)
    (kind_else k USER_DEFINED _ _ (λ e. e)
    (kind_else k FLOAT _ _ (λ e. e)
    (kind_else k BIGNUM _ _ (λ e. e)
    (kind_else k USER_CLASS _ _ (λ e. e) tt))))))))))))))))

same_kind : {p : List ℕ} {k b : ℕ} → k ≡ b → p ≡ k ∷ [] → p ≡ b ∷ []
same_kind q e = e ∙ ap (λ (x : ℕ). x ∷ []) q

-- the kind byte, and more after it
kind_more : {p : List ℕ} {k : ℕ} (y : List ℕ) → p ≡ k ∷ [] → p ++ y ≡ k ∷ y
kind_more y e = ap (λ (l : List ℕ). l ++ y) e

-- ---- symbols and links

module _ (input : List ℕ) (room : Room) where
  TraceOf : ℕ → Mode → List ℕ → State → Outcome State ℕ → Type 0
  TraceOf l m p s (ok v t) = Trace input room l m p s (v ∷ []) t
  TraceOf l m p s (refused r) = ⊥

  ended : {l : ℕ} {m : Mode} {p : List ℕ} {s t u : State} {a v : ℕ} → Trace input room l m p s (a ∷ []) u → ok a u ≡ ok v t → Trace input room l m p s (v ∷ []) t
  unfolding TraceOf
  ended {l} {m} {p} {s} x e = subst (TraceOf l m p s) e x

  module _ (l : ℕ) (m : Mode) (one : One l m) where
    known_traced : (p b : List ℕ) (s t : State) (v h : ℕ) → find_symbol s.bytes b s.nodes 0 ≡ some h
        → next (L.intern_as room b (some h) (sought b s)) (L.add_symbol room) ≡ ok v t → Trace input room l m p s (v ∷ []) t
    unfolding L.intern_as L.note next pure ◌>>=◌
    known_traced p b s t v h q e =
        add_symbol_then room h (noted false (sought b s)) pure v t (last _ _ _ e) λ j e₁.
        ended (known b h one (found s b h q) j) e₁

    new_traced : (p b : List ℕ) → p ≡ SYMBOL ∷ byte_string_bytes b → Part input b → (s t : State) (v : ℕ) → find_symbol s.bytes b s.nodes 0 ≡ none
        → next (L.intern_as room b none (sought b s)) (L.add_symbol room) ≡ ok v t → Trace input room l m p s (v ∷ []) t
    unfolding L.intern_as pure ◌>>=◌
    new_traced p b f x s t v q e =
        un e λ i u e₁ e₂.
        add_bytes_then room b (sought b s) _ i u e₁ λ l₁ e₃.
        add_node_then room _ (with_bytes b (sought b s)) pure i u (last _ _ _ e₃) λ l₂ e₄.
        add_symbol_then room (length s.nodes) _ pure v t (last _ _ _ (onward (L.add_symbol room) e₄ e₂)) λ l₃ e₆.
        ended (new b f one (missed s b q) x l₁ l₂ l₃) e₆

    intern_traced : (p b : List ℕ) → p ≡ SYMBOL ∷ byte_string_bytes b → Part input b → (s t : State) (v : ℕ) (x : Option ℕ) → find_symbol s.bytes b s.nodes 0 ≡ x
        → next (L.intern_as room b x (sought b s)) (L.add_symbol room) ≡ ok v t → Trace input room l m p s (v ∷ []) t
    intern_traced p b f x s t v (some h) q e = known_traced p b s t v h q e
    intern_traced p b f x s t v none q e = new_traced p b f x s t v q e

    symbol_traced : (p : List ℕ) → p ≡ SYMBOL ∷ [] → (s t : State) (v : ℕ) → L.read_symbol input room s ≡ ok v t → Trace input room l m p s (v ∷ []) t
    unfolding L.read_symbol L.intern L.compare look next ◌>>=◌
    symbol_traced p f s t v e =
        byte_string_then input s _ v t e λ b k n a x e₁.
        reading k n a (intern_traced _ b (kind_more _ f) x (read_to k n s) t v (find_symbol s.bytes b s.nodes 0) refl e₁)

    entry_then : {G : Type 0} (j : List ℕ) (i : ℕ) (r : Refusal) (s t : State) (v : ℕ) → L.entry j i r s ≡ ok v t → (At j i (get_or j i 0) → ok (get_or j i 0) s ≡ ok v t → G) → G
    unfolding L.entry pure
    entry_then j i r s t v e g = picked _ _ s _ pure v t (last _ _ _ e) λ x y. g (at_get_d j i 0 (ltb-true _ _ x)) y

    symbol_link_traced : (p : List ℕ) → p ≡ SYMBOL_LINK ∷ [] → (s t : State) (v : ℕ) → L.read_symbol_link input s ≡ ok v t → Trace input room l m p s (v ∷ []) t
    unfolding L.read_symbol_link look ◌>>=◌
    symbol_link_traced p f s t v e =
        count_then input s _ v t e λ i k n a e₁.
        entry_then s.symbols i _ (read_to k n s) t v e₁ λ x e₂.
        reading k n a (ended (symbol_link i _ (kind_more _ f) one x) e₂)

  object_link_traced : {l : ℕ} (p : List ℕ) → p ≡ OBJECT_LINK ∷ [] → (s t : State) (v : ℕ) → L.read_object_link input s ≡ ok v t → Trace input room (suc l) value p s (v ∷ []) t
  unfolding L.read_object_link look ◌>>=◌
  object_link_traced {l} p f s t v e =
      count_then input s _ v t e λ i k n a e₁.
      entry_then (suc l) value as_value s.objects i _ (read_to k n s) t v e₁ λ x e₂.
      reading k n a (ended (object_link i _ (kind_more _ f) x) e₂)

  -- a name: `:`, `;` or a refusal
  pub name_traced : {l : ℕ} (s t : State) (v : ℕ) → L.read_symbol_like input room s ≡ ok v t → Trace input room l name [] s (v ∷ []) t
  unfolding L.read_symbol_like ◌>>=◌ pick
  name_traced {l} s t v e =
      read_byte_then input s _ v t e λ h e₁.
      reading (s.at + 1) s.notes.form (byte_spelt input s h) (by (eqb (get_or input s.at 0) _) (eqb (get_or input s.at 0) _) refl refl _ (at_set (s.at + 1) s) e₁)
    where
      two : (y : Bool) → eqb (get_or input s.at 0) SYMBOL_LINK ≡ y → (r : Refusal) (u : State) → pick y (L.read_symbol_link input) (refuse r) u ≡ ok v t → Trace input room l name (get_or input s.at 0 ∷ []) u (v ∷ []) t
      two y g r u e₁ = picked_reader y (L.read_symbol_link input) r u v t e₁ λ f e₂. symbol_link_traced l name as_name _ (ap (λ (k : ℕ). k ∷ []) (eqb-true _ _ (g ∙ f))) u t v e₂

      by : (x y : Bool) → eqb (get_or input s.at 0) SYMBOL ≡ x → eqb (get_or input s.at 0) SYMBOL_LINK ≡ y → (r : Refusal) (u : State)
          → pick x (L.read_symbol input room) (pick y (L.read_symbol_link input) (refuse r)) u ≡ ok v t → Trace input room l name (get_or input s.at 0 ∷ []) u (v ∷ []) t
      by true y f g r u e₁ = symbol_traced l name as_name _ (ap (λ (k : ℕ). k ∷ []) (eqb-true _ _ f)) u t v e₁
      by false y f g r u e₁ = two y g r u e₁

  -- ---- members

  -- node v takes no variables
  abbrev Unvaried : State → ℕ → Type 0
  Unvaried t v = (r : Row) × Fixed r × At t.nodes v r

  -- a value is read; directly as a byte string or user-defined, or as what takes no variables, where the kind byte is one that `I` goes before
  pub record Traced (l : ℕ) (f : Reader ℕ) : Type 0 where
    pub any : (s t : State) (v : ℕ) → f s ≡ ok v t → Trace input room l value [] s (v ∷ []) t
    pub direct : (s t : State) (v : ℕ) → f s ≡ ok v t → L.takes_variables (get_or input s.at 0) ≡ true → Trace input room l text [] s (v ∷ []) t ⊎ Unvaried t v

  none_read : {s t : State} {x : Unit {0}} → pure tt s ≡ ok x t → s ≡ t
  unfolding pure
  none_read e = ok_state e

  word_put : {B : Type 0} (i v : ℕ) (u t : State) (b : B) (k : Unit {0} → Reader B) → next (L.put_reference i v u) k ≡ ok b t → k tt (with_word i v u) ≡ ok b t
  unfolding L.put_reference next
  word_put i v u t b k e = e

  module _ {l : ℕ} (f : Reader ℕ) (h : Traced l f) where
    pub elements_traced : (n i : ℕ) (s t : State) (x : Unit {0}) → L.read_elements f n i s ≡ ok x t → (vs : List ℕ) × Trace input room l (elements n i) [] s vs t
    unfolding L.read_elements ◌>>=◌
    elements_traced zero i s t x e = ([], subst (Trace input room l (elements 0 i) [] s []) (none_read e) no_elements)
    elements_traced (suc n) i s t x e =
        un e λ v u e₁ e₂.
        let (vs, z) = elements_traced n (suc i) (with_word i v u) t x (word_put i v u t x _ e₂) in
        (v ∷ vs, element (h.any s u v e₁) z)

    pub pairs_traced : (n i : ℕ) (s t : State) (x : Unit {0}) → L.read_pairs (L.read_symbol_like input room) f n i s ≡ ok x t → (vs : List ℕ) × Trace input room l (pairs n i) [] s vs t
    unfolding L.read_pairs ◌>>=◌
    pairs_traced zero i s t x e = ([], subst (Trace input room l (pairs 0 i) [] s []) (none_read e) no_pairs)
    pairs_traced (suc n) i s t x e =
        un e λ c u e₁ e₂.
        un (word_put i c u t x _ e₂) λ v w e₃ e₄.
        let (vs, z) = pairs_traced n (suc (suc i)) (with_word (suc i) v w) t x (word_put (suc i) v w t x _ e₄) in
        (c ∷ v ∷ vs, pair (name_traced s u c e₁) (h.any (with_word i c u) w v e₃) z)

    -- a variable list, then the rest
    instance_variables_then : {A G : Type 0} (rest : ℕ → ℕ → Reader A) (s : State) (b : A) (t : State) → L.read_instance_variables input room f rest s ≡ ok b t
        → ((n k : ℕ) (a : Bool) (ms : List ℕ) (u : State) → Spelt input s k a (integer_bytes n) → n * 2 ≤ room.references - length s.references
        → Trace input room l (pairs n (length s.references)) [] (with_room (n * 2) (read_to k a s)) ms u → rest (length s.references) n u ≡ ok b t → G) → G
    unfolding L.read_instance_variables ◌>>=◌
    instance_variables_then rest s b t e g =
        counted_then input room 2 _ s b t e λ n k a y r e₁.
        un e₁ λ x u e₂ e₃.
        let (ms, z) = pairs_traced n (length s.references) _ u x e₂ in
        g n k a ms u y r z e₃

  -- ---- values, after the kind byte

  abbrev After : ℕ → Mode → ℕ → Reader ℕ → Type 0
  After l m k f = (p : List ℕ) → p ≡ k ∷ [] → (s t : State) (v : ℕ) → f s ≡ ok v t → Trace input room l m p s (v ∷ []) t

  filled : (h : ℕ) (r : Row) (u t : State) (v : ℕ) → L.fill h r u ≡ ok v t → ok h (with_row h r u) ≡ ok v t
  unfolding L.fill
  filled h r u t v e = e

  node_traced : {l : ℕ} (p : List ℕ) (r : Row) → Plain input p r → (s t : State) (v : ℕ) → L.add_node room r s ≡ ok v t → Trace input room (suc l) value p s (v ∷ []) t
  unfolding pure
  node_traced p r q s t v e = add_node_then room r s pure v t (last _ _ _ e) λ j e₁. ended (plain r q j) e₁

  fixnum_traced : {l : ℕ} → After (suc l) value FIXNUM (L.read_fixnum input room)
  unfolding L.read_fixnum ◌>>=◌
  fixnum_traced p f s t v e =
      read_then input integer_bytes (L.read_integer input) s _ v t e (integer_read input s) λ w k n a x y.
      reading k n a (node_traced _ (fixnum w) (subst (λ (q : List ℕ). Plain input q (fixnum w)) (psym (kind_more _ f)) (plain_fixnum w s (read_to k n s) x)) (read_to k n s) t v y)

  -- from the state s₀ after the bytes p to s a class w was read and then the kind byte k; more may be read after them
  abbrev Opens : ℕ → ℕ → List ℕ → State → ℕ → State → Type 0
  Opens l k p s₀ w s = (j : ℕ) (n : Bool) (y : List ℕ) → Spelt input s j n y → Trace input room l (opening w (k ∷ y)) p s₀ (optional_node w) (read_to j n s)

  opens : {l k : ℕ} {p : List ℕ} → p ≡ k ∷ [] → (s : State) → Opens l k p s 0 s
  unfolding optional_node
  opens g s j n y a = reading j n a (unclassed (kind_more y g))

  class_opens : {l k : ℕ} {p : List ℕ} {s t : State} {c : ℕ} → p ≡ USER_CLASS ∷ [] → Trace input room l name [] s (c ∷ []) t → t.at < length input → get_or input t.at 0 ≡ k
      → Opens l k p s (suc c) (at_set (t.at + 1) t)
  unfolding optional_node
  class_opens {t = t} g x h e j n y a = classed j n g x (subst (λ (k : ℕ). Spelt input t j n (k ∷ y)) e (spelt_join (byte_spelt input t h) a))

  -- what is opened and filled takes no variables
  abbrev Filled : ℕ → List ℕ → State → ℕ → State → Type 0
  Filled l p s v t = Trace input room l value p s (v ∷ []) t × Unvaried t v

  filled_end : {l : ℕ} {p : List ℕ} {s t : State} {v : ℕ} (h : ℕ) (r : Row) (u : State) → Fixed r → h < length u.nodes → Trace input room l value p s (h ∷ []) (with_row h r u) → L.fill h r u ≡ ok v t → Filled l p s v t
  filled_end {t = t} {v = v} h r u f j x e =
      let g = filled h r u t v e in
      (ended x g, (r, f, rw (← (ok_state g), ← (ok_result g)) (at_set_same u.nodes h r j)))

  -- an array has one word for each element
  ones : (n : ℕ) → n * 1 ≡ n
  ones n = omega arith

  module _ {l : ℕ} (f : Reader ℕ) (h : Traced l f) where
    -- members follow the opened node
    below_members : {n i : ℕ} {t : State} {ms : List ℕ} (s : State) → Trace input room l (elements n i) [] (with_room n (with_object_node nil s)) ms t → length s.nodes < length t.nodes
    below_members s x = omega (arith, (kept x).grows, len_snoc s.nodes nil)

    array_traced : {p : List ℕ} {s₀ s : State} (w : ℕ) → Opens l ARRAY p s₀ w s → (t : State) (v : ℕ) → L.read_array input room f w s ≡ ok v t → Filled (suc l) p s₀ v t
    unfolding L.read_array ◌>>=◌ list_length ranges
    array_traced {s = s} w g t v e =
        add_object_node_then room nil s _ v t e λ l₁ l₂ e₁.
        counted_then input room 1 _ (with_object_node nil s) v t e₁ λ n k a y r e₂.
        un e₂ λ x u e₃ e₄.
        let e₅ : L.read_elements f n (length s.references) (with_room n (read_to k a (with_object_node nil s))) ≡ ok x u = rw (ones n) at e₃ in
        let (ms, z) = elements_traced f h n (length s.references) _ u x e₅ in
        filled_end _ _ u array_fixed (below_members (read_to k a s) z) (list {ms = ms} (array (length s.references) n w) (is_array n w) (g k a _ (spelt_before y)) l₁ l₂ (omega arith) z) e₄

    hash_traced : {p : List ℕ} {s₀ s : State} (w : ℕ) → Opens l HASH p s₀ w s → (t : State) (v : ℕ) → L.read_hash false input room f w s ≡ ok v t → Filled (suc l) p s₀ v t
    unfolding L.read_hash L.read_default ◌>>=◌ list_length ranges
    hash_traced {s = s} w g t v e =
        add_object_node_then room nil s _ v t e λ l₁ l₂ e₁.
        counted_then input room 2 _ (with_object_node nil s) v t e₁ λ n k a y r e₂.
        un e₂ λ x u e₃ e₄.
        let (ms, z) = elements_traced f h (n * 2) (length s.references) _ u x e₃ in
        filled_end _ _ u hash_fixed (below_members (read_to k a s) z) (list {ms = ms} (hash (length s.references) n 0 w) (is_hash n w) (g k a _ (spelt_before y)) l₁ l₂ r z) e₄

    hash_default_traced : {p : List ℕ} {s₀ s : State} (w : ℕ) → Opens l HASH_DEFAULT p s₀ w s → (t : State) (v : ℕ) → L.read_hash true input room f w s ≡ ok v t → Filled (suc l) p s₀ v t
    unfolding L.read_hash L.read_default ◌>>=◌
    hash_default_traced {s = s} w g t v e =
        add_object_node_then room nil s _ v t e λ l₁ l₂ e₁.
        counted_then input room 2 _ (with_object_node nil s) v t e₁ λ n k a y r e₂.
        un e₂ λ x u e₃ e₄.
        un e₄ λ d u₂ e₅ e₆.
        let (ms, z) = elements_traced f h (n * 2) (length s.references) _ u x e₃ in
        let q = h.any u u₂ d e₅ in
        filled_end _ _ u₂ hash_fixed (omega (arith, below_members (read_to k a s) z, (kept q).grows)) (hash_default {ms = ms} n w (g k a _ (spelt_before y)) l₁ l₂ r z q) e₆

    object_traced : After (suc l) value OBJECT (L.read_object input room f)
    unfolding L.read_object ◌>>=◌
    object_traced p g s t v e =
        add_object_node_then room nil s _ v t e λ l₁ l₂ e₁.
        un e₁ λ c u e₂ e₃.
        instance_variables_then f h _ u v t e₃ λ n k a ms w y r z e₄.
        ended (object_pairs {ms = ms} n k a g l₁ l₂ (name_traced (with_object_node nil s) u c e₂) y r z) (filled _ _ w t v e₄)

  -- a byte string is read and stored
  text_then : {G : Type 0} (row : ℕ → ℕ → Row) (s t : State) (v : ℕ) → L.read_text input room row s ≡ ok v t
      → ((b : List ℕ) (k : ℕ) (n : Bool) → Spelt input s k n (byte_string_bytes b) → Part input b → length b ≤ room.bytes - length s.bytes → length s.nodes < room.nodes → length s.objects < room.objects
      → ok (length s.nodes) (with_object_node (row (length s.bytes) (length b)) (with_bytes b (read_to k n s))) ≡ ok v t → G) → G
  unfolding L.read_text ◌>>=◌ pure
  text_then row s t v e g =
      byte_string_then input s _ v t e λ b k n a p e₁.
      add_bytes_then room b (read_to k n s) _ v t e₁ λ l₁ e₂.
      add_object_node_then room _ (with_bytes b (read_to k n s)) pure v t (last _ _ _ e₂) λ l₂ l₃ e₃.
      g b k n a p l₁ l₂ l₃ e₃

  text_traced : {l k n : ℕ} {c : Bool} {p : List ℕ} {s₀ s : State} (q : Texted k n c) (w : ℕ) → optional_present w ≡ c → Opens l k p s₀ w s → (t : State) (v : ℕ)
      → L.read_text input room (λ start n. text_row q start n w) s ≡ ok v t → Trace input room (suc l) text p s₀ (v ∷ []) t
  text_traced {s = s} q w o g t v e = text_then (λ start n. text_row q start n w) s t v e λ b k n a x l₁ l₂ l₃ e₁. ended (text_bytes q w b o (g k n _ a) x l₁ l₂ l₃) e₁

  user_traced : {l : ℕ} → After (suc l) text USER_DEFINED (L.read_user_defined input room)
  unfolding L.read_user_defined ◌>>=◌
  user_traced p g s t v e =
      un e λ c u e₀ e₁.
      text_then (λ start n. user start n c absent) u t v e₁ λ b k n a x l₁ l₂ l₃ e₂.
      ended (user_bytes b k n g (name_traced s u c e₀) a x l₁ l₂ l₃) e₂

  -- the units and the node, after the sign byte and the count
  magnitude_traced : {l : ℕ} (p : List ℕ) → p ≡ BIGNUM ∷ [] → (s : State) (b n k : ℕ) (f : Bool) → Spelt input s k f (b ∷ integer_bytes n)
      → (t : State) (v : ℕ) → L.read_magnitude input room b n (read_to k f s) ≡ ok v t → Trace input room (suc l) value p s (v ∷ []) t
  unfolding L.read_magnitude L.add_bignum L.note bignum_row ◌>>=◌ next pure
  magnitude_traced p g s b n k f a t v e =
      let bs = range input k (n * 2) in
      let m = little bs 0 in
      let minus = sign (eqb b MINUS) m in
      let test : Bool = eqb b (sign_byte minus) && equal bs (unit_bytes m) in
      let u = at_set (k + n * 2) (read_to k f s) in
      read_bytes_then input (n * 2) (read_to k f s) _ v t e λ h e₁.
      picked_reader (fits m) _ _ u v t e₁ λ q e₂.
      add_object_node_then room _ (noted test u) pure v t (last _ _ _ e₂) λ l₁ l₂ e₃.
      reading (k + n * 2) (test && f) (noted_spelt test (units_written b n m minus bs (length_range_in input k (n * 2) h)) (spelt_join a (bytes_spelt input (n * 2) (read_to k f s) h)))
      (ended (bignum_node _ _ m minus (kind_more _ g) (of_words m) (sign_right m (eqb b MINUS) q) l₁ l₂) e₃)

  bignum_traced : {l : ℕ} → After (suc l) value BIGNUM (L.read_bignum input room)
  unfolding L.read_bignum ◌>>=◌
  bignum_traced p g s t v e =
      read_then input (λ (b : ℕ). b ∷ []) (L.read_sign input) s _ v t e (sign_read input s) λ b k₁ n₁ a₁ x₁ e₁.
      read_then input integer_bytes (L.read_unit_count input) (read_to k₁ n₁ s) _ v t e₁ (unit_count_read input (read_to k₁ n₁ s)) λ n k₂ n₂ a₂ x₂ e₂.
      magnitude_traced p g s b n k₂ n₂ (spelt_join a₁ a₂) t v e₂

  -- only a string or a user-defined node takes variables
  set_variables_then : (h p n : ℕ) (r : Row) (u t : State) (v : ℕ) → L.set_variables h p n r u ≡ ok v t → (r' : Row) × Varied p n r r' × (ok h (with_row h r' u) ≡ ok v t)
  unfolding L.set_variables L.fill kind words row_of vars pick refuse
  set_variables_then h p n (string a l x w) u t v e = (string a l (present p n) w, varied_string, e)
  set_variables_then h p n (user a l c x) u t v e = (user a l c (present p n), varied_user, e)
  set_variables_then h p n nil u t v e = apart (cc)
  set_variables_then h p n (bool b) u t v e = apart (cc)
  set_variables_then h p n (fixnum w) u t v e = apart (cc)
  set_variables_then h p n (symbol a l) u t v e = apart (cc)
  set_variables_then h p n (array a m w) u t v e = apart (cc)
  set_variables_then h p n (hash a m d w) u t v e = apart (cc)
  set_variables_then h p n (object a m c) u t v e = apart (cc)
  set_variables_then h p n (float a l) u t v e = apart (cc)
  set_variables_then h p n (bignum low high m) u t v e = apart (cc)

  varied_at : (p n : ℕ) (r' : Row) (l : List Row) (h : ℕ) → Varied p n (get_or l h nil) r' → At l h (get_or l h nil)
  varied_at p n r' [] h x = absurd (varied_some x refl)
  varied_at p n r' (r ∷ l) zero x = refl
  varied_at p n r' (r ∷ l) (suc h) x = varied_at p n r' l h x

  -- `I` notes what stands after it; a value is read from inside the input
  inner_traced : {l : ℕ} (f : Reader ℕ) → Traced l f → (s u : State) (h : ℕ) (d : Bool) → L.takes_variables (get_or input s.at 0) ≡ d → f (noted d s) ≡ ok h u → ((m : Mode) × Inner u m × Trace input room l m [] s (h ∷ []) u) ⊎ Unvaried u h
  inner_traced {l} f g s u h true q e = go (g.direct s u h e q)
    where
      go : Trace input room l text [] s (h ∷ []) u ⊎ Unvaried u h → ((m : Mode) × Inner u m × Trace input room l m [] s (h ∷ []) u) ⊎ Unvaried u h
      go (inl x) = inl (text, inner_text, x)
      go (inr x) = inr x
  inner_traced {l} f g s u h false q e =
      let x = g.any (noted false s) u h e in
      let nothing : Spelt input s s.at false [] = record { on = omega arith; inside = λ j. j; off = λ o. refl; text = λ o. apart (cc) } in
      inl (value, inner_value ((forwards x).off refl), reading s.at false nothing x)

  variables_traced : {l : ℕ} (f : Reader ℕ) → Traced l f → After (suc l) value INSTANCE_VARIABLES (L.read_variables input room f)
  unfolding L.read_variables L.note ◌>>=◌ look next
  variables_traced {l} f g p q s t v e =
      un e λ h u e₁ e₂.
      instance_variables_then f g _ u v t e₂ λ n k a ms w y r z e₃.
      let (r', c, e₄) = set_variables_then h (length u.references) n (get_or w.nodes h nil) w t v e₃ in
      ended (by h u n k a ms w r' y r z c (inner_traced f g s u h (L.takes_variables (get_or input s.at 0)) refl e₁)) e₄
    where
      by : (h : ℕ) (u : State) (n k : ℕ) (a : Bool) (ms : List ℕ) (w : State) (r' : Row) → Spelt input u k a (integer_bytes n) → n * 2 ≤ room.references - length u.references
          → Trace input room l (pairs n (length u.references)) [] (with_room (n * 2) (read_to k a u)) ms w → Varied (length u.references) n (get_or w.nodes h nil) r'
          → ((m : Mode) × Inner u m × Trace input room l m [] s (h ∷ []) u) ⊎ Unvaried u h → Trace input room (suc l) value p s (h ∷ []) (with_row h r' w)
      by h u n k a ms w r' y r z c (inl (m, i, x)) = variables {ms = ms} n k a q i x y r z (varied_at _ _ r' w.nodes h c) c
      by h u n k a ms w r' y r z c (inr (r₁, o, x)) =
          absurd (o _ _ r' (subst (λ (r : Row). Varied (length u.references) n r r') (get_d_at w.nodes h nil r₁ ((kept z).stands h r₁ o x)) c))

  no_value : {A : Type 0} (r : Refusal) (s t : State) (v : ℕ) → refuse r s ≡ ok v t → A
  unfolding refuse
  no_value r s t v e = apart (cc)

  -- a byte string or user-defined, or what takes no variables
  abbrev Direct : ℕ → List ℕ → State → ℕ → State → Type 0
  Direct l p s v t = Trace input room l text p s (v ∷ []) t ⊎ Filled l p s v t

  direct_any : {l : ℕ} {p : List ℕ} {s t : State} {v : ℕ} → Direct l p s v t → Trace input room l value p s (v ∷ []) t
  direct_any (inl x) = stored x
  direct_any (inr x) = x.0

  module _ {l : ℕ} (f : Reader ℕ) (h : Traced l f) where
    wrapped_traced : {p : List ℕ} {s₀ s : State} (k c : ℕ) → ((b : ℕ) → k ≡ b → Opens l b p s₀ (suc c) s) → (t : State) (v : ℕ) → L.read_wrapped input room f k (suc c) s ≡ ok v t → Direct (suc l) p s₀ v t
    unfolding L.read_wrapped L.read_string optional_present pick
    wrapped_traced {p} {s₀} {s} k c g t v e = go (eqb k STRING) (eqb k ARRAY) (eqb k HASH) (eqb k HASH_DEFAULT) refl refl refl refl e
      where
        go : (x₁ x₂ x₃ x₄ : Bool) → eqb k STRING ≡ x₁ → eqb k ARRAY ≡ x₂ → eqb k HASH ≡ x₃ → eqb k HASH_DEFAULT ≡ x₄
            → pick x₁ (L.read_string input room (suc c)) (pick x₂ (L.read_array input room f (suc c)) (pick x₃ (L.read_hash false input room f (suc c)) (pick x₄ (L.read_hash true input room f (suc c)) (refuse (NotWrappable k))))) s ≡ ok v t → Direct (suc l) p s₀ v t
        go true x₂ x₃ x₄ q₁ q₂ q₃ q₄ e = inl (text_traced text_string (suc c) refl (g STRING (eqb-true k STRING q₁)) t v e)
        go false true x₃ x₄ q₁ q₂ q₃ q₄ e = inr (array_traced f h (suc c) (g ARRAY (eqb-true k ARRAY q₂)) t v e)
        go false false true x₄ q₁ q₂ q₃ q₄ e = inr (hash_traced f h (suc c) (g HASH (eqb-true k HASH q₃)) t v e)
        go false false false true q₁ q₂ q₃ q₄ e = inr (hash_default_traced f h (suc c) (g HASH_DEFAULT (eqb-true k HASH_DEFAULT q₄)) t v e)
        go false false false false q₁ q₂ q₃ q₄ e = no_value _ s t v e

    class_traced : (p : List ℕ) → p ≡ USER_CLASS ∷ [] → (s t : State) (v : ℕ) → L.read_user_class input room f s ≡ ok v t → Direct (suc l) p s v t
    unfolding L.read_user_class ◌>>=◌
    class_traced p g s t v e =
        un e λ c u e₁ e₂.
        read_byte_then input u _ v t e₂ λ j e₃.
        wrapped_traced _ c (λ b z. class_opens g (name_traced s u c e₁) j z) t v e₃

  value_of_traced : {l : ℕ} (f : Reader ℕ) → Traced l f → (k : ℕ) (d : L.Head) → Kinded k d → After (suc l) value k (L.value_of input room f k d)
  unfolding L.value_of L.read_string L.read_float optional_present
  value_of_traced f h k L.Nil q p g s t v e = node_traced p nil (rw (g, q) plain_nil) s t v e
  value_of_traced f h k L.True q p g s t v e = node_traced p (bool true) (rw (g, q) plain_true) s t v e
  value_of_traced f h k L.False q p g s t v e = node_traced p (bool false) (rw (g, q) plain_false) s t v e
  value_of_traced f h k L.Fixnum q p g s t v e = fixnum_traced p (same_kind q g) s t v e
  value_of_traced {l} f h k L.Symbol q p g s t v e = symbol_traced (suc l) value as_value p (same_kind q g) s t v e
  value_of_traced {l} f h k L.SymbolLink q p g s t v e = symbol_link_traced (suc l) value as_value p (same_kind q g) s t v e
  value_of_traced f h k L.ObjectLink q p g s t v e = object_link_traced p (same_kind q g) s t v e
  value_of_traced f h k L.InstanceVariables q p g s t v e = variables_traced f h p (same_kind q g) s t v e
  value_of_traced f h k L.Array q p g s t v e = (array_traced f h 0 (opens (same_kind q g) s) t v e).0
  value_of_traced f h k L.Hash q p g s t v e = (hash_traced f h 0 (opens (same_kind q g) s) t v e).0
  value_of_traced f h k L.HashDefault q p g s t v e = (hash_default_traced f h 0 (opens (same_kind q g) s) t v e).0
  value_of_traced f h k L.Object q p g s t v e = object_traced f h p (same_kind q g) s t v e
  value_of_traced f h k L.String q p g s t v e = stored (text_traced text_string 0 refl (opens (same_kind q g) s) t v e)
  value_of_traced f h k L.UserDefined q p g s t v e = stored (user_traced p (same_kind q g) s t v e)
  value_of_traced f h k L.Float q p g s t v e = stored (text_traced text_float 0 refl (opens (same_kind q g) s) t v e)
  value_of_traced f h k L.Bignum q p g s t v e = bignum_traced p (same_kind q g) s t v e
  value_of_traced f h k L.UserClass q p g s t v e = direct_any (class_traced f h p (same_kind q g) s t v e)
  value_of_traced f h k L.Unknown q p g s t v e = no_value _ s t v e

  -- the kind bytes that `I` goes before
  direct_traced : {l : ℕ} (f : Reader ℕ) → Traced l f → (k : ℕ) → L.takes_variables k ≡ true → (p : List ℕ) → p ≡ k ∷ [] → (s t : State) (v : ℕ) → L.value_of input room f k (L.head k) s ≡ ok v t
      → Direct (suc l) p s v t
  unfolding L.takes_variables L.value_of L.head L.read_string optional_present pick
  direct_traced {l} f h k q p g s t v e = go (eqb k STRING) (eqb k USER_DEFINED) (eqb k USER_CLASS) refl refl refl q
    where
      go : (x y z : Bool) → eqb k STRING ≡ x → eqb k USER_DEFINED ≡ y → eqb k USER_CLASS ≡ z → (x || y || z) ≡ true → Direct (suc l) p s v t
      go true y z i j m w = let r = eqb-true k STRING i in inl (text_traced text_string 0 refl (opens (same_kind r g) s) t v (rw r at e))
      go false true z i j m w = let r = eqb-true k USER_DEFINED j in inl (user_traced p (same_kind r g) s t v (rw r at e))
      go false false true i j m w = let r = eqb-true k USER_CLASS m in class_traced f h p (same_kind r g) s t v (rw r at e)
      go false false false i j m w = apart (cc)

  pub value_traced : (limit levels : ℕ) → Traced levels (L.read_value input room limit levels)
  unfolding L.read_value ◌>>=◌
  value_traced limit zero = record { any = λ s t v e. no_value _ s t v e; direct = λ s t v e q. no_value _ s t v e }
  value_traced limit (suc levels) = record {
    any = λ s t v e.
        read_byte_then input s _ v t e λ j e₁.
        reading (s.at + 1) s.notes.form (byte_spelt input s j)
        (value_of_traced (L.read_value input room limit levels) (value_traced limit levels) (get_or input s.at 0) _ (kinded (get_or input s.at 0)) _ refl (at_set (s.at + 1) s) t v e₁);
    direct = λ s t v e q.
        read_byte_then input s _ v t e λ j e₁.
        after s t v j (direct_traced (L.read_value input room limit levels) (value_traced limit levels) (get_or input s.at 0) q _ refl (at_set (s.at + 1) s) t v e₁);
  }
    where
      after : (s t : State) (v : ℕ) → s.at < length input → Direct (suc levels) (get_or input s.at 0 ∷ []) (at_set (s.at + 1) s) v t
          → Trace input room (suc levels) text [] s (v ∷ []) t ⊎ Unvaried t v
      after s t v j (inl x) = inl (reading (s.at + 1) s.notes.form (byte_spelt input s j) x)
      after s t v j (inr x) = inr x.1

  header_read : (s : State) (x : Unit {0}) (u : State) → L.read_header input s ≡ ok x u → Read input (λ _. 0x04 ∷ 0x08 ∷ []) x s u
  unfolding L.read_header L.note ◌>>=◌
  header_read s x u e =
      read_byte_then input s _ x u e λ l e₁.
      read_byte_then input (at_set (s.at + 1) s) _ x u e₁ λ m e₂.
      picked_reader _ _ _ (at_set (s.at + 1 + 1) s) x u e₂ λ p e₃.
      let a = get_or input s.at 0 in
      let b = get_or input (s.at + 1) 0 in
      let (major, _) = both_hold (eqb a 4) (leb b 8) p in
      let y = spelt_join (byte_spelt input s l) (byte_spelt input (at_set (s.at + 1) s) m) in (
        s.at + 1 + 1,
        _,
        record {
          on = y.on;
          inside = y.inside;
          off = λ o. and_off (eqb b 8) s.notes.form o;
          text = λ f.
              let (minor, g) = both_hold (eqb b 8) s.notes.form f in
              y.text g ∙ (λ i. eqb-true a 4 major i ∷ eqb-true b 8 minor i ∷ drop (s.at + 1 + 1) input);
        },
        psym (ok_state e₃),
      )

  -- an accepted load: the header, and then the root value
  pub record LoadTraced (limit : ℕ) (t : State) (v : ℕ) : Type 0 where
    pub offset : ℕ
    pub form : Bool
    pub header : Spelt input begin offset form (0x04 ∷ 0x08 ∷ [])
    pub trace : Trace input room limit value [] (read_to offset form begin) (v ∷ []) t

  pub load_traced : (limit : ℕ) (t : State) (v : ℕ) → L.load input room limit ≡ ok v t → LoadTraced limit t v
  unfolding L.load ◌>>=◌
  load_traced limit t v e =
      read_then input (λ _. 0x04 ∷ 0x08 ∷ []) (L.read_header input) begin _ v t e (header_read begin) λ x k n a e₁ e₂.
      record { offset = k; form = n; header = a; trace = (value_traced limit limit).any (read_to k n begin) t v e₂ }
