-- What an accepted read did, as a tree of steps: what was added, written and filled, in order.
use Rattle.std.specs.Prelude.{ℕ, suc, ◌+◌, ◌-◌, ◌*◌, ◌≤◌, ◌<◌, ◌≡◌, refl, Bool, true, false, List, [], ◌∷◌, ◌++◌, length, drop}
use Rattle.std.proofs.Common.{ap, ◌∙◌, sym as psym, append_assoc, arith}
use Rattle.definition.specs.Run.{ok}
use Rattle.definition.specs.Integer.{integer_bytes}
use Rattle.definition.specs.Magnitude.{magnitude, bignum_bytes}
use Rattle.definition.specs.Kind.{NIL, TRUE, FALSE, FIXNUM, SYMBOL, SYMBOL_LINK, OBJECT_LINK, INSTANCE_VARIABLES, ARRAY, HASH, HASH_DEFAULT, OBJECT, USER_DEFINED, BIGNUM, USER_CLASS}
use Rattle.definition.specs.Node.{Row, nil, bool, fixnum, hash, object, user, bignum, absent, optional_node, optional_present}
use Rattle.definition.specs.Arena.{range}
use Rattle.definition.specs.State.{State, Room, noted}
use Rattle.definition.specs.Load.{read_integer}
use Rattle.definition.specs.Dump.{byte_string_bytes}
use Rattle.lists.specs.Lists.{At, NotIn, apart}
use Rattle.graph.specs.Forest.{sym, Texted}
use Rattle.graph.specs.View.{text_row, state_seen}
use Rattle.well_formed.specs.Right.{NumberRight}
use Rattle.states.specs.Rows.{list_length, Listed, is_array, is_hash, Varied}
use Rattle.states.specs.States.{read_to, sought, with_node, with_symbol, with_object_node, with_bytes, with_word, with_row, with_room, with_new_symbol}

-- ---- reading the input

-- not in dump form
abbrev pub Off : Bool → Type 0
Off f = f ≡ false

-- the input was read from s to the offset k; n says whether all is in dump form then, and where it is, what was read is y
pub record Spelt (input : List ℕ) (s : State) (k : ℕ) (n : Bool) (y : List ℕ) : Type 0 where
  pub on : s.at ≤ k
  pub inside : s.at ≤ length input → k ≤ length input
  pub off : Off s.notes.form → Off n
  pub text : n ≡ true → drop s.at input ≡ y ++ drop k input

-- what was read up to here: all that is lent stands
abbrev pub Read : {A : Type 0} → List ℕ → (A → List ℕ) → A → State → State → Type 0
Read input f a s u = (k : ℕ) × (n : Bool) × Spelt input s k n (f a) × (u ≡ read_to k n s)

pub spelt_join : {input : List ℕ} {s : State} {k k' : ℕ} {n n' : Bool} {y z : List ℕ} → Spelt input s k n y → Spelt input (read_to k n s) k' n' z → Spelt input s k' n' (y ++ z)
spelt_join {input} {s} {k} {k'} {n} {n'} {y} {z} a b = record {
  on = omega (arith, a.on, b.on);
  inside = λ h. b.inside (a.inside h);
  off = λ o. b.off (a.off o);
  text = λ f. a.text (formed n (λ o. b.off o) f) ∙ ap (λ (x : List ℕ). y ++ x) (b.text f) ∙ psym (append_assoc y z (drop k' input));
}
  where
    formed : (x : Bool) → (x ≡ false → Off n') → n' ≡ true → x ≡ true
    formed true h f = refl
    formed false h f = let z = h refl in apart (cc)

-- ---- the steps

-- what is read: a value; a byte string or a user-defined value, not through `I`; a name; a class as word 7 holds it and then bytes; n values or n pairs of name and value, written from a word on
pub data Mode : Type 0 where
  value : Mode
  text : Mode
  name : Mode
  opening : ℕ → List ℕ → Mode
  elements : ℕ → ℕ → Mode
  pairs : ℕ → ℕ → Mode

-- a symbol may come as a value, where a level is left, or as a name
pub data One : ℕ → Mode → Type 0 where
  as_value : {l : ℕ} → One (suc l) value
  as_name : {l : ℕ} → One l name

-- bytes taken from the input
abbrev pub Part : List ℕ → List ℕ → Type 0
Part input b = (i : ℕ) × (n : ℕ) × (b ≡ range input i n)

-- a row that is added as it is and has no place on a list, and its bytes
pub data Plain (input : List ℕ) : List ℕ → Row → Type 0 where
  plain_nil : Plain input (NIL ∷ []) nil
  plain_true : Plain input (TRUE ∷ []) (bool true)
  plain_false : Plain input (FALSE ∷ []) (bool false)
  plain_fixnum : (w : ℕ) (s t : State) → read_integer input s ≡ ok w t → Plain input (FIXNUM ∷ integer_bytes w) (fixnum w)

-- the bytes between the class and the members, and the class
abbrev pub list_bytes : {p : ℕ} {r : Row} → Listed p r → List ℕ
list_bytes (is_array n w) = ARRAY ∷ integer_bytes n
list_bytes (is_hash n w) = HASH ∷ integer_bytes n

abbrev pub list_class : {p : ℕ} {r : Row} → Listed p r → ℕ
list_class (is_array n w) = w
list_class (is_hash n w) = w

-- what stands after `I`: directly a byte string or a user-defined value, or it is not in dump form
pub data Inner (t : State) : Mode → Type 0 where
  inner_text : Inner t text
  inner_value : Off t.notes.form → Inner t value

-- `Trace l m p s vs t`: reading from s, with l levels left, gave vs and led to t. p are the bytes of the first tree that were read before s, as dump writes them
pub data Trace (input : List ℕ) (room : Room) : ℕ → Mode → List ℕ → State → List ℕ → State → Type 0 where
  reading : {l : ℕ} {m : Mode} {p y : List ℕ} {s t : State} {vs : List ℕ} (k : ℕ) (n : Bool) → Spelt input s k n y → Trace input room l m (p ++ y) (read_to k n s) vs t → Trace input room l m p s vs t
  plain : {l : ℕ} {p : List ℕ} {s : State} (r : Row) → Plain input p r → length s.nodes < room.nodes → Trace input room (suc l) value p s (length s.nodes ∷ []) (with_node r s)
  known : {l : ℕ} {m : Mode} {p : List ℕ} {s : State} (b : List ℕ) (h : ℕ) → One l m → At (state_seen s).nodes h (sym b) → length s.symbols < room.symbols → Trace input room l m p s (h ∷ []) (with_symbol h (noted false (sought b s)))
  new : {l : ℕ} {m : Mode} {p : List ℕ} {s : State} (b : List ℕ) → p ≡ SYMBOL ∷ byte_string_bytes b → One l m → NotIn (sym b) (state_seen s).nodes → Part input b
      → length b ≤ room.bytes - length s.bytes → length s.nodes < room.nodes → length s.symbols < room.symbols
      → Trace input room l m p s (length s.nodes ∷ []) (with_new_symbol b (sought b s))
  symbol_link : {l : ℕ} {m : Mode} {p : List ℕ} {s : State} (i h : ℕ) → p ≡ SYMBOL_LINK ∷ integer_bytes i → One l m → At s.symbols i h → Trace input room l m p s (h ∷ []) s
  object_link : {l : ℕ} {p : List ℕ} {s : State} (i h : ℕ) → p ≡ OBJECT_LINK ∷ integer_bytes i → At s.objects i h → Trace input room (suc l) value p s (h ∷ []) s
  unclassed : {l : ℕ} {p q : List ℕ} {s : State} → p ≡ q → Trace input room l (opening 0 q) p s [] s
  classed : {l : ℕ} {p q : List ℕ} {s t : State} {c : ℕ} (k : ℕ) (a : Bool) → p ≡ USER_CLASS ∷ [] → Trace input room l name [] s (c ∷ []) t → Spelt input t k a q
      → Trace input room l (opening (suc c) q) p s (c ∷ []) (read_to k a t)
  list : {l : ℕ} {p : List ℕ} {s o t : State} {ms : List ℕ} (r : Row) (q : Listed (length o.references) r)
      → Trace input room l (opening (list_class q) (list_bytes q)) p s (optional_node (list_class q)) o
      → length o.nodes < room.nodes → length o.objects < room.objects → list_length r ≤ room.references - length o.references
      → Trace input room l (elements (list_length r) (length o.references)) [] (with_room (list_length r) (with_object_node nil o)) ms t
      → Trace input room (suc l) value p s (length o.nodes ∷ []) (with_row (length o.nodes) r t)
  hash_default : {l : ℕ} {p : List ℕ} {s o t u : State} {ms : List ℕ} {d : ℕ} (n w : ℕ) → Trace input room l (opening w (HASH_DEFAULT ∷ integer_bytes n)) p s (optional_node w) o
      → length o.nodes < room.nodes → length o.objects < room.objects → n * 2 ≤ room.references - length o.references
      → Trace input room l (elements (n * 2) (length o.references)) [] (with_room (n * 2) (with_object_node nil o)) ms t
      → Trace input room l value [] t (d ∷ []) u
      → Trace input room (suc l) value p s (length o.nodes ∷ []) (with_row (length o.nodes) (hash (length o.references) n (d + 1) w) u)
  object_pairs : {l : ℕ} {p : List ℕ} {s t u : State} {ms : List ℕ} {c : ℕ} (n k : ℕ) (a : Bool) → p ≡ OBJECT ∷ []
      → length s.nodes < room.nodes → length s.objects < room.objects
      → Trace input room l name [] (with_object_node nil s) (c ∷ []) t
      → Spelt input t k a (integer_bytes n) → n * 2 ≤ room.references - length t.references
      → Trace input room l (pairs n (length t.references)) [] (with_room (n * 2) (read_to k a t)) ms u
      → Trace input room (suc l) value p s (length s.nodes ∷ []) (with_row (length s.nodes) (object (length t.references) n c) u)
  text_bytes : {l : ℕ} {p : List ℕ} {s o : State} {k n : ℕ} {c : Bool} (q : Texted k n c) (w : ℕ) (b : List ℕ) → optional_present w ≡ c
      → Trace input room l (opening w (k ∷ byte_string_bytes b)) p s (optional_node w) o → Part input b
      → length b ≤ room.bytes - length o.bytes → length o.nodes < room.nodes → length o.objects < room.objects
      → Trace input room (suc l) text p s (length o.nodes ∷ []) (with_object_node (text_row q (length o.bytes) (length b) w) (with_bytes b o))
  user_bytes : {l : ℕ} {p : List ℕ} {s t : State} {c : ℕ} (b : List ℕ) (k : ℕ) (a : Bool) → p ≡ USER_DEFINED ∷ []
      → Trace input room l name [] s (c ∷ []) t → Spelt input t k a (byte_string_bytes b) → Part input b
      → length b ≤ room.bytes - length t.bytes → length t.nodes < room.nodes → length t.objects < room.objects
      → Trace input room (suc l) text p s (length t.nodes ∷ []) (with_object_node (user (length t.bytes) (length b) c absent) (with_bytes b (read_to k a t)))
  bignum_node : {l : ℕ} {p : List ℕ} {s : State} (low high n : ℕ) (m : Bool) → p ≡ BIGNUM ∷ bignum_bytes m n → magnitude low high ≡ n → NumberRight n m
      → length s.nodes < room.nodes → length s.objects < room.objects
      → Trace input room (suc l) value p s (length s.nodes ∷ []) (with_object_node (bignum low high m) s)
  stored : {l : ℕ} {p : List ℕ} {s t : State} {vs : List ℕ} → Trace input room l text p s vs t → Trace input room l value p s vs t
  variables : {l : ℕ} {m : Mode} {p : List ℕ} {s t u : State} {ms : List ℕ} {h : ℕ} {r r' : Row} (n k : ℕ) (a : Bool) → p ≡ INSTANCE_VARIABLES ∷ [] → Inner t m
      → Trace input room l m [] s (h ∷ []) t
      → Spelt input t k a (integer_bytes n) → n * 2 ≤ room.references - length t.references
      → Trace input room l (pairs n (length t.references)) [] (with_room (n * 2) (read_to k a t)) ms u
      → At u.nodes h r → Varied (length t.references) n r r'
      → Trace input room (suc l) value p s (h ∷ []) (with_row h r' u)
  no_elements : {l i : ℕ} {s : State} → Trace input room l (elements 0 i) [] s [] s
  element : {l : ℕ} {s t u : State} {n i v : ℕ} {vs : List ℕ} → Trace input room l value [] s (v ∷ []) t → Trace input room l (elements n (suc i)) [] (with_word i v t) vs u
      → Trace input room l (elements (suc n) i) [] s (v ∷ vs) u
  no_pairs : {l i : ℕ} {s : State} → Trace input room l (pairs 0 i) [] s [] s
  pair : {l : ℕ} {s t u w : State} {n i c v : ℕ} {vs : List ℕ} → Trace input room l name [] s (c ∷ []) t → Trace input room l value [] (with_word i c t) (v ∷ []) u
      → Trace input room l (pairs n (suc (suc i))) [] (with_word (suc i) v u) vs w
      → Trace input room l (pairs (suc n) i) [] s (c ∷ v ∷ vs) w

-- ---- the input is read forwards, not past its end, and what is not in dump form stays so

pub record Forwards (input : List ℕ) (s t : State) : Type 0 where
  pub on : s.at ≤ t.at
  pub ends : s.at ≤ length input → t.at ≤ length input
  pub off : Off s.notes.form → Off t.notes.form

forwards_same : (input : List ℕ) (s t : State) → t.at ≡ s.at → t.notes.form ≡ s.notes.form → Forwards input s t
forwards_same input s t e f = record { on = omega arith; ends = λ h. omega arith; off = λ o. f ∙ o }

forwards_trans : {input : List ℕ} {s t u : State} → Forwards input s t → Forwards input t u → Forwards input s u
forwards_trans x y = record { on = omega (arith, x.on, y.on); ends = λ h. y.ends (x.ends h); off = λ o. y.off (x.off o) }

forwards_to : {input : List ℕ} {s : State} {k : ℕ} {n : Bool} {y : List ℕ} → Spelt input s k n y → Forwards input s (read_to k n s)
forwards_to a = record { on = a.on; ends = a.inside; off = a.off }

-- the same offset and form at both ends
forwards_as : {input : List ℕ} {s t : State} (s' t' : State) → s'.at ≡ s.at → s'.notes.form ≡ s.notes.form → t'.at ≡ t.at → t'.notes.form ≡ t.notes.form → Forwards input s t → Forwards input s' t'
forwards_as {input} {s} {t} s' t' a b c d x = forwards_trans (forwards_same input s' s (psym a) (psym b)) (forwards_trans x (forwards_same input t t' c d))

pub forwards : {input : List ℕ} {room : Room} {l : ℕ} {m : Mode} {p : List ℕ} {s t : State} {vs : List ℕ} → Trace input room l m p s vs t → Forwards input s t
forwards (reading k n a x) = forwards_trans (forwards_to a) (forwards x)
forwards {input} {s = s} {t = t} (plain r p l) = forwards_same input s t refl refl
forwards (known b h o a l) = record { on = omega arith; ends = λ h. h; off = λ o. refl }
forwards {input} {s = s} {t = t} (new b e o n p l₁ l₂ l₃) = forwards_same input s t refl refl
forwards {input} {s = s} {t = t} (symbol_link i h e o a) = forwards_same input s t refl refl
forwards {input} {s = s} {t = t} (object_link i h e a) = forwards_same input s t refl refl
forwards {input} {s = s} {t = t} (unclassed e) = forwards_same input s t refl refl
forwards (classed k a e x b) = forwards_trans (forwards x) (forwards_to b)
forwards {t = t} (list {o = o} r q c l₁ l₂ l₃ x) = forwards_trans (forwards c) (forwards_as o t refl refl refl refl (forwards x))
forwards {t = t} (hash_default {o = o} n w c l₁ l₂ l₃ x y) = forwards_trans (forwards c) (forwards_as o t refl refl refl refl (forwards_trans (forwards x) (forwards y)))
forwards {s = s} {t = t} (object_pairs {t = v} {u = u} n k a e l₁ l₂ x b l₃ y) =
    forwards_trans (forwards_as s v refl refl refl refl (forwards x)) (forwards_trans (forwards_to b) (forwards_as (read_to k a v) t refl refl refl refl (forwards y)))
forwards {input} {t = t} (text_bytes {o = o} q w b e c p l₁ l₂ l₃) = forwards_trans (forwards c) (forwards_same input o t refl refl)
forwards {input} {t = t} (user_bytes {t = v} b k a e x c p l₁ l₂ l₃) = forwards_trans (forwards x) (forwards_trans (forwards_to c) (forwards_same input (read_to k a v) t refl refl))
forwards {input} {s = s} {t = t} (bignum_node low high n m e q h l₁ l₂) = forwards_same input s t refl refl
forwards (stored x) = forwards x
forwards {t = t} (variables {t = v} {u = u} n k a e i x b l y c q) = forwards_trans (forwards x) (forwards_trans (forwards_to b) (forwards_as (read_to k a v) t refl refl refl refl (forwards y)))
forwards {input} {s = s} no_elements = forwards_same input s s refl refl
forwards {s = s} {t = t} (element {t = v} x y) = forwards_trans (forwards x) (forwards_as v t refl refl refl refl (forwards y))
forwards {input} {s = s} no_pairs = forwards_same input s s refl refl
forwards {s = s} {t = t} (pair {t = v} {u = u} x y z) = forwards_trans (forwards x) (forwards_trans (forwards_as v u refl refl refl refl (forwards y)) (forwards_as u t refl refl refl refl (forwards z)))
