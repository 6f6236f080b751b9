-- The text of a forest determines it: a reader of texts, which needs no arena, gives back the forest.
use Rattle.std.specs.Prelude.{ℕ, zero, suc, ◌+◌, ◌*◌, ◌≤◌, ◌<◌, ◌≡◌, Bool, true, false, List, [], ◌∷◌, ◌++◌, eqb, length, take, drop}
use Rattle.std.proofs.Math.Path.{refl}
use Rattle.std.proofs.Common.{ap, sym, ◌∙◌, append_assoc, take_at, drop_at, arith}
use Rattle.std.proofs.Math.Seq.{drop-append_seam}
use Rattle.definition.specs.Run.{pick}
use Rattle.definition.specs.Integer.{Form, value, data_bytes, form, little, integer_bytes}
use Rattle.definition.specs.Kind.{NIL, TRUE, FALSE, FIXNUM, SYMBOL, SYMBOL_LINK, OBJECT_LINK, INSTANCE_VARIABLES, ARRAY, HASH, HASH_DEFAULT, OBJECT, STRING, USER_DEFINED, FLOAT, BIGNUM, USER_CLASS, MINUS}
use Rattle.definition.specs.Magnitude.{fits, fewest_units, sign_byte, unit_bytes, bignum_bytes}
use Rattle.definition.specs.Dump.{byte_string_bytes}
use Rattle.definition.specs.Graph.{header_of}
use Rattle.graph.specs.Forest.{F, f_end, f_leaf, f_box, f_ref, f_sym, f_symref, f_iv, trees, OneName, one_new, one_link, Class, no_class, a_class, Mode, values, pairs, value_pairs, name_pairs, after, IsValue, Text, t_end, t_end_pairs, t_name, t_name_link, t_class, t_class_link, t_nil, t_false, t_true, t_fixnum, t_symbol, t_symbol_link, t_object_link, t_array, t_hash, t_hash_default, t_object, Texted, text_string, text_float, t_text, t_bignum, t_string_vars, t_user, t_user_vars}
use Rattle.lists.specs.Words.{length_low}
use Rattle.lists.specs.Magnitudes.{few_units, unit_bytes_say}
use Rattle.load_text.specs.Codec.{Codes, short, long, codes}
use Rattle.load_text.specs.Bignums.{sign_said}

-- every link, count and length of a byte string has 31 bits, every leaf's value 32
abbrev pub Bounded : F → Type 0
Bounded f_end = Unit {0}
Bounded (f_leaf k w r) = (w < 4294967296) × Bounded r
Bounded (f_box h p f r) = (h.count < 2147483648) × (length h.bytes < 2147483648) × Bounded p × Bounded f × Bounded r
Bounded (f_ref k r) = (k < 2147483648) × Bounded r
Bounded (f_sym m b r) = (length b < 2147483648) × Bounded r
Bounded (f_symref m k r) = (k < 2147483648) × Bounded r
Bounded (f_iv f p r) = Bounded f × Bounded p × Bounded r

-- the number of pairs that is written after a class's name
abbrev BoundedMode : Mode → Type 0
BoundedMode values = Unit {0}
BoundedMode (pairs n) = Unit {0}
BoundedMode (value_pairs n) = Unit {0}
BoundedMode (name_pairs n) = n < 2147483648

-- ---- integers and byte strings

form_int : Form → List ℕ → ℕ × List ℕ
form_int (value w) x = (w, x)
form_int (data_bytes n above) x = (little (take n x) above, drop n x)

-- an integer and the bytes after it
unfoldable int : List ℕ → ℕ × List ℕ
int [] = (0, [])
int (b ∷ x) = form_int (form b) x

unfoldable str : List ℕ → List ℕ × List ℕ
str x = (take (int x).0 (int x).1, drop (int x).0 (int x).1)

coded : {w : ℕ} {bs : List ℕ} (u : List ℕ) → Codes w bs → int (bs ++ u) ≡ (w, u)
unfolding int form_int
coded u (short b f) = rw f
coded u (long b n above bs f l e) = rw (f, take_at bs u n l, drop_at bs u n l, e)

int_back : (w : ℕ) (u : List ℕ) → w < 4294967296 → int (integer_bytes w ++ u) ≡ (w, u)
int_back w u h = coded u (codes w h)

str_back : (b u : List ℕ) → length b < 2147483648 → str (byte_string_bytes b ++ u) ≡ (b, u)
unfolding str byte_string_bytes
str_back b u h =
    let e : int (integer_bytes (length b) ++ b ++ u) ≡ (length b, b ++ u) = ap int (append_assoc (integer_bytes (length b)) b u) ∙ int_back (length b) (b ++ u) (omega arith) in
    rw (e, take_at b u (length b) refl, drop_at b u (length b) refl)

-- a count, then that many units: a magnitude
unfoldable units : List ℕ → ℕ × List ℕ
units x = (little (take ((int x).0 * 2) (int x).1) 0, drop ((int x).0 * 2) (int x).1)

units_back : (m : ℕ) (u : List ℕ) → fits m ≡ true → units (integer_bytes (fewest_units m) ++ unit_bytes m ++ u) ≡ (m, u)
unfolding units unit_bytes
units_back m u h =
    let n = fewest_units m in
    let bs = unit_bytes m in
    let e : int (integer_bytes n ++ bs ++ u) ≡ (n, bs ++ u) = ap int (append_assoc (integer_bytes n) bs u) ∙ int_back n (bs ++ u) (omega (arith, few_units m)) in
    let l = length_low (n * 2) m in
    rw (e, take_at bs u (n * 2) l, drop_at bs u (n * 2) l, unit_bytes_say m h)

-- ---- one name, and a class

-- a name or, where the byte is no symbol's, a link to one: its forest and the bytes after it
unfoldable one_by : Bool → List ℕ → F × List ℕ
one_by true x = (f_sym false (str x).0 f_end, (str x).1)
one_by false x = (f_symref false (int x).0 f_end, (int x).1)

unfoldable one : List ℕ → F × List ℕ
one [] = (f_end, [])
one (b ∷ x) = one_by (eqb b SYMBOL) x

one_back : {p : F} {z : List ℕ} → OneName p z → Bounded p → (u : List ℕ) → one (z ++ u) ≡ (p, u)
unfolding one one_by
one_back (one_new {b = b}) h u = rw (str_back b u h.0)
one_back (one_link {k = k}) h u = rw (int_back k u (omega (arith, h.0)))

-- what stands before a value's kind byte: is there a class, its forest, the bytes after it
record Front : Type 0 where
  classed : Bool
  class_name : F
  rest : List ℕ

abbrev fronted : Bool → F → List ℕ → Front
fronted c p u = record { classed = c; class_name = p; rest = u }

unfoldable front_by : Bool → ℕ → List ℕ → Front
front_by true b x = fronted true (one x).0 (one x).1
front_by false b x = fronted false f_end (b ∷ x)

unfoldable front : List ℕ → Front
front [] = fronted false f_end []
front (b ∷ x) = front_by (eqb b USER_CLASS) b x

front_back : {c : Bool} {p : F} {z : List ℕ} → Class c p z → Bounded p → (b : ℕ) (u : List ℕ) → eqb b USER_CLASS ≡ false → front (z ++ (b ∷ u)) ≡ fronted c p (b ∷ u)
unfolding front front_by
front_back no_class h b u e = rw e
front_back (a_class n) h b u e = rw (one_back n h (b ∷ u))

-- ---- the reader

-- what a kind byte begins; h-text: a byte string and nothing more, of the kind given
data Head : Type 0 where
  h_nil h-true h-false h-fixnum h-symbol h-symbol-link h-object-link h-variables h-array h_hash h-hash-default h-object h-user h-bignum h-other : Head
  h_text : ℕ → Head

unfoldable head : ℕ → Head
head b =
    pick (eqb b NIL) h_nil (pick (eqb b TRUE) h-true (pick (eqb b FALSE) h-false (pick (eqb b FIXNUM) h-fixnum
    (pick (eqb b SYMBOL) h-symbol (pick (eqb b SYMBOL_LINK) h-symbol-link (pick (eqb b OBJECT_LINK) h-object-link (pick (eqb b INSTANCE_VARIABLES) h-variables
    (pick (eqb b ARRAY) h-array (pick (eqb b HASH) h_hash (pick (eqb b HASH_DEFAULT) h-hash-default (pick (eqb b OBJECT) h-object
    (pick (eqb b STRING) (h_text 7) (pick (eqb b USER_DEFINED) h-user (pick (eqb b FLOAT) (h_text 9) (pick (eqb b BIGNUM) h-bignum h-other)))))))))))))))

-- what is to be read: a mode, where the number of values is known and that of a class's pairs is not
data Want : Type 0 where
  w_values : ℕ → Want
  w_pairs : ℕ → Want
  w_value_pairs : ℕ → Want
  w_name_pairs : Want

-- what was read: the number of a class's pairs, else 0; the forest; the bytes after it
record Got : Type 0 where
  number : ℕ
  forest : F
  rest : List ℕ

abbrev got : ℕ → F → List ℕ → Got
got n f u = record { number = n; forest = f; rest = u }

abbrev Reader : Type 0
Reader = Want → List ℕ → Got

abbrev on : (F → F) → Got → Got
on k t = got 0 (k t.forest) t.rest

-- a box's members are read; then what comes after it
abbrev boxed : Reader → Want → (Got → F → F) → Got → Got
boxed p w k t = on (k t) (p w t.rest)

abbrev user : Reader → Want → F × List ℕ → Got
user p w (q, x) = on (f_box (header_of 8 0 (str x).0 0 false false) q f_end) (p w (str x).1)

abbrev variables : Reader → Want → (ℕ → F → F → F) → List ℕ → Got
variables p w k x = boxed p w (λ t. k (int x).0 t.forest) (p (w_pairs (int x).0) (int x).1)

abbrev user_variables : Reader → Want → F × List ℕ → Got
user_variables p w (q, x) = variables p w (λ n f. f_box (header_of 8 0 (str x).0 n true false) q f) (str x).1

-- a string of the class given or, where the byte is no string's, a user-defined value, with variables
unfoldable varied : Reader → Want → Bool → F → Bool → List ℕ → Got
varied p w c q true x = variables p w (λ n f. f_box (header_of 7 0 (str x).0 n true c) q f) (str x).1
varied p w c q false x = user_variables p w (one x)

unfoldable begins : (ℕ → List ℕ → Got) → List ℕ → Got
begins k [] = got 0 f_end []
begins k (b ∷ x) = k b x

-- a class or none, then what comes behind
abbrev after_front : (Bool → F → ℕ → List ℕ → Got) → Front → Got
after_front k t = begins (k t.classed t.class_name) t.rest

-- a value of the class given, then what is wanted after it
unfoldable item : Reader → Want → Bool → F → Head → List ℕ → Got
item p w c q h_nil x = on (f_leaf 0 0) (p w x)
item p w c q h-true x = on (f_leaf 1 1) (p w x)
item p w c q h-false x = on (f_leaf 1 0) (p w x)
item p w c q h-fixnum x = on (f_leaf 2 (int x).0) (p w (int x).1)
item p w c q h-symbol x = on (f_sym true (str x).0) (p w (str x).1)
item p w c q h-symbol-link x = on (f_symref true (int x).0) (p w (int x).1)
item p w c q h-object-link x = on (f_ref (int x).0) (p w (int x).1)
item p w c q h-variables x = after_front (λ d s b. varied p w d s (eqb b STRING)) (front x)
item p w c q h-array x = boxed p w (λ t. f_box (header_of 4 0 [] (int x).0 false c) q t.forest) (p (w_values (int x).0) (int x).1)
item p w c q h_hash x = boxed p w (λ t. f_box (header_of 5 0 [] (int x).0 false c) q t.forest) (p (w_values ((int x).0 * 2)) (int x).1)
item p w c q h-hash-default x = boxed p w (λ t. f_box (header_of 5 0 [] (int x).0 true c) q t.forest) (p (w_values ((int x).0 * 2 + 1)) (int x).1)
item p w c q h-object x = boxed p w (λ t. f_box (header_of 6 0 [] t.number false false) f_end t.forest) (p w_name_pairs x)
item p w c q (h_text n) x = on (f_box (header_of n 0 (str x).0 0 false c) q f_end) (p w (str x).1)
item p w c q h-user x = user p w (one x)
item p w c q h-bignum x = begins (λ b y. on (f_box (header_of 10 (units y).0 [] 0 (eqb b MINUS) false) f_end f_end) (p w (units y).1)) x
item p w c q h-other x = got 0 f_end x

-- a name or, where the byte is no symbol's, a link to one, then what is wanted after it
unfoldable named : Reader → Want → Bool → List ℕ → Got
named p w true x = on (f_sym false (str x).0) (p w (str x).1)
named p w false x = on (f_symref false (int x).0) (p w (int x).1)

-- a class's name, the number of pairs, and the pairs
abbrev counted : Reader → (F → F) → List ℕ → Got
counted p k x = let t : Got = p (w_pairs (int x).0) (int x).1 in got (int x).0 (k t.forest) t.rest

unfoldable class : Reader → Bool → List ℕ → Got
class p true x = counted p (f_sym false (str x).0) (str x).1
class p false x = counted p (f_symref false (int x).0) (int x).1

unfoldable body : Reader → Want → List ℕ → Got
body p (w_values zero) x = got 0 f_end x
body p (w_values (suc n)) x = after_front (λ c q b. item p (w_values n) c q (head b)) (front x)
body p (w_pairs zero) x = got 0 f_end x
body p (w_pairs (suc n)) x = begins (λ b. named p (w_value_pairs n) (eqb b SYMBOL)) x
body p (w_value_pairs n) x = after_front (λ c q b. item p (w_pairs n) c q (head b)) (front x)
body p w_name_pairs x = begins (λ b. class p (eqb b SYMBOL)) x

unfoldable parse : ℕ → Reader
parse zero w x = got 0 f_end x
parse (suc l) w x = body (parse l) w x

-- ---- it reads a text

abbrev want : Mode → F → Want
want values g = w_values (trees g)
want (pairs n) g = w_pairs n
want (value_pairs n) g = w_value_pairs n
want (name_pairs n) g = w_name_pairs

abbrev num : Mode → ℕ
num values = 0
num (pairs n) = 0
num (value_pairs n) = 0
num (name_pairs n) = n

-- turns of the reader that a forest takes; what comes before a box's node takes none
abbrev need : F → ℕ
need f_end = 1
need (f_leaf k x r) = suc (need r)
need (f_box h p f r) = suc (need f + need r)
need (f_ref k r) = suc (need r)
need (f_sym m b r) = suc (need r)
need (f_symref m k r) = suc (need r)
need (f_iv f p r) = suc (need f + need p + need r)

-- with l turns the bytes x of g are read, whatever comes after them
abbrev Reads : Mode → ℕ → F → List ℕ → Type 0
Reads m l g x = (u : List ℕ) → parse l (want m g) (x ++ u) ≡ got (num m) g u

-- a value is read by its class and its head; y is its bytes
value_turn : (m : Mode) (l b : ℕ) (c : Bool) (q g r : F) (y x u : List ℕ) → IsValue m → trees g ≡ suc (trees r) → front y ≡ fronted c q (b ∷ x)
    → item (parse l) (want (after m) r) c q (head b) x ≡ got 0 g u → parse (suc l) (want m g) y ≡ got (num m) g u
unfolding parse body begins
value_turn values l b c q g r y x u v e f h = rw (e, f) h
value_turn (pairs n) l b c q g r y x u v e f h = absurd v
value_turn (value_pairs n) l b c q g r y x u v e f h = rw f h
value_turn (name_pairs n) l b c q g r y x u v e f h = absurd v

module _ (p : Reader) (w : Want) (k : ℕ) (r : F) (u : List ℕ) where
  abbrev Then : List ℕ → Type 0
  Then x = p w x ≡ got k r u

  item_nil : (x : List ℕ) → Then x → item p w false f_end (head NIL) x ≡ got 0 (f_leaf 0 0 r) u
  unfolding item head pick
  item_nil x e = rw e

  item_true : (x : List ℕ) → Then x → item p w false f_end (head TRUE) x ≡ got 0 (f_leaf 1 1 r) u
  unfolding item head pick
  item_true x e = rw e

  item_false : (x : List ℕ) → Then x → item p w false f_end (head FALSE) x ≡ got 0 (f_leaf 1 0 r) u
  unfolding item head pick
  item_false x e = rw e

  item_fixnum : (x y : List ℕ) (n : ℕ) → int x ≡ (n, y) → Then y → item p w false f_end (head FIXNUM) x ≡ got 0 (f_leaf 2 n r) u
  unfolding item head pick
  item_fixnum x y n i e = rw (i, e)

  item_symbol : (x y b : List ℕ) → str x ≡ (b, y) → Then y → item p w false f_end (head SYMBOL) x ≡ got 0 (f_sym true b r) u
  unfolding item head pick
  item_symbol x y b i e = rw (i, e)

  item_symbol_link : (x y : List ℕ) (n : ℕ) → int x ≡ (n, y) → Then y → item p w false f_end (head SYMBOL_LINK) x ≡ got 0 (f_symref true n r) u
  unfolding item head pick
  item_symbol_link x y n i e = rw (i, e)

  item_object_link : (x y : List ℕ) (n : ℕ) → int x ≡ (n, y) → Then y → item p w false f_end (head OBJECT_LINK) x ≡ got 0 (f_ref n r) u
  unfolding item head pick
  item_object_link x y n i e = rw (i, e)

  item_array : (c : Bool) (q : F) (x y z : List ℕ) (n j : ℕ) (f : F) → int x ≡ (n, y) → p (w_values n) y ≡ got j f z → Then z → item p w c q (head ARRAY) x ≡ got 0 (f_box (header_of 4 0 [] n false c) q f r) u
  unfolding item head pick
  item_array c q x y z n j f i h e = rw (i, h, e)

  item_hash : (c : Bool) (q : F) (x y z : List ℕ) (n j : ℕ) (f : F) → int x ≡ (n, y) → p (w_values (n * 2)) y ≡ got j f z → Then z → item p w c q (head HASH) x ≡ got 0 (f_box (header_of 5 0 [] n false c) q f r) u
  unfolding item head pick
  item_hash c q x y z n j f i h e = rw (i, h, e)

  item_hash_default : (c : Bool) (q : F) (x y z : List ℕ) (n j : ℕ) (f : F) → int x ≡ (n, y) → p (w_values (n * 2 + 1)) y ≡ got j f z → Then z → item p w c q (head HASH_DEFAULT) x ≡ got 0 (f_box (header_of 5 0 [] n true c) q f r) u
  unfolding item head pick
  item_hash_default c q x y z n j f i h e = rw (i, h, e)

  item_object : (x z : List ℕ) (n : ℕ) (f : F) → p w_name_pairs x ≡ got n f z → Then z → item p w false f_end (head OBJECT) x ≡ got 0 (f_box (header_of 6 0 [] n false false) f_end f r) u
  unfolding item head pick
  item_object x z n f h e = rw (h, e)

  item_text : {d n : ℕ} {c : Bool} → Texted d n c → (q : F) (x y b : List ℕ) → str x ≡ (b, y) → Then y → item p w c q (head d) x ≡ got 0 (f_box (header_of n 0 b 0 false c) q f_end r) u
  unfolding item head pick
  item_text text_string q x y b i e = rw (i, e)
  item_text text_float q x y b i e = rw (i, e)

  item_bignum : (x y : List ℕ) (n : ℕ) (minus : Bool) → units x ≡ (n, y) → Then y → item p w false f_end (head BIGNUM) (sign_byte minus ∷ x) ≡ got 0 (f_box (header_of 10 n [] 0 minus false) f_end f_end r) u
  unfolding item head pick begins
  item_bignum x y n minus i e = rw (i, sign_said minus, e)

  item_string_variables : (c : Bool) (q : F) (x' x y z a b : List ℕ) (n j : ℕ) (f : F) → front x' ≡ fronted c q (STRING ∷ x) → str x ≡ (b, y) → int y ≡ (n, z) → p (w_pairs n) z ≡ got j f a → Then a
      → item p w false f_end (head INSTANCE_VARIABLES) x' ≡ got 0 (f_box (header_of 7 0 b n true c) q f r) u
  unfolding item head pick begins varied
  item_string_variables c q x' x y z a b n j f o s i h e = rw (o, s, i, h, e)

  item_user : (x y z b : List ℕ) (c : F) → one x ≡ (c, y) → str y ≡ (b, z) → Then z → item p w false f_end (head USER_DEFINED) x ≡ got 0 (f_box (header_of 8 0 b 0 false false) c f_end r) u
  unfolding item head pick
  item_user x y z b c h s e = rw (h, s, e)

  item_user_variables : (x y z a q b : List ℕ) (n j : ℕ) (c f : F) → one x ≡ (c, y) → str y ≡ (b, z) → int z ≡ (n, a) → p (w_pairs n) a ≡ got j f q → Then q
      → item p w false f_end (head INSTANCE_VARIABLES) (USER_DEFINED ∷ x) ≡ got 0 (f_box (header_of 8 0 b n true false) c f r) u
  unfolding item head pick begins varied front front_by
  item_user_variables x y z a q b n j c f g s o h e = rw (g, s, o, h, e)

-- ---- parts of a text

three : (a b c d : List ℕ) → a ++ b ++ c ++ d ≡ a ++ (b ++ (c ++ d))
three a b c d = append_assoc (a ++ b) c d ∙ append_assoc a b (c ++ d)

four : (a b c d e : List ℕ) → a ++ b ++ c ++ d ++ e ≡ a ++ (b ++ (c ++ (d ++ e)))
four a b c d e = append_assoc (a ++ b ++ c) d e ∙ three a b c (d ++ e)

five : (a b c d e f : List ℕ) → a ++ b ++ c ++ d ++ e ++ f ≡ a ++ (b ++ (c ++ (d ++ (e ++ f))))
five a b c d e f = append_assoc (a ++ b ++ c ++ d) e f ∙ four a b c d (e ++ f)

-- bytes that begin with an integer, or with a byte string
int_of : (n : ℕ) (x y : List ℕ) → n < 4294967296 → x ≡ integer_bytes n ++ y → int x ≡ (n, y)
int_of n x y h e = ap int e ∙ int_back n y h

str_of : (b x y : List ℕ) → length b < 2147483648 → x ≡ byte_string_bytes b ++ y → str x ≡ (b, y)
str_of b x y h e = ap str e ∙ str_back b y h

-- ---- constructor by constructor

module _ (l : ℕ) where
  module _ (m : Mode) (v : IsValue m) (r : F) (x : List ℕ) (h : Reads (after m) l r x) where
    -- a value's turn, by its item: after a class or none, which q tells; and without one
    class_turn : {c : Bool} {q : F} {z : List ℕ} → Class c q z → Bounded q → (b : ℕ) (g : F) (x y u : List ℕ) → eqb b USER_CLASS ≡ false → x ≡ z ++ (b ∷ y) → trees g ≡ suc (trees r)
        → item (parse l) (want (after m) r) c q (head b) y ≡ got 0 g u → parse (suc l) (want m g) x ≡ got (num m) g u
    class_turn {c} {q} cl bd b g x y u o e t i = value_turn m l b c q g r x y u v t (ap front e ∙ front_back cl bd b y o) i

    turn : (b : ℕ) (g : F) (y u : List ℕ) → eqb b USER_CLASS ≡ false → trees g ≡ suc (trees r) → item (parse l) (want (after m) r) false f_end (head b) y ≡ got 0 g u → parse (suc l) (want m g) (b ∷ y) ≡ got (num m) g u
    turn b g y u o e i = class_turn no_class tt b g (b ∷ y) y u o refl e i

    abbrev w : Want
    w = want (after m) r

    abbrev k : ℕ
    k = num (after m)

    reads_nil : Reads m (suc l) (f_leaf 0 0 r) (NIL ∷ x)
    reads_nil u = turn NIL (f_leaf 0 0 r) (x ++ u) u refl refl (item_nil (parse l) w k r u (x ++ u) (h u))

    reads_false : Reads m (suc l) (f_leaf 1 0 r) (FALSE ∷ x)
    reads_false u = turn FALSE (f_leaf 1 0 r) (x ++ u) u refl refl (item_false (parse l) w k r u (x ++ u) (h u))

    reads_true : Reads m (suc l) (f_leaf 1 1 r) (TRUE ∷ x)
    reads_true u = turn TRUE (f_leaf 1 1 r) (x ++ u) u refl refl (item_true (parse l) w k r u (x ++ u) (h u))

    reads_fixnum : (n : ℕ) → n < 4294967296 → Reads m (suc l) (f_leaf 2 n r) (FIXNUM ∷ integer_bytes n ++ x)
    reads_fixnum n o u =
        let y = integer_bytes n ++ x ++ u in
        turn FIXNUM (f_leaf 2 n r) y u refl refl (item_fixnum (parse l) w k r u y (x ++ u) n (int_of n y (x ++ u) o (append_assoc (integer_bytes n) x u)) (h u))

    reads_symbol : (b : List ℕ) → length b < 2147483648 → Reads m (suc l) (f_sym true b r) (SYMBOL ∷ byte_string_bytes b ++ x)
    reads_symbol b o u =
        let y = byte_string_bytes b ++ x ++ u in
        turn SYMBOL (f_sym true b r) y u refl refl (item_symbol (parse l) w k r u y (x ++ u) b (str_of b y (x ++ u) o (append_assoc (byte_string_bytes b) x u)) (h u))

    reads_symbol_link : (n : ℕ) → n < 2147483648 → Reads m (suc l) (f_symref true n r) (SYMBOL_LINK ∷ integer_bytes n ++ x)
    reads_symbol_link n o u =
        let y = integer_bytes n ++ x ++ u in
        turn SYMBOL_LINK (f_symref true n r) y u refl refl (item_symbol_link (parse l) w k r u y (x ++ u) n (int_of n y (x ++ u) (omega arith) (append_assoc (integer_bytes n) x u)) (h u))

    reads_object_link : (n : ℕ) → n < 2147483648 → Reads m (suc l) (f_ref n r) (OBJECT_LINK ∷ integer_bytes n ++ x)
    reads_object_link n o u =
        let y = integer_bytes n ++ x ++ u in
        turn OBJECT_LINK (f_ref n r) y u refl refl (item_object_link (parse l) w k r u y (x ++ u) n (int_of n y (x ++ u) (omega arith) (append_assoc (integer_bytes n) x u)) (h u))

    reads_array : {c : Bool} {q : F} {d : List ℕ} → Class c q d → Bounded q → (n : ℕ) (f : F) (y : List ℕ) → n < 2147483648 → trees f ≡ n → Reads values l f y
        → Reads m (suc l) (f_box (header_of 4 0 [] n false c) q f r) (d ++ (ARRAY ∷ integer_bytes n ++ y ++ x))
    reads_array {c} {q} {d} cl bd n f y o e t u =
        let z = integer_bytes n ++ y ++ x ++ u in
        let p : parse l (w_values (n)) (y ++ (x ++ u)) ≡ got 0 f (x ++ u) = rw (← e) (t (x ++ u)) in
        class_turn cl bd ARRAY _ _ z u refl (append_assoc d _ u) refl (item_array (parse l) w k r u c q z (y ++ (x ++ u)) (x ++ u) n 0 f (int_of n z (y ++ (x ++ u)) (omega arith) (three (integer_bytes n) y x u)) p (h u))

    reads_hash : {c : Bool} {q : F} {d : List ℕ} → Class c q d → Bounded q → (n : ℕ) (f : F) (y : List ℕ) → n < 2147483648 → trees f ≡ n * 2 → Reads values l f y
        → Reads m (suc l) (f_box (header_of 5 0 [] n false c) q f r) (d ++ (HASH ∷ integer_bytes n ++ y ++ x))
    reads_hash {c} {q} {d} cl bd n f y o e t u =
        let z = integer_bytes n ++ y ++ x ++ u in
        let p : parse l (w_values (n * 2)) (y ++ (x ++ u)) ≡ got 0 f (x ++ u) = rw (← e) (t (x ++ u)) in
        class_turn cl bd HASH _ _ z u refl (append_assoc d _ u) refl (item_hash (parse l) w k r u c q z (y ++ (x ++ u)) (x ++ u) n 0 f (int_of n z (y ++ (x ++ u)) (omega arith) (three (integer_bytes n) y x u)) p (h u))

    reads_hash_default : {c : Bool} {q : F} {d : List ℕ} → Class c q d → Bounded q → (n : ℕ) (f : F) (y : List ℕ) → n < 2147483648 → trees f ≡ n * 2 + 1 → Reads values l f y
        → Reads m (suc l) (f_box (header_of 5 0 [] n true c) q f r) (d ++ (HASH_DEFAULT ∷ integer_bytes n ++ y ++ x))
    reads_hash_default {c} {q} {d} cl bd n f y o e t u =
        let z = integer_bytes n ++ y ++ x ++ u in
        let p : parse l (w_values (n * 2 + 1)) (y ++ (x ++ u)) ≡ got 0 f (x ++ u) = rw (← e) (t (x ++ u)) in
        class_turn cl bd HASH_DEFAULT _ _ z u refl (append_assoc d _ u) refl (item_hash_default (parse l) w k r u c q z (y ++ (x ++ u)) (x ++ u) n 0 f (int_of n z (y ++ (x ++ u)) (omega arith) (three (integer_bytes n) y x u)) p (h u))

    reads_object : (n : ℕ) (f : F) (y : List ℕ) → Reads (name_pairs n) l f y → Reads m (suc l) (f_box (header_of 6 0 [] n false false) f_end f r) (OBJECT ∷ y ++ x)
    reads_object n f y t u =
        turn OBJECT _ (y ++ x ++ u) u refl refl (item_object (parse l) w k r u (y ++ x ++ u) (x ++ u) n f (ap (parse l w_name_pairs) (append_assoc y x u) ∙ t (x ++ u)) (h u))

    reads_text : {i n : ℕ} {c : Bool} {q : F} {d : List ℕ} → Texted i n c → eqb i USER_CLASS ≡ false → Class c q d → Bounded q → (b : List ℕ) → length b < 2147483648
        → Reads m (suc l) (f_box (header_of n 0 b 0 false c) q f_end r) (d ++ (i ∷ byte_string_bytes b ++ x))
    reads_text {i} {q = q} {d = d} s e cl bd b o u =
        let y = byte_string_bytes b ++ x ++ u in
        class_turn cl bd i _ _ y u e (append_assoc d _ u) refl (item_text (parse l) w k r u s q y (x ++ u) b (str_of b y (x ++ u) o (append_assoc (byte_string_bytes b) x u)) (h u))

    reads_bignum : (n : ℕ) (minus : Bool) → fits n ≡ true → Reads m (suc l) (f_box (header_of 10 n [] 0 minus false) f_end f_end r) (BIGNUM ∷ bignum_bytes minus n ++ x)
    unfolding bignum_bytes
    reads_bignum n minus o u =
        let c = integer_bytes (fewest_units n) in
        turn BIGNUM _ (sign_byte minus ∷ (c ++ unit_bytes n ++ x ++ u)) u refl refl
        (item_bignum (parse l) w k r u _ (x ++ u) n minus (ap units (append_assoc (c ++ unit_bytes n) x u) ∙ units_back n (x ++ u) o) (h u))

    reads_string_variables : {c : Bool} {q : F} {d : List ℕ} → Class c q d → Bounded q → (n : ℕ) (b : List ℕ) (f : F) (y : List ℕ) → n < 2147483648 → length b < 2147483648 → Reads (pairs n) l f y
        → Reads m (suc l) (f_box (header_of 7 0 b n true c) q f r) (INSTANCE_VARIABLES ∷ d ++ (STRING ∷ byte_string_bytes b ++ integer_bytes n ++ y ++ x))
    reads_string_variables {c} {q} {d} cl bd n b f y o j t u =
        let z = byte_string_bytes b ++ integer_bytes n ++ y ++ x ++ u in
        let a = y ++ (x ++ u) in
        turn INSTANCE_VARIABLES _ _ u refl refl
        (item_string_variables (parse l) w k r u c q _ z (integer_bytes n ++ a) a (x ++ u) b n 0 f (ap front (append_assoc d _ u) ∙ front_back cl bd STRING z refl)
        (str_of b z (integer_bytes n ++ a) j (four (byte_string_bytes b) (integer_bytes n) y x u)) (int_back n a (omega arith)) (t (x ++ u)) (h u))

    reads_user : (b : List ℕ) (c : F) (z : List ℕ) → length b < 2147483648 → OneName c z → Bounded c → Reads m (suc l) (f_box (header_of 8 0 b 0 false false) c f_end r) (USER_DEFINED ∷ z ++ byte_string_bytes b ++ x)
    reads_user b c z q s bd u =
        let y = byte_string_bytes b ++ (x ++ u) in
        turn USER_DEFINED _ (z ++ byte_string_bytes b ++ x ++ u) u refl refl
        (item_user (parse l) w k r u _ y (x ++ u) b c (ap one (three z (byte_string_bytes b) x u) ∙ one_back s bd y) (str_back b (x ++ u) q) (h u))

    reads_user_variables : (n : ℕ) (b : List ℕ) (c f : F) (z y : List ℕ) → n < 2147483648 → length b < 2147483648 → OneName c z → Bounded c → Reads (pairs n) l f y
        → Reads m (suc l) (f_box (header_of 8 0 b n true false) c f r) (INSTANCE_VARIABLES ∷ USER_DEFINED ∷ z ++ byte_string_bytes b ++ integer_bytes n ++ y ++ x)
    reads_user_variables n b c f z y o q i bd s u =
        let a = y ++ (x ++ u) in
        let d = byte_string_bytes b ++ (integer_bytes n ++ a) in
        turn INSTANCE_VARIABLES _ (USER_DEFINED ∷ (z ++ byte_string_bytes b ++ integer_bytes n ++ y ++ x ++ u)) u refl refl
        (item_user_variables (parse l) w k r u _ d (integer_bytes n ++ a) a (x ++ u) b n 0 c f
        (ap one (five z (byte_string_bytes b) (integer_bytes n) y x u) ∙ one_back i bd d) (str_back b (integer_bytes n ++ a) q) (int_back n a (omega arith)) (s (x ++ u)) (h u))

  -- ---- names

  name_turn : (t : Want) (k : ℕ) (r : F) (b x y u : List ℕ) → str x ≡ (b, y) → parse l t y ≡ got k r u → named (parse l) t (eqb SYMBOL SYMBOL) x ≡ got 0 (f_sym false b r) u
  unfolding named
  name_turn t k r b x y u s e = rw (s, e)

  name_link_turn : (t : Want) (k : ℕ) (r : F) (n : ℕ) (x y u : List ℕ) → int x ≡ (n, y) → parse l t y ≡ got k r u → named (parse l) t (eqb SYMBOL_LINK SYMBOL) x ≡ got 0 (f_symref false n r) u
  unfolding named
  name_link_turn t k r n x y u s e = rw (s, e)

  reads_name : (n : ℕ) (b x : List ℕ) (r : F) → length b < 2147483648 → Reads (value_pairs n) l r x → Reads (pairs (suc n)) (suc l) (f_sym false b r) (SYMBOL ∷ byte_string_bytes b ++ x)
  unfolding parse body begins
  reads_name n b x r o h u = name_turn (w_value_pairs n) 0 r b _ (x ++ u) u (str_of b _ (x ++ u) o (append_assoc (byte_string_bytes b) x u)) (h u)

  reads_name_link : (n j : ℕ) (x : List ℕ) (r : F) → j < 2147483648 → Reads (value_pairs n) l r x → Reads (pairs (suc n)) (suc l) (f_symref false j r) (SYMBOL_LINK ∷ integer_bytes j ++ x)
  unfolding parse body begins
  reads_name_link n j x r o h u = name_link_turn (w_value_pairs n) 0 r j _ (x ++ u) u (int_of j _ (x ++ u) (omega arith) (append_assoc (integer_bytes j) x u)) (h u)

  object_turn : (r : F) (n : ℕ) (b x y z u : List ℕ) → str x ≡ (b, y) → int y ≡ (n, z) → parse l (w_pairs n) z ≡ got 0 r u → class (parse l) (eqb SYMBOL SYMBOL) x ≡ got n (f_sym false b r) u
  unfolding class
  object_turn r n b x y z u s i e = rw (s, i, e)

  object_link_turn : (r : F) (n j : ℕ) (x y z u : List ℕ) → int x ≡ (j, y) → int y ≡ (n, z) → parse l (w_pairs n) z ≡ got 0 r u → class (parse l) (eqb SYMBOL_LINK SYMBOL) x ≡ got n (f_symref false j r) u
  unfolding class
  object_link_turn r n j x y z u s i e = rw (s, i, e)

  reads_class : (n : ℕ) (b x : List ℕ) (r : F) → n < 2147483648 → length b < 2147483648 → Reads (pairs n) l r x → Reads (name_pairs n) (suc l) (f_sym false b r) (SYMBOL ∷ byte_string_bytes b ++ integer_bytes n ++ x)
  unfolding parse body begins
  reads_class n b x r o q h u =
      object_turn r n b _ (integer_bytes n ++ (x ++ u)) (x ++ u) u (str_of b _ (integer_bytes n ++ (x ++ u)) q (three (byte_string_bytes b) (integer_bytes n) x u)) (int_back n (x ++ u) (omega arith)) (h u)

  reads_class_link : (n j : ℕ) (x : List ℕ) (r : F) → n < 2147483648 → j < 2147483648 → Reads (pairs n) l r x → Reads (name_pairs n) (suc l) (f_symref false j r) (SYMBOL_LINK ∷ integer_bytes j ++ integer_bytes n ++ x)
  unfolding parse body begins
  reads_class_link n j x r o q h u =
      object_link_turn r n j _ (integer_bytes n ++ (x ++ u)) (x ++ u) u (int_of j _ (integer_bytes n ++ (x ++ u)) (omega arith) (three (integer_bytes j) (integer_bytes n) x u)) (int_back n (x ++ u) (omega arith)) (h u)

  reads_end : Reads values (suc l) f_end []
  unfolding parse body
  reads_end u = refl

  reads_end_pairs : Reads (pairs 0) (suc l) f_end []
  unfolding parse body
  reads_end_pairs u = refl

-- ---- every text is read

need_some : (g : F) → 1 ≤ need g
need_some f_end = omega arith
need_some (f_leaf k x r) = omega arith
need_some (f_box h p f r) = omega arith
need_some (f_ref k r) = omega arith
need_some (f_sym m b r) = omega arith
need_some (f_symref m k r) = omega arith
need_some (f_iv f p r) = omega arith

after_bounded : (m : Mode) → IsValue m → BoundedMode (after m)
after_bounded values v = tt
after_bounded (pairs n) v = tt
after_bounded (value_pairs n) v = tt
after_bounded (name_pairs n) v = absurd v

no_class_byte : {i n : ℕ} {c : Bool} → Texted i n c → eqb i USER_CLASS ≡ false
no_class_byte text_string = refl
no_class_byte text_float = refl

no_turn : {C : Type 0} (g : F) → need g ≤ 0 → C
no_turn g h = absurd (omega (arith, need_some g))

reads : (l : ℕ) {m : Mode} {lv : ℕ} {g : F} {x : List ℕ} → need g ≤ l → BoundedMode m → Bounded g → Text m lv g x → Reads m l g x
reads zero {g = g} o c b t = no_turn g o
reads (suc l) o c b t_end = reads_end l
reads (suc l) o c b t_end_pairs = reads_end_pairs l
reads (suc l) o c b (t_name {n = n} {b = s} {x = x} {r = r} t) = reads_name l n s x r b.0 (reads l (omega arith) tt b.1 t)
reads (suc l) o c b (t_name_link {n = n} {k = k} {x = x} {r = r} t) = reads_name_link l n k x r b.0 (reads l (omega arith) tt b.1 t)
reads (suc l) o c b (t_class {n = n} {b = s} {x = x} {r = r} t) = reads_class l n s x r c b.0 (reads l (omega arith) tt b.1 t)
reads (suc l) o c b (t_class_link {n = n} {k = k} {x = x} {r = r} t) = reads_class_link l n k x r c b.0 (reads l (omega arith) tt b.1 t)
reads (suc l) o c b (t_nil {m = m} {x = x} {r = r} v t) = reads_nil l m v r x (reads l (omega arith) (after_bounded m v) b.1 t)
reads (suc l) o c b (t_false {m = m} {x = x} {r = r} v t) = reads_false l m v r x (reads l (omega arith) (after_bounded m v) b.1 t)
reads (suc l) o c b (t_true {m = m} {x = x} {r = r} v t) = reads_true l m v r x (reads l (omega arith) (after_bounded m v) b.1 t)
reads (suc l) o c b (t_fixnum {m = m} {w = w} {x = x} {r = r} v h t) = reads_fixnum l m v r x (reads l (omega arith) (after_bounded m v) b.1 t) w h
reads (suc l) o c b (t_symbol {m = m} {b = s} {x = x} {r = r} v t) = reads_symbol l m v r x (reads l (omega arith) (after_bounded m v) b.1 t) s b.0
reads (suc l) o c b (t_symbol_link {m = m} {k = k} {x = x} {r = r} v t) = reads_symbol_link l m v r x (reads l (omega arith) (after_bounded m v) b.1 t) k b.0
reads (suc l) o c b (t_object_link {m = m} {k = k} {x = x} {r = r} v t) = reads_object_link l m v r x (reads l (omega arith) (after_bounded m v) b.1 t) k b.0
reads (suc l) o c b (t_array {m = m} {n = n} {x = x} {y = y} {f = f} {r = r} v cl e s t) =
    reads_array l m v r x (reads l (omega arith) (after_bounded m v) b.4 t) cl b.2 n f y b.0 e (reads l (omega arith) tt b.3 s)
reads (suc l) o c b (t_hash {m = m} {n = n} {x = x} {y = y} {f = f} {r = r} v cl e s t) =
    reads_hash l m v r x (reads l (omega arith) (after_bounded m v) b.4 t) cl b.2 n f y b.0 e (reads l (omega arith) tt b.3 s)
reads (suc l) o c b (t_hash_default {m = m} {n = n} {x = x} {y = y} {f = f} {r = r} v cl e s t) =
    reads_hash_default l m v r x (reads l (omega arith) (after_bounded m v) b.4 t) cl b.2 n f y b.0 e (reads l (omega arith) tt b.3 s)
reads (suc l) o c b (t_object {m = m} {n = n} {x = x} {y = y} {f = f} {r = r} v s t) =
    reads_object l m v r x (reads l (omega arith) (after_bounded m v) b.4 t) n f y (reads l (omega arith) b.0 b.3 s)
reads (suc l) o c b (t_text {m = m} {b = s} {x = x} {r = r} q v cl t) = reads_text l m v r x (reads l (omega arith) (after_bounded m v) b.4 t) q (no_class_byte q) cl b.2 s b.1
reads (suc l) o c b (t_bignum {m = m} {n = n} {minus = minus} {x = x} {r = r} v q t) = reads_bignum l m v r x (reads l (omega arith) (after_bounded m v) b.4 t) n minus q.0
reads (suc l) o c b (t_string_vars {m = m} {n = n} {b = a} {x = x} {y = y} {f = f} {r = r} v cl s t) =
    reads_string_variables l m v r x (reads l (omega arith) (after_bounded m v) b.4 t) cl b.2 n a f y b.0 b.1 (reads l (omega arith) tt b.3 s)
reads (suc l) o c b (t_user {m = m} {b = a} {x = x} {z = z} {p = p} {r = r} v s t) =
    reads_user l m v r x (reads l (omega arith) (after_bounded m v) b.4 t) a p z b.1 s b.2
reads (suc l) o c b (t_user_vars {m = m} {n = n} {b = a} {x = x} {y = y} {z = z} {p = p} {f = f} {r = r} v q s t) =
    reads_user_variables l m v r x (reads l (omega arith) (after_bounded m v) b.4 t) n a p f z y b.0 b.1 q b.2 (reads l (omega arith) tt b.3 s)

-- ---- print is injective

same_want : (m : Mode) (g f : F) → trees g ≡ trees f → want m g ≡ want m f
same_want values g f e = ap w_values e
same_want (pairs n) g f e = refl
same_want (value_pairs n) g f e = refl
same_want (name_pairs n) g f e = refl

bounded_injective : (m : Mode) (l k : ℕ) (g f : F) (x y u v : List ℕ) → Text m l g x → Text m k f y → BoundedMode m → Bounded g → Bounded f → trees g ≡ trees f → x ++ u ≡ y ++ v → (g ≡ f) × (u ≡ v)
bounded_injective m l k g f x y u v s t c a b e z =
    let o = need g + need f in
    let p : parse o (want m g) (x ++ u) ≡ got (num m) g u = reads o (omega arith) c a s u in
    let q : parse o (want m f) (y ++ v) ≡ got (num m) f v = reads o (omega arith) c b t v in
    let h : got (num m) g u ≡ got (num m) f v = sym p ∙ ap (λ (w : Want). parse o w (x ++ u)) (same_want m g f e) ∙ ap (parse o (want m f)) z ∙ q in
    (ap (λ (d : Got). d.forest) h, ap (λ (d : Got). d.rest) h)

-- a class's number of pairs is the mode's: it is the same in both texts, whether it has 31 bits or not

cancel : (a x y : List ℕ) → a ++ x ≡ a ++ y → x ≡ y
cancel a x y e = sym (drop-append_seam a x) ∙ ap (drop (length a)) e ∙ drop-append_seam a y

first_apart : {C : Type 0} (a b : ℕ) (x y : List ℕ) → (a ≡ b → ⊥) → ◌≡◌ {A = List ℕ} (a ∷ x) (b ∷ y) → C
first_apart a b x y n e = absurd (n (cc))

after_first : (a : ℕ) (x y : List ℕ) → ◌≡◌ {A = List ℕ} (a ∷ x) (a ∷ y) → x ≡ y
after_first a x y e = cc

module _ (n l k : ℕ) (r q : F) (x y u v : List ℕ) (s : Text (pairs n) l r x) (t : Text (pairs n) k q y) (a : Bounded r) (b : Bounded q) (e : trees r ≡ trees q) where
  -- the pairs after the number
  class_pairs : integer_bytes n ++ (x ++ u) ≡ integer_bytes n ++ (y ++ v) → (r ≡ q) × (u ≡ v)
  class_pairs z = bounded_injective (pairs n) l k r q x y u v s t tt a b e (cancel (integer_bytes n) (x ++ u) (y ++ v) z)

  class_names : (i j : List ℕ) → length i < 2147483648 → length j < 2147483648 → SYMBOL ∷ byte_string_bytes i ++ integer_bytes n ++ x ++ u ≡ SYMBOL ∷ byte_string_bytes j ++ integer_bytes n ++ y ++ v
      → (f_sym false i r ≡ f_sym false j q) × (u ≡ v)
  class_names i j c d z =
      let i' = integer_bytes n ++ (x ++ u) in
      let j' = integer_bytes n ++ (y ++ v) in
      let h : ◌≡◌ {A = List ℕ × List ℕ} (i, i') (j, j') = sym (str_of i _ i' c (three (byte_string_bytes i) (integer_bytes n) x u)) ∙ ap str (after_first SYMBOL _ _ z) ∙ str_of j _ j' d (three (byte_string_bytes j) (integer_bytes n) y v) in
      let (g, w) = class_pairs (ap (λ (o : List ℕ × List ℕ). o.1) h) in
      let f : i ≡ j = ap (λ (o : List ℕ × List ℕ). o.0) h in
      (rw (f, g), w)

  class_links : (i j : ℕ) → i < 2147483648 → j < 2147483648 → SYMBOL_LINK ∷ integer_bytes i ++ integer_bytes n ++ x ++ u ≡ SYMBOL_LINK ∷ integer_bytes j ++ integer_bytes n ++ y ++ v
      → (f_symref false i r ≡ f_symref false j q) × (u ≡ v)
  class_links i j c d z =
      let i' = integer_bytes n ++ (x ++ u) in
      let j' = integer_bytes n ++ (y ++ v) in
      let h : ◌≡◌ {A = ℕ × List ℕ} (i, i') (j, j') = sym (int_of i _ i' (omega arith) (three (integer_bytes i) (integer_bytes n) x u)) ∙ ap int (after_first SYMBOL_LINK _ _ z) ∙ int_of j _ j' (omega arith) (three (integer_bytes j) (integer_bytes n) y v) in
      let (g, w) = class_pairs (ap (λ (o : ℕ × List ℕ). o.1) h) in
      let f : i ≡ j = ap (λ (o : ℕ × List ℕ). o.0) h in
      (rw (f, g), w)

class_injective : {n l k : ℕ} {g f : F} {x y : List ℕ} (u v : List ℕ) → Text (name_pairs n) l g x → Text (name_pairs n) k f y → Bounded g → Bounded f → trees g ≡ trees f → x ++ u ≡ y ++ v → (g ≡ f) × (u ≡ v)
class_injective {n = n} {l = l} {k = k} u v (t_class {b = i} {x = x} {r = r} s) (t_class {b = j} {x = y} {r = q} t) a b e z = class_names n l k r q x y u v s t a.1 b.1 (omega arith) i j a.0 b.0 z
class_injective u v (t_class s) (t_class_link t) a b e z = first_apart SYMBOL SYMBOL_LINK _ _ (λ h. omega arith) z
class_injective u v (t_class_link s) (t_class t) a b e z = first_apart SYMBOL_LINK SYMBOL _ _ (λ h. omega arith) z
class_injective {n = n} {l = l} {k = k} u v (t_class_link {k = i} {x = x} {r = r} s) (t_class_link {k = j} {x = y} {r = q} t) a b e z = class_links n l k r q x y u v s t a.1 b.1 (omega arith) i j a.0 b.0 z
class_injective {n = n} {l = l} u v (t_class {b = i} {x = x} {r = r} s) (t_nil x56 _) a b e z = elim x56 [ ]
class_injective {n = n} {l = l} u v (t_class {b = i} {x = x} {r = r} s) (t_false x57 _) a b e z = elim x57 [ ]
class_injective {n = n} {l = l} u v (t_class {b = i} {x = x} {r = r} s) (t_true x58 _) a b e z = elim x58 [ ]
class_injective {n = n} {l = l} u v (t_class {b = i} {x = x} {r = r} s) (t_fixnum x63 _ _) a b e z = elim x63 [ ]
class_injective {n = n} {l = l} u v (t_class {b = i} {x = x} {r = r} s) (t_symbol x60 _) a b e z = elim x60 [ ]
class_injective {n = n} {l = l} u v (t_class {b = i} {x = x} {r = r} s) (t_symbol_link x61 _) a b e z = elim x61 [ ]
class_injective {n = n} {l = l} u v (t_class {b = i} {x = x} {r = r} s) (t_object_link x62 _) a b e z = elim x62 [ ]
class_injective {n = n} {l = l} u v (t_class {b = i} {x = x} {r = r} s) (t_array {c = c} {y = y} {p = p} {f = f} x75 _ _ _ _) a b e z = elim x75 [ ]
class_injective {n = n} {l = l} u v (t_class {b = i} {x = x} {r = r} s) (t_hash {c = c} {y = y} {p = p} {f = f} x76 _ _ _ _) a b e z = elim x76 [ ]
class_injective {n = n} {l = l} u v (t_class {b = i} {x = x} {r = r} s) (t_hash_default {c = c} {y = y} {p = p} {f = f} x77 _ _ _ _) a b e z = elim x77 [ ]
class_injective {n = n} {l = l} u v (t_class {b = i} {x = x} {r = r} s) (t_object {y = y} {f = f} x70 _ _) a b e z = elim x70 [ ]
class_injective {n = n} {l = l} u v (t_class {b = i} {x = x} {r = r} s) (t_text {c = c} {p = p} _ x76 _ _) a b e z = elim x76 [ ]
class_injective {n = n} {l = l} u v (t_class {b = i} {x = x} {r = r} s) (t_bignum {minus = minus} x72 _ _) a b e z = elim x72 [ ]
class_injective {n = n} {l = l} u v (t_class {b = i} {x = x} {r = r} s) (t_string_vars {c = c} {y = y} {p = p} {f = f} x77 _ _ _) a b e z = elim x77 [ ]
class_injective {n = n} {l = l} u v (t_class {b = i} {x = x} {r = r} s) (t_user {p = p} x74 _ _) a b e z = elim x74 [ ]
class_injective {n = n} {l = l} u v (t_class {b = i} {x = x} {r = r} s) (t_user_vars {y = y} {p = p} {f = f} x79 _ _ _) a b e z = elim x79 [ ]
class_injective {n = n} {l = l} u v (t_class_link {k = i} {x = x} {r = r} s) (t_nil x33 _) a b e z = elim x33 [ ]
class_injective {n = n} {l = l} u v (t_class_link {k = i} {x = x} {r = r} s) (t_false x34 _) a b e z = elim x34 [ ]
class_injective {n = n} {l = l} u v (t_class_link {k = i} {x = x} {r = r} s) (t_true x35 _) a b e z = elim x35 [ ]
class_injective {n = n} {l = l} u v (t_class_link {k = i} {x = x} {r = r} s) (t_fixnum x40 _ _) a b e z = elim x40 [ ]
class_injective {n = n} {l = l} u v (t_class_link {k = i} {x = x} {r = r} s) (t_symbol x37 _) a b e z = elim x37 [ ]
class_injective {n = n} {l = l} u v (t_class_link {k = i} {x = x} {r = r} s) (t_symbol_link x38 _) a b e z = elim x38 [ ]
class_injective {n = n} {l = l} u v (t_class_link {k = i} {x = x} {r = r} s) (t_object_link x39 _) a b e z = elim x39 [ ]
class_injective {n = n} {l = l} u v (t_class_link {k = i} {x = x} {r = r} s) (t_array {c = c} {y = y} {p = p} {f = f} x52 _ _ _ _) a b e z = elim x52 [ ]
class_injective {n = n} {l = l} u v (t_class_link {k = i} {x = x} {r = r} s) (t_hash {c = c} {y = y} {p = p} {f = f} x53 _ _ _ _) a b e z = elim x53 [ ]
class_injective {n = n} {l = l} u v (t_class_link {k = i} {x = x} {r = r} s) (t_hash_default {c = c} {y = y} {p = p} {f = f} x54 _ _ _ _) a b e z = elim x54 [ ]
class_injective {n = n} {l = l} u v (t_class_link {k = i} {x = x} {r = r} s) (t_object {y = y} {f = f} x47 _ _) a b e z = elim x47 [ ]
class_injective {n = n} {l = l} u v (t_class_link {k = i} {x = x} {r = r} s) (t_text {c = c} {p = p} _ x53 _ _) a b e z = elim x53 [ ]
class_injective {n = n} {l = l} u v (t_class_link {k = i} {x = x} {r = r} s) (t_bignum {minus = minus} x49 _ _) a b e z = elim x49 [ ]
class_injective {n = n} {l = l} u v (t_class_link {k = i} {x = x} {r = r} s) (t_string_vars {c = c} {y = y} {p = p} {f = f} x54 _ _ _) a b e z = elim x54 [ ]
class_injective {n = n} {l = l} u v (t_class_link {k = i} {x = x} {r = r} s) (t_user {p = p} x74 _ _) a b e z = elim x74 [ ]
class_injective {n = n} {l = l} u v (t_class_link {k = i} {x = x} {r = r} s) (t_user_vars {y = y} {p = p} {f = f} x79 _ _ _) a b e z = elim x79 [ ]
class_injective {n = n} {k = k} {f = f} {y = y} u v (t_nil {l = l} {r = r} x26 _) _ a b e z = elim x26 [ ]
class_injective {n = n} {k = k} {f = f} {y = y} u v (t_false {l = l} {r = r} x27 _) _ a b e z = elim x27 [ ]
class_injective {n = n} {k = k} {f = f} {y = y} u v (t_true {l = l} {r = r} x28 _) _ a b e z = elim x28 [ ]
class_injective {n = n} {k = k} {f = f} {y = y} u v (t_fixnum {l = l} {r = r} x33 _ _) _ a b e z = elim x33 [ ]
class_injective {n = n} {k = k} {f = f} {y = y} u v (t_symbol {l = l} {r = r} x30 _) _ a b e z = elim x30 [ ]
class_injective {n = n} {k = k} {f = f} {y = y} u v (t_symbol_link {l = l} {r = r} x31 _) _ a b e z = elim x31 [ ]
class_injective {n = n} {k = k} {f = f} {y = y} u v (t_object_link {l = l} {r = r} x32 _) _ a b e z = elim x32 [ ]
class_injective {n = n} {k = k} u v (t_array {l = l} {c = c} {y = y} {p = p} {f = f} {r = r} x45 _ _ _ _) _ a b e z = elim x45 [ ]
class_injective {n = n} {k = k} u v (t_hash {l = l} {c = c} {y = y} {p = p} {f = f} {r = r} x46 _ _ _ _) _ a b e z = elim x46 [ ]
class_injective {n = n} {k = k} u v (t_hash_default {l = l} {c = c} {y = y} {p = p} {f = f} {r = r} x47 _ _ _ _) _ a b e z = elim x47 [ ]
class_injective {n = n} {k = k} u v (t_object {l = l} {y = y} {f = f} {r = r} x40 _ _) _ a b e z = elim x40 [ ]
class_injective {n = n} {k = k} {f = f} {y = y} u v (t_text {l = l} {c = c} {p = p} {r = r} _ x46 _ _) _ a b e z = elim x46 [ ]
class_injective {n = n} {k = k} {f = f} {y = y} u v (t_bignum {l = l} {minus = minus} {r = r} x42 _ _) _ a b e z = elim x42 [ ]
class_injective {n = n} {k = k} u v (t_string_vars {l = l} {c = c} {y = y} {p = p} {f = f} {r = r} x47 _ _ _) _ a b e z = elim x47 [ ]
class_injective {n = n} {k = k} {f = f} {y = y} u v (t_user {l = l} {p = p} {r = r} x44 _ _) _ a b e z = elim x44 [ ]
class_injective {n = n} {k = k} u v (t_user_vars {l = l} {y = y} {p = p} {f = f} {r = r} x49 _ _ _) _ a b e z = elim x49 [ ]

-- two texts that begin the same bytes are the texts of one forest, and leave the same rest
pub print_injective : (m : Mode) (l k : ℕ) (g f : F) (x y u v : List ℕ) → Text m l g x → Text m k f y → Bounded g → Bounded f → trees g ≡ trees f → x ++ u ≡ y ++ v → (g ≡ f) × (u ≡ v)
print_injective values l k g f x y u v s t a b e z = bounded_injective values l k g f x y u v s t tt a b e z
print_injective (pairs n) l k g f x y u v s t a b e z = bounded_injective (pairs n) l k g f x y u v s t tt a b e z
print_injective (value_pairs n) l k g f x y u v s t a b e z = bounded_injective (value_pairs n) l k g f x y u v s t tt a b e z
print_injective (name_pairs n) l k g f x y u v s t a b e z = class_injective u v s t a b e z

-- one text, one forest
pub one_forest : (l k : ℕ) (g f : F) (x : List ℕ) → Text values l g x → Text values k f x → Bounded g → Bounded f → trees g ≡ trees f → g ≡ f
one_forest l k g f x s t a b e = (print_injective values l k g f x x [] [] s t a b e refl).0
