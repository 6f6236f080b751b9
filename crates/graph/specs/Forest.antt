-- Forests: what a dump says, and the nodes that it says it of.
use Rattle.std.specs.Prelude.{ℕ, suc, ◌+◌, ◌*◌, ◌≤◌, ◌<◌, ◌≡◌, Bool, true, false, List, [], ◌∷◌, ◌++◌, eqb, length}
use Rattle.std.proofs.Common.{arith}
use Rattle.definition.specs.Run.{pick}
use Rattle.definition.specs.Integer.{integer_bytes}
use Rattle.definition.specs.Kind.{NIL, TRUE, FALSE, FIXNUM, SYMBOL, SYMBOL_LINK, OBJECT_LINK, INSTANCE_VARIABLES, ARRAY, HASH, HASH_DEFAULT, OBJECT, STRING, USER_DEFINED, FLOAT, BIGNUM, USER_CLASS}
use Rattle.definition.specs.Magnitude.{bignum_bytes}
use Rattle.definition.specs.Dump.{byte_string_bytes}
use Rattle.definition.specs.Graph.{Header, header_of}
use Rattle.well_formed.specs.Right.{NumberRight}

-- a node of a graph. leaf: kind 0 to 2 and the value; sym: a name; box: kinds 4 to 10, the members being the name or the class, the elements or pairs, and the default, in this order
pub data Node : Type 0 where
  leaf : ℕ → ℕ → Node
  sym : List ℕ → Node
  box : Header → List ℕ → Node

-- what has been numbered: a node's number is its place in its list
pub record Num : Type 0 where
  pub objs : List ℕ
  pub syms : List ℕ

abbrev pub add_o : ℕ → Num → Num
add_o v σ = record { objs = σ.objs ++ (v ∷ []); syms = σ.syms }

abbrev pub add_s : ℕ → Num → Num
add_s v σ = record { objs = σ.objs; syms = σ.syms ++ (v ∷ []) }

abbrev pub fresh : Num
fresh = record { objs = []; syms = [] }

-- a forest: each constructor is a first tree and the trees after it. f_box h p f: p is what is read before the node is added (the name of `u`, a class), f the rest of its members; a name's mark is false, a symbol value's true; f_iv f p: variables p put on the value f, as no dump writes them
pub data F : Type 0 where
  f_end : F
  f_leaf : ℕ → ℕ → F → F
  f_box : Header → F → F → F → F
  f_ref : ℕ → F → F
  f_sym : Bool → List ℕ → F → F
  f_symref : Bool → ℕ → F → F
  f_iv : F → F → F → F

abbrev pub trees : F → ℕ
trees f_end = 0
trees (f_leaf k x r) = suc (trees r)
trees (f_box h p f r) = suc (trees r)
trees (f_ref k r) = suc (trees r)
trees (f_sym m b r) = suc (trees r)
trees (f_symref m k r) = suc (trees r)
trees (f_iv f p r) = suc (trees r)

-- ---- the space that building a forest takes

-- the reference words of a box's list: its elements, or two for each pair
abbrev pub list_words : Header → ℕ
list_words h = pick (eqb h.kind 4) h.count (h.count * 2)

abbrev pub refs_of : F → ℕ
refs_of f_end = 0
refs_of (f_leaf k x r) = refs_of r
refs_of (f_box h p f r) = list_words h + refs_of p + refs_of f + refs_of r
refs_of (f_ref k r) = refs_of r
refs_of (f_sym m b r) = refs_of r
refs_of (f_symref m k r) = refs_of r
refs_of (f_iv f p r) = trees p + refs_of f + refs_of p + refs_of r

-- every name taken as new
abbrev pub bytes_of : F → ℕ
bytes_of f_end = 0
bytes_of (f_leaf k x r) = bytes_of r
bytes_of (f_box h p f r) = length h.bytes + bytes_of p + bytes_of f + bytes_of r
bytes_of (f_ref k r) = bytes_of r
bytes_of (f_sym m b r) = length b + bytes_of r
bytes_of (f_symref m k r) = bytes_of r
bytes_of (f_iv f p r) = bytes_of f + bytes_of p + bytes_of r

-- entries of the object list
abbrev pub boxes_of : F → ℕ
boxes_of f_end = 0
boxes_of (f_leaf k x r) = boxes_of r
boxes_of (f_box h p f r) = suc (boxes_of p + boxes_of f + boxes_of r)
boxes_of (f_ref k r) = boxes_of r
boxes_of (f_sym m b r) = boxes_of r
boxes_of (f_symref m k r) = boxes_of r
boxes_of (f_iv f p r) = boxes_of f + boxes_of p + boxes_of r

-- entries of the symbol list
abbrev pub syms_of : F → ℕ
syms_of f_end = 0
syms_of (f_leaf k x r) = syms_of r
syms_of (f_box h p f r) = syms_of p + syms_of f + syms_of r
syms_of (f_ref k r) = syms_of r
syms_of (f_sym m b r) = suc (syms_of r)
syms_of (f_symref m k r) = syms_of r
syms_of (f_iv f p r) = syms_of f + syms_of p + syms_of r

-- the words of a node's list, its bytes; is it a box, a symbol?
abbrev pub node_words : Node → ℕ
node_words (leaf k x) = 0
node_words (sym b) = 0
node_words (box h ms) = list_words h

abbrev pub node_bytes : Node → ℕ
node_bytes (leaf k x) = 0
node_bytes (sym b) = length b
node_bytes (box h ms) = length h.bytes

abbrev pub node_box : Node → ℕ
node_box (leaf k x) = 0
node_box (sym b) = 0
node_box (box h ms) = 1

abbrev pub node_sym : Node → ℕ
node_sym (leaf k x) = 0
node_sym (sym b) = 1
node_sym (box h ms) = 0

-- ---- the bytes of a forest

-- one name, and a class or none: the forest and its bytes
pub data OneName : F → List ℕ → Type 0 where
  one_new : {b : List ℕ} → OneName (f_sym false b f_end) (SYMBOL ∷ byte_string_bytes b)
  one_link : {k : ℕ} → OneName (f_symref false k f_end) (SYMBOL_LINK ∷ integer_bytes k)

pub data Class : Bool → F → List ℕ → Type 0 where
  no_class : Class false f_end []
  a_class : {p : F} {z : List ℕ} → OneName p z → Class true p (USER_CLASS ∷ z)

-- what is to come: values; n pairs; a value and then n pairs; a name, then n pairs (with the number n written between)
pub data Mode : Type 0 where
  values : Mode
  pairs : ℕ → Mode
  value_pairs : ℕ → Mode
  name_pairs : ℕ → Mode

-- after a value
abbrev pub after : Mode → Mode
after values = values
after (pairs n) = pairs n
after (value_pairs n) = pairs n
after (name_pairs n) = name_pairs n

-- may a value come?
abbrev pub IsValue : Mode → Type 0
IsValue values = Unit {0}
IsValue (pairs n) = ⊥
IsValue (value_pairs n) = Unit {0}
IsValue (name_pairs n) = ⊥

-- a value that is a byte string and nothing more, a string without variables or a Float: its kind byte, its kind, and has it a class?
pub data Texted : ℕ → ℕ → Bool → Type 0 where
  text_string : {c : Bool} → Texted STRING 7 c
  text_float : Texted FLOAT 9 false

pub high_text : {k n : ℕ} {c : Bool} → Texted k n c → 7 ≤ n
high_text text_string = omega arith
high_text text_float = omega arith

-- `Text m l g x`: the forest g has the shape that the mode asks, needs no more than l levels, and x is its bytes as dump writes them
pub data Text : Mode → ℕ → F → List ℕ → Type 0 where
  t_end : {l : ℕ} → Text values l f_end []
  t_end_pairs : {l : ℕ} → Text (pairs 0) l f_end []
  t_name : {l n : ℕ} {b x : List ℕ} {r : F} → Text (value_pairs n) l r x → Text (pairs (suc n)) l (f_sym false b r) (SYMBOL ∷ byte_string_bytes b ++ x)
  t_name_link : {l n k : ℕ} {x : List ℕ} {r : F} → Text (value_pairs n) l r x → Text (pairs (suc n)) l (f_symref false k r) (SYMBOL_LINK ∷ integer_bytes k ++ x)
  t_class : {l n : ℕ} {b x : List ℕ} {r : F} → Text (pairs n) l r x → Text (name_pairs n) l (f_sym false b r) (SYMBOL ∷ byte_string_bytes b ++ integer_bytes n ++ x)
  t_class_link : {l n k : ℕ} {x : List ℕ} {r : F} → Text (pairs n) l r x → Text (name_pairs n) l (f_symref false k r) (SYMBOL_LINK ∷ integer_bytes k ++ integer_bytes n ++ x)
  t_nil : {m : Mode} {l : ℕ} {x : List ℕ} {r : F} → IsValue m → Text (after m) (suc l) r x → Text m (suc l) (f_leaf 0 0 r) (NIL ∷ x)
  t_false : {m : Mode} {l : ℕ} {x : List ℕ} {r : F} → IsValue m → Text (after m) (suc l) r x → Text m (suc l) (f_leaf 1 0 r) (FALSE ∷ x)
  t_true : {m : Mode} {l : ℕ} {x : List ℕ} {r : F} → IsValue m → Text (after m) (suc l) r x → Text m (suc l) (f_leaf 1 1 r) (TRUE ∷ x)
  t_fixnum : {m : Mode} {l w : ℕ} {x : List ℕ} {r : F} → IsValue m → w < 4294967296 → Text (after m) (suc l) r x → Text m (suc l) (f_leaf 2 w r) (FIXNUM ∷ integer_bytes w ++ x)
  t_symbol : {m : Mode} {l : ℕ} {b x : List ℕ} {r : F} → IsValue m → Text (after m) (suc l) r x → Text m (suc l) (f_sym true b r) (SYMBOL ∷ byte_string_bytes b ++ x)
  t_symbol_link : {m : Mode} {l k : ℕ} {x : List ℕ} {r : F} → IsValue m → Text (after m) (suc l) r x → Text m (suc l) (f_symref true k r) (SYMBOL_LINK ∷ integer_bytes k ++ x)
  t_object_link : {m : Mode} {l k : ℕ} {x : List ℕ} {r : F} → IsValue m → Text (after m) (suc l) r x → Text m (suc l) (f_ref k r) (OBJECT_LINK ∷ integer_bytes k ++ x)
  t_array : {m : Mode} {l n : ℕ} {c : Bool} {x y z : List ℕ} {p f r : F} → IsValue m → Class c p z → trees f ≡ n → Text values l f y → Text (after m) (suc l) r x
      → Text m (suc l) (f_box (header_of 4 0 [] n false c) p f r) (z ++ (ARRAY ∷ integer_bytes n ++ y ++ x))
  t_hash : {m : Mode} {l n : ℕ} {c : Bool} {x y z : List ℕ} {p f r : F} → IsValue m → Class c p z → trees f ≡ n * 2 → Text values l f y → Text (after m) (suc l) r x
      → Text m (suc l) (f_box (header_of 5 0 [] n false c) p f r) (z ++ (HASH ∷ integer_bytes n ++ y ++ x))
  t_hash_default : {m : Mode} {l n : ℕ} {c : Bool} {x y z : List ℕ} {p f r : F} → IsValue m → Class c p z → trees f ≡ n * 2 + 1 → Text values l f y → Text (after m) (suc l) r x
      → Text m (suc l) (f_box (header_of 5 0 [] n true c) p f r) (z ++ (HASH_DEFAULT ∷ integer_bytes n ++ y ++ x))
  t_object : {m : Mode} {l n : ℕ} {x y : List ℕ} {f r : F} → IsValue m → Text (name_pairs n) l f y → Text (after m) (suc l) r x
      → Text m (suc l) (f_box (header_of 6 0 [] n false false) f_end f r) (OBJECT ∷ y ++ x)
  t_text : {m : Mode} {l k n : ℕ} {c : Bool} {b x z : List ℕ} {p r : F} → Texted k n c → IsValue m → Class c p z → Text (after m) (suc l) r x
      → Text m (suc l) (f_box (header_of n 0 b 0 false c) p f_end r) (z ++ (k ∷ byte_string_bytes b ++ x))
  t_bignum : {m : Mode} {l n : ℕ} {minus : Bool} {x : List ℕ} {r : F} → IsValue m → NumberRight n minus → Text (after m) (suc l) r x
      → Text m (suc l) (f_box (header_of 10 n [] 0 minus false) f_end f_end r) (BIGNUM ∷ bignum_bytes minus n ++ x)
  t_string_vars : {m : Mode} {l n : ℕ} {c : Bool} {b x y z : List ℕ} {p f r : F} → IsValue m → Class c p z → Text (pairs n) (suc l) f y → Text (after m) (suc (suc l)) r x
      → Text m (suc (suc l)) (f_box (header_of 7 0 b n true c) p f r) (INSTANCE_VARIABLES ∷ z ++ (STRING ∷ byte_string_bytes b ++ integer_bytes n ++ y ++ x))
  t_user : {m : Mode} {l : ℕ} {b x z : List ℕ} {p r : F} → IsValue m → OneName p z → Text (after m) (suc l) r x
      → Text m (suc l) (f_box (header_of 8 0 b 0 false false) p f_end r) (USER_DEFINED ∷ z ++ byte_string_bytes b ++ x)
  t_user_vars : {m : Mode} {l n : ℕ} {b x y z : List ℕ} {p f r : F} → IsValue m → OneName p z → Text (pairs n) (suc l) f y → Text (after m) (suc (suc l)) r x
      → Text m (suc (suc l)) (f_box (header_of 8 0 b n true false) p f r) (INSTANCE_VARIABLES ∷ USER_DEFINED ∷ z ++ byte_string_bytes b ++ integer_bytes n ++ y ++ x)
