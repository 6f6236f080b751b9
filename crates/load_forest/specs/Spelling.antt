-- What the head of a forest says: the bytes as dump writes them, and that the input has them.
use Rattle.std.specs.Prelude.{ℕ, suc, ◌+◌, ◌≡◌, refl, Bool, true, false, ◌⊎◌, List, [], ◌∷◌, ◌++◌, drop}
use Rattle.std.proofs.Common.{ap, subst, sym as psym, ◌∙◌, inl, inr, append-nil, append_assoc, arith}
use Rattle.definition.specs.Integer.{integer_bytes}
use Rattle.definition.specs.Kind.{SYMBOL, SYMBOL_LINK, INSTANCE_VARIABLES, STRING, USER_DEFINED}
use Rattle.definition.specs.State.{State}
use Rattle.definition.specs.Dump.{byte_string_bytes}
use Rattle.definition.specs.Graph.{header_of}
use Rattle.graph.specs.Forest as F
use Rattle.graph.specs.Forest.{F, f_end, f_box, f_sym, f_symref, trees, OneName, one_new, one_link, Class, Texted, text_string, text_float, IsValue, after, Text, t_end, t_end_pairs, t_name, t_name_link, t_class, t_class_link, t_text, t_string_vars, t_user, t_user_vars}
use Rattle.load_forest.specs.Trace.{Spelt, Mode, value, text, name, opening, elements, pairs}
use Rattle.states.specs.States.{read_to}

-- ---- what a head of trees says

-- a name's head, and its bytes
pub data Named : (F → F) → List ℕ → Type 0 where
  named_new : {b : List ℕ} → Named (f_sym false b) (SYMBOL ∷ byte_string_bytes b)
  named_link : {k : ℕ} → Named (f_symref false k) (SYMBOL_LINK ∷ integer_bytes k)

-- one tree, with l levels, whose bytes are x
pub record OneTree (l : ℕ) (h : F → F) (x : List ℕ) : Type 0 where
  pub trees_are : (r : F) → trees (h r) ≡ suc (trees r)
  pub writes : (m : F.Mode) (r : F) (y : List ℕ) → IsValue m → Text (after m) l r y → Text m l (h r) (x ++ y)

-- n trees
pub record Trees (l n : ℕ) (h : F → F) (x : List ℕ) : Type 0 where
  pub trees_are : (r : F) → trees (h r) ≡ n + trees r
  pub writes : (r : F) (y : List ℕ) → Text F.values l r y → Text F.values l (h r) (x ++ y)

-- n pairs
pub record Pairs (l n : ℕ) (h : F → F) (x : List ℕ) : Type 0 where
  pub writes : (k : ℕ) (r : F) (y : List ℕ) → Text (F.pairs k) l r y → Text (F.pairs (n + k)) l (h r) (x ++ y)

-- by what was read (what a byte string and a class say is told elsewhere)
abbrev pub Says : Mode → ℕ → (F → F) → List ℕ → Type 0
Says value l h x = OneTree l h x
Says text l h x = Unit {0}
Says name l h x = Named h x
Says (opening w q) l h x = Unit {0}
Says (elements n i) l h x = Trees l n h x
Says (pairs n i) l h x = Pairs l n h x

-- from s to t the input has bytes x, which with those before them, p, are what the head says
pub record Told (input : List ℕ) (m : Mode) (l : ℕ) (p : List ℕ) (s t : State) (h : F → F) : Type 0 where
  pub bytes : List ℕ
  pub here : drop s.at input ≡ bytes ++ drop t.at input
  pub says : Says m l h (p ++ bytes)

-- nothing was read, all bytes came before
pub told_all : {input : List ℕ} {m : Mode} {l : ℕ} {p : List ℕ} {s t : State} {h : F → F} → t.at ≡ s.at → Says m l h p → Told input m l p s t h
told_all {input} {m} {l} {p} {s} {t} {h} e x = record { bytes = []; here = ap (λ (k : ℕ). drop k input) (psym e); says = subst (Says m l h) (psym (append-nil p)) x }

-- one after the other
pub joined : {a b : List ℕ} (x y c : List ℕ) → a ≡ x ++ b → b ≡ y ++ c → a ≡ x ++ y ++ c
joined x y c e f = e ∙ ap (λ (l : List ℕ). x ++ l) f ∙ psym (append_assoc x y c)

pub told_reading : {input : List ℕ} {m : Mode} {l k : ℕ} {p y : List ℕ} {n : Bool} {s t : State} {h : F → F} → Spelt input s k n y → n ≡ true → Told input m l (p ++ y) (read_to k n s) t h → Told input m l p s t h
told_reading {m = m} {l = l} {p = p} {y = y} {h = h} a f x = record {
  bytes = y ++ x.bytes;
  here = joined y x.bytes _ (a.text f) x.here;
  says = subst (Says m l h) (append_assoc p y x.bytes) x.says;
}

-- ---- trees one after the other

pub closed_trees : {l n : ℕ} {h : F → F} {x : List ℕ} → Trees l n h x → Text F.values l (h f_end) x × (trees (h f_end) ≡ n)
closed_trees {l} {n} {h} {x} a = (subst (Text F.values l (h f_end)) (append-nil x) (a.writes f_end [] t_end), a.trees_are f_end ∙ omega arith)

pub closed_pairs : {l n : ℕ} {h : F → F} {x : List ℕ} → Pairs l n h x → Text (F.pairs n) l (h f_end) x
closed_pairs {l} {n} {h} {x} a =
    let z : n + 0 ≡ n = omega arith in
    subst (Text (F.pairs n) l (h f_end)) (append-nil x) (subst (λ (k : ℕ). Text (F.pairs k) l (h f_end) (x ++ [])) z (a.writes 0 f_end [] t_end_pairs))

pub one_name : {h : F → F} {x : List ℕ} → Named h x → OneName (h f_end) x
one_name named_new = one_new
one_name named_link = one_link

pub class_text : {l n : ℕ} {f : F} {h : F → F} {x y : List ℕ} → Named h x → Text (F.pairs n) l f y → Text (F.name_pairs n) l (h f) (x ++ integer_bytes n ++ y)
class_text named_new t = t_class t
class_text named_link t = t_class_link t

pair_text : {l n : ℕ} {f : F} {h : F → F} {x y : List ℕ} → Named h x → Text (F.value_pairs n) l f y → Text (F.pairs (suc n)) l (h f) (x ++ y)
pair_text named_new t = t_name t
pair_text named_link t = t_name_link t

pub no_trees : (l : ℕ) → Trees l 0 (λ r. r) []
no_trees l = record { trees_are = λ r. omega arith; writes = λ r y t. t }

pub more_trees : {l n : ℕ} {h g : F → F} {x y : List ℕ} → OneTree l h x → Trees l n g y → Trees l (suc n) (λ r. h (g r)) (x ++ y)
more_trees {l} {n} {h} {g} {x} {y} a b = record {
  trees_are = λ r. omega (arith, a.trees_are (g r), b.trees_are r);
  writes = λ r z t. subst (Text F.values l (h (g r))) (psym (append_assoc x y z)) (a.writes F.values (g r) (y ++ z) tt (b.writes r z t));
}

-- the trees and one more, a default
pub last_tree : {l n : ℕ} {h g : F → F} {x y : List ℕ} → Trees l n h x → OneTree l g y → Text F.values l (h (g f_end)) (x ++ y) × (trees (h (g f_end)) ≡ n + 1)
last_tree {l} {n} {h} {g} {x} {y} a b =
    (a.writes (g f_end) y (subst (Text F.values l (g f_end)) (append-nil y) (b.writes F.values f_end [] tt t_end)), omega (arith, a.trees_are (g f_end), b.trees_are f_end))

pub no_pairs_told : (l : ℕ) → Pairs l 0 (λ r. r) []
no_pairs_told l = record { writes = λ k r y t. let z : k ≡ 0 + k = omega arith in subst (λ (j : ℕ). Text (F.pairs j) l r y) z t }

-- a value, then n pairs
pub record ValuePairs (l n : ℕ) (h : F → F) (x : List ℕ) : Type 0 where
  pub writes : (k : ℕ) (r : F) (y : List ℕ) → Text (F.pairs k) l r y → Text (F.value_pairs (n + k)) l (h r) (x ++ y)

pub value_then : {l n : ℕ} {h g : F → F} {x y : List ℕ} → OneTree l h x → Pairs l n g y → ValuePairs l n (λ r. h (g r)) (x ++ y)
value_then {l} {n} {h} {g} {x} {y} a b = record {
  writes = λ k r z t. subst (Text (F.value_pairs (n + k)) l (h (g r))) (psym (append_assoc x y z)) (a.writes (F.value_pairs (n + k)) (g r) (y ++ z) tt (b.writes k r z t));
}

pub more_pairs : {l n : ℕ} {c g : F → F} {x y : List ℕ} → Named c x → ValuePairs l n g y → Pairs l (suc n) (λ r. c (g r)) (x ++ y)
more_pairs {l} {n} {c} {g} {x} {y} a b = record {
  writes = λ k r z t.
      let e : suc (n + k) ≡ suc n + k = omega arith in
      subst (λ (j : ℕ). Text (F.pairs j) l (c (g r)) (x ++ y ++ z)) e (subst (Text (F.pairs (suc (n + k))) l (c (g r))) (psym (append_assoc x y z)) (pair_text a (b.writes k r z t)));
}

-- ---- a byte string

-- the bytes of a byte string b of kind kd, after its name or its class if it has one
pub data Lettered : ℕ → ℕ → Bool → F → List ℕ → List ℕ → Type 0 where
  letters : {l k kd : ℕ} {d : Bool} {c : F} {z b : List ℕ} → Texted k kd d → Class d c z → Lettered (suc l) kd d c b (z ++ (k ∷ byte_string_bytes b))
  user_letters : {l : ℕ} {c : F} {z b : List ℕ} → OneName c z → Lettered (suc l) 8 false c b (USER_DEFINED ∷ z ++ byte_string_bytes b)

-- a class, and then the tree's own bytes
pub class_tree : {l : ℕ} {h : F → F} (z x : List ℕ) → ((r : F) → trees (h r) ≡ suc (trees r)) → ((m : F.Mode) (r : F) (y : List ℕ) → IsValue m → Text (after m) l r y → Text m l (h r) (z ++ (x ++ y)))
    → OneTree l h (z ++ x)
class_tree {l} {h} z x e f = record { trees_are = e; writes = λ m r y v t. subst (Text m l (h r)) (psym (append_assoc z x y)) (f m r y v t) }

pub lettered_tree : {l kd : ℕ} {d : Bool} {c : F} {b x : List ℕ} → Lettered l kd d c b x → OneTree l (f_box (header_of kd 0 b 0 false d) c f_end) x
lettered_tree (letters {k = k} {z = z} {b = b} q a) = class_tree z (k ∷ byte_string_bytes b) (λ r. refl) (λ m r y v t. t_text q v a t)
lettered_tree (user_letters z) = record { trees_are = λ r. refl; writes = λ m r y v t. t_user v z t }

-- with n variables
pub varied_tree : {l kd n : ℕ} {d : Bool} {c f : F} {b x y : List ℕ} → Lettered l kd d c b x → (kd ≡ 7) ⊎ (kd ≡ 8) → Text (F.pairs n) l f y
    → OneTree (suc l) (f_box (header_of kd 0 b n true d) c f) (INSTANCE_VARIABLES ∷ x ++ integer_bytes n ++ y)
varied_tree {l} {n = n} {d = d} {c = c} {f = f} {b = b} {y = y} (letters {z = z} text_string a) k t =
    let x : List ℕ = STRING ∷ byte_string_bytes b in
    subst (λ (o : List ℕ). OneTree (suc l) (f_box (header_of 7 0 b n true d) c f) (INSTANCE_VARIABLES ∷ o))
    (psym (append_assoc z (x ++ integer_bytes n) y) ∙ ap (λ (o : List ℕ). o ++ y) (psym (append_assoc z x (integer_bytes n))))
    (class_tree (INSTANCE_VARIABLES ∷ z) (x ++ integer_bytes n ++ y) (λ r. refl) (λ m r o v u. t_string_vars v a t u))
varied_tree (letters text_float a) (inl e) t = absurd (omega (arith, e))
varied_tree (letters text_float a) (inr e) t = absurd (omega (arith, e))
varied_tree (user_letters z) k t = record { trees_are = λ r. refl; writes = λ m r y v u. t_user_vars v z t u }
