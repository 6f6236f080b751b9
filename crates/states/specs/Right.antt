-- A right row: its ranges are inside, its links lead to nodes, its names are symbols and its number is right; then the definition's test holds.
use Rattle.std.specs.Prelude.{ℕ, zero, suc, ◌+◌, ◌*◌, ◌≤◌, ◌≡◌, refl, Bool, true, false, not, ◌&&◌, ◌||◌, List, [], ◌∷◌, ◌++◌, eqb, length}
use Rattle.std.proofs.Common.{ap, arith, eqb-true, eq-eqb, le-leb, lt-ltb}
use Rattle.definition.specs.Run.{pick}
use Rattle.definition.specs.Node.{Row, Vars, nil, bool, fixnum, symbol, array, hash, object, string, user, float, bignum, absent, present, NAME, CLASS, kind, word, words, optional_node}
use Rattle.definition.specs.Magnitude.{fits, sign, magnitude}
use Rattle.definition.specs.Arena.{Arena, range, firsts, all_below, is_name, all_names, bytes_right, list_right, pairs_right, vars_right, class_right, number_right, row_right}
use Rattle.definition.specs.Graph.{links, vars_links}
use Rattle.lists.specs.Joined.{yes_and}
use Rattle.lists.specs.Lists.{At, at_app, apart, Below}
use Rattle.well_formed.specs.Nodes.{node_at, Name}
use Rattle.well_formed.specs.Right.{NumberRight}
use Rattle.states.specs.Rows.{bytes_start, bytes_length, list_start, list_length, vars_start, vars_length, row_words, Within, links_same, ranges}

-- a row's name, or its class where it has one
unfoldable pub own_names : Row → List ℕ
own_names r = pick (eqb (kind r) 6 || eqb (kind r) 8) (word r NAME ∷ []) (optional_node (word r CLASS))

-- the names of its variables: the first of each pair of its list
unfoldable pub pair_names : ℕ → List ℕ → List ℕ
pair_names k ls = pick (eqb k 6 || eqb k 7 || eqb k 8) (firsts ls) []

unfoldable pub row_names : Arena → Row → List ℕ
row_names A r = own_names r ++ pair_names (kind r) (row_words A r)

-- a row that is a Bignum has a right number
abbrev pub Numbered : Row → Type 0
Numbered r = (low high : ℕ) (m : Bool) → r ≡ bignum low high m → NumberRight (magnitude low high) m

pub record RightIn (A : Arena) (r : Row) : Type 0 where
  pub inside : Within A.references A.bytes r
  pub below : Below (length A.nodes) (links A r)
  pub names : (k c : ℕ) → At (row_names A r) k c → Name A c
  pub number : Numbered r

-- names, and names after them
pub names_first : (A : Arena) (c : ℕ) (ns : List ℕ) → Name A c → ((k d : ℕ) → At ns k d → Name A d) → (k d : ℕ) → At (c ∷ ns) k d → Name A d
names_first A c ns n h zero d a = let z : c ≡ d = cc in rw (← z) n
names_first A c ns n h (suc k) d a = h k d a

pub names_join : (A : Arena) (l m : List ℕ) → ((k d : ℕ) → At l k d → Name A d) → ((k d : ℕ) → At m k d → Name A d) → (k d : ℕ) → At (l ++ m) k d → Name A d
names_join A [] m f g k d a = g k d a
names_join A (c ∷ l) m f g k d a = names_first A c (l ++ m) (f 0 c refl) (names_join A l m (λ j e b. f (suc j) e b) g) k d a

pub names_left : (A : Arena) (l m : List ℕ) → ((k d : ℕ) → At (l ++ m) k d → Name A d) → (k d : ℕ) → At l k d → Name A d
names_left A l m f k d a = f k d (at_app l m k d a)

pub names_right : (A : Arena) (l m : List ℕ) → ((k d : ℕ) → At (l ++ m) k d → Name A d) → (k d : ℕ) → At m k d → Name A d
names_right A [] m f k d a = f k d a
names_right A (c ∷ l) m f k d a = names_right A l m (λ j e b. f (suc j) e b) k d a

-- ---- a row is right in a later arena, where its words are the same

names_same : (A B : Arena) (r : Row) → row_words B r ≡ row_words A r → row_names B r ≡ row_names A r
unfolding row_names
names_same A B r e = ap (λ (l : List ℕ). own_names r ++ pair_names (kind r) l) e

-- from A to B nodes are only added, names stay names, and bytes and words are only added
pub record Onward (A B : Arena) : Type 0 where
  pub count : length A.nodes ≤ length B.nodes
  pub names : (c : ℕ) → Name A c → Name B c
  pub more_bytes : length A.bytes ≤ length B.bytes
  pub more_words : length A.references ≤ length B.references

pub row_onward : (A B : Arena) (r : Row) → Onward A B → row_words B r ≡ row_words A r → RightIn A r → RightIn B r
row_onward A B r o e h = record {
  inside = record { bytes_inside = omega (arith, o.more_bytes, h.inside.bytes_inside); list_inside = omega (arith, o.more_words, h.inside.list_inside) };
  below = λ k v a. omega (arith, o.count, h.below k v (rw (links_same A B r e) at a));
  names = λ k c a. o.names c (h.names k c (rw (names_same A B r e) at a));
  number = h.number;
}

-- ---- the definition's test of a row

pub all_below_yes : (n : ℕ) (l : List ℕ) → Below n l → all_below n l ≡ true
unfolding all_below pick
all_below_yes n [] b = refl
all_below_yes n (m ∷ l) b = rw (lt-ltb m n (b 0 m refl)) (all_below_yes n l (λ k v e. b (suc k) v e))

pub is_name_yes : (A : Arena) (c : ℕ) → Name A c → is_name A c ≡ true
unfolding is_name kind
is_name_yes A c (a, l, e) = rw (node_at A c (symbol a l) e)

pub all_names_yes : (A : Arena) (l : List ℕ) → ((k c : ℕ) → At l k c → Name A c) → all_names A l ≡ true
unfolding all_names pick
all_names_yes A [] h = refl
all_names_yes A (m ∷ l) h = rw (is_name_yes A m (h 0 m refl)) (all_names_yes A l (λ k c e. h (suc k) c e))

below_left : (n : ℕ) (l m : List ℕ) → Below n (l ++ m) → Below n l
below_left n l m b k v e = b k v (at_app l m k v e)

pub list_right_yes : (A : Arena) (p n : ℕ) → p + n ≤ length A.references → Below (length A.nodes) (range A.references p n) → list_right A p n ≡ true
unfolding list_right
list_right_yes A p n h b = yes_and _ _ (le-leb _ _ h) (all_below_yes _ _ b)

pairs_right_yes : (A : Arena) (p n : ℕ) → p + n * 2 ≤ length A.references → Below (length A.nodes) (range A.references p (n * 2))
    → ((k c : ℕ) → At (firsts (range A.references p (n * 2))) k c → Name A c) → pairs_right A p n ≡ true
unfolding pairs_right
pairs_right_yes A p n h b m = yes_and _ _ (list_right_yes A p (n * 2) h b) (all_names_yes A _ m)

vars_right_yes : (A : Arena) (v : Vars) → vars_start v + vars_length v ≤ length A.references → Below (length A.nodes) (vars_links A v)
    → ((k c : ℕ) → At (firsts (range A.references (vars_start v) (vars_length v))) k c → Name A c) → vars_right A v ≡ true
unfolding vars_right vars_links vars_start vars_length
vars_right_yes A absent h b m = refl
vars_right_yes A (present p n) h b m = pairs_right_yes A p n h b m

default_most : (A : Arena) (d : ℕ) → Below (length A.nodes) (optional_node d) → d ≤ length A.nodes
unfolding optional_node
default_most A zero b = omega arith
default_most A (suc d) b = b 0 d refl

above_left : (n : ℕ) (l m : List ℕ) → Below n (l ++ m) → Below n m
above_left n [] m b k v e = b k v e
above_left n (x ∷ l) m b k v e = above_left n l m (λ j w a. b (suc j) w a) k v e

-- zero is plus, so the sign of a right number is the one it has
pub sign_kept : (m : ℕ) (minus : Bool) → NumberRight m minus → sign minus m ≡ minus
unfolding sign
sign_kept m false h = refl
sign_kept m true (f, z) = go (eqb m 0) refl
  where
    go : (t : Bool) → eqb m 0 ≡ t → not t ≡ true
    go true e = let y = z (eqb-true m 0 e) in apart (cc)
    go false e = refl

-- and with the sign of a magnitude the number is right
pub sign_right : (m : ℕ) (minus : Bool) → fits m ≡ true → NumberRight m (sign minus m)
unfolding sign
sign_right m minus f = (f, λ e. plus minus (eq-eqb m 0 e))
  where
    plus : (t : Bool) → eqb m 0 ≡ true → (t && not (eqb m 0)) ≡ false
    plus false e = refl
    plus true e = rw e refl

pub number_right_yes : (m : ℕ) (minus : Bool) → NumberRight m minus → number_right m minus ≡ true
unfolding number_right sign
number_right_yes m false h = yes_and _ _ h.0 refl
number_right_yes m true h = yes_and _ _ h.0 (sign_kept m true h)

-- the words of a list, after a class
list_below : (A : Arena) (w : ℕ) (l : List ℕ) → Below (length A.nodes) (optional_node w ++ l) → Below (length A.nodes) l
list_below A w l b = above_left _ (optional_node w) l b

class_right_yes : (A : Arena) (w : ℕ) → ((k c : ℕ) → At (optional_node w) k c → Name A c) → class_right A w ≡ true
unfolding class_right
class_right_yes A w h = all_names_yes A (optional_node w) h

pub right_yes : (A : Arena) (r : Row) → RightIn A r → row_right A r ≡ true
unfolding row_right bytes_right links row_names bytes_start bytes_length list_start list_length ranges pair_names own_names kind words pick
right_yes A nil f = refl
right_yes A (bool b) f = refl
right_yes A (fixnum w) f = refl
right_yes A (symbol s l) f = le-leb _ _ f.inside.bytes_inside
right_yes A (array s n w) f =
    yes_and _ _ (list_right_yes A s n f.inside.list_inside (list_below A w _ f.below)) (class_right_yes A w (names_left A (optional_node w) [] f.names))
right_yes A (hash s n d w) f =
    let b = list_below A w (range A.references s (n * 2) ++ optional_node d) f.below in
    yes_and _ _
    (yes_and _ _ (list_right_yes A s (n * 2) f.inside.list_inside (below_left _ (range A.references s (n * 2)) (optional_node d) b))
    (le-leb _ _ (default_most A d (above_left _ (range A.references s (n * 2)) (optional_node d) b))))
    (class_right_yes A w (names_left A (optional_node w) [] f.names))
right_yes A (object s n c) f =
    yes_and _ _ (is_name_yes A c (f.names 0 c refl)) (pairs_right_yes A s n f.inside.list_inside (λ k v e. f.below (suc k) v e) (λ k v e. f.names (suc k) v e))
right_yes A (string s l v w) f =
    yes_and _ _
    (yes_and _ _ (le-leb _ _ f.inside.bytes_inside) (vars_right_yes A v f.inside.list_inside (list_below A w (vars_links A v) f.below) (names_right A (optional_node w) _ f.names)))
    (class_right_yes A w (names_left A (optional_node w) _ f.names))
right_yes A (user s l c v) f =
    yes_and _ _ (yes_and _ _ (le-leb _ _ f.inside.bytes_inside) (is_name_yes A c (f.names 0 c refl)))
    (vars_right_yes A v f.inside.list_inside (λ k w e. f.below (suc k) w e) (λ k w e. f.names (suc k) w e))
right_yes A (float s l) f = le-leb _ _ f.inside.bytes_inside
right_yes A (bignum low high m) f = number_right_yes (magnitude low high) m (f.number low high m refl)
