-- A well-formed arena: ranges inside, members below the node count, names that are symbols.
use Prim.Native.Nat.{ℕ, zero, suc, ◌+◌, ◌*◌, ◌/◌, ◌≤◌, ◌<◌}
use Rattle.std.specs.Prelude.{◌≡◌, ◌&&◌, ltb, length, get_or}
use Rattle.std.proofs.Math.Path.{refl, ap, sym as psym}
use Rattle.std.proofs.Common.{◌∙◌, arith}
use Rattle.std.proofs.Math.Bool.{Bool, true, false, not}
use Rattle.std.proofs.Math.Option.{none, some}
use mathlib.Core.List.{List, [], ◌∷◌, ◌++◌}
use Rattle.std.proofs.Math.Dec.{leb, eqb}
use Rattle.std.proofs.Math.Seq.{length-take-le}
use borrow.Author.Tests.{eqb-true, eq-eqb, leb-true, ltb-true}
use Rattle.definition.specs.Node.{Row, Vars, nil, bool, fixnum, symbol, array, hash, object, string, user, float, bignum, absent, present, width, symbol_kind, kind, row, rows, is_row, optional_node}
use Rattle.definition.specs.Magnitude.{fits, magnitude}
use Rattle.definition.specs.Arena.{Tables, Arena, arena, node, range, firsts, all_below, is_name, all_names, bytes_right, list_right, pairs_right, vars_right, class_right, number_right, row_right, node_right, counts_fit, fault}
use Rattle.definition.specs.Graph.{links, vars_links}
use Rattle.definition.specs.declared.Counts.{Counts}
use Rattle.lists.specs.Joined.{and_left, and_right, pick_true}
use Rattle.lists.specs.Lists.{At, at_lt, no_at, apart, Below, below_join, below_first, get_d_at}
use Rattle.lists.specs.Tables.{length_rows, rows_at, faulty_words, no_fault}
use Rattle.well_formed.specs.Nodes.{at_node, symbol_row, Name}
use Rattle.definition.specs.Build.{words_at}

-- ---- tests that hold

and_five : (a b c d e : Bool) → (a && b && c && d && e) ≡ true → (a ≡ true) × (b ≡ true) × (c ≡ true) × (d ≡ true) × (e ≡ true)
and_five true true true true e h = (refl, refl, refl, refl, h)
and_five true true true false e h = apart (cc)
and_five true true false d e h = apart (cc)
and_five true false c d e h = apart (cc)
and_five false b c d e h = apart (cc)

-- ---- well formed, as propositions

abbrev pub BytesIn : Arena → ℕ → ℕ → Type 0
BytesIn A s n = s + n ≤ length A.bytes

pub record ListIn (A : Arena) (s n : ℕ) : Type 0 where
  pub inside : s + n ≤ length A.references
  pub below : Below (length A.nodes) (range A.references s n)

abbrev pub Names : Arena → List ℕ → Type 0
Names A l = (k c : ℕ) → At (firsts l) k c → Name A c

pub record PairsIn (A : Arena) (s n : ℕ) : Type 0 where
  pub list : ListIn A s (n * 2)
  pub names : Names A (range A.references s (n * 2))

abbrev pub VarsRight : Arena → Vars → Type 0
VarsRight A absent = Unit {0}
VarsRight A (present s n) = PairsIn A s n

-- a class, where there is one, is a name
abbrev pub ClassRight : Arena → ℕ → Type 0
ClassRight A w = (k c : ℕ) → At (optional_node w) k c → Name A c

-- a Bignum's magnitude fits, and zero is plus
abbrev pub NumberRight : ℕ → Bool → Type 0
NumberRight m minus = (fits m ≡ true) × (m ≡ 0 → minus ≡ false)

abbrev pub RowRight : Arena → Row → Type 0
RowRight A nil = Unit {0}
RowRight A (bool b) = Unit {0}
RowRight A (fixnum w) = Unit {0}
RowRight A (symbol s l) = BytesIn A s l
RowRight A (array s n w) = ListIn A s n × ClassRight A w
RowRight A (hash s n d w) = ListIn A s (n * 2) × (d ≤ length A.nodes) × ClassRight A w
RowRight A (object s n c) = Name A c × PairsIn A s n
RowRight A (string s l v w) = BytesIn A s l × VarsRight A v × ClassRight A w
RowRight A (user s l c v) = BytesIn A s l × Name A c × VarsRight A v
RowRight A (float s l) = BytesIn A s l
RowRight A (bignum low high m) = NumberRight (magnitude low high) m

-- a well-formed arena, said without tables
pub record Right (A : Arena) : Type 0 where
  pub root_below : A.root < length A.nodes
  pub rows_right : (i : ℕ) (r : Row) → At A.nodes i r → RowRight A r

-- every word of a fixnum has 32 bits
abbrev pub Fixnums : Arena → Type 0
Fixnums A = (i w : ℕ) → At A.nodes i (fixnum w) → w < 4294967296

-- ---- from the tests

pub below_of : (n : ℕ) (l : List ℕ) → all_below n l ≡ true → Below n l
unfolding all_below
below_of n [] e k v a = no_at k v a
below_of n (m ∷ l) e k v a = let (p, q) = pick_true (ltb m n) (all_below n l) e in below_first n m l (ltb-true m n p) (below_of n l q) k v a

module _ (A : Arena) where
  pub name_of_test : (c : ℕ) → is_name A c ≡ true → Name A c
  unfolding is_name kind node
  name_of_test c e = go A.nodes c (eqb-true (kind (get_or A.nodes c nil)) symbol_kind e)
    where
      go : (l : List Row) (k : ℕ) → kind (get_or l k nil) ≡ symbol_kind → (s : ℕ) × (n : ℕ) × At l k (symbol s n)
      go [] k e = absurd (omega arith)
      go (x ∷ l) zero e = let (s, n, q) = symbol_row x e in (s, n, ap some q)
      go (x ∷ l) (suc k) e = go l k e

  pub names_of : (l : List ℕ) → all_names A l ≡ true → (k c : ℕ) → At l k c → Name A c
  unfolding all_names
  names_of [] e k c a = no_at k c a
  names_of (m ∷ l) e zero c a = let z : m ≡ c = cc in rw (← z) (name_of_test m (pick_true (is_name A m) (all_names A l) e).0)
  names_of (m ∷ l) e (suc k) c a = names_of l (pick_true (is_name A m) (all_names A l) e).1 k c a

  list_of : (s n : ℕ) → list_right A s n ≡ true → ListIn A s n
  unfolding list_right
  list_of s n e =
      let p : Bool = leb (s + n) (length A.references) in
      let q : Bool = all_below (length A.nodes) (range A.references s n) in
      record { inside = leb-true _ _ (and_left p q e); below = below_of (length A.nodes) (range A.references s n) (and_right p q e) }

  pairs_of : (s n : ℕ) → pairs_right A s n ≡ true → PairsIn A s n
  unfolding pairs_right
  pairs_of s n e =
      let l = range A.references s (n * 2) in
      let p = list_right A s (n * 2) in
      let q = all_names A (firsts l) in
      record { list = list_of s (n * 2) (and_left p q e); names = names_of (firsts l) (and_right p q e) }

  vars_of : (v : Vars) → vars_right A v ≡ true → VarsRight A v
  unfolding vars_right
  vars_of absent e = tt
  vars_of (present s n) e = pairs_of s n e

  pub class_of : (w : ℕ) → class_right A w ≡ true → ClassRight A w
  unfolding class_right
  class_of w e = names_of (optional_node w) e

  number_of : (m : ℕ) (minus : Bool) → number_right m minus ≡ true → NumberRight m minus
  unfolding number_right
  number_of m minus e = (and_left (fits m) (not (minus && eqb m 0)) e, λ z. plus minus (eq-eqb m 0 z) (and_right (fits m) (not (minus && eqb m 0)) e))
    where
      plus : (t : Bool) → eqb m 0 ≡ true → not (t && eqb m 0) ≡ true → t ≡ false
      plus true q e = apart (cc)
      plus false q e = refl

  pub right_of : (r : Row) → row_right A r ≡ true → RowRight A r
  unfolding row_right bytes_right
  right_of nil e = tt
  right_of (bool b) e = tt
  right_of (fixnum w) e = tt
  right_of (symbol s l) e = leb-true _ _ e
  right_of (array s n w) e =
      let p = list_right A s n in
      let q = class_right A w in
      (list_of s n (and_left p q e), class_of w (and_right p q e))
  right_of (hash s n d w) e =
      let p = list_right A s (n * 2) in
      let q : Bool = leb d (length A.nodes) in
      let r = class_right A w in
      let h = and_left (p && q) r e in
      (list_of s (n * 2) (and_left p q h), leb-true _ _ (and_right p q h), class_of w (and_right (p && q) r e))
  right_of (object s n c) e =
      let p = is_name A c in
      let q = pairs_right A s n in
      (name_of_test c (and_left p q e), pairs_of s n (and_right p q e))
  right_of (string s l v w) e =
      let p = bytes_right A s l in
      let q = vars_right A v in
      let r = class_right A w in
      let h = and_left (p && q) r e in
      (leb-true _ _ (and_left p q h), vars_of v (and_right p q h), class_of w (and_right (p && q) r e))
  right_of (user s l c v) e =
      let p = bytes_right A s l in
      let q = is_name A c in
      let h = and_left (p && q) (vars_right A v) e in
      (leb-true _ _ (and_left p q h), name_of_test c (and_right p q h), vars_of v (and_right (p && q) (vars_right A v) e))
  right_of (float s l) e = leb-true _ _ e
  right_of (bignum low high m) e = number_of (magnitude low high) m e

-- what the counts of a well-formed arena say
pub record Fit (T : Tables) (c : Counts) : Type 0 where
  pub some_node : 1 ≤ c.nodes
  pub nodes_fit : c.nodes ≤ length T.nodes / width
  pub references_fit : c.references ≤ length T.references
  pub bytes_fit : c.bytes ≤ length T.bytes
  pub root_below : c.root < c.nodes
  pub nodes : length (arena T c).nodes ≡ c.nodes
  pub references : length (arena T c).references ≡ c.references
  pub bytes : length (arena T c).bytes ≡ c.bytes

module _ (T : Tables) (c : Counts) where
  fit_of : counts_fit T c ≡ true → Fit T c
  unfolding counts_fit arena
  fit_of e =
      let (e₁, e₂, e₃, e₄, e₅) = and_five (leb 1 c.nodes) (leb c.nodes (length T.nodes / width)) (leb c.references (length T.references)) (leb c.bytes (length T.bytes)) (ltb c.root c.nodes) e in
      let r = leb-true _ _ e₃ in
      let b = leb-true _ _ e₄ in
      record {
        some_node = leb-true _ _ e₁;
        nodes_fit = leb-true _ _ e₂;
        references_fit = r;
        bytes_fit = b;
        root_below = leb-true _ _ e₅;
        nodes = length_rows c.nodes T.nodes;
        references = length-take-le c.references T.references r;
        bytes = length-take-le c.bytes T.bytes b;
      }

  pub fault_fit : fault T c ≡ none → Fit T c
  fault_fit e = fit_of (no_fault T c e).0

  -- every row passes the test of its kind
  pub fault_rows : fault T c ≡ none → (i : ℕ) (r : Row) → At (arena T c).nodes i r → row_right (arena T c) r ≡ true
  unfolding arena node_right words_at
  fault_rows e i r a =
      let A = arena T c in
      let ws = words_at T.nodes i in
      let h : i < c.nodes = rw (length_rows c.nodes T.nodes) at (at_lt (rows c.nodes T.nodes) i r a) in
      let q : row ws ≡ r = psym (rows_at c.nodes T.nodes i h) ∙ get_d_at (rows c.nodes T.nodes) i nil r a in
      rw (← q) (and_right (is_row ws) (row_right A (row ws)) (faulty_words A c.nodes 0 T.nodes (no_fault T c e).1 i h))

  pub fault_right : fault T c ≡ none → Right (arena T c)
  unfolding arena
  fault_right e =
      let f = fault_fit e in
      record {
        root_below = rw f.nodes f.root_below;
        rows_right = λ i r a. right_of (arena T c) r (fault_rows e i r a);
      }

-- ---- links

pub name_below : (A : Arena) (c : ℕ) → Name A c → c < length A.nodes
name_below A c (s, l, e) = at_lt A.nodes c (symbol s l) e

module _ (A : Arena) where
  vars_below : (v : Vars) → VarsRight A v → Below (length A.nodes) (vars_links A v)
  unfolding vars_links
  vars_below absent h k u e = apart (cc)
  vars_below (present s n) h k u e = h.list.below k u e

  pub default_below : (d : ℕ) → d ≤ length A.nodes → Below (length A.nodes) (optional_node d)
  unfolding optional_node
  default_below zero h k u e = apart (cc)
  default_below (suc d) h k u e = below_first (length A.nodes) d [] h (λ j w a. apart (cc)) k u e

  pub class_below : (w : ℕ) → ClassRight A w → Below (length A.nodes) (optional_node w)
  class_below w h k u e = name_below A u (h k u e)

  pub links_below : (r : Row) → RowRight A r → Below (length A.nodes) (links A r)
  unfolding links
  links_below nil h k v e = apart (cc)
  links_below (bool b) h k v e = apart (cc)
  links_below (fixnum w) h k v e = apart (cc)
  links_below (symbol s l) h k v e = apart (cc)
  links_below (array s n w) h k v e = below_join _ (optional_node w) (range A.references s n) (class_below w h.1) h.0.below k v e
  links_below (hash s n d w) h k v e =
      below_join _ (optional_node w) (range A.references s (n * 2) ++ optional_node d) (class_below w h.2)
      (below_join _ (range A.references s (n * 2)) (optional_node d) h.0.below (default_below d h.1)) k v e
  links_below (object s n c) h k v e = below_first _ c (range A.references s (n * 2)) (name_below A c h.0) h.1.list.below k v e
  links_below (string s l v w) h k u e = below_join _ (optional_node w) (vars_links A v) (class_below w h.2) (vars_below v h.1) k u e
  links_below (user s l c v) h k u e = below_first _ c (vars_links A v) (name_below A c h.1) (vars_below v h.2) k u e
  links_below (float s l) h k v e = apart (cc)
  links_below (bignum low high m) h k v e = apart (cc)

  -- every link of a well-formed arena's node leads to a node
  pub node_links_below : Right A → (v : ℕ) → v < length A.nodes → Below (length A.nodes) (links A (node A v))
  node_links_below ρ v h = links_below (node A v) (ρ.rows_right v (node A v) (at_node A v h))
