-- An arena with a node, its bytes and its list added at the ends: every node that was right is right, and reads the same.
use Rattle.std.specs.Prelude.{ℕ, ◌+◌, ◌*◌, ◌≤◌, ◌<◌, ◌≡◌, true, List, [], ◌∷◌, ◌++◌, leb}
use Rattle.std.proofs.Common.{ap, subst, ◌∙◌}
use Rattle.std.proofs.Math.ListN.{length, length-append}
use native.Mathlib.Omega.{arith}
use borrow.Author.Tests.{le-leb}
use Rattle.definition.specs.Node.{Row, Vars, nil, bool, fixnum, symbol, array, hash, object, string, user, float, bignum, absent, present, kind, words, optional_node}
use Rattle.definition.specs.Arena.{Arena, node, range, firsts, all_below, is_name, all_names, bytes_right, list_right, pairs_right, row_right}
use Rattle.definition.specs.Graph.{header, links}
use Rattle.lists.specs.Joined.{yes_and}
use Rattle.lists.specs.Lists.{At, no_at, at_app, at_snoc, len_snoc, below_up}
use Rattle.lists.specs.Ranges.{range_more, range_last}
use Rattle.well_formed.specs.Nodes.{node_at, at_node, Name}
use Rattle.states.specs.Rows.{bytes_start, bytes_length, list_start, list_length, vars_start, vars_length, row_words, Within, links_same, header_same, ranges}
use Rattle.states.specs.Right.{row_names, RightIn, names_first, names_join, Onward, row_onward, is_name_yes, all_names_yes, list_right_yes, right_yes, pair_names, own_names}
use Rattle.well_formed.specs.Right.{VarsRight, ClassRight, RowRight, below_of, name_of_test, names_of, right_of, links_below}
use Rattle.definition.specs.Run.{pick}

abbrev pub grown : Arena → List ℕ → List ℕ → Row → Arena
grown A bs ms r = record { nodes = A.nodes ++ (r ∷ []); references = A.references ++ ms; bytes = A.bytes ++ bs; root = A.root }

-- ---- lists

-- what is added
pub range_added : (l m : List ℕ) (s n : ℕ) → length l ≡ s → length m ≡ n → range (l ++ m) s n ≡ m
range_added l m s n p q = rw (← p, ← q) (range_last l m)

-- ---- a row that passed its test is right

module _ (A : Arena) where
  vars_in : (v : Vars) → VarsRight A v → vars_start v + vars_length v ≤ length A.references
  unfolding vars_start vars_length
  vars_in absent h = omega arith
  vars_in (present s n) h = h.list.inside

  row_in : (r : Row) → RowRight A r → Within A.references A.bytes r
  unfolding bytes_start bytes_length list_start list_length ranges
  row_in nil h = record { bytes_inside = omega arith; list_inside = omega arith }
  row_in (bool b) h = record { bytes_inside = omega arith; list_inside = omega arith }
  row_in (fixnum w) h = record { bytes_inside = omega arith; list_inside = omega arith }
  row_in (symbol s l) h = record { bytes_inside = h; list_inside = omega arith }
  row_in (array s n w) h = record { bytes_inside = omega arith; list_inside = h.0.inside }
  row_in (hash s n d w) h = record { bytes_inside = omega arith; list_inside = h.0.inside }
  row_in (object s n c) h = record { bytes_inside = omega arith; list_inside = h.1.list.inside }
  row_in (string s l v w) h = record { bytes_inside = h.0; list_inside = vars_in v h.1 }
  row_in (user s l c v) h = record { bytes_inside = h.0; list_inside = vars_in v h.2 }
  row_in (float s l) h = record { bytes_inside = h; list_inside = omega arith }
  row_in (bignum low high m) h = record { bytes_inside = omega arith; list_inside = omega arith }

  vars_names : (v : Vars) → VarsRight A v → (k c : ℕ) → At (firsts (range A.references (vars_start v) (vars_length v))) k c → Name A c
  unfolding vars_start vars_length range firsts
  vars_names absent h k c a = no_at k c a
  vars_names (present s n) h k c a = h.names k c a

  class_names : (w : ℕ) → ClassRight A w → (k c : ℕ) → At (optional_node w ++ []) k c → Name A c
  class_names w h = names_join A (optional_node w) [] h (λ k c a. no_at k c a)

  names_in : (r : Row) → RowRight A r → (k c : ℕ) → At (row_names A r) k c → Name A c
  unfolding row_names own_names pair_names kind words optional_node list_start list_length ranges pick
  names_in nil h k c a = no_at k c a
  names_in (bool b) h k c a = no_at k c a
  names_in (fixnum w) h k c a = no_at k c a
  names_in (symbol s l) h k c a = no_at k c a
  names_in (array s n w) h k c a = class_names w h.1 k c a
  names_in (hash s n d w) h k c a = class_names w h.2 k c a
  names_in (object s n c) h k d a = names_first A c (firsts (range A.references s (n * 2))) h.0 h.1.names k d a
  names_in (string s l v w) h k c a = names_join A (optional_node w) (firsts (range A.references (vars_start v) (vars_length v))) h.2 (vars_names v h.1) k c a
  names_in (user s l c v) h k d a = names_first A c (firsts (range A.references (vars_start v) (vars_length v))) h.1 (vars_names v h.2) k d a
  names_in (float s l) h k c a = no_at k c a
  names_in (bignum low high m) h k c a = no_at k c a

  pub right_in : (r : Row) → row_right A r ≡ true → RightIn A r
  right_in r e = let h = right_of A r e in record { inside = row_in r h; below = links_below A r h; names = names_in r h; number = λ low high m q. subst (RowRight A) q h }

-- ---- what was there

module _ (A : Arena) (bs ms : List ℕ) (r : Row) where
  abbrev G : Arena
  G = grown A bs ms r

  pub node_grown : (i : ℕ) → i < length A.nodes → node G i ≡ node A i
  node_grown i h = node_at G i (node A i) (at_app A.nodes (r ∷ []) i (node A i) (at_node A i h))

  pub node_added : (i : ℕ) → i ≡ length A.nodes → node G i ≡ r
  node_added i e = ap (node G) e ∙ node_at G (length A.nodes) r (at_snoc A.nodes r)

  on_grown : Onward A G
  on_grown = record {
    count = omega (arith, len_snoc A.nodes r);
    names = λ c (s, l, e). (s, l, at_app A.nodes (r ∷ []) c (symbol s l) e);
    more_bytes = omega (arith, length-append A.bytes bs);
    more_words = omega (arith, length-append A.references ms);
  }

  pub name_grown : (c : ℕ) → is_name A c ≡ true → is_name G c ≡ true
  name_grown c e = is_name_yes G c (on_grown.names c (name_of_test A c e))

  words_grown : (q : Row) → row_right A q ≡ true → row_words G q ≡ row_words A q
  words_grown q e = range_more A.references ms _ _ (right_in A q e).inside.list_inside

  -- a row that passed its test passes it again
  pub right_grown : (q : Row) → row_right A q ≡ true → row_right G q ≡ true
  right_grown q e = right_yes G q (row_onward A G q on_grown (words_grown q e) (right_in A q e))

  -- and has the same links
  pub links_grown : (q : Row) → row_right A q ≡ true → links G q ≡ links A q
  links_grown q e = links_same A G q (words_grown q e)

  -- and the same header, with its byte string
  pub header_grown : (q : Row) → row_right A q ≡ true → header G q ≡ header A q
  header_grown q e = header_same A G q (range_more A.bytes bs _ _ (right_in A q e).inside.bytes_inside)

  -- ---- the node added: its bytes and its list are those added

  pub bytes_added : (s : ℕ) → length A.bytes ≡ s → bytes_right G s (length bs) ≡ true
  unfolding bytes_right
  bytes_added s e = le-leb (s + length bs) (length (A.bytes ++ bs)) (omega (arith, length-append A.bytes bs))

  pub list_added : (s n : ℕ) → length A.references ≡ s → length ms ≡ n → all_below (length A.nodes) ms ≡ true → list_right G s n ≡ true
  list_added s n p q b =
      list_right_yes G s n (omega (arith, length-append A.references ms))
      (rw (range_added A.references ms s n p q) (below_up _ _ ms on_grown.count (below_of (length A.nodes) ms b)))

  pub pairs_added : (s n : ℕ) → length A.references ≡ s → length ms ≡ n * 2 → all_below (length A.nodes) ms ≡ true → all_names A (firsts ms) ≡ true → pairs_right G s n ≡ true
  unfolding pairs_right
  pairs_added s n p q b m =
      yes_and _ _ (list_added s (n * 2) p q b) (rw (range_added A.references ms s (n * 2) p q) (all_names_yes G (firsts ms) (λ k c a. on_grown.names c (names_of A (firsts ms) m k c a))))

  pub default_added : (d : ℕ) → d ≤ length A.nodes → leb d (length G.nodes) ≡ true
  default_added d h = le-leb d (length G.nodes) (omega (arith, on_grown.count))
