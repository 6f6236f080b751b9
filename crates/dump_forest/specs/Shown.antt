-- A row by the node that is seen of it.
use Rattle.std.specs.Prelude.{ℕ, zero, suc, ◌*◌, ◌≡◌, refl, Bool, true, false, List, [], ◌∷◌, ◌++◌}
use Rattle.std.proofs.Common.{subst}
use Rattle.definition.specs.Run.{pick}
use Rattle.definition.specs.Node.{Row, nil, bool, fixnum, symbol, array, hash, object, string, user, float, bignum, absent, present, kind, words, optional_node, optional_present}
use Rattle.definition.specs.Magnitude.{magnitude}
use Rattle.definition.specs.Arena.{Arena, node, range, name_of}
use Rattle.definition.specs.Graph.{header_of, header, links, vars_links, vars_count, vars_present}
use Rattle.lists.specs.Lists.{At}
use Rattle.graph.specs.Forest.{Node, leaf, sym, box}
use Rattle.graph.specs.View.{see, seen, at_see}

pub data Shown (A : Arena) : Row → Node → Type 0 where
  nil_shown : Shown A nil (leaf 0 0)
  false_shown : Shown A (bool false) (leaf 1 0)
  true_shown : Shown A (bool true) (leaf 1 1)
  fixnum_shown : {w : ℕ} → Shown A (fixnum w) (leaf 2 w)
  symbol_shown : {s l : ℕ} → Shown A (symbol s l) (sym (range A.bytes s l))
  array_shown : {s n w : ℕ} → Shown A (array s n w) (box (header_of 4 0 [] n false (optional_present w)) (optional_node w ++ range A.references s n))
  hash_shown : {s n w : ℕ} → Shown A (hash s n 0 w) (box (header_of 5 0 [] n false (optional_present w)) (optional_node w ++ (range A.references s (n * 2) ++ [])))
  default_shown : {s n d w : ℕ} → Shown A (hash s n (suc d) w) (box (header_of 5 0 [] n true (optional_present w)) (optional_node w ++ (range A.references s (n * 2) ++ (d ∷ []))))
  object_shown : {s n c : ℕ} → Shown A (object s n c) (box (header_of 6 0 [] n false false) (c ∷ range A.references s (n * 2)))
  string_shown : {s l w : ℕ} → Shown A (string s l absent w) (box (header_of 7 0 (range A.bytes s l) 0 false (optional_present w)) (optional_node w ++ []))
  string_vars_shown : {s l p n w : ℕ} → Shown A (string s l (present p n) w) (box (header_of 7 0 (range A.bytes s l) n true (optional_present w)) (optional_node w ++ range A.references p (n * 2)))
  user_shown : {s l c : ℕ} → Shown A (user s l c absent) (box (header_of 8 0 (range A.bytes s l) 0 false false) (c ∷ []))
  user_vars_shown : {s l c p n : ℕ} → Shown A (user s l c (present p n)) (box (header_of 8 0 (range A.bytes s l) n true false) (c ∷ range A.references p (n * 2)))
  float_shown : {s l : ℕ} → Shown A (float s l) (box (header_of 9 0 (range A.bytes s l) 0 false false) [])
  bignum_shown : {low high : ℕ} {m : Bool} → Shown A (bignum low high m) (box (header_of 10 (magnitude low high) [] 0 m false) [])

pub shown : (A : Arena) (r : Row) → Shown A r (see A r)
unfolding see header links vars_links vars_count vars_present optional_node optional_present
shown A nil = nil_shown
shown A (bool false) = false_shown
shown A (bool true) = true_shown
shown A (fixnum w) = fixnum_shown
shown A (symbol s l) = symbol_shown
shown A (array s n w) = array_shown
shown A (hash s n zero w) = hash_shown
shown A (hash s n (suc d) w) = default_shown
shown A (object s n c) = object_shown
shown A (string s l absent w) = string_shown
shown A (string s l (present p n) w) = string_vars_shown
shown A (user s l c absent) = user_shown
shown A (user s l c (present p n)) = user_vars_shown
shown A (float s l) = float_shown
shown A (bignum low high m) = bignum_shown

pub shown_at : (A : Arena) (v : ℕ) (n : Node) → At (seen A) v n → Shown A (node A v) n
shown_at A v n a = subst (Shown A (node A v)) (at_see A v n a).0 (shown A (node A v))

pub name_shown : (A : Arena) (r : Row) (b : List ℕ) → Shown A r (sym b) → name_of A.bytes r ≡ b
unfolding name_of kind words pick
name_shown A r b symbol_shown = refl
