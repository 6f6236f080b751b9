-- What each test of a call says: 1, 2, 13, 14 and 16.
use Prim.Native.Nat.{ℕ, zero, suc, ◌+◌, ◌-◌, ◌*◌, ◌≤◌, ◌<◌}
use native.Mathlib.Omega.{arith}
use native.Mathlib.Numerals.{add-one}
use mathlib.Core.Bool.{Bool, true, false, ◌||◌}
use mathlib.Core.List.{List, [], ◌∷◌, ◌++◌}
use mathlib.Core.Option.{Option}
use Rattle.std.specs.Prelude.{Result, Ok, Err, MatchResult, IsErrAnd}
use mathlib.Core.Path.{◌≡◌, refl, sym, ap, ◌∙◌}
use lib.Dec.{eqb}
use lib.ListN.{length, get_or, drop, drop_of_length-le}
use lib.Seq.{drop-cons}
use native.Mathlib.Decide.{dec_lt}
use borrow.Author.Tests.{lt-ltb, le-ltb, eqb-true}
use Rattle.definition.specs.Run.{Run, ok, refused, pure, refuse, next, ◌>>=◌, look, pick}
use Rattle.definition.specs.Node.{Row, row_of, rows, width, START, LENGTH, LIST, COUNT, NAME, DEFAULT, CLASS, kind, word, words, array_kind, hash_kind, string_kind, optional_node}
use Rattle.definition.specs.Magnitude.{fits}
use Rattle.definition.specs.Arena.{arena, node, firsts, is_name, lowest, allowed, sound, fault}
use Rattle.definition.specs.Build.{Lent, held, wrong, check, check_handles, check_names, check_magnitude, takes_class, check_class}
use Rattle.definition.specs.declared.Counts.{Counts}
use Rattle.definition.specs.declared.Fault.{Fault}
use Rattle.definition.specs.declared.Refusal.{Refusal}
use Rattle.definition.specs.declared.Refusal.TheVariants.{BadTables, BadArena, BadHandle, WrongKind, TooBig}
use Rattle.lists.specs.Rows.{row_4, row_5, row_7}
use Rattle.lists.specs.Runs.{no_ok, err_is}
use Rattle.lists.specs.Slices.{Small}
use Rattle.arena_check.specs.Held.{checked, FitIf}
use Rattle.call_check.specs.Tests.{Says, FitsIf}
use Rattle.arena_check.proofs.Lists.{kind_test}
use Rattle.arena_check.proofs.Rights.{not_so}
use Rattle.well_formed.specs.Nodes.{node_row}

-- ---- 1

-- no slice besides the tables
pub none_lowest : lowest [] ≡ 0
unfolding lowest
none_lowest = refl

-- ---- 1, then 2

module _ (L : Lent) (ts : List (ℕ × Bool)) (w : ℕ) (e : w ≡ wrong L.tables ts) where
  pub check_wrong : (w ≡ 0 → ⊥) → check ts L ≡ refused (BadTables w)
  unfolding check look ◌>>=◌ next allowed refuse pure
  check_wrong n = rw (← e) (go w n)
    where
      go : (w : ℕ) → (w ≡ 0 → ⊥) → next (allowed w L) (λ _. sound (fault L.tables L.counts)) ≡ refused (BadTables w)
      go zero n = absurd (n refl)
      go (suc w) n = refl

  check_on : w ≡ 0 → check ts L ≡ sound (fault L.tables L.counts) L
  unfolding check look ◌>>=◌ next allowed pure
  check_on z = rw (← e, z) refl

  -- what the test of the arena found, as the call's answer
  pub check_says : w ≡ 0 → (r : Result (Unit {0}) Fault) (s : Result (Unit {0}) Refusal) → MatchResult r (λ u. s ≡ Ok u) (λ f. IsErrAnd s (λ q. q ≡ BadArena f)) → checked r ≡ fault L.tables L.counts → Says s (check ts) L
  unfolding sound pure refuse
  check_says z (Ok u) s p f = rw p (check_on z ∙ ap (λ (o : Option Fault). sound o L) (sym f))
  check_says z (Err x) s p f = rw (err_is s p) (check_on z ∙ ap (λ (o : Option Fault). sound o L) (sym f))

pub check_fits : (n e b more : ℕ) (c : Counts) (r : Result (Unit {0}) Fault) (s : Result (Unit {0}) Refusal) → MatchResult r (λ u. s ≡ Ok u) (λ f. IsErrAnd s (λ q. q ≡ BadArena f)) → Small n e b → more ≡ 0 → FitIf r n e b c → FitsIf s n e b more c
check_fits n e b more c (Ok u) s p k z f = rw p (record { small = k; none_more = z; fits = f })
check_fits n e b more c (Err x) s p k z f = rw (err_is s p) tt

-- ---- 13

module _ (L : Lent) (count h : ℕ) (hs : List ℕ) (e : L.counts.nodes ≡ count) where
  pub handle_on : h < count → check_handles (h ∷ hs) L ≡ check_handles hs L
  unfolding check_handles look pick
  handle_on l = rw (e, lt-ltb h count l) refl

  pub handle_not : count ≤ h → check_handles (h ∷ hs) L ≡ refused (BadHandle h)
  unfolding check_handles look pick refuse
  handle_not l = rw (e, le-ltb h count l) refl

pub no_handles : (L : Lent) → check_handles [] L ≡ ok tt L
unfolding check_handles pure
no_handles L = refl

-- ---- 14

module _ (L : Lent) (h : ℕ) (hs : List ℕ) where
  pub name_on : true ≡ is_name (held L) h → check_names (h ∷ hs) L ≡ check_names hs L
  unfolding check_names look pick
  name_on t = ap (λ (b : Bool). pick b (check_names hs) (refuse (WrongKind h)) L) (sym t)

  pub name_not : false ≡ is_name (held L) h → check_names (h ∷ hs) L ≡ refused (WrongKind h)
  unfolding check_names look pick refuse
  name_not t = ap (λ (b : Bool). pick b (check_names hs) (refuse (WrongKind h)) L) (sym t)

pub no_names : (L : Lent) → check_names [] L ≡ ok tt L
unfolding check_names pure
no_names L = refl

-- ---- 16

module _ (L : Lent) (m : ℕ) where
  pub magnitude_on : m < 9223372036854775808 → check_magnitude m L ≡ ok tt L
  unfolding check_magnitude fits pick pure
  magnitude_on l = rw (lt-ltb m 9223372036854775808 l) refl

  pub magnitude_not : 9223372036854775808 ≤ m → check_magnitude m L ≡ refused (TooBig 4)
  unfolding check_magnitude fits pick refuse
  magnitude_not l = rw (le-ltb m 9223372036854775808 l) refl

-- ---- lists of handles and of names

-- handles one after the other
pub handles_app : (xs ys : List ℕ) (L : Lent) → check_handles xs L ≡ ok tt L → check_handles (xs ++ ys) L ≡ check_handles ys L
handles_app [] ys L e = refl
handles_app (x ∷ xs) ys L e = go (dec_lt x L.counts.nodes) (λ q. handles_app xs ys L q)
  where
    go : Dec (x < L.counts.nodes) → (check_handles xs L ≡ ok tt L → check_handles (xs ++ ys) L ≡ check_handles ys L) → check_handles (x ∷ xs ++ ys) L ≡ check_handles ys L
    go (yes l) ih = handle_on L L.counts.nodes x (xs ++ ys) refl l ∙ ih (sym (handle_on L L.counts.nodes x xs refl l) ∙ e)
    go (no l) ih = let q = sym (handle_not L L.counts.nodes x xs refl (omega arith)) ∙ e in no_ok q

pub handles_stop : (xs ys : List ℕ) (L : Lent) (q : Refusal) → check_handles xs L ≡ refused q → check_handles (xs ++ ys) L ≡ refused q
handles_stop [] ys L q e = let z = sym e ∙ no_handles L in no_ok z
handles_stop (x ∷ xs) ys L q e = go (dec_lt x L.counts.nodes) (λ p. handles_stop xs ys L q p)
  where
    go : Dec (x < L.counts.nodes) → (check_handles xs L ≡ refused q → check_handles (xs ++ ys) L ≡ refused q) → check_handles (x ∷ xs ++ ys) L ≡ refused q
    go (yes l) ih = handle_on L L.counts.nodes x (xs ++ ys) refl l ∙ ih (sym (handle_on L L.counts.nodes x xs refl l) ∙ e)
    go (no l) ih = handle_not L L.counts.nodes x (xs ++ ys) refl (omega arith) ∙ sym (handle_not L L.counts.nodes x xs refl (omega arith)) ∙ e

-- the handle at i, then those after it
module _ (L : Lent) (l : List ℕ) (i : ℕ) where
  handles_at : i < length l → check_handles (drop i l) L ≡ check_handles ((get_or l i 0 ∷ []) ++ drop (suc i) l) L
  handles_at h = ap (λ (m : List ℕ). check_handles m L) (drop-cons l i 0 h)

  pub handles_on : i < length l → check_handles (get_or l i 0 ∷ []) L ≡ ok tt L → check_handles (drop i l) L ≡ check_handles (drop (i + 1) l) L
  handles_on h k = handles_at h ∙ handles_app (get_or l i 0 ∷ []) (drop (suc i) l) L k ∙ ap (λ (j : ℕ). check_handles (drop j l) L) (sym (add-one i))

  pub handles_not : i < length l → (q : Refusal) → check_handles (get_or l i 0 ∷ []) L ≡ refused q → check_handles (drop i l) L ≡ refused q
  handles_not h q k = handles_at h ∙ handles_stop (get_or l i 0 ∷ []) (drop (suc i) l) L q k

pub handles_end : (L : Lent) (l : List ℕ) (i : ℕ) → length l ≤ i → check_handles (drop i l) L ≡ ok tt L
handles_end L l i h = ap (λ (m : List ℕ). check_handles m L) (drop_of_length-le l {i = i} h) ∙ no_handles L

pub held_nodes : (L : Lent) (t : List ℕ) (count : ℕ) → L.tables.nodes ≡ t → L.counts.nodes ≡ count → (held L).nodes ≡ rows count t
unfolding arena
held_nodes L t count e f = λ i. rows (f i) (e i)

-- a name before other names
module _ (L : Lent) (h : ℕ) (hs : List ℕ) where
  pub names_then : check_names (h ∷ []) L ≡ ok tt L → check_names (h ∷ hs) L ≡ check_names hs L
  names_then e = go (is_name (held L) h) refl
    where
      go : (b : Bool) → is_name (held L) h ≡ b → check_names (h ∷ hs) L ≡ check_names hs L
      go true q = name_on L h hs (sym q)
      go false q = no_ok (sym (name_not L h [] (sym q)) ∙ e)

  pub names_stop : (q : Refusal) → check_names (h ∷ []) L ≡ refused q → check_names (h ∷ hs) L ≡ refused q
  names_stop q e = go (is_name (held L) h) refl
    where
      go : (b : Bool) → is_name (held L) h ≡ b → check_names (h ∷ hs) L ≡ refused q
      go true p = no_ok (sym e ∙ (name_on L h [] (sym p) ∙ no_names L))
      go false p = name_not L h hs (sym p) ∙ (sym (name_not L h [] (sym p)) ∙ e)

pairs_step : (l : List ℕ) (i : ℕ) → i * 2 + 2 ≤ length l → drop (i * 2) l ≡ get_or l (i * 2) 0 ∷ get_or l (suc (i * 2)) 0 ∷ drop ((i + 1) * 2) l
pairs_step l i h =
    let z : suc (suc (i * 2)) ≡ (i + 1) * 2 = omega arith in
    drop-cons l (i * 2) 0 (omega arith)
    ∙ ap (λ (m : List ℕ). get_or l (i * 2) 0 ∷ m) (drop-cons l (suc (i * 2)) 0 (omega arith))
    ∙ ap (λ (k : ℕ). get_or l (i * 2) 0 ∷ get_or l (suc (i * 2)) 0 ∷ drop k l) z

module _ (L : Lent) (l : List ℕ) (i : ℕ) where
  step : i * 2 + 2 ≤ length l → check_names (firsts (drop (i * 2) l)) L ≡ check_names (get_or l (i * 2) 0 ∷ firsts (drop ((i + 1) * 2) l)) L
  unfolding firsts
  step h = ap (λ (m : List ℕ). check_names (firsts m) L) (pairs_step l i h)

  pub pair_names_on : i * 2 + 2 ≤ length l → check_names (get_or l (i * 2) 0 ∷ []) L ≡ ok tt L → check_names (firsts (drop (i * 2) l)) L ≡ check_names (firsts (drop ((i + 1) * 2) l)) L
  pair_names_on h t = step h ∙ names_then L (get_or l (i * 2) 0) (firsts (drop ((i + 1) * 2) l)) t

  pub pair_names_not : i * 2 + 2 ≤ length l → (q : Refusal) → check_names (get_or l (i * 2) 0 ∷ []) L ≡ refused q → check_names (firsts (drop (i * 2) l)) L ≡ refused q
  pair_names_not h q t = step h ∙ names_stop L (get_or l (i * 2) 0) (firsts (drop ((i + 1) * 2) l)) q t

  pub pair_names_end : length l ≤ i * 2 → check_names (firsts (drop (i * 2) l)) L ≡ ok tt L
  unfolding firsts
  pair_names_end h = ap (λ (m : List ℕ). check_names (firsts m) L) (drop_of_length-le l {i = i * 2} h) ∙ no_names L

-- ---- a node that takes a class

-- a row takes a class exactly where word 0 says so
pub class_test : (k a b s n c f w : ℕ) → takes_class (kind (row_of k a b s n c f w)) ≡ takes_class k
unfolding takes_class
class_test k a b s n c f w =
    λ i. kind_test array_kind (omega arith) (omega arith) k a b s n c f w i || kind_test hash_kind (omega arith) (omega arith) k a b s n c f w i || kind_test string_kind (omega arith) (omega arith) k a b s n c f w i

-- word 7 of a row that takes a class
class_word : (k a b s n c f w : ℕ) → takes_class k ≡ true → word (row_of k a b s n c f w) CLASS ≡ w
unfolding words takes_class
class_word k a b s n c f w t = go (eqb k array_kind) (eqb k hash_kind) (eqb k string_kind) refl refl refl t
  where
    go : (x y z : Bool) → eqb k array_kind ≡ x → eqb k hash_kind ≡ y → eqb k string_kind ≡ z → (x || y || z) ≡ true → word (row_of k a b s n c f w) CLASS ≡ w
    go true y z p q r t = ap (λ (r : Row). word r CLASS) (row_4 k a b s n c f w (eqb-true k array_kind p))
    go false true z p q r t = ap (λ (r : Row). word r CLASS) (row_5 k a b s n c f w (eqb-true k hash_kind q))
    go false false true p q r t = ap (λ (r : Row). word r CLASS) (row_7 k a b s n c f w (eqb-true k string_kind r))
    go false false false p q r t = not_so t

module _ (L : Lent) (t : List ℕ) (count h : ℕ) (e : L.tables.nodes ≡ t) (f : L.counts.nodes ≡ count) (l : h < count) where
  at_word : node (held L) h ≡ row_of (get_or t (h * width) 0) (get_or t (h * width + START) 0) (get_or t (h * width + LENGTH) 0) (get_or t (h * width + LIST) 0) (get_or t (h * width + COUNT) 0) (get_or t (h * width + NAME) 0) (get_or t (h * width + DEFAULT) 0) (get_or t (h * width + CLASS) 0)
  at_word = node_row (held L) count t (held_nodes L t count e f) h l

  class_kind : takes_class (get_or t (h * width) 0) ≡ takes_class (kind (node (held L) h))
  class_kind = sym (ap (λ (r : Row). takes_class (kind r)) at_word ∙ class_test _ _ _ _ _ _ _ _)

  pub class_on : true ≡ takes_class (get_or t (h * width) 0) → check_class h L ≡ ok tt L
  unfolding check_class look pick pure
  class_on q = ap (λ (b : Bool). pick b (pure tt) (refuse (WrongKind h)) L) (sym (q ∙ class_kind))

  pub class_not : false ≡ takes_class (get_or t (h * width) 0) → check_class h L ≡ refused (WrongKind h)
  unfolding check_class look pick refuse
  class_not q = ap (λ (b : Bool). pick b (pure tt) (refuse (WrongKind h)) L) (sym (q ∙ class_kind))

  -- a node that was tested has its class in word 7
  pub old_class : check_class h L ≡ ok tt L → get_or t (h * width + CLASS) 0 ≡ word (node (held L) h) CLASS
  unfolding check_class look pick pure refuse
  old_class q = sym (ap (λ (r : Row). word r CLASS) at_word ∙ class_word _ _ _ _ _ _ _ _ (class_kind ∙ go (takes_class (kind (node (held L) h))) q))
    where
      go : (b : Bool) → pick {A = Run Lent (Unit {0})} b (pure tt) (refuse (WrongKind h)) L ≡ ok tt L → b ≡ true
      go true q = refl
      go false q = no_ok q

-- ---- a default or a class

-- a test of handles or of names, on a node that may be missing
module _ (test : List ℕ → Run Lent (Unit {0})) (L : Lent) (w : ℕ) where
  pub optional_none : test [] L ≡ ok tt L → w ≡ 0 → test (optional_node w) L ≡ ok tt L
  unfolding optional_node
  optional_none n e = ap (λ (k : ℕ). test (optional_node k) L) e ∙ n

  pub optional_some : (w ≡ 0 → ⊥) → test (optional_node w) L ≡ test ((w - 1) ∷ []) L
  unfolding optional_node
  optional_some n = let z : w ≡ suc (w - 1) = omega arith in ap (λ (k : ℕ). test (optional_node k) L) z
