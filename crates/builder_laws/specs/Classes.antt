-- `replace_class`: an accepted call leaves a well-formed arena in which that node's class word alone is another.
use Rattle.std.specs.Prelude.{ℕ, suc, ◌+◌, ◌*◌, ◌<◌, ◌≡◌, Bool, false, ◌&&◌, ◌≢◌, List, ◌∷◌, ltb, leb, length, set, take, drop}
use Rattle.std.proofs.Math.Path.{refl, ap, subst}
use Rattle.std.proofs.Common.{sym, ◌∙◌, length-set, drop-set-lt, arith, leb-true, ltb-false}
use Rattle.std.proofs.Math.Bool.{true}
use Rattle.std.proofs.Math.Option.{none}
use Rattle.std.proofs.Math.Seq.{take-set-lt}
use Rattle.std.proofs.lemmas.List.{drop-set-add}
use Rattle.std.proofs.Math.Decide.{ℕ_discrete}
use Rattle.definition.specs.Run.{ok}
use Rattle.definition.specs.Node.{Row, Vars, nil, bool, fixnum, symbol, array, hash, object, string, user, float, bignum, CLASS, width, kind, word, words, row, is_row, optional_node}
use Rattle.definition.specs.Arena.{Arena, arena, node, range, bytes_right, list_right, vars_right, class_right, row_right, node_right, fault}
use Rattle.definition.specs.Build.{Lent, lent, held, words_at, takes_class, set_class, exchange_class}
use Rattle.definition.specs.Graph.{header, links}
use Rattle.lists.specs.Joined.{and_left, and_right, yes_and}
use Rattle.lists.specs.Lists.{At, apart, at_lt}
use Rattle.lists.specs.Tables.{length_rows, rows_at, words_faulty, counts_fit_yes, fault_none}
use Rattle.lists.specs.Words.{equal_true}
use Rattle.well_formed.specs.Nodes.{node_at, at_node}
use Rattle.well_formed.specs.Right.{below_of, fault_fit}
use Rattle.states.specs.Right.{Onward, right_yes, row_onward}
use Rattle.states.specs.Rows.{links_same, header_same}
use Rattle.load_forest.specs.Call.{row_words_back, is_row_words}
use Rattle.builder_laws.specs.Tables.{range_set}
use Rattle.builder_laws.specs.Grown.{right_in}
use Rattle.builder_laws.specs.Append.{fault_words}
use Rattle.builder_laws.specs.Checks.{after_handles_checked, after_class, after_names}

-- ---- the row

-- a row with class w in place of the one it had
pub data Reclassed (w : ℕ) : Row → Row → Type 0 where
  of_array : {s n c : ℕ} → Reclassed w (array s n c) (array s n w)
  of_hash : {s n d c : ℕ} → Reclassed w (hash s n d c) (hash s n d w)
  of_string : {s l c : ℕ} {v : Vars} → Reclassed w (string s l v c) (string s l v w)

-- a row of kind 4, 5 or 7 takes one
reclassed : (w : ℕ) (r : Row) → takes_class (kind r) ≡ true → (q : Row) × Reclassed w r q
unfolding takes_class kind
reclassed w (array s n c) e = (array s n w, of_array)
reclassed w (hash s n d c) e = (hash s n d w, of_hash)
reclassed w (string s l v c) e = (string s l v w, of_string)
reclassed w nil e = apart (cc)
reclassed w (bool b) e = apart (cc)
reclassed w (fixnum v) e = apart (cc)
reclassed w (symbol s l) e = apart (cc)
reclassed w (object s n c) e = apart (cc)
reclassed w (user s l c v) e = apart (cc)
reclassed w (float s l) e = apart (cc)
reclassed w (bignum low high m) e = apart (cc)

words_reclassed : {w : ℕ} {r q : Row} → Reclassed w r q → set (words r) CLASS w ≡ words q
unfolding words
words_reclassed of_array = refl
words_reclassed of_hash = refl
words_reclassed of_string = refl

right_reclassed : {w : ℕ} {r q : Row} (A : Arena) → Reclassed w r q → class_right A w ≡ true → row_right A r ≡ true → row_right A q ≡ true
unfolding row_right
right_reclassed A (of_array {s} {n} {c}) k e = yes_and (list_right A s n) _ (and_left (list_right A s n) (class_right A c) e) k
right_reclassed A (of_hash {s} {n} {d} {c}) k e = let x = list_right A s (n * 2) && leb d (length A.nodes) in yes_and x _ (and_left x (class_right A c) e) k
right_reclassed A (of_string {s} {l} {c} {v}) k e = let x = bytes_right A s l && vars_right A v in yes_and x _ (and_left x (class_right A c) e) k

no_symbol : {w s l : ℕ} {r q : Row} → Reclassed w r q → r ≡ symbol s l → ⊥
no_symbol of_array e = apart (cc)
no_symbol of_hash e = apart (cc)
no_symbol of_string e = apart (cc)

-- ---- the words

class_words : (t : List ℕ) (h w : ℕ) → words_at (set t (h * width + CLASS) w) h ≡ set (words_at t h) CLASS w
unfolding words_at
class_words t h w = ap (take width) (drop-set-add (h * width) t CLASS w) ∙ take-set-lt width (drop (h * width) t) CLASS w (omega arith)

other_words : (t : List ℕ) (h w i : ℕ) → i ≢ h → words_at (set t (h * width + CLASS) w) i ≡ words_at t i
unfolding words_at range
other_words t h w i n = go (ltb i h) refl
  where
    go : (b : Bool) → ltb i h ≡ b → take width (drop (i * width) (set t (h * width + CLASS) w)) ≡ take width (drop (i * width) t)
    go true e = let l = leb-true (suc i) h e in range_set t (i * width) width (h * width + CLASS) w (omega arith)
    go false e =
        let l = ltb-false i h e in
        let m : h < i = omega (arith, n) in
        ap (take width) (drop-set-lt (i * width) t (h * width + CLASS) w (omega arith))

-- ---- the arena

-- what the call leaves
abbrev pub with_class : Lent → ℕ → ℕ → Lent
with_class L h w = lent (set L.tables.nodes (h * width + CLASS) w) L.tables.references L.tables.bytes L.counts

module _ (L : Lent) (h w : ℕ) (e : fault L.tables L.counts ≡ none) (l : h < L.counts.nodes) (q : Row) (c : Reclassed w (node (held L) h) q) where
  abbrev M : Lent
  M = with_class L h w

  node_words : (K : Lent) (i : ℕ) → i < K.counts.nodes → node (held K) i ≡ row (words_at K.tables.nodes i)
  unfolding node arena words_at
  node_words K i j = rows_at K.counts.nodes K.tables.nodes i j

  -- a node's words are its row's
  row_words : words_at L.tables.nodes h ≡ words (node (held L) h)
  unfolding node_right is_row
  row_words =
      let ws = words_at L.tables.nodes h in
      let x : is_row ws && row_right (held L) (row ws) ≡ true = fault_words L.tables L.counts e h l in
      equal_true ws (words (row ws)) (and_left (is_row ws) (row_right (held L) (row ws)) x) ∙ ap words (sym (node_words L h l))

  new_words : words_at M.tables.nodes h ≡ words q
  new_words = class_words L.tables.nodes h w ∙ ap (λ (ws : List ℕ). set ws CLASS w) row_words ∙ words_reclassed c

  new_row : node (held M) h ≡ q
  new_row = node_words M h l ∙ ap row new_words ∙ row_words_back q

  other_row : (i : ℕ) → i < L.counts.nodes → i ≢ h → node (held M) i ≡ node (held L) i
  other_row i j n = node_words M i j ∙ ap row (other_words L.tables.nodes h w i n) ∙ sym (node_words L i j)

  -- names stay: the node is none
  on_class : Onward (held L) (held M)
  unfolding arena
  on_class = record {
    count = omega (arith, length_rows L.counts.nodes L.tables.nodes, length_rows L.counts.nodes M.tables.nodes);
    names = λ d (s, n, a). (s, n, name d s n a);
    more_bytes = omega arith;
    more_words = omega arith;
  }
    where
      name : (d s n : ℕ) → At (held L).nodes d (symbol s n) → At (held M).nodes d (symbol s n)
      name d s n a =
          let z = node_at (held L) d (symbol s n) a in
          let j : d < L.counts.nodes = omega (arith, at_lt (held L).nodes d (symbol s n) a, length_rows L.counts.nodes L.tables.nodes) in
          let o : d ≢ h = λ k. no_symbol c (sym (ap (node (held L)) k) ∙ z) in
          let y : node (held M) d ≡ symbol s n = other_row d j o ∙ z in
          subst (At (held M).nodes d) y (at_node (held M) d (omega (arith, length_rows L.counts.nodes M.tables.nodes)))

  right_on : (r : Row) → row_right (held L) r ≡ true → row_right (held M) r ≡ true
  unfolding arena
  right_on r x = right_yes (held M) r (row_onward (held L) (held M) r on_class refl (right_in (held L) r x))

  fault_class : class_right (held L) w ≡ true → fault M.tables M.counts ≡ none
  unfolding node_right
  fault_class k =
      let f = fault_fit L.tables L.counts e in
      let z = counts_fit_yes M.tables M.counts f.some_node (rw (length-set L.tables.nodes (h * width + CLASS) w) f.nodes_fit) f.references_fit f.bytes_fit f.root_below in
      fault_none M.tables M.counts z (words_faulty (held M) L.counts.nodes 0 M.tables.nodes (λ i j. by i j (ℕ_discrete i h)))
    where
      right : (i : ℕ) → i < L.counts.nodes → row_right (held L) (row (words_at L.tables.nodes i)) ≡ true
      right i j = let ws = words_at L.tables.nodes i in and_right (is_row ws) (row_right (held L) (row ws)) (fault_words L.tables L.counts e i j)

      by : (i : ℕ) → i < L.counts.nodes → Dec (i ≡ h) → is_row (words_at M.tables.nodes i) && row_right (held M) (row (words_at M.tables.nodes i)) ≡ true
      by i j (yes z) = rw (z, new_words, row_words_back q) (yes_and _ _ (is_row_words q) (right_on q (right_reclassed (held L) c k (rw (node_words L h l) (right h l)))))
      by i j (no n) =
          let ws = words_at L.tables.nodes i in
          rw (other_words L.tables.nodes h w i n) (yes_and _ _ (and_left (is_row ws) (row_right (held L) (row ws)) (fault_words L.tables L.counts e i j)) (right_on (row ws) (right i j)))

-- ---- the law

-- what an accepted call did: it answered the old class and put the new one in its place
pub record Replaced (L : Lent) (h w old : ℕ) (M : Lent) : Type 0 where
  pub answer : old ≡ word (node (held L) h) CLASS
  pub left : M ≡ with_class L h w
  pub well_formed : fault M.tables M.counts ≡ none
  pub row_is : Reclassed w (node (held L) h) (node (held M) h)
  -- every other node reads the same
  pub rows : (i : ℕ) → i < L.counts.nodes → i ≢ h → node (held M) i ≡ node (held L) i
  pub headers : (i : ℕ) → i < L.counts.nodes → i ≢ h → header (held M) (node (held M) i) ≡ header (held L) (node (held L) i)
  pub links : (i : ℕ) → i < L.counts.nodes → i ≢ h → links (held M) (node (held M) i) ≡ links (held L) (node (held L) i)

header_class : (L : Lent) (h w : ℕ) (r : Row) → header (held (with_class L h w)) r ≡ header (held L) r
unfolding arena
header_class L h w r = header_same (held L) (held (with_class L h w)) r refl

links_class : (L : Lent) (h w : ℕ) (r : Row) → links (held (with_class L h w)) r ≡ links (held L) r
unfolding arena
links_class L h w r = links_same (held L) (held (with_class L h w)) r refl

pub class_replaced : (L M : Lent) (h w old : ℕ) → exchange_class h w L ≡ ok old M → Replaced L h w old M
unfolding exchange_class set_class class_right
class_replaced L M h w old e =
    let (s, b, e₁) = after_handles_checked (h ∷ optional_node w) _ L M old e in
    let (t, e₂) = after_class h _ L M old e₁ in
    let (n, e₃) = after_names (optional_node w) _ L M old e₂ in
    let (q, c) = reclassed w (node (held L) h) t in
    let l = below_of L.counts.nodes (h ∷ optional_node w) b 0 h refl in
    let z : M ≡ with_class L h w = cc in
    rw z (record {
      answer = cc;
      left = refl;
      well_formed = fault_class L h w s l q c n;
      row_is = rw (new_row L h w s l q c) c;
      rows = other_row L h w s l q c;
      headers = λ i j o. ap (header (held (with_class L h w))) (other_row L h w s l q c i j o) ∙ header_class L h w (node (held L) i);
      links = λ i j o. ap (links (held (with_class L h w))) (other_row L h w s l q c i j o) ∙ links_class L h w (node (held L) i);
    })
