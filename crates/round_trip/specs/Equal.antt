-- Any two arenas that are dumped, however they were made: equal bytes exactly for the same graph.
use Rattle.std.specs.Prelude.{ℕ, zero, suc, ◌+◌, ◌≤◌, ◌<◌, ◌≡◌, refl, ◌↔◌, List, [], ◌∷◌, ◌++◌, length, get_or, take, drop}
use Rattle.std.proofs.Common.{ap, sym, ◌∙◌, get_or-take, get_or-drop, arith}
use Rattle.std.proofs.Math.Option.{none, some}
use Rattle.std.proofs.Math.ListN.{get_elem?}
use Rattle.std.proofs.lemmas.List.{length-map}
use Rattle.definition.specs.Run.{ok}
use Rattle.definition.specs.Node.{Row, fixnum, kind, row_of, row, rows, width, START}
use Rattle.definition.specs.Arena.{Tables, Arena, arena, node, range, fault}
use Rattle.definition.specs.Dump.{Written, dump, dump_wrong, DumpCall}
use Rattle.definition.specs.Graph.{SameGraph}
use Rattle.definition.specs.Slice.{greatest_length}
use Rattle.definition.specs.declared.Counts.{Counts}
use Rattle.lists.specs.Lists.{At, at_lt, len_snoc, apart}
use Rattle.lists.specs.Ranges.{length_range}
use Rattle.lists.specs.Rows.{row_2, kind_is}
use Rattle.lists.specs.Slices.{tables_right}
use Rattle.graph.specs.Sums.{total}
use Rattle.graph.specs.Forest.{Node, leaf, box, Num, fresh, F, node_box, node_sym}
use Rattle.graph.specs.Forest.{sym as symbol_node}
use Rattle.graph.specs.Describe.{E, e_end, e_leaf, e_box, e_ref, e_sym, e_symref, e_len, boxes_numbered, symbols_numbered}
use Rattle.graph.specs.View.{see, seen, at_see}
use Rattle.well_formed.specs.Nodes.{at_node}
use Rattle.well_formed.specs.Right.{Right, RowRight, Fixnums, fault_right, fault_fit}
use Rattle.dump_forest.specs.Shown.{Shown, nil_shown, false_shown, true_shown, fixnum_shown, symbol_shown, array_shown, hash_shown, default_shown, object_shown, string_shown, string_vars_shown, user_shown, user_vars_shown, float_shown, bignum_shown, shown_at}
use Rattle.dump_forest.specs.Sound.{dump_sound}
use Rattle.dump_forest.specs.Same.{one_graph}
use Rattle.dump_forest.specs.Writers.{num}
use Rattle.dump_forest.specs.Alike.{dump_same}
use Rattle.dump_forest.specs.Call.{call_accepted}
use Rattle.load_forest.specs.Call.{take_padded}
use Rattle.round_trip.specs.Statement.{DumpAccepted, written}
use Rattle.round_trip.specs.Space.{taken}
use Rattle.round_trip.specs.Print.{Bounded, one_forest}
use Rattle.round_trip.specs.Theorem.{same_text}

-- ---- what a small arena's nodes are

-- no table has more than 2,147,483,647 entries
pub record Small (A : Arena) : Type 0 where
  pub nodes : length A.nodes ≤ greatest_length
  pub references : length A.references ≤ greatest_length
  pub bytes : length A.bytes ≤ greatest_length

abbrev BoundedNode : Node → Type 0
BoundedNode (leaf k w) = w < 4294967296
BoundedNode (symbol_node b) = length b < 2147483648
BoundedNode (box h ms) = (h.count < 2147483648) × (length h.bytes < 2147483648)

module _ (A : Arena) (m : Small A) where
  range_bounded : (s l : ℕ) → s + l ≤ length A.bytes → length (range A.bytes s l) < 2147483648
  range_bounded s l h = omega (arith, length_range A.bytes s l h, m.bytes)

  row_bounded : {r : Row} {n : Node} → ((w : ℕ) → r ≡ fixnum w → w < 4294967296) → RowRight A r → Shown A r n → BoundedNode n
  row_bounded f h nil_shown = omega arith
  row_bounded f h false_shown = omega arith
  row_bounded f h true_shown = omega arith
  row_bounded f h (fixnum_shown {w}) = f w refl
  row_bounded f h (symbol_shown {s} {l}) = range_bounded s l h
  row_bounded f h (array_shown {s} {n}) = (omega (arith, h.0.inside, m.references), omega arith)
  row_bounded f h (hash_shown {s} {n}) = (omega (arith, h.0.inside, m.references), omega arith)
  row_bounded f h (default_shown {s} {n} {d}) = (omega (arith, h.0.inside, m.references), omega arith)
  row_bounded f h (object_shown {s} {n} {c}) = (omega (arith, h.1.list.inside, m.references), omega arith)
  row_bounded f h (string_shown {s} {l}) = (omega arith, range_bounded s l h.0)
  row_bounded f h (string_vars_shown {s} {l} {p} {n}) = (omega (arith, h.1.list.inside, m.references), range_bounded s l h.0)
  row_bounded f h (user_shown {s} {l} {c}) = (omega arith, range_bounded s l h.0)
  row_bounded f h (user_vars_shown {s} {l} {c} {p} {n}) = (omega (arith, h.2.list.inside, m.references), range_bounded s l h.0)
  row_bounded f h (float_shown {s} {l}) = (omega arith, range_bounded s l h)
  row_bounded f h bignum_shown = (omega arith, omega arith)

  node_bounded : Right A → Fixnums A → (v : ℕ) (n : Node) → At (seen A) v n → BoundedNode n
  node_bounded ρ fx v n a =
      let i = at_node A v (at_see A v n a).1 in
      row_bounded (λ w e. fx v w (i ∙ ap some e)) (ρ.rows_right v (node A v) i) (shown_at A v n a)

-- ---- a forest that describes such nodes

described : {t : List Node} {g : F} {vs : List ℕ} {σ σ' : Num} → ((v : ℕ) (n : Node) → At t v n → BoundedNode n) → length σ'.objs ≤ greatest_length → length σ'.syms ≤ greatest_length → E t g vs σ σ' → Bounded g
described f o s e_end = tt
described f o s (e_leaf {k = k} {x = x} {v = v} a d) = (f v (leaf k x) a, described f o s d)
described f o s (e_box {h = h} {v = v} {us = us} {ms = ms} {σ₁ = σ₁} a d₀ n d₁ d) =
    let b = f v (box h (us ++ ms)) a in
    let o₂ = boxes_numbered d in
    let s₂ = symbols_numbered d in
    let o₁ = boxes_numbered d₁ in
    let s₁ = symbols_numbered d₁ in
    let e = len_snoc σ₁.objs v in
    (b.0, b.1, described f (omega arith) (omega arith) d₀, described f (omega arith) (omega arith) d₁, described f o s d)
described f o s (e_ref {k = k} {v = v} {σ = σ} a n d) = (omega (arith, at_lt σ.objs k v n, boxes_numbered d), described f o s d)
described f o s (e_sym {b = b} {v = v} a n d) = (f v (symbol_node b) a, described f o s d)
described f o s (e_symref {k = k} {v = v} {σ = σ} a n d) = (omega (arith, at_lt σ.syms k v n, symbols_numbered d), described f o s d)

boxes_most : (t : List Node) → total node_box t ≤ length t
boxes_most [] = omega arith
boxes_most (leaf k x ∷ t) = omega (arith, boxes_most t)
boxes_most (symbol_node b ∷ t) = omega (arith, boxes_most t)
boxes_most (box h ms ∷ t) = omega (arith, boxes_most t)

symbols_most : (t : List Node) → total node_sym t ≤ length t
symbols_most [] = omega arith
symbols_most (leaf k x ∷ t) = omega (arith, symbols_most t)
symbols_most (symbol_node b ∷ t) = omega (arith, symbols_most t)
symbols_most (box h ms ∷ t) = omega (arith, symbols_most t)

length_seen : (A : Arena) → length (seen A) ≡ length A.nodes
unfolding seen
length_seen A = length-map A.nodes (see A)

-- what describes a small arena is bounded
pub describes_bounded : (A : Arena) → Right A → Fixnums A → Small A → (g : F) (σ : Num) → E (seen A) g (A.root ∷ []) fresh σ → Bounded g
describes_bounded A ρ fx m g σ d =
    let k = taken (seen A) g A.root σ d in
    let l = length_seen A in
    let o : length σ.objs ≤ greatest_length = omega (arith, boxes_numbered d, k.objects, boxes_most (seen A), m.nodes) in
    let s : length σ.syms ≤ greatest_length = omega (arith, symbols_numbered d, k.symbols, symbols_most (seen A), m.nodes) in
    described (node_bounded A m ρ fx) o s d

-- ---- equal bytes, the same graph

pub dump_one_graph : (P Q : Arena) → Right P → Right Q → Fixnums P → Fixnums Q → Small P → Small Q → (size size' limit limit' : ℕ) (w w' : Written)
    → dump size P limit ≡ ok tt w → dump size' Q limit' ≡ ok tt w' → w.bytes ≡ w'.bytes → SameGraph P Q
dump_one_graph P Q ρ κ fp fq mp mq size size' limit limit' w w' e e' z =
    let d = dump_sound size P limit w ρ fp e in
    let d' = dump_sound size' Q limit' w' κ fq e' in
    let b = describes_bounded P ρ fp mp d.forest (num w) d.says in
    let b' = describes_bounded Q κ fq mq d'.forest (num w') d'.says in
    let x : d.text ≡ d'.text = same_text d.text d'.text (sym d.is ∙ z ∙ d'.is) in
    let t = rw (← x) at d'.writes in
    let q : d.forest ≡ d'.forest = one_forest limit limit' d.forest d'.forest d.text d.writes t b b' (e_len d.says ∙ sym (e_len d'.says)) in
    one_graph P Q d.forest (num w, d.says) (num w', rw (← q) at d'.says)

-- ---- the same of the calls

-- every entry has 32 bits: the type of a table of words
abbrev pub AreWords : List ℕ → Type 0
AreWords table = (k v : ℕ) → get_elem? table k ≡ some v → v < 4294967296

word_bounded : (t : List ℕ) → AreWords t → (k : ℕ) → get_or t k 0 < 4294967296
word_bounded [] b k = omega arith
word_bounded (x ∷ t) b zero = b 0 x refl
word_bounded (x ∷ t) b (suc k) = word_bounded t (λ j v e. b (suc j) v e) k

-- a fixnum's value is word 1
fixnum_word : (k a b s n c f v w : ℕ) → row_of k a b s n c f v ≡ fixnum w → a ≡ w
unfolding kind
fixnum_word k a b s n c f v w e =
    let z = row_2 k a b s n c f v (kind_is k a b s n c f v 2 (ap kind e) (omega arith)) in
    cc

rows_fixnum : (n : ℕ) (t : List ℕ) → ((k : ℕ) → get_or t k 0 < 4294967296) → (i w : ℕ) → At (rows n t) i (fixnum w) → w < 4294967296
unfolding rows row
rows_fixnum zero t b i w e = apart (cc)
rows_fixnum (suc n) t b zero w e =
    let q : row (take width t) ≡ fixnum w = cc in
    let z = fixnum_word _ (get_or (take width t) START 0) _ _ _ _ _ _ w q in
    omega (arith, z, get_or-take width t START 0 (omega arith), b START)
rows_fixnum (suc n) t b (suc i) w e = rows_fixnum n (drop width t) (λ k. rw (get_or-drop width t k 0) (b (width + k))) i w e

fixnums : (T : Tables) (c : Counts) → AreWords T.nodes → Fixnums (arena T c)
unfolding arena
fixnums T c b i w e = rows_fixnum c.nodes T.nodes (word_bounded T.nodes b) i w e

-- tables that a dump doesn't refuse with 1 are small
small : (T : Tables) (c : Counts) (scratch output : List ℕ) (limit : ℕ) → dump_wrong T scratch output limit ≡ 0 → fault T c ≡ none → Small (arena T c)
unfolding dump_wrong
small T c scratch output limit e nf =
    let t = (tables_right _ _ _ _ e).0 in
    let f = fault_fit T c nf in
    record {
      nodes = omega (arith, t.nodes_small, f.nodes, f.nodes_fit);
      references = omega (arith, t.references_small, f.references, f.references_fit);
      bytes = omega (arith, t.bytes_small, f.bytes, f.bytes_fit);
    }

-- two accepted dumps of any tables of words, under any limits, with any scratch and outputs
pub equal_bytes : (T U : Tables) (c d : Counts) → AreWords T.nodes → AreWords U.nodes
    → (scratch_p scratch-q output_p output-q : List ℕ) (limit_p limit-q : ℕ) → DumpAccepted T c scratch_p output_p limit_p → DumpAccepted U d scratch-q output-q limit-q
    → ((written T c scratch_p output_p limit_p ≡ written U d scratch-q output-q limit-q) ↔ SameGraph (arena T c) (arena U d))
equal_bytes T U c d wt wu scratch_p scratch-q output_p output-q limit_p limit-q p q =
    let x = call_accepted T c scratch_p output_p limit_p p in
    let y = call_accepted U d scratch-q output-q limit-q q in
    let u : written T c scratch_p output_p limit_p ≡ x.state.bytes = ap (λ (r : DumpCall). take r.answer.written r.output) x.call ∙ take_padded output_p x.state.bytes in
    let v : written U d scratch-q output-q limit-q ≡ y.state.bytes = ap (λ (r : DumpCall). take r.answer.written r.output) y.call ∙ take_padded output-q y.state.bytes in
    let ρ = fault_right T c x.no_fault in
    let κ = fault_right U d y.no_fault in
    let fp = fixnums T c wt in
    let fq = fixnums U d wu in (
      λ e. dump_one_graph (arena T c) (arena U d) ρ κ fp fq (small T c scratch_p output_p limit_p x.no_wrong x.no_fault) (small U d scratch-q output-q limit-q y.no_wrong y.no_fault)
          (length output_p) (length output-q) limit_p limit-q x.state y.state x.dumped y.dumped (sym u ∙ e ∙ v),
      λ s. u ∙ dump_same (arena T c) (arena U d) ρ κ fp fq s (length output_p) (length output-q) limit_p limit-q x.state y.state x.dumped y.dumped ∙ sym v,
    )
