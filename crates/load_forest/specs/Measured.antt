-- How much an accepted load copied and compared: each byte of the byte table once, and for each name read at most its own bytes with every distinct name.
use Rattle.std.specs.Prelude.{ℕ, zero, suc, ◌+◌, ◌*◌, ◌≤◌, ◌≡◌, false, List, [], ◌∷◌, ◌++◌, length, get_or, set}
use Rattle.std.proofs.Math.Path.{refl}
use Rattle.std.proofs.Common.{ap, subst, length-append, le_refl, le_trans, mul-le-mul, add-mul, arith}
use Rattle.definition.specs.Refused.{Accepted, Refused}
use Rattle.definition.specs.declared.Refusal.{Refusal}
use Rattle.definition.specs.Run.{Outcome, ok, refused, pick}
use Rattle.definition.specs.Node.{Row, nil, symbol, kind}
use Rattle.definition.specs.Arena.{compared_among}
use Rattle.definition.specs.State.{State, Room, noted}
use Rattle.definition.specs.Load.{Lists, load, room_of, load_wrong, load_done, load_if}
use Rattle.definition.specs.LoadMeasured.{measured_done, measured_if, measured_call}
use Rattle.lists.specs.Compared.{symbol_count, among_most as most}
use Rattle.lists.specs.Lists.{At, at_snoc, get_d_at, apart}
use Rattle.graph.specs.Sums.{total, total_snoc, total_set}
use Rattle.graph.specs.Forest.{sym}
use Rattle.graph.specs.View.{arena_of, state_seen}
use Rattle.load_forest.specs.Trace.{Mode, Trace, reading, plain, known, new, symbol_link, object_link, unclassed, classed, list, hash_default, object_pairs, text_bytes, user_bytes, bignum_node, stored, variables, no_elements, element, no_pairs, pair}
use Rattle.load_forest.specs.Readers.{load_traced}
use Rattle.load_forest.specs.Kept.{kept, nil_fixed}
use Rattle.load_forest.specs.Space.{is_symbol, range_most}
use Rattle.states.specs.Rows.{bytes_length, Varied, varied_string, varied_user, ranges}
use Rattle.states.specs.States.{sought, seen_at_inv, with_node, with_symbol, with_bytes, with_row, with_new_symbol}
use Rattle.states.specs.Symbols.{symbol_of}

-- ---- what the bound is made of

-- how many nodes are symbols; no two of an accepted load have the same name (load-names, Names)
abbrev pub distinct_names : List Row → ℕ
distinct_names rows = total is_symbol rows

-- a symbol's length word, and 0 for any other row
abbrev pub name_length : Row → ℕ
name_length r = is_symbol r * bytes_length r

-- the lengths of the names that the symbol list has, added up; each `:` name that is read is put on the list, repeats too, so these are the bytes of all names read
abbrev pub name_bytes : List Row → List ℕ → ℕ
name_bytes rows symbols = total (λ (h : ℕ). name_length (get_or rows h nil)) symbols

-- ---- what one search compares

-- no more than the name's bytes with every symbol
among_most : (bytes name : List ℕ) (rows : List Row) → compared_among bytes name rows ≤ length name * distinct_names rows
unfolding is_symbol
among_most bytes name rows = subst (λ (n : ℕ). compared_among bytes name rows ≤ length name * n) (counted rows) (most bytes name rows)
  where
    counted : (rows : List Row) → symbol_count rows ≡ total is_symbol rows
    counted [] = refl
    counted (r ∷ rows) = ap (λ (n : ℕ). is_symbol r + n) (counted rows)

-- ---- both factors only grow

total_most : (f g : ℕ → ℕ) → ((x : ℕ) → f x ≤ g x) → (l : List ℕ) → total f l ≤ total g l
total_most f g h [] = omega arith
total_most f g h (x ∷ l) = omega (arith, h x, total_most f g h l)

-- a row more
length_snoc : (rows : List Row) (r : Row) (h : ℕ) → name_length (get_or rows h nil) ≤ name_length (get_or (rows ++ (r ∷ [])) h nil)
unfolding is_symbol kind pick
length_snoc [] r h = omega arith
length_snoc (q ∷ rows) r zero = le_refl _
length_snoc (q ∷ rows) r (suc h) = length_snoc rows r h

-- a row in place of one that is no symbol
length_put : (rows : List Row) (i : ℕ) (r q : Row) → At rows i q → is_symbol q ≡ 0 → (h : ℕ) → name_length (get_or rows h nil) ≤ name_length (get_or (set rows i r) h nil)
length_put [] i r q e n h = apart (cc)
length_put (x ∷ rows) zero r q e n zero = let z : x ≡ q = cc in rw (z, n) (omega arith)
length_put (x ∷ rows) zero r q e n (suc h) = le_refl _
length_put (x ∷ rows) (suc i) r q e n zero = le_refl _
length_put (x ∷ rows) (suc i) r q e n (suc h) = length_put rows i r q e n h

-- ---- a state's measures

-- what was copied is what the byte table holds, and what was compared is within the bound
abbrev Measures : State → Type 0
Measures s = (s.notes.copied ≡ length s.bytes) × (s.notes.compared ≤ name_bytes s.nodes s.symbols * distinct_names s.nodes)

module _ (s : State) (m : Measures s) where
  -- other rows, by which neither factor is less
  rows_bound : (rows : List Row) → ((h : ℕ) → name_length (get_or s.nodes h nil) ≤ name_length (get_or rows h nil)) → distinct_names s.nodes ≤ distinct_names rows
      → s.notes.compared ≤ name_bytes rows s.symbols * distinct_names rows
  rows_bound rows f d = le_trans m.1 (mul-le-mul (total_most _ _ f s.symbols) d)

  -- the name b was sought, and its bytes are among those of the names now
  sought_bound : (b : List ℕ) (n d : ℕ) → name_bytes s.nodes s.symbols + length b ≤ n → distinct_names s.nodes ≤ d
      → (sought b s).notes.compared ≤ n * d
  sought_bound b n d f e =
      let names = name_bytes s.nodes s.symbols in
      let symbols = distinct_names s.nodes in
      omega (arith, m.1, among_most s.bytes b s.nodes, add-mul names (length b) symbols, mul-le-mul f e)

  measures_node : (r : Row) → Measures (with_node r s)
  measures_node r = (m.0, rows_bound (s.nodes ++ (r ∷ [])) (length_snoc s.nodes r) (omega (arith, total_snoc is_symbol s.nodes r)))

  measures_row : (h : ℕ) (r q : Row) → At s.nodes h q → is_symbol q ≡ 0 → Measures (with_row h r s)
  measures_row h r q e n = (m.0, rows_bound (set s.nodes h r) (length_put s.nodes h r q e n) (omega (arith, n, total_set is_symbol s.nodes h r q e)))

  measures_bytes : (b : List ℕ) → Measures (with_bytes b s)
  measures_bytes b = (omega (arith, m.0, length-append s.bytes b), m.1)

-- a symbol's name is no longer than its length word
name_fits : (s : State) (b : List ℕ) (h : ℕ) → At (state_seen s).nodes h (sym b) → length b ≤ name_length (get_or s.nodes h nil)
unfolding is_symbol kind pick bytes_length ranges
name_fits s b h a =
    let (r, e, q) = seen_at_inv s h (sym b) a in
    let (i, l, z, w) = symbol_of (arena_of s 0) b r q in
    let most : length b ≤ l = omega (arith, ap length w, range_most s.bytes i l) in
    rw (get_d_at s.nodes h nil r e, z) (omega (arith, most))

measures_known : (s : State) → Measures s → (b : List ℕ) (h : ℕ) → At (state_seen s).nodes h (sym b) → Measures (with_symbol h (noted false (sought b s)))
measures_known s m b h a =
    let w : ℕ → ℕ = λ i. name_length (get_or s.nodes i nil) in
    (m.0, sought_bound s m b _ _ (omega (arith, total_snoc w s.symbols h, name_fits s b h a)) (le_refl _))

measures_new : (s : State) → Measures s → (b : List ℕ) → Measures (with_new_symbol b (sought b s))
unfolding is_symbol kind pick bytes_length ranges
measures_new s m b =
    let r = symbol (length s.bytes) (length b) in
    let rows : List Row = s.nodes ++ (r ∷ []) in
    let w : ℕ → ℕ = λ i. name_length (get_or rows i nil) in
    let n : w (length s.nodes) ≡ length b = rw (get_d_at rows (length s.nodes) nil r (at_snoc s.nodes r)) (omega arith) in
    let names = total_most (λ (i : ℕ). name_length (get_or s.nodes i nil)) w (length_snoc s.nodes r) s.symbols in (
      omega (arith, m.0, length-append s.bytes b),
      sought_bound s m b _ _ (omega (arith, total_snoc w s.symbols (length s.nodes), n, names)) (omega (arith, total_snoc is_symbol s.nodes r)),
    )

no_symbol : {p n : ℕ} {r r' : Row} → Varied p n r r' → is_symbol r ≡ 0
unfolding is_symbol kind pick
no_symbol varied_string = refl
no_symbol varied_user = refl

nil_no_symbol : is_symbol nil ≡ 0
unfolding is_symbol kind pick
nil_no_symbol = refl

-- ---- any trace

measures : {input : List ℕ} {room : Room} {l : ℕ} {m : Mode} {p : List ℕ} {s t : State} {vs : List ℕ} → Trace input room l m p s vs t → Measures s → Measures t
measures (reading k n a x) m = measures x m
measures {s = s} (plain r p l) m = measures_node s m r
measures {s = s} (known b h o a l) m = measures_known s m b h a
measures {s = s} (new b e o n p l₁ l₂ l₃) m = measures_new s m b
measures (symbol_link i h e o a) m = m
measures (object_link i h e a) m = m
measures (unclassed e) m = m
measures (classed k a e x b) m = measures x m
measures (list {o = o} {t = t} r q c l₁ l₂ l₃ x) m =
    measures_row t (measures x (measures_node o (measures c m) nil)) (length o.nodes) r nil ((kept x).stands _ nil nil_fixed (at_snoc o.nodes nil)) nil_no_symbol
measures (hash_default {o = o} {u = u} n w c l₁ l₂ l₃ x y) m =
    measures_row u (measures y (measures x (measures_node o (measures c m) nil))) (length o.nodes) _ nil ((kept y).stands _ nil nil_fixed ((kept x).stands _ nil nil_fixed (at_snoc o.nodes nil))) nil_no_symbol
measures {s = s} (object_pairs {u = u} n k a e l₁ l₂ x b l₃ y) m =
    measures_row u (measures y (measures x (measures_node s m nil))) (length s.nodes) _ nil ((kept y).stands _ nil nil_fixed ((kept x).stands _ nil nil_fixed (at_snoc s.nodes nil))) nil_no_symbol
measures (text_bytes {o = o} q w b e c p l₁ l₂ l₃) m = measures_node (with_bytes b o) (measures_bytes o (measures c m) b) _
measures (user_bytes {t = t} b k a e x d p l₁ l₂ l₃) m = measures_node (with_bytes b t) (measures_bytes t (measures x m) b) _
measures {s = s} (bignum_node low high n minus e q h l₁ l₂) m = measures_node s m _
measures (stored x) m = measures x m
measures (variables {u = u} {h = h} {r = r} {r' = r'} n k a e i x b l y c q) m = measures_row u (measures y (measures x m)) h r' r c (no_symbol q)
measures no_elements m = m
measures (element x y) m = measures y (measures x m)
measures no_pairs m = m
measures (pair x y z) m = measures z (measures y (measures x m))

-- ---- an accepted load

module _ (input : List ℕ) (room : Room) (limit h : ℕ) (s : State) (e : load input room limit ≡ ok h s) where
  loaded : Measures s
  loaded = measures (load_traced input room limit s h e).trace (refl, omega arith)

  pub copied_is_bytes : s.notes.copied ≡ length s.bytes
  copied_is_bytes = loaded.0

  pub compared_at_most : s.notes.compared ≤ name_bytes s.nodes s.symbols * distinct_names s.nodes
  compared_at_most = loaded.1

-- ---- the measuring load's call

module _ (input : List ℕ) (T : Lists) (limit : ℕ) where
  -- copied are the bytes that load counts
  pub measured_copied : (measured_call input T limit).answer.copied ≡ (measured_call input T limit).answer.load.counts.bytes
  unfolding measured_call measured_if measured_done load_if load_done
  measured_copied = by_wrong (load_wrong input T limit)
    where
      by_outcome : (o : Outcome State ℕ) → load input (room_of T) limit ≡ o → (measured_done T o).answer.copied ≡ (measured_done T o).answer.load.counts.bytes
      by_outcome (ok h s) e = copied_is_bytes input (room_of T) limit h s e
      by_outcome (refused r) e = refl

      by_wrong : (n : ℕ) → (measured_if n input T limit).answer.copied ≡ (measured_if n input T limit).answer.load.counts.bytes
      by_wrong zero = by_outcome (load input (room_of T) limit) refl
      by_wrong (suc n) = refl

  -- at most the bytes of all names read, times the distinct names, in the state that load came to
  abbrev pub Bounded : ℕ → Type 0
  Bounded n = (h : ℕ) × (s : State) × (load input (room_of T) limit ≡ ok h s) × (n ≤ name_bytes s.nodes s.symbols * distinct_names s.nodes)

  pub measured_compared : (measured_call input T limit).answer.load.answer ≡ Accepted → Bounded (measured_call input T limit).answer.compared
  unfolding measured_call measured_if measured_done load_if load_done
  measured_compared = by_wrong (load_wrong input T limit)
    where
      by_outcome : (o : Outcome State ℕ) → load input (room_of T) limit ≡ o → (measured_done T o).answer.load.answer ≡ Accepted → Bounded (measured_done T o).answer.compared
      by_outcome (ok h s) e a = (h, s, e, compared_at_most input (room_of T) limit h s e)
      by_outcome (refused r) e a = apart (cc)

      by_wrong : (n : ℕ) → (measured_if n input T limit).answer.load.answer ≡ Accepted → Bounded (measured_if n input T limit).answer.compared
      by_wrong zero a = by_outcome (load input (room_of T) limit) refl a
      by_wrong (suc n) a = apart (cc)

  -- refused, also with BAD-TABLES: both are 0
  pub measured_refused : (r : Refusal) → (measured_call input T limit).answer.load.answer ≡ Refused r → ((measured_call input T limit).answer.copied ≡ 0) × ((measured_call input T limit).answer.compared ≡ 0)
  unfolding measured_call measured_if measured_done load_if load_done
  measured_refused r = by_wrong (load_wrong input T limit)
    where
      by_outcome : (o : Outcome State ℕ) → (measured_done T o).answer.load.answer ≡ Refused r → ((measured_done T o).answer.copied ≡ 0) × ((measured_done T o).answer.compared ≡ 0)
      by_outcome (ok h s) a = apart (cc)
      by_outcome (refused q) a = (refl, refl)

      by_wrong : (n : ℕ) → (measured_if n input T limit).answer.load.answer ≡ Refused r → ((measured_if n input T limit).answer.copied ≡ 0) × ((measured_if n input T limit).answer.compared ≡ 0)
      by_wrong zero a = by_outcome (load input (room_of T) limit) a
      by_wrong (suc n) a = (refl, refl)
