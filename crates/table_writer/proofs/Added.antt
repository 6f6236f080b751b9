-- One law for each way a table or list grows: what the code did to it and its count is what the definition does.
use Prim.Native.Nat.{ℕ, suc, ◌+◌, ◌-◌, ◌*◌, ◌≤◌, ◌<◌}
use native.Mathlib.Omega.{arith}
use mathlib.Core.Bool.{true}
use mathlib.Core.Path.{◌≡◌, refl, sym, ap, ◌∙◌}
use mathlib.Core.List.{List, [], ◌∷◌, ◌++◌}
use lib.ListN.{length, set, get_or, replicate, length-append, length-set, length-replicate}
use lib.Seq.{sets}
use Rattle.std.specs.Prelude.{Ok, Err}
use borrow.Author.Tests.{lt-ltb, le-ltb, le-leb, lt-leb}
use Rattle.definition.specs.Run.{pure, next, pick, ◌>>=◌}
use Rattle.definition.specs.Node.{Row, nil, symbol, words, flat, width, symbol_kind, kind}
use Rattle.definition.specs.State.{Room, State}
use Rattle.definition.specs.Slice as Slice
use Rattle.definition.specs.Load.{add_node, reserve, add_bytes, add_symbol, add_object, fill, put_reference}
use Rattle.definition.specs.declared.Refusal.TheVariants.{NoSpace}
use Rattle.reader.specs.Answers.{stop, at_space}
use Rattle.load_state.specs.declared.Progress.{Progress}
use Rattle.load_state.specs.Holds.{Symbols, Lent, lent, by_list, Begins, Holds, Went, Goes, Meets, Plain, Symbolic, Free}
use Rattle.table_writer.specs.Parts.{new_symbol}
use Rattle.load_state.specs.Stores.{push, put, put_row, push_row, sets_first}
use Rattle.load_state.specs.Interned.{interned_more, interned_set, interned_known}
use Rattle.load_state.specs.Hashing.{hashing_more, hashing_set}
use Rattle.load_state.specs.Names.{untrue}
use Rattle.load_state.specs.Laws.{free_plain, denied, given}
use Rattle.load_state.specs.Changed.{plain_fit, fit_snoc, fit_set, below_snoc, nodes_changed, references_changed, bytes_changed, objects_changed, symbols_changed, symbol_changed, went, grown_rows, grown_snoc, grown_set}
use Rattle.load_state.specs.Behind.{kept_sets, behind_nodes, behind_references, behind_bytes, behind_objects}
use Rattle.lists.specs.Words.{length_words, length_flat}

module _ {input : List ℕ} {room : Room} {c : Progress} {no re by : List ℕ} {sy : Symbols} {ob : List ℕ} where
  pub row_went : {no' : List ℕ} (i : ℕ) (row : Row) (ws : List ℕ) → words row ≡ ws → Plain row → i < c.nodes → no' ≡ sets no (i * width) ws → (s : State) → Holds input room s (lent no re by sy ob) c → (sy.searched ≡ true → Plain (get_or s.nodes i nil)) → Went input room s (fill i row s) (pure i) (lent no re by sy ob) (lent no' re by sy ob) c
  unfolding fill
  row_went {no'} i row ws e pl h f s H q =
      let n : c.nodes ≡ length (set s.nodes i row) = H.counted.count_nodes ∙ sym (length-set s.nodes i row) in
      let le : length (set s.nodes i row) ≤ room.nodes = simp length-set H.counted.room_nodes in
      let p : Begins (room.nodes * width) (flat (set s.nodes i row)) no' = rw (f, ← e) (put_row s.nodes i row H.laid.nodes (omega arith)) in
      went (nodes_changed H p n (simp length-set (omega arith)) le (fit_set _ row s.nodes i H.known.fit (plain_fit _ row pl)) (λ a. let N = H.known.names a in record { interned = interned_set s.bytes s.nodes i row s.symbols pl (q a) N.interned; hashed = λ b. hashing_set s.bytes s.nodes i row s.symbols _ (q a) N.interned.symbolic (N.hashed b) }))
      refl (grown_set s i row (omega (arith, H.counted.count_nodes)) pl)
      (behind_nodes (kept_sets (i * width) ws f (omega (arith, h, H.counted.count_nodes, ap length e, length_words row, length_flat (set s.nodes i row), length-set s.nodes i row)) (omega (arith, length_flat s.nodes, length_flat (set s.nodes i row), length-set s.nodes i row))))

  pub row_filled : {no' : List ℕ} (i : ℕ) (row : Row) (ws : List ℕ) → words row ≡ ws → Plain row → i < c.nodes → (sy.searched ≡ true → Free no i) → no' ≡ sets no (i * width) ws → Goes input room (fill i row) (lent no re by sy ob) c (pure i) (lent no' re by sy ob) c
  row_filled i row ws e pl h q f = record { goes = λ s H. row_went i row ws e pl h f s H (λ a. free_plain H i h (q a)); counts = refl }

  pub words_reserved : {re' : List ℕ} (n : ℕ) → n ≤ length re - c.references → re' ≡ sets re c.references (replicate n 0) → Goes input room (reserve room n) (lent no re by sy ob) c (pure c.references) (lent no re' by sy ob) (record c { references = c.references + n })
  unfolding reserve pick
  words_reserved {re'} n l f = record {
    goes = λ s H.
        let k : c.references ≡ length s.references = H.counted.count_references in
        let z = length-replicate {A = ℕ} n 0 in
        let le : n ≤ room.references - length s.references = omega arith in
        let e : c.references + n ≡ length (s.references ++ replicate n 0) = simp (length-append, length-replicate) (omega arith) in
        let p : Begins room.references (s.references ++ replicate n 0) re' = rw (f, k) (push (replicate n 0) H.laid.references (omega (arith, z, H.laid.references.fits))) in
        went (references_changed H p e) (simp (le-leb _ _ le, k)) (grown_rows refl (omega (arith, e, k)))
        (behind_references (kept_sets c.references (replicate n 0) f (omega (arith, z, e)) (omega (arith, e, k))));
    counts = refl;
  }

  pub reference_put : (i v : ℕ) → i < c.references → Goes input room (put_reference i v) (lent no re by sy ob) c (pure tt) (lent no (set re i v) by sy ob) c
  unfolding put_reference
  reference_put i v l = record {
    goes = λ s H.
        let e : c.references ≡ length (set s.references i v) = H.counted.count_references ∙ sym (length-set s.references i v) in
        went (references_changed H (put i v H.laid.references (omega arith)) e) refl (grown_rows refl (omega (arith, length-set s.references i v)))
        (behind_references (kept_sets i (v ∷ []) refl (omega (arith, l, e)) (omega (arith, length-set s.references i v))));
    counts = refl;
  }

  pub row_goes : {no' : List ℕ} (row : Row) (ws : List ℕ) → words row ≡ ws → Plain row → c.nodes < c.room → no' ≡ sets no (c.nodes * width) ws → Goes input room (add_node room row) (lent no re by sy ob) c (pure c.nodes) (lent no' re by sy ob) (record c { nodes = c.nodes + 1 })
  unfolding add_node pick
  row_goes {no'} row ws e pl h f = record {
    goes = λ s H.
        let k : c.nodes ≡ length s.nodes = H.counted.count_nodes in
        let lt : length s.nodes < room.nodes = omega arith in
        let n : c.nodes + 1 ≡ length (s.nodes ++ (row ∷ [])) = simp length-append (omega arith) in
        let p : Begins (room.nodes * width) (flat (s.nodes ++ (row ∷ []))) no' = rw (f, ← e, k) (push_row room.nodes s.nodes row H.laid.nodes lt) in
        went (nodes_changed H p n (simp length-append (omega arith)) (omega arith) (fit_snoc _ row s.nodes H.known.fit (plain_fit _ row pl)) (λ a. let N = H.known.names a in record { interned = interned_more s.bytes s.nodes row s.symbols pl N.interned; hashed = λ b. hashing_more s.bytes s.nodes row s.symbols _ N.interned.symbolic (N.hashed b) }))
        (simp (lt-ltb _ _ lt, k)) (grown_snoc s row _ refl refl)
        (behind_nodes (kept_sets (c.nodes * width) ws f (omega (arith, k, n, ap length e, length_words row, length_flat (s.nodes ++ (row ∷ [])))) (omega (arith, k, n, length_flat s.nodes, length_flat (s.nodes ++ (row ∷ []))))));
    counts = refl;
  }

module _ {input : List ℕ} {room : Room} {limit : ℕ} {c : Progress} {no re by : List ℕ} {sy : Symbols} {ob : List ℕ} where
  pub row_added : {no' : List ℕ} (row : Row) (ws : List ℕ) → words row ≡ ws → Plain row → c.nodes < c.room → no' ≡ sets no (c.nodes * width) ws → Meets input room limit (add_node room row) (lent no re by sy ob) c (Ok c.nodes) (lent no' re by sy ob) (record c { nodes = c.nodes + 1 })
  row_added row ws e pl h f = given (row_goes row ws e pl h f)

  pub row_full : (row : Row) {T' : Lent} {c' : Progress} → c.room ≤ c.nodes → Meets input room limit (add_node room row) (lent no re by sy ob) c (Err (stop 12 Slice.NODES)) T' c'
  unfolding add_node pick
  row_full row h = denied (NoSpace Slice.NODES) (at_space limit Slice.NODES (omega arith)) (record { refuses = λ s H. let le : room.nodes ≤ length s.nodes = omega arith in simp (le-ltb _ _ le) })

  pub object_added : (h : ℕ) → h < c.nodes → c.objects < length ob → Meets input room limit (add_object room h) (lent no re by sy ob) c (Ok h) (lent no re by sy (set ob c.objects h)) (record c { objects = c.objects + 1 })
  unfolding add_object pick
  object_added h b l = given (record {
    goes = λ s H.
        let k : c.objects ≡ length s.objects = H.counted.count_objects in
        let lt : length s.objects < room.objects = omega arith in
        let n : c.objects + 1 ≡ length (s.objects ++ (h ∷ [])) = simp length-append (omega arith) in
        let p : Begins room.objects (s.objects ++ (h ∷ [])) (set ob c.objects h) = rw k (push (h ∷ []) H.laid.objects (omega arith)) in
        went (objects_changed H p n (below_snoc s.objects H.known.below (omega arith)))
        (simp (lt-ltb _ _ lt)) (grown_rows refl (omega arith))
        (behind_objects (kept_sets c.objects (h ∷ []) refl (omega (arith, k, n)) (omega (arith, k, n))));
    counts = refl;
  })

  pub object_full : (h : ℕ) {T' : Lent} {c' : Progress} → length ob ≤ c.objects → Meets input room limit (add_object room h) (lent no re by sy ob) c (Err (stop 12 Slice.OBJECTS)) T' c'
  unfolding add_object pick
  object_full h l = denied (NoSpace Slice.OBJECTS) (at_space limit Slice.OBJECTS (omega arith)) (record { refuses = λ s H. let le : room.objects ≤ length s.objects = omega arith in simp (le-ltb _ _ le) })

  pub words_short : (n : ℕ) {T' : Lent} {c' : Progress} → length re - c.references < n → Meets input room limit (reserve room n) (lent no re by sy ob) c (Err (stop 12 Slice.REFERENCES)) T' c'
  unfolding reserve pick
  words_short n l = denied (NoSpace Slice.REFERENCES) (at_space limit Slice.REFERENCES (omega arith)) (record { refuses = λ s H. let lt : room.references - length s.references < n = omega arith in simp (lt-leb _ _ lt) })

  pub bytes_added : {by' : List ℕ} (bs : List ℕ) (n : ℕ) → length bs ≡ n → c.bytes ≤ length by → n ≤ length by - c.bytes → by' ≡ sets by c.bytes bs → Meets input room limit (add_bytes room bs) (lent no re by sy ob) c (Ok c.bytes) (lent no re by' sy ob) (record c { bytes = c.bytes + n })
  unfolding add_bytes pick
  bytes_added {by'} bs n z i l f = given (record {
    goes = λ s H.
        let k : c.bytes ≡ length s.bytes = H.counted.count_bytes in
        let le : length bs ≤ room.bytes - length s.bytes = omega arith in
        let e : c.bytes + n ≡ length (s.bytes ++ bs) = simp length-append (omega arith) in
        let p : Begins room.bytes (s.bytes ++ bs) by' = rw (f, k) (push bs H.laid.bytes (omega arith)) in
        went (bytes_changed H bs p e (simp length-append (omega arith))) (simp (le-leb _ _ le, k)) (grown_rows refl (omega arith))
        (behind_bytes (length bs) (kept_sets c.bytes bs f (omega (arith, z, e)) (omega (arith, k, e))));
    counts = refl;
  })

  pub bytes_full : (bs : List ℕ) (n : ℕ) {T' : Lent} {c' : Progress} → length bs ≡ n → length by - c.bytes < n → Meets input room limit (add_bytes room bs) (lent no re by sy ob) c (Err (stop 12 Slice.BYTES)) T' c'
  unfolding add_bytes pick
  bytes_full bs n z l = denied (NoSpace Slice.BYTES) (at_space limit Slice.BYTES (omega arith)) (record { refuses = λ s H. let lt : room.bytes - length s.bytes < length bs = omega arith in simp (lt-leb _ _ lt) })

module _ {input : List ℕ} {room : Room} {limit : ℕ} {c : Progress} {no re by sy ob : List ℕ} where
  pub symbol_added : (h : ℕ) → ((s : State) → Holds input room s (lent no re by (by_list sy) ob) c → Symbolic (get_or s.nodes h nil)) → c.symbols < length sy → Meets input room limit (add_symbol room h) (lent no re by (by_list sy) ob) c (Ok h) (lent no re by (by_list (set sy c.symbols h)) ob) (record c { symbols = c.symbols + 1 })
  unfolding add_symbol pick
  symbol_added h y l = given (record {
    goes = λ s H.
        let k : c.symbols ≡ length s.symbols = H.counted.count_symbols in
        let lt : length s.symbols < room.symbols = omega arith in
        let n : c.symbols + 1 ≡ length (s.symbols ++ (h ∷ [])) = simp length-append (omega arith) in
        let p : Begins room.symbols (s.symbols ++ (h ∷ [])) (set sy c.symbols h) = rw k (push (h ∷ []) H.laid.symbols (omega arith)) in
        went (symbols_changed H p n (interned_known s.bytes s.nodes s.symbols h (y s H) (H.known.names refl).interned))
        (simp (lt-ltb _ _ lt)) (grown_rows refl (omega arith)) (λ x. untrue (sym x));
    counts = refl;
  })

  pub symbol_full : (h : ℕ) {T' : Lent} {c' : Progress} → length sy ≤ c.symbols → Meets input room limit (add_symbol room h) (lent no re by (by_list sy) ob) c (Err (stop 12 Slice.SYMBOLS)) T' c'
  unfolding add_symbol pick
  symbol_full h l = denied (NoSpace Slice.SYMBOLS) (at_space limit Slice.SYMBOLS (omega arith)) (record { refuses = λ s H. let le : room.symbols ≤ length s.symbols = omega arith in simp (le-ltb _ _ le) })

  -- a symbol's node, put on the symbol list
  pub symbol_new : {no' : List ℕ} (start n l : ℕ) → l ≡ n → start + n ≤ c.bytes → c.nodes < c.room → c.symbols < length sy → no' ≡ sets no (c.nodes * width) (3 ∷ start ∷ n ∷ 0 ∷ 0 ∷ 0 ∷ 0 ∷ 0 ∷ []) → Meets input room limit (new_symbol room start l) (lent no re by (by_list sy) ob) c (Ok c.nodes) (lent no' re by (by_list (set sy c.symbols c.nodes)) ob) (record c { nodes = c.nodes + 1; symbols = c.symbols + 1 })
  unfolding add_node add_symbol pick ◌>>=◌ next kind words
  symbol_new {no'} start n l z b h u f = given (record {
    goes = λ s H.
        let row = symbol start l in
        let k : c.nodes ≡ length s.nodes = H.counted.count_nodes in
        let ky : c.symbols ≡ length s.symbols = H.counted.count_symbols in
        let lt : length s.nodes < room.nodes = omega arith in
        let ly : length s.symbols < room.symbols = omega arith in
        let m : c.nodes + 1 ≡ length (s.nodes ++ (row ∷ [])) = simp length-append (omega arith) in
        let my : c.symbols + 1 ≡ length (s.symbols ++ (length s.nodes ∷ [])) = simp length-append (omega arith) in
        let ws : no' ≡ sets no (c.nodes * width) (words row) = f ∙ ap (λ (x : ℕ). sets no (c.nodes * width) (3 ∷ start ∷ x ∷ 0 ∷ 0 ∷ 0 ∷ 0 ∷ 0 ∷ [])) (sym z) in
        let p : Begins (room.nodes * width) (flat (s.nodes ++ (row ∷ []))) no' = rw (ws, k) (push_row room.nodes s.nodes row H.laid.nodes lt) in
        let q : Begins room.symbols (s.symbols ++ (length s.nodes ∷ [])) (set sy c.symbols c.nodes) = rw (ky, k) (push (length s.nodes ∷ []) H.laid.symbols (omega arith)) in
        went (symbol_changed H row p q m my (simp length-append (omega arith)) (omega arith) (λ _. omega (arith, H.counted.count_bytes)) refl)
        (simp (lt-ltb _ _ lt, lt-ltb _ _ ly, k)) (grown_snoc s row _ refl refl) (λ x. untrue (sym x));
    counts = refl;
  })

  pub symbol_no_node : (start l : ℕ) {T' : Lent} {c' : Progress} → c.room ≤ c.nodes → Meets input room limit (new_symbol room start l) (lent no re by (by_list sy) ob) c (Err (stop 12 Slice.NODES)) T' c'
  unfolding add_node pick ◌>>=◌ next
  symbol_no_node start l h = denied (NoSpace Slice.NODES) (at_space limit Slice.NODES (omega arith)) (record { refuses = λ s H. let le : room.nodes ≤ length s.nodes = omega arith in simp (le-ltb _ _ le) })

  pub symbol_no_entry : (start l : ℕ) {T' : Lent} {c' : Progress} → c.nodes < c.room → length sy ≤ c.symbols → Meets input room limit (new_symbol room start l) (lent no re by (by_list sy) ob) c (Err (stop 12 Slice.SYMBOLS)) T' c'
  unfolding add_node add_symbol pick ◌>>=◌ next
  symbol_no_entry start l h u = denied (NoSpace Slice.SYMBOLS) (at_space limit Slice.SYMBOLS (omega arith)) (record {
    refuses = λ s H.
        let lt : length s.nodes < room.nodes = omega arith in
        let le : room.symbols ≤ length s.symbols = omega arith in
        simp (lt-ltb _ _ lt, le-ltb _ _ le);
  })

-- a node stored is no symbol, if its kind is none
pub stored_free : {no' : List ℕ} (no : List ℕ) (i x : ℕ) (xs : List ℕ) → no' ≡ sets no (i * width) (x ∷ xs) → i * width + suc (length xs) ≤ length no → (x ≡ symbol_kind → ⊥) → Free no' i
stored_free t i x xs e l n q = n (sym (ap (λ (y : List ℕ). get_or y (i * width) 0) e ∙ sets_first t (i * width) x xs l) ∙ q)
