-- A state is held with one part changed.
use Rattle.std.specs.Prelude as code
use Rattle.std.specs.Prelude.{ℕ, zero, suc, ◌+◌, ◌*◌, ◌≤◌, ◌<◌, ◌≡◌, Bool, refl, false, true, List, [], ◌∷◌, ◌++◌, length, set, get_or, is_some, IfSome}
use Rattle.std.proofs.Common.{arith, le_trans, mul-le-mul, add-mul, sym, ap, ◌∙◌, subst, length-append, length-set}
use Rattle.std.proofs.Math.ListN.{get_or-append}
use Rattle.definition.specs.Run.{Outcome, ok, pure}
use Rattle.definition.specs.Node.{Row, nil, flat, width}
use Rattle.definition.specs.State.{Room, Notes, State, at_set, nodes_set, references_set, bytes_set, symbols_set, objects_set, noted, copied_more, compared_more}
use Rattle.load_state.specs.declared.Progress.{Progress}
use Rattle.load_state.specs.Holds.{Naming, Known, Symbols, Lent, lent, by_list, Begins, Holds, Held, Grown, Went, AllBelow, Plain, Symbolic, Fit, AllFit, Interned, Noted, Behind}
use Rattle.load_state.specs.Interned.{interned_bytes, interned_new}
use Rattle.load_state.specs.Hashing.{hashing_bytes}
use Rattle.load_state.specs.Names.{plain_set, symbolic_below}

-- ---- rows that fit

fit_more : {m n : ℕ} (r : Row) → m ≤ n → Fit m r → Fit n r
fit_more r l f p = omega (arith, f p)

pub plain_fit : (n : ℕ) (r : Row) → Plain r → Fit n r
plain_fit n r p q = absurd (p q)

pub fit_snoc : (n : ℕ) (r : Row) (l : List Row) → AllFit n l → Fit n r → AllFit n (l ++ (r ∷ []))
fit_snoc n r [] b g zero lt = g
fit_snoc n r [] b g (suc i) lt = absurd (omega arith)
fit_snoc n r (x ∷ l) b g zero lt = b zero (omega arith)
fit_snoc n r (x ∷ l) b g (suc i) lt = fit_snoc n r l (λ j k. b (suc j) (omega arith)) g i (omega arith)

pub fit_set : (n : ℕ) (r : Row) (l : List Row) (k : ℕ) → AllFit n l → Fit n r → AllFit n (set l k r)
fit_set n r [] k b g i lt = absurd (omega arith)
fit_set n r (x ∷ l) zero b g zero lt = g
fit_set n r (x ∷ l) zero b g (suc i) lt = b (suc i) lt
fit_set n r (x ∷ l) (suc k) b g zero lt = b zero (omega arith)
fit_set n r (x ∷ l) (suc k) b g (suc i) lt = fit_set n r l k (λ j h. b (suc j) (omega arith)) g i (omega arith)

pub below_snoc : {n h : ℕ} (l : List ℕ) → AllBelow n l → h < n → AllBelow n (l ++ (h ∷ []))
below_snoc {n} {h} [] b g zero lt = g
below_snoc {n} {h} [] b g (suc i) lt = absurd (omega arith)
below_snoc {n} {h} (x ∷ l) b g zero lt = b zero (omega arith)
below_snoc {n} {h} (x ∷ l) b g (suc i) lt = below_snoc l (λ j k. b (suc j) (omega arith)) g i (omega arith)

-- the bound of the bytes compared, where more was read and there are more nodes
bound_more : {n : Notes} {l a b k m : ℕ} {t : Bool} {x : code.Option ℕ} → a ≤ b → k ≤ m → Noted n l (a * k) t x → Noted n l (b * m) t x
bound_more p q N = record { form = N.form; counted = N.counted; copied = N.copied; compared = le_trans N.compared (mul-le-mul p q) }

-- ---- a state is held with one part changed

-- what was read is noted as not in dump form
pub form_lost : {input : List ℕ} {room : Room} {s : State} {c : Progress} {T : Lent} → Holds input room s T c → Holds input room (noted false s) T (record c { form = false })
form_lost H = record {
  fixed = H.fixed;
  laid = H.laid;
  counted = (let C = H.counted in record { count_at = C.count_at; inside = C.inside; count_nodes = C.count_nodes; room_nodes = C.room_nodes; count_references = C.count_references; count_bytes = C.count_bytes; count_symbols = C.count_symbols; count_objects = C.count_objects });
  noted = record { form = refl; counted = H.noted.counted; copied = H.noted.copied; compared = H.noted.compared };
  known = H.known;
}

pub at_changed : {input : List ℕ} {room : Room} {s : State} {c : Progress} {T : Lent} {n : ℕ} → Holds input room s T c → s.at ≤ n → n ≤ length input → Holds input room (at_set n s) T (record c { at = n })
at_changed H g h = record {
  fixed = H.fixed;
  laid = H.laid;
  counted = (let C = H.counted in record { count_at = refl; inside = h; count_nodes = C.count_nodes; room_nodes = C.room_nodes; count_references = C.count_references; count_bytes = C.count_bytes; count_symbols = C.count_symbols; count_objects = C.count_objects });
  noted = bound_more g (omega arith) H.noted;
  known = H.known;
}

-- a name of n bytes was passed and x bytes compared, which are counted where they are
pub name_passed : {input : List ℕ} {room : Room} {s : State} {c : Progress} {T : Lent} {x : ℕ} (n : ℕ) (o : code.Option ℕ) → Holds input room s T c → IfSome o (λ k. k ≡ s.notes.compared + x) → is_some o ≡ is_some c.compared → c.at + n ≤ length input → x ≤ n * length s.nodes → Holds input room (compared_more x (at_set (c.at + n) s)) T (record c { at = c.at + n; compared = o })
name_passed {room = room} {s} {c} {T} n o H k e h l =
    let g : s.at * length s.nodes + n * length s.nodes ≡ (c.at + n) * length s.nodes = sym (add-mul s.at n (length s.nodes)) ∙ ap (λ (a : ℕ). (a + n) * length s.nodes) (sym H.counted.count_at) in
    let C = H.counted in
    record {
      fixed = H.fixed;
      laid = H.laid;
      counted = record { count_at = refl; inside = h; count_nodes = C.count_nodes; room_nodes = C.room_nodes; count_references = C.count_references; count_bytes = C.count_bytes; count_symbols = C.count_symbols; count_objects = C.count_objects };
      noted = record { form = H.noted.form; counted = k; copied = H.noted.copied; compared = omega (arith, H.noted.compared, l, g) };
      known = subst (λ (t : Bool). Known room.nodes s.bytes s.nodes s.symbols s.objects T.symbols c.looked t) (sym e) H.known;
    }

module _ {input : List ℕ} {room : Room} {s : State} {c : Progress} {no re by : List ℕ} {sy : Symbols} {ob : List ℕ} (H : Holds input room s (lent no re by sy ob) c) where
  pub nodes_changed : {n : ℕ} {rows : List Row} {no' : List ℕ} → Begins (room.nodes * width) (flat rows) no' → n ≡ length rows → length s.nodes ≤ length rows → length rows ≤ room.nodes → AllFit (length s.bytes) rows → (sy.searched ≡ true → Naming room.nodes s.bytes rows s.symbols sy c.looked (is_some c.compared)) → Holds input room (nodes_set rows s) (lent no' re by sy ob) (record c { nodes = n })
  nodes_changed p e g h f y = (let L = H.laid in let C = H.counted in record {
    fixed = H.fixed;
    laid = record { nodes = p; references = L.references; bytes = L.bytes; symbols = L.symbols; objects = L.objects };
    counted = record { count_at = C.count_at; inside = C.inside; count_nodes = e; room_nodes = h; count_references = C.count_references; count_bytes = C.count_bytes; count_symbols = C.count_symbols; count_objects = C.count_objects };
    noted = bound_more (omega arith) g H.noted;
    known = record { below = λ i l. omega (arith, g, H.known.below i l); entries = λ i l. omega (arith, g, H.known.entries i l); fit = f; names = y };
  })

  pub references_changed : {n : ℕ} {l re' : List ℕ} → Begins room.references l re' → n ≡ length l → Holds input room (references_set l s) (lent no re' by sy ob) (record c { references = n })
  references_changed p e = (let L = H.laid in let C = H.counted in record {
    fixed = H.fixed;
    laid = record { nodes = L.nodes; references = p; bytes = L.bytes; symbols = L.symbols; objects = L.objects };
    counted = record { count_at = C.count_at; inside = C.inside; count_nodes = C.count_nodes; room_nodes = C.room_nodes; count_references = e; count_bytes = C.count_bytes; count_symbols = C.count_symbols; count_objects = C.count_objects };
    noted = H.noted;
    known = H.known;
  })

  pub bytes_changed : {n : ℕ} {by' : List ℕ} (bs : List ℕ) → Begins room.bytes (s.bytes ++ bs) by' → n ≡ length (s.bytes ++ bs) → length s.bytes ≤ length (s.bytes ++ bs) → Holds input room (copied_more (length bs) (bytes_set (s.bytes ++ bs) s)) (lent no re by' sy ob) (record c { bytes = n })
  bytes_changed bs p e g = (let L = H.laid in let C = H.counted in record {
    fixed = H.fixed;
    laid = record { nodes = L.nodes; references = L.references; bytes = p; symbols = L.symbols; objects = L.objects };
    counted = record { count_at = C.count_at; inside = C.inside; count_nodes = C.count_nodes; room_nodes = C.room_nodes; count_references = C.count_references; count_bytes = e; count_symbols = C.count_symbols; count_objects = C.count_objects };
    noted = (let N = H.noted in record { form = N.form; counted = N.counted; copied = ap (λ (n : ℕ). n + length bs) N.copied ∙ sym (length-append s.bytes bs); compared = N.compared });
    known = (let K = H.known in record { below = K.below; entries = K.entries; fit = λ i l. fit_more (get_or s.nodes i nil) g (K.fit i l); names = λ a. record { interned = interned_bytes s.bytes bs s.nodes s.symbols K.fit (K.names a).interned; hashed = λ b. hashing_bytes s.bytes bs s.nodes s.symbols _ K.fit ((K.names a).hashed b) } });
  })

  pub objects_changed : {n : ℕ} {l ob' : List ℕ} → Begins room.objects l ob' → n ≡ length l → AllBelow (length s.nodes) l → Holds input room (objects_set l s) (lent no re by sy ob') (record c { objects = n })
  objects_changed p e b = (let L = H.laid in let C = H.counted in record {
    fixed = H.fixed;
    laid = record { nodes = L.nodes; references = L.references; bytes = L.bytes; symbols = L.symbols; objects = p };
    counted = record { count_at = C.count_at; inside = C.inside; count_nodes = C.count_nodes; room_nodes = C.room_nodes; count_references = C.count_references; count_bytes = C.count_bytes; count_symbols = C.count_symbols; count_objects = e };
    noted = H.noted;
    known = (let N = H.known in record { below = b; entries = N.entries; fit = N.fit; names = N.names });
  })

module _ {input : List ℕ} {room : Room} {s : State} {c : Progress} {no re by sy ob : List ℕ} (H : Holds input room s (lent no re by (by_list sy) ob) c) where
  pub symbols_changed : {n : ℕ} {l sy' : List ℕ} → Begins room.symbols l sy' → n ≡ length l → Interned s.bytes s.nodes l → Holds input room (symbols_set l s) (lent no re by (by_list sy') ob) (record c { symbols = n })
  symbols_changed p e y = (let L = H.laid in let C = H.counted in record {
    fixed = H.fixed;
    laid = record { nodes = L.nodes; references = L.references; bytes = L.bytes; symbols = p; objects = L.objects };
    counted = record { count_at = C.count_at; inside = C.inside; count_nodes = C.count_nodes; room_nodes = C.room_nodes; count_references = C.count_references; count_bytes = C.count_bytes; count_symbols = e; count_objects = C.count_objects };
    noted = H.noted;
    known = record { below = H.known.below; entries = λ i l. symbolic_below s.nodes _ (y.symbolic i l); fit = H.known.fit; names = λ a. record { interned = y; hashed = λ b. absurd (b refl) } };
  })

  -- a symbol's node and its entry
  pub symbol_changed : {n m : ℕ} {no' sy' : List ℕ} (r : Row) → Begins (room.nodes * width) (flat (s.nodes ++ (r ∷ []))) no' → Begins room.symbols (s.symbols ++ (length s.nodes ∷ [])) sy' → n ≡ length (s.nodes ++ (r ∷ [])) → m ≡ length (s.symbols ++ (length s.nodes ∷ [])) → length s.nodes ≤ length (s.nodes ++ (r ∷ [])) → length (s.nodes ++ (r ∷ [])) ≤ room.nodes → Fit (length s.bytes) r → Symbolic r → Holds input room (symbols_set (s.symbols ++ (length s.nodes ∷ [])) (nodes_set (s.nodes ++ (r ∷ [])) s)) (lent no' re by (by_list sy') ob) (record c { nodes = n; symbols = m })
  symbol_changed r p q e d g h f y = (let L = H.laid in let C = H.counted in let I = interned_new s.bytes s.nodes r s.symbols y (H.known.names refl).interned in record {
    fixed = H.fixed;
    laid = record { nodes = p; references = L.references; bytes = L.bytes; symbols = q; objects = L.objects };
    counted = record { count_at = C.count_at; inside = C.inside; count_nodes = e; room_nodes = h; count_references = C.count_references; count_bytes = C.count_bytes; count_symbols = d; count_objects = C.count_objects };
    noted = bound_more (omega arith) g H.noted;
    known = record { below = λ i l. omega (arith, g, H.known.below i l); entries = λ i l. symbolic_below (s.nodes ++ (r ∷ [])) _ (I.symbolic i l); fit = fit_snoc _ r s.nodes H.known.fit f; names = λ _. record { interned = I; hashed = λ b. absurd (b refl) } };
  })

-- ---- the primitives

-- a reader that gives h and the state s' there
pub went : {A : Type 0} {input : List ℕ} {room : Room} {s s' : State} {o : Outcome State A} {c' : Progress} {T T' : Lent} {h : A} → Holds input room s' T' c' → o ≡ ok h s' → Grown s s' → (T.symbols.searched ≡ false → Behind s s' T T') → Went input room s o (pure h) T T' c'
unfolding pure
went {s' = s'} H e g b = record { state = s'; holds = H; same = e; grown = g; behind = b }

-- the nodes are as before
pub grown_rows : {s s' : State} → s.nodes ≡ s'.nodes → length s.references ≤ length s'.references → Grown s s'
grown_rows {s} {s'} e l = record { nodes = omega (arith, ap length e); references = l; plain = λ i k p. subst (λ (x : List Row). Plain (get_or x i nil)) e p }

pub grown_snoc : (s : State) (r : Row) (s' : State) → s'.nodes ≡ s.nodes ++ (r ∷ []) → s'.references ≡ s.references → Grown s s'
grown_snoc s r s' e f =
    let k : length s'.nodes ≡ length s.nodes + 1 = ap length e ∙ simp length-append in
    record {
      nodes = omega (arith, k);
      references = omega (arith, ap length f);
      plain = λ i l p. subst (λ (x : List Row). Plain (get_or x i nil)) (sym e) (subst Plain (sym (get_or-append s.nodes (r ∷ []) nil i l)) p);
    }

pub grown_set : (s : State) (k : ℕ) (r : Row) → k < length s.nodes → Plain r → Grown s (nodes_set (set s.nodes k r) s)
grown_set s k r l p =
    let e : length (set s.nodes k r) ≡ length s.nodes = length-set s.nodes k r in
    record { nodes = omega (arith, e); references = omega arith; plain = λ i u q. plain_set s.nodes k r i l p q }

-- some state is held where this one is
held_at : {input : List ℕ} {room : Room} {s : State} {T : Lent} {c : Progress} → Holds input room s T c → Held input T c
held_at {room = room} {s} H = record { room = room; state = s; holds = H }
