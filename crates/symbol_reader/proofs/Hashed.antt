-- A name by its hash: what the search of the bucket table found is its symbol, and the table with the symbol put there.
use Rattle.std.specs.Prelude as code
use Rattle.std.specs.Prelude.{Some, None, IfSome, MatchOption, is_some, Result, Ok, Err}
use Prim.Native.Nat.{ℕ, zero, suc, ◌+◌, ◌-◌, ◌%◌, ◌≤◌, ◌<◌}
use native.Mathlib.Omega.{arith}
use native.Mathlib.Nat.{mod-add-mod}
use mathlib.Core.Path.{◌≡◌, refl, sym, ap, ◌∙◌, subst}
use mathlib.Core.Bool.{Bool, true, false}
use mathlib.Core.List.{List, [], ◌∷◌, ◌++◌}
use mathlib.Core.Option.{none, some}
use mathlib.Core.Logic.{◌⊎◌, inl, inr}
use lib.Dec.{ltb, eqb}
use lib.ListN.{length, set, get_or, take, drop, length-append, length-set, get_or-append}
use lib.Seq.{get_or-append_seam}
use borrow.Author.Tests.{ltb-true, ltb-false, eqb-true, eqb-false}
use Rattle.definition.specs.Run.{ok, refused, pure, next, pick, ◌>>=◌}
use Rattle.definition.specs.Node.{Row, nil, symbol, kind, equal, symbol_kind, words}
use Rattle.definition.specs.Arena.{name_of, named}
use Rattle.definition.specs.Buckets.{fnv_1a, bucket, search, searches, empty}
use Rattle.definition.specs.State.{Room, State, Reader, noted, symbols_set, nodes_set, bytes_set, copied_more}
use Rattle.definition.specs.Load.{note, add_symbol, add_bytes, add_node, intern_as}
use Rattle.definition.specs.declared.Refusal.{Refusal}
use Rattle.lists.specs.Runs.{no_ok, un}
use Rattle.lists.specs.Joined.{and_right}
use Rattle.lists.specs.Words.{equal_true, equal_self}
use Rattle.lists.specs.Ranges.{range_last}
use Rattle.lists.specs.Buckets.{Reaches, search_new, searches_snoc}
use Rattle.load_state.specs.declared.Progress.{Progress}
use Rattle.load_state.specs.Holds.{Lent, lent, by_list, by_buckets, Holds, Meets, Symbolic, AllSymbolic, AllFit, Hashing, find_listed, Held, Goes, span, name_at, hashes}
use Rattle.reader.specs.declared.Stop.{Stop}
use Rattle.symbol_search.specs.Search.{Found, Probe}
use Rattle.symbol_reader.specs.Parts.{add_name, read_name}
use Rattle.load_state.specs.Stores.{at_held}
use Rattle.load_state.specs.Laws.{held_goes, lead_after, given}
use Rattle.load_state.specs.Needs.{entry_symbolic}
use Rattle.symbol_reader.proofs.Names.{searched_plainly, known_there}
use Rattle.load_state.specs.Names.{untrue, symbolic_kind, symbolic_below, name_more, fit_any}
use Rattle.load_state.specs.Hashing.{hashing_kept}
use Rattle.symbol_search.proofs.Probing.{word_at, word_round, word_listed, word_symbolic, reached}

-- a name's symbol has that name
named_name : (b name : List ℕ) (r : Row) → named b name r ≡ true → name ≡ name_of b r
unfolding named
named_name b name r e = equal_true name (name_of b r) (and_right (eqb (kind r) symbol_kind) (equal name (name_of b r)) e)

-- ---- the symbol list, by its entries

-- no entry has the name
listed_nowhere : (b name : List ℕ) (rows : List Row) (l : List ℕ) → ((i : ℕ) → i < length l → named b name (get_or rows (get_or l i 0) nil) ≡ true → ⊥) → find_listed b name rows l ≡ none
unfolding find_listed pick
listed_nowhere b name rows [] f = refl
listed_nowhere b name rows (h ∷ l) f = go (named b name (get_or rows h nil)) refl (listed_nowhere b name rows l (λ i u. f (suc i) (omega arith)))
  where
    go : (t : Bool) → named b name (get_or rows h nil) ≡ t → find_listed b name rows l ≡ none → pick t (some h) (find_listed b name rows l) ≡ none
    go true e r = absurd (f 0 (omega arith) e)
    go false e r = r

-- an entry has it, and every one that has it is w
listed_one : (b name : List ℕ) (rows : List Row) (w : ℕ) (l : List ℕ) (j : ℕ) → j < length l → named b name (get_or rows (get_or l j 0) nil) ≡ true → ((i : ℕ) → i < length l → named b name (get_or rows (get_or l i 0) nil) ≡ true → get_or l i 0 ≡ w) → find_listed b name rows l ≡ some w
unfolding find_listed pick
listed_one b name rows w [] j u e f = absurd (omega arith)
listed_one b name rows w (h ∷ l) zero u e f = rw e (ap some (f 0 (omega arith) e))
listed_one b name rows w (h ∷ l) (suc j) u e f = go (named b name (get_or rows h nil)) refl (listed_one b name rows w l j (omega arith) e (λ i v. f (suc i) (omega arith)))
  where
    go : (t : Bool) → named b name (get_or rows h nil) ≡ t → find_listed b name rows l ≡ some w → pick t (some h) (find_listed b name rows l) ≡ some w
    go true q r = ap some (f 0 (omega arith) q)
    go false q r = r

-- a symbol with that name
named_of : (b name : List ℕ) (r : Row) → Symbolic r → name ≡ name_of b r → named b name r ≡ true
unfolding named
named_of b name r y e = rw (symbolic_kind r y) (ap (equal name) (sym e) ∙ equal_self name)

-- one entry more: it is no other's name, and it is not zero
snoc_at : (l : List ℕ) (r i : ℕ) → i < length (l ++ (r ∷ [])) → ((i < length l) × (get_or (l ++ (r ∷ [])) i 0 ≡ get_or l i 0)) ⊎ (get_or (l ++ (r ∷ [])) i 0 ≡ r)
snoc_at [] r zero u = inr refl
snoc_at [] r (suc i) u = absurd (omega arith)
snoc_at (x ∷ l) r zero u = inl (omega arith, refl)
snoc_at (x ∷ l) r (suc i) u = go (snoc_at l r i (omega arith))
  where
    go : ((i < length l) × (get_or (l ++ (r ∷ [])) i 0 ≡ get_or l i 0)) ⊎ (get_or (l ++ (r ∷ [])) i 0 ≡ r) → ((suc i < length (x ∷ l)) × (get_or (l ++ (r ∷ [])) i 0 ≡ get_or l i 0)) ⊎ (get_or (l ++ (r ∷ [])) i 0 ≡ r)
    go (inl (v, e)) = inl (omega arith, e)
    go (inr e) = inr e

module _ (l : List ℕ) (r : ℕ) where
  nonzero_snoc : ((i : ℕ) → i < length l → get_or l i 0 ≡ 0 → ⊥) → (r ≡ 0 → ⊥) → (i : ℕ) → i < length (l ++ (r ∷ [])) → get_or (l ++ (r ∷ [])) i 0 ≡ 0 → ⊥
  nonzero_snoc f g i u e = go (snoc_at l r i u)
    where
      go : ((i < length l) × (get_or (l ++ (r ∷ [])) i 0 ≡ get_or l i 0)) ⊎ (get_or (l ++ (r ∷ [])) i 0 ≡ r) → ⊥
      go (inl (v, q)) = f i v (sym q ∙ e)
      go (inr q) = g (sym q ∙ e)

  unique_snoc : (n : ℕ → List ℕ) → ((i j : ℕ) → i < length l → j < length l → n (get_or l i 0) ≡ n (get_or l j 0) → get_or l i 0 ≡ get_or l j 0) → ((i : ℕ) → i < length l → n (get_or l i 0) ≡ n r → get_or l i 0 ≡ r) → (i j : ℕ) → i < length (l ++ (r ∷ [])) → j < length (l ++ (r ∷ [])) → n (get_or (l ++ (r ∷ [])) i 0) ≡ n (get_or (l ++ (r ∷ [])) j 0) → get_or (l ++ (r ∷ [])) i 0 ≡ get_or (l ++ (r ∷ [])) j 0
  unique_snoc n f g i j u v e = go (snoc_at l r i u) (snoc_at l r j v)
    where
      go : ((i < length l) × (get_or (l ++ (r ∷ [])) i 0 ≡ get_or l i 0)) ⊎ (get_or (l ++ (r ∷ [])) i 0 ≡ r) → ((j < length l) × (get_or (l ++ (r ∷ [])) j 0 ≡ get_or l j 0)) ⊎ (get_or (l ++ (r ∷ [])) j 0 ≡ r) → get_or (l ++ (r ∷ [])) i 0 ≡ get_or (l ++ (r ∷ [])) j 0
      go (inl (x, p)) (inl (y, q)) = p ∙ f i j x y (sym (ap n p) ∙ e ∙ ap n q) ∙ sym q
      go (inl (x, p)) (inr q) = p ∙ g i x (sym (ap n p) ∙ e ∙ ap n q) ∙ sym q
      go (inr p) (inl (y, q)) = p ∙ sym (g j y (sym (ap n q) ∙ sym e ∙ ap n p)) ∙ sym q
      go (inr p) (inr q) = p ∙ sym q

-- ---- a name's symbol put on the list

-- what it leaves of a state, by what the search for it answered
pub record Named (name : List ℕ) (v : code.Option ℕ) (s : State) (r : ℕ) (s' : State) : Type 0 where
  pub symbols : s'.symbols ≡ s.symbols ++ (r ∷ [])
  pub rows : length s.nodes ≤ length s'.nodes
  pub kept : (i : ℕ) → i < length s.symbols → name_at s'.bytes s'.nodes (get_or s.symbols i 0) ≡ name_at s.bytes s.nodes (get_or s.symbols i 0)
  pub name_is : name_at s'.bytes s'.nodes r ≡ name
  pub found : MatchOption v (r ≡ length s.nodes) (λ h. r ≡ h)

-- a step that gave a result gave it because its test held
given_by : (t : Bool) (h r : ℕ) (u s' : State) (q : Refusal) → pick t (ok h u) (refused q) ≡ ok r s' → (r ≡ h) × (s' ≡ u)
unfolding pick
given_by true h r u s' q e = (cc, cc)
given_by false h r u s' q e = no_ok e

-- the state with a new name's symbol
abbrev with_new : List ℕ → State → State
with_new name s = symbols_set (s.symbols ++ (length s.nodes ∷ [])) (nodes_set (s.nodes ++ (symbol (length s.bytes) (length name) ∷ [])) (copied_more (length name) (bytes_set (s.bytes ++ name) s)))

module _ (room : Room) (name : List ℕ) (s : State) (r : ℕ) (s' : State) where
  old_given : (h : ℕ) → (intern_as room name (some h) >>= add_symbol room) s ≡ ok r s' → (r ≡ h) × (s' ≡ symbols_set (s.symbols ++ (h ∷ [])) (noted false s))
  unfolding intern_as note add_symbol pure ◌>>=◌ next
  old_given h e = given_by (ltb (length s.symbols) room.symbols) h r _ s' _ e

  new_given : (intern_as room name none >>= add_symbol room) s ≡ ok r s' → (r ≡ length s.nodes) × (s' ≡ with_new name s)
  unfolding intern_as add_bytes add_node add_symbol ◌>>=◌
  new_given e =
      un (next (add_bytes room name s) (λ start. add_node room (symbol start (length name)))) (add_symbol room) e
      (λ h u p q.
      un (add_bytes room name s) (λ start. add_node room (symbol start (length name))) p
      (λ start t x y.
      let (a, b) = given_by _ _ start _ t _ x in
      let (d, f) = given_by _ _ h _ u _ y in
      let (g, k) = given_by _ _ r _ s' _ q in
      let w : u ≡ nodes_set (s.nodes ++ (symbol (length s.bytes) (length name) ∷ [])) (copied_more (length name) (bytes_set (s.bytes ++ name) s)) = f ∙ (λ j. nodes_set ((b j).nodes ++ (symbol (a j) (length name) ∷ [])) (b j)) in
      let z : h ≡ length s.nodes = d ∙ ap (λ (t : State). length t.nodes) b in
      (g ∙ z, k ∙ λ j. symbols_set ((w j).symbols ++ (z j ∷ [])) (w j))))

  -- a name after its search
  pub named_after : (v : code.Option ℕ) → AllFit (length s.bytes) s.nodes → AllSymbolic s.nodes s.symbols → IfSome v (λ h. named s.bytes name (get_or s.nodes h nil) ≡ true) → add_name room name v s ≡ ok r s' → Named name v s r s'
  unfolding pick name_of kind words
  named_after (Some h) f y n e =
      let (a, b) = old_given h e in
      subst (λ (t : State). Named name (Some h) s r t) (sym b)
      (record { symbols = ap (λ (h : ℕ). s.symbols ++ (h ∷ [])) (sym a); rows = omega arith; kept = λ i u. refl; name_is = ap (name_at s.bytes s.nodes) a ∙ sym (named_name s.bytes name _ n); found = a })
  named_after None f y n e =
      let row = symbol (length s.bytes) (length name) in
      let (a, b) = new_given e in
      subst (λ (t : State). Named name None s r t) (sym b)
      (record {
        symbols = ap (λ (h : ℕ). s.symbols ++ (h ∷ [])) (sym a);
        rows = simp length-append (omega arith);
        kept = λ i u. let h = get_or s.symbols i 0 in ap (name_of (s.bytes ++ name)) (get_or-append s.nodes (row ∷ []) nil h (symbolic_below s.nodes h (y i u))) ∙ name_more s.bytes name (get_or s.nodes h nil) (fit_any (length s.bytes) s.nodes h f);
        name_is = ap (λ (h : ℕ). name_at (s.bytes ++ name) (s.nodes ++ (row ∷ [])) h) a ∙ ap (name_of (s.bytes ++ name)) (get_or-append_seam s.nodes row [] nil) ∙ range_last s.bytes name;
        found = a;
      })

-- ---- what a search finds

-- by the word where it ended: zero, or a symbol's number
by_word : {A : Type 0} (w : ℕ) → (w ≡ 0 → A) → ((w ≡ 0 → ⊥) → A) → A
by_word {A} w x y = go (eqb w 0) refl
  where
    go : (t : Bool) → eqb w 0 ≡ t → A
    go true e = x (eqb-true w 0 e)
    go false e = y (eqb-false w 0 e)

module _ {input : List ℕ} {room : Room} {s : State} {T : Lent} {c : Progress} (H : Holds input room s T c) (asked : T.symbols.searched ≡ true) (b : T.symbols.buckets ≡ [] → ⊥) where
  abbrev B : List ℕ
  B = T.symbols.buckets

  abbrev Z : Hashing room.nodes s.bytes s.nodes s.symbols B c.looked (is_some c.compared)
  Z = (H.known.names asked).hashed b

  module _ (name : List ℕ) (p : ℕ) (P : Probe s name B (fnv_1a name % length B) p) where
    abbrev at : ℕ → ℕ
    at q = bucket B (fnv_1a name % length B + q)

    -- an entry with that name stands where the search ends
    stands : (j : ℕ) → j < length s.symbols → named s.bytes name (get_or s.nodes (get_or s.symbols j 0) nil) ≡ true → at p ≡ get_or s.symbols j 0
    stands j u e = go (ltb R.at p) (ltb p R.at) refl refl
      where
        h : ℕ
        h = get_or s.symbols j 0

        R : Reaches B (fnv_1a name) h
        R = subst (λ (k : List ℕ). Reaches B (fnv_1a k) h) (sym (named_name s.bytes name (get_or s.nodes h nil) e)) (reached H asked b j u)

        here : at R.at ≡ h
        here = word_round B (fnv_1a name) R.at ∙ R.there

        go : (x y : Bool) → ltb R.at p ≡ x → ltb p R.at ≡ y → at p ≡ h
        go true y a d = untrue (sym (P.before R.at (ltb-true _ _ a)).1 ∙ ap (λ (v : ℕ). named s.bytes name (get_or s.nodes v nil)) here ∙ e)
        go false true a d = absurd (past P.ends)
          where
            other : (at p ≡ h → ⊥) × (at p ≡ 0 → ⊥)
            other =
                let f = R.before p (ltb-true _ _ d) in
                let g = word_round B (fnv_1a name) p in
                (λ q. f.0 (sym g ∙ q), λ q. f.1 (sym g ∙ q))

            past : (at p ≡ 0) ⊎ (named s.bytes name (get_or s.nodes (at p) nil) ≡ true) → ⊥
            past (inl q) = other.1 q
            past (inr q) =
                let (i, v, k) = word_listed H asked b (fnv_1a name % length B + p) other.1 in
                let d = sym (named_name s.bytes name _ (ap (λ (x : ℕ). named s.bytes name (get_or s.nodes x nil)) k ∙ q)) ∙ named_name s.bytes name _ e in
                other.0 (sym k ∙ Z.unique i j v u d)
        go false false a d = let z : p ≡ R.at = omega (arith, ltb-false R.at p a, ltb-false p R.at d) in ap at z ∙ here

    -- what a search answered by that word
    module _ (v : code.Option ℕ) (f : at p ≡ 0 → v ≡ None) (g : (at p ≡ 0 → ⊥) → v ≡ Some (at p)) where
      word_named : (at p ≡ 0 → ⊥) → named s.bytes name (get_or s.nodes (at p) nil) ≡ true
      word_named d = go P.ends
        where
          go : (at p ≡ 0) ⊎ (named s.bytes name (get_or s.nodes (at p) nil) ≡ true) → named s.bytes name (get_or s.nodes (at p) nil) ≡ true
          go (inl q) = absurd (d q)
          go (inr q) = q

      pub is_named : IfSome v (λ h. named s.bytes name (get_or s.nodes h nil) ≡ true)
      is_named = by_word (at p) (λ z. rw (f z) tt) (λ d. rw (g d) (word_named d))

      pub found_by : Found s name v
      found_by =
          by_word (at p)
          (λ z. subst (Found s name) (sym (f z)) (record { same = (H.known.names asked).interned.names name ∙ listed_nowhere s.bytes name s.nodes s.symbols (λ i u y. Z.nonzero i u (sym (stands i u y) ∙ z)); symbol = tt }))
          (λ d.
          let (j, u, k) = word_listed H asked b (fnv_1a name % length B + p) d in
          let y = ap (λ (x : ℕ). named s.bytes name (get_or s.nodes x nil)) k ∙ word_named d in
          subst (Found s name) (sym (g d)) (record { same = (H.known.names asked).interned.names name ∙ listed_one s.bytes name s.nodes (at p) s.symbols j u y (λ i w x. sym (stands i w x)); symbol = word_symbolic H asked b (fnv_1a name % length B + p) d }))

      -- ---- its symbol r is put on the list, and where the search ended

      module _ (r : ℕ) (s' : State) (N : Named name v s r s') where
        by_number : {A : Type 0} → ((at p ≡ 0 → ⊥) → r ≡ at p → A) → (at p ≡ 0 → r ≡ length s.nodes → A) → A
        by_number x y = by_word (at p) (λ z. y z (rw (f z) at N.found)) (λ d. x d (rw (g d) at N.found))

        not_zero : r ≡ 0 → ⊥
        not_zero e = by_number (λ d q. d (sym q ∙ e)) (λ z q. omega (arith, q, e, Z.one))

        -- an entry with its name is r
        only : (i : ℕ) → i < length s.symbols → name_at s.bytes s.nodes (get_or s.symbols i 0) ≡ name → get_or s.symbols i 0 ≡ r
        only i u e =
            let y = named_of s.bytes name (get_or s.nodes (get_or s.symbols i 0) nil) ((H.known.names asked).interned.symbolic i u) (sym e) in
            by_number (λ d q. sym (stands i u y) ∙ sym q) (λ z q. absurd (Z.nonzero i u (sym (stands i u y) ∙ z)))

        -- the words before are others
        clear : (q : ℕ) → q < p → (bucket B (fnv_1a name + q) ≡ r → ⊥) × (bucket B (fnv_1a name + q) ≡ 0 → ⊥)
        clear q l =
            let e = word_round B (fnv_1a name) q in
            let (d, n) = P.before q l in (
              λ k. by_number (λ u x. untrue (sym n ∙ ap (λ (h : ℕ). named s.bytes name (get_or s.nodes h nil)) (e ∙ k ∙ x) ∙ word_named u)) (λ z x. omega (arith, e ∙ k ∙ x, symbolic_below s.nodes _ (word_symbolic H asked b (fnv_1a name % length B + q) d))),
              λ k. d (e ∙ k),
            )

        ends_there : (bucket B (fnv_1a name + p) ≡ r) ⊎ (bucket B (fnv_1a name + p) ≡ 0)
        ends_there = let e = word_round B (fnv_1a name) p in by_number (λ d q. inl (sym e ∙ sym q)) (λ z q. inr (sym e ∙ z))

        pub hashing_named : {t : Bool} → t ≡ false → Hashing room.nodes s'.bytes s'.nodes s'.symbols (set B ((fnv_1a name % length B + p) % length B) r) (c.looked + (p + 1)) t
        hashing_named {t} y =
            let K = hashes s'.bytes s'.nodes in
            let Z' : Hashing room.nodes s'.bytes s'.nodes s.symbols B c.looked (is_some c.compared) = hashing_kept N.rows N.kept Z in
            let i = (fnv_1a name % length B + p) % length B in
            let m : length (set B i r) ≡ length B = length-set B i r in
            let e : (fnv_1a name + p) % length B ≡ i = sym (mod-add-mod (fnv_1a name) (length B) p) in
            let l : c.looked + suc p ≡ c.looked + (p + 1) = omega arith in
            subst (λ (z : List ℕ). Hashing room.nodes s'.bytes s'.nodes z (set B i r) (c.looked + (p + 1)) t) (sym N.symbols)
            (record {
              enough = omega (arith, m, Z.enough);
              short = omega (arith, m, Z.short);
              filled =
                  ap (λ (n : ℕ). searches K (s.symbols ++ (r ∷ [])) (empty n)) m
                  ∙ searches_snoc K s.symbols r (empty (length B))
                  ∙ (λ j. search (fnv_1a (N.name_is j)) r (Z'.filled j))
                  ∙ search_new (record { words = B; looked = c.looked }) (fnv_1a name) r p P.inside clear ends_there
                  ∙ λ j. record { words = set B (e j) r; looked = l j };
              unique = unique_snoc s.symbols r (name_at s'.bytes s'.nodes) Z'.unique (λ i u q. only i u (sym (N.kept i u) ∙ q ∙ N.name_is));
              nonzero = nonzero_snoc s.symbols r Z.nonzero not_zero;
              one = Z'.one;
              uncounted = y;
            })

-- ---- held without the bucket table, and with it again

forget : {input : List ℕ} {room : Room} {s : State} {no re by sy B ob : List ℕ} {c : Progress} → Holds input room s (lent no re by (by_buckets sy B) ob) c → Holds input room s (lent no re by (by_list sy) ob) c
forget H = (let L = H.laid in let N = H.known in record {
  fixed = H.fixed;
  laid = record { nodes = L.nodes; references = L.references; bytes = L.bytes; symbols = L.symbols; objects = L.objects };
  counted = H.counted;
  noted = H.noted;
  known = record { below = N.below; entries = N.entries; fit = N.fit; names = λ _. record { interned = (N.names refl).interned; hashed = λ b. absurd (b refl) } };
})

attach : {input : List ℕ} {room : Room} {s : State} {no re by sy ob : List ℕ} {c : Progress} (B : List ℕ) (x : ℕ) → Holds input room s (lent no re by (by_list sy) ob) c → Hashing room.nodes s.bytes s.nodes s.symbols B x (is_some c.compared) → Holds input room s (lent no re by (by_buckets sy B) ob) (record c { looked = x })
attach B x H Z = (let L = H.laid in let C = H.counted in let N = H.known in record {
  fixed = H.fixed;
  laid = record { nodes = L.nodes; references = L.references; bytes = L.bytes; symbols = L.symbols; objects = L.objects };
  counted = record { count_at = C.count_at; inside = C.inside; count_nodes = C.count_nodes; room_nodes = C.room_nodes; count_references = C.count_references; count_bytes = C.count_bytes; count_symbols = C.count_symbols; count_objects = C.count_objects };
  noted = H.noted;
  known = record { below = N.below; entries = N.entries; fit = N.fit; names = λ _. record { interned = (N.names refl).interned; hashed = λ b. Z } };
})

-- a name is put on the list as without the bucket table, and then where its search ended
module _ {input : List ℕ} {room : Room} {limit : ℕ} {no re by sy ob B : List ℕ} {c : Progress} (b : B ≡ [] → ⊥) (name : List ℕ) (v : code.Option ℕ) (p : ℕ) (P : (s : State) → Holds input room s (lent no re by (by_buckets sy B) ob) c → Probe s name B (fnv_1a name % length B) p) (f : bucket B (fnv_1a name % length B + p) ≡ 0 → v ≡ None) (g : (bucket B (fnv_1a name % length B + p) ≡ 0 → ⊥) → v ≡ Some (bucket B (fnv_1a name % length B + p))) where
  pub named_by_hash : {no' by' sy' B' : List ℕ} {c' : Progress} {r : ℕ} → B' ≡ set B ((fnv_1a name % length B + p) % length B) r → Meets input room limit (add_name room name v) (lent no re by (by_list sy) ob) c (Ok r) (lent no' re by' (by_list sy') ob) c' → Meets input room limit (add_name room name v) (lent no re by (by_buckets sy B) ob) c (Ok r) (lent no' re by' (by_buckets sy' B') ob) (record c' { looked = c.looked + (p + 1) })
  unfolding pure
  named_by_hash {B' = B'} {c'} {r} d M = given (record {
    goes = λ s H.
        let w = M.led.goes s (forget H) in
        let N = named_after room name s r w.state v H.known.fit (H.known.names refl).interned.symbolic (is_named H refl b name p (P s H) v f g) w.same in
        let z = M.led.counts ∙ ((H.known.names refl).hashed b).uncounted in
        let Z = hashing_named H refl b name p (P s H) v f g r w.state N z in
        record { state = w.state; holds = attach B' (c.looked + (p + 1)) w.holds (subst (λ (t : List ℕ). Hashing room.nodes w.state.bytes w.state.nodes w.state.symbols t (c.looked + (p + 1)) (is_some c'.compared)) (sym d) Z); same = w.same; grown = w.grown; behind = λ x. untrue (sym x) };
    counts = M.led.counts;
  })

-- a refusal without the bucket table is one with it
refused_by_hash : {input : List ℕ} {room : Room} {limit : ℕ} {m : Reader ℕ} {no re by sy ob B : List ℕ} {T' T'' : Lent} {c c' c'' : Progress} {q : Stop} → Meets input room limit m (lent no re by (by_list sy) ob) c (Err q) T' c' → Meets input room limit m (lent no re by (by_buckets sy B) ob) c (Err q) T'' c''
refused_by_hash M = record { led = record { refuses = λ s H. M.led.refuses s (forget H) } }

-- ---- a name by its hash k: its search passes p words, and v is answered by the word i where it ends

pub forget_held : {input no re by sy B ob : List ℕ} {c : Progress} → Held input (lent no re by (by_buckets sy B) ob) c → Held input (lent no re by (by_list sy) ob) c
forget_held H = record { room = H.room; state = H.state; holds = forget H.holds }

pub record Sought (input no by sy B : List ℕ) (c : Progress) (n k p i : ℕ) (v : code.Option ℕ) : Type 0 where
  pub inside : c.at + n ≤ length input
  pub words : length B ≡ 0 → ⊥
  pub hash : k ≡ fnv_1a (take n (drop c.at input))
  pub probe : (room : Room) (s : State) (re ob : List ℕ) (m : Progress) → Holds input room s (lent no re by (by_buckets sy B) ob) m → Probe s (span input (c.at + n) n) B (k % length B) p
  pub place : i ≡ (k % length B + p) % length B
  pub zero : get_or B i 0 ≡ 0 → v ≡ None
  pub other : (get_or B i 0 ≡ 0 → ⊥) → v ≡ Some (get_or B i 0)

-- nothing is counted
uncounted_none : (o : code.Option ℕ) → is_some o ≡ false → o ≡ None
uncounted_none None e = refl
uncounted_none (Some k) e = untrue (sym e)

-- no words are no bucket table
pub without_words : {input : List ℕ} {room : Room} {limit : ℕ} {r : Result ℕ Stop} {m : Reader ℕ} {no re by sy ob no' re' by' sy' ob' : List ℕ} {c c' : Progress} (B : List ℕ) → length B ≡ 0 → Meets input room limit m (lent no re by (by_list sy) ob) c r (lent no' re' by' (by_list sy') ob') c' → Meets input room limit m (lent no re by (by_buckets sy B) ob) c r (lent no' re' by' (by_buckets sy' B) ob') c'
without_words [] e M = M
without_words (x ∷ B) e M = absurd (omega arith)

module _ {input no by sy B : List ℕ} {c : Progress} {n k p i : ℕ} {v : code.Option ℕ} (S : Sought input no by sy B c n k p i v) where
  abbrev name : List ℕ
  name = span input (c.at + n) n

  abbrev c₁ : Progress
  c₁ = record c { at = c.at + n }

  -- the word where the search ended
  abbrev w : ℕ
  w = bucket B (fnv_1a name % length B + p)

  b : B ≡ [] → ⊥
  b z = S.words (ap length z)

  is_hash : k ≡ fnv_1a name
  is_hash = let a : c.at ≡ c.at + n - n = omega arith in S.hash ∙ ap (λ (j : ℕ). fnv_1a (take n (drop j input))) a

  probed_at : (room : Room) (s : State) (re ob : List ℕ) (m : Progress) → Holds input room s (lent no re by (by_buckets sy B) ob) m → Probe s name B (fnv_1a name % length B) p
  probed_at room s re ob m H = subst (λ (j : ℕ). Probe s name B (j % length B) p) is_hash (S.probe room s re ob m H)

  is_word : get_or B i 0 ≡ w
  is_word = word_at B (k % length B + p) i S.place ∙ ap (λ (j : ℕ). bucket B (j % length B + p)) is_hash

  if_zero : w ≡ 0 → v ≡ None
  if_zero z = S.zero (is_word ∙ z)

  if_not : (w ≡ 0 → ⊥) → v ≡ Some w
  if_not z = S.other (λ u. z (sym is_word ∙ u)) ∙ ap (λ (h : ℕ). Some h) is_word

  module _ {re ob : List ℕ} (H : Held input (lent no re by (by_buckets sy B) ob) c) where
    -- the symbol is on the list
    on_list : (w ≡ 0 → ⊥) → (j : ℕ) × (j < c.symbols) × (get_or sy j 0 ≡ w)
    on_list d =
        let G = H.holds in
        let (j, u, x) = word_listed G refl b (fnv_1a name % length B + p) d in
        (j, omega (arith, u, G.counted.count_symbols), at_held j G.laid.symbols u ∙ x)

    word_there : (w ≡ 0 → ⊥) → {room : Room} {re' ob' : List ℕ} {m : Progress} {s : State} → m.symbols ≡ c.symbols → Holds input room s (lent no re' by (by_list sy) ob') m → Symbolic (get_or s.nodes w nil)
    word_there d {s = s} z G = let (j, u, x) = on_list d in subst (λ (a : ℕ). Symbolic (get_or s.nodes a nil)) x (entry_symbolic j refl G (omega (arith, u, z)))

    pub list_symbolic : {room : Room} {re' ob' : List ℕ} {m : Progress} {s : State} → m.symbols ≡ c.symbols → Holds input room s (lent no re' by (by_list sy) ob') m → IfSome v (λ h. Symbolic (get_or s.nodes h nil))
    list_symbolic z G = by_word w (λ e. rw (if_zero e) tt) (λ d. rw (if_not d) (word_there d z G))

    pub known_below : IfSome v (λ h. h < c.nodes)
    known_below = known_there v (list_symbolic refl (forget H.holds)) (forget H.holds)

    hashed_goes : (room : Room) (re' ob' : List ℕ) → Goes input room (read_name input room n) (lent no re' by (by_buckets sy B) ob') c (add_name room name v) (lent no re' by (by_buckets sy B) ob') c₁
    hashed_goes room re' ob' = searched_plainly n v S.inside (λ s G. found_by G refl b name p (probed_at room s re' ob' c G) v if_zero if_not) (uncounted_none _ ((H.holds.known.names refl).hashed b).uncounted)

    -- the state before it is put on the list
    pub held_after : Held input (lent no re by (by_list sy) ob) c₁
    held_after = forget_held (held_goes {m = λ room. read_name input room n} {m' = λ room. add_name room name v} H (λ room. hashed_goes room re ob))

    pub hashed_meets : {room : Room} {limit : ℕ} {re' ob' no' by' sy' : List ℕ} {c' : Progress} {r : ℕ} → Meets input room limit (add_name room name v) (lent no re' by (by_list sy) ob') c₁ (Ok r) (lent no' re' by' (by_list sy') ob') c' → Meets input room limit (read_name input room n) (lent no re' by (by_buckets sy B) ob') c (Ok r) (lent no' re' by' (by_buckets sy' (set B i r)) ob') (record c' { looked = c.looked + (p + 1) })
    hashed_meets {room} {re' = re'} {ob'} {r = r} M =
        let y : set B i r ≡ set B ((fnv_1a name % length B + p) % length B) r = ap (λ (a : ℕ). set B a r) (S.place ∙ ap (λ (j : ℕ). (j % length B + p) % length B) is_hash) in
        lead_after (hashed_goes room re' ob') (named_by_hash b name v p (λ s G. probed_at room s re' ob' c₁ G) if_zero if_not y M)

    pub hashed_stop : {room : Room} {limit : ℕ} {re' ob' : List ℕ} {T' T'' : Lent} {c' c'' : Progress} {q : Stop} → Meets input room limit (add_name room name v) (lent no re' by (by_list sy) ob') c₁ (Err q) T' c' → Meets input room limit (read_name input room n) (lent no re' by (by_buckets sy B) ob') c (Err q) T'' c''
    hashed_stop {room} {re' = re'} {ob'} M = lead_after (hashed_goes room re' ob') (refused_by_hash M)
