-- The words of a list: one more of them, and the run over integers and symbol links.
use Prim.Native.Nat.{ℕ, suc, ◌+◌, ◌-◌, ◌*◌, ◌%◌, ◌≤◌, ◌<◌}
use native.Mathlib.Omega.{arith}
use mathlib.Core.Path.{◌≡◌, refl, sym, ap, ◌∙◌, subst}
use mathlib.Core.Bool.{Bool, true, false}
use mathlib.Core.List.{List, [], ◌∷◌}
use mathlib.Core.Logic.{◌⊎◌, inl, inr}
use lib.Dec.{eqb}
use lib.ListN.{length, get_or, set, length-set}
use lib.Seq.{sets}
use borrow.Author.Tests.{lt-ltb, ne_eqb}
use Rattle.definition.specs.Run.{pure, pick, look, ◌>>=◌}
use Rattle.definition.specs.Integer.{value, integer_bytes}
use Rattle.definition.specs.Kind.{FIXNUM, SYMBOL_LINK}
use Rattle.definition.specs.Node.{fixnum, words, width, kind}
use Rattle.definition.specs.State.{Room, Reader}
use Rattle.definition.specs.Load.{head, value_of, read_value, read_count, read_fixnum, read_symbol_link, read_symbol_like, put_reference, add_node, entry}
use Rattle.definition.specs.declared.Refusal.TheVariants.{MissingSymbol}
use Rattle.reader.specs.Integers.{form_at, size_at, word_at, dumped_at, size_small}
use Rattle.load_state.specs.declared.Progress.{Progress}
use Rattle.load_state.specs.Holds.{Symbols, Lent, lent, by_buckets, Held, Goes}
use Rattle.run_reader.specs.Run.{Link, Next, Either, Coming, slot, slots}
use Rattle.load_state.specs.Names.{untrue, other_kind}
use Rattle.load_state.specs.Laws.{then, still, goes_to, goes_first, held_goes}
use Rattle.input_reader.proofs.Heads.{kind_read}
use Rattle.symbol_reader.proofs.Names.{like_link}
use Rattle.input_reader.proofs.Input.{integer_one, integer_whole}
use Rattle.symbol_reader.proofs.Entries.{symbol_listed}
use Rattle.table_writer.proofs.Added.{reference_put, row_goes}

-- ---- one word

-- no name is wanted there
pub slot_value : (name inner : Reader ℕ) (names to : ℕ) → (to % 2 ≡ names → ⊥) → slot name inner names to ≡ inner
unfolding pick
slot_value name inner names to n = rw (ne_eqb (to % 2) names n)

module _ {input : List ℕ} {room : Room} (name inner : Reader ℕ) (names : ℕ) where
  -- a member is read and stored
  slot_suc : {T : Lent} {c : Progress} {no re by : List ℕ} {sy : Symbols} {ob : List ℕ} {c' : Progress} (v n to : ℕ) → to < c'.references → Goes input room (slot name inner names to) T c (pure v) (lent no re by sy ob) c' → Goes input room (slots name inner names (suc n) to) T c (slots name inner names n (suc to)) (lent no (set re to v) by sy ob) c'
  unfolding slots
  slot_suc v n to h g = then (goes_first (λ x. put_reference to x >>= λ _. slots name inner names n (suc to)) g) (goes_first (λ _. slots name inner names n (suc to)) (reference_put to v h))

  -- the same at the numbers of a loop
  pub slot_put : {T : Lent} {c : Progress} {no re by : List ℕ} {sy : Symbols} {ob : List ℕ} {c' : Progress} (v end to : ℕ) → to < end → to < c'.references → Goes input room (slot name inner names to) T c (pure v) (lent no re by sy ob) c' → Goes input room (slots name inner names (end - to) to) T c (slots name inner names (end - (to + 1)) (to + 1)) (lent no (set re to v) by sy ob) c'
  slot_put {T} {c} {no} {re} {by} {sy} {ob} {c'} v end to l h g =
      let a : suc (end - (to + 1)) ≡ end - to = omega arith in
      let b : suc to ≡ to + 1 = omega arith in
      subst (λ x. Goes input room (slots name inner names x to) T c (slots name inner names (end - (to + 1)) (to + 1)) (lent no (set re to v) by sy ob) c') a
      (goes_to (ap (λ (x : ℕ). slots name inner names (end - (to + 1)) x) b) (slot_suc v (end - (to + 1)) to h g))

-- ---- a link

-- the index of one byte, after the kind byte
index_goes : {input : List ℕ} {room : Room} {c : Progress} {no re by : List ℕ} {sy : Symbols} {ob : List ℕ} (i : ℕ) → c.at < length input → form_at input c.at ≡ value i → integer_bytes i ≡ get_or input c.at 0 ∷ [] → i < c.symbols → i < 2147483648 → Goes input room (read_symbol_link input) (lent no re by sy ob) c (pure (get_or sy.list i 0)) (lent no re by sy ob) (record c { at = c.at + 1 })
unfolding read_symbol_link read_count pick
index_goes i l e d h k =
    then (goes_first (λ i. look λ s. entry s.symbols i (MissingSymbol i)) (then (goes_first _ (integer_one {limit = 0} i l e d (omega arith)).led) (goes_to (simp (lt-ltb i 2147483648 k)) (still (λ s H. refl)))))
    (symbol_listed i (MissingSymbol i) h)

module _ {room : Room} {no re by : List ℕ} {sy : Symbols} {ob : List ℕ} (input : List ℕ) (c : Progress) (limit levels : ℕ) (some : levels ≡ 0 → ⊥) (i : ℕ) (l : c.at + 2 ≤ length input) (k : get_or input c.at 0 ≡ SYMBOL_LINK) (e : form_at input (c.at + 1) ≡ value i) (d : integer_bytes i ≡ get_or input (c.at + 1) 0 ∷ []) (h : i < c.symbols) (small : i < 2147483648) where
  -- after the kind byte
  link_rest : Goes input room (read_symbol_link input) (lent no re by sy ob) (record c { at = c.at + 1 }) (pure (get_or sy.list i 0)) (lent no re by sy ob) (record c { at = c.at + 2 })
  link_rest =
      let next : c.at + 1 + 1 ≡ c.at + 2 = omega arith in
      subst (λ x. Goes input room (read_symbol_link input) (lent no re by sy ob) (record c { at = c.at + 1 }) (pure (get_or sy.list i 0)) (lent no re by sy ob) (record c { at = x })) next
      (index_goes i (omega arith) e d h small)

  -- as a name and as a value alike
  pub link_goes : (t : Bool) → Goes input room (pick t (read_symbol_like input room) (read_value input room limit levels)) (lent no re by sy ob) c (pure (get_or sy.list i 0)) (lent no re by sy ob) (record c { at = c.at + 2 })
  unfolding pick head value_of
  link_goes true = then (like_link (omega arith) k) link_rest
  link_goes false = then (goes_to (ap (λ (x : ℕ). value_of input room (read_value input room limit (levels - 1)) x (head x)) k) (kind_read limit levels some (omega arith))) link_rest

-- ---- an integer

module _ {room : Room} {no re by : List ℕ} {sy : Symbols} {ob : List ℕ} (input : List ℕ) (c : Progress) (limit levels : ℕ) (some : levels ≡ 0 → ⊥) (l : c.at + 6 ≤ length input) (k : get_or input c.at 0 ≡ FIXNUM) (d : dumped_at input (c.at + 1) ≡ true) (h : c.nodes < c.room) where
  -- the integer, after the kind byte
  pub integer_goes : {no' : List ℕ} → word_at input (c.at + 1) < 4294967296 → no' ≡ sets no (c.nodes * width) (2 ∷ word_at input (c.at + 1) ∷ 0 ∷ 0 ∷ 0 ∷ 0 ∷ 0 ∷ 0 ∷ []) → Goes input room (read_value input room limit levels) (lent no re by sy ob) c (pure c.nodes) (lent no' re by sy ob) (record c { at = c.at + 1 + size_at input (c.at + 1); nodes = c.nodes + 1 })
  unfolding head value_of read_fixnum pick words kind
  integer_goes fits f =
      let five = size_small (get_or input (c.at + 1) 0) in
      let number = (integer_whole {limit = 0} {c = record c { at = c.at + 1 }} {T = lent no re by sy ob} _ (omega (arith, five)) refl (sym d) fits).led in
      let node = row_goes (fixnum (word_at input (c.at + 1))) _ refl (other_kind (fixnum 0) refl) h f in
      then (goes_to (ap (λ (x : ℕ). value_of input room (read_value input room limit (levels - 1)) x (head x)) k) (kind_read limit levels some (omega arith)))
      (then (goes_first (λ w. add_node room (fixnum w)) number) node)

-- ---- the run

-- what the run keeps: it has come to word `to`, with the offset in a local
pub record Running (input no₀ re₀ sy : List ℕ) (c₀ : Progress) (start end names levels : ℕ) (no re : List ℕ) (c : Progress) (at to : ℕ) : Type 0 where
  pub nodes : length no ≡ length no₀
  pub references : length re ≡ length re₀
  pub from : start ≤ to
  pub within : to ≤ end
  pub inside : end ≤ c.references
  pub known : c.symbols ≡ c₀.symbols
  pub held : (by : List ℕ) × (ob : List ℕ) × (bu : List ℕ) × Held input (lent no re by (by_buckets sy bu) ob) (record c { at = at })
  pub goes : (room : Room) (limit : ℕ) (by ob bu : List ℕ) → Goes input room (slots (read_symbol_like input room) (read_value input room limit levels) names (end - start) start) (lent no₀ re₀ by (by_buckets sy bu) ob) c₀ (slots (read_symbol_like input room) (read_value input room limit levels) names (end - to) to) (lent no re by (by_buckets sy bu) ob) (record c { at = at })

-- what would be taken is an integer or a link
pub coming_next : {input : List ℕ} {c : Progress} {names to levels : ℕ} → (levels ≡ 0 → ⊥) → Coming input c names to → Next input c.at levels
coming_next {input} {c} {names} {to} n t = (n, omega (arith, t.six), go t.kind)
  where
    go : Either input c names to → (get_or input c.at 0 ≡ FIXNUM) ⊎ (get_or input c.at 0 ≡ SYMBOL_LINK)
    go (inl k) = inr k.0
    go (inr k) = inl k.0

pub running_start : {input no re sy by ob bu : List ℕ} {c : Progress} {start end names levels : ℕ} → start ≤ end → end ≤ c.references → Held input (lent no re by (by_buckets sy bu) ob) c → Running input no re sy c start end names levels no re c c.at start
running_start {by = by} {ob} {bu} l h H = record {
  nodes = refl;
  references = refl;
  from = omega arith;
  within = l;
  inside = h;
  known = refl;
  held = (by, ob, bu, H);
  goes = λ room limit by ob bu. still (λ s H. refl);
}

module _ {input no₀ re₀ sy : List ℕ} {c₀ : Progress} {start end names levels : ℕ} {no re : List ℕ} {c : Progress} {at to : ℕ} (R : Running input no₀ re₀ sy c₀ start end names levels no re c at to) where
  abbrev c₁ : Progress
  c₁ = record c { at = at }

  pub at_inside : at ≤ length input
  at_inside = omega (arith, R.held.3.holds.counted.count_at, R.held.3.holds.counted.inside)

  -- a node more has room, and its number fits
  pub node_room : c.nodes < c.room → (c.nodes * width + width ≤ length no) × (c.nodes + 1 < 4294967296)
  node_room l =
      let H = R.held.3.holds in
      (omega (arith, l, H.fixed.count_space, H.laid.nodes.sized), omega (arith, l, H.fixed.count_space, H.fixed.small.nodes))

  -- the run is over
  pub run_over : {r : ℕ} {c' : Progress} → r ≡ to → c' ≡ record c { at = at } → (room : Room) (limit : ℕ) (by ob bu : List ℕ) → Goes input room (slots (read_symbol_like input room) (read_value input room limit levels) names (end - start) start) (lent no₀ re₀ by (by_buckets sy bu) ob) c₀ (slots (read_symbol_like input room) (read_value input room limit levels) names (end - r) r) (lent no re by (by_buckets sy bu) ob) c'
  run_over e f room limit by ob bu = rw (e, f) (R.goes room limit by ob bu)

  -- the nodes by another name
  pub run_same : {no' : List ℕ} → no' ≡ no → Running input no₀ re₀ sy c₀ start end names levels no' re c at to
  run_same e = subst (λ x. Running input no₀ re₀ sy c₀ start end names levels x re c at to) (sym e) R

  -- why it is over: what it would take does not come next
  module _ {c' : Progress} {r : ℕ} (f : c' ≡ record c { at = at }) (e : r ≡ to) (t : Coming input c' names r) where
    taken : Coming input c₁ names to
    taken = subst (λ x. Coming input x names to) f (subst (λ x. Coming input c' names x) e t)

    pub over_short : length input - at < 6 → ⊥
    over_short l = omega (arith, l, taken.six)

    -- by the kind byte
    by_kind : {A : Type 0} → (get_or input at 0 ≡ SYMBOL_LINK → (n : ℕ) → Link (get_or input (at + 1) 0) c₀.symbols n → A) → (get_or input at 0 ≡ FIXNUM → dumped_at input (at + 1) ≡ true → (to % 2 ≡ names → ⊥) → c.nodes < c.room → A) → A
    by_kind {A} g h = go taken.kind
      where
        go : Either input c₁ names to → A
        go (inl (k, (n, y))) = g k n (subst (λ (x : ℕ). Link (get_or input (at + 1) 0) x n) R.known y)
        go (inr (k, d, y, u)) = h k d y u

    pub over_link : {i : ℕ} → get_or input at 0 ≡ SYMBOL_LINK → ((n : ℕ) → Link (get_or input (at + 1) 0) c₀.symbols n → i ≡ n) → c₀.symbols ≤ i → ⊥
    over_link k g l = by_kind (λ _ n y. omega (arith, g n y, y.4, l)) (λ q _ _ _. omega (arith, k, q))

    pub over_integer : {b : Bool} → (get_or input at 0 ≡ SYMBOL_LINK → ⊥) → (get_or input at 0 ≡ FIXNUM → (to % 2 ≡ names → ⊥) → c.nodes < c.room → b ≡ true) → b ≡ false → ⊥
    over_integer k g l = by_kind (λ q _ _. k q) (λ q _ y u. untrue (sym l ∙ g q y u))

    pub over_form : (get_or input at 0 ≡ SYMBOL_LINK → ⊥) → dumped_at input (at + 1) ≡ false → ⊥
    over_form k d = by_kind (λ q _ _. k q) (λ q e _ _. untrue (sym d ∙ e))

  -- a member was taken
  module _ {no' : List ℕ} (c' : Progress) (at' v : ℕ) (l : to < end) (sized : length no' ≡ length no) (grown : c'.references ≡ c.references) (same : c'.symbols ≡ c.symbols) (g : (room : Room) (limit : ℕ) (by ob bu : List ℕ) → Goes input room (slot (read_symbol_like input room) (read_value input room limit levels) names to) (lent no re by (by_buckets sy bu) ob) c₁ (pure v) (lent no' re by (by_buckets sy bu) ob) (record c' { at = at' })) where
    step : (room : Room) (limit : ℕ) (by ob bu : List ℕ) → Goes input room (slots (read_symbol_like input room) (read_value input room limit levels) names (end - to) to) (lent no re by (by_buckets sy bu) ob) c₁ (slots (read_symbol_like input room) (read_value input room limit levels) names (end - (to + 1)) (to + 1)) (lent no' (set re to v) by (by_buckets sy bu) ob) (record c' { at = at' })
    step room limit by ob bu = slot_put (read_symbol_like input room) (read_value input room limit levels) names v end to l (omega (arith, grown, R.inside)) (g room limit by ob bu)

    pub run_on : Running input no₀ re₀ sy c₀ start end names levels no' (set re to v) c' at' (to + 1)
    run_on = record {
      nodes = sized ∙ R.nodes;
      references = length-set re to v ∙ R.references;
      from = omega (arith, R.from);
      within = omega (arith, l);
      inside = omega (arith, grown, R.inside);
      known = same ∙ R.known;
      held = (R.held.0, R.held.1, R.held.2, held_goes {m = λ room. slots _ _ names (end - to) to} {m' = λ room. slots _ _ names (end - (to + 1)) (to + 1)} R.held.3 (λ room. step room 0 R.held.0 R.held.1 R.held.2));
      goes = λ room limit by ob bu. then (R.goes room limit by ob bu) (step room limit by ob bu);
    }

  pub run_link : (i : ℕ) → (levels ≡ 0 → ⊥) → to < end → at + 2 ≤ length input → get_or input at 0 ≡ SYMBOL_LINK → form_at input (at + 1) ≡ value i → integer_bytes i ≡ get_or input (at + 1) 0 ∷ [] → i < c₀.symbols → Running input no₀ re₀ sy c₀ start end names levels no (set re to (get_or sy i 0)) c (at + 2) (to + 1)
  run_link i some l h k e d y =
      let z : i < 2147483648 = omega (arith, y, R.known, R.held.3.holds.counted.count_symbols, R.held.3.holds.laid.symbols.fits, R.held.3.holds.fixed.small.symbols) in
      run_on c (at + 2) (get_or sy i 0) l refl refl refl (λ room limit by ob bu. link_goes input c₁ limit levels some i h k e d (omega (arith, y, R.known)) z (eqb (to % 2) names))

  pub run_integer : {no' : List ℕ} (n : ℕ) → (levels ≡ 0 → ⊥) → to < end → at + 6 ≤ length input → get_or input at 0 ≡ FIXNUM → dumped_at input (at + 1) ≡ true → (to % 2 ≡ names → ⊥) → c.nodes < c.room → n ≡ size_at input (at + 1) → word_at input (at + 1) < 4294967296 → no' ≡ sets no (c.nodes * width) (2 ∷ word_at input (at + 1) ∷ 0 ∷ 0 ∷ 0 ∷ 0 ∷ 0 ∷ 0 ∷ []) → length no' ≡ length no → Running input no₀ re₀ sy c₀ start end names levels no' (set re to c.nodes) (record c { nodes = c.nodes + 1 }) (at + 1 + n) (to + 1)
  run_integer {no'} n some l h k d e y z fits f sized =
      run_on (record c { nodes = c.nodes + 1 }) (at + 1 + n) c.nodes l sized refl refl
      (λ room limit by ob bu.
      rw (slot_value (read_symbol_like input room) (read_value input room limit levels) names to e, z)
      (integer_goes input c₁ limit levels some h k d y fits f))
