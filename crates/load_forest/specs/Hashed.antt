-- How many words an accepted hashed load looked at: each search ends at its node or a zero word before it has passed all words.
use Rattle.std.specs.Prelude.{ℕ, zero, suc, ◌*◌, ◌/◌, ◌≤◌, ◌<◌, ◌≡◌, List, ◌∷◌, ◌++◌, length, get_or}
use Rattle.std.proofs.Math.Path.{refl}
use Rattle.std.proofs.Common.{subst}
use Rattle.std.proofs.Math.Nat.{le_trans, mul-le-mul}
use native.Mathlib.Omega.{arith}
use borrow.Author.Tests.{ltb-false}
use Rattle.definition.specs.Refused.{Accepted, Refused}
use Rattle.definition.specs.declared.Refusal.{Refusal}
use Rattle.definition.specs.Run.{Outcome, ok, refused}
use Rattle.definition.specs.Node.{nil, symbol, width}
use Rattle.definition.specs.Buckets.{distance, searches, empty}
use Rattle.definition.specs.State.{State, Room}
use Rattle.definition.specs.Load.{Lists, load, room_of, load_done, load_if}
use Rattle.definition.specs.LoadHashed.{hash_at, words_looked, bad_buckets, hashed_wrong, hashed_done, hashed_if, hashed_call}
use Rattle.definition.specs.Slice.{greatest_length}
use Rattle.lists.specs.Lists.{At, at_lt, at_get_d, apart}
use Rattle.lists.specs.Joined.{or_none}
use Rattle.lists.specs.Slices.{lowest_none, short, tables_right}
use Rattle.lists.specs.Buckets.{Ends, looked_least, looked_most, ends_there}
use Rattle.load_forest.specs.Readers.{load_traced}
use Rattle.load_forest.specs.Kept.{kept, nil_fixed}
use Rattle.load_forest.specs.Right.{load_right_state}
use Rattle.load_forest.specs.Space.{load_within}
use Rattle.load_forest.specs.Call.{some_nodes}

-- ---- an accepted load

-- m words that the searches for the nodes of a left: the search for node g passes fewer than m, and ends at g or a zero word
abbrev pub Ended : ℕ → State → List ℕ → ℕ → Type 0
Ended m s a g = (distance (searches (hash_at s) a (empty m)).words (hash_at s g) g < m) × Ends (searches (hash_at s) a (empty m)).words (hash_at s g) g (distance (searches (hash_at s) a (empty m)).words (hash_at s g) g)

-- the search for each entry of the symbol list, after those for the entries before it
abbrev pub Ending : ℕ → State → Type 0
Ending m s = (a b : List ℕ) (g : ℕ) → s.symbols ≡ a ++ (g ∷ b) → Ended m s a g

module _ (input : List ℕ) (room : Room) (limit h : ℕ) (s : State) (e : load input room limit ≡ ok h s) where
  -- node 0 stays nil
  first_nil : At s.nodes 0 nil
  first_nil = (kept (load_traced input room limit s h e).trace).stands 0 nil nil_fixed refl

  -- the symbol list has nodes of the table
  pub symbol_below : (i : ℕ) → i < length s.symbols → get_or s.symbols i 0 < length s.nodes
  symbol_below i l =
      let (a, n, q) = (load_right_state input room limit h s e).0.symbols i _ (at_get_d s.symbols i 0 l) in
      at_lt s.nodes _ (symbol a n) q

  -- and not node 0
  pub symbol_not_zero : (i : ℕ) → i < length s.symbols → get_or s.symbols i 0 ≡ 0 → ⊥
  symbol_not_zero i l z =
      let (a, n, q) = (load_right_state input room limit h s e).0.symbols i _ (at_get_d s.symbols i 0 l) in
      let o : At s.nodes 0 (symbol a n) = subst (λ (c : ℕ). At s.nodes c (symbol a n)) z q in
      let f = first_nil in
      apart (cc)

  -- a table of m words, at least one for each node
  module _ (m : ℕ) (l : length s.nodes ≤ m) where
    some : 0 < length s.nodes
    some = omega (arith, (load_right_state input room limit h s e).1)

    pub searches_end : Ending m s
    searches_end = ends_there (hash_at s) (length s.nodes) m s.symbols l some symbol_below symbol_not_zero

    -- at least one word a search, and at most all
    pub looked_between : (length s.symbols ≤ words_looked m s) × (words_looked m s ≤ length s.symbols * m)
    unfolding words_looked
    looked_between = (looked_least (hash_at s) s.symbols m, looked_most (hash_at s) (length s.nodes) m s.symbols l some symbol_below symbol_not_zero)

-- ---- the hashed load's call

module _ (input : List ℕ) (T : Lists) (B : List ℕ) (limit : ℕ) where
  -- what the test of the slices says where it finds nothing
  allowed : hashed_wrong input T B limit ≡ 0 → (1 ≤ length T.nodes / width) × (length T.symbols ≤ greatest_length) × (length T.nodes / width ≤ length B) × (length B ≤ greatest_length)
  unfolding hashed_wrong bad_buckets
  allowed e =
      let (t, e₃) = tables_right _ _ _ _ e in
      let (b₄, e₄) = lowest_none 3 _ _ e₃ in
      let (b₅, e₅) = lowest_none 4 _ _ e₄ in
      let (b₇, e₇) = lowest_none 6 _ _ e₅ in
      let (b₈, e₈) = lowest_none 7 _ _ e₇ in
      let (b₁₁, e₁₁) = lowest_none 10 _ _ e₈ in
      let (x, y) = or_none _ _ b₁₁ in
      (t.one, short _ b₄, ltb-false (length B) (length T.nodes / width) x, short _ y)

  -- "one word or more for each node of the table"
  words_enough : (h : ℕ) (s : State) → hashed_wrong input T B limit ≡ 0 → load input (room_of T) limit ≡ ok h s → (length s.nodes ≤ length B) × (length s.symbols ≤ greatest_length) × (length B ≤ greatest_length)
  unfolding room_of
  words_enough h s w e =
      let (n, y, b, m) = allowed w in
      let v = load_within input (room_of T) limit h s (some_nodes T n) e in
      (le_trans v.nodes b, le_trans v.symbols y, m)

  -- in the state that load came to
  abbrev pub Loads : (State → Type 0) → Type 0
  Loads P = (h : ℕ) × (s : State) × (load input (room_of T) limit ≡ ok h s) × P s

  came : (P : State → ℕ → Type 0) → ((h : ℕ) (s : State) → hashed_wrong input T B limit ≡ 0 → load input (room_of T) limit ≡ ok h s → P s (words_looked (length B) s))
      → (hashed_call input T B limit).answer.load.answer ≡ Accepted → Loads (λ s. P s (hashed_call input T B limit).answer.looked)
  unfolding hashed_call hashed_if hashed_done load_if load_done
  came P f = by_wrong (hashed_wrong input T B limit) refl
    where
      by_outcome : (o : Outcome State ℕ) → load input (room_of T) limit ≡ o → hashed_wrong input T B limit ≡ 0 → (hashed_done T B o).answer.load.answer ≡ Accepted → Loads (λ s. P s (hashed_done T B o).answer.looked)
      by_outcome (ok h s) e w a = (h, s, e, f h s w e)
      by_outcome (refused r) e w a = apart (cc)

      by_wrong : (n : ℕ) → hashed_wrong input T B limit ≡ n → (hashed_if n input T B limit).answer.load.answer ≡ Accepted → Loads (λ s. P s (hashed_if n input T B limit).answer.looked)
      by_wrong zero w a = by_outcome (load input (room_of T) limit) refl w a
      by_wrong (suc n) w a = apart (cc)

  -- a search always ends: n words for n nodes never fill
  pub hashed_ends : (hashed_call input T B limit).answer.load.answer ≡ Accepted → Loads (λ s. Ending (length B) s)
  hashed_ends = came (λ s n. Ending (length B) s) (λ h s w e. searches_end input (room_of T) limit h s e (length B) (words_enough h s w e).0)

  -- at least one word for each `:` name read, and at most all words for each
  pub hashed_looked : (hashed_call input T B limit).answer.load.answer ≡ Accepted → Loads (λ s. (length s.symbols ≤ (hashed_call input T B limit).answer.looked) × ((hashed_call input T B limit).answer.looked ≤ length s.symbols * length B))
  hashed_looked = came (λ s n. (length s.symbols ≤ n) × (n ≤ length s.symbols * length B)) (λ h s w e. looked_between input (room_of T) limit h s e (length B) (words_enough h s w e).0)

  -- refused, also with BAD-TABLES: none
  pub hashed_refused : (r : Refusal) → (hashed_call input T B limit).answer.load.answer ≡ Refused r → (hashed_call input T B limit).answer.looked ≡ 0
  unfolding hashed_call hashed_if hashed_done load_if load_done
  hashed_refused r = by_wrong (hashed_wrong input T B limit)
    where
      by_outcome : (o : Outcome State ℕ) → (hashed_done T B o).answer.load.answer ≡ Refused r → (hashed_done T B o).answer.looked ≡ 0
      by_outcome (ok h s) a = apart (cc)
      by_outcome (refused q) a = refl

      by_wrong : (n : ℕ) → (hashed_if n input T B limit).answer.load.answer ≡ Refused r → (hashed_if n input T B limit).answer.looked ≡ 0
      by_wrong zero a = by_outcome (load input (room_of T) limit) a
      by_wrong (suc n) a = refl

  -- below 2^62
  pub hashed_small : (hashed_call input T B limit).answer.looked < 4611686018427387904
  unfolding hashed_call hashed_if hashed_done
  hashed_small = by_wrong (hashed_wrong input T B limit) refl
    where
      by_outcome : (o : Outcome State ℕ) → load input (room_of T) limit ≡ o → hashed_wrong input T B limit ≡ 0 → (hashed_done T B o).answer.looked < 4611686018427387904
      by_outcome (ok h s) e w =
          let (n, y, m) = words_enough h s w e in
          omega (arith, (looked_between input (room_of T) limit h s e (length B) n).1, mul-le-mul y m)
      by_outcome (refused r) e w = omega arith

      by_wrong : (n : ℕ) → hashed_wrong input T B limit ≡ n → (hashed_if n input T B limit).answer.looked < 4611686018427387904
      by_wrong zero w = by_outcome (load input (room_of T) limit) refl w
      by_wrong (suc n) w = omega arith
