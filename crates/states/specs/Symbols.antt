-- The search for a symbol by its name: what it finds is seen with that name, and it misses none.
use Rattle.std.specs.Prelude.{ℕ, zero, suc, ◌+◌, ◌≡◌, refl, Bool, true, false, List, [], ◌∷◌, eqb}
use Rattle.std.proofs.Common.{ap, sym as psym, ◌∙◌, arith, eqb-true}
use Rattle.std.proofs.Math.Option.{Option, none, some}
use Rattle.definition.specs.Run.{pick}
use Rattle.definition.specs.Node.{Row, symbol, symbol_kind, kind, equal, words}
use Rattle.definition.specs.Arena.{Arena, range, name_of, named, find_symbol}
use Rattle.definition.specs.State.{State}
use Rattle.definition.specs.Graph.{Header, header, links}
use Rattle.lists.specs.Joined.{and_left, and_right}
use Rattle.lists.specs.Lists.{At, NotIn, apart}
use Rattle.lists.specs.Words.{equal_true, equal_self}
use Rattle.well_formed.specs.Nodes.{symbol_row}
use Rattle.graph.specs.Forest.{sym}
use Rattle.graph.specs.View.{node_by_kind, see, header_kind, arena_of, state_seen}
use Rattle.states.specs.States.{row_seen, seen_at, seen_at_inv}

-- a row of kind 3 with the name b is seen as the symbol b, and no other row is
named_seen : (s : State) (b : List ℕ) (r : Row) → named s.bytes b r ≡ true → row_seen s r ≡ sym b
unfolding named name_of kind words pick see header
named_seen s b r e =
    let t : Bool = equal b (name_of s.bytes r) in
    let (a, l, q) = symbol_row r (eqb-true (kind r) symbol_kind (and_left (eqb (kind r) symbol_kind) t e)) in
    rw q (ap sym (psym (equal_true b (range s.bytes a l) (rw q at (and_right (eqb (kind r) symbol_kind) t e)))))

-- what is seen as a symbol is of its kind, with its bytes
sym_headed : (k : ℕ) (h : Header) (ms b : List ℕ) → node_by_kind k h ms ≡ sym b → (k ≡ symbol_kind) × (h.bytes ≡ b)
sym_headed zero h ms b e = apart (cc)
sym_headed (suc zero) h ms b e = apart (cc)
sym_headed (suc (suc zero)) h ms b e = apart (cc)
sym_headed (suc (suc (suc zero))) h ms b e = (refl, cc)
sym_headed (suc (suc (suc (suc k)))) h ms b e = apart (cc)

pub symbol_of : (A : Arena) (b : List ℕ) (r : Row) → see A r ≡ sym b → (a : ℕ) × (l : ℕ) × (r ≡ symbol a l) × (range A.bytes a l ≡ b)
unfolding see header
symbol_of A b r e =
    let (k, n) = sym_headed (header A r).kind (header A r) (links A r) b e in
    let (a, l, q) = symbol_row r (psym (header_kind A r) ∙ k) in
    (a, l, q, ap (λ (x : Row). (header A x).bytes) (psym q) ∙ n)

named_symbol : (bytes b : List ℕ) (a l : ℕ) → range bytes a l ≡ b → named bytes b (symbol a l) ≡ true
unfolding named kind name_of words pick
named_symbol bytes b a l e = rw e (equal_self b)

seen_named : (s : State) (b : List ℕ) (r : Row) → row_seen s r ≡ sym b → named s.bytes b r ≡ true
seen_named s b r e =
    let (a, l, q, z) = symbol_of (arena_of s 0) b r e in
    rw q (named_symbol s.bytes b a l z)

found_row : (bytes b : List ℕ) (rows : List Row) (i h : ℕ) → find_symbol bytes b rows i ≡ some h → (k : ℕ) × (r : Row) × (h ≡ i + k) × At rows k r × (named bytes b r ≡ true)
unfolding find_symbol pick
found_row bytes b [] i h e = apart (cc)
found_row bytes b (r ∷ rows) i h e = go (named bytes b r) refl e (found_row bytes b rows (suc i) h)
  where
    later : (k : ℕ) × (q : Row) × (h ≡ suc i + k) × At rows k q × (named bytes b q ≡ true) → (k : ℕ) × (q : Row) × (h ≡ i + k) × At (r ∷ rows) k q × (named bytes b q ≡ true)
    later (k, q, z, a, n) = (suc k, q, omega arith, a, n)

    go : (x : Bool) → named bytes b r ≡ x → pick x (some i) (find_symbol bytes b rows (suc i)) ≡ some h
        → (find_symbol bytes b rows (suc i) ≡ some h → (k : ℕ) × (q : Row) × (h ≡ suc i + k) × At rows k q × (named bytes b q ≡ true))
        → (k : ℕ) × (q : Row) × (h ≡ i + k) × At (r ∷ rows) k q × (named bytes b q ≡ true)
    go true p q ih = let z : i ≡ h = cc in (0, r, omega arith, refl, p)
    go false p q ih = later (ih q)

missed_row : (bytes b : List ℕ) (rows : List Row) (i k : ℕ) (r : Row) → find_symbol bytes b rows i ≡ none → At rows k r → named bytes b r ≡ true → ⊥
unfolding find_symbol pick
missed_row bytes b [] i k r e a n = apart (cc)
missed_row bytes b (q ∷ rows) i zero r e a n =
    let z : q ≡ r = cc in
    let y : pick (named bytes b r) (some i) (find_symbol bytes b rows (suc i)) ≡ none = rw z at e in
    let x : some i ≡ none = rw n at y in
    apart (cc)
missed_row bytes b (q ∷ rows) i (suc k) r e a n = go (named bytes b q) e (λ p. missed_row bytes b rows (suc i) k r p a n)
  where
    go : (x : Bool) → pick x (some i) (find_symbol bytes b rows (suc i)) ≡ none → (find_symbol bytes b rows (suc i) ≡ none → ⊥) → ⊥
    go true p ih = apart (cc)
    go false p ih = ih p

-- the symbol that is found
pub found : (s : State) (b : List ℕ) (h : ℕ) → find_symbol s.bytes b s.nodes 0 ≡ some h → At (state_seen s).nodes h (sym b)
found s b h e =
    let (k, r, z, a, n) = found_row s.bytes b s.nodes 0 h e in
    let y : h ≡ k = omega arith in
    rw (y, ← (named_seen s b r n)) (seen_at s k r a)

-- none is found: there is none
pub missed : (s : State) (b : List ℕ) → find_symbol s.bytes b s.nodes 0 ≡ none → NotIn (sym b) (state_seen s).nodes
missed s b e k a =
    let (r, x, y) = seen_at_inv s k (sym b) a in
    missed_row s.bytes b s.nodes 0 k r e x (seen_named s b r y)

-- there is none: none is found
pub not_found : (s : State) (b : List ℕ) → NotIn (sym b) (state_seen s).nodes → find_symbol s.bytes b s.nodes 0 ≡ none
not_found s b n = go (find_symbol s.bytes b s.nodes 0) refl
  where
    go : (x : Option ℕ) → find_symbol s.bytes b s.nodes 0 ≡ x → x ≡ none
    go none e = refl
    go (some h) e = absurd (n h (found s b h e))
