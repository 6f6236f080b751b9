-- The words of the bucket table that a search passes.
use Rattle.std.specs.Prelude.{is_some}
use Prim.Native.Nat.{ℕ, suc, ◌+◌, ◌%◌, ◌≤◌, ◌<◌}
use native.Mathlib.Omega.{arith}
use native.Mathlib.Nat.{mod-add-mod, mod-lt, mul-le-mul}
use mathlib.Core.Path.{◌≡◌, refl, sym, ap, ◌∙◌, subst}
use mathlib.Core.Bool.{Bool, true, false}
use mathlib.Core.List.{List, []}
use lib.Dec.{ltb}
use lib.ListN.{length, get_or}
use borrow.Author.Tests.{ltb-true, ltb-false}
use Rattle.definition.specs.Node.{nil}
use Rattle.definition.specs.Arena.{named}
use Rattle.definition.specs.Buckets.{Buckets, bucket, searches, empty}
use Rattle.definition.specs.State.{Room, State}
use Rattle.definition.specs.Slice.{greatest_length}
use Rattle.lists.specs.Buckets.{Probed, Reaches, probed, round_up, round_on, looked_most}
use Rattle.load_state.specs.declared.Progress.{Progress}
use Rattle.load_state.specs.Holds.{Lent, Holds, Symbolic, Hashing, hashes}
use Rattle.symbol_search.specs.Search.{Passing}

-- ---- the words that a search passes

-- a word by its number, and one more, wrapping
pub word_at : (B : List ℕ) (k i : ℕ) → i ≡ k % length B → get_or B i 0 ≡ bucket B k
unfolding bucket
word_at B k i e = ap (λ (j : ℕ). get_or B j 0) e

pub word_inside : (B : List ℕ) (k i start : ℕ) → i ≡ k % length B → start < length B → i < length B
word_inside B k i start e l = omega (arith, e, mod-lt k {m = length B} (omega (arith, l)))

pub next_round : (k i j m : ℕ) → i ≡ k % m → i < m → (suc i < m → j ≡ suc i) → (suc i ≡ m → j ≡ 0) → j ≡ suc k % m
next_round k i j m e l f g = go (ltb (suc i) m) refl
  where
    go : (t : Bool) → ltb (suc i) m ≡ t → j ≡ suc k % m
    go true q = let u = ltb-true (suc i) m q in f u ∙ ap suc e ∙ sym (round_up k m (omega (arith, e, u)))
    go false q = let u : suc i ≡ m = omega (arith, l, ltb-false (suc i) m q) in g u ∙ sym (round_on k m (omega (arith, e, u)))

-- a table in which a search starts has words
pub not_empty : {B : List ℕ} {start : ℕ} → start < length B → B ≡ [] → ⊥
not_empty l e = omega (arith, l, ap length e)

-- one word more
pub passing_more : (s : State) (name B : List ℕ) (k r : ℕ) → Passing s name B k r → (bucket B (k + r) ≡ 0 → ⊥) → named s.bytes name (get_or s.nodes (bucket B (k + r)) nil) ≡ false → Passing s name B k (r + 1)
passing_more s name B k r P z n q l = go (ltb q r) refl
  where
    go : (t : Bool) → ltb q r ≡ t → (bucket B (k + q) ≡ 0 → ⊥) × (named s.bytes name (get_or s.nodes (bucket B (k + q)) nil) ≡ false)
    go true e = P q (ltb-true q r e)
    go false e =
        let d : q ≡ r = omega (arith, l, ltb-false q r e) in
        (λ u. z (ap (λ (j : ℕ). bucket B (k + j)) (sym d) ∙ u), ap (λ (j : ℕ). named s.bytes name (get_or s.nodes (bucket B (k + j)) nil)) d ∙ n)

-- ---- what the table holds

-- a word counted from the hash, round or not
pub word_round : (B : List ℕ) (k q : ℕ) → bucket B (k % length B + q) ≡ bucket B (k + q)
unfolding bucket
word_round B k q = ap (λ (i : ℕ). get_or B i 0) (mod-add-mod k (length B) q)

module _ {input : List ℕ} {room : Room} {s : State} {T : Lent} {c : Progress} (H : Holds input room s T c) (asked : T.symbols.searched ≡ true) (b : T.symbols.buckets ≡ [] → ⊥) where
  abbrev B : List ℕ
  B = T.symbols.buckets

  abbrev Z : Hashing room.nodes s.bytes s.nodes s.symbols B c.looked (is_some c.compared)
  Z = (H.known.names asked).hashed b

  entry_below : (i : ℕ) → i < length s.symbols → get_or s.symbols i 0 < length s.nodes
  entry_below i u = H.known.entries i u

  some_room : 0 < room.nodes
  some_room = omega (arith, Z.one, H.counted.room_nodes)

  below_room : (i : ℕ) → i < length s.symbols → get_or s.symbols i 0 < room.nodes
  below_room i u = omega (arith, entry_below i u, H.counted.room_nodes)

  pub filled : Probed (hashes s.bytes s.nodes) (length B) s.symbols
  filled = probed (hashes s.bytes s.nodes) room.nodes (length B) s.symbols Z.enough some_room below_room Z.nonzero

  same_words : (searches (hashes s.bytes s.nodes) s.symbols (empty (length B))).words ≡ B
  same_words = ap (λ (t : Buckets). t.words) Z.filled

  -- a word that is not zero is on the list
  pub word_listed : (i : ℕ) → (bucket B i ≡ 0 → ⊥) → (j : ℕ) × (j < length s.symbols) × (get_or s.symbols j 0 ≡ bucket B i)
  word_listed i = subst (λ (ws : List ℕ). (bucket ws i ≡ 0 → ⊥) → (j : ℕ) × (j < length s.symbols) × (get_or s.symbols j 0 ≡ bucket ws i)) same_words (filled.listed i)

  pub word_symbolic : (i : ℕ) → (bucket B i ≡ 0 → ⊥) → Symbolic (get_or s.nodes (bucket B i) nil)
  word_symbolic i f = let (j, u, e) = word_listed i f in subst (λ (h : ℕ). Symbolic (get_or s.nodes h nil)) e ((H.known.names asked).interned.symbolic j u)

  -- the search never goes round
  pub never_round : (i : ℕ) → ((q : ℕ) → q < length B → bucket B (i + q) ≡ 0 → ⊥) → ⊥
  never_round i = subst (λ (ws : List ℕ). ((q : ℕ) → q < length B → bucket ws (i + q) ≡ 0 → ⊥) → ⊥) same_words (filled.never_full i)

  pub reached : (j : ℕ) → j < length s.symbols → Reaches B (hashes s.bytes s.nodes (get_or s.symbols j 0)) (get_or s.symbols j 0)
  reached j u = subst (λ (ws : List ℕ). Reaches ws (hashes s.bytes s.nodes (get_or s.symbols j 0)) (get_or s.symbols j 0)) same_words (filled.reaches j u)

  -- the words looked at fit 64 bits, with another search
  pub looked_fits : (p : ℕ) → p < length B → c.looked + (p + 1) < 18446744073709551616
  looked_fits p l =
      let a = looked_most (hashes s.bytes s.nodes) room.nodes (length B) s.symbols Z.enough some_room below_room Z.nonzero in
      let y : length s.symbols ≤ greatest_length = omega (arith, H.laid.symbols.fits, H.fixed.small.symbols) in
      let m = mul-le-mul y Z.short in
      omega (arith, a, ap (λ (t : Buckets). t.looked) Z.filled, m, l, Z.short)
