-- One turn of each search over the symbol list.
use Rattle.std.specs.Prelude.{Result, Ok, Err, MatchResult}
use Prim.Native.Nat.{ℕ, ◌+◌, ◌*◌, ◌≤◌, ◌<◌}
use native.Mathlib.Omega.{arith}
use native.Mathlib.Nat.{add-zero, add_assoc, le_trans, mul-le-mul, mul-le-mul_left}
use mathlib.Core.Path.{◌≡◌, sym, ap, ◌∙◌}
use mathlib.Core.Bool.{Bool, true, false}
use mathlib.Core.List.{List}
use mathlib.Core.Option.{Option, none, some}
use lib.ListN.{length, get_or, drop}
use Rattle.definition.specs.Run.{pick}
use Rattle.definition.specs.Node.{Row, nil, equal}
use Rattle.definition.specs.Arena.{find_symbol, named, bytes_compared, compared_with, compared_among}
use Rattle.definition.specs.State.{Room, State}
use Rattle.definition.specs.Slice.{greatest_length}
use Rattle.load_state.specs.declared.Progress.{Progress}
use Rattle.load_state.specs.Holds.{Lent, Holds, risen, find_listed}
use Rattle.symbol_search.specs.Search.{Alike, Compared}
use Rattle.lists.specs.Compared.{among_most, symbol_count_most}
use Rattle.load_state.specs.Stores.{at_held}
use Rattle.symbol_search.proofs.Looked.{listed_here, listed_on, listed_none}
use Rattle.load_state.specs.Interned.{seek, searched, searched_list, risen_met, risen_next, risen_end}

-- a search compares at most the name's bytes with every node
pub rows_most : (bytes name : List ℕ) (rows : List Row) → compared_among bytes name rows ≤ length name * length rows
rows_most bytes name rows = le_trans (among_most bytes name rows) (mul-le-mul_left (length name) (symbol_count_most rows))

-- a name against a symbol's of its length, by how many bytes are alike
pub compared_by : (s : State) {name Y : List ℕ} (row : Row) {n a : ℕ} (r : Result ℕ ℕ) → Alike name Y n a → MatchResult r (λ k. (k ≡ n) × (a ≡ n)) (λ k. (k ≡ a + 1) × (a < n)) → (equal name Y ≡ named s.bytes name row) × (bytes_compared name Y ≡ compared_with s.bytes name row) → Compared s name row r
compared_by s row (Ok k) A (p, z) (e, f) = let b = A.whole z in (sym e ∙ b.0, sym f ∙ b.1 ∙ sym p)
compared_by s row (Err k) A (p, l) (e, f) = let b = A.part (λ z. omega (arith, z, l)) in (sym e ∙ b.0, sym f ∙ b.1 ∙ sym p)

-- ---- one turn of the search for a symbol

module _ {input : List ℕ} {room : Room} {s : State} {T : Lent} {c : Progress} (H : Holds input room s T c) (i : ℕ) where
  same_entry : i < c.symbols → get_or T.symbols.list i 0 ≡ get_or s.symbols i 0
  same_entry l = at_held i H.laid.symbols (omega (arith, H.counted.count_symbols))

  named_there : {t : Bool} (name : List ℕ) → i < c.symbols → t ≡ named s.bytes name (get_or s.nodes (get_or T.symbols.list i 0) nil) → t ≡ named s.bytes name (get_or s.nodes (get_or s.symbols i 0) nil)
  named_there name l f = f ∙ ap (λ (h : ℕ). named s.bytes name (get_or s.nodes h nil)) (same_entry l)

  pub found_at : {t : Bool} → i < c.symbols → (name : List ℕ) → t ≡ true → t ≡ named s.bytes name (get_or s.nodes (get_or T.symbols.list i 0) nil) → find_listed s.bytes name s.nodes (drop i s.symbols) ≡ some (get_or T.symbols.list i 0)
  found_at l name e f = listed_here s.bytes name s.nodes s.symbols i (omega (arith, H.counted.count_symbols)) e (named_there name l f) ∙ ap (λ (h : ℕ). some h) (sym (same_entry l))

  pub found_on : {t : Bool} → i < c.symbols → (name : List ℕ) → t ≡ false → t ≡ named s.bytes name (get_or s.nodes (get_or T.symbols.list i 0) nil) → find_listed s.bytes name s.nodes (drop i s.symbols) ≡ find_listed s.bytes name s.nodes (drop (i + 1) s.symbols)
  found_on l name e f = listed_on s.bytes name s.nodes s.symbols i (omega (arith, H.counted.count_symbols)) e (named_there name l f)

  pub found_none : (name : List ℕ) → c.symbols ≤ i → find_listed s.bytes name s.nodes (drop i s.symbols) ≡ none
  found_none name l = listed_none s.bytes name s.nodes s.symbols i (omega (arith, H.counted.count_symbols))

-- ---- one turn of the search that counts

-- the count fits 64 bits, with one name more
count_fits : {input : List ℕ} {room : Room} {s : State} {T : Lent} {c : Progress} (name : List ℕ) → Holds input room s T c → length name ≤ length input → s.notes.compared + compared_among s.bytes name s.nodes < 18446744073709551616
count_fits {input} {room} {s} name H l =
    let x : s.at ≤ greatest_length = omega (arith, H.counted.inside, H.fixed.short) in
    let y : length name ≤ greatest_length = omega (arith, l, H.fixed.short) in
    let z : length s.nodes ≤ 306783378 = omega (arith, H.fixed.small.nodes, H.counted.room_nodes) in
    let a = mul-le-mul x z in
    let b = mul-le-mul y z in
    omega (arith, a, b, H.noted.compared, rows_most s.bytes name s.nodes)

-- what is left to search after entry i, of the entries from `next` on that rise
abbrev left : State → List ℕ → ℕ → ℕ → Option ℕ × ℕ
left s name next i = searched s.bytes name s.nodes (risen next (drop i s.symbols))

-- of `first` and all that is compared, `total` is counted, and nothing was found
pub record Turned (s : State) (name : List ℕ) (first total next i : ℕ) : Type 0 where
  pub found : find_symbol s.bytes name s.nodes 0 ≡ (left s name next i).0
  pub counted : first + compared_among s.bytes name s.nodes ≡ total + (left s name next i).1

module _ {input : List ℕ} {room : Room} {s : State} {T : Lent} {c : Progress} (H : Holds input room s T c) (name : List ℕ) where
  pub turned_start : T.symbols.searched ≡ true → (first : ℕ) → Turned s name first first 0 0
  turned_start a first =
      let e = searched_list name (H.known.names a).interned in
      record { found = sym (ap (λ (x : Option ℕ × ℕ). x.0) e); counted = ap (λ (x : Option ℕ × ℕ). first + x.1) (sym e) }

  module _ {first total next : ℕ} (i : ℕ) (t : Turned s name first total next i) where
    -- the list is over
    pub turned_end : c.symbols ≤ i → (find_symbol s.bytes name s.nodes 0 ≡ none) × (first + compared_among s.bytes name s.nodes ≡ total)
    unfolding searched
    turned_end l =
        let e = risen_end s.symbols i next (omega (arith, H.counted.count_symbols)) in
        let q = ap (searched s.bytes name s.nodes) e in
        (t.found ∙ ap (λ (x : Option ℕ × ℕ). x.0) q, t.counted ∙ ap (λ (x : Option ℕ × ℕ). total + x.1) q ∙ add-zero total)

    module _ (l : i < c.symbols) where
      abbrev entry : ℕ
      entry = get_or T.symbols.list i 0

      is_entry : entry ≡ get_or s.symbols i 0
      is_entry = same_entry H i l

      there : i < length s.symbols
      there = omega (arith, H.counted.count_symbols)

      -- an entry that was met
      pub turned_met : entry < next → Turned s name first total next (i + 1)
      turned_met h =
          let q = ap (searched s.bytes name s.nodes) (risen_met s.symbols i next there (omega (arith, h, is_entry))) in
          record { found = t.found ∙ ap (λ (x : Option ℕ × ℕ). x.0) q; counted = t.counted ∙ ap (λ (x : Option ℕ × ℕ). total + x.1) q }

      -- a new one, and what is left then
      next_left : next ≤ entry → left s name next i ≡ seek s.bytes name entry (get_or s.nodes entry nil) (left s name (entry + 1) (i + 1))
      unfolding searched
      next_left h =
          ap (searched s.bytes name s.nodes) (risen_next s.symbols i next there (omega (arith, h, is_entry)))
          ∙ ap (λ (k : ℕ). seek s.bytes name k (get_or s.nodes k nil) (left s name (k + 1) (i + 1))) (sym is_entry)

      -- the bytes compared with it are among those that are left
      pub turned_fits : next ≤ entry → first ≡ s.notes.compared → length name ≤ length input → total + compared_with s.bytes name (get_or s.nodes entry nil) < 18446744073709551616
      turned_fits h e l = let q = ap (λ (x : Option ℕ × ℕ). x.1) (next_left h) in omega (arith, t.counted, q, e, count_fits name H l)

      pub turned_on : {x : ℕ} → next ≤ entry → named s.bytes name (get_or s.nodes entry nil) ≡ false → compared_with s.bytes name (get_or s.nodes entry nil) ≡ x → Turned s name first (total + x) (entry + 1) (i + 1)
      unfolding pick
      turned_on {x} h n e =
          let q = next_left h in record {
            found = t.found ∙ ap (λ (x : Option ℕ × ℕ). x.0) q ∙ ap (λ (b : Bool). pick b (some entry) (left s name (entry + 1) (i + 1)).0) n;
            counted = t.counted ∙ ap (λ (x : Option ℕ × ℕ). total + x.1) q ∙ (λ j. total + (e j + pick (n j) 0 (left s name (entry + 1) (i + 1)).1)) ∙ sym (add_assoc total x _);
          }

      pub turned_here : {x : ℕ} → next ≤ entry → named s.bytes name (get_or s.nodes entry nil) ≡ true → compared_with s.bytes name (get_or s.nodes entry nil) ≡ x → (find_symbol s.bytes name s.nodes 0 ≡ some entry) × (first + compared_among s.bytes name s.nodes ≡ total + x)
      unfolding pick
      turned_here {x} h n e =
          let q = next_left h in (
            t.found ∙ ap (λ (x : Option ℕ × ℕ). x.0) q ∙ ap (λ (b : Bool). pick b (some entry) (left s name (entry + 1) (i + 1)).0) n,
            t.counted ∙ ap (λ (x : Option ℕ × ℕ). total + x.1) q ∙ (λ j. total + (e j + pick (n j) 0 (left s name (entry + 1) (i + 1)).1)) ∙ ap (λ (k : ℕ). total + k) (add-zero x),
          )
