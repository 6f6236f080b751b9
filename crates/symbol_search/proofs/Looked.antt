-- A symbol looked at, by the words of its node and its bytes, and one turn of the search over the list.
use Prim.Native.Nat.{ℕ, suc, ◌+◌, ◌-◌, ◌*◌, ◌≤◌, ◌<◌}
use native.Mathlib.Omega.{arith}
use mathlib.Core.Path.{◌≡◌, refl, sym, ap, ◌∙◌}
use mathlib.Core.Bool.{Bool, true, false}
use mathlib.Core.List.{List}
use lib.ListN.{length, take, drop, get_or, length-take, length-drop, drop_of_length-le}
use borrow.Author.Tests.{eq-eqb, ne_eqb}
use Rattle.definition.specs.Run.{pick}
use Rattle.definition.specs.Node.{Row, nil, equal, width, START, LENGTH}
use Rattle.definition.specs.Arena.{range, name_of, named, bytes_compared, compared_with}
use Rattle.definition.specs.State.{Room, State}
use Rattle.load_state.specs.declared.Progress.{Progress}
use Rattle.load_state.specs.Holds.{Symbols, lent, Holds, Symbolic, span, find_listed}
use Rattle.load_state.specs.Stores.{split}
use Rattle.load_state.specs.Names.{symbolic_kind, symbolic_below, symbol_name}
use Rattle.lists.specs.Ranges.{range_more}
use Rattle.lists.specs.Same.{same_length, same_apart}
use Rattle.load_state.specs.Laws.{word, there}
use native.Mathlib.Numerals.{add-one}
use mathlib.Core.Option.{none, some}
use lib.Seq.{drop-cons, get_or-take, get_or-drop}

-- ---- a symbol looked at

module _ {input : List ℕ} {room : Room} {s : State} {c : Progress} {no re by : List ℕ} {sy : Symbols} {ob : List ℕ} (H : Holds input room s (lent no re by sy ob) c) (i : ℕ) (y : Symbolic (get_or s.nodes i nil)) where
  pub is_there : i < c.nodes
  is_there = omega (arith, symbolic_below s.nodes i y, H.counted.count_nodes)

  pub node_inside : i * width + width ≤ length no
  node_inside = omega (arith, is_there, H.counted.count_nodes, H.counted.room_nodes, H.laid.nodes.sized)

  abbrev row : Row
  row = get_or s.nodes i nil

  -- where its name starts
  abbrev to : ℕ
  to = get_or no (i * width + START) 0

  symbol_row : (name_of s.bytes row ≡ take (get_or no (i * width + LENGTH) 0) (drop to s.bytes)) × (to + get_or no (i * width + LENGTH) 0 ≤ length s.bytes)
  symbol_row = rw (word H i is_there START (omega arith), word H i is_there LENGTH (omega arith)) (symbol_name (length s.bytes) s.bytes row y (H.known.fit i (there H i is_there)))

  pub symbol_inside : (n : ℕ) → get_or no (i * width + LENGTH) 0 ≡ n → to + n ≤ length by
  symbol_inside n f = omega (arith, symbol_row.1, f, H.laid.bytes.fits, H.laid.bytes.sized)

  -- a name of another length
  pub other_length : (name : List ℕ) (n : ℕ) → length name ≡ n → (get_or no (i * width + LENGTH) 0 ≡ n → ⊥) → (false ≡ named s.bytes name row) × (compared_with s.bytes name row ≡ 0)
  unfolding named compared_with pick
  other_length name n z f =
      let e = symbolic_kind row y in
      let (g, h) = symbol_row in
      let k : length (name_of s.bytes row) ≡ get_or no (i * width + LENGTH) 0 = ap length g ∙ simp (length-take, length-drop) (omega (arith, h)) in
      let d : length name ≡ length (name_of s.bytes row) → ⊥ = λ q. f (sym k ∙ sym q ∙ z) in
      (sym (rw e (same_length name _ d)), rw (e, ne_eqb _ _ d) refl)

  -- a name of its length, by the bytes lent
  pub by_bytes : (name : List ℕ) (n : ℕ) → length name ≡ n → get_or no (i * width + LENGTH) 0 ≡ n → (equal name (take n (drop to by)) ≡ named s.bytes name row) × (bytes_compared name (take n (drop to by)) ≡ compared_with s.bytes name row)
  unfolding range named compared_with pick
  by_bytes name n z f =
      let e = symbolic_kind row y in
      let (g, h) = symbol_row in
      let a : to + n ≤ length s.bytes = omega (arith, h, f) in
      let q : take n (drop to by) ≡ name_of s.bytes row =
      ap (λ (x : List ℕ). take n (drop to x)) (split H.laid.bytes)
      ∙ range_more s.bytes _ to n a
      ∙ ap (λ (k : ℕ). take k (drop to s.bytes)) (sym f)
      ∙ sym g in
      let k : length (name_of s.bytes row) ≡ n = ap length g ∙ simp (length-take, length-drop) (omega (arith, h, f)) in
      (ap (λ (x : List ℕ). equal name x) q ∙ sym (rw e refl), ap (λ (x : List ℕ). bytes_compared name x) q ∙ sym (rw (e, eq-eqb (length name) (length (name_of s.bytes row)) (z ∙ sym k)) refl))

-- ---- one turn of the search over the list

listed_turn : (b name : List ℕ) (rows : List Row) (l : List ℕ) (i : ℕ) → i < length l → find_listed b name rows (drop i l) ≡ pick (named b name (get_or rows (get_or l i 0) nil)) (some (get_or l i 0)) (find_listed b name rows (drop (suc i) l))
unfolding find_listed
listed_turn b name rows l i k = ap (λ (x : List ℕ). find_listed b name rows x) (drop-cons l i 0 k)

pub listed_here : (b name : List ℕ) (rows : List Row) (l : List ℕ) (i : ℕ) {t : Bool} → i < length l → t ≡ true → t ≡ named b name (get_or rows (get_or l i 0) nil) → find_listed b name rows (drop i l) ≡ some (get_or l i 0)
unfolding pick
listed_here b name rows l i k e f = listed_turn b name rows l i k ∙ ap (λ (t : Bool). pick t (some (get_or l i 0)) (find_listed b name rows (drop (suc i) l))) (sym f ∙ e)

pub listed_on : (b name : List ℕ) (rows : List Row) (l : List ℕ) (i : ℕ) {t : Bool} → i < length l → t ≡ false → t ≡ named b name (get_or rows (get_or l i 0) nil) → find_listed b name rows (drop i l) ≡ find_listed b name rows (drop (i + 1) l)
unfolding pick
listed_on b name rows l i k e f = listed_turn b name rows l i k ∙ ap (λ (t : Bool). pick t (some (get_or l i 0)) (find_listed b name rows (drop (suc i) l))) (sym f ∙ e) ∙ ap (λ (j : ℕ). find_listed b name rows (drop j l)) (sym (add-one i))

pub listed_none : (b name : List ℕ) (rows : List Row) (l : List ℕ) (i : ℕ) → length l ≤ i → find_listed b name rows (drop i l) ≡ none
unfolding find_listed
listed_none b name rows l i k = ap (λ (x : List ℕ). find_listed b name rows x) (drop_of_length-le l k)

-- ---- the last of the n bytes before `at`

pub span_none : (input : List ℕ) (at n : ℕ) → n ≡ 0 → 0 ≡ get_or (span input at n) (n - 1) 0
span_none input at n e = rw e refl

pub span_last : (input : List ℕ) (at n : ℕ) → (n ≡ 0 → ⊥) → n ≤ at → at ≤ length input → get_or input (at - 1) 0 ≡ get_or (span input at n) (n - 1) 0
span_last input at n z l h =
    let e : at - n + (n - 1) ≡ at - 1 = omega arith in
    sym (get_or-take n (drop (at - n) input) (n - 1) 0 (omega arith) ∙ get_or-drop (at - n) input (n - 1) 0 ∙ ap (λ (i : ℕ). get_or input i 0) e)

-- a last byte differs
pub last_apart : (bytes : List ℕ) (to n : ℕ) (X : List ℕ) → (n ≡ 0 → ⊥) → length X ≡ n → to + n ≤ length bytes → (get_or bytes (to + (n - 1)) 0 ≡ get_or X (n - 1) 0 → ⊥) → false ≡ equal X (take n (drop to bytes))
last_apart bytes to n X z k l e =
    let y : n - 1 < length (take n (drop to bytes)) = simp (length-take, length-drop) (omega arith) in
    let v : get_or (take n (drop to bytes)) (n - 1) 0 ≡ get_or bytes (to + (n - 1)) 0 = get_or-take n (drop to bytes) (n - 1) 0 (omega arith) ∙ get_or-drop to bytes (n - 1) 0 in
    sym (same_apart X (take n (drop to bytes)) (n - 1) (omega arith) y (λ q. e (sym v ∙ sym q)))
