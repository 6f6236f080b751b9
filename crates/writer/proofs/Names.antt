-- Byte strings and symbols: the definition's bytes are the table's.
use Prim.Native.Nat.{ℕ, suc, ◌+◌, ◌-◌, ◌*◌, ◌≤◌, ◌<◌}
use native.Mathlib.Omega.{arith}
use mathlib.Core.Path.{◌≡◌, refl, sym, ap, ◌∙◌, subst}
use mathlib.Core.List.{List, ◌∷◌, ◌++◌}
use lib.ListN.{length, get_or, set, take, drop, length-drop}
use lib.Seq.{sets, length-take-le}
use Rattle.definition.specs.Run.{pure, look, pick}
use Rattle.definition.specs.Integer.{integer_bytes}
use Rattle.definition.specs.Kind.{SYMBOL, SYMBOL_LINK, USER_CLASS}
use Rattle.definition.specs.Node.{width, Row, symbol, kind, row_of, START, LENGTH, words, optional_node}
use Rattle.definition.specs.Arena.{Arena, node, range, name_of}
use Rattle.definition.specs.Dump.{◌>>◌, write, number_symbol, link_or, byte_string_bytes, write_symbol, write_name, write_class}
use Rattle.lists.specs.Ranges.{length_range, range_front}
use Rattle.lists.specs.Rows.{kind_is, row_3}
use Rattle.lists.specs.Lists.{at_lt}
use Rattle.well_formed.specs.Nodes.{at_node, node_at, Name}
use Rattle.well_formed.specs.Right.{BytesIn, RowRight, ClassRight}
use Rattle.std.specs.declared.result.Result.TheVariants.{Ok, Err}
use Rattle.writer.specs.declared.Progress.{Progress}
use Rattle.writer.specs.declared.Stop.TheVariants.{NoSpace}
use Rattle.writer.specs.Held.{Buffers, buffers, with_written, with_symbols, Lent, IsSymbol, named, Goes, Meets}
use Rattle.writer.specs.Laws.{then, went}
use Rattle.writer.proofs.Steps.{chunk, no_chunk, symbol_numbered, word_none, word_some}

-- a byte string of the arena
pub string_bytes : {A : Arena} {no by : List ℕ} (s n : ℕ) → Lent A no by → BytesIn A s n → byte_string_bytes (range A.bytes s n) ≡ integer_bytes n ++ take n (drop s by)
unfolding byte_string_bytes
string_bytes {A} {no} {by} s n L h =
    ap (λ (k : ℕ). integer_bytes k ++ range A.bytes s n) (length_range A.bytes s n h)
    ∙ ap (λ (l : List ℕ). integer_bytes n ++ l) (range_front A.bytes by s n L.bytes_same h L.bytes_fit)

-- ---- a copy of bytes

length_string : (by : List ℕ) (start n count : ℕ) → count ≡ n → start + n ≤ length by → length (take n (drop start by)) ≡ count
length_string by start n count k inside = length-take-le n (drop start by) (simp length-drop (omega arith)) ∙ sym k

module _ {A : Arena} {room limit : ℕ} {sc out : List ℕ} {c : Progress} (by : List ℕ) (start n count : ℕ) (k : count ≡ n) (inside : start + n ≤ length by) where
  pub string_stored : {out' : List ℕ} {from part : ℕ} → from ≡ start → part ≡ count → count ≤ length out → c.written ≤ length out - count → out' ≡ sets out (c.written) (take part (drop from by)) → Meets A room limit (write room (take n (drop start by))) (buffers sc out) c (Ok tt) (buffers sc out') (with_written c (c.written + count))
  string_stored {out'} f g h l e =
      let p : out' ≡ sets out (c.written) (take n (drop start by)) = e ∙ λ i. sets out (c.written) (take ((g ∙ k) i) (drop (f i) by)) in
      subst (λ (o : List ℕ). Meets A room limit (write room (take n (drop start by))) (buffers sc out) c (Ok tt) (buffers sc o) (with_written c (c.written + count))) (sym p) (went (chunk (take n (drop start by)) count (length_string by start n count k inside) (omega arith)))

  pub string_long : {B' : Buffers} {c' : Progress} → length out < count → Meets A room limit (write room (take n (drop start by))) (buffers sc out) c (Err NoSpace) B' c'
  string_long h = no_chunk (take n (drop start by)) count (length_string by start n count k inside) (omega arith)

  pub string_full : {B' : Buffers} {c' : Progress} → count ≤ length out → length out - count < c.written → Meets A room limit (write room (take n (drop start by))) (buffers sc out) c (Err NoSpace) B' c'
  string_full h l = no_chunk (take n (drop start by)) count (length_string by start n count k inside) (omega arith)

-- ---- a symbol's row and its name

-- the row is right
pub right_row : {A : Arena} {no by : List ℕ} → Lent A no by → (v : ℕ) → v < length A.nodes → (r : Row) → node A v ≡ r → RowRight A r
right_row {A} L v below r e = subst (RowRight A) e (L.right.rows_right v (node A v) (at_node A v below))

is_three : (k a b s n c f w : ℕ) → kind (row_of k a b s n c f w) ≡ 3 → k ≡ 3
is_three k a b s n c f w e = kind_is k a b s n c f w 3 e (omega arith)

module _ {A : Arena} {no by : List ℕ} {v : ℕ} (L : Lent A no by) (S : IsSymbol A v) where
  abbrev start : ℕ
  start = get_or no (v * width + START) 0

  abbrev count : ℕ
  count = get_or no (v * width + LENGTH) 0

  symbol_row : node A v ≡ symbol (get_or no (v * width + START) 0) (get_or no (v * width + LENGTH) 0)
  symbol_row =
      let e = L.noded.row_at v S.below in
      let k : get_or no (v * width) 0 ≡ 3 = is_three _ _ _ _ _ _ _ _ (ap kind (sym e) ∙ S.kind_three) in
      e ∙ row_3 _ _ _ _ _ _ _ _ k

  symbol_inside : BytesIn A (get_or no (v * width + START) 0) (get_or no (v * width + LENGTH) 0)
  symbol_inside = right_row L v S.below _ symbol_row

  pub symbol_fits : get_or no (v * width + START) 0 + get_or no (v * width + LENGTH) 0 ≤ length by
  symbol_fits = omega (arith, symbol_inside, L.bytes_fit)

  name_bytes : byte_string_bytes (name_of A.bytes (node A v)) ≡ integer_bytes count ++ take count (drop start by)
  unfolding name_of kind words pick
  name_bytes = ap (λ (r : Row). byte_string_bytes (name_of A.bytes r)) symbol_row ∙ string_bytes start count L symbol_inside

  -- its number and its name, or a link
  pub name_numbered : {room : ℕ} {sc out : List ℕ} {c : Progress} → get_or sc v 0 ≡ 0 → Goes A room (write_name room A v) (buffers sc out) c (write room (SYMBOL ∷ (integer_bytes count ++ take count (drop start by)))) (buffers (set sc v (c.symbols + 1)) out) (with_symbols c (c.symbols + 1))
  unfolding write_name write_symbol look link_or
  name_numbered {room} {sc} {out} {c} e =
      then
      (record { goes = λ s H. record { state = s; holds = H; same = rw (word_none _ _ (H.symbol_words v S.below S.kind_three) e) (ap (λ (b : List ℕ). (number_symbol v >> write room (SYMBOL ∷ b)) s) name_bytes) } })
      (symbol_numbered v (write room (SYMBOL ∷ (integer_bytes count ++ take count (drop start by)))) S.below S.kind_three e)

pub name_linked : {A : Arena} {room v : ℕ} {sc out : List ℕ} {c : Progress} → IsSymbol A v → (get_or sc v 0 ≡ 0 → ⊥) → Goes A room (write_name room A v) (buffers sc out) c (write room (SYMBOL_LINK ∷ integer_bytes (get_or sc v 0 - 1))) (buffers sc out) c
unfolding write_name write_symbol look link_or
name_linked {v = v} S n = record { goes = λ s H. record { state = s; holds = H; same = rw (word_some _ _ (H.symbol_words v S.below S.kind_three) n) refl } }

-- ---- a class

pub is_symbol : {A : Arena} (c : ℕ) → Name A c → IsSymbol A c
unfolding kind
is_symbol {A} c (s, l, e) = record { below = at_lt A.nodes c (symbol s l) e; kind_three = ap kind (node_at A c (symbol s l) e) }

pub no_class : (room : ℕ) (A : Arena) (w : ℕ) → w ≡ 0 → write_class room A w ≡ pure tt
unfolding write_class
no_class room A w e = ap (write_class room A) e

-- v is the node of a class that there is
module _ (w v : ℕ) (some : w ≡ 0 → ⊥) (is : v ≡ w - 1) where
  class_is : w ≡ suc v
  class_is = omega arith

  pub class_named : (room : ℕ) (A : Arena) → write_class room A w ≡ named room A USER_CLASS v
  unfolding write_class
  class_named room A = ap (write_class room A) class_is

  pub class_symbol : (A : Arena) → ClassRight A w → IsSymbol A v
  unfolding optional_node
  class_symbol A right = is_symbol v (subst (ClassRight A) class_is right 0 v refl)
