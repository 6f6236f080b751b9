-- The node at a place of an arena.
use Rattle.std.specs.Prelude.{ℕ, ◌+◌, ◌*◌, ◌≤◌, ◌<◌, ◌≡◌, refl, length}
use Rattle.std.proofs.Math.Path.{ap}
use Rattle.std.proofs.Common.{◌∙◌, arith}
use mathlib.Core.List.{List}
use Rattle.std.proofs.Math.ListN.{get_or, get_or-eq_default}
use Rattle.definition.specs.Node.{Row, nil, bool, fixnum, symbol, array, hash, object, string, user, float, bignum, width, START, LENGTH, LIST, COUNT, NAME, DEFAULT, CLASS, symbol_kind, kind, row_of, rows}
use Rattle.definition.specs.Arena.{Arena, node}
use Rattle.lists.specs.Lists.{At, get_d_at, at_get_d}
use Rattle.lists.specs.Tables.{length_rows, words_row}

pub node_at : (A : Arena) (i : ℕ) (r : Row) → At A.nodes i r → node A i ≡ r
unfolding node
node_at A i r e = get_d_at A.nodes i nil r e

pub at_node : (A : Arena) (i : ℕ) → i < length A.nodes → At A.nodes i (node A i)
unfolding node
at_node A i h = at_get_d A.nodes i nil h

-- a row of that kind is a symbol
pub symbol_row : (r : Row) → kind r ≡ symbol_kind → (s : ℕ) × (l : ℕ) × (r ≡ symbol s l)
unfolding kind
symbol_row nil e = absurd (omega arith)
symbol_row (bool b) e = absurd (omega arith)
symbol_row (fixnum w) e = absurd (omega arith)
symbol_row (symbol s l) e = (s, l, refl)
symbol_row (array s n w) e = absurd (omega arith)
symbol_row (hash s n d w) e = absurd (omega arith)
symbol_row (object s n c) e = absurd (omega arith)
symbol_row (string s l v w) e = absurd (omega arith)
symbol_row (user s l c v) e = absurd (omega arith)
symbol_row (float s l) e = absurd (omega arith)
symbol_row (bignum low high m) e = absurd (omega arith)

-- node c is a symbol
abbrev pub Name : Arena → ℕ → Type 0
Name A c = (s : ℕ) × (l : ℕ) × At A.nodes c (symbol s l)

-- ---- a node by the words of the table

module _ (A : Arena) (count : ℕ) (t : List ℕ) (e : A.nodes ≡ rows count t) (i : ℕ) where
  pub node_row : i < count → node A i ≡ row_of (get_or t (i * width) 0) (get_or t (i * width + START) 0) (get_or t (i * width + LENGTH) 0) (get_or t (i * width + LIST) 0) (get_or t (i * width + COUNT) 0) (get_or t (i * width + NAME) 0) (get_or t (i * width + DEFAULT) 0) (get_or t (i * width + CLASS) 0)
  unfolding node
  node_row l = ap (λ (rs : List Row). get_or rs i nil) e ∙ words_row count t i l

  -- past the nodes there is nil
  pub node_past : count ≤ i → node A i ≡ nil
  unfolding node
  node_past l = ap (λ (rs : List Row). get_or rs i nil) e ∙ get_or-eq_default (rows count t) nil {n = i} (rw (length_rows count t) l)
