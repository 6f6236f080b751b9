-- Scalars: what their rows say, and what is written of them.
use Prim.Native.Nat.{ℕ, ◌+◌, ◌*◌, ◌≤◌, ◌<◌}
use native.Mathlib.Omega.{arith}
use mathlib.Core.Logic.{◌⊎◌, inl, inr}
use mathlib.Core.Path.{◌≡◌, sym, ap, ◌∙◌}
use mathlib.Core.List.{List, [], ◌∷◌}
use lib.Dec.{eqb}
use lib.ListN.{length, get_or}
use borrow.Author.Tests.{eq-eqb, ne_eqb}
use Rattle.definition.specs.Run.{pick}
use Rattle.definition.specs.Integer.{integer_bytes}
use Rattle.definition.specs.Kind.{NIL, TRUE, FALSE, FIXNUM}
use Rattle.definition.specs.Node.{width, Row, nil, bool, fixnum, symbol, kind, words}
use Rattle.definition.specs.Arena.{Arena, node, name_of}
use Rattle.definition.specs.Dump.{Writer, write, write_name, write_symbol, write_row}
use Rattle.lists.specs.Rows.{row_1, row_2, row_3, row_nil}
use Rattle.writer.specs.Held.{Noded, IsSymbol}

module _ {A : Arena} {no : List ℕ} (N : Noded A no) (v : ℕ) (below : v < length A.nodes) where
  abbrev w : ℕ → ℕ
  w i = get_or no (v * width + i) 0

  pub fixnum_row : get_or no (v * width) 0 ≡ 2 → node A v ≡ fixnum (w 1)
  fixnum_row e = N.row_at v below ∙ row_2 _ _ _ _ _ _ _ _ e

  pub bool_row : get_or no (v * width) 0 ≡ 1 → node A v ≡ bool (eqb (w 1) 1)
  bool_row e = N.row_at v below ∙ row_1 _ _ _ _ _ _ _ _ e

  pub symbol_here : get_or no (v * width) 0 ≡ 3 → IsSymbol A v
  unfolding kind
  symbol_here e = record { below = below; kind_three = ap kind (N.row_at v below ∙ row_3 _ _ _ _ _ _ _ _ e) }

  pub symbol_row_here : get_or no (v * width) 0 ≡ 3 → node A v ≡ symbol (w 1) (w 2)
  symbol_row_here e = N.row_at v below ∙ row_3 _ _ _ _ _ _ _ _ e

  pub nil_row : (get_or no (v * width) 0 ≡ 1 → ⊥) → (get_or no (v * width) 0 ≡ 2 → ⊥) → (get_or no (v * width) 0 ≡ 3 → ⊥) → kind (node A v) ≤ 3 → node A v ≡ nil
  nil_row a b c h =
      let e = N.row_at v below in
      let q = ap kind e in
      e ∙ row_nil _ _ _ _ _ _ _ _ a b c (omega arith)

-- ---- their writers

module _ (room : ℕ) (A : Arena) (level : Writer) (inner : ℕ → Writer) (v : ℕ) where
  pub fixnum_same : (x : ℕ) → node A v ≡ fixnum x → write_row room A level inner v (node A v) ≡ write room (FIXNUM ∷ integer_bytes x)
  unfolding write_row
  fixnum_same x e = ap (write_row room A level inner v) e

  pub nil_same : node A v ≡ nil → write_row room A level inner v (node A v) ≡ write room (NIL ∷ [])
  unfolding write_row
  nil_same e = ap (write_row room A level inner v) e

  pub true_same : (x : ℕ) → node A v ≡ bool (eqb x 1) → x ≡ 1 → write_row room A level inner v (node A v) ≡ write room (TRUE ∷ [])
  unfolding write_row
  true_same x e q = ap (write_row room A level inner v) (e ∙ ap bool (eq-eqb x 1 q))

  pub false_same : (x : ℕ) → node A v ≡ bool (eqb x 1) → (x ≡ 1 → ⊥) → write_row room A level inner v (node A v) ≡ write room (FALSE ∷ [])
  unfolding write_row
  false_same x e q = ap (write_row room A level inner v) (e ∙ ap bool (ne_eqb x 1 q))

  pub symbol_same : (s l : ℕ) → node A v ≡ symbol s l → write_row room A level inner v (node A v) ≡ write_name room A v
  unfolding write_row write_name name_of kind words pick
  symbol_same s l e = ap (write_row room A level inner v) e ∙ sym (ap (λ (r : Row). write_symbol room v (name_of A.bytes r)) e)

-- a byte by a test that was made, in either case
pub bool_byte : {X Y : Type 0} (room : ℕ) (A : Arena) (level : Writer) (inner : ℕ → Writer) (v x k : ℕ) → node A v ≡ bool (eqb x 1) → (X → x ≡ 1) → (Y → x ≡ 1 → ⊥) → (X × (k ≡ TRUE)) ⊎ (Y × (k ≡ FALSE)) → write_row room A level inner v (node A v) ≡ write room (k ∷ [])
bool_byte room A level inner v x k e f g (inl (t, q)) = true_same room A level inner v x e (f t) ∙ ap (λ (b : ℕ). write room (b ∷ [])) (sym q)
bool_byte room A level inner v x k e f g (inr (t, q)) = false_same room A level inner v x e (g t) ∙ ap (λ (b : ℕ). write room (b ∷ [])) (sym q)
