-- The nodes of a table, and the definition's test of tables and counts.
use Rattle.std.specs.Prelude.{ℕ, zero, suc, ◌+◌, ◌*◌, ◌/◌, ◌≤◌, ◌<◌, ◌≡◌, Bool, ◌&&◌, List, length, get_or, take, drop}
use Rattle.std.proofs.Math.Path.{refl}
use Rattle.std.proofs.Common.{ap, sym, ◌∙◌, drop-drop, get_or-take, get_or-drop, arith, le-leb}
use Rattle.std.proofs.Math.Bool.{true, false}
use Rattle.std.proofs.Math.Option.{Option, none, some}
use Rattle.definition.specs.Run.{pick}
use Rattle.definition.specs.Node.{nil, width, row, row_of, rows, START, LENGTH, LIST, COUNT, NAME, DEFAULT, CLASS}
use Rattle.definition.specs.Arena.{Arena, Tables, arena, node_right, faulty, counts_fit, fault_if, fault}
use Rattle.definition.specs.Build.{words_at}
use Rattle.definition.specs.declared.Counts.{Counts}
use Rattle.definition.specs.declared.Fault.{Fault}
use Rattle.definition.specs.declared.Fault.TheVariants.{Node}
use Rattle.lists.specs.Lists.{apart}

pub length_rows : (n : ℕ) (table : List ℕ) → length (rows n table) ≡ n
unfolding rows
length_rows zero table = refl
length_rows (suc n) table = ap suc (length_rows n (drop width table))

pub words_next : (t : List ℕ) (i : ℕ) → words_at (drop width t) i ≡ words_at t (suc i)
unfolding words_at
words_next t i = let y : width + i * width ≡ suc i * width = omega arith in ap (take width) (drop-drop (i * width) width t ∙ ap (λ (k : ℕ). drop k t) y)

-- node i of a table's rows
pub rows_at : (n : ℕ) (t : List ℕ) (i : ℕ) → i < n → get_or (rows n t) i nil ≡ row (take width (drop (i * width) t))
unfolding rows words_at
rows_at zero t i h = absurd (omega arith)
rows_at (suc n) t zero h = refl
rows_at (suc n) t (suc i) h = rows_at n (drop width t) i (omega arith) ∙ ap row (words_next t i)

-- the row that its words say
pub words_said : (t : List ℕ) (i : ℕ) → row (take width (drop (i * width) t)) ≡ row_of (get_or t (i * width) 0) (get_or t (i * width + START) 0) (get_or t (i * width + LENGTH) 0) (get_or t (i * width + LIST) 0) (get_or t (i * width + COUNT) 0) (get_or t (i * width + NAME) 0) (get_or t (i * width + DEFAULT) 0) (get_or t (i * width + CLASS) 0)
unfolding row
words_said t i = λ j. row_of (first j) (at START (omega arith) j) (at LENGTH (omega arith) j) (at LIST (omega arith) j) (at COUNT (omega arith) j) (at NAME (omega arith) j) (at DEFAULT (omega arith) j) (at CLASS (omega arith) j)
  where
    at : (x : ℕ) → x < width → get_or (take width (drop (i * width) t)) x 0 ≡ get_or t (i * width + x) 0
    at x l = get_or-take width (drop (i * width) t) x 0 l ∙ get_or-drop (i * width) t x 0

    first : get_or (take width (drop (i * width) t)) 0 0 ≡ get_or t (i * width) 0
    first = at 0 (omega arith) ∙ ap (λ (x : ℕ). get_or t x 0) (omega arith)

pub words_row : (n : ℕ) (t : List ℕ) (i : ℕ) → i < n → get_or (rows n t) i nil ≡ row_of (get_or t (i * width) 0) (get_or t (i * width + START) 0) (get_or t (i * width + LENGTH) 0) (get_or t (i * width + LIST) 0) (get_or t (i * width + COUNT) 0) (get_or t (i * width + NAME) 0) (get_or t (i * width + DEFAULT) 0) (get_or t (i * width + CLASS) 0)
words_row n t i h = rows_at n t i h ∙ words_said t i

-- ---- the test of nodes

pick_none : (b : Bool) (o : Option Fault) (f : Fault) → pick b o (some f) ≡ none → (b ≡ true) × (o ≡ none)
unfolding pick
pick_none true o f e = (refl, e)
pick_none false o f e = apart (cc)

pub faulty_words : (A : Arena) (n i : ℕ) (t : List ℕ) → faulty A n i t ≡ none → (k : ℕ) → k < n → node_right A (words_at t k) ≡ true
unfolding faulty words_at
faulty_words A zero i t e k h = absurd (omega arith)
faulty_words A (suc n) i t e zero h = (pick_none (node_right A (take width t)) (faulty A n (suc i) (drop width t)) (Node i) e).0
faulty_words A (suc n) i t e (suc k) h =
    let q : faulty A n (suc i) (drop width t) ≡ none = (pick_none (node_right A (take width t)) (faulty A n (suc i) (drop width t)) (Node i) e).1 in
    ap (node_right A) (sym (words_next t k)) ∙ faulty_words A n (suc i) (drop width t) q k (omega arith)

pub words_faulty : (A : Arena) (n i : ℕ) (t : List ℕ) → ((k : ℕ) → k < n → node_right A (words_at t k) ≡ true) → faulty A n i t ≡ none
unfolding faulty words_at pick
words_faulty A zero i t h = refl
words_faulty A (suc n) i t h =
    let q : node_right A (take width t) ≡ true = h 0 (omega arith) in
    rw q (words_faulty A n (suc i) (drop width t) (λ k l. ap (node_right A) (words_next t k) ∙ h (suc k) (omega arith)))

-- ---- the test of the whole

five : (a b c d e : Bool) → a ≡ true → b ≡ true → c ≡ true → d ≡ true → e ≡ true → a && b && c && d && e ≡ true
five a b c d e p q r s t = rw (p, q, r, s, t)

module _ (T : Tables) (c : Counts) where
  pub counts_fit_yes : 1 ≤ c.nodes → c.nodes ≤ length T.nodes / width → c.references ≤ length T.references → c.bytes ≤ length T.bytes → c.root < c.nodes → counts_fit T c ≡ true
  unfolding counts_fit
  counts_fit_yes a n r b o =
      five _ _ _ _ _ (le-leb 1 c.nodes a) (le-leb c.nodes (length T.nodes / width) n) (le-leb c.references (length T.references) r) (le-leb c.bytes (length T.bytes) b) (le-leb (suc c.root) c.nodes o)

  pub fault_none : counts_fit T c ≡ true → faulty (arena T c) c.nodes 0 T.nodes ≡ none → fault T c ≡ none
  unfolding fault fault_if
  fault_none e f = rw e f

  pub no_fault : fault T c ≡ none → (counts_fit T c ≡ true) × (faulty (arena T c) c.nodes 0 T.nodes ≡ none)
  unfolding fault fault_if
  no_fault e = go (counts_fit T c) refl e
    where
      go : (b : Bool) → counts_fit T c ≡ b → fault_if b T c ≡ none → (counts_fit T c ≡ true) × (faulty (arena T c) c.nodes 0 T.nodes ≡ none)
      go true h e = (h, e)
      go false h e = apart (cc)
