-- From the tests of a builder to its answer.
use Prim.Native.Nat.{ℕ, zero, suc, ◌+◌, ◌*◌, ◌<◌}
use mathlib.Core.Bool.{Bool, true, false}
use mathlib.Core.List.{List, [], ◌∷◌}
use mathlib.Core.Option.{Option, none, some}
use Rattle.std.specs.Prelude.{Result, Ok, Err, IsErrAnd}
use mathlib.Core.Path.{◌≡◌, refl, sym, ap, ◌∙◌}
use mir.Val.{bool_byte}
use lib.ListN.{get_or, set, take}
use Rattle.definition.specs.Run.{Run, ok, refused, pure, ◌>>=◌, look}
use Rattle.definition.specs.Node.{bool, bignum, width, CLASS, words}
use Rattle.definition.specs.Arena.{Tables, arena, counts_of, find_symbol, zeroed}
use Rattle.definition.specs.Build.{Lent, lent, BuildCall, build_call_of, build_done, build_answer, build_call, new_answer, new_call, new_if, wrong, handles_checked, set_root, exchange_root, check_class, set_class, held, add_symbol, known_or_new, new_call_of}
use Rattle.definition.specs.declared.Counts.{Counts}
use Rattle.definition.specs.declared.Created.{Created}
use Rattle.definition.specs.declared.Refusal.{Refusal}
use Rattle.definition.specs.declared.Refusal.TheVariants.{BadTables}
use Rattle.store.specs.Laws.{cleared, cleared_whole}
use Rattle.lists.specs.Runs.{err_is}
use Rattle.call_check.proofs.Answers.{stop, on}
use Rattle.call_check.proofs.Tests.{old_class}
use Rattle.node_adder.proofs.Adding.{build_no}

module _ (L : Lent) where
  pub root_set : (h : ℕ) → handles_checked (h ∷ []) L ≡ ok tt L
      → record { answer = build_answer L.counts (Ok (record { handle = L.counts.root; counts = record { nodes = L.counts.nodes; references = L.counts.references; bytes = L.counts.bytes; root = h } })); tables = L.tables } ≡ build_call (exchange_root h) L
  unfolding ◌>>=◌ build_call build_done build_answer exchange_root set_root
  root_set h p = sym (ap (build_done L) (on _ p))

-- ---- replace_class

module _ (nodes references bytes : List ℕ) (c : Counts) (h : ℕ) where
  abbrev given : Lent
  given = lent nodes references bytes c

  pub class_set : (w : ℕ) → h < c.nodes → check_class h given ≡ ok tt given
      → build_call_of (build_answer c (Ok (record { handle = get_or nodes (h * width + CLASS) 0; counts = c }))) (set nodes (h * width + CLASS) w) references bytes ≡ build_call (set_class h w) given
  unfolding build_call build_done build_answer set_class
  class_set w l e =
      λ i. build_call_of (build_answer c (Ok (record { handle = old_class given nodes c.nodes h refl refl l e i; counts = c }))) (set nodes (h * width + CLASS) w) references bytes

-- a bool's word, and a Bignum's sign
pub bool_word : (b : Bool) → words (bool b) ≡ 1 ∷ bool_byte b ∷ 0 ∷ 0 ∷ 0 ∷ 0 ∷ 0 ∷ 0 ∷ []
unfolding words
bool_word true = refl
bool_word false = refl

pub signed : (low high : ℕ) (minus : Bool) → words (bignum low high minus) ≡ 10 ∷ low ∷ high ∷ 0 ∷ bool_byte minus ∷ 0 ∷ 0 ∷ 0 ∷ []
unfolding words
signed low high true = refl
signed low high false = refl

-- ---- new

module _ (T : Tables) (w : ℕ) (e : w ≡ wrong T []) where
  pub new_wrong : (w ≡ 0 → ⊥) → record { answer = new_answer (Err (BadTables w)); tables = T } ≡ new_call T
  unfolding new_call new_if new_answer
  new_wrong n = go w n ∙ ap (λ (k : ℕ). new_if k T) e
    where
      go : (w : ℕ) → (w ≡ 0 → ⊥) → record { answer = new_answer (Err (BadTables w)); tables = T } ≡ new_if w T
      go zero n = absurd (n refl)
      go (suc w) n = refl

  pub new_right : w ≡ 0 → (n r b : List ℕ) → n ≡ cleared 0 T.nodes → r ≡ cleared 0 T.references → b ≡ cleared 0 T.bytes → new_call_of (new_answer (Ok (counts_of 1 0 0 0))) n r b ≡ new_call T
  unfolding new_call new_if new_answer zeroed
  new_right z n r b p q s =
      (λ i. new_call_of (new_answer (Ok (counts_of 1 0 0 0))) ((p ∙ cleared_whole T.nodes) i) ((q ∙ cleared_whole T.references) i) ((s ∙ cleared_whole T.bytes) i))
      ∙ ap (λ (k : ℕ). new_if k T) (sym z ∙ e)

-- ---- a builder after its tests

pub build_on : {x : BuildCall} (m : Run Lent (Unit {0})) (f : Unit {0} → Run Lent ℕ) (L : Lent) → m L ≡ ok tt L → x ≡ build_call (f tt) L → x ≡ build_call (m >>= f) L
unfolding build_call ◌>>=◌
build_on m f L p e = e ∙ ap (build_done L) (sym (on f p))

pub build_stop : (m : Run Lent (Unit {0})) (f : Unit {0} → Run Lent ℕ) (L : Lent) (r : Result Created Refusal) {q : Refusal} → IsErrAnd r (λ y. y ≡ q) → m L ≡ refused q → record { answer = build_answer L.counts r; tables = L.tables } ≡ build_call (m >>= f) L
unfolding ◌>>=◌
build_stop m f L r {q = q} e p = rw (err_is r e) (build_no L (m >>= f) q (stop f p))

-- a name that is known, and one that isn't
pub known : (L : Lent) (name : List ℕ) (h : ℕ) → some h ≡ find_symbol (held L).bytes name (held L).nodes 0
    → record { answer = build_answer L.counts (Ok (record { handle = h; counts = L.counts })); tables = L.tables } ≡ build_call (look λ L. known_or_new name (find_symbol (held L).bytes name (held L).nodes 0)) L
unfolding build_call look known_or_new build_done build_answer pure
known L name h e = ap (λ (o : Option ℕ). build_done L (known_or_new name o L)) e

pub unknown : {x : BuildCall} (L : Lent) (name : List ℕ) → none ≡ find_symbol (held L).bytes name (held L).nodes 0 → x ≡ build_call (add_symbol name) L
    → x ≡ build_call (look λ L. known_or_new name (find_symbol (held L).bytes name (held L).nodes 0)) L
unfolding build_call look known_or_new
unknown L name e p = p ∙ ap (λ (o : Option ℕ). build_done L (known_or_new name o L)) e

pub held_bytes : (L : Lent) → (held L).bytes ≡ take L.counts.bytes L.tables.bytes
unfolding arena
held_bytes L = refl
