-- A node added, or no room for it, as the definition has it.
use Prim.Native.Nat.{ℕ, ◌+◌, ◌-◌, ◌*◌, ◌/◌, ◌≤◌, ◌<◌, zero-le}
use native.Mathlib.Nat.{add-zero}
use mathlib.Core.List.{List, []}
use mathlib.Core.Path.{◌≡◌, refl, sym, ap, ◌∙◌}
use lib.ListN.{length}
use lib.Seq.{sets}
use borrow.Author.Tests.{lt-ltb, le-ltb, le-leb, lt-leb}
use Rattle.definition.specs.Run.{Run, refused, ◌>>=◌, pick}
use Rattle.definition.specs.Node.{Row, words, width}
use Rattle.definition.specs.Build.{Lent, BuildAnswer, lent, build_done, build_call, check_space, append, add, build_answer, build_call_of}
use Rattle.definition.specs.Slice.{BYTES, NODES, REFERENCES}
use Rattle.definition.specs.declared.Counts.{Counts}
use Rattle.definition.specs.declared.Refusal.{Refusal}
use Rattle.definition.specs.declared.Refusal.TheVariants.{NoSpace}
use Rattle.std.specs.Prelude.{Ok, Err}
use Rattle.call_check.proofs.Answers.{stop, on}

module _ (L : Lent) where
  -- a builder that is refused
  pub build_no : (m : Run Lent ℕ) (q : Refusal) → m L ≡ refused q → record { answer = build_answer L.counts (Err q); tables = L.tables } ≡ build_call m L
  unfolding build_call build_done build_answer
  build_no m q p = sym (ap (build_done L) p)

  abbrev no : ℕ
  no = length L.tables.nodes / width

  abbrev re : ℕ
  re = length L.tables.references - L.counts.references

  abbrev by : ℕ
  by = length L.tables.bytes - L.counts.bytes

  module _ (bs ms : List ℕ) (row : ℕ → ℕ → Row) where
    pub no_bytes : by < length bs → add bs ms row L ≡ refused (NoSpace BYTES)
    unfolding ◌>>=◌ add check_space pick
    no_bytes l = stop _ (rw (lt-leb (length bs) by l) refl)

    pub no_words : length bs ≤ by → re < length ms → add bs ms row L ≡ refused (NoSpace REFERENCES)
    unfolding ◌>>=◌ add check_space pick
    no_words k l = stop _ (rw (le-leb (length bs) by k, lt-leb (length ms) re l) refl)

    pub no_node : length bs ≤ by → length ms ≤ re → no ≤ L.counts.nodes → add bs ms row L ≡ refused (NoSpace NODES)
    unfolding ◌>>=◌ add check_space pick
    no_node k l m = stop _ (rw (le-leb (length bs) by k, le-leb (length ms) re l, le-ltb L.counts.nodes no m) refl)

    pub added : length bs ≤ by → length ms ≤ re → L.counts.nodes < no → add bs ms row L ≡ append bs ms row L
    unfolding ◌>>=◌ add check_space pick
    added k l m = on _ (rw (le-leb (length bs) by k, le-leb (length ms) re l, lt-ltb L.counts.nodes no m) refl)

-- the answer after a node, with so many words and bytes in use then
abbrev pub grown : Counts → ℕ → ℕ → BuildAnswer
grown c r b = build_answer c (Ok (record { handle = c.nodes; counts = record { nodes = c.nodes + 1; references = r; bytes = b; root = c.root } }))

-- what an appended node leaves
pub append_done : (nodes references bytes : List ℕ) (c : Counts) (bs ms : List ℕ) (row : ℕ → ℕ → Row) (ws : List ℕ) → words (row c.bytes c.references) ≡ ws
    → build_call_of (grown c (c.references + length ms) (c.bytes + length bs)) (sets nodes (c.nodes * width) ws) (sets references c.references ms) (sets bytes c.bytes bs)
    ≡ build_done (lent nodes references bytes c) (append bs ms row (lent nodes references bytes c))
unfolding build_done append build_answer
append_done nodes references bytes c bs ms row ws e =
    λ i. build_call_of (grown c (c.references + length ms) (c.bytes + length bs)) (sets nodes (c.nodes * width) (sym e i)) (sets references c.references ms) (sets bytes c.bytes bs)

-- ---- a node added, or no room for it

module _ (nodes re by : List ℕ) (c : Counts) where
  abbrev L : Lent
  L = lent nodes re by c

  abbrev Fails : ℕ → Run Lent ℕ → Type 0
  Fails slice m = build_call_of (build_answer c (Err (NoSpace slice))) nodes re by ≡ build_call m L

  fails : (slice : ℕ) (m : Run Lent ℕ) → m L ≡ refused (NoSpace slice) → Fails slice m
  fails slice m e = build_no L m (NoSpace slice) e

  adds : (bs ms : List ℕ) (row : ℕ → ℕ → Row) (ws : List ℕ) → words (row c.bytes c.references) ≡ ws
      → length bs ≤ length by - c.bytes → length ms ≤ length re - c.references → c.nodes < length nodes / width
      → build_call_of (grown c (c.references + length ms) (c.bytes + length bs)) (sets nodes (c.nodes * width) ws) (sets re c.references ms) (sets by c.bytes bs) ≡ build_call (add bs ms row) L
  unfolding build_call
  adds bs ms row ws e p q r = append_done nodes re by c bs ms row ws e ∙ ap (build_done L) (sym (added L bs ms row p q r))

  pub plain_in : (row : Row) (ws n : List ℕ) → n ≡ sets nodes (c.nodes * width) ws → words row ≡ ws → c.nodes < length nodes / width → build_call_of (grown c c.references c.bytes) n re by ≡ build_call (add [] [] (λ b l. row)) L
  plain_in row ws n p e r =
      (λ i. build_call_of (grown c (sym (add-zero c.references) i) (sym (add-zero c.bytes) i)) (p i) re by) ∙ adds [] [] (λ b l. row) ws e zero-le zero-le r

  pub plain_out : (row : Row) → length nodes / width ≤ c.nodes → Fails NODES (add [] [] (λ b l. row))
  plain_out row r = fails NODES (add [] [] (λ b l. row)) (no_node L [] [] (λ b l. row) zero-le zero-le r)

  module _ (bs : List ℕ) (row : ℕ → ℕ → Row) where
    pub string_in : (ws n b : List ℕ) → n ≡ sets nodes (c.nodes * width) ws → b ≡ sets by c.bytes bs → words (row c.bytes c.references) ≡ ws → length bs ≤ length by - c.bytes → c.nodes < length nodes / width
        → build_call_of (grown c c.references (c.bytes + length bs)) n re b ≡ build_call (add bs [] row) L
    string_in ws n b p q e r s = (λ i. build_call_of (grown c (sym (add-zero c.references) i) (c.bytes + length bs)) (p i) re (q i)) ∙ adds bs [] row ws e r zero-le s

    pub string_out : length by - c.bytes < length bs → Fails BYTES (add bs [] row)
    string_out r = fails BYTES (add bs [] row) (no_bytes L bs [] row r)

    pub string_full : length bs ≤ length by - c.bytes → length nodes / width ≤ c.nodes → Fails NODES (add bs [] row)
    string_full r s = fails NODES (add bs [] row) (no_node L bs [] row r zero-le s)

  module _ (ms : List ℕ) (row : ℕ → ℕ → Row) where
    pub list_in : (ws n l : List ℕ) → n ≡ sets nodes (c.nodes * width) ws → l ≡ sets re c.references ms → words (row c.bytes c.references) ≡ ws → length ms ≤ length re - c.references → c.nodes < length nodes / width
        → build_call_of (grown c (c.references + length ms) c.bytes) n l by ≡ build_call (add [] ms row) L
    list_in ws n l p q e r s = (λ i. build_call_of (grown c (c.references + length ms) (sym (add-zero c.bytes) i)) (p i) (q i) by) ∙ adds [] ms row ws e zero-le r s

    pub list_out : length re - c.references < length ms → Fails REFERENCES (add [] ms row)
    list_out r = fails REFERENCES (add [] ms row) (no_words L [] ms row zero-le r)

    pub list_full : length ms ≤ length re - c.references → length nodes / width ≤ c.nodes → Fails NODES (add [] ms row)
    list_full r s = fails NODES (add [] ms row) (no_node L [] ms row zero-le r s)
