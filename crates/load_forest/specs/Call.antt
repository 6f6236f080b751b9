-- A call of load that was accepted: its answer, and what the tables left hold.
use Rattle.std.specs.Prelude.{ℕ, zero, suc, ◌+◌, ◌-◌, ◌/◌, ◌%◌, ◌≤◌, ◌<◌, ◌≡◌, refl, true, false, List, [], ◌∷◌, ◌++◌, length, take, drop, replicate}
use Rattle.std.proofs.Common.{ap, ◌∙◌, append_assoc, length-append, take_at, drop_at, arith, ltb-false}
use Rattle.std.proofs.Math.Option.{none}
use Rattle.std.proofs.lemmas.List.{length-replicate}
use Rattle.std.proofs.Math.Seq.{take-append_seam}
use Rattle.definition.specs.Run.{Outcome, ok, refused, pick}
use Rattle.definition.specs.Node.{Row, nil, bool, fixnum, symbol, array, hash, object, string, user, float, bignum, absent, present, width, words, flat, vars, row_of, row, rows, is_row}
use Rattle.definition.specs.Arena.{Tables, Arena, arena, padded, zeroed, row_right, node_right, counts_fit, faulty, fault, counts_of}
use Rattle.definition.specs.State.{State, Room}
use Rattle.definition.specs.Load.{Lists, lists, room_of, load, load_wrong, LoadCall, load_done, load_if, load_call}
use Rattle.definition.specs.Slice.{greatest_length, greatest_limit}
use Rattle.definition.specs.Refused.{Accepted, Refused}
use Rattle.definition.specs.declared.Counts.{Counts}
use Rattle.definition.specs.declared.Refusal.{Refusal}
use Rattle.lists.specs.Slices.{lowest_none, short, tables_right}
use Rattle.lists.specs.Lists.{At, apart}
use Rattle.lists.specs.Words.{equal_self, length_words, length_flat}
use Rattle.lists.specs.Tables.{counts_fit_yes, fault_none}
use Rattle.graph.specs.View.{arena_of}
use Rattle.load_forest.specs.Trace.{forwards}
use Rattle.load_forest.specs.Readers.{load_traced}
use Rattle.load_forest.specs.Right.{LoadRight, load_right}
use Rattle.load_forest.specs.Space.{Within, load_within}

-- ---- a row's words say that row

pub row_words_back : (r : Row) → row (words r) ≡ r
unfolding row row_of words vars pick
row_words_back nil = refl
row_words_back (bool true) = refl
row_words_back (bool false) = refl
row_words_back (fixnum w) = refl
row_words_back (symbol s l) = refl
row_words_back (array s n w) = refl
row_words_back (hash s n d w) = refl
row_words_back (object s n c) = refl
row_words_back (string s l absent w) = refl
row_words_back (string s l (present p n) w) = refl
row_words_back (user s l c absent) = refl
row_words_back (user s l c (present p n)) = refl
row_words_back (float s l) = refl
row_words_back (bignum low high true) = refl
row_words_back (bignum low high false) = refl

take_words : (r : Row) (x : List ℕ) → take width (words r ++ x) ≡ words r
take_words r x = take_at (words r) x width (length_words r)

drop_words : (r : Row) (x : List ℕ) → drop width (words r ++ x) ≡ x
drop_words r x = drop_at (words r) x width (length_words r)

pub is_row_words : (r : Row) → is_row (words r) ≡ true
unfolding is_row
is_row_words r = rw (row_words_back r) (equal_self (words r))

-- the rows laid out, and whatever comes after them
pub rows_flat : (rs : List Row) (x : List ℕ) → rows (length rs) (flat rs ++ x) ≡ rs
unfolding rows flat
rows_flat [] x = refl
rows_flat (r ∷ rs) x =
    rw (append_assoc (words r) (flat rs) x, take_words r (flat rs ++ x), drop_words r (flat rs ++ x), row_words_back r, rows_flat rs x)

-- the test of nodes, over rows laid out
faulty_none : (A : Arena) (rs : List Row) (i : ℕ) (x : List ℕ) → ((k : ℕ) (r : Row) → At rs k r → row_right A r ≡ true) → faulty A (length rs) i (flat rs ++ x) ≡ none
unfolding faulty flat node_right pick
faulty_none A [] i x h = refl
faulty_none A (r ∷ rs) i x h =
    rw (append_assoc (words r) (flat rs) x, take_words r (flat rs ++ x), drop_words r (flat rs ++ x), is_row_words r, row_words_back r, h 0 r refl)
    (faulty_none A rs (suc i) x (λ k q e. h (suc k) q e))

-- the bytes used are bytes of the input
pub load_used : (input : List ℕ) (room : Room) (limit h : ℕ) (s : State) → load input room limit ≡ ok h s → s.at ≤ length input
load_used input room limit h s e =
    let x = load_traced input room limit s h e in
    (forwards x.trace).ends (x.header.inside (omega arith))

-- ---- what is lent is allowed

-- what load's test of the slices says where it finds nothing
pub record Allowed (input : List ℕ) (T : Lists) (limit : ℕ) : Type 0 where
  pub nodes_most : length T.nodes ≤ greatest_length
  pub nodes_some : 1 ≤ length T.nodes / width
  pub nodes_whole : length T.nodes % width ≡ 0
  pub references_most : length T.references ≤ greatest_length
  pub bytes_most : length T.bytes ≤ greatest_length
  pub symbols_most : length T.symbols ≤ greatest_length
  pub objects_most : length T.objects ≤ greatest_length
  pub limit_most : limit ≤ greatest_limit
  pub input_most : length input ≤ greatest_length

pub load_allowed : (input : List ℕ) (T : Lists) (limit : ℕ) → load_wrong input T limit ≡ 0 → Allowed input T limit
unfolding load_wrong
load_allowed input T limit e =
    let (t, e₃) = tables_right _ _ _ _ e in
    let (b₄, e₄) = lowest_none 3 _ _ e₃ in
    let (b₅, e₅) = lowest_none 4 _ _ e₄ in
    let (b₇, e₇) = lowest_none 6 _ _ e₅ in
    let (b₈, e₈) = lowest_none 7 _ _ e₇ in
    record {
      nodes_most = t.nodes_small;
      nodes_some = t.one;
      nodes_whole = omega (arith, t.whole);
      references_most = t.references_small;
      bytes_most = t.bytes_small;
      symbols_most = short _ b₄;
      objects_most = short _ b₅;
      limit_most = ltb-false greatest_limit limit b₇;
      input_most = short _ b₈;
    }

-- ---- an accepted call

pub record AcceptedLoad (input : List ℕ) (T : Lists) (limit : ℕ) : Type 0 where
  pub none_wrong : load_wrong input T limit ≡ 0
  pub root : ℕ
  pub state : State
  pub loads : load input (room_of T) limit ≡ ok root state
  pub answered : (load_call input T limit).answer ≡ record { answer = Accepted; counts = counts_of (length state.nodes) (length state.references) (length state.bytes) root; used = state.at; form = state.notes.form }
  pub left : (load_call input T limit).lent ≡ lists (padded T.nodes (flat state.nodes)) (padded T.references state.references) (padded T.bytes state.bytes) (zeroed T.symbols) (zeroed T.objects)

no_accept : {A : Type 0} (r : Refusal) → Refused r ≡ Accepted → A
no_accept r e = apart (cc)

pub call_done : (input : List ℕ) (T : Lists) (limit : ℕ) → load_wrong input T limit ≡ 0 → load_call input T limit ≡ load_done T (load input (room_of T) limit)
unfolding load_call load_if
call_done input T limit e = rw e

-- nothing is wrong, and the load is accepted
pub accepted_load : (input : List ℕ) (T : Lists) (limit h : ℕ) (s : State) → load_wrong input T limit ≡ 0 → load input (room_of T) limit ≡ ok h s → AcceptedLoad input T limit
unfolding load_done
accepted_load input T limit h s w p =
    let z : load_call input T limit ≡ load_done T (ok h s) = call_done input T limit w ∙ ap (load_done T) p in
    record { none_wrong = w; root = h; state = s; loads = p; answered = ap (λ (c : LoadCall). c.answer) z; left = ap (λ (c : LoadCall). c.lent) z }

pub load_accepted : (input : List ℕ) (T : Lists) (limit : ℕ) → (load_call input T limit).answer.answer ≡ Accepted → AcceptedLoad input T limit
unfolding load_call load_if load_done
load_accepted input T limit e = by_wrong (load_wrong input T limit) refl e
  where
    by_outcome : (o : Outcome State ℕ) → load input (room_of T) limit ≡ o → load_wrong input T limit ≡ 0 → (load_done T o).answer.answer ≡ Accepted → AcceptedLoad input T limit
    by_outcome (ok h s) p w q = accepted_load input T limit h s w p
    by_outcome (refused r) p w q = no_accept r q

    by_wrong : (n : ℕ) → load_wrong input T limit ≡ n → (load_if n input T limit).answer.answer ≡ Accepted → AcceptedLoad input T limit
    by_wrong zero p q = by_outcome (load input (room_of T) limit) refl p q
    by_wrong (suc n) p q = no_accept _ q

-- ---- the tables left

length_padded : (t l : List ℕ) → length l ≤ length t → length (padded t l) ≡ length t
unfolding padded
length_padded t l h = length-append l (replicate (length t - length l) 0) ∙ ap (λ (n : ℕ). length l + n) (length-replicate (length t - length l) 0) ∙ omega arith

pub take_padded : (t l : List ℕ) → take (length l) (padded t l) ≡ l
unfolding padded
take_padded t l = take-append_seam l (replicate (length t - length l) 0)

rows_padded : (t : List ℕ) (rs : List Row) → rows (length rs) (padded t (flat rs)) ≡ rs
unfolding padded
rows_padded t rs = rows_flat rs (replicate (length t - length (flat rs)) 0)

-- the tables and counts that a load from T to s with root h leaves
abbrev pub tables_left : Lists → State → Tables
tables_left T s = record { nodes = padded T.nodes (flat s.nodes); references = padded T.references s.references; bytes = padded T.bytes s.bytes }

abbrev pub counts_left : State → ℕ → Counts
counts_left s h = counts_of (length s.nodes) (length s.references) (length s.bytes) h

-- what they hold is what was loaded
pub arena_left : (T : Lists) (s : State) (h : ℕ) → arena (tables_left T s) (counts_left s h) ≡ arena_of s h
unfolding arena
arena_left T s h = λ i. record {
  nodes = rows_padded T.nodes s.nodes i;
  references = take_padded T.references s.references i;
  bytes = take_padded T.bytes s.bytes i;
  root = h;
}

-- the tables keep their lengths
pub record SameLengths (T : Lists) (s : State) : Type 0 where
  pub nodes_length : length (tables_left T s).nodes ≡ length T.nodes
  pub references_length : length (tables_left T s).references ≡ length T.references
  pub bytes_length : length (tables_left T s).bytes ≡ length T.bytes

room_within : (T : Lists) (s : State) → Within (room_of T) s → (length s.nodes ≤ length T.nodes / width) × (length s.references ≤ length T.references) × (length s.bytes ≤ length T.bytes)
unfolding room_of
room_within T s w = (w.nodes, w.references, w.bytes)

pub some_nodes : (T : Lists) → 1 ≤ length T.nodes / width → 1 ≤ (room_of T).nodes
unfolding room_of
some_nodes T h = h

pub load_lengths : (input : List ℕ) (T : Lists) (limit h : ℕ) (s : State) → load_wrong input T limit ≡ 0 → load input (room_of T) limit ≡ ok h s → SameLengths T s
load_lengths input T limit h s w e =
    let a = load_allowed input T limit w in
    let (n, r, b) = room_within T s (load_within input (room_of T) limit h s (some_nodes T a.nodes_some) e) in
    record {
      nodes_length = length_padded T.nodes (flat s.nodes) (omega (arith, length_flat s.nodes));
      references_length = length_padded T.references s.references r;
      bytes_length = length_padded T.bytes s.bytes b;
    }

counts_left_fit : (input : List ℕ) (T : Lists) (limit h : ℕ) (s : State) → load_wrong input T limit ≡ 0 → load input (room_of T) limit ≡ ok h s → counts_fit (tables_left T s) (counts_left s h) ≡ true
counts_left_fit input T limit h s w e =
    let a = load_allowed input T limit w in
    let (n, r, b) = room_within T s (load_within input (room_of T) limit h s (some_nodes T a.nodes_some) e) in
    let l = load_lengths input T limit h s w e in
    let o : h < length s.nodes = (load_right input (room_of T) limit h s e).root_below in
    counts_fit_yes (tables_left T s) (counts_left s h) (omega arith) (rw l.nodes_length n) (rw l.references_length r) (rw l.bytes_length b) o

faulty_left : (T : Lists) (s : State) (h : ℕ) → LoadRight (arena_of s h) → faulty (arena (tables_left T s) (counts_left s h)) (length s.nodes) 0 (padded T.nodes (flat s.nodes)) ≡ none
unfolding padded
faulty_left T s h x = rw (arena_left T s h) (faulty_none (arena_of s h) s.nodes 0 _ x.rows_right)

-- and they are well formed
pub load_well_formed : (input : List ℕ) (T : Lists) (limit h : ℕ) (s : State) → load_wrong input T limit ≡ 0 → load input (room_of T) limit ≡ ok h s → fault (tables_left T s) (counts_left s h) ≡ none
load_well_formed input T limit h s w e =
    fault_none (tables_left T s) (counts_left s h) (counts_left_fit input T limit h s w e) (faulty_left T s h (load_right input (room_of T) limit h s e))

-- ---- the same of the call itself

-- the three tables of an arena, of those lent
abbrev pub tables_of : Lists → Tables
tables_of T = record { nodes = T.nodes; references = T.references; bytes = T.bytes }

pub call_arena : (input : List ℕ) (T : Lists) (limit : ℕ) (a : AcceptedLoad input T limit) → arena (tables_of (load_call input T limit).lent) (load_call input T limit).answer.counts ≡ arena_of a.state a.root
call_arena input T limit a = rw (a.left, a.answered) (arena_left T a.state a.root)

pub call_well_formed : (input : List ℕ) (T : Lists) (limit : ℕ) → AcceptedLoad input T limit → fault (tables_of (load_call input T limit).lent) (load_call input T limit).answer.counts ≡ none
call_well_formed input T limit a = rw (a.left, a.answered) (load_well_formed input T limit a.root a.state a.none_wrong a.loads)

pub call_used : (input : List ℕ) (T : Lists) (limit : ℕ) → AcceptedLoad input T limit → (load_call input T limit).answer.used ≤ length input
call_used input T limit a = rw a.answered (load_used input (room_of T) limit a.root a.state a.loads)
