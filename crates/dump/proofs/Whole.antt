-- The whole call: 1 and 2 first, what is held at the start, and what stands at the end.
use Prim.Native.Nat.{ℕ, zero, suc, ◌-◌, ◌≤◌, ◌<◌}
use native.Mathlib.Omega.{arith}
use mathlib.Core.Option.{Option, none}
use mathlib.Core.Path.{◌≡◌, refl, sym, ap, ◌∙◌, subst}
use mathlib.Core.List.{List, [], ◌∷◌, ◌++◌}
use lib.ListN.{length, get_or, take, replicate, length-replicate, get_or-replicate}
use Rattle.std.specs.Prelude.{Result, Ok, Err, MatchResult, IsErrAnd}
use Rattle.definition.specs.Run.{refused, pure, refuse, next, ◌>>=◌}
use Rattle.definition.specs.Arena.{Tables, Arena, arena, node, allowed, sound, fault, padded, zeroed, tables_of}
use Rattle.definition.specs.Dump.{Written, Writer, ◌>>◌, write, write_value, number_in, dump_wrong, dump_call, dump_call_of, dump_checked, dump_done}
use Rattle.definition.specs.Dump as D
use Rattle.definition.specs.Refused.{Accepted, Refused as TurnedDown}
use Rattle.definition.specs.declared.Counts.{Counts}
use Rattle.definition.specs.declared.Fault.{Fault}
use Rattle.definition.specs.declared.Refusal.{Refusal}
use Rattle.definition.specs.declared.Refusal.TheVariants.{BadTables, BadArena}
use Rattle.arena_check.specs.Held.{checked}
use Rattle.lists.specs.Lists.{apart}
use Rattle.lists.specs.Runs.{err_is}
use Rattle.lists.specs.Tables.{words_row}
use Rattle.well_formed.specs.Right.{Fit, fault_fit, fault_right}
use Rattle.store.specs.Laws.{cleared, cleared_after, cleared_whole}
use Rattle.std.specs.declared.result.Result.TheVariants.{Ok, Err}
use Rattle.writer.specs.declared.Progress.{Progress}
use Rattle.writer.specs.declared.Stop.{Stop}
use Rattle.writer.specs.Held.{Buffers, buffers, word, marked, marks, Lent, Listed, Holds, Ready, Went, Answer, stopped, Meets}
use Rattle.writer.specs.Laws.{Passed, assoc, write_join, goes_first, lead_as, lead_after, lead_first, lead_stop}
use Rattle.dumper.specs.Lengths.{wrong, Allowed}
use Rattle.dump.specs.Whole.{whole}

-- ---- 1 and 2

-- what the test of the arena found, as the call's answer
abbrev pub Mapped : Result (Unit {0}) Fault → Result (Unit {0}) Refusal → Type 0
Mapped r t = MatchResult r (λ u. t ≡ Ok u) (λ f. IsErrAnd t (λ q. q ≡ BadArena f))

none_found : (r : Result (Unit {0}) Fault) (t : Result (Unit {0}) Refusal) {u : Unit {0}} → Mapped r t → t ≡ Ok u → checked r ≡ none
none_found (Ok u) t p q = refl
none_found (Err f) t p q = let g = err_is t p in apart (cc)

module _ (T : Tables) (k : Counts) (sc out : List ℕ) (limit : ℕ) where
  pub tables_wrong : (w : ℕ) → w ≡ wrong (length T.nodes) (length T.references) (length T.bytes) (length out) limit (length sc) → (w ≡ 0 → ⊥) → dump_call_of (TurnedDown (BadTables w)) 0 sc out ≡ dump_call T k sc out limit
  unfolding dump_call dump_wrong dump_checked allowed refuse ◌>>=◌ next
  tables_wrong zero e n = absurd (n refl)
  tables_wrong (suc w) e n = ap (λ (x : ℕ). dump_checked T k sc out limit ((allowed x >>= λ _. sound (fault T k)) tt)) e

  module _ (w : ℕ) (e : w ≡ wrong (length T.nodes) (length T.references) (length T.bytes) (length out) limit (length sc)) (z : w ≡ 0) where
    after_tables : dump_checked T k sc out limit (sound (fault T k) tt) ≡ dump_call T k sc out limit
    unfolding dump_call dump_wrong allowed pure ◌>>=◌ next
    after_tables = ap (λ (x : ℕ). dump_checked T k sc out limit ((allowed x >>= λ _. sound (fault T k)) tt)) (sym z ∙ e)

    pub arena_wrong : (r : Result (Unit {0}) Fault) (t : Result (Unit {0}) Refusal) {q : Refusal} → Mapped r t → checked r ≡ fault T k → t ≡ Err q → dump_call_of (TurnedDown q) 0 sc out ≡ dump_call T k sc out limit
    unfolding dump_checked sound refuse
    arena_wrong (Ok u) t p c q = apart (cc)
    arena_wrong (Err f) t {q} p c e =
        let g = err_is t p in
        let i : q ≡ BadArena f = cc in
        rw i (ap (λ (o : Option Fault). dump_checked T k sc out limit (sound o tt)) c ∙ after_tables)

-- what is known past 1 and 2: x is the root as it was read
pub record Sound (no re by : List ℕ) (k : Counts) (sc out : List ℕ) (limit x : ℕ) : Type 0 where
  pub tables_right : 0 ≡ wrong (length no) (length re) (length by) (length out) limit (length sc)
  pub lengths : Allowed (length no) (length re) (length by) (length out) (length sc)
  pub arena_right : fault (tables_of no re by) k ≡ none
  pub root : x ≡ k.root

pub past : {no re by : List ℕ} {k : Counts} {sc out : List ℕ} {limit w x : ℕ} (r : Result (Unit {0}) Fault) (t : Result (Unit {0}) Refusal) {u : Unit {0}} → w ≡ wrong (length no) (length re) (length by) (length out) limit (length sc) → (w ≡ 0 → Allowed (length no) (length re) (length by) (length out) (length sc)) → w ≡ 0 → Mapped r t → checked r ≡ fault (tables_of no re by) k → t ≡ Ok u → x ≡ k.root → Sound no re by k sc out limit x
past r t e W z p f q x = record { tables_right = sym z ∙ e; lengths = W z; arena_right = sym f ∙ none_found r t p q; root = x }

-- ---- the start

marks_zeros : (n : ℕ) → marks (replicate n 0) ≡ 0
unfolding marks marked
marks_zeros zero = refl
marks_zeros (suc n) = omega (arith, marks_zeros n)

-- a table with all its entries cleared
all_zero : {z : List ℕ} (l l' : List ℕ) → z ≡ cleared 0 l' → length l' ≡ length l → z ≡ zeroed l
unfolding zeroed
all_zero l l' p e = p ∙ cleared_whole l' ∙ ap (λ (n : ℕ). replicate n 0) e

abbrev start : Written
start = record { bytes = []; symbols = []; objects = [] }

abbrev nothing : Progress
nothing = record { written = 0; symbols = 0; objects = 0 }

module _ {no re by : List ℕ} {k : Counts} {sc out : List ℕ} {limit x : ℕ} (S : Sound no re by k sc out limit x) where
  abbrev A : Arena
  A = arena (tables_of no re by) k

  fit : Fit (tables_of no re by) k
  fit = fault_fit (tables_of no re by) k S.arena_right

  lent : Lent A no by
  unfolding arena node
  lent = record {
    noded = record {
      nodes_small = S.lengths.nodes_small;
      nodes_fit = omega (arith, fit.nodes, fit.nodes_fit);
      row_at = λ i h. words_row k.nodes no i (omega (arith, fit.nodes));
    };
    bytes_fit = omega (arith, fit.bytes, fit.bytes_fit);
    bytes_same = ap (λ (n : ℕ). take n by) (sym fit.bytes);
    right = fault_right (tables_of no re by) k S.arena_right;
  }

  listed : Listed A re
  unfolding arena
  listed = record {
    references_small = S.lengths.references_small;
    references_fit = omega (arith, fit.references, fit.references_fit);
    references_same = ap (λ (n : ℕ). take n re) (sym fit.references);
  }

  root_below : x < length A.nodes
  root_below = omega (arith, S.root, fit.root_below, fit.nodes)

  root_here : x ≡ A.root
  unfolding arena
  root_here = S.root

  right_call : dump_done sc out (D.dump (length out) A limit) ≡ dump_call (tables_of no re by) k sc out limit
  unfolding dump_checked sound pure
  right_call =
      ap (λ (o : Option Fault). dump_checked (tables_of no re by) k sc out limit (sound o tt)) (sym S.arena_right)
      ∙ after_tables (tables_of no re by) k sc out limit 0 S.tables_right refl

  -- with scratch cleared and nothing written
  begins : {sc₁ : List ℕ} → sc₁ ≡ cleared 0 sc → Holds A (length out) start (buffers sc₁ out) nothing
  unfolding number_in word
  begins {sc₁} q =
      let p : sc₁ ≡ replicate (length sc) 0 = q ∙ cleared_whole sc in
      let ls : length sc₁ ≡ length sc = ap length p ∙ length-replicate (length sc) 0 in
      let room : length A.nodes ≤ length sc = omega (arith, S.lengths.scratch_fits, fit.nodes, fit.nodes_fit) in
      let blank : (i : ℕ) → i < length A.nodes → get_or sc₁ i 0 ≡ 0 = λ i l. ap (λ (t : List ℕ). get_or t i 0) p ∙ get_or-replicate (length sc) i 0 0 (omega arith) in
      record {
        small = S.lengths.output_small;
        sized = refl;
        fits = omega arith;
        same = refl;
        count_written = refl;
        count_symbols = refl;
        count_objects = refl;
        scratch_small = omega (arith, S.lengths.scratch_small);
        scratch_fits = omega arith;
        numbered = sym (ap marks p ∙ marks_zeros (length sc));
        symbol_words = λ i l h. blank i l;
        object_words = λ i l h. blank i l;
      }

  pub ready_start : {sc₁ : List ℕ} → sc₁ ≡ cleared 0 sc → Ready (λ A. Lent A no by × Listed A re × (x < length A.nodes)) (buffers sc₁ out) nothing
  ready_start p = record { arena = A; room = length out; state = start; fact = (lent, listed, root_below); holds = begins p }

-- ---- the header and the root

header_then : (room : ℕ) (rest : Writer) → write room (4 ∷ 8 ∷ []) >> rest ≡ write room (4 ∷ []) >> (write room (8 ∷ []) >> rest)
header_then room rest = ap (λ (w : Writer). w >> rest) (write_join room (4 ∷ []) (8 ∷ [])) ∙ assoc (write room (4 ∷ [])) (write room (8 ∷ [])) rest

module _ {A : Arena} {room limit : ℕ} {B B₁ : Buffers} {c c₁ : Progress} where
  pub no_first : {q : Stop} {s : Answer} → Passed s q → Meets A room limit (write room (4 ∷ [])) B c (Err q) B₁ c₁ → Meets A room limit (whole room A limit) B c s B₁ c₁
  no_first p m₁ = lead_as (header_then room (write_value room A limit limit A.root)) (lead_stop _ p (lead_first _ m₁).leads)

  module _ {B₂ : Buffers} {c₂ : Progress} {u₁ : Unit {0}} (m₁ : Meets A room limit (write room (4 ∷ [])) B c (Ok u₁) B₁ c₁) where
    pub no_second : {q : Stop} {s : Answer} → Passed s q → Meets A room limit (write room (8 ∷ [])) B₁ c₁ (Err q) B₂ c₂ → Meets A room limit (whole room A limit) B c s B₂ c₂
    no_second p m₂ = lead_as (header_then room (write_value room A limit limit A.root)) (lead_after (goes_first _ m₁.leads) (lead_stop _ p (lead_first _ m₂).leads))

    pub wholly : {B₃ : Buffers} {c₃ : Progress} {u₂ : Unit {0}} {r : Answer} {x : ℕ} → Meets A room limit (write room (8 ∷ [])) B₁ c₁ (Ok u₂) B₂ c₂ → x ≡ A.root → Meets A room limit (write_value room A limit limit x) B₂ c₂ r B₃ c₃ → Meets A room limit (whole room A limit) B c r B₃ c₃
    wholly m₂ q m₃ = lead_as (header_then room (write_value room A limit limit A.root)) (lead_after (goes_first _ m₁.leads) (lead_after (goes_first _ m₂.leads) (lead_as (ap (write_value room A limit limit) (sym q)) m₃)))

-- ---- the answer

-- the bytes written, and zeros after them
rest_zero : {z : List ℕ} (out out' bs : List ℕ) (n : ℕ) → z ≡ cleared n out' → n ≡ length bs → take (length bs) out' ≡ bs → length bs ≤ length out' → length out' ≡ length out → z ≡ padded out bs
unfolding padded
rest_zero out out' bs n p e q h l =
    p
    ∙ ap (λ (m : ℕ). cleared m out') e
    ∙ cleared_after (length bs) out' h
    ∙ λ i. q i ++ replicate (l i - length bs) 0

-- the root's writer answered r
module _ {no re by : List ℕ} {k : Counts} {sc out : List ℕ} {limit x : ℕ} {r : Answer} {sc₁ sc' out' : List ℕ} {c' : Progress} (S : Sound no re by k sc out limit x) (p : sc₁ ≡ cleared 0 sc) (m : (A : Arena) (room : ℕ) → Lent A no by → Listed A re → x < length A.nodes → x ≡ A.root → Meets A room limit (whole room A limit) (buffers sc₁ out) nothing r (buffers sc' out') c') where
  meets : {s : Answer} → r ≡ s → Meets (A S) (length out) limit (whole (length out) (A S) limit) (buffers sc₁ out) nothing s (buffers sc' out') c'
  meets e = subst (λ (s : Answer). Meets (A S) (length out) limit (whole (length out) (A S) limit) (buffers sc₁ out) nothing s (buffers sc' out') c') e (m (A S) (length out) (lent S) (listed S) (root_below S) (root_here S))

  wrote : {u : Unit {0}} → r ≡ Ok u → Went (A S) (length out) (whole (length out) (A S) limit start) (pure tt) (buffers sc' out') c'
  wrote e = (meets e).leads.goes start (begins S p)

  -- the place from which output is cleared
  pub written_fits : {u : Unit {0}} → r ≡ Ok u → c'.written ≤ length out'
  written_fits e = let H = (wrote e).holds in omega (arith, H.count_written, H.fits, H.sized)

  module _ {scz outz : List ℕ} (cleared-scratch : scz ≡ cleared 0 sc') (sc-length : length sc' ≡ length sc) where
    pub accepted : {u : Unit {0}} → r ≡ Ok u → outz ≡ cleared c'.written out' → dump_call_of Accepted c'.written scz outz ≡ dump_call (tables_of no re by) k sc out limit
    unfolding dump_done pure D.dump
    accepted z e =
        let s = (wrote z).state in
        let H = (wrote z).holds in
        let written = rest_zero out out' s.bytes c'.written e H.count_written H.same (omega (arith, H.fits, H.sized)) H.sized in
        (λ i. dump_call_of Accepted (H.count_written i) (all_zero sc sc' cleared-scratch sc-length i) (written i))
        ∙ sym (ap (dump_done sc out) (wrote z).same)
        ∙ right_call S

    pub turned_down : {q : Refusal} {stop : Stop} → r ≡ Err stop → q ≡ stopped limit stop → outz ≡ cleared 0 out' → length out' ≡ length out → dump_call_of (TurnedDown q) 0 scz outz ≡ dump_call (tables_of no re by) k sc out limit
    unfolding dump_done D.dump
    turned_down {q} n e o out-length =
        (λ i. dump_call_of (TurnedDown q) 0 (all_zero sc sc' cleared-scratch sc-length i) (all_zero out out' o out-length i))
        ∙ sym (ap (dump_done sc out) ((meets n).leads start (begins S p) ∙ ap refused (sym e)))
        ∙ right_call S
