-- The whole load: what is held at the start, and what stands at the end.
use Rattle.std.specs.Prelude as code
use Rattle.std.specs.Prelude.{Result, Ok, Err, Some, None, IfSome, is_some, unwrap_or}
use Rattle.reader.specs.declared.Stop.{Stop}
use Prim.Native.Nat.{ℕ, zero, suc, ◌-◌, ◌*◌, ◌/◌, ◌≤◌, ◌<◌}
use native.Mathlib.Omega.{arith}
use mathlib.Core.Path.{◌≡◌, refl, sym, ap, ◌∙◌, subst}
use mathlib.Core.Bool.{Bool, true, false}
use mathlib.Core.List.{List, [], ◌∷◌, ◌++◌}
use mathlib.Core.Logic.{◌⊎◌, inl, inr}
use lib.Dec.{leb, ltb}
use lib.ListN.{length, replicate, take, drop, length-drop, length-replicate, drop_of_length-le}
use lib.Seq.{sets, take_all}
use borrow.Author.Tests.{leb-true, leb-false, ltb-false}
use Rattle.definition.specs.Run.{pure, pick}
use Rattle.definition.specs.Node.{nil, kind, words, flat, width}
use Rattle.definition.specs.Arena.{named, find_symbol, zeroed, lowest, too_long, counts_of}
use Rattle.definition.specs.Buckets.{Buckets, searches, empty}
use Rattle.definition.specs.Load.{Lists, lists, counts_left, load_answer, begin, load, room_of, load_tests, load_wrong, load_done, load_if, load_call, load_call_of}
use Rattle.definition.specs.LoadMeasured.{measured_answer, measured_done, measured_if, measured_call, measured_call_of}
use Rattle.definition.specs.LoadHashed.{hashed_answer, hash_at, words_looked, bad_buckets, hashed_wrong, hashed_done, hashed_if, hashed_call, hashed_call_of}
use Rattle.definition.specs.Reader.{load_next}
use Rattle.definition.specs.Hashes.{last_passes}
use Rattle.definition.specs.Arena as A
use Rattle.definition.specs.declared.Refusal.TheVariants.{BadTables}
use Rattle.definition.specs.declared.Refusal.{Refusal}
use Rattle.definition.specs.Refused.{Refused}
use Rattle.definition.specs.Slice.{greatest_length}
use Rattle.lists.specs.Joined.{or_none}
use Rattle.lists.specs.Slices.{short}
use Rattle.lists.specs.Offsets.{next_allowed, next_denied}
use Rattle.lists.specs.Words.{length_flat}
use Rattle.store.specs.Laws.{cleared, cleared_whole}
use Rattle.reader.specs.Answers.{refusal_at, nil_left}
use Rattle.load_state.specs.declared.Progress.{Progress}
use Rattle.load_state.specs.Holds.{lent, by_buckets, Begins, Holds, Held, Meets, AllFit, Interned, Hashing, hashes, find_listed, symbols_in, risen}
use Rattle.loader.specs.Lengths.{Allowed, wrong}
use Rattle.load_state.specs.Stores.{none, push, padded}
use Rattle.value_reader.specs.Root.{whole}
use Rattle.load.specs.Call.{load_of, measured_of, hashed_of, loaded_as, counted_as}
use Rattle.load.specs.declared.Counted.{Counted}
use Rattle.load_state.specs.Names.{nil_plain, untrue}

-- ---- zeros

pub lists_same : {a b c d e a' b' c' d' e' : List ℕ} → a ≡ a' → b ≡ b' → c ≡ c' → d ≡ d' → e ≡ e' → lists a b c d e ≡ lists a' b' c' d' e'
lists_same p q r s t = λ i. lists (p i) (q i) (r i) (s i) (t i)

-- a table of a known length with zeros from its first entry on
pub emptied : {t' : List ℕ} (t t₀ : List ℕ) → t' ≡ cleared 0 t → length t ≡ length t₀ → t' ≡ zeroed t₀
unfolding zeroed
emptied t t₀ e l = e ∙ cleared_whole t ∙ ap (λ (n : ℕ). replicate n 0) l

-- ---- the start

-- the bytes compared are counted from k on, or not; there is room for n nodes
abbrev pub first_counts : code.Option ℕ → ℕ → Progress
first_counts k n = record { at = 0; nodes = 1; references = 0; bytes = 0; symbols = 0; objects = 0; form = true; compared = k; looked = 0; room = n }

first_fit : AllFit 0 (nil ∷ [])
first_fit zero l = λ p. absurd (nil_plain p)
first_fit (suc i) l = absurd (omega arith)

first_symbols : Interned [] (nil ∷ []) []
unfolding find_symbol find_listed symbols_in risen named kind pick
first_symbols = record { symbolic = λ i l. absurd (omega arith); names = λ name. refl; ascending = refl }

abbrev pub Fine : List ℕ → Lists → Bool → Type 0
Fine input T t = Allowed (length T.nodes) (length T.references) (length T.bytes) (length T.symbols) (length T.objects) (length input) t

-- no bucket table, or one of which it is told whether it is wrong, and then nothing is counted
abbrev pub Bucketed : Lists → List ℕ → code.Option ℕ → Bool → Type 0
Bucketed T B k t = ((length B ≡ 0) × (t ≡ false)) ⊎ ((k ≡ None) × (t ≡ bad_buckets (length T.nodes / width) (length B)))

-- a bucket table that is not wrong
right_buckets : (n m : ℕ) → bad_buckets n m ≡ false → (n ≤ m) × (m ≤ greatest_length)
unfolding bad_buckets
right_buckets n m e = let (a, b) = or_none (ltb m n) (too_long m) e in (ltb-false m n a, short m b)

module _ (input : List ℕ) (T : Lists) (B : List ℕ) (k : code.Option ℕ) (t : Bool) (F : Fine input T t) (l : IfSome k (λ n. n ≡ 0)) (d : Bucketed T B k t) {no B₁ : List ℕ} (e : no ≡ sets T.nodes 0 (0 ∷ 0 ∷ 0 ∷ 0 ∷ 0 ∷ 0 ∷ 0 ∷ 0 ∷ [])) (z : B₁ ≡ zeroed B) where
  first_node : Begins (length T.nodes) (flat (nil ∷ [])) no
  unfolding flat words
  first_node = rw e (push (0 ∷ 0 ∷ 0 ∷ 0 ∷ 0 ∷ 0 ∷ 0 ∷ 0 ∷ []) (none T.nodes refl) (omega (arith, F.whole, F.one)))

  same_size : length B₁ ≡ length B
  unfolding zeroed
  same_size = ap length z ∙ length-replicate (length B) 0

  first_buckets : (B₁ ≡ [] → ⊥) → Hashing (length T.nodes / width) [] (nil ∷ []) [] B₁ 0 (is_some k)
  unfolding searches zeroed
  first_buckets b = go d
    where
      go : Bucketed T B k t → Hashing (length T.nodes / width) [] (nil ∷ []) [] B₁ 0 (is_some k)
      go (inl (u, _)) = absurd (b (z ∙ ap (λ (n : ℕ). replicate n 0) u))
      go (inr (u, r)) =
          let (g, h) = right_buckets (length T.nodes / width) (length B) (sym r ∙ F.buckets_right) in
          record {
            enough = omega (arith, g, same_size);
            short = omega (arith, h, same_size);
            filled = ap (λ (ws : List ℕ). record { words = ws; looked = 0 }) (ap (λ (n : ℕ). replicate n 0) same_size ∙ sym z);
            unique = λ i j a. absurd (omega arith);
            nonzero = λ i a. absurd (omega arith);
            one = omega arith;
            uncounted = ap is_some u;
          }

  begins : Holds input (room_of T) begin (lent no T.references T.bytes (by_buckets T.symbols B₁) T.objects) (first_counts k (length T.nodes / width))
  unfolding room_of
  begins = record {
    fixed = record { small = record { nodes = omega (arith, F.nodes_small, F.whole); references = F.references_small; bytes = F.bytes_small; symbols = F.symbols_small; objects = F.objects_small }; short = F.input_small; count_space = refl };
    laid = record { nodes = subst (λ (n : ℕ). Begins n (flat (nil ∷ [])) no) (sym F.whole) first_node; references = none T.references refl; bytes = none T.bytes refl; symbols = none T.symbols refl; objects = none T.objects refl };
    counted = record { count_at = refl; inside = omega arith; count_nodes = refl; room_nodes = F.one; count_references = refl; count_bytes = refl; count_symbols = refl; count_objects = refl };
    noted = record { form = refl; counted = l; copied = refl; compared = omega arith };
    known = record { below = λ i l. absurd (omega arith); entries = λ i l. absurd (omega arith); fit = first_fit; names = λ _. record { interned = first_symbols; hashed = first_buckets } };
  }

  pub held_begin : Held input (lent no T.references T.bytes (by_buckets T.symbols B₁) T.objects) (first_counts k (length T.nodes / width))
  held_begin = record { room = room_of T; state = begin; holds = begins }

-- ---- the call

counted_number : {n : ℕ} (o : code.Option ℕ) → is_some o ≡ true → IfSome o (λ k. k ≡ n) → unwrap_or o 0 ≡ n
counted_number None e f = untrue e
counted_number (Some k) e f = f

module _ (input : List ℕ) (T : Lists) (B : List ℕ) (limit : ℕ) (k : code.Option ℕ) (t : Bool) where
  abbrev bad : ℕ
  bad = wrong (length T.nodes) (length T.references) (length T.bytes) (length T.symbols) (length T.objects) limit (length input) t

  -- what an answer and all lent are to each of the three loads
  abbrev pub Answers : Result Counted Refusal → Lists → List ℕ → Type 0
  Answers r T' B' =
      (t ≡ false → load_call_of (load_of r) T' ≡ load_call input T limit)
      × (t ≡ false → k ≡ Some 0 → measured_call_of (measured_of r) T' ≡ measured_call input T limit)
      × (t ≡ bad_buckets (length T.nodes / width) (length B) → hashed_call_of (hashed_of r) T' B' ≡ hashed_call input T B limit)

  plain_wrong : t ≡ false → bad ≡ load_wrong input T limit
  unfolding load_wrong
  plain_wrong f = ap (λ (b : Bool). lowest (load_tests input T limit ++ ((11, b) ∷ []))) f ∙ last_passes (load_tests input T limit) 11

  hash_wrong : t ≡ bad_buckets (length T.nodes / width) (length B) → bad ≡ hashed_wrong input T B limit
  unfolding hashed_wrong
  hash_wrong f = ap (λ (b : Bool). lowest (load_tests input T limit ++ ((11, b) ∷ []))) f

  pub not_taken : (w : ℕ) → w ≡ bad → (w ≡ 0 → ⊥) → Answers (Err (BadTables w)) T B
  unfolding load_call measured_call hashed_call load_if measured_if hashed_if load_answer measured_answer hashed_answer counts_left
  not_taken zero e n = absurd (n refl)
  not_taken (suc w) e n = (
    λ f. ap (λ (i : ℕ). load_if i input T limit) (e ∙ plain_wrong f),
    λ f _. ap (λ (i : ℕ). measured_if i input T limit) (e ∙ plain_wrong f),
    λ f. ap (λ (i : ℕ). hashed_if i input T B limit) (e ∙ hash_wrong f),
  )

  -- nothing is wrong: what the loads come to
  taken : (w : ℕ) → w ≡ bad → w ≡ 0 → (t ≡ false → (load_done T (load input (room_of T) limit) ≡ load_call input T limit) × (measured_done T (load input (room_of T) limit) ≡ measured_call input T limit)) × (t ≡ bad_buckets (length T.nodes / width) (length B) → hashed_done T B (load input (room_of T) limit) ≡ hashed_call input T B limit)
  unfolding load_call measured_call hashed_call load_if measured_if hashed_if
  taken w e z = (
    λ f. (ap (λ (i : ℕ). load_if i input T limit) (sym z ∙ e ∙ plain_wrong f), ap (λ (i : ℕ). measured_if i input T limit) (sym z ∙ e ∙ plain_wrong f)),
    λ f. ap (λ (i : ℕ). hashed_if i input T B limit) (sym z ∙ e ∙ hash_wrong f),
  )

  module _ (w : ℕ) (e : w ≡ bad) (z : w ≡ 0) (F : Fine input T t) (l : IfSome k (λ n. n ≡ 0)) (d : Bucketed T B k t) {no₁ B₁ : List ℕ} (first : no₁ ≡ sets T.nodes 0 (0 ∷ 0 ∷ 0 ∷ 0 ∷ 0 ∷ 0 ∷ 0 ∷ 0 ∷ [])) (zeros : B₁ ≡ zeroed B) where
    pub loaded : {no re by sy B₂ ob : List ℕ} {c : Progress} {h : ℕ} → Meets input (room_of T) limit (whole input (room_of T) limit) (lent no₁ T.references T.bytes (by_buckets T.symbols B₁) T.objects) (first_counts k (length T.nodes / width)) (Ok h) (lent no re by (by_buckets sy B₂) ob) c → {no' re' by' sy' ob' B' : List ℕ} {x : ℕ} → x ≡ unwrap_or c.compared 0 → no' ≡ cleared (c.nodes * width) no → re' ≡ cleared c.references re → by' ≡ cleared c.bytes by → sy' ≡ zeroed T.symbols → ob' ≡ zeroed T.objects → B' ≡ zeroed B → length B₂ ≡ length B
        → Answers (Ok (counted_as (loaded_as c.nodes c.references c.bytes h c.at c.form) c.bytes x c.looked)) (lists no' re' by' sy' ob') B'
    unfolding load load_done measured_done hashed_done words_looked hash_at pure A.padded room_of load_answer measured_answer hashed_answer
    loaded {c = c} {h} m n p q r u v a b =
        let G = m.led in
        let y = G.goes begin (begins input T B k t F l d first zeros) in
        let H = y.holds in
        let s = y.state in
        let nodes = padded (c.nodes * width) H.laid.nodes (ap (λ (n : ℕ). n * width) H.counted.count_nodes ∙ sym (length_flat s.nodes)) p ∙ ap (λ (n : ℕ). flat s.nodes ++ replicate (n - length (flat s.nodes)) 0) F.whole in
        let tables = lists_same nodes (padded c.references H.laid.references H.counted.count_references q) (padded c.bytes H.laid.bytes H.counted.count_bytes r) u v in
        let done = taken w e z in
        let answer : loaded_as c.nodes c.references c.bytes h c.at c.form ≡ loaded_as (length s.nodes) (length s.references) (length s.bytes) h s.at s.notes.form = (λ i. loaded_as (H.counted.count_nodes i) (H.counted.count_references i) (H.counted.count_bytes i) h (H.counted.count_at i) (H.noted.form i)) in (
          λ f. (λ i. load_call_of (load_answer (Ok (answer i))) (tables i)) ∙ sym (ap (λ o. load_done T o) y.same) ∙ (done.0 f).0,
          λ f one.
              let j : _ ≡ s.notes.compared = n ∙ counted_number c.compared (G.counts ∙ ap is_some one) H.noted.counted in
              (λ i. measured_call_of (measured_answer (Ok (record { load = answer i; copied = (H.counted.count_bytes ∙ sym H.noted.copied) i; compared = j i }))) (tables i)) ∙ sym (ap (λ o. measured_done T o) y.same) ∙ (done.0 f).1,
          λ f.
              let (o, _) = right_buckets (length T.nodes / width) (length B) (sym f ∙ F.buckets_right) in
              let Z = (H.known.names refl).hashed (λ i. omega (arith, ap length i, b, o, F.one)) in
              let j : c.looked ≡ (searches (hashes s.bytes s.nodes) s.symbols (empty (length B))).looked = sym (ap (λ (i : Buckets). i.looked) Z.filled) ∙ ap (λ (i : ℕ). (searches (hashes s.bytes s.nodes) s.symbols (empty i)).looked) b in
              (λ i. hashed_call_of (hashed_answer (Ok (record { load = answer i; looked = j i }))) (tables i) (a i)) ∙ sym (ap (λ o. hashed_done T B o) y.same) ∙ done.1 f,
        )

    pub load_refused : {no re by sy B₂ ob : List ℕ} {c : Progress} {s : Stop} → Meets input (room_of T) limit (whole input (room_of T) limit) (lent no₁ T.references T.bytes (by_buckets T.symbols B₁) T.objects) (first_counts k (length T.nodes / width)) (Err s) (lent no re by (by_buckets sy B₂) ob) c → {T' : Lists} {B' : List ℕ} {q : Refusal} → q ≡ refusal_at limit s.code → T' ≡ lists (zeroed T.nodes) (zeroed T.references) (zeroed T.bytes) (zeroed T.symbols) (zeroed T.objects) → B' ≡ zeroed B → Answers (Err q) T' B'
    unfolding load load_done measured_done hashed_done load_answer measured_answer hashed_answer
    load_refused {s = s} m {q = q} u v a =
        let y = m.led.refuses begin (begins input T B k t F l d first zeros) in
        let x : load_answer (Err q) ≡ record { answer = Refused (refusal_at limit s.code); counts = counts_of 1 0 0 0; used = 0; form = false } =
        (λ i. record { answer = Refused (u i); counts = (ap counts_left u ∙ nil_left limit s.code) i; used = 0; form = false }) in
        let done = taken w e z in (
          λ n. (λ i. load_call_of (x i) (v i)) ∙ sym (ap (λ o. load_done T o) y) ∙ (done.0 n).0,
          λ n _. (λ i. measured_call_of (record { load = x i; copied = 0; compared = 0 }) (v i)) ∙ sym (ap (λ o. measured_done T o) y) ∙ (done.0 n).1,
          λ n. (λ i. hashed_call_of (record { load = x i; looked = 0 }) (v i) (a i)) ∙ sym (ap (λ o. hashed_done T B o) y) ∙ done.1 n,
        )

-- ---- at an offset

-- what is passed on of an input is what stands at the offset, past the end nothing
rest_at : (input : List ℕ) (at from : ℕ) → (from ≤ length input) × (at ≤ length input → from ≡ at) × (length input < at → from ≡ length input) → take (length input - from) (drop from input) ≡ drop at input
rest_at input at from i = take_all (length input - from) (drop from input) (simp length-drop (omega arith)) ∙ go (leb at (length input)) refl
  where
    go : (t : Bool) → leb at (length input) ≡ t → drop from input ≡ drop at input
    go true e = ap (λ (k : ℕ). drop k input) (i.1 (leb-true _ _ e))
    go false e =
        let l : length input < at = leb-false _ _ e in
        ap (λ (k : ℕ). drop k input) (i.2 l) ∙ drop_of_length-le input {i = length input} (omega arith) ∙ sym (drop_of_length-le input {i = at} (omega (arith, l)))

-- a load from there is the load at the offset
pub loaded_at : (input : List ℕ) (at from : ℕ) (T : Lists) (limit : ℕ) → (from ≤ length input) × (greatest_length < length input → from ≡ 0) × (length input ≤ greatest_length → (at ≤ length input → from ≡ at) × (length input < at → from ≡ length input)) → load_call (take (length input - from) (drop from input)) T limit ≡ load_next input at T limit
loaded_at input at from T limit i = go (leb (length input) greatest_length) refl
  where
    go : (t : Bool) → leb (length input) greatest_length ≡ t → load_call (take (length input - from) (drop from input)) T limit ≡ load_next input at T limit
    go true e =
        let l = leb-true _ _ e in
        ap (λ (x : List ℕ). load_call x T limit) (rest_at input at from (i.0, (i.2 l).0, (i.2 l).1)) ∙ sym (next_allowed input at T limit l)
    go false e =
        let l = leb-false _ _ e in
        let z : from ≡ 0 = i.1 l in
        ap (λ (x : List ℕ). load_call x T limit) (take_all (length input - from) (drop from input) (simp length-drop (omega arith)) ∙ ap (λ (k : ℕ). drop k input) z) ∙ sym (next_denied input at T limit l)
