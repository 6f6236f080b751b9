-- A load of an input beside a load of the same input with more bytes behind it, reader by reader.
use Prim.Native.Nat.{ℕ, zero, suc, ◌+◌, ◌-◌, ◌≤◌, ◌<◌}
use Rattle.std.specs.Prelude.{◌≡◌, Bool, List, ◌++◌, ltb, length, get_or}
use Rattle.std.proofs.Math.Path.{refl}
use Rattle.std.proofs.Math.Bool.{true, false}
use Rattle.std.proofs.Math.ListN.{get_or-append, length-append}
use Rattle.std.proofs.Math.Nat.{le_refl}
use Rattle.std.proofs.Common.{arith}
use borrow.Author.Tests.{ltb-true, ltb-false, lt-ltb, le-ltb, leb-true, leb-false, le-leb}
use Rattle.definition.specs.declared.Refusal.{Refusal}
use Rattle.definition.specs.declared.Refusal.TheVariants.{ShortInput}
use Rattle.definition.specs.Run.{Outcome, ok, refused, pure, refuse, next, ◌>>=◌, look, pick}
use Rattle.definition.specs.Arena.{range}
use Rattle.definition.specs.State.{State, Room, Reader, at_set, noted}
use Rattle.definition.specs.Load.{takes_variables, begin}
use Rattle.definition.specs.Load as L
use Rattle.lists.specs.Ranges.{range_none, range_more}
use Rattle.walk.specs.Walk.{Walk, raised_sum, whole}

-- ---- the relation

-- refused, or ended past offset n
pub data Past (n : ℕ) {A : Type 0} : Outcome State A → Type 0 where
  stopped : (r : Refusal) → Past n (refused r)
  ended : (a : A) (t : State) → n < t.at → Past n (ok a t)

-- what work from an offset on gives with n bytes, and what it gives with these and more: the same, and the offset doesn't go back; or SHORT-INPUT, and with more bytes it is refused or ends past the n bytes
pub data Alike (n start : ℕ) {A : Type 0} : Outcome State A → Outcome State A → Type 0 where
  same : (a : A) (t : State) → start ≤ t.at → Alike n start (ok a t) (ok a t)
  both : (r : Refusal) → Alike n start (refused r) (refused r)
  short : {o : Outcome State A} → Past n o → Alike n start (refused ShortInput) o

module _ (n : ℕ) {A : Type 0} where
  -- work from further on is work from here on
  sooner : {start later : ℕ} {o p : Outcome State A} → start ≤ later → Alike n later o p → Alike n start o p
  sooner h (same a t l) = same a t (omega arith)
  sooner h (both r) = both r
  sooner h (short x) = short x

  -- work from past n on ends past n
  still_past : (start : ℕ) {o p : Outcome State A} → n < start → Alike n start o p → Past n p
  still_past start h (same a t l) = ended a t (omega arith)
  still_past start h (both r) = stopped r
  still_past start h (short x) = x

  -- a test that doesn't look at the input
  tested : (start : ℕ) (b : Bool) (a : A) (t : State) (r : Refusal) → start ≤ t.at → Alike n start (pick b (ok a t) (refused r)) (pick b (ok a t) (refused r))
  unfolding pick
  tested start true a t r h = same a t h
  tested start false a t r h = both r

  -- the bytes wanted are there, and then with more bytes too; or they end past n
  bytes_there : (start : ℕ) (b b' : Bool) (a a' : A) (t : State) → start ≤ t.at → (b ≡ true → (b' ≡ true) × (a' ≡ a)) → (b ≡ false → n < t.at)
      → Alike n start (pick b (ok a t) (refused ShortInput)) (pick b' (ok a' t) (refused ShortInput))
  unfolding pick
  bytes_there start true b' a a' t h there missing = let (p, q) = there refl in rw (p, q) (same a t h)
  bytes_there start false true a a' t h there missing = short (ended a' t (missing refl))
  bytes_there start false false a a' t h there missing = both ShortInput

module _ (n : ℕ) {A B : Type 0} (f g : A → Reader B) (k : (a : A) (t : State) → Alike n t.at (f a t) (g a t)) where
  past_next : {o : Outcome State A} → Past n o → Past n (next o g)
  unfolding next
  past_next (stopped r) = stopped r
  past_next (ended a t h) = still_past n t.at h (k a t)

  alike_next : (start : ℕ) {o p : Outcome State A} → Alike n start o p → Alike n start (next o f) (next p g)
  unfolding next
  alike_next start (same a t h) = sooner n h (k a t)
  alike_next start (both r) = both r
  alike_next start (short x) = short (past_next x)

-- ---- readers

-- m with n bytes, m' with these and more, from any state
pub record GoesOn (n : ℕ) (A : Type 0) (m m' : Reader A) : Type 0 where
  pub alike : (s : State) → Alike n s.at (m s) (m' s)

-- what readers are made of keeps the relation
module _ {n : ℕ} {A : Type 0} where
  then : {B : Type 0} {m m' : Reader A} {f g : A → Reader B} → GoesOn n A m m' → ((a : A) → GoesOn n B (f a) (g a)) → GoesOn n B (m >>= f) (m' >>= g)
  unfolding ◌>>=◌
  then {f = f} {g = g} x k = record { alike = λ s. alike_next n f g (λ a t. (k a).alike t) s.at (x.alike s) }

  give : (a : A) → GoesOn n A (pure a) (pure a)
  unfolding pure
  give a = record { alike = λ s. same a s (le_refl s.at) }

  stop : (r : Refusal) → GoesOn n A (refuse r) (refuse r)
  unfolding refuse
  stop r = record { alike = λ s. both r }

  looking : {f g : State → Reader A} → ((s : State) → GoesOn n A (f s) (g s)) → GoesOn n A (look f) (look g)
  unfolding look
  looking k = record { alike = λ s. (k s).alike s }

  -- a step that leaves the offset, and one that tests something else than the input
  step : (a : State → A) (t : State → State) → ((s : State) → s.at ≤ (t s).at) → GoesOn n A (λ s. ok (a s) (t s)) (λ s. ok (a s) (t s))
  step a t h = record { alike = λ s. same (a s) (t s) (h s) }

  test : (b : State → Bool) (a : State → A) (t : State → State) (r : Refusal) → ((s : State) → s.at ≤ (t s).at)
      → GoesOn n A (λ s. pick (b s) (ok (a s) (t s)) (refused r)) (λ s. pick (b s) (ok (a s) (t s)) (refused r))
  test b a t r h = record { alike = λ s. tested n s.at (b s) (a s) (t s) r (h s) }

-- ---- the input, and more behind it

range_on : (l m : List ℕ) (a k : ℕ) → k ≤ length l - a → range (l ++ m) a k ≡ range l a k
range_on l m a zero h = rw (range_none (l ++ m) a, range_none l a)
range_on l m a (suc k) h = range_more l m a (suc k) (omega arith)

-- before an I's value its kind byte is noted
abbrev ahead_noted : List ℕ → State → State
ahead_noted input s = noted (takes_variables (get_or input s.at 0)) s

module _ (input more : List ℕ) where
  abbrev n : ℕ
  n = length input

  abbrev all : List ℕ
  all = input ++ more

  read_byte : GoesOn n ℕ (L.read_byte input) (L.read_byte all)
  unfolding L.read_byte
  read_byte = record {
    alike = λ s. bytes_there n s.at _ _ _ _ (at_set (s.at + 1) s) (omega arith)
        (λ e. let h = ltb-true s.at n e in (lt-ltb s.at (length all) (omega (arith, length-append input more)), get_or-append input more 0 s.at h))
        (λ e. omega (arith, ltb-false s.at n e));
  }

  read_bytes : (k : ℕ) → GoesOn n (List ℕ) (L.read_bytes input k) (L.read_bytes all k)
  unfolding L.read_bytes
  read_bytes k = record {
    alike = λ s. bytes_there n s.at _ _ _ _ (at_set (s.at + k) s) (omega arith)
        (λ e. let h = leb-true k (n - s.at) e in (le-leb k (length all - s.at) (omega (arith, length-append input more)), range_on input more s.at k h))
        (λ e. omega (arith, leb-false k (n - s.at) e));
  }

  -- two readers of a member: where the n bytes end, v answers alike from every state
  record Inner (v w : Reader ℕ) : Type 0 where
    plain : GoesOn n ℕ v w
    at_end : (s t : State) → n ≤ s.at → n ≤ t.at → v s ≡ v t

  module _ {v w : Reader ℕ} (inner : Inner v w) where
    -- the byte noted is one of the n, or v has none left
    noted_inner : (s : State) → Alike n s.at (v (ahead_noted input s)) (w (ahead_noted all s))
    noted_inner s = go (ltb s.at n) refl
      where
        go : (b : Bool) → ltb s.at n ≡ b → Alike n s.at (v (ahead_noted input s)) (w (ahead_noted all s))
        go true e = rw (get_or-append input more 0 s.at (ltb-true s.at n e)) (inner.plain.alike (ahead_noted input s))
        go false e = let h = ltb-false s.at n e in rw (inner.at_end (ahead_noted input s) (ahead_noted all s) h h) (inner.plain.alike (ahead_noted all s))

    ahead : {A : Type 0} {f g : ℕ → Reader A} → ((h : ℕ) → GoesOn n A (f h) (g h))
        → GoesOn n A (look λ s. L.note (takes_variables (get_or input s.at 0)) >>= λ _. v >>= f) (look λ s. L.note (takes_variables (get_or all s.at 0)) >>= λ _. w >>= g)
    unfolding L.note look ◌>>=◌ next
    ahead {f = f} {g = g} k = record { alike = λ s. alike_next n f g (λ h t. (k h).alike t) s.at (noted_inner s) }

  module _ (room : Room) (limit : ℕ) where
    -- SHORT-INPUT, or TOO-DEEP with no level left
    value_at_end : (levels : ℕ) (s t : State) → n ≤ s.at → n ≤ t.at → L.read_value input room limit levels s ≡ L.read_value input room limit levels t
    unfolding L.read_value L.read_byte refuse ◌>>=◌ pick
    value_at_end zero s t h k = refl
    value_at_end (suc levels) s t h k = rw (le-ltb s.at n h, le-ltb t.at n k)

    walk : Walk (GoesOn n) Inner input all room room limit limit 0
    unfolding L.note L.compare L.fill L.put_reference L.entry L.add_node L.reserve L.add_bytes L.add_symbol L.add_object L.read_value
    walk = record {
      then = then;
      give = give;
      stop = stop;
      looking = looking;
      note = λ b. step _ _ (λ s. le_refl s.at);
      compare = λ k. step _ _ (λ s. le_refl s.at);
      fill = λ i r. step _ _ (λ s. le_refl s.at);
      put_reference = λ i v. step _ _ (λ s. le_refl s.at);
      entry = λ l i r. test _ _ _ _ (λ s. le_refl s.at);
      read_byte = read_byte;
      read_bytes = read_bytes;
      add_node = λ r. test _ _ _ _ (λ s. le_refl s.at);
      reserve = λ k. test _ _ _ _ (λ s. le_refl s.at);
      add_bytes = λ bs. test _ _ _ _ (λ s. le_refl s.at);
      add_symbol = λ h. test _ _ _ _ (λ s. le_refl s.at);
      add_object = λ h. test _ _ _ _ (λ s. le_refl s.at);
      deep = stop _;
      plain = λ x. x.plain;
      ahead = λ x k. ahead x k;
      value = λ levels x. record { plain = x; at_end = value_at_end levels };
    }

    -- the header and the root value
    pub load : Alike n 0 (L.load input room limit) (L.load all room limit)
    unfolding L.load
    load = (whole walk (omega (arith, raised_sum 0 limit))).alike begin
