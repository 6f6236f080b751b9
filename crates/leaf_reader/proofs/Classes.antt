-- A class before a value: whether one comes, its name, and the kind byte after it.
use Prim.Native.Nat.{ℕ, zero, suc, ◌+◌, ◌≤◌, ◌<◌}
use native.Mathlib.Omega.{arith}
use mathlib.Core.Path.{◌≡◌, refl, sym, ap, ◌∙◌}
use mathlib.Core.Bool.{Bool, true, false, ◌||◌}
use mathlib.Core.Logic.{◌⊎◌, inl, inr}
use mathlib.Core.List.{List}
use lib.Dec.{eqb, ltb}
use lib.ListN.{length, get_or, get_or-eq_default}
use borrow.Author.Tests.{eq-eqb, ne_eqb, eqb-true, lt-ltb, le-ltb, ltb-false}
use Rattle.definition.specs.Run.{pure, refuse, next, pick, look, ◌>>=◌}
use Rattle.definition.specs.Kind.{STRING, ARRAY, HASH, HASH_DEFAULT, USER_CLASS}
use Rattle.definition.specs.State.{Room, State, Reader, at_set}
use Rattle.definition.specs.Load.{read_byte, read_symbol_like, read_string, read_array, read_hash, read_wrapped, read_user_class, value_of, head}
use Rattle.definition.specs.declared.Refusal.TheVariants.{ShortInput, NotWrappable}
use Rattle.reader.specs.Answers.{refusal_at, stop, at_short}
use Rattle.std.specs.Prelude.{Ok, Err}
use Rattle.reader.specs.declared.Stop.{Stop}
use Rattle.load_state.specs.declared.Progress.{Progress}
use Rattle.load_state.specs.Holds.{Lent, Goes, Leads, Meets}
use Rattle.load_state.specs.Laws.{still, given, goes_first, lead_after, refuses, bind_assoc}
use Rattle.load_state.specs.Names.{untrue}
use Rattle.input_reader.proofs.Input.{byte_goes}
use Rattle.leaf_reader.specs.Classes.{wrappable, wrapping, named_class, read_class, valued, Follows}

-- past the input there is no `C`
pub none_past : (input : List ℕ) (at : ℕ) → length input ≤ at → get_or input at 0 ≡ USER_CLASS → ⊥
none_past input at l e = omega (arith, e, get_or-eq_default input 0 {n = at} l)

module _ {input : List ℕ} {room : Room} {T : Lent} {c : Progress} where
  -- another byte comes next: no class
  pub no_class : {limit : ℕ} → (get_or input c.at 0 ≡ USER_CLASS → ⊥) → Meets input room limit (read_class input room) T c (Ok 0) T c
  unfolding read_class look pick
  no_class n = given (still λ s H. let k : c.at ≡ s.at = H.counted.count_at in simp (← k, ne_eqb _ _ n))

  -- `C` comes next
  pub a_class : get_or input c.at 0 ≡ USER_CLASS → Goes input room (read_class input room) T c (named_class input room) T c
  unfolding read_class look pick
  a_class e = still λ s H. let k : c.at ≡ s.at = H.counted.count_at in simp (← k, eq-eqb _ _ e)

  -- and is passed
  pub class_passed : c.at < length input → Goes input room (named_class input room) T c (read_symbol_like input room >>= wrapping input) T (record c { at = c.at + 1 })
  unfolding named_class
  class_passed l = goes_first _ (byte_goes l)

  module _ {limit : ℕ} (n : ℕ) where
    -- no byte after the name
    pub wrapped_missing : {m' : ℕ → Reader ℕ} {T' : Lent} {c' : Progress} → length input ≤ c.at → Leads input room limit (wrapping input n) m' T c (Err (stop 4 0)) T' c'
    unfolding wrapping look pick
    wrapped_missing l =
        lead_after {T = T} {c = c} (still λ s H. let k : c.at ≡ s.at = H.counted.count_at in simp (← k, le-ltb _ _ l)) (refuses ShortInput (at_short limit))

    -- one that can have no class
    pub wrapped_other : {m' : ℕ → Reader ℕ} {T' : Lent} {c' : Progress} {q : Stop} → c.at < length input → refusal_at limit q.code ≡ NotWrappable (get_or input c.at 0) → wrappable (get_or input c.at 0) ≡ false → Leads input room limit (wrapping input n) m' T c (Err q) T' c'
    unfolding wrapping look pick
    wrapped_other l b e =
        lead_after {T = T} {c = c} (still λ s H. let k : c.at ≡ s.at = H.counted.count_at in simp (← k, lt-ltb _ _ l, e))
        (refuses (NotWrappable (get_or input c.at 0)) b)

    -- one that can
    pub wrapped_right : c.at < length input → wrappable (get_or input c.at 0) ≡ true → Meets input room limit (wrapping input n) T c (Ok (n + 1)) T c
    unfolding wrapping look pick
    wrapped_right l e =
        let z : suc n ≡ n + 1 = omega arith in
        given (still λ s H. let k : c.at ≡ s.at = H.counted.count_at in simp (← k, lt-ltb _ _ l, e, z))

-- the kind byte after a class, and after none
pub follows_one : (n : ℕ) {k : ℕ} → wrappable k ≡ true → Follows (n + 1) k
follows_one n e = record { none = λ z. absurd (omega arith); one = λ _. e }

pub follows_none : {k : ℕ} → (k ≡ USER_CLASS → ⊥) → Follows 0 k
follows_none n = record { none = λ _. n; one = λ z. absurd (z refl) }

-- ---- a value read with its class

-- which of four is told where none of the tests holds
last_of_four : {A : Type 0} (a b c d : Bool) (p q r t u : A) → (a || b || c || d) ≡ false → pick a p (pick b q (pick c r (pick d t u))) ≡ u
unfolding pick
last_of_four false false false false p q r t u e = refl
last_of_four false false false true p q r t u e = untrue (sym e)
last_of_four false false true d p q r t u e = untrue (sym e)
last_of_four false true c d p q r t u e = untrue (sym e)
last_of_four true b c d p q r t u e = untrue (sym e)

module _ (input : List ℕ) (room : Room) (inner : Reader ℕ) where
  -- the kind byte, and the value with this class
  abbrev pub kinded : ℕ → Reader ℕ
  kinded w = read_byte input >>= λ k. valued input room inner k w

  -- the byte at the offset
  abbrev byte : State → ℕ
  byte s = get_or input s.at 0

  -- after the name the kind byte is looked at, or read
  wrapped_same : (c : ℕ) (s : State) → (read_byte input >>= λ k. read_wrapped input room inner k (suc c)) s ≡ (wrapping input c >>= kinded) s
  unfolding wrapping look read_byte valued ◌>>=◌ next pure refuse pick wrappable read_wrapped
  wrapped_same c s = go (ltb s.at (length input)) refl (wrappable (byte s)) refl
    where
      go : (t : Bool) → ltb s.at (length input) ≡ t → (u : Bool) → wrappable (byte s) ≡ u → (read_byte input >>= λ k. read_wrapped input room inner k (suc c)) s ≡ (wrapping input c >>= kinded) s
      go false e u f = rw e refl
      go true e true f = rw (e, f) (rw e refl)
      go true e false f =
          rw (e, f)
          (ap (λ (m : Reader ℕ). m (at_set (s.at + 1) s))
          (last_of_four (eqb (byte s) STRING) (eqb (byte s) ARRAY) (eqb (byte s) HASH) (eqb (byte s) HASH_DEFAULT) (read_string input room (suc c)) (read_array input room inner (suc c)) (read_hash false input room inner (suc c)) (read_hash true input room inner (suc c)) (refuse (NotWrappable (byte s))) f))

  -- a byte that is there is read
  one_read : (g : ℕ → Reader ℕ) (s : State) → ltb s.at (length input) ≡ true → (read_byte input >>= g) s ≡ g (byte s) (at_set (s.at + 1) s)
  unfolding read_byte ◌>>=◌ next pick
  one_read g s e = rw e refl

  -- `C` is a class
  is_class : {k : ℕ} → k ≡ USER_CLASS → value_of input room inner k (head k) ≡ read_user_class input room inner
  unfolding head pick value_of
  is_class e = rw e refl

  class_there : (s : State) → ltb s.at (length input) ≡ true → eqb (byte s) USER_CLASS ≡ true → (read_class input room >>= kinded) s ≡ ((read_symbol_like input room >>= wrapping input) >>= kinded) (at_set (s.at + 1) s)
  unfolding read_class named_class look read_byte ◌>>=◌ next pick
  class_there s e f = rw (f, e) refl

  -- a value is its class, if there is one, and then the rest by its kind byte
  pub class_first : (s : State) → (read_byte input >>= λ k. value_of input room inner k (head k)) s ≡ (read_class input room >>= kinded) s
  unfolding read_class look valued ◌>>=◌ next pure pick read_user_class
  class_first s = go (ltb s.at (length input)) refl (eqb (byte s) USER_CLASS) refl
    where
      go : (b : Bool) → ltb s.at (length input) ≡ b → (u : Bool) → eqb (byte s) USER_CLASS ≡ u → (read_byte input >>= λ k. value_of input room inner k (head k)) s ≡ (read_class input room >>= kinded) s
      go b e false f = rw f refl
      go true e true f =
          one_read (λ k. value_of input room inner k (head k)) s e
          ∙ ap (λ (m : Reader ℕ). m (at_set (s.at + 1) s)) (is_class (eqb-true (byte s) USER_CLASS f))
          ∙ ap (λ (g : ℕ → Reader ℕ). (read_symbol_like input room >>= g) (at_set (s.at + 1) s)) (λ j c z. wrapped_same c z j)
          ∙ sym (bind_assoc (read_symbol_like input room) (wrapping input) kinded (at_set (s.at + 1) s))
          ∙ sym (class_there s e f)
      go false e true f = absurd (none_past input s.at (ltb-false s.at (length input) e) (eqb-true (byte s) USER_CLASS f))

  -- by the kind byte
  pub array_valued : (w : ℕ) {k : ℕ} → k ≡ ARRAY → valued input room inner k w ≡ read_array input room inner w
  unfolding valued value_of head read_wrapped pick
  array_valued zero e = rw e refl
  array_valued (suc c) e = rw e refl

  pub hash_valued : (w : ℕ) {k : ℕ} → k ≡ HASH → valued input room inner k w ≡ read_hash false input room inner w
  unfolding valued value_of head read_wrapped pick
  hash_valued zero e = rw e refl
  hash_valued (suc c) e = rw e refl

  pub default_valued : (w : ℕ) {k : ℕ} → k ≡ HASH_DEFAULT → valued input room inner k w ≡ read_hash true input room inner w
  unfolding valued value_of head read_wrapped pick
  default_valued zero e = rw e refl
  default_valued (suc c) e = rw e refl

  -- one that can have no class has none
  pub none_valued : (w : ℕ) {k n : ℕ} → Follows w k → k ≡ n → wrappable n ≡ false → valued input room inner k w ≡ value_of input room inner n (head n)
  unfolding valued
  none_valued zero f e u = rw e refl
  none_valued (suc c) f e u = untrue (sym u ∙ ap wrappable (sym e) ∙ f.one (λ z. omega arith))

-- of the values without members only a string can have a class, and none begins with `C`
pub string_only : (w k : ℕ) → Follows w k → (k ≡ ARRAY → ⊥) → (k ≡ HASH → ⊥) → (k ≡ HASH_DEFAULT → ⊥) → (w ≡ 0) ⊎ (k ≡ STRING)
unfolding wrappable
string_only zero k f a b c = inl refl
string_only (suc w) k f a b c = inr (eqb-true k STRING (first _ (simp (ne_eqb k ARRAY a, ne_eqb k HASH b, ne_eqb k HASH_DEFAULT c) at (f.one (λ z. omega arith)))))
  where
    first : (t : Bool) → (t || false || false || false) ≡ true → t ≡ true
    first true e = refl
    first false e = e

pub no_second : (w k : ℕ) → Follows w k → k ≡ USER_CLASS → ⊥
unfolding wrappable
no_second zero k f e = f.none refl e
no_second (suc w) k f e = untrue (sym (ap wrappable e) ∙ f.one (λ z. omega arith))
