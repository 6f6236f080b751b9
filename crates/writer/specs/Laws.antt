-- Laws of the definition's writers, and how writers in code compose.
use Rattle.std.specs.Prelude.{ℕ, ◌+◌, ◌-◌, Bool, true, false, ◌≡◌, refl, List, ◌++◌, leb, length, IsErr, IsErrAnd}
use Rattle.std.specs.declared.result.Result.{Result}
use Rattle.std.specs.declared.result.Result.TheVariants.{Ok, Err}
use Rattle.std.proofs.Common.{arith, sym, ap, ◌∙◌, subst, append_assoc, length-append, leb-true, leb-false, le-leb}
use Rattle.std.proofs.lemmas.Bool.{lt-leb}
use Rattle.definition.specs.Run.{Outcome, ok, refused, pure, next, ◌>>=◌, pick}
use Rattle.definition.specs.Arena.{Arena}
use Rattle.definition.specs.Dump.{Written, Writer, ◌>>◌, write}
use Rattle.definition.specs.declared.Refusal.{Refusal}
use Rattle.writer.specs.declared.Progress.{Progress}
use Rattle.writer.specs.declared.Stop.{Stop}
use Rattle.writer.specs.Held.{Buffers, Answer, Ready, Goes, Refuses, stopped, Leads, Meets}

-- what `?` hands up is the same refusal
abbrev pub Passed : {T : Type 0} → Result T Stop → Stop → Type 0
Passed r q = IsErr r × IsErrAnd r (λ e. e ≡ q)

-- ---- equal writers

abbrev Out : Type 0
Out = Outcome Written (Unit {0})

pub assoc : (a b c : Writer) → a >> b >> c ≡ a >> (b >> c)
unfolding ◌>>◌ ◌>>=◌ next
assoc a b c = λ i s. go (a s) i
  where
    go : (o : Out) → next (next o (λ _. b)) (λ _. c) ≡ next o (λ _ t. next (b t) (λ _. c))
    go (ok u t) = refl
    go (refused q) = refl

pub unit_right : (a : Writer) → a >> pure tt ≡ a
unfolding ◌>>◌ ◌>>=◌ next pure
unit_right a = λ i s. go (a s) i
  where
    go : (o : Out) → next o (λ _ t. ok tt t) ≡ o
    go (ok tt t) = refl
    go (refused q) = refl

pub unit_left : (a : Writer) → pure tt >> a ≡ a
unfolding ◌>>◌ ◌>>=◌ next pure
unit_left a = refl

-- bytes in two parts
pub write_join : (room : ℕ) (a b : List ℕ) → write room (a ++ b) ≡ write room a >> write room b
unfolding write pick ◌>>◌ ◌>>=◌ next
write_join room a b = λ i s. at s i
  where
    at : (s : Written) → write room (a ++ b) s ≡ next (write room a s) (λ _. write room b)
    at s = go (leb (length a) (room - length s.bytes)) refl (leb (length b) (room - length (s.bytes ++ a))) refl
      where
        z : length (a ++ b) ≡ length a + length b
        z = length-append a b

        y : length (s.bytes ++ a) ≡ length s.bytes + length a
        y = length-append s.bytes a

        go : (p : Bool) → leb (length a) (room - length s.bytes) ≡ p → (q : Bool) → leb (length b) (room - length (s.bytes ++ a)) ≡ q → write room (a ++ b) s ≡ next (write room a s) (λ _. write room b)
        go true e true f =
            let h : leb (length (a ++ b)) (room - length s.bytes) ≡ true = le-leb (length (a ++ b)) (room - length s.bytes) (omega (arith, z, y, leb-true (length a) (room - length s.bytes) e, leb-true (length b) (room - length (s.bytes ++ a)) f)) in
            rw (h, e, f) (ap (λ (l : List ℕ). ok tt (record { bytes = l; symbols = s.symbols; objects = s.objects })) (sym (append_assoc s.bytes a b)))
        go true e false f =
            let h : leb (length (a ++ b)) (room - length s.bytes) ≡ false = lt-leb (length (a ++ b)) (room - length s.bytes) (omega (arith, z, y, leb-true (length a) (room - length s.bytes) e, leb-false (length b) (room - length (s.bytes ++ a)) f)) in
            rw (h, e, f) refl
        go false e q f =
            let h : leb (length (a ++ b)) (room - length s.bytes) ≡ false = lt-leb (length (a ++ b)) (room - length s.bytes) (omega (arith, z, leb-false (length a) (room - length s.bytes) e)) in
            rw (h, e) refl

-- ---- steps

then_ok : (m f : Writer) (s s' : Written) → m s ≡ pure tt s' → (m >> f) s ≡ f s'
unfolding ◌>>◌ ◌>>=◌ next pure
then_ok m f s s' e = ap (λ (o : Out). next o (λ _. f)) e

pub then_refused : (m f : Writer) (s : Written) (q : Refusal) → m s ≡ refused q → (m >> f) s ≡ refused q
unfolding ◌>>◌ ◌>>=◌ next
then_refused m f s q e = ap (λ (o : Out). next o (λ _. f)) e

module _ {A : Arena} {room : ℕ} where
  pub then : {m m' m'' : Writer} {B B' B'' : Buffers} {c c' c'' : Progress} → Goes A room m B c m' B' c' → Goes A room m' B' c' m'' B'' c'' → Goes A room m B c m'' B'' c''
  then a b = record {
    goes = λ s H.
        let w = a.goes s H in
        let v = b.goes w.state w.holds in
        record { state = v.state; holds = v.holds; same = w.same ∙ v.same };
  }

  pub still : {m : Writer} {B : Buffers} {c : Progress} → Goes A room m B c m B c
  still = record { goes = λ s H. record { state = s; holds = H; same = refl } }

  -- the writer by another name
  pub goes_as : {m n m' : Writer} {B B' : Buffers} {c c' : Progress} → m ≡ n → Goes A room n B c m' B' c' → Goes A room m B c m' B' c'
  goes_as {m' = m'} {B} {B'} {c} {c'} e k = subst (λ (x : Writer). Goes A room x B c m' B' c') (sym e) k

  pub goes_to : {m n m' : Writer} {B B' : Buffers} {c c' : Progress} → m' ≡ n → Goes A room m B c m' B' c' → Goes A room m B c n B' c'
  goes_to {m} {B = B} {B'} {c} {c'} e k = subst (λ (x : Writer). Goes A room m B c x B' c') e k

  -- f is done, and g comes next
  pub goes_first : {f : Writer} {B B' : Buffers} {c c' : Progress} (g : Writer) → Goes A room f B c (pure tt) B' c' → Goes A room (f >> g) B c g B' c'
  goes_first {f} g k = record { goes = λ s H. let w = k.goes s H in record { state = w.state; holds = w.holds; same = then_ok f g s w.state w.same } }

module _ {A : Arena} {room limit : ℕ} where
  -- ---- an answer by what it says

  pub lead_as : {m n m' : Writer} {B B' : Buffers} {c c' : Progress} {r : Answer} → m ≡ n → Leads A room limit n m' B c r B' c' → Leads A room limit m m' B c r B' c'
  lead_as {m' = m'} {B} {B'} {c} {c'} {r} e k = subst (λ (x : Writer). Leads A room limit x m' B c r B' c') (sym e) k

  pub lead_to : {m n m' : Writer} {B B' : Buffers} {c c' : Progress} {r : Answer} → m' ≡ n → Leads A room limit m m' B c r B' c' → Leads A room limit m n B c r B' c'
  lead_to {m} {B = B} {B'} {c} {c'} {r} e k = subst (λ (x : Writer). Leads A room limit m x B c r B' c') e k

  pub went : {m m' : Writer} {B B' : Buffers} {c c' : Progress} → Goes A room m B c m' B' c' → Leads A room limit m m' B c (Ok tt) B' c'
  went k = record { leads = k }

  -- ---- after one another

  pub lead_after : {m n m' : Writer} {B B' B'' : Buffers} {c c' c'' : Progress} {r : Answer} → Goes A room m B c n B' c' → Leads A room limit n m' B' c' r B'' c'' → Leads A room limit m m' B c r B'' c''
  lead_after {r = Ok x} a k = record { leads = then a k.leads }
  lead_after {r = Err q} a k = record { leads = λ s H. let w = a.goes s H in w.same ∙ k.leads w.state w.holds }

  -- f, before g
  pub lead_first : {f : Writer} {B B' : Buffers} {c c' : Progress} {r : Answer} (g : Writer) → Meets A room limit f B c r B' c' → Leads A room limit (f >> g) g B c r B' c'
  lead_first {r = Ok x} g k = record { leads = goes_first g k.leads }
  lead_first {f} {r = Err q} g k = record { leads = λ s H. then_refused f g s _ (k.leads s H) }

  -- ---- a refusal that is handed up

  pub lead_stop : {m n : Writer} {B B' : Buffers} {c c' : Progress} {s : Answer} (q : Stop) → Passed s q → Refuses A room m B c (stopped limit q) → Leads A room limit m n B c s B' c'
  lead_stop {s = Ok x} q p k = absurd p.1
  lead_stop {s = Err e} q p k = record { leads = λ t H. k t H ∙ ap (λ (x : Stop). refused (stopped limit x)) (sym p.1) }

  -- ---- bytes in two parts, each by a call of its own

  pub part_stop : {B B' B'' : Buffers} {c c' c'' : Progress} {q : Stop} {s : Answer} (a b : List ℕ) → Passed s q → Meets A room limit (write room a) B c (Err q) B' c' → Meets A room limit (write room (a ++ b)) B c s B'' c''
  part_stop a b p k = lead_as (write_join room a b) (lead_stop _ p (lead_first (write room b) k).leads)

  pub part_after : {B B' B'' : Buffers} {c c' c'' : Progress} {x : Unit {0}} {r : Answer} (a b : List ℕ) → Meets A room limit (write room a) B c (Ok x) B' c' → Meets A room limit (write room b) B' c' r B'' c'' → Meets A room limit (write room (a ++ b)) B c r B'' c''
  part_after a b k l = lead_as (write_join room a b) (lead_after (goes_first (write room b) k.leads) l)

-- ---- what is held goes on to be held

pub ready_goes : {P : Arena → Type 0} {B B' : Buffers} {c c' : Progress} {m m' : Writer} (d : Ready P B c) → Goes d.arena d.room m B c m' B' c' → Ready P B' c'
ready_goes d k =
    let w = k.goes d.state d.holds in
    record { arena = d.arena; room = d.room; state = w.state; fact = d.fact; holds = w.holds }

pub ready : {P : Arena → Type 0} {B B' : Buffers} {c c' : Progress} {x : Unit {0}} (m m' : Arena → ℕ → Writer) → Ready P B c → ((A : Arena) (room : ℕ) → P A → Leads A room 0 (m A room) (m' A room) B c (Ok x) B' c') → Ready P B' c'
ready m m' d k = ready_goes d (k d.arena d.room d.fact).leads

-- less is known, or more
pub ready_as : {P Q : Arena → Type 0} {B : Buffers} {c : Progress} → ((A : Arena) → P A → Q A) → Ready P B c → Ready Q B c
ready_as f d = record { arena = d.arena; room = d.room; state = d.state; fact = f d.arena d.fact; holds = d.holds }
