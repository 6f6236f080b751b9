-- How readers compose.
use Rattle.std.specs.Prelude.{Result, Ok, Err, MatchResult, ℕ, ◌<◌, ◌≤◌, ◌*◌, ◌+◌, ◌≡◌, refl, List, length, get_or}
use Rattle.std.proofs.Common.{arith, sym, ap, ◌∙◌, subst}
use Rattle.definition.specs.Run.{Outcome, ok, refused, pure, refuse, next, ◌>>=◌}
use Rattle.definition.specs.Node.{nil, words, width, KIND}
use Rattle.definition.specs.State.{Room, State, Reader}
use Rattle.definition.specs.declared.Refusal.{Refusal}
use Rattle.load_state.specs.declared.Progress.{Progress}
use Rattle.load_state.specs.Holds.{Lent, Holds, Held, Grown, Goes, Refuses, Leads, Plain, Free}
use Rattle.reader.specs.Answers.{refusal_at}
use Rattle.reader.specs.declared.Stop.{Stop}
use Rattle.lists.specs.Words.{length_flat}
use Rattle.load_state.specs.Names.{kind_word}
use Rattle.load_state.specs.Stores.{at_held, flat_word}
use Rattle.load_state.specs.Behind.{behind_still, behind_then}

bind_refused : {A B : Type 0} (m : Reader A) (f : A → Reader B) (s : State) (q : Refusal) → m s ≡ refused q → (m >>= f) s ≡ refused q
unfolding ◌>>=◌ next
bind_refused {B = B} m f s q e = ap (λ o. next {B = B} o f) e

next_assoc : {A B C : Type 0} (o : Outcome State A) (f : A → Reader B) (g : B → Reader C) → next (next o f) g ≡ next o (λ a. f a >>= g)
unfolding next ◌>>=◌
next_assoc (ok a s) f g = refl
next_assoc (refused q) f g = refl

pub bind_assoc : {A B C : Type 0} (m : Reader A) (f : A → Reader B) (g : B → Reader C) (s : State) → ((m >>= f) >>= g) s ≡ (m >>= λ a. f a >>= g) s
unfolding ◌>>=◌
bind_assoc m f g s = next_assoc (m s) f g

grown_same : (s : State) → Grown s s
grown_same s = record { nodes = omega arith; references = omega arith; plain = λ i l p. p }

pub then : {A : Type 0} {input : List ℕ} {room : Room} {m m' m'' : Reader A} {T T' T'' : Lent} {c c' c'' : Progress} → Goes input room m T c m' T' c' → Goes input room m' T' c' m'' T'' c'' → Goes input room m T c m'' T'' c''
then a b = record {
  goes = λ s H.
      let w = a.goes s H in
      let v = b.goes w.state w.holds in
      record { state = v.state; holds = v.holds; same = w.same ∙ v.same; grown = record { nodes = omega arith; references = omega arith; plain = λ i l p. v.grown.plain i (omega (arith, w.grown.nodes)) (w.grown.plain i l p) }; behind = λ e. let x = w.behind e in behind_then x (v.behind x.searched) };
  counts = b.counts ∙ a.counts;
}

pub still : {A : Type 0} {input : List ℕ} {room : Room} {m m' : Reader A} {T : Lent} {c : Progress} → ((s : State) → Holds input room s T c → m s ≡ m' s) → Goes input room m T c m' T c
still e = record { goes = λ s H. record { state = s; holds = H; same = e s H; grown = grown_same s; behind = behind_still refl refl refl refl refl }; counts = refl }

-- the reader left by another name
pub goes_to : {A : Type 0} {input : List ℕ} {room : Room} {m m' n' : Reader A} {T T' : Lent} {c c' : Progress} → m' ≡ n' → Goes input room m T c m' T' c' → Goes input room m T c n' T' c'
goes_to {input = input} {room} {m} {T = T} {T'} {c} {c'} e g = subst (λ x. Goes input room m T c x T' c') e g

-- the first part of more
pub goes_part : {A B : Type 0} {input : List ℕ} {room : Room} {m m' : Reader A} {T T' : Lent} {c c' : Progress} (f : A → Reader B) → Goes input room m T c m' T' c' → Goes input room (m >>= f) T c (m' >>= f) T' c'
unfolding ◌>>=◌
goes_part {B = B} f g = record { goes = λ s H. let w = g.goes s H in record { state = w.state; holds = w.holds; same = ap (λ o. next {B = B} o f) w.same; grown = w.grown; behind = w.behind }; counts = g.counts }

-- a step that goes, and then the rest
pub goes_first : {A B : Type 0} {input : List ℕ} {room : Room} {m : Reader A} {a : A} {T T' : Lent} {c c' : Progress} (f : A → Reader B) → Goes input room m T c (pure a) T' c' → Goes input room (m >>= f) T c (f a) T' c'
unfolding pure ◌>>=◌ next
goes_first f g = goes_part f g

-- ---- by the answer

module _ {A V : Type 0} {input : List ℕ} {room : Room} {limit : ℕ} {T T' : Lent} {c c' : Progress} {r : Result V Stop} where
  -- the first part of more, and the first step
  pub lead_part : {B : Type 0} {m : Reader A} {m' : V → Reader A} (f : A → Reader B) → Leads input room limit m m' T c r T' c' → Leads input room limit (m >>= f) (λ v. m' v >>= f) T c r T' c'
  lead_part {B} {m} {m'} f k = record { led = go r k.led }
    where
      go : (r : Result V Stop) → MatchResult r (λ v. Goes input room m T c (m' v) T' c') (λ q. Refuses input room m T c (refusal_at limit q.code)) → MatchResult r (λ v. Goes input room (m >>= f) T c (m' v >>= f) T' c') (λ q. Refuses input room (m >>= f) T c (refusal_at limit q.code))
      go (Ok v) h = goes_part f h
      go (Err q) h = record { refuses = λ s H. bind_refused m f s (refusal_at limit q.code) (h.refuses s H) }

  pub lead_first : {B : Type 0} {m : Reader A} {a : V → A} (f : A → Reader B) → Leads input room limit m (λ v. pure (a v)) T c r T' c' → Leads input room limit (m >>= f) (λ v. f (a v)) T c r T' c'
  unfolding pure ◌>>=◌ next
  lead_first f k = lead_part f k

  -- what was done before
  pub lead_after : {m n : Reader A} {n' : V → Reader A} {T₀ : Lent} {c₀ : Progress} → Goes input room m T₀ c₀ n T c → Leads input room limit n n' T c r T' c' → Leads input room limit m n' T₀ c₀ r T' c'
  lead_after {m} {n} {n'} {T₀} {c₀} a k = record { led = go r k.led }
    where
      go : (r : Result V Stop) → MatchResult r (λ v. Goes input room n T c (n' v) T' c') (λ q. Refuses input room n T c (refusal_at limit q.code)) → MatchResult r (λ v. Goes input room m T₀ c₀ (n' v) T' c') (λ q. Refuses input room m T₀ c₀ (refusal_at limit q.code))
      go (Ok v) h = then a h
      go (Err q) h = record { refuses = λ s H. let w = a.goes s H in w.same ∙ h.refuses w.state w.holds }

  -- the reader by another name
  pub lead_as : {m n : Reader A} {m' : V → Reader A} → m ≡ n → Leads input room limit n m' T c r T' c' → Leads input room limit m m' T c r T' c'
  lead_as {m' = m'} e k = subst (λ x. Leads input room limit x m' T c r T' c') (sym e) k

module _ {A V : Type 0} {input : List ℕ} {room : Room} {limit : ℕ} {T T' : Lent} {c c' : Progress} {m : Reader A} {m' : V → Reader A} where
  -- what a refusal or a value is made of
  pub denied : {s : Stop} (q : Refusal) → refusal_at limit s.code ≡ q → Refuses input room m T c q → Leads input room limit m m' T c (Err s) T' c'
  denied q e k = record { led = record { refuses = λ s H. k.refuses s H ∙ ap refused (sym e) } }

  pub given : {v : V} → Goes input room m T c (m' v) T' c' → Leads input room limit m m' T c (Ok v) T' c'
  given k = record { led = k }

  -- a refusal is handed on
  pub lead_stop : {W : Type 0} {m'' : W → Reader A} {T'' : Lent} {c'' : Progress} {q : Stop} → Leads input room limit m m' T c (Err q) T' c' → Leads input room limit m m'' T c (Err q) T'' c''
  lead_stop k = record { led = k.led }

  -- the value by another name
  pub met_as : {v w : V} → w ≡ v → Leads input room limit m m' T c (Ok v) T' c' → Leads input room limit m m' T c (Ok w) T' c'
  met_as e k = subst (λ x. Leads input room limit m m' T c (Ok x) T' c') (sym e) k

-- nothing more to do; a refusal and nothing else
pub gives : {A : Type 0} {input : List ℕ} {room : Room} {limit : ℕ} {T : Lent} {c : Progress} (a : A) → Leads input room limit (pure a) pure T c (Ok a) T c
gives a = given (still (λ s H. refl))

pub refuses : {A V : Type 0} {input : List ℕ} {room : Room} {limit : ℕ} {m' : V → Reader A} {T T' : Lent} {c c' : Progress} {s : Stop} (q : Refusal) → refusal_at limit s.code ≡ q → Leads input room limit (refuse q) m' T c (Err s) T' c'
unfolding refuse
refuses q e = denied q e (record { refuses = λ s H. refl })

-- ---- what is held goes on to be held

pub held_goes : {A : Type 0} {input : List ℕ} {T T' : Lent} {c c' : Progress} {m m' : Room → Reader A} → Held input T c → ((room : Room) → Goes input room (m room) T c (m' room) T' c') → Held input T' c'
held_goes d k = let w = (k d.room).goes d.state d.holds in record { room = d.room; state = w.state; holds = w.holds }

pub held : {A V : Type 0} {input : List ℕ} {T T' : Lent} {c c' : Progress} {m : Room → Reader A} {m' : Room → V → Reader A} {v : V} {limit : ℕ} → Held input T c → ((room : Room) → Leads input room limit (m room) (m' room) T c (Ok v) T' c') → Held input T' c'
held {m = m} {m' = m'} {v} d k = held_goes {m = m} {m' = λ room. m' room v} d (λ room. (k room).led)

-- ---- what grew, by tables and counts

module _ {input : List ℕ} {room : Room} {s : State} {T : Lent} {c : Progress} (H : Holds input room s T c) (i : ℕ) (l : i < c.nodes) where
  pub there : i < length s.nodes
  there = omega arith

  -- word j of node i
  pub word : (j : ℕ) → j < width → get_or T.nodes (i * width + j) 0 ≡ get_or (words (get_or s.nodes i nil)) j 0
  word j m = at_held (i * width + j) H.laid.nodes (omega (arith, length_flat s.nodes, there)) ∙ flat_word s.nodes i j there m

  pub word_0 : get_or T.nodes (i * width) 0 ≡ get_or (words (get_or s.nodes i nil)) KIND 0
  word_0 = let e : i * width ≡ i * width + 0 = omega arith in rw e (word 0 (omega arith))

  pub free_plain : Free T.nodes i → Plain (get_or s.nodes i nil)
  free_plain f e = f (word_0 ∙ kind_word (get_or s.nodes i nil) ∙ e)

  pub plain_free : Plain (get_or s.nodes i nil) → Free T.nodes i
  plain_free p e = p (sym (kind_word (get_or s.nodes i nil)) ∙ sym word_0 ∙ e)

pub record Grew (T : Lent) (c : Progress) (T' : Lent) (c' : Progress) : Type 0 where
  pub nodes : c.nodes ≤ c'.nodes
  pub references : c.references ≤ c'.references
  pub free : (i : ℕ) → i < c.nodes → Free T.nodes i → Free T'.nodes i

pub grew_there : {A : Type 0} {input : List ℕ} {T T' : Lent} {c c' : Progress} {m m' : Room → Reader A} → Held input T c → ((room : Room) → Goes input room (m room) T c (m' room) T' c') → Grew T c T' c'
grew_there d k =
    let w = (k d.room).goes d.state d.holds in
    let H = d.holds in
    let H' = w.holds in
    record {
      nodes = omega (arith, w.grown.nodes, H.counted.count_nodes, H'.counted.count_nodes);
      references = omega (arith, w.grown.references, H.counted.count_references, H'.counted.count_references);
      free = λ i l f. plain_free H' i (omega (arith, w.grown.nodes, H.counted.count_nodes, H'.counted.count_nodes)) (w.grown.plain i (there H i l) (free_plain H i l f));
    }

pub grew : {A V : Type 0} {input : List ℕ} {T T' : Lent} {c c' : Progress} {m : Room → Reader A} {m' : Room → V → Reader A} {v : V} {limit : ℕ} → Held input T c → ((room : Room) → Leads input room limit (m room) (m' room) T c (Ok v) T' c') → Grew T c T' c'
grew {m = m} {m' = m'} {v} d k = grew_there {m = m} {m' = λ room. m' room v} d (λ room. (k room).led)

pub still_below : {T T' : Lent} {c c' : Progress} {h : ℕ} → h < c.nodes → Grew T c T' c' → h < c'.nodes
still_below l g = omega arith
