-- Variables set, and what stands directly after `I`.
use Prim.Native.Nat.{ℕ, ◌+◌, ◌*◌, ◌≤◌, ◌<◌}
use native.Mathlib.Omega.{arith}
use mathlib.Core.Path.{◌≡◌, refl, sym, ap, ◌∙◌}
use mathlib.Core.Bool.{Bool, true, false}
use mathlib.Core.Logic.{◌⊎◌, inl, inr}
use mathlib.Core.List.{List, [], ◌∷◌}
use lib.ListN.{length, get_or, get_or-eq_default}
use lib.Seq.{sets}
use Rattle.std.specs.Prelude.{Ok, Err}
use lib.Dec.{eqb}
use borrow.Author.Tests.{eqb-true, eqb-false}
use Rattle.definition.specs.Run.{refuse, next, look, ◌>>=◌, refused, pure, pick}
use Rattle.definition.specs.Kind.{STRING}
use Rattle.definition.specs.Node.{Row, nil, bool, fixnum, symbol, array, hash, object, string, user, float, bignum, present, kind, words, row_of, vars, width, START, LENGTH, NAME, CLASS}
use Rattle.definition.specs.State.{Room, Reader, noted, State}
use Rattle.definition.specs.Load.{fill, set_variables, note, takes_variables}
use Rattle.definition.specs.declared.Refusal.TheVariants.{NotAnObject}
use Rattle.reader.specs.Answers.{stop, at_variables}
use Rattle.load_state.specs.declared.Progress.{Progress}
use Rattle.load_state.specs.Holds.{Symbols, Lent, lent, Goes, Meets, Plain, Holds, Went}
use Rattle.loader.specs.Parts.{settle, after_i}
use Rattle.load_state.specs.Laws.{word, word_0, denied, given, still}
use Rattle.input_reader.proofs.Input.{lost}
use Rattle.table_writer.proofs.Added.{row_went}
use Rattle.load_state.specs.Names.{kind_word}

-- ---- variables set

-- what setting variables does, by the kind: a string or a user-defined is filled again with the list, another row is refused
abbrev Sets : ℕ → ℕ → ℕ → Row → Type 0
Sets h start n r = (((kind r ≡ 7) ⊎ (kind r ≡ 8)) × (v : Row) × (words v ≡ kind r ∷ get_or (words r) START 0 ∷ get_or (words r) LENGTH 0 ∷ start ∷ n ∷ get_or (words r) NAME 0 ∷ 1 ∷ get_or (words r) CLASS 0 ∷ []) × (set_variables h start n r ≡ fill h v) × Plain v × Plain r) ⊎ ((kind r ≡ 7 → ⊥) × (kind r ≡ 8 → ⊥) × (set_variables h start n r ≡ refuse NotAnObject))

sets_variables : (h start n : ℕ) (r : Row) → Sets h start n r
unfolding kind words set_variables row_of vars pick
sets_variables h start n nil = inr (λ e. omega arith, λ e. omega arith, refl)
sets_variables h start n (bool b) = inr (λ e. omega arith, λ e. omega arith, refl)
sets_variables h start n (fixnum w) = inr (λ e. omega arith, λ e. omega arith, refl)
sets_variables h start n (symbol s l) = inr (λ e. omega arith, λ e. omega arith, refl)
sets_variables h start n (array s m w) = inr (λ e. omega arith, λ e. omega arith, refl)
sets_variables h start n (hash s m d w) = inr (λ e. omega arith, λ e. omega arith, refl)
sets_variables h start n (object s m c) = inr (λ e. omega arith, λ e. omega arith, refl)
sets_variables h start n (string s l v w) = inl (inl refl, string s l (present start n) w, refl, refl, λ e. omega arith, λ e. omega arith)
sets_variables h start n (user s l c v) = inl (inr refl, user s l c (present start n), refl, refl, λ e. omega arith, λ e. omega arith)
sets_variables h start n (float s l) = inr (λ e. omega arith, λ e. omega arith, refl)
sets_variables h start n (bignum low high m) = inr (λ e. omega arith, λ e. omega arith, refl)

one_of_two : (k : ℕ) → (k ≡ 7 → ⊥) → (k ≡ 8 → ⊥) → 7 ≤ k → k ≤ 8 → ⊥
one_of_two k a b g g' = go (eqb k 7) refl
  where
    go : (t : Bool) → eqb k 7 ≡ t → ⊥
    go true e = a (eqb-true k 7 e)
    go false e = let d = eqb-false k 7 e in b (omega (arith, g, g', d))

words_same : {a b d e f a' b' d' e' f' : ℕ} (start n : ℕ) → a ≡ a' → b ≡ b' → d ≡ d' → e ≡ e' → f ≡ f' → ◌≡◌ {A = List ℕ} (a ∷ b ∷ d ∷ start ∷ n ∷ e ∷ 1 ∷ f ∷ []) (a' ∷ b' ∷ d' ∷ start ∷ n ∷ e' ∷ 1 ∷ f' ∷ [])
words_same start n p q r t u = λ i. p i ∷ q i ∷ r i ∷ start ∷ n ∷ t i ∷ 1 ∷ u i ∷ []

-- where a state is held
module _ {input : List ℕ} {room : Room} {c : Progress} {no re by : List ℕ} {sy : Symbols} {ob : List ℕ} (h start n : ℕ) (l : h < c.nodes) (s : State) (H : Holds input room s (lent no re by sy ob) c) where
  kind_held : get_or no (h * width) 0 ≡ kind (get_or s.nodes h nil)
  kind_held = word_0 H h l ∙ kind_word (get_or s.nodes h nil)

  set_went : {no' : List ℕ} → 7 ≤ get_or no (h * width) 0 → get_or no (h * width) 0 ≤ 8 → no' ≡ sets no (h * width) (get_or no (h * width) 0 ∷ get_or no (h * width + START) 0 ∷ get_or no (h * width + LENGTH) 0 ∷ start ∷ n ∷ get_or no (h * width + NAME) 0 ∷ 1 ∷ get_or no (h * width + CLASS) 0 ∷ []) → Sets h start n (get_or s.nodes h nil) → Went input room s (settle h start n s) (pure h) (lent no re by sy ob) (lent no' re by sy ob) c
  unfolding look
  set_went g g' f (inl (k, v, e, q, p, p')) =
      let w = words_same start n kind_held (word H h l START (omega arith)) (word H h l LENGTH (omega arith)) (word H h l NAME (omega arith)) (word H h l CLASS (omega arith)) in
      let x = row_went h v _ (e ∙ sym w) p l f s H (λ _. p') in
      record { state = x.state; holds = x.holds; same = ap (λ (m : Reader ℕ). m s) q ∙ x.same; grown = x.grown; behind = x.behind }
  set_went g g' f (inr (a, b, q)) = absurd (one_of_two (kind (get_or s.nodes h nil)) a b (omega (arith, kind_held, g)) (omega (arith, kind_held, g')))

  set_refused : (get_or no (h * width) 0 ≡ 7 → ⊥) → (get_or no (h * width) 0 ≡ 8 → ⊥) → Sets h start n (get_or s.nodes h nil) → settle h start n s ≡ refused NotAnObject
  unfolding look refuse
  set_refused a b (inl (inl k, v, e, q, p, p')) = absurd (a (kind_held ∙ k))
  set_refused a b (inl (inr k, v, e, q, p, p')) = absurd (b (kind_held ∙ k))
  set_refused a b (inr (x, y, q)) = ap (λ (m : Reader ℕ). m s) q

module _ {input : List ℕ} {room : Room} {limit : ℕ} {c : Progress} {no re by : List ℕ} {sy : Symbols} {ob : List ℕ} (h start n : ℕ) (l : h < c.nodes) where
  pub variables_set : {no' : List ℕ} → 7 ≤ get_or no (h * width) 0 → get_or no (h * width) 0 ≤ 8 → no' ≡ sets no (h * width) (get_or no (h * width) 0 ∷ get_or no (h * width + START) 0 ∷ get_or no (h * width + LENGTH) 0 ∷ start ∷ n ∷ get_or no (h * width + NAME) 0 ∷ 1 ∷ get_or no (h * width + CLASS) 0 ∷ []) → Meets input room limit (settle h start n) (lent no re by sy ob) c (Ok h) (lent no' re by sy ob) c
  variables_set g g' f = given (record { goes = λ s H. set_went h start n l s H g g' f (sets_variables h start n (get_or s.nodes h nil)); counts = refl })

  pub variables_refused : {T' : Lent} {c' : Progress} → (get_or no (h * width) 0 ≡ 7 → ⊥) → (get_or no (h * width) 0 ≡ 8 → ⊥) → Meets input room limit (settle h start n) (lent no re by sy ob) c (Err (stop 10 0)) T' c'
  variables_refused a b = denied NotAnObject (at_variables limit) (record { refuses = λ s H. set_refused h start n l s H a b (sets_variables h start n (get_or s.nodes h nil)) })

-- ---- what stands directly after `I`

module _ {input : List ℕ} {room : Room} {T : Lent} {c : Progress} (inner : Reader ℕ) where
  -- a kind that dump writes there
  pub after_takes : takes_variables (get_or input c.at 0) ≡ true → Goes input room (after_i input inner) T c inner T c
  unfolding look note ◌>>=◌ Rattle.definition.specs.Run.next
  after_takes e = still (λ s H. ap (λ (t : Bool). inner (noted t s)) (ap (λ (x : ℕ). takes_variables (get_or input x 0)) (sym H.counted.count_at) ∙ e))

  -- another, or nothing
  pub after_other : takes_variables (get_or input c.at 0) ≡ false → Goes input room (after_i input inner) T c inner T (record c { form = false })
  unfolding look note ◌>>=◌ Rattle.definition.specs.Run.next
  after_other e = lost (λ s H. ap (λ (t : Bool). inner (noted t s)) (ap (λ (x : ℕ). takes_variables (get_or input x 0)) (sym H.counted.count_at) ∙ e))

pub takes_string : {k : ℕ} → k ≡ STRING → takes_variables k ≡ true
unfolding takes_variables
takes_string e = rw e refl

pub takes_past : (input : List ℕ) (at : ℕ) → length input ≤ at → takes_variables (get_or input at 0) ≡ false
unfolding takes_variables
takes_past input at l = ap takes_variables (get_or-eq_default input 0 l)
