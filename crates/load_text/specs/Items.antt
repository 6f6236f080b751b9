-- What comes one after the other: each reader takes the first tree of a forest and its value is put into the next reserved word.
use Rattle.std.specs.Prelude.{ℕ, zero, suc, ◌+◌, ◌*◌, ◌≤◌, ◌<◌, ◌≡◌, Bool, replicate}
use Rattle.std.proofs.Math.Path.{refl, subst}
use Rattle.std.proofs.Common.{ap, sym as psym, ◌∙◌, arith}
use mathlib.Core.List.{List, [], ◌∷◌, ◌++◌, append_assoc}
use Rattle.std.proofs.Math.ListN.{length, length-set, length-append, length-replicate}
use Rattle.definition.specs.Run.{ok, pure, ◌>>=◌}
use Rattle.definition.specs.Integer.{integer_bytes}
use Rattle.definition.specs.Node.{Row, optional_node, optional_present}
use Rattle.definition.specs.Arena.{range}
use Rattle.definition.specs.State.{Room, State, Reader, at_set}
use Rattle.definition.specs.Load.{read_count, put_reference, counted, read_elements, read_pairs}
use Rattle.lists.specs.Ranges.{range_none}
use Rattle.graph.specs.Forest.{Node, Num, F, f_end, refs_of, bytes_of, boxes_of, syms_of}
use Rattle.graph.specs.Build.{St, B, b_end, Inv, nodes_of_forest}
use Rattle.graph.specs.View.{state_seen}
use Rattle.states.specs.States.{Ranged, Free, Frame, Keeps, with_word, with_room, ranged_words, ranged_word, seen_at_set, seen_word, room_seen, free_new, free_part, frame_refl, frame_trans, frame_below, frame_at_set, frame_words, frame_word, range_written, keeps_refl, keeps_trans}
use Rattle.load_text.specs.Steps.{step, put_runs, reserve_runs}
use Rattle.load_text.specs.Input.{Ahead, ahead_past, ahead_as, read_count_ahead}

-- ---- room for a forest

-- there is room for g, and for so many words besides
abbrev pub Fits : Room → ℕ → F → State → Type 0
Fits room more g s = record {
  nodes : length s.nodes + nodes_of_forest g ≤ room.nodes;
  objects : length s.objects + boxes_of g ≤ room.objects;
  symbols : length s.symbols + syms_of g ≤ room.symbols;
  references : length s.references + more + refs_of g ≤ room.references;
  bytes : length s.bytes + bytes_of g ≤ room.bytes;
}

-- from s with g to come to t with r to come, so many words having been added besides
abbrev pub Even : ℕ → F → State → F → State → Type 0
Even more g s r t = record {
  nodes : length t.nodes + nodes_of_forest r ≡ length s.nodes + nodes_of_forest g;
  objects : length t.objects + boxes_of r ≡ length s.objects + boxes_of g;
  symbols : length t.symbols + syms_of r ≡ length s.symbols + syms_of g;
  references : length t.references + refs_of r ≡ length s.references + more + refs_of g;
  bytes : length t.bytes + bytes_of r ≡ length s.bytes + bytes_of g;
}

pub even_same : (s : State) → Even 0 f_end s f_end s
even_same s = record { nodes = refl; objects = refl; symbols = refl; references = omega arith; bytes = refl }

-- the readers in turn, their values put into the words from i on
pub in_turn : List (Reader ℕ) → ℕ → Reader (Unit {0})
in_turn [] i = pure tt
in_turn (rd ∷ rds) i = rd >>= λ v. put_reference i v >>= λ _. in_turn rds (suc i)

pub elements_in_turn : (inner : Reader ℕ) (n i : ℕ) → read_elements inner n i ≡ in_turn (replicate n inner) i
unfolding read_elements in_turn
elements_in_turn inner zero i = refl
elements_in_turn inner (suc n) i = ap (λ (k : Reader (Unit {0})). inner >>= λ v. put_reference i v >>= λ _. k) (elements_in_turn inner n (suc i))

-- names and values by turns
abbrev pub by_turns : Reader ℕ → Reader ℕ → ℕ → List (Reader ℕ)
by_turns name inner zero = []
by_turns name inner (suc n) = name ∷ inner ∷ by_turns name inner n

pub length_by_turns : (name inner : Reader ℕ) (n : ℕ) → length (by_turns name inner n) ≡ n * 2
length_by_turns name inner zero = refl
length_by_turns name inner (suc n) = omega (arith, length_by_turns name inner n)

pub pairs_in_turn : (name inner : Reader ℕ) (n i : ℕ) → read_pairs name inner n i ≡ in_turn (by_turns name inner n) i
unfolding read_pairs in_turn
pairs_in_turn name inner zero i = refl
pairs_in_turn name inner (suc n) i =
    ap (λ (k : Reader (Unit {0})). name >>= λ c. put_reference i c >>= λ _. inner >>= λ v. put_reference (suc i) v >>= λ _. k) (pairs_in_turn name inner n (suc (suc i)))

-- every row stands
abbrev pub Every : Row → Type 0
Every r = Unit {0}

module _ (input : List ℕ) (room : Room) (P : List Node) where
  -- the reader takes the first tree of g, r and the bytes y are left; what is noted of dump form stands
  pub record Step (rd : Reader ℕ) (g r : F) (σ : Num) (s : State) (y : List ℕ) : Type 0 where
    pub value : ℕ
    pub then' : State
    pub runs : rd s ≡ ok value then'
    pub ahead : Ahead input then'.at y
    pub built : (ws : List ℕ) (T : St) → B ⊥ r (state_seen then') ws T → B ⊥ g (state_seen s) (value ∷ ws) T
    pub inv : Inv P σ (state_seen then')
    pub ranged : Ranged then'
    pub frame : Frame (length s.references) s then'
    pub keeps : Keeps Every s then'
    pub form : then'.notes.form ≡ s.notes.form
    pub even : Even 0 g s r then'

  abbrev pub Takes : Reader ℕ → F → F → List ℕ → Num → Num → Type 0
  Takes rd g r z σ σ₁ = (s : State) (y : List ℕ) → Inv P σ (state_seen s) → Ranged s → Ahead input s.at (z ++ y) → Fits room 0 g s → Step rd g r σ₁ s y

  -- what comes before a box's node was read, from s to u: p, whose nodes are us
  pub record Before (p : F) (us : List ℕ) (σ : Num) (s u : State) : Type 0 where
    pub built : B ⊥ p (state_seen s) us (state_seen u)
    pub inv : Inv P σ (state_seen u)
    pub ranged : Ranged u
    pub frame : Frame (length s.references) s u
    pub keeps : Keeps Every s u
    pub form : u.notes.form ≡ s.notes.form
    pub even : Even 0 p s f_end u

  pub before_none : {σ : Num} (s : State) → Inv P σ (state_seen s) → Ranged s → Before f_end [] σ s s
  before_none s v a = record {
    built = b_end;
    inv = v;
    ranged = a;
    frame = frame_refl _ s;
    keeps = keeps_refl s s refl;
    form = refl;
    even = even_same s;
  }

  pub before_one : {rd : Reader ℕ} {p : F} {σ : Num} {s : State} {y : List ℕ} (t : Step rd p f_end σ s y) → Before p (t.value ∷ []) σ s t.then'
  before_one t = record {
    built = t.built [] (state_seen t.then') b_end;
    inv = t.inv;
    ranged = t.ranged;
    frame = t.frame;
    keeps = t.keeps;
    form = t.form;
    even = t.even;
  }

  -- only the offset differs
  pub before_at : {p : F} {us : List ℕ} {σ : Num} {s u : State} (m n : ℕ) → Before p us σ (at_set m s) u → Before p us σ s (at_set n u)
  unfolding state_seen
  before_at {s = s} {u = u} m n b = record {
    built = b.built;
    inv = b.inv;
    ranged = b.ranged;
    frame = frame_trans (frame_at_set _ m s) (frame_trans b.frame (frame_at_set _ n u));
    keeps = keeps_trans (keeps_refl s (at_set m s) refl) (keeps_trans b.keeps (keeps_refl u (at_set n u) refl));
    form = b.form;
    even = b.even;
  }

  -- a reader that does what another does
  pub step_as : {rd rd' : Reader ℕ} {g r : F} {σ : Num} {s : State} {y : List ℕ} → rd s ≡ rd' s → Step rd' g r σ s y → Step rd g r σ s y
  step_as e t = record {
    value = t.value;
    then' = t.then';
    runs = e ∙ t.runs;
    ahead = t.ahead;
    built = t.built;
    inv = t.inv;
    ranged = t.ranged;
    frame = t.frame;
    keeps = t.keeps;
    form = t.form;
    even = t.even;
  }

  -- a reader by the class, in u, once the class, p, was read
  abbrev pub Wrapped : (ℕ → Reader ℕ) → Bool → F → F → F → List ℕ → Num → Num → Type 0
  Wrapped rd c p g r z σ σ₁ = (w : ℕ) (s u : State) (y : List ℕ) → optional_present w ≡ c → Before p (optional_node w) σ s u → Ahead input u.at (z ++ y) → Fits room 0 g s → Step (λ _. rd w u) g r σ₁ s y

  -- the readers take the trees of a forest one by one
  pub data Items : List (Reader ℕ) → F → List ℕ → Num → Num → Type 0 where
    end : {σ : Num} → Items [] f_end [] σ σ
    item : {rd : Reader ℕ} {rds : List (Reader ℕ)} {g r : F} {x : List ℕ} {σ σ₁ σ' : Num} (z : List ℕ) → Takes rd g r z σ σ₁ → Items rds r x σ₁ σ' → Items (rd ∷ rds) g (z ++ x) σ σ'

  -- the first readers have run, the others are left
  pub record Ran (rds rest : List (Reader ℕ)) (g : F) (σ' : Num) (s : State) (i : ℕ) (y : List ℕ) : Type 0 where
    pub values : List ℕ
    pub then' : State
    pub forest : F
    pub bytes : List ℕ
    pub num : Num
    pub left : Items rest forest bytes num σ'
    pub runs : in_turn rds i s ≡ ok tt then'
    pub ahead : Ahead input then'.at (bytes ++ y)
    pub built : (ws : List ℕ) (T : St) → B ⊥ forest (state_seen then') ws T → B ⊥ g (state_seen s) (values ++ ws) T
    pub inv : Inv P num (state_seen then')
    pub ranged : Ranged then'
    pub frame : Frame i s then'
    pub keeps : Keeps Every s then'
    pub form : then'.notes.form ≡ s.notes.form
    pub holds : range then'.references i (length rds) ≡ values
    pub even : Even 0 g s forest then'

  -- a value was read, put at i, and then others
  run_item : (rd : Reader ℕ) (rds rest : List (Reader ℕ)) (g r : F) (σ σ₁ σ' : Num) (s : State) (i : ℕ) (x y : List ℕ) (t : Step rd g r σ₁ s (x ++ y))
      → i + suc (length rds) ≤ length s.references
      → Ran rds rest r σ' (with_word i t.value t.then') (suc i) y
      → state_seen (with_word i t.value t.then') ≡ state_seen t.then'
      → Ran (rd ∷ rds) rest g σ' s i y
  unfolding in_turn
  run_item rd rds rest g r σ σ₁ σ' s i x y t h u q =
      let v = t.value in
      let s₁ = t.then' in
      let vs = u.values in
      record {
        values = v ∷ vs;
        then' = u.then';
        forest = u.forest;
        bytes = u.bytes;
        num = u.num;
        left = u.left;
        runs = step _ _ s v s₁ t.runs ∙ step _ _ s₁ tt _ (put_runs i v s₁) ∙ u.runs;
        ahead = u.ahead;
        built = λ ws T b. t.built (vs ++ ws) T (subst (λ (S : St). B ⊥ r S (vs ++ ws) T) q (u.built ws T b));
        inv = u.inv;
        ranged = u.ranged;
        frame = frame_trans (frame_below i (omega arith) t.frame) (frame_trans (frame_word i i v s₁ (omega arith)) (frame_below i (omega arith) u.frame));
        keeps = keeps_trans t.keeps (keeps_trans (keeps_refl s₁ (with_word i v s₁) refl) u.keeps);
        form = u.form ∙ t.form;
        holds = range_written s₁ u.then' i (length rds) v vs (omega (arith, t.frame.references_grow)) u.frame u.holds;
        even = record {
          nodes = u.even.nodes ∙ t.even.nodes;
          objects = u.even.objects ∙ t.even.objects;
          symbols = u.even.symbols ∙ t.even.symbols;
          references = omega (arith, u.even.references, t.even.references, length-set s₁.references i v);
          bytes = u.even.bytes ∙ t.even.bytes;
        };
      }

  fits_on : (g r : F) (s t : State) (i v : ℕ) → Even 0 g s r t → Fits room 0 g s → Fits room 0 r (with_word i v t)
  fits_on g r s t i v e f = record {
    nodes = omega (arith, e.nodes, f.nodes);
    objects = omega (arith, e.objects, f.objects);
    symbols = omega (arith, e.symbols, f.symbols);
    references = omega (arith, e.references, f.references, length-set t.references i v);
    bytes = omega (arith, e.bytes, f.bytes);
  }

  pub run_items : (rds rest : List (Reader ℕ)) {g : F} {x : List ℕ} {σ σ' : Num} → Items (rds ++ rest) g x σ σ' → (s : State) (i : ℕ) (y : List ℕ)
      → Inv P σ (state_seen s) → Ranged s → Ahead input s.at (x ++ y) → Fits room 0 g s → i + length rds ≤ length s.references
      → Free i (length rds) s → Ran rds rest g σ' s i y
  unfolding in_turn pure
  run_items [] rest {g = g} {x = x} {σ = σ} it s i y v a h f l c = record {
    values = [];
    then' = s;
    forest = g;
    bytes = x;
    num = σ;
    left = it;
    runs = refl;
    ahead = h;
    built = λ ws T b. b;
    inv = v;
    ranged = a;
    frame = frame_refl i s;
    keeps = keeps_refl s s refl;
    form = refl;
    holds = range_none s.references i;
    even = record { nodes = refl; objects = refl; symbols = refl; references = omega arith; bytes = refl };
  }
  run_items (rd ∷ rds) rest {σ' = σ'} (item {g = g} {r = r} {x = x} {σ = σ} {σ₁ = σ₁} z tk it) s i y v a h f l c =
      let n = length rds in
      let t = tk s (x ++ y) v a (ahead_as _ _ (append_assoc z x y) h) f in
      let s₁ = t.then' in
      let c₁ : Free i (suc n) s₁ = t.frame.stays_free i (suc n) l c in
      let q = seen_word i t.value s₁ t.ranged (free_part i (suc n) i 1 s₁ (omega arith) (omega arith) c₁) in
      let u = run_items rds rest it (with_word i t.value s₁) (suc i) y (subst (Inv P σ₁) (psym q) t.inv) (ranged_word i t.value s₁ t.ranged)
      t.ahead (fits_on g r s s₁ i t.value t.even f) (omega (arith, t.frame.references_grow, length-set s₁.references i t.value))
      (free_part i (suc n) (suc i) n s₁ (omega arith) (omega arith) c₁) in
      run_item rd rds rest g r σ σ₁ σ' s i x y t l u q

  -- a count was read and its words reserved, the first readers have filled them, the others are left
  pub record Counted (each n : ℕ) (rest : List (Reader ℕ)) (read : ℕ → ℕ → Reader (Unit {0})) (f : F) (σ' : Num) (s : State) (z : List ℕ) : Type 0 where
    pub values : List ℕ
    pub then' : State
    pub forest : F
    pub bytes : List ℕ
    pub num : Num
    pub left : Items rest forest bytes num σ'
    pub runs : (k : ℕ → ℕ → Reader ℕ) → counted input room each (λ start m. read start m >>= λ _. k start m) s ≡ k (length s.references) n then'
    pub ahead : Ahead input then'.at (bytes ++ z)
    pub built : (ws : List ℕ) (T : St) → B ⊥ forest (state_seen then') ws T → B ⊥ f (state_seen s) (values ++ ws) T
    pub inv : Inv P num (state_seen then')
    pub ranged : Ranged then'
    pub frame : Frame (length s.references) s then'
    pub keeps : Keeps Every s then'
    pub form : then'.notes.form ≡ s.notes.form
    pub holds : range then'.references (length s.references) (n * each) ≡ values
    pub inside : length s.references + n * each ≤ length then'.references
    pub even : Even (n * each) f s forest then'

  abbrev counted_at : ℕ → State → State
  counted_at n s = at_set (s.at + length (integer_bytes n)) s

  abbrev reserved : ℕ → ℕ → State → State
  reserved each n s = with_room (n * each) (counted_at n s)

  counted_from : (each n : ℕ) (rds rest : List (Reader ℕ)) (read : ℕ → ℕ → Reader (Unit {0})) (f : F) (σ' : Num) (s : State) (z : List ℕ)
      → read (length s.references) n ≡ in_turn rds (length s.references) → length rds ≡ n * each
      → read_count input s ≡ ok n (counted_at n s) → length s.references + n * each ≤ room.references
      → state_seen (reserved each n s) ≡ state_seen s → Ran rds rest f σ' (reserved each n s) (length s.references) z → Counted each n rest read f σ' s z
  unfolding counted
  counted_from each n rds rest read f σ' s z e₁ e₂ e₃ e₄ q u =
      let p = length s.references in
      let l₁ = length-replicate {A = ℕ} (n * each) 0 in
      let l₂ = length-append s.references (replicate (n * each) 0) in
      record {
        values = u.values;
        then' = u.then';
        forest = u.forest;
        bytes = u.bytes;
        num = u.num;
        left = u.left;
        runs = λ k.
            step _ _ s n _ e₃ ∙ step _ _ (counted_at n s) p _ (reserve_runs room (counted_at n s) (n * each) e₄)
            ∙ step _ _ (reserved each n s) tt u.then' (ap (λ (m : Reader (Unit {0})). m (reserved each n s)) e₁ ∙ u.runs);
        ahead = u.ahead;
        built = λ ws T b. subst (λ (S : St). B ⊥ f S (u.values ++ ws) T) q (u.built ws T b);
        inv = u.inv;
        ranged = u.ranged;
        frame = frame_trans (frame_at_set p _ s) (frame_trans (frame_words p (replicate (n * each) 0) (counted_at n s)) u.frame);
        keeps = keeps_trans (keeps_refl s (reserved each n s) refl) u.keeps;
        form = u.form;
        holds = subst (λ (k : ℕ). range u.then'.references p k ≡ u.values) e₂ u.holds;
        inside = omega (arith, l₁, l₂, u.frame.references_grow);
        even = record {
          nodes = u.even.nodes;
          objects = u.even.objects;
          symbols = u.even.symbols;
          references = omega (arith, u.even.references, l₁, l₂);
          bytes = u.even.bytes;
        };
      }

  pub counted_runs : (each n : ℕ) (rds rest : List (Reader ℕ)) (read : ℕ → ℕ → Reader (Unit {0})) {f : F} {y : List ℕ} {σ σ' : Num} (s : State) (z : List ℕ)
      → read (length s.references) n ≡ in_turn rds (length s.references) → length rds ≡ n * each → n < 2147483648 → Items (rds ++ rest) f y σ σ'
      → Inv P σ (state_seen s) → Ranged s → Ahead input s.at (integer_bytes n ++ (y ++ z)) → Fits room (n * each) f s → Counted each n rest read f σ' s z
  counted_runs each n rds rest read {f = f} {y = y} {σ = σ} {σ' = σ'} s z e₁ e₂ h it v a d g =
      let s₁ = counted_at n s in
      let zs : List ℕ = replicate (n * each) 0 in
      let l₁ = length-replicate {A = ℕ} (n * each) 0 in
      let l₂ = length-append s.references zs in
      let q : state_seen (reserved each n s) ≡ state_seen s = room_seen (n * each) s₁ a ∙ seen_at_set _ s in
      let u = run_items rds rest it (reserved each n s) (length s.references) z (subst (Inv P σ) (psym q) v) (ranged_words zs s₁ a) (ahead_past (integer_bytes n) (y ++ z) d)
      (record { nodes = g.nodes; objects = g.objects; symbols = g.symbols; references = omega (arith, g.references); bytes = g.bytes })
      (omega arith) (free_new (length rds) zs s₁ a) in
      counted_from each n rds rest read f σ' s z e₁ e₂ (read_count_ahead input s n (y ++ z) h d) (omega (arith, g.references)) q u
