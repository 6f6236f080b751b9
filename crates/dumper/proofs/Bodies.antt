-- Values of kinds 6 to 10 up to their pairs: what each call adds.
use Prim.Native.Nat.{ℕ, ◌*◌, ◌+◌, ◌≤◌, ◌<◌}
use native.Mathlib.Omega.{arith}
use mathlib.Core.Path.{◌≡◌, sym, ap}
use mathlib.Core.List.{List, ◌∷◌, ◌++◌}
use lib.Dec.{eqb}
use lib.ListN.{length, get_or, take, drop}
use Rattle.definition.specs.Run.{pure}
use Rattle.definition.specs.Integer.{integer_bytes}
use Rattle.definition.specs.Kind.{OBJECT, STRING, USER_DEFINED, FLOAT, BIGNUM}
use Rattle.definition.specs.Magnitude.{magnitude, bignum_bytes}
use Rattle.definition.specs.Node.{width, optional_node}
use Rattle.definition.specs.Arena.{Arena, node, range}
use Rattle.definition.specs.Dump.{Writer, ◌>>◌, write, write_level, write_elements, write_instance_variables, write_object_or_link, write_row, write_value}
use Rattle.lists.specs.Lists.{no_at}
use Rattle.well_formed.specs.Right.{PairsIn, ClassRight}
use Rattle.std.specs.declared.result.Result.TheVariants.{Ok, Err}
use Rattle.writer.specs.declared.Progress.{Progress}
use Rattle.writer.specs.declared.Stop.{Stop}
use Rattle.writer.specs.Held.{Buffers, buffers, Lent, Listed, Ready, IsSymbol, named, Goes, Meets}
use Rattle.writer.specs.Laws.{Passed, then, goes_to, goes_first, lead_first, ready_goes, ready_as}
use Rattle.writer.proofs.Names.{right_row}
use Rattle.object_writer.specs.declared.Opened.{Opened}
use Rattle.object_writer.specs.declared.Opened.TheVariants.{More, Whole}
use Rattle.object_writer.specs.Values.{IsObject, Beginning, Heads, Opens, begun, opened, texted}
use Rattle.dumper.specs.Members.{members_of, MembersIn}
use Rattle.object_writer.specs.Laws.{head_as, head_to, head_after, head_goes, head_whole, head_stop}
use Rattle.dumper.proofs.Heads.{is_object, array_row, hash_row, object_row, string_row, user_row, float_row, bignum_row, symbol_as, bytes_inside, object_open, string_open, user_open, float_open, bignum_open, after, after_none, after_some, vars_present, members_pairs, in_pairs}

-- the tables, the node and the levels left for its members
pub record Here : Type 0 where
  pub nodes : List ℕ
  pub references : List ℕ
  pub bytes : List ℕ
  pub v : ℕ
  pub levels : ℕ

abbrev pub here : List ℕ → List ℕ → List ℕ → ℕ → ℕ → Here
here n r b v levels = record { nodes = n; references = r; bytes = b; v = v; levels = levels }

module _ (h : Here) where
  abbrev word : ℕ → ℕ
  word i = get_or h.nodes (h.v * width + i) 0

  -- the node's value; its pairs as members; its variables
  abbrev value : Arena → ℕ → ℕ → Writer
  value A room limit = write_row room A (write_level limit h.levels) (write_value room A limit h.levels) h.v (node A h.v)

  abbrev pairs : ℕ → Arena → ℕ → ℕ → Writer
  pairs k A room limit = members_of room A (write_value room A limit h.levels) k (word 3) (word 4) (word 6)

  abbrev pub variables : Arena → ℕ → ℕ → Writer
  variables A room limit = write_instance_variables room A (write_value room A limit h.levels) (word 3) (word 4)

  -- its byte string; after that, variables where the mark says that there are some
  abbrev text : Arena → ℕ → ℕ → Writer
  text A room limit = write room (integer_bytes (word 2) ++ take (word 2) (drop (word 1) h.bytes))

  abbrev rest : Arena → ℕ → ℕ → Writer
  rest A room limit = after room A (write_level limit h.levels) (write_value room A limit h.levels) h.v (word 6) (word 3) (word 4)

  abbrev pub text_rest : Arena → ℕ → ℕ → Writer
  text_rest A room limit = text A room limit >> rest A room limit

  -- what holds of every arena that is lent
  abbrev Of : (Arena → Type 0) → Type 0
  Of P = (A : Arena) → Lent A h.nodes h.bytes → h.v < length A.nodes → P A

  abbrev Each : (Arena → ℕ → ℕ → Type 0) → Type 0
  Each P = (A : Arena) (room limit : ℕ) → Lent A h.nodes h.bytes → Listed A h.references → h.v < length A.nodes → P A room limit

  abbrev Reached : (Arena → ℕ → ℕ → Writer) → Buffers → Progress → Buffers → Progress → Type 0
  Reached m B c B' c' = Each (λ A room limit. Goes A room (value A room limit) B c (m A room limit) B' c')

  abbrev Held : Arena → Type 0
  Held A = Lent A h.nodes h.bytes × Listed A h.references × (h.v < length A.nodes)

  reached_ready : {B B₁ : Buffers} {c c₁ : Progress} (m : Arena → ℕ → ℕ → Writer) → Reached m B c B₁ c₁ → Ready Held B c → Ready Held B₁ c₁
  reached_ready m g R = ready_goes R (g R.arena R.room 0 R.fact.0 R.fact.1 R.fact.2)

  -- what is held where the variables are opened
  pub pairs_ready : {B B₁ : Buffers} {c c₁ : Progress} (m : Arena → ℕ → ℕ → Writer) → Of (λ A. PairsIn A (word 3) (word 4)) → Reached m B c B₁ c₁ → Ready Held B c → Ready (λ A. Lent A h.nodes h.bytes × Listed A h.references × PairsIn A (word 3) (word 4)) B₁ c₁
  pairs_ready m inside g R = ready_as (λ A f. (f.0, f.1, inside A f.0 f.2)) (reached_ready m g R)

  -- no variables come after the byte string, or some do
  no_variables : {B B₁ : Buffers} {c c₁ : Progress} → word 6 ≡ 0 → Reached rest B c B₁ c₁ → Each (λ A room limit. Goes A room (value A room limit) B c (pure tt) B₁ c₁)
  no_variables z g A room limit L l b = goes_to (after_none room A (write_level limit h.levels) (write_value room A limit h.levels) h.v (word 6) (word 3) (word 4) z) (g A room limit L l b)

  pub some_variables : {B B₁ : Buffers} {c c₁ : Progress} → (word 6 ≡ 0 → ⊥) → Reached rest B c B₁ c₁ → Reached variables B c B₁ c₁
  some_variables n g A room limit L l b = goes_to (after_some room A (write_level limit h.levels) (write_value room A limit h.levels) h.v (word 6) (word 3) (word 4) n) (g A room limit L l b)

module _ (h : Here) (k : ℕ) where
  -- what the contracts say of an answer
  abbrev Answers : Buffers → Progress → Beginning → Buffers → Progress → Type 0
  Answers B c r B' c' = Each h (λ A room limit. Heads A room limit (value h A room limit) (pairs h k A room limit) B c r B' c')

  -- by the kind as it was read
  pub answers_as : {B B₁ : Buffers} {c c₁ : Progress} {r : Beginning} (j : ℕ) → k ≡ j → Each h (λ A room limit. Heads A room limit (value h A room limit) (pairs h j A room limit) B c r B₁ c₁) → Answers B c r B₁ c₁
  answers_as j e f A room limit L l b = head_to (ap (λ (i : ℕ). pairs h i A room limit) (sym e)) (f A room limit L l b)

  -- the first call is refused, or has written the whole value, or comes to m
  module _ {B B₁ : Buffers} {c c₁ : Progress} (m : Arena → ℕ → ℕ → Writer) where
    pub first_stops : {q : Stop} {s : Beginning} → Passed s q → Each h (λ A room limit. Heads A room limit (value h A room limit) (m A room limit) B c (Err q) B₁ c₁) → Answers B c s B₁ c₁
    first_stops p first A room limit L l b = head_stop _ p (first A room limit L l b).heads

    module _ {x : Opened} (first : Each h (λ A room limit. Heads A room limit (value h A room limit) (m A room limit) B c (Ok x) B₁ c₁)) where
      pub first_whole : x ≡ Whole → Answers B c (Ok Whole) B₁ c₁
      first_whole e A room limit L l b = record { heads = head_whole e (first A room limit L l b) }

      pub first_done : (x ≡ Whole → ⊥) → Reached h m B c B₁ c₁
      first_done n A room limit L l b = head_goes n (first A room limit L l b)

  -- a call that writes x before m
  module _ {B B₁ B₂ : Buffers} {c c₁ c₂ : Progress} (x m : Arena → ℕ → ℕ → Writer) (before : Reached h (λ A room limit. x A room limit >> m A room limit) B c B₁ c₁) where
    next_stops : {q : Stop} {s : Beginning} → Passed s q → Each h (λ A room limit. Meets A room limit (x A room limit) B₁ c₁ (Err q) B₂ c₂) → Answers B c s B₂ c₂
    next_stops p next A room limit L l b = head_after (before A room limit L l b) (head_stop _ p (lead_first _ (next A room limit L l b)).leads)

    next_done : {u : Unit {0}} → Each h (λ A room limit. Meets A room limit (x A room limit) B₁ c₁ (Ok u) B₂ c₂) → Reached h m B c B₂ c₂
    next_done next A room limit L l b = then (before A room limit L l b) (goes_first _ (next A room limit L l b).leads)

  -- the first call, and then the one that writes the byte and the name
  module _ {B B₁ : Buffers} {c c₁ : Progress} {x : Opened} (m : Arena → ℕ → ℕ → Writer) (byte name : ℕ) (first : Each h (λ A room limit. Heads A room limit (value h A room limit) (named room A byte name >> m A room limit) B c (Ok x) B₁ c₁)) (z : x ≡ Whole → ⊥) (symbol : Of h (λ A. IsSymbol A name)) where
    before_name : Reached h (λ A room limit. named room A byte name >> m A room limit) B c B₁ c₁
    before_name = first_done _ first z

    pub name_ready : Ready (Held h) B c → Ready (λ A. Lent A h.nodes h.bytes × IsSymbol A name) B₁ c₁
    name_ready R = ready_as (λ A f. (f.0, symbol A f.0 f.2)) (reached_ready h _ before_name R)

    pub name_stops : {B₂ : Buffers} {c₂ : Progress} {q : Stop} {s : Beginning} → Passed s q → ((A : Arena) (room limit : ℕ) → Lent A h.nodes h.bytes → IsSymbol A name → Meets A room limit (named room A byte name) B₁ c₁ (Err q) B₂ c₂) → Answers B c s B₂ c₂
    name_stops p f = next_stops (λ A room limit. named room A byte name) m before_name p (λ A room limit L l b. f A room limit L (symbol A L b))

    pub name_done : {B₂ : Buffers} {c₂ : Progress} {u : Unit {0}} → ((A : Arena) (room limit : ℕ) → Lent A h.nodes h.bytes → IsSymbol A name → Meets A room limit (named room A byte name) B₁ c₁ (Ok u) B₂ c₂) → Reached h m B c B₂ c₂
    name_done f = next_done (λ A room limit. named room A byte name) m before_name (λ A room limit L l b. f A room limit L (symbol A L b))

  -- the call that writes the byte string
  module _ {B : Buffers} {sc out out' : List ℕ} {c c₁ c₂ : Progress} (before : Reached h (text_rest h) B c (buffers sc out) c₁) where
    pub text_stops : {q : Stop} {s : Beginning} → Passed s q → ((A : Arena) (room limit : ℕ) (sc : List ℕ) → Meets A room limit (text h A room limit) (buffers sc out) c₁ (Err q) (buffers sc out') c₂) → Answers B c s (buffers sc out') c₂
    text_stops p t = next_stops (text h) (rest h) before p (λ A room limit L l b. t A room limit sc)

    pub text_done : {u : Unit {0}} → ((A : Arena) (room limit : ℕ) (sc : List ℕ) → Meets A room limit (text h A room limit) (buffers sc out) c₁ (Ok u) (buffers sc out') c₂) → Reached h (rest h) B c (buffers sc out') c₂
    text_done t = next_done (text h) (rest h) before (λ A room limit L l b. t A room limit sc)

  -- nothing can come after it
  pub ended : {B B₁ : Buffers} {c c₁ : Progress} → Each h (λ A room limit. Goes A room (value h A room limit) B c (pure tt) B₁ c₁) → Answers B c (Ok Whole) B₁ c₁
  ended g A room limit L l b = record { heads = g A room limit L l b }

  -- nothing comes after it
  pub whole : {B B₁ : Buffers} {c c₁ : Progress} → word h 6 ≡ 0 → Reached h (rest h) B c B₁ c₁ → Answers B c (Ok Whole) B₁ c₁
  whole z g = ended (no_variables h z g)

  -- the call that opens the variables
  module _ (is : get_or h.nodes (h.v * width) 0 ≡ k) (high : 5 < k) (inside : Of h (λ A. PairsIn A (word h 3) (word h 4))) where
    pub variables_heads : {B B₁ B₂ : Buffers} {c c₁ c₂ : Progress} {r : Beginning} → Reached h (variables h) B c B₁ c₁ → ((A : Arena) (room limit : ℕ) → Lent A h.nodes h.bytes → Listed A h.references → PairsIn A (word h 3) (word h 4) → Heads A room limit (variables h A room limit) (write_elements (write_value room A limit h.levels) (range A.references (word h 3) (word h 4 * 2))) B₁ c₁ r B₂ c₂) → Answers B c r B₂ c₂
    variables_heads g m A room limit L l b =
        let as-pairs = members_pairs room A (write_value room A limit h.levels) k (word h 3) (word h 4) (word h 6) (λ q. omega (arith, q)) (λ q. omega (arith, q)) in
        head_after (g A room limit L l b) (head_to (sym as-pairs) (m A room limit L l (inside A L b)))

    pub variables_in : {r : Beginning} → Of h (λ A. r ≡ Ok More → MembersIn A h.nodes h.v)
    variables_in A L b e = in_pairs h.nodes h.v (λ q. omega (arith, q)) (λ q. omega (arith, q)) (inside A L b)

  module _ (is : get_or h.nodes (h.v * width) 0 ≡ k) (high : 3 < k) where
    object_here : k ≤ 10 → Of h (λ A. IsObject A h.v)
    object_here low A L b = is_object L.noded h.v b k is high low

    pub object_ready : {B : Buffers} {c : Progress} → k ≤ 10 → Ready (Held h) B c → Ready (λ A. IsObject A h.v) B c
    object_ready low = ready_as (λ A f. object_here low A f.0 f.2)

    -- what is held where a class is written
    pub class_ready : {B : Buffers} {c : Progress} (w : ℕ) → k ≤ 10 → Of h (λ A. ClassRight A w) → Ready (Held h) B c → Ready (λ A. Lent A h.nodes h.bytes × IsObject A h.v × ClassRight A w) B c
    class_ready w low class = ready_as (λ A f. (f.0, object_here low A f.0 f.2, class A f.0 f.2))

-- ---- by kind

pub array_class : (h : Here) → get_or h.nodes (h.v * width) 0 ≡ 4 → Of h (λ A. ClassRight A (word h 7))
array_class h is A L b = (right_row L h.v b _ (array_row L.noded h.v b is)).1

pub hash_class : (h : Here) → get_or h.nodes (h.v * width) 0 ≡ 5 → Of h (λ A. ClassRight A (word h 7))
hash_class h is A L b = (right_row L h.v b _ (hash_row L.noded h.v b is)).2

module _ (h : Here) (is : get_or h.nodes (h.v * width) 0 ≡ 6) where
  pub object_pairs : Of h (λ A. PairsIn A (word h 3) (word h 4))
  object_pairs A L b = (right_row L h.v b _ (object_row L.noded h.v b is)).1

  module _ (name : ℕ) (e : name ≡ word h 5) where
    pub object_name : Of h (λ A. IsSymbol A name)
    object_name A L b = symbol_as _ name e (right_row L h.v b _ (object_row L.noded h.v b is)).0

    pub object_first : {B B₁ : Buffers} {c c₁ : Progress} {r : Beginning} → ((A : Arena) (room limit : ℕ) → IsObject A h.v → Opens A room limit (write_object_or_link room h.v) B c r B₁ c₁) → Each h (λ A room limit. Heads A room limit (value h A room limit) (named room A OBJECT name >> variables h A room limit) B c r B₁ c₁)
    object_first o A room limit L l b = head_as (object_open room A (write_level limit h.levels) (write_value room A limit h.levels) h.v _ _ _ name (object_row L.noded h.v b is) e) (o A room limit (object_here h 6 is (omega arith) (omega arith) A L b) _)

-- what open_marked does
abbrev Marks : Here → Buffers → Progress → Beginning → Buffers → Progress → Type 0
Marks h B c r B' c' = (A : Arena) (room limit : ℕ) → IsObject A h.v → Opens A room limit (λ m. write_object_or_link room h.v (begun room (write_level limit h.levels) (word h 6) m)) B c r B' c'

-- no class is right
pub no_class : (A : Arena) → ClassRight A 0
unfolding optional_node
no_class A k c e = no_at k c e

-- what open_text does
abbrev Texts : Here → ℕ → ℕ → ℕ → Buffers → Progress → Beginning → Buffers → Progress → Type 0
Texts h f w k B c r B' c' = (A : Arena) (room limit : ℕ) → Lent A h.nodes h.bytes → IsObject A h.v → ClassRight A w → Opens A room limit (texted room A h.v (write_level limit h.levels) f w (k ∷ (integer_bytes (word h 2) ++ take (word h 2) (drop (word h 1) h.bytes)))) B c r B' c'

module _ (h : Here) (is : get_or h.nodes (h.v * width) 0 ≡ 7) where
  pub string_inside : Of h (λ A. word h 1 + word h 2 ≤ length h.bytes)
  string_inside A L b = bytes_inside _ _ L (right_row L h.v b _ (string_row L.noded h.v b is)).0

  pub string_pairs : (word h 6 ≡ 0 → ⊥) → Of h (λ A. PairsIn A (word h 3) (word h 4))
  string_pairs n A L b = vars_present _ _ _ n (right_row L h.v b _ (string_row L.noded h.v b is)).1

  pub string_class : Of h (λ A. ClassRight A (word h 7))
  string_class A L b = (right_row L h.v b _ (string_row L.noded h.v b is)).2

  pub string_first : {B B₁ : Buffers} {c c₁ : Progress} {r : Beginning} → Texts h (word h 6) (word h 7) STRING B c r B₁ c₁ → Each h (λ A room limit. Heads A room limit (value h A room limit) (rest h A room limit) B c r B₁ c₁)
  string_first o A room limit L l b =
      let row = string_row L.noded h.v b is in
      head_as (string_open room A (write_level limit h.levels) (write_value room A limit h.levels) h.v L _ _ (right_row L h.v b _ row).0 _ _ _ _ row) (o A room limit L (object_here h 7 is (omega arith) (omega arith) A L b) (string_class A L b) _)

module _ (h : Here) (is : get_or h.nodes (h.v * width) 0 ≡ 8) where
  pub user_inside : Of h (λ A. word h 1 + word h 2 ≤ length h.bytes)
  user_inside A L b = bytes_inside _ _ L (right_row L h.v b _ (user_row L.noded h.v b is)).0

  pub user_pairs : (word h 6 ≡ 0 → ⊥) → Of h (λ A. PairsIn A (word h 3) (word h 4))
  user_pairs n A L b = vars_present _ _ _ n (right_row L h.v b _ (user_row L.noded h.v b is)).2

  module _ (name : ℕ) (e : name ≡ word h 5) where
    pub user_name : Of h (λ A. IsSymbol A name)
    user_name A L b = symbol_as _ name e (right_row L h.v b _ (user_row L.noded h.v b is)).1

    pub user_first : {B B₁ : Buffers} {c c₁ : Progress} {r : Beginning} → Marks h B c r B₁ c₁ → Each h (λ A room limit. Heads A room limit (value h A room limit) (named room A USER_DEFINED name >> text_rest h A room limit) B c r B₁ c₁)
    user_first o A room limit L l b =
        let row = user_row L.noded h.v b is in
        head_as (user_open room A (write_level limit h.levels) (write_value room A limit h.levels) h.v L _ _ (right_row L h.v b _ row).0 _ _ _ _ name e row) (o A room limit (object_here h 8 is (omega arith) (omega arith) A L b) _)

module _ (h : Here) (is : get_or h.nodes (h.v * width) 0 ≡ 9) where
  pub float_inside : Of h (λ A. word h 1 + word h 2 ≤ length h.bytes)
  float_inside A L b = bytes_inside _ _ L (right_row L h.v b _ (float_row L.noded h.v b is))

  pub float_first : {B B₁ : Buffers} {c c₁ : Progress} {r : Beginning} → Texts h 0 0 FLOAT B c r B₁ c₁ → Each h (λ A room limit. Heads A room limit (value h A room limit) (pure tt) B c r B₁ c₁)
  float_first o A room limit L l b =
      let row = float_row L.noded h.v b is in
      head_as (float_open room A (write_level limit h.levels) (write_value room A limit h.levels) h.v L _ _ (right_row L h.v b _ row) row) (o A room limit L (object_here h 9 is (omega arith) (omega arith) A L b) (no_class A) _)

module _ (h : Here) (is : get_or h.nodes (h.v * width) 0 ≡ 10) where
  pub bignum_first : {B B₁ : Buffers} {c c₁ : Progress} {r : Beginning} → ((A : Arena) (room limit : ℕ) → IsObject A h.v → Opens A room limit (opened room h.v (BIGNUM ∷ bignum_bytes (eqb (word h 4) 1) (magnitude (word h 1) (word h 2)))) B c r B₁ c₁) → Each h (λ A room limit. Heads A room limit (value h A room limit) (pure tt) B c r B₁ c₁)
  bignum_first o A room limit L l b = head_as (bignum_open room A (write_level limit h.levels) (write_value room A limit h.levels) h.v _ _ _ (bignum_row L.noded h.v b is)) (o A room limit (object_here h 10 is (omega arith) (omega arith) A L b) _)
