-- The builder's calls, each taken apart: what an accepted one adds to a well-formed arena.
use Rattle.std.specs.Prelude.{ℕ, zero, suc, ◌*◌, ◌/◌, ◌≤◌, ◌<◌, ◌≡◌, Bool, true, ltb, ℤ, length}
use Rattle.std.proofs.Math.Path.{refl, ap}
use Rattle.std.proofs.Common.{sym, ◌∙◌, arith}
use Rattle.std.proofs.Math.Option.{Option, none, some}
use mathlib.Core.List.{List, [], ◌∷◌, ◌++◌}
use Rattle.definition.specs.Run.{Run, ok, pure, look, pick}
use Rattle.definition.specs.Node.{Row, nil, bool, fixnum, symbol, array, hash, object, string, user, float, bignum, absent, optional_node}
use Rattle.definition.specs.Magnitude.{sign, magnitude}
use Rattle.definition.specs.Arena.{Tables, Arena, firsts, is_name, all_below, all_names, fault, bytes_right, row_right, vars_right, class_right, find_symbol}
use Rattle.definition.specs.Build.{Lent, held, wrong, byte_slice, member_slice, pair_slice, set_root, exchange_root, add, bits, create_nil, create_bool, create_fixnum, add_symbol, create_new_symbol, known_or_new, create_symbol, create_array, create_hash, create_object, create_string, create_user_defined, create_float, create_bignum}
use Rattle.lists.specs.Joined.{yes_and, pick_true}
use Rattle.lists.specs.Slices.{lowest_none, whole_pairs, tables_right}
use Rattle.well_formed.specs.Right.{Fit, below_of, fault_fit}
use Rattle.states.specs.Right.{sign_right, number_right_yes}
use Rattle.builder_laws.specs.Grown.{grown, name_grown, bytes_added, list_added, pairs_added, default_added}
use Rattle.builder_laws.specs.Append.{Room, appended}
use Rattle.well_formed.specs.Checks.{after_check, after_handles}
use Rattle.builder_laws.specs.Checks.{after_handles_checked, after_names, after_magnitude, after_add}

-- ---- the calls

pub data Builder : Type 0 where
  make_nil : Builder
  make_bool : Bool → Builder
  make_fixnum : ℤ → Builder
  make_new_symbol : List ℕ → Builder
  make_symbol : List ℕ → Builder
  make_array : List ℕ → Builder
  make_hash : List ℕ → ℕ → Builder
  make_object : ℕ → List ℕ → Builder
  make_string : List ℕ → Builder
  make_user_defined : ℕ → List ℕ → Builder
  make_float : List ℕ → Builder
  make_bignum : Bool → ℕ → ℕ → Builder
  move_root : ℕ → Builder

abbrev pub run : Builder → Run Lent ℕ
run make_nil = create_nil
run (make_bool v) = create_bool v
run (make_fixnum z) = create_fixnum z
run (make_new_symbol name) = create_new_symbol name
run (make_symbol name) = create_symbol name
run (make_array ms) = create_array ms
run (make_hash ps d) = create_hash ps d
run (make_object c ps) = create_object c ps
run (make_string bs) = create_string bs
run (make_user_defined c bs) = create_user_defined c bs
run (make_float bs) = create_float bs
run (make_bignum minus low high) = create_bignum minus low high
run (move_root h) = exchange_root h

-- a call that makes a node
abbrev pub Makes : Builder → Type 0
Makes make_nil = Unit {0}
Makes (make_bool v) = Unit {0}
Makes (make_fixnum z) = Unit {0}
Makes (make_new_symbol name) = Unit {0}
Makes (make_symbol name) = Unit {0}
Makes (make_array ms) = Unit {0}
Makes (make_hash ps d) = Unit {0}
Makes (make_object c ps) = Unit {0}
Makes (make_string bs) = Unit {0}
Makes (make_user_defined c bs) = Unit {0}
Makes (make_float bs) = Unit {0}
Makes (make_bignum minus low high) = Unit {0}
Makes (move_root h) = ⊥

-- its byte string, its list, and its row where these start at b and r
abbrev pub made_bytes : Builder → List ℕ
made_bytes make_nil = []
made_bytes (make_bool v) = []
made_bytes (make_fixnum z) = []
made_bytes (make_new_symbol name) = name
made_bytes (make_symbol name) = name
made_bytes (make_array ms) = []
made_bytes (make_hash ps d) = []
made_bytes (make_object c ps) = []
made_bytes (make_string bs) = bs
made_bytes (make_user_defined c bs) = bs
made_bytes (make_float bs) = bs
made_bytes (make_bignum minus low high) = []
made_bytes (move_root h) = []

abbrev pub made_list : Builder → List ℕ
made_list make_nil = []
made_list (make_bool v) = []
made_list (make_fixnum z) = []
made_list (make_new_symbol name) = []
made_list (make_symbol name) = []
made_list (make_array ms) = ms
made_list (make_hash ps d) = ps
made_list (make_object c ps) = ps
made_list (make_string bs) = []
made_list (make_user_defined c bs) = []
made_list (make_float bs) = []
made_list (make_bignum minus low high) = []
made_list (move_root h) = []

abbrev pub made_row : Builder → ℕ → ℕ → Row
made_row make_nil b r = nil
made_row (make_bool v) b r = bool v
made_row (make_fixnum z) b r = fixnum (bits z)
made_row (make_new_symbol name) b r = symbol b (length name)
made_row (make_symbol name) b r = symbol b (length name)
made_row (make_array ms) b r = array r (length ms) 0
made_row (make_hash ps d) b r = hash r (length ps / 2) d 0
made_row (make_object c ps) b r = object r (length ps / 2) c
made_row (make_string bs) b r = string b (length bs) absent 0
made_row (make_user_defined c bs) b r = user b (length bs) c absent
made_row (make_float bs) b r = float b (length bs)
made_row (make_bignum minus low high) b r = bignum low high (sign minus (magnitude low high))
made_row (move_root h) b r = nil

-- a list of pairs has a whole number of them
abbrev pub Even : Builder → Type 0
Even make_nil = Unit {0}
Even (make_bool v) = Unit {0}
Even (make_fixnum z) = Unit {0}
Even (make_new_symbol name) = Unit {0}
Even (make_symbol name) = Unit {0}
Even (make_array ms) = Unit {0}
Even (make_hash ps d) = length ps ≡ length ps / 2 * 2
Even (make_object c ps) = length ps ≡ length ps / 2 * 2
Even (make_string bs) = Unit {0}
Even (make_user_defined c bs) = Unit {0}
Even (make_float bs) = Unit {0}
Even (make_bignum minus low high) = Unit {0}
Even (move_root h) = Unit {0}

-- ---- a node added

pub record Added (L : Lent) (bs ms : List ℕ) (r : Row) (h : ℕ) (M : Lent) : Type 0 where
  pub room : Room L bs ms
  pub right : row_right (grown (held L) bs ms r) r ≡ true
  pub handle : h ≡ L.counts.nodes
  pub left : M ≡ appended L bs ms r

abbrev pub AddedBy : Builder → Lent → ℕ → Lent → Type 0
AddedBy c L h M = Added L (made_bytes c) (made_list c) (made_row c L.counts.bytes L.counts.references) h M

-- the root moved to n
abbrev pub rooted : Lent → ℕ → Lent
rooted L n = record { tables = L.tables; counts = record { nodes = L.counts.nodes; references = L.counts.references; bytes = L.counts.bytes; root = n } }

-- what an accepted call did to L: it added its node, found a known name, or moved the root
pub data Did (L : Lent) (h : ℕ) (M : Lent) : Builder → Type 0 where
  added : {c : Builder} → Makes c → Even c → AddedBy c L h M → Did L h M c
  known : {name : List ℕ} → find_symbol (held L).bytes name (held L).nodes 0 ≡ some h → M ≡ L → Did L h M (make_symbol name)
  moved : {n : ℕ} → n < L.counts.nodes → h ≡ L.counts.root → M ≡ rooted L n → Did L h M (move_root n)

-- ---- what the tests of the slices say

even_pairs : (T : Tables) (ps : List ℕ) → wrong T (pair_slice ps ∷ []) ≡ 0 → length ps ≡ length ps / 2 * 2
unfolding wrong pair_slice
even_pairs T ps e = sym (whole_pairs (length ps) (lowest_none 8 _ _ (tables_right _ _ _ _ e).1).0)

all_below_parts : (n : ℕ) (l m : List ℕ) → all_below n (l ++ m) ≡ true → (all_below n l ≡ true) × (all_below n m ≡ true)
unfolding all_below pick
all_below_parts n [] m e = (refl, e)
all_below_parts n (x ∷ l) m e =
    let (p, q) = pick_true (ltb x n) (all_below n (l ++ m)) e in
    let (u, v) = all_below_parts n l m q in
    (rw (p, u), v)

default_most : (n d : ℕ) → all_below n (optional_node d) ≡ true → d ≤ n
unfolding optional_node
default_most n zero e = omega arith
default_most n (suc d) e = below_of n (d ∷ []) e 0 d refl

all_below_first : (n c : ℕ) (l : List ℕ) → all_below n (c ∷ l) ≡ true → all_below n l ≡ true
unfolding all_below
all_below_first n c l e = (pick_true (ltb c n) (all_below n l) e).1

all_names_first : (A : Arena) (c : ℕ) (l : List ℕ) → all_names A (c ∷ l) ≡ true → (is_name A c ≡ true) × (all_names A l ≡ true)
unfolding all_names
all_names_first A c l e = pick_true (is_name A c) (all_names A l) e

-- ---- call by call

module _ (L M : Lent) (h : ℕ) where
  abbrev Sound : Type 0
  Sound = fault L.tables L.counts ≡ none

  add_done : (bs ms : List ℕ) (row : ℕ → ℕ → Row) → Sound
      → (Fit L.tables L.counts → row_right (grown (held L) bs ms (row L.counts.bytes L.counts.references)) (row L.counts.bytes L.counts.references) ≡ true)
      → add bs ms row L ≡ ok h M → Added L bs ms (row L.counts.bytes L.counts.references) h M
  add_done bs ms row s r e =
      let f = fault_fit L.tables L.counts s in
      let (ρ, p, q) = after_add bs ms row L M h f.bytes_fit f.references_fit e in
      record { room = ρ; right = r f; handle = p; left = q }

  abbrev Result : Builder → Type 0
  Result c = Sound × Did L h M c

  did_nil : create_nil L ≡ ok h M → Result make_nil
  unfolding create_nil row_right
  did_nil e =
      let (w, s, e₁) = after_check [] _ L M h e in
      (s, added tt tt (add_done [] [] (λ b r. nil) s (λ f. refl) e₁))

  did_bool : (v : Bool) → create_bool v L ≡ ok h M → Result (make_bool v)
  unfolding create_bool row_right
  did_bool v e =
      let (w, s, e₁) = after_check [] _ L M h e in
      (s, added tt tt (add_done [] [] (λ b r. bool v) s (λ f. refl) e₁))

  did_fixnum : (z : ℤ) → create_fixnum z L ≡ ok h M → Result (make_fixnum z)
  unfolding create_fixnum row_right
  did_fixnum z e =
      let (w, s, e₁) = after_check [] _ L M h e in
      (s, added tt tt (add_done [] [] (λ b r. fixnum (bits z)) s (λ f. refl) e₁))

  -- a row that is right where its bytes are
  text_added : (bs : List ℕ) (row : ℕ → ℕ → Row) → ((A : Arena) (b : ℕ) → bytes_right A b (length bs) ≡ true → row_right A (row b (length bs)) ≡ true) → Sound
      → add bs [] (λ b r. row b (length bs)) L ≡ ok h M → Added L bs [] (row L.counts.bytes (length bs)) h M
  text_added bs row y s e =
      let r = row L.counts.bytes (length bs) in
      add_done bs [] (λ b r. row b (length bs)) s (λ f. y (grown (held L) bs [] r) L.counts.bytes (bytes_added (held L) bs [] r L.counts.bytes f.bytes)) e

  symbol_added : (name : List ℕ) → Sound → add_symbol name L ≡ ok h M → Added L name [] (symbol L.counts.bytes (length name)) h M
  unfolding add_symbol row_right
  symbol_added name s e = text_added name symbol (λ A b y. y) s e

  did_new_symbol : (name : List ℕ) → create_new_symbol name L ≡ ok h M → Result (make_new_symbol name)
  unfolding create_new_symbol
  did_new_symbol name e =
      let (w, s, e₁) = after_check (byte_slice name ∷ []) _ L M h e in
      (s, added tt tt (symbol_added name s e₁))

  did_symbol : (name : List ℕ) → create_symbol name L ≡ ok h M → Result (make_symbol name)
  unfolding create_symbol look known_or_new pure
  did_symbol name e =
      let (w, s, e₁) = after_check (byte_slice name ∷ []) _ L M h e in
      (s, go s (find_symbol (held L).bytes name (held L).nodes 0) refl e₁)
    where
      go : Sound → (o : Option ℕ) → find_symbol (held L).bytes name (held L).nodes 0 ≡ o → known_or_new name o L ≡ ok h M → Did L h M (make_symbol name)
      go s (some i) p e = let z : i ≡ h = cc in known (p ∙ ap some z) (cc)
      go s none p e = added tt tt (symbol_added name s e)

  did_array : (ms : List ℕ) → create_array ms L ≡ ok h M → Result (make_array ms)
  unfolding create_array row_right class_right all_names optional_node
  did_array ms e =
      let (w, s, e₁) = after_check (member_slice ms ∷ []) _ L M h e in
      let (b, e₂) = after_handles ms _ L M h e₁ in (
        s,
        added tt tt (add_done [] ms (λ b r. array r (length ms) 0) s
            (λ f. yes_and _ _ (list_added (held L) [] ms (array L.counts.references (length ms) 0) L.counts.references (length ms) f.references refl (rw f.nodes b)) refl) e₂),
      )

  did_hash : (ps : List ℕ) (d : ℕ) → create_hash ps d L ≡ ok h M → Result (make_hash ps d)
  unfolding create_hash row_right class_right all_names optional_node
  did_hash ps d e =
      let (w, s, e₁) = after_check (pair_slice ps ∷ []) _ L M h e in
      let (b, e₂) = after_handles (ps ++ optional_node d) _ L M h e₁ in
      let (b₁, b₂) = all_below_parts L.counts.nodes ps (optional_node d) b in
      let r = hash L.counts.references (length ps / 2) d 0 in (
        s,
        added tt (even_pairs L.tables ps w) (add_done [] ps (λ b r. hash r (length ps / 2) d 0) s
            (λ f. yes_and _ _ (yes_and _ _ (list_added (held L) [] ps r L.counts.references (length ps / 2 * 2) f.references (even_pairs L.tables ps w) (rw f.nodes b₁))
            (default_added (held L) [] ps r d (rw f.nodes (default_most L.counts.nodes d b₂)))) refl) e₂),
      )

  did_object : (c : ℕ) (ps : List ℕ) → create_object c ps L ≡ ok h M → Result (make_object c ps)
  unfolding create_object row_right
  did_object c ps e =
      let (w, s, e₁) = after_check (pair_slice ps ∷ []) _ L M h e in
      let (b, e₂) = after_handles (c ∷ ps) _ L M h e₁ in
      let (m, e₃) = after_names (c ∷ firsts ps) _ L M h e₂ in
      let (m₁, m₂) = all_names_first (held L) c (firsts ps) m in
      let r = object L.counts.references (length ps / 2) c in (
        s,
        added tt (even_pairs L.tables ps w) (add_done [] ps (λ b r. object r (length ps / 2) c) s
            (λ f. yes_and _ _ (name_grown (held L) [] ps r c m₁)
            (pairs_added (held L) [] ps r L.counts.references (length ps / 2) f.references (even_pairs L.tables ps w) (rw f.nodes (all_below_first L.counts.nodes c ps b)) m₂)) e₃),
      )

  did_string : (bs : List ℕ) → create_string bs L ≡ ok h M → Result (make_string bs)
  unfolding create_string row_right vars_right class_right all_names optional_node
  did_string bs e =
      let (w, s, e₁) = after_check (byte_slice bs ∷ []) _ L M h e in
      (s, added tt tt (text_added bs (λ b n. string b n absent 0) (λ A b y. yes_and _ _ (yes_and _ _ y refl) refl) s e₁))

  did_user : (c : ℕ) (bs : List ℕ) → create_user_defined c bs L ≡ ok h M → Result (make_user_defined c bs)
  unfolding create_user_defined row_right vars_right
  did_user c bs e =
      let (w, s, e₁) = after_check (byte_slice bs ∷ []) _ L M h e in
      let (b, e₂) = after_handles (c ∷ []) _ L M h e₁ in
      let (m, e₃) = after_names (c ∷ []) _ L M h e₂ in
      let (m₁, m₂) = all_names_first (held L) c [] m in
      let r = user L.counts.bytes (length bs) c absent in (
        s,
        added tt tt (add_done bs [] (λ b r. user b (length bs) c absent) s
            (λ f. yes_and _ _ (yes_and _ _ (bytes_added (held L) bs [] r L.counts.bytes f.bytes) (name_grown (held L) bs [] r c m₁)) refl) e₃),
      )

  did_float : (bs : List ℕ) → create_float bs L ≡ ok h M → Result (make_float bs)
  unfolding create_float row_right
  did_float bs e =
      let (w, s, e₁) = after_check (byte_slice bs ∷ []) _ L M h e in
      (s, added tt tt (text_added bs float (λ A b y. y) s e₁))

  -- a magnitude that does not fit was refused, and zero is plus
  did_bignum : (minus : Bool) (low high : ℕ) → create_bignum minus low high L ≡ ok h M → Result (make_bignum minus low high)
  unfolding create_bignum row_right
  did_bignum minus low high e =
      let m = magnitude low high in
      let (w, s, e₁) = after_check [] _ L M h e in
      let (q, e₂) = after_magnitude m _ L M h e₁ in
      (s, added tt tt (add_done [] [] (λ b r. bignum low high (sign minus m)) s (λ f. number_right_yes m (sign minus m) (sign_right m minus q)) e₂))

  did_root : (n : ℕ) → exchange_root n L ≡ ok h M → Result (move_root n)
  unfolding exchange_root set_root
  did_root n e =
      let (s, b, e₁) = after_handles_checked (n ∷ []) (λ v. set_root n) L M h e in
      (s, moved (below_of L.counts.nodes (n ∷ []) b 0 n refl) (cc) (cc))

  -- an accepted call was made on a well-formed arena
  pub did : (c : Builder) → run c L ≡ ok h M → Result c
  did make_nil e = did_nil e
  did (make_bool v) e = did_bool v e
  did (make_fixnum z) e = did_fixnum z e
  did (make_new_symbol name) e = did_new_symbol name e
  did (make_symbol name) e = did_symbol name e
  did (make_array ms) e = did_array ms e
  did (make_hash ps d) e = did_hash ps d e
  did (make_object c ps) e = did_object c ps e
  did (make_string bs) e = did_string bs e
  did (make_user_defined c bs) e = did_user c bs e
  did (make_float bs) e = did_float bs e
  did (make_bignum minus low high) e = did_bignum minus low high e
  did (move_root n) e = did_root n e
