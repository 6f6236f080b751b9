-- A value up to its members, kind by kind.
use Prim.Native.Nat.{ℕ, zero, suc, ◌+◌, ◌*◌, ◌≤◌, ◌<◌}
use native.Mathlib.Omega.{arith}
use mathlib.Core.Bool.{Bool}
use mathlib.Core.Logic.{◌⊎◌, inl, inr}
use mathlib.Core.Path.{◌≡◌, refl, sym, ap, ◌∙◌, subst}
use mathlib.Core.List.{List, [], ◌∷◌, ◌++◌}
use lib.Dec.{eqb}
use lib.ListN.{length, get_or, take, drop}
use borrow.Author.Tests.{eq-eqb, ne_eqb}
use Rattle.definition.specs.Run.{pure, pick}
use Rattle.definition.specs.Integer.{integer_bytes}
use Rattle.definition.specs.Kind.{INSTANCE_VARIABLES, ARRAY, HASH, HASH_DEFAULT, OBJECT, STRING, USER_DEFINED, FLOAT, BIGNUM}
use Rattle.definition.specs.Node.{width, array, hash, object, string, user, float, bignum, kind, vars, LIST, COUNT}
use Rattle.definition.specs.Magnitude.{magnitude, bignum_bytes}
use Rattle.definition.specs.Arena.{Arena, node, range}
use Rattle.definition.specs.Dump.{Writer, ◌>>◌, write, write_elements, write_default, write_class, byte_string_bytes, write_instance_variables, write_variables, write_object_or_link, write_row, hash_byte}
use Rattle.lists.specs.Rows.{kind_of, kind_low, row_4, row_5, row_6, row_7, row_8, row_9, row_10}
use Rattle.well_formed.specs.Nodes.{Name}
use Rattle.well_formed.specs.Right.{BytesIn, PairsIn, VarsRight}
use Rattle.writer.specs.Held.{Noded, Lent, IsSymbol, named}
use Rattle.writer.specs.Laws.{assoc, unit_left, unit_right}
use Rattle.writer.proofs.Names.{right_row, string_bytes, is_symbol}
use Rattle.object_writer.specs.Values.{IsObject, begun, opened, classed, texted}
use Rattle.dumper.specs.Members.{listed, default_of, members_of, MembersIn}

-- ---- what a row says

module _ {A : Arena} {no : List ℕ} (N : Noded A no) (v : ℕ) (below : v < length A.nodes) where
  pub is_object : (k : ℕ) → get_or no (v * width) 0 ≡ k → 3 < k → k ≤ 10 → IsObject A v
  is_object k e h l =
      let q : kind (node A v) ≡ get_or no (v * width) 0 = ap kind (N.row_at v below) ∙ kind_of _ _ _ _ _ _ _ _ (omega arith) in
      record { below = below; kind_above = omega arith }

  abbrev w : ℕ → ℕ
  w i = get_or no (v * width + i) 0

  pub low_kind : (get_or no (v * width) 0 ≡ 4 → ⊥) → (get_or no (v * width) 0 ≡ 5 → ⊥) → (get_or no (v * width) 0 ≡ 6 → ⊥) → (get_or no (v * width) 0 ≡ 7 → ⊥) → (get_or no (v * width) 0 ≡ 8 → ⊥) → (get_or no (v * width) 0 ≡ 9 → ⊥) → (get_or no (v * width) 0 ≡ 10 → ⊥) → kind (node A v) ≤ 3
  low_kind a b c d f g h = rw (N.row_at v below) (kind_low (get_or no (v * width) 0) (w 1) (w 2) (w 3) (w 4) (w 5) (w 6) (w 7) a b c d f g h)

  pub array_row : get_or no (v * width) 0 ≡ 4 → node A v ≡ array (w 3) (w 4) (w 7)
  array_row e = N.row_at v below ∙ row_4 _ _ _ _ _ _ _ _ e

  pub hash_row : get_or no (v * width) 0 ≡ 5 → node A v ≡ hash (w 3) (w 4) (w 6) (w 7)
  hash_row e = N.row_at v below ∙ row_5 _ _ _ _ _ _ _ _ e

  pub object_row : get_or no (v * width) 0 ≡ 6 → node A v ≡ object (w 3) (w 4) (w 5)
  object_row e = N.row_at v below ∙ row_6 _ _ _ _ _ _ _ _ e

  pub string_row : get_or no (v * width) 0 ≡ 7 → node A v ≡ string (w 1) (w 2) (vars (w 6) (w 3) (w 4)) (w 7)
  string_row e = N.row_at v below ∙ row_7 _ _ _ _ _ _ _ _ e

  pub user_row : get_or no (v * width) 0 ≡ 8 → node A v ≡ user (w 1) (w 2) (w 5) (vars (w 6) (w 3) (w 4))
  user_row e = N.row_at v below ∙ row_8 _ _ _ _ _ _ _ _ e

  pub float_row : get_or no (v * width) 0 ≡ 9 → node A v ≡ float (w 1) (w 2)
  float_row e = N.row_at v below ∙ row_9 _ _ _ _ _ _ _ _ e

  pub bignum_row : get_or no (v * width) 0 ≡ 10 → node A v ≡ bignum (w 1) (w 2) (eqb (w 4) 1)
  bignum_row e = N.row_at v below ∙ row_10 _ _ _ _ _ _ _ _ e

pub default_byte : {X Y : Type 0} (room : ℕ) (A : Arena) (d k : ℕ) → (X → d ≡ 0) → (Y → d ≡ 0 → ⊥) → (X × (k ≡ HASH)) ⊎ (Y × (k ≡ HASH_DEFAULT)) → k ≡ hash_byte room A d
unfolding hash_byte
default_byte room A d k f g (inl (t, q)) = q ∙ sym (ap (hash_byte room A) (f t))
default_byte room A zero k f g (inr (t, q)) = absurd (g t refl)
default_byte room A (suc d) k f g (inr (t, q)) = q

-- ---- members by the kind

pub listed_array : (k n r : ℕ) → k ≡ 4 → r ≡ n → r ≡ listed k n
unfolding listed pick
listed_array k n r e q = rw (eq-eqb k 4 e) q

pub listed_pairs : (k n r : ℕ) → (k ≡ 4 → ⊥) → r ≡ n → r * 2 ≡ listed k n
unfolding listed pick
listed_pairs k n r e q = rw (ne_eqb k 4 e) (ap (λ (x : ℕ). x * 2) q)

module _ (room : ℕ) (A : Arena) (inner : ℕ → Writer) (k s n f : ℕ) where
  members_array : k ≡ 4 → members_of room A inner k s n f ≡ write_elements inner (range A.references s n)
  unfolding listed default_of pick write_default
  members_array e = rw e (unit_right (write_elements inner (range A.references s n)))

  members_hash : k ≡ 5 → members_of room A inner k s n f ≡ write_elements inner (range A.references s (n * 2)) >> write_default room A inner f
  unfolding listed default_of pick
  members_hash e = rw e refl

  pub members_pairs : (k ≡ 4 → ⊥) → (k ≡ 5 → ⊥) → members_of room A inner k s n f ≡ write_elements inner (range A.references s (n * 2))
  unfolding listed default_of pick write_default
  members_pairs a b = rw (ne_eqb k 4 a, ne_eqb k 5 b) (unit_right (write_elements inner (range A.references s (n * 2))))

-- ---- beginnings

module _ (room : ℕ) (A : Arena) (level : Writer) (inner : ℕ → Writer) (v : ℕ) where
  -- the class w, the byte b and the count, and then the members
  listed_open : (w b n : ℕ) (members : Writer) → write_object_or_link room v (write_class room A w >> write room (b ∷ integer_bytes n) >> members) ≡ classed room A v w (b ∷ integer_bytes n) members
  listed_open w b n members = ap (write_object_or_link room v) (assoc (write_class room A w) (write room (b ∷ integer_bytes n)) members)

  pub array_open : (k s n f w : ℕ) → node A v ≡ array s n w → k ≡ 4 → write_row room A level inner v (node A v) ≡ classed room A v w (ARRAY ∷ integer_bytes n) (members_of room A inner k s n f)
  unfolding write_row
  array_open k s n f w e q =
      ap (write_row room A level inner v) e
      ∙ listed_open w ARRAY n (write_elements inner (range A.references s n))
      ∙ ap (classed room A v w (ARRAY ∷ integer_bytes n)) (sym (members_array room A inner k s n f q))

  pub hash_open : (b k s n f w : ℕ) → node A v ≡ hash s n f w → b ≡ hash_byte room A f → k ≡ 5 → write_row room A level inner v (node A v) ≡ classed room A v w (b ∷ integer_bytes n) (members_of room A inner k s n f)
  unfolding write_row
  hash_open b k s n f w e p q =
      ap (write_row room A level inner v) e
      ∙ ap (write_object_or_link room v) (assoc (write_class room A w >> write room (hash_byte room A f ∷ integer_bytes n)) (write_elements inner (range A.references s (n * 2))) (write_default room A inner f))
      ∙ listed_open w (hash_byte room A f) n _
      ∙ (λ i. classed room A v w (sym p i ∷ integer_bytes n) (write_elements inner (range A.references s (n * 2)) >> write_default room A inner f))
      ∙ ap (classed room A v w (b ∷ integer_bytes n)) (sym (members_hash room A inner k s n f q))

  pub object_open : (s n c name : ℕ) → node A v ≡ object s n c → name ≡ c → write_row room A level inner v (node A v) ≡ write_object_or_link room v (named room A OBJECT name >> write_instance_variables room A inner s n)
  unfolding write_row
  object_open s n c name e p =
      ap (write_row room A level inner v) e ∙ λ i. write_object_or_link room v (named room A OBJECT (sym p i) >> write_instance_variables room A inner s n)

  pub bignum_open : (low high : ℕ) (m : Bool) → node A v ≡ bignum low high m → write_row room A level inner v (node A v) ≡ opened room v (BIGNUM ∷ bignum_bytes m (magnitude low high)) (pure tt)
  unfolding write_row
  bignum_open low high m e = ap (write_row room A level inner v) e ∙ ap (write_object_or_link room v) (sym (unit_right (write room (BIGNUM ∷ bignum_bytes m (magnitude low high)))))

  -- what comes after a string's bytes, by the mark f
  unfoldable pub after : ℕ → ℕ → ℕ → Writer
  after zero p n = pure tt
  after (suc f) p n = write_instance_variables room A inner p n

  pub after_none : (f p n : ℕ) → f ≡ 0 → after f p n ≡ pure tt
  unfolding after
  after_none f p n e = rw e refl

  pub after_some : (f p n : ℕ) → (f ≡ 0 → ⊥) → after f p n ≡ write_instance_variables room A inner p n
  unfolding after
  after_some zero p n e = absurd (e refl)
  after_some (suc f) p n e = refl

  variables_after : (f p n : ℕ) (body : Writer) → write_variables room A level inner body (vars f p n) ≡ begun room level f (body >> after f p n)
  unfolding write_variables vars begun after
  variables_after zero p n body = sym (unit_right body)
  variables_after (suc f) p n body = assoc (write room (INSTANCE_VARIABLES ∷ []) >> level) body (write_instance_variables room A inner p n)

  module _ {no by : List ℕ} (L : Lent A no by) (s l : ℕ) (inside : BytesIn A s l) where
    -- the class, byte k and the bytes, and what comes after them
    text_open : (f p n w k : ℕ) → write_object_or_link room v (write_variables room A level inner (write_class room A w >> write room (k ∷ byte_string_bytes (range A.bytes s l))) (vars f p n)) ≡ texted room A v level f w (k ∷ (integer_bytes l ++ take l (drop s by))) (after f p n)
    text_open f p n w k =
        ap (λ (b : List ℕ). write_object_or_link room v (write_variables room A level inner (write_class room A w >> write room (k ∷ b)) (vars f p n))) (string_bytes s l L inside)
        ∙ ap (write_object_or_link room v) (variables_after f p n _ ∙ ap (begun room level f) (assoc (write_class room A w) _ (after f p n)))

    pub string_open : (f p n w : ℕ) → node A v ≡ string s l (vars f p n) w → write_row room A level inner v (node A v) ≡ texted room A v level f w (STRING ∷ (integer_bytes l ++ take l (drop s by))) (after f p n)
    unfolding write_row
    string_open f p n w e = ap (write_row room A level inner v) e ∙ text_open f p n w STRING

    pub float_open : node A v ≡ float s l → write_row room A level inner v (node A v) ≡ texted room A v level 0 0 (FLOAT ∷ (integer_bytes l ++ take l (drop s by))) (pure tt)
    unfolding write_row write_variables write_class vars after
    float_open e = ap (write_row room A level inner v) e ∙ ap (write_object_or_link room v) (sym (unit_left _)) ∙ text_open 0 0 0 0 FLOAT

    pub user_open : (f p n c name : ℕ) → name ≡ c → node A v ≡ user s l c (vars f p n) → write_row room A level inner v (node A v) ≡ write_object_or_link room v (begun room level f (named room A USER_DEFINED name >> (write room (integer_bytes l ++ take l (drop s by)) >> after f p n)))
    unfolding write_row
    user_open f p n c name q e =
        ap (write_row room A level inner v) e
        ∙ ap (λ (b : List ℕ). write_object_or_link room v (write_variables room A level inner (named room A USER_DEFINED c >> write room b) (vars f p n))) (string_bytes s l L inside)
        ∙ ap (λ (x : ℕ). write_object_or_link room v (write_variables room A level inner (named room A USER_DEFINED x >> write room (integer_bytes l ++ take l (drop s by))) (vars f p n))) (sym q)
        ∙ ap (write_object_or_link room v) (variables_after f p n _ ∙ ap (begun room level f) (assoc (named room A USER_DEFINED name) _ (after f p n)))

-- a list that is there
pub vars_present : {A : Arena} (f p n : ℕ) → (f ≡ 0 → ⊥) → VarsRight A (vars f p n) → PairsIn A p n
unfolding vars
vars_present zero p n e h = absurd (e refl)
vars_present (suc f) p n e h = h

-- a name's node as it was read
pub symbol_as : {A : Arena} (c name : ℕ) → name ≡ c → Name A c → IsSymbol A name
symbol_as {A} c name p h = subst (IsSymbol A) (sym p) (is_symbol c h)

pub bytes_inside : {A : Arena} {no by : List ℕ} (s n : ℕ) → Lent A no by → BytesIn A s n → s + n ≤ length by
bytes_inside s n L h = omega (arith, L.bytes_fit)

-- ---- lists and defaults inside

pub in_pairs : {A : Arena} (t : List ℕ) (v : ℕ) → (get_or t (v * width) 0 ≡ 4 → ⊥) → (get_or t (v * width) 0 ≡ 5 → ⊥) → PairsIn A (get_or t (v * width + LIST) 0) (get_or t (v * width + COUNT) 0) → MembersIn A t v
unfolding listed default_of pick
in_pairs t v a b P = rw (ne_eqb (get_or t (v * width) 0) 4 a, ne_eqb (get_or t (v * width) 0) 5 b) (P.list, omega arith)

module _ {A : Arena} {no by : List ℕ} (L : Lent A no by) (v : ℕ) (below : v < length A.nodes) where
  pub in_array : get_or no (v * width) 0 ≡ 4 → MembersIn A no v
  unfolding listed default_of pick
  in_array e = let right = right_row L v below _ (array_row L.noded v below e) in rw e (right.0, omega arith)

  pub in_hash : get_or no (v * width) 0 ≡ 5 → MembersIn A no v
  unfolding listed default_of pick
  in_hash e = let right = right_row L v below _ (hash_row L.noded v below e) in rw e (right.0, right.1)
