-- What describes an arena is dumped: the forest's bytes, where there is room for them.
use Prim.Native.Nat.{ℕ, zero, suc, ◌+◌, ◌*◌, ◌≤◌}
use Rattle.std.specs.Prelude.{◌≡◌, Bool, true, false, length}
use Rattle.std.proofs.Math.Path.{refl, ap, subst}
use Rattle.std.proofs.Common.{sym as psym, ◌∙◌}
use mathlib.Core.List.{List, [], ◌∷◌, ◌++◌, append_assoc, append-nil}
use Rattle.std.proofs.Math.ListN.{length-append}
use native.Mathlib.Omega.{arith}
use Rattle.std.proofs.Math.Decide.{dec_le}
use Rattle.definition.specs.Run.{ok, pure, look}
use Rattle.definition.specs.Integer.{integer_bytes}
use Rattle.definition.specs.Kind.{NIL, TRUE, FALSE, FIXNUM, SYMBOL, SYMBOL_LINK, OBJECT_LINK, INSTANCE_VARIABLES, ARRAY, HASH, HASH_DEFAULT, OBJECT, STRING, USER_DEFINED, BIGNUM, USER_CLASS}
use Rattle.definition.specs.Node.{Row, hash, present, optional_node, optional_present}
use Rattle.definition.specs.Magnitude.{bignum_bytes}
use Rattle.definition.specs.Arena.{Arena, node, range, name_of}
use Rattle.definition.specs.Graph.{Header, header_of}
use Rattle.definition.specs.Dump.{Writer, ◌>>◌, write, number_symbol, number_object, link_or, byte_string_bytes, write_symbol, write_object_or_link, write_elements, write_pairs, write_name, write_instance_variables, write_variables, write_default, hash_byte, write_class, write_row, write_level, write_value, dump}
use Rattle.lists.specs.Lists.{At, NotIn, Distinct, distinct_snoc}
use Rattle.graph.specs.Forest.{leaf, sym, box, Num, add_o, add_s, fresh, F, OneName, one_new, one_link, Class, no_class, a_class, Mode, values, pairs, value_pairs, name_pairs, after, IsValue, Text, t_end, t_end_pairs, t_name, t_name_link, t_class, t_class_link, t_nil, t_false, t_true, t_fixnum, t_symbol, t_symbol_link, t_object_link, t_array, t_hash, t_hash_default, t_object, Texted, text_string, text_float, t_text, t_bignum, t_string_vars, t_user, t_user_vars}
use Rattle.graph.specs.Describe.{Dist, no_dist, E, e_end, e_leaf, e_box, e_ref, e_sym, e_symref, e_dist}
use Rattle.graph.specs.View.{seen}
use Rattle.dump_forest.specs.Writers.{written, un_then, then_ok, write_ok, at_number, notin_number, part_default}
use Rattle.dump_forest.specs.Shown.{Shown, shown_at, name_shown, nil_shown, false_shown, true_shown, fixnum_shown, symbol_shown, array_shown, hash_shown, default_shown, object_shown, string_shown, string_vars_shown, user_shown, user_vars_shown, float_shown, bignum_shown}

-- the writer writes x where there is room for it, and numbers what σ' has more than σ
pub record Writes (size : ℕ) (m : Writer) (σ : Num) (x : List ℕ) (σ' : Num) : Type 0 where
  pub after_any : (b : List ℕ) → length b + length x ≤ size → m (written b σ) ≡ ok tt (written (b ++ x) σ')

module _ (size : ℕ) where
  writes_as : {m : Writer} {σ σ' : Num} (x y : List ℕ) → x ≡ y → Writes size m σ x σ' → Writes size m σ y σ'
  writes_as x y e w = rw e at w

  nothing : (σ : Num) → Writes size (pure tt) σ [] σ
  unfolding pure
  nothing σ = record { after_any = λ b h. ap (λ (z : List ℕ). ok tt (written z σ)) (psym (append-nil b)) }

  bytes_writes : (σ : Num) (z : List ℕ) → Writes size (write size z) σ z σ
  bytes_writes σ z = record { after_any = λ b h. write_ok size z (written b σ) h }

  then_writes : {m n : Writer} {σ σ₁ σ' : Num} {x y : List ℕ} → Writes size m σ x σ₁ → Writes size n σ₁ y σ' → Writes size (m >> n) σ (x ++ y) σ'
  then_writes {m} {n} {σ} {σ₁} {σ'} {x} {y} p q = record {
    after_any = λ b h.
        let l = length-append x y in
        let l' = length-append b x in
        then_ok m n (written b σ) (written (b ++ x) σ₁) (written (b ++ (x ++ y)) σ') (p.after_any b (omega arith))
        (q.after_any (b ++ x) (omega arith) ∙ ap (λ (z : List ℕ). ok tt (written z σ')) (append_assoc b x y));
  }

  -- the same in another grouping
  group_left : (m n o : Writer) {σ σ' : Num} {x : List ℕ} → Writes size (m >> (n >> o)) σ x σ' → Writes size ((m >> n) >> o) σ x σ'
  group_left m n o {σ} {σ'} {x} w = record {
    after_any = λ b h.
        let s' = written (b ++ x) σ' in
        let (s₁, e₁, e₂) = un_then m (n >> o) (written b σ) s' (w.after_any b h) in
        let (s₂, e₃, e₄) = un_then n o s₁ s' e₂ in
        then_ok (m >> n) o (written b σ) s₂ s' (then_ok m n (written b σ) s₁ s₂ e₁ e₃) e₄;
  }

  symbol_new : (σ : Num) (v : ℕ) (b : List ℕ) → NotIn v σ.syms → Writes size (write_symbol size v b) σ (SYMBOL ∷ byte_string_bytes b) (add_s v σ)
  unfolding write_symbol look link_or number_symbol
  symbol_new σ v b n = record {
    after_any = λ c h.
        rw (notin_number σ.syms v 0 n)
        (then_ok (number_symbol v) (write size (SYMBOL ∷ byte_string_bytes b)) (written c σ) (written c (add_s v σ)) _ refl ((bytes_writes (add_s v σ) (SYMBOL ∷ byte_string_bytes b)).after_any c h));
  }

  symbol_again : (σ : Num) (v k : ℕ) (b : List ℕ) → Distinct σ.syms → At σ.syms k v → Writes size (write_symbol size v b) σ (SYMBOL_LINK ∷ integer_bytes k) σ
  unfolding write_symbol look link_or
  symbol_again σ v k b d a = record {
    after_any = λ c h.
        let q : 0 + k ≡ k = omega arith in
        rw (at_number σ.syms v 0 k d a, q) ((bytes_writes σ (SYMBOL_LINK ∷ integer_bytes k)).after_any c h);
  }

  object_new : {σ σ' : Num} {v : ℕ} {first : Writer} {x : List ℕ} → NotIn v σ.objs → Writes size first (add_o v σ) x σ' → Writes size (write_object_or_link size v first) σ x σ'
  unfolding write_object_or_link look link_or number_object
  object_new {σ} {σ'} {v} {first} {x} n w = record {
    after_any = λ b h.
        rw (notin_number σ.objs v 0 n)
        (then_ok (number_object v) first (written b σ) (written b (add_o v σ)) _ refl (w.after_any b h));
  }

  object_again : (σ : Num) (v k : ℕ) (first : Writer) → Distinct σ.objs → At σ.objs k v → Writes size (write_object_or_link size v first) σ (OBJECT_LINK ∷ integer_bytes k) σ
  unfolding write_object_or_link look link_or
  object_again σ v k first d a = record {
    after_any = λ c h.
        let q : 0 + k ≡ k = omega arith in
        rw (at_number σ.objs v 0 k d a, q) ((bytes_writes σ (OBJECT_LINK ∷ integer_bytes k)).after_any c h);
  }

-- what is written in each mode; a list that is too short stands for nothing more
abbrev run : ℕ → Arena → Mode → (ℕ → Writer) → List ℕ → Writer
run size A values inner vs = write_elements inner vs
run size A (pairs n) inner vs = write_pairs (write_name size A) inner vs
run size A (value_pairs n) inner [] = pure tt
run size A (value_pairs n) inner (v ∷ vs) = inner v >> write_pairs (write_name size A) inner vs
run size A (name_pairs n) inner [] = pure tt
run size A (name_pairs n) inner (c ∷ vs) = write_name size A c >> (write size (integer_bytes n) >> write_pairs (write_name size A) inner vs)

module _ (size : ℕ) (A : Arena) where
  -- ---- names

  new_name : (σ : Num) (c : ℕ) (b : List ℕ) → At (seen A) c (sym b) → NotIn c σ.syms → Writes size (write_name size A c) σ (SYMBOL ∷ byte_string_bytes b) (add_s c σ)
  unfolding write_name
  new_name σ c b a n = go (node A c) (shown_at A c (sym b) a)
    where
      go : (r : Row) → Shown A r (sym b) → Writes size (write_symbol size c (name_of A.bytes r)) σ (SYMBOL ∷ byte_string_bytes b) (add_s c σ)
      go r h = subst (λ (z : List ℕ). Writes size (write_symbol size c z) σ (SYMBOL ∷ byte_string_bytes b) (add_s c σ)) (psym (name_shown A r b h)) (symbol_new size σ c b n)

  name_again : (σ : Num) (c k : ℕ) → Distinct σ.syms → At σ.syms k c → Writes size (write_name size A c) σ (SYMBOL_LINK ∷ integer_bytes k) σ
  unfolding write_name
  name_again σ c k d a = symbol_again size σ c k (name_of A.bytes (node A c)) d a

  -- a name, numbered among the symbols only
  data NameWrites (z : List ℕ) (σ : Num) : List ℕ → Num → Type 0 where
    name_writes : {c : ℕ} {y : List ℕ} → ((o : List ℕ) → Writes size (write_name size A c) (record { objs = o; syms = σ.syms }) z (record { objs = o; syms = y }))
        → NameWrites z σ (c ∷ []) (record { objs = σ.objs; syms = y })

  one_name : {p : F} {z us : List ℕ} {σ σ₁ : Num} → OneName p z → E (seen A) p us σ σ₁ → Dist σ → NameWrites z σ us σ₁
  one_name {σ = σ} (one_new {b = b}) (e_sym {v = c} a n e_end) h = name_writes (λ o. new_name (record { objs = o; syms = σ.syms }) c b a n)
  one_name {σ = σ} (one_link {k = k}) (e_symref {v = c} a n e_end) h = name_writes (λ o. name_again (record { objs = o; syms = σ.syms }) c k h.dsy n)

  -- a class or none, as a forest says it of the members us
  data ClassWrites (σ : Num) : Bool → List ℕ → List ℕ → Num → Type 0 where
    none_writes : ClassWrites σ false [] [] σ
    class_writes : {z us : List ℕ} {σ₁ : Num} → NameWrites z σ us σ₁ → ClassWrites σ true (USER_CLASS ∷ z) us σ₁

  one_class : {c : Bool} {p : F} {z us : List ℕ} {σ σ₁ : Num} → Class c p z → E (seen A) p us σ σ₁ → Dist σ → ClassWrites σ c z us σ₁
  one_class no_class e_end h = none_writes
  one_class (a_class n) d h = class_writes (one_name n d h)

  -- it is the class w of a row whose members are w and then l; objects are not touched, so a node is numbered before it as well as after it
  record Classed (w : ℕ) (l ms z : List ℕ) (σ σ₁ : Num) : Type 0 where
    rest : l ≡ ms
    new : (v : ℕ) → NotIn v σ₁.objs → NotIn v σ.objs
    writes : (v : ℕ) (b : List ℕ) → Writes size (write_class size A w >> write size b) (add_o v σ) (z ++ b) (add_o v σ₁)

  classed : (w : ℕ) {l us ms z : List ℕ} {σ σ₁ : Num} → ClassWrites σ (optional_present w) z us σ₁ → optional_node w ++ l ≡ us ++ ms → Classed w l ms z σ σ₁
  unfolding optional_present optional_node write_class
  classed zero none_writes e = record { rest = e; new = λ v n. n; writes = λ v b. then_writes size (nothing size _) (bytes_writes size _ b) }
  classed (suc d) {l} {us} {ms} {z} {σ} {σ₁} (class_writes (name_writes {c = c} w)) e =
      let q : d ≡ c = cc in
      let r : l ≡ ms = cc in
      record { rest = r; new = λ v n. n; writes = λ v b. rw q (then_writes size (then_writes size (bytes_writes size _ (USER_CLASS ∷ [])) (w (σ.objs ++ (v ∷ [])))) (bytes_writes size _ b)) }

  module _ (inner : ℕ → Writer) where
    -- ---- modes

    run_value : (m : Mode) (v : ℕ) (vs : List ℕ) {σ σ₁ σ' : Num} {x y : List ℕ} → IsValue m → Writes size (inner v) σ x σ₁ → Writes size (run size A (after m) inner vs) σ₁ y σ'
        → Writes size (run size A m inner (v ∷ vs)) σ (x ++ y) σ'
    unfolding write_elements
    run_value values v vs i p q = then_writes size p q
    run_value (pairs n) v vs i p q = absurd i
    run_value (value_pairs n) v vs i p q = then_writes size p q
    run_value (name_pairs n) v vs i p q = absurd i

    run_name : (n c : ℕ) (vs : List ℕ) (σ σ₁ σ' : Num) (x y : List ℕ) → Writes size (write_name size A c) σ x σ₁ → Writes size (run size A (value_pairs n) inner vs) σ₁ y σ'
        → Writes size (run size A (pairs (suc n)) inner (c ∷ vs)) σ (x ++ y) σ'
    unfolding write_pairs pure
    run_name n c [] σ σ₁ σ' x y p q = record {
      after_any = λ b h.
          let l = length-append x y in
          let l' = length-append b x in
          p.after_any b (omega arith) ∙ q.after_any (b ++ x) (omega arith) ∙ ap (λ (z : List ℕ). ok tt (written z σ')) (append_assoc b x y);
    }
    run_name n c (v ∷ vs) σ σ₁ σ' x y p q = group_left size _ _ _ (then_writes size p q)

    run_class : (n c : ℕ) (vs : List ℕ) {σ σ₁ σ' : Num} {x y : List ℕ} → Writes size (write_name size A c) σ x σ₁ → Writes size (run size A (pairs n) inner vs) σ₁ y σ'
        → Writes size (run size A (name_pairs n) inner (c ∷ vs)) σ (x ++ integer_bytes n ++ y) σ'
    run_class n c vs {σ₁ = σ₁} {x = x} {y = y} p q =
        writes_as size (x ++ (integer_bytes n ++ y)) (x ++ integer_bytes n ++ y) (psym (append_assoc x (integer_bytes n) y))
        (then_writes size p (then_writes size (bytes_writes size σ₁ (integer_bytes n)) q))

    -- ---- rows; σ is what is numbered before the node

    module _ (level : Writer) (v : ℕ) (σ : Num) where
      abbrev RowWrites : Row → List ℕ → Num → Type 0
      RowWrites r x σ' = Writes size (write_row size A level inner v r) σ x σ'

      put_nil : {r : Row} → Shown A r (leaf 0 0) → RowWrites r (NIL ∷ []) σ
      unfolding write_row
      put_nil nil_shown = bytes_writes size σ (NIL ∷ [])

      put_false : {r : Row} → Shown A r (leaf 1 0) → RowWrites r (FALSE ∷ []) σ
      unfolding write_row
      put_false false_shown = bytes_writes size σ (FALSE ∷ [])

      put_true : {r : Row} → Shown A r (leaf 1 1) → RowWrites r (TRUE ∷ []) σ
      unfolding write_row
      put_true true_shown = bytes_writes size σ (TRUE ∷ [])

      put_fixnum : {r : Row} {w : ℕ} → Shown A r (leaf 2 w) → RowWrites r (FIXNUM ∷ integer_bytes w) σ
      unfolding write_row
      put_fixnum (fixnum_shown {w = w}) = bytes_writes size σ (FIXNUM ∷ integer_bytes w)

      put_symbol : {r : Row} {b : List ℕ} → Shown A r (sym b) → NotIn v σ.syms → RowWrites r (SYMBOL ∷ byte_string_bytes b) (add_s v σ)
      unfolding write_row
      put_symbol {b = b} symbol_shown n = symbol_new size σ v b n

      put_symbol_link : {r : Row} {b : List ℕ} → Shown A r (sym b) → (k : ℕ) → Distinct σ.syms → At σ.syms k v → RowWrites r (SYMBOL_LINK ∷ integer_bytes k) σ
      unfolding write_row
      put_symbol_link {b = b} symbol_shown k d a = symbol_again size σ v k b d a

      put_object_link : {r : Row} {h : Header} {ms : List ℕ} → Shown A r (box h ms) → (k : ℕ) → Distinct σ.objs → At σ.objs k v → RowWrites r (OBJECT_LINK ∷ integer_bytes k) σ
      unfolding write_row
      put_object_link array_shown k d a = object_again size σ v k _ d a
      put_object_link hash_shown k d a = object_again size σ v k _ d a
      put_object_link default_shown k d a = object_again size σ v k _ d a
      put_object_link object_shown k d a = object_again size σ v k _ d a
      put_object_link string_shown k d a = object_again size σ v k _ d a
      put_object_link string_vars_shown k d a = object_again size σ v k _ d a
      put_object_link user_shown k d a = object_again size σ v k _ d a
      put_object_link user_vars_shown k d a = object_again size σ v k _ d a
      put_object_link float_shown k d a = object_again size σ v k _ d a
      put_object_link bignum_shown k d a = object_again size σ v k _ d a

      -- a class or none, the bytes b, and the rest
      after_class : {w : ℕ} {l ms z : List ℕ} {σ₁ σ₂ : Num} {rest : Writer} (b y : List ℕ) → Classed w l ms z σ σ₁ → Writes size rest (add_o v σ₁) y σ₂
          → Writes size (write_class size A w >> write size b >> rest) (add_o v σ) (z ++ (b ++ y)) σ₂
      after_class {z = z} b y d x = writes_as size (z ++ b ++ y) (z ++ (b ++ y)) (append_assoc z b y) (then_writes size (d.writes v b) x)

      put_array : (ms : List ℕ) {r : Row} {n : ℕ} {c : Bool} {l us z : List ℕ} {σ₁ : Num} → Shown A r (box (header_of 4 0 [] n false c) l) → ClassWrites σ c z us σ₁ → l ≡ us ++ ms → (y : List ℕ) (σ₂ : Num) → NotIn v σ₁.objs
          → Writes size (write_elements inner ms) (add_o v σ₁) y σ₂ → RowWrites r (z ++ (ARRAY ∷ integer_bytes n ++ y)) σ₂
      unfolding write_row
      put_array ms {n = n} (array_shown {w = w}) c e y σ₂ ni x =
          let d = classed w c e in
          object_new size (d.new v ni) (after_class (ARRAY ∷ integer_bytes n) y d (rw d.rest x))

      -- a default is the last member
      with_default : (l : List ℕ) (d : ℕ) (y : List ℕ) (τ σ₂ : Num) → Writes size (write_elements inner (l ++ optional_node d)) τ y σ₂
          → Writes size (write_elements inner l >> write_default size A inner d) τ y σ₂
      with_default l d y τ σ₂ w = record {
        after_any = λ b h.
            let s' = written (b ++ y) σ₂ in
            let (s₁, e₁, e₂) = part_default size A inner l d (written b τ) s' (w.after_any b h) in
            then_ok (write_elements inner l) (write_default size A inner d) (written b τ) s₁ s' e₁ e₂;
      }

      put_hashed : (ms : List ℕ) (w s n d : ℕ) {us z : List ℕ} {σ₁ : Num} → ClassWrites σ (optional_present w) z us σ₁ → optional_node w ++ (range A.references s (n * 2) ++ optional_node d) ≡ us ++ ms → (y : List ℕ) (σ₂ : Num) → NotIn v σ₁.objs
          → Writes size (write_elements inner ms) (add_o v σ₁) y σ₂ → RowWrites (hash s n d w) (z ++ (hash_byte size A d ∷ integer_bytes n ++ y)) σ₂
      unfolding write_row
      put_hashed ms w s n d {σ₁ = σ₁} c e y σ₂ ni x =
          let k = classed w c e in
          object_new size (k.new v ni)
          (group_left size _ _ _ (after_class (hash_byte size A d ∷ integer_bytes n) y k (with_default (range A.references s (n * 2)) d y (add_o v σ₁) σ₂ (rw k.rest x))))

      put_hash : (ms : List ℕ) {r : Row} {n : ℕ} {c : Bool} {l us z : List ℕ} {σ₁ : Num} → Shown A r (box (header_of 5 0 [] n false c) l) → ClassWrites σ c z us σ₁ → l ≡ us ++ ms → (y : List ℕ) (σ₂ : Num) → NotIn v σ₁.objs
          → Writes size (write_elements inner ms) (add_o v σ₁) y σ₂ → RowWrites r (z ++ (HASH ∷ integer_bytes n ++ y)) σ₂
      unfolding write_row hash_byte optional_node
      put_hash ms {n = n} (hash_shown {s = s} {w = w}) c e y σ₂ ni x = put_hashed ms w s n 0 c e y σ₂ ni x

      put_default : (ms : List ℕ) {r : Row} {n : ℕ} {c : Bool} {l us z : List ℕ} {σ₁ : Num} → Shown A r (box (header_of 5 0 [] n true c) l) → ClassWrites σ c z us σ₁ → l ≡ us ++ ms → (y : List ℕ) (σ₂ : Num) → NotIn v σ₁.objs
          → Writes size (write_elements inner ms) (add_o v σ₁) y σ₂ → RowWrites r (z ++ (HASH_DEFAULT ∷ integer_bytes n ++ y)) σ₂
      unfolding write_row hash_byte optional_node
      put_default ms {n = n} (default_shown {s = s} {d = d} {w = w}) c e y σ₂ ni x = put_hashed ms w s n (suc d) c e y σ₂ ni x

      put_object : {r : Row} {n : ℕ} {ms : List ℕ} → Shown A r (box (header_of 6 0 [] n false false) ms) → (y : List ℕ) (σ₂ : Num) → NotIn v σ.objs
          → Writes size (run size A (name_pairs n) inner ms) (add_o v σ) y σ₂ → RowWrites r (OBJECT ∷ y) σ₂
      unfolding write_row write_instance_variables
      put_object object_shown y σ₂ ni w = object_new size ni (group_left size _ _ _ (then_writes size (bytes_writes size (add_o v σ) (OBJECT ∷ [])) w))

      put_text : {k n : ℕ} {c : Bool} (q : Texted k n c) {r : Row} {b l us z : List ℕ} {σ₁ : Num} → Shown A r (box (header_of n 0 b 0 false c) l) → ClassWrites σ c z us σ₁ → l ≡ us ++ [] → NotIn v σ₁.objs
          → RowWrites r (z ++ (k ∷ byte_string_bytes b)) (add_o v σ₁)
      unfolding write_row write_variables
      put_text text_string (string_shown {w = w}) c e ni = let d = classed w c e in object_new size (d.new v ni) (d.writes v _)
      put_text text_float float_shown none_writes e ni = object_new size ni (bytes_writes size (add_o v σ) _)

      put_bignum : {r : Row} {n : ℕ} {minus : Bool} {ms : List ℕ} → Shown A r (box (header_of 10 n [] 0 minus false) ms) → NotIn v σ.objs → RowWrites r (BIGNUM ∷ bignum_bytes minus n) (add_o v σ)
      unfolding write_row
      put_bignum bignum_shown ni = object_new size ni (bytes_writes size (add_o v σ) _)

      -- the level, the contents, then the variables
      put_variables : (body : Writer) (p n : ℕ) (τ τ₁ τ₂ : Num) (x y : List ℕ) → Writes size level τ [] τ → Writes size body τ x τ₁
          → Writes size (write_pairs (write_name size A) inner (range A.references p (n * 2))) τ₁ y τ₂
          → Writes size (write_variables size A level inner body (present p n)) τ (INSTANCE_VARIABLES ∷ x ++ integer_bytes n ++ y) τ₂
      unfolding write_variables write_instance_variables
      put_variables body p n τ τ₁ τ₂ x y w₀ w w₁ =
          writes_as size ((INSTANCE_VARIABLES ∷ x) ++ (integer_bytes n ++ y)) (INSTANCE_VARIABLES ∷ x ++ integer_bytes n ++ y) (psym (append_assoc (INSTANCE_VARIABLES ∷ x) (integer_bytes n) y))
          (then_writes size (then_writes size (then_writes size (bytes_writes size τ (INSTANCE_VARIABLES ∷ [])) w₀) w)
          (then_writes size (bytes_writes size τ₁ (integer_bytes n)) w₁))

      put_string_vars : (ms : List ℕ) {r : Row} {b l us z : List ℕ} {n : ℕ} {c : Bool} {σ₁ : Num} → Shown A r (box (header_of 7 0 b n true c) l) → ClassWrites σ c z us σ₁ → l ≡ us ++ ms → (y : List ℕ) (σ₂ : Num) → NotIn v σ₁.objs
          → Writes size level (add_o v σ) [] (add_o v σ) → Writes size (write_pairs (write_name size A) inner ms) (add_o v σ₁) y σ₂
          → RowWrites r (INSTANCE_VARIABLES ∷ z ++ (STRING ∷ byte_string_bytes b ++ integer_bytes n ++ y)) σ₂
      unfolding write_row
      put_string_vars ms {b = b} {z = z} {n = n} {σ₁ = σ₁} (string_vars_shown {p = p} {w = w}) c e y σ₂ ni w₀ x =
          let d = classed w c e in
          let k : List ℕ = STRING ∷ byte_string_bytes b in
          object_new size (d.new v ni)
          (writes_as size (INSTANCE_VARIABLES ∷ (z ++ k) ++ integer_bytes n ++ y) (INSTANCE_VARIABLES ∷ z ++ (k ++ integer_bytes n ++ y)) (ap (λ (t : List ℕ). INSTANCE_VARIABLES ∷ t) (simp append_assoc refl))
          (put_variables _ p n (add_o v σ) (add_o v σ₁) σ₂ (z ++ k) y w₀ (d.writes v k) (rw d.rest x)))

  module _ (inner : ℕ → Writer) (level : Writer) (v : ℕ) (σ : Num) where
    -- `u`, the name, the bytes
    put_user_head : (c : ℕ) (b z y : List ℕ) (o : List ℕ) → Writes size (write_name size A c) (record { objs = o; syms = σ.syms }) z (record { objs = o; syms = y })
        → Writes size (write size (USER_DEFINED ∷ []) >> write_name size A c >> write size (byte_string_bytes b)) (record { objs = o; syms = σ.syms }) (USER_DEFINED ∷ z ++ byte_string_bytes b) (record { objs = o; syms = y })
    put_user_head c b z y o w = then_writes size (then_writes size (bytes_writes size _ (USER_DEFINED ∷ [])) w) (bytes_writes size _ (byte_string_bytes b))

    put_user : {r : Row} {b z us : List ℕ} {σ₁ : Num} → NameWrites z σ us σ₁ → Shown A r (box (header_of 8 0 b 0 false false) (us ++ [])) → NotIn v σ₁.objs
        → RowWrites inner level v σ r (USER_DEFINED ∷ z ++ byte_string_bytes b) (add_o v σ₁)
    unfolding write_row write_variables
    put_user {b = b} {z = z} (name_writes {c = c} {y = y} w) user_shown ni = object_new size ni (put_user_head c b z y (σ.objs ++ (v ∷ [])) (w (σ.objs ++ (v ∷ []))))

    put_user_vars : (ms : List ℕ) {r : Row} {b z us : List ℕ} {n : ℕ} {σ₁ : Num} → NameWrites z σ us σ₁ → Shown A r (box (header_of 8 0 b n true false) (us ++ ms)) → NotIn v σ₁.objs → (y : List ℕ) (σ₂ : Num)
        → Writes size level (add_o v σ) [] (add_o v σ) → Writes size (write_pairs (write_name size A) inner ms) (add_o v σ₁) y σ₂
        → RowWrites inner level v σ r (INSTANCE_VARIABLES ∷ USER_DEFINED ∷ z ++ byte_string_bytes b ++ integer_bytes n ++ y) σ₂
    unfolding write_row
    put_user_vars ms {b = b} {z = z} {n = n} {σ₁ = σ₁} (name_writes {c = c} {y = y} w) (user_vars_shown {p = p}) ni x σ₂ w₀ w₁ =
        object_new size ni (put_variables inner level v σ _ p n (add_o v σ) (add_o v σ₁) σ₂ (USER_DEFINED ∷ z ++ byte_string_bytes b) x w₀ (put_user_head c b z y (σ.objs ++ (v ∷ [])) (w (σ.objs ++ (v ∷ [])))) w₁)

-- ---- forests

row_value : (size : ℕ) (A : Arena) (limit l v : ℕ) (σ σ' : Num) (z : List ℕ) → RowWrites size A (write_value size A limit l) (write_level limit l) v σ (node A v) z σ' → Writes size (write_value size A limit (suc l) v) σ z σ'
unfolding write_value
row_value size A limit l v σ σ' z w = record { after_any = λ b h. w.after_any b h }

level_left : (size limit l : ℕ) (σ : Num) → Writes size (write_level limit (suc l)) σ [] σ
unfolding write_level pure
level_left size limit l σ = record { after_any = λ b h. (nothing size σ).after_any b h }

dist_o : {v : ℕ} {σ : Num} → Dist σ → NotIn v σ.objs → Dist (add_o v σ)
dist_o {v} {σ} h n = record { dob = distinct_snoc σ.objs v h.dob n; dsy = h.dsy }

dist_s : {v : ℕ} {σ : Num} → Dist σ → NotIn v σ.syms → Dist (add_s v σ)
dist_s {v} {σ} h n = record { dob = h.dob; dsy = distinct_snoc σ.syms v h.dsy n }

module _ (size : ℕ) (A : Arena) (limit : ℕ) where
  abbrev value : ℕ → ℕ → Writer
  value l = write_value size A limit l

  abbrev Whole : Mode → ℕ → List ℕ → Num → List ℕ → Num → Type 0
  Whole m l vs σ x σ' = Writes size (run size A m (value l) vs) σ x σ'

  -- a value by its row, and what comes after
  step : (m : Mode) (l v : ℕ) (ws : List ℕ) {σ σ₁ σ' : Num} {z x : List ℕ} → IsValue m → RowWrites size A (value l) (write_level limit l) v σ (node A v) z σ₁ → Whole (after m) (suc l) ws σ₁ x σ'
      → Whole m (suc l) (v ∷ ws) σ (z ++ x) σ'
  step m l v ws {σ} {σ₁} {σ'} {z} {x} i w u = run_value size A (value (suc l)) m v ws i (row_value size A limit l v σ σ₁ z w) u

  -- the same where its bytes begin with a class
  step_class : (m : Mode) (l v : ℕ) (ws z y x : List ℕ) {σ σ₁ σ' : Num} → IsValue m → RowWrites size A (value l) (write_level limit l) v σ (node A v) (z ++ y) σ₁ → Whole (after m) (suc l) ws σ₁ x σ'
      → Whole m (suc l) (v ∷ ws) σ (z ++ (y ++ x)) σ'
  step_class m l v ws z y x i w u = writes_as size (z ++ y ++ x) (z ++ (y ++ x)) (append_assoc z y x) (step m l v ws i w u)

  complete : {m : Mode} {l : ℕ} {g : F} {x vs : List ℕ} {σ σ' : Num} → Text m l g x → E (seen A) g vs σ σ' → Dist σ → Whole m l vs σ x σ'
  unfolding write_elements write_pairs
  complete {σ = σ} t_end e_end h = nothing size σ
  complete {σ = σ} t_end_pairs e_end h = nothing size σ
  complete {σ = σ} {σ' = σ'} (t_name {l = l} {n = k} {b = b} {x = x} t) (e_sym {v = c} {ws = ws} a n d) h =
      run_name size A (value l) k c ws σ (add_s c σ) σ' (SYMBOL ∷ byte_string_bytes b) x (new_name size A σ c b a n) (complete t d (dist_s h n))
  complete {σ = σ} {σ' = σ'} (t_name_link {l = l} {n = k} {k = j} {x = x} t) (e_symref {v = c} {ws = ws} a n d) h =
      run_name size A (value l) k c ws σ σ σ' (SYMBOL_LINK ∷ integer_bytes j) x (name_again size A σ c j h.dsy n) (complete t d h)
  complete {σ = σ} (t_class {l = l} {n = k} {b = b} t) (e_sym {v = c} {ws = ws} a n d) h =
      run_class size A (value l) k c ws (new_name size A σ c b a n) (complete t d (dist_s h n))
  complete {σ = σ} (t_class_link {l = l} {n = k} {k = j} t) (e_symref {v = c} {ws = ws} a n d) h =
      run_class size A (value l) k c ws (name_again size A σ c j h.dsy n) (complete t d h)
  complete {m = m} {σ = σ} (t_nil {l = l} i t) (e_leaf {v = v} {ws = ws} a d) h = step m l v ws i (put_nil size A (value l) _ v σ (shown_at A v _ a)) (complete t d h)
  complete {m = m} {σ = σ} (t_false {l = l} i t) (e_leaf {v = v} {ws = ws} a d) h = step m l v ws i (put_false size A (value l) _ v σ (shown_at A v _ a)) (complete t d h)
  complete {m = m} {σ = σ} (t_true {l = l} i t) (e_leaf {v = v} {ws = ws} a d) h = step m l v ws i (put_true size A (value l) _ v σ (shown_at A v _ a)) (complete t d h)
  complete {m = m} {σ = σ} (t_fixnum {l = l} i b t) (e_leaf {v = v} {ws = ws} a d) h = step m l v ws i (put_fixnum size A (value l) _ v σ (shown_at A v _ a)) (complete t d h)
  complete {m = m} {σ = σ} (t_symbol {l = l} i t) (e_sym {v = v} {ws = ws} a n d) h = step m l v ws i (put_symbol size A (value l) _ v σ (shown_at A v _ a) n) (complete t d (dist_s h n))
  complete {m = m} {σ = σ} (t_symbol_link {l = l} {k = j} i t) (e_symref {v = v} {ws = ws} a n d) h = step m l v ws i (put_symbol_link size A (value l) _ v σ (shown_at A v _ a) j h.dsy n) (complete t d h)
  complete {m = m} {σ = σ} (t_object_link {l = l} {k = j} i t) (e_ref {v = v} {ws = ws} a n d) h = step m l v ws i (put_object_link size A (value l) _ v σ (shown_at A v _ a) j h.dob n) (complete t d h)
  complete {m = m} {σ = σ} (t_array {l = l} {n = k} {x = x} {y = y} {z = z} i c q t t₁) (e_box {v = v} {ms = ms} {ws = ws} {σ₂ = σ₂} a d₀ n d₁ d) h =
      let h₁ = dist_o (e_dist d₀ h) n in
      step_class m l v ws z (ARRAY ∷ integer_bytes k ++ y) x i (put_array size A (value l) _ v σ ms (shown_at A v _ a) (one_class size A c d₀ h) refl y σ₂ n (complete t d₁ h₁)) (complete t₁ d (e_dist d₁ h₁))
  complete {m = m} {σ = σ} (t_hash {l = l} {n = k} {x = x} {y = y} {z = z} i c q t t₁) (e_box {v = v} {ms = ms} {ws = ws} {σ₂ = σ₂} a d₀ n d₁ d) h =
      let h₁ = dist_o (e_dist d₀ h) n in
      step_class m l v ws z (HASH ∷ integer_bytes k ++ y) x i (put_hash size A (value l) _ v σ ms (shown_at A v _ a) (one_class size A c d₀ h) refl y σ₂ n (complete t d₁ h₁)) (complete t₁ d (e_dist d₁ h₁))
  complete {m = m} {σ = σ} (t_hash_default {l = l} {n = k} {x = x} {y = y} {z = z} i c q t t₁) (e_box {v = v} {ms = ms} {ws = ws} {σ₂ = σ₂} a d₀ n d₁ d) h =
      let h₁ = dist_o (e_dist d₀ h) n in
      step_class m l v ws z (HASH_DEFAULT ∷ integer_bytes k ++ y) x i (put_default size A (value l) _ v σ ms (shown_at A v _ a) (one_class size A c d₀ h) refl y σ₂ n (complete t d₁ h₁)) (complete t₁ d (e_dist d₁ h₁))
  complete {m = m} {σ = σ} (t_object {l = l} {y = y} i t t₁) (e_box {v = v} {ws = ws} {σ₂ = σ₂} a e_end n d₁ d) h =
      step m l v ws i (put_object size A (value l) _ v σ (shown_at A v _ a) y σ₂ n (complete t d₁ (dist_o h n))) (complete t₁ d (e_dist d₁ (dist_o h n)))
  complete {m = m} {σ = σ} (t_text {l = l} {k = k} {b = b} {x = x} {z = z} q i c t) (e_box {v = v} {ws = ws} a d₀ n e_end d) h =
      step_class m l v ws z (k ∷ byte_string_bytes b) x i (put_text size A (value l) _ v σ q (shown_at A v _ a) (one_class size A c d₀ h) refl n) (complete t d (dist_o (e_dist d₀ h) n))
  complete {m = m} {σ = σ} (t_bignum {l = l} i q t) (e_box {v = v} {ws = ws} a e_end n e_end d) h =
      step m l v ws i (put_bignum size A (value l) _ v σ (shown_at A v _ a) n) (complete t d (dist_o h n))
  complete {m = m} {σ = σ} (t_string_vars {l = l} {n = k} {b = b} {x = x} {y = y} {z = z} i c t t₁) (e_box {v = v} {ms = ms} {ws = ws} {σ₂ = σ₂} a d₀ n d₁ d) h =
      let h₁ = dist_o (e_dist d₀ h) n in
      step_class m (suc l) v ws (INSTANCE_VARIABLES ∷ z) (STRING ∷ byte_string_bytes b ++ integer_bytes k ++ y) x i
      (put_string_vars size A (value (suc l)) _ v σ ms (shown_at A v _ a) (one_class size A c d₀ h) refl y σ₂ n (level_left size limit l (add_o v σ)) (complete t d₁ h₁)) (complete t₁ d (e_dist d₁ h₁))
  complete {m = m} {σ = σ} (t_user {l = l} i t₀ t₁) (e_box {v = v} {ws = ws} a d₀ n e_end d) h =
      step m l v ws i (put_user size A (value l) _ v σ (one_name size A t₀ d₀ h) (shown_at A v _ a) n) (complete t₁ d (dist_o (e_dist d₀ h) n))
  complete {m = m} {σ = σ} (t_user_vars {l = l} {y = y} i t₀ t t₁) (e_box {v = v} {ms = ms} {ws = ws} {σ₂ = σ₂} a d₀ n d₁ d) h =
      step m (suc l) v ws i (put_user_vars size A (value (suc l)) _ v σ ms (one_name size A t₀ d₀ h) (shown_at A v _ a) n y σ₂ (level_left size limit l (add_o v σ)) (complete t d₁ (dist_o (e_dist d₀ h) n)))
      (complete t₁ d (e_dist d₁ (dist_o (e_dist d₀ h) n)))

-- ---- dump

-- the whole output: the two version bytes, then the root's
pub dump_complete : (size : ℕ) (A : Arena) (limit : ℕ) (g : F) (x : List ℕ) (σ : Num) → Text values limit g x → E (seen A) g (A.root ∷ []) fresh σ → length x + 2 ≤ size
    → dump size A limit ≡ ok tt (written (0x04 ∷ 0x08 ∷ x) σ)
unfolding dump write_elements pure
dump_complete size A limit g x σ t d h =
    let s₁ = written (0x04 ∷ 0x08 ∷ []) fresh in
    let s' = written (0x04 ∷ 0x08 ∷ x) σ in
    let e : write_elements (write_value size A limit limit) (A.root ∷ []) s₁ ≡ ok tt s' = (complete size A limit t d no_dist).after_any (0x04 ∷ 0x08 ∷ []) (omega arith) in
    let (s₂, e₁, e₂) = un_then (write_value size A limit limit A.root) (write_elements (write_value size A limit limit) []) s₁ s' e in
    then_ok (write size (0x04 ∷ 0x08 ∷ [])) (write_value size A limit limit A.root) (written [] fresh) s₁ s'
    (write_ok size (0x04 ∷ 0x08 ∷ []) (written [] fresh) (omega arith)) (e₁ ∙ e₂)

-- ---- levels

text_suc : {m : Mode} {l : ℕ} {g : F} {x : List ℕ} → Text m l g x → Text m (suc l) g x
text_suc t_end = t_end
text_suc t_end_pairs = t_end_pairs
text_suc (t_name t) = t_name (text_suc t)
text_suc (t_name_link t) = t_name_link (text_suc t)
text_suc (t_class t) = t_class (text_suc t)
text_suc (t_class_link t) = t_class_link (text_suc t)
text_suc (t_nil i t) = t_nil i (text_suc t)
text_suc (t_false i t) = t_false i (text_suc t)
text_suc (t_true i t) = t_true i (text_suc t)
text_suc (t_fixnum i b t) = t_fixnum i b (text_suc t)
text_suc (t_symbol i t) = t_symbol i (text_suc t)
text_suc (t_symbol_link i t) = t_symbol_link i (text_suc t)
text_suc (t_object_link i t) = t_object_link i (text_suc t)
text_suc (t_array i c q t t₁) = t_array i c q (text_suc t) (text_suc t₁)
text_suc (t_hash i c q t t₁) = t_hash i c q (text_suc t) (text_suc t₁)
text_suc (t_hash_default i c q t t₁) = t_hash_default i c q (text_suc t) (text_suc t₁)
text_suc (t_object i t t₁) = t_object i (text_suc t) (text_suc t₁)
text_suc (t_text q i c t) = t_text q i c (text_suc t)
text_suc (t_bignum i q t) = t_bignum i q (text_suc t)
text_suc (t_string_vars i c t t₁) = t_string_vars i c (text_suc t) (text_suc t₁)
text_suc (t_user i c t) = t_user i c (text_suc t)
text_suc (t_user_vars i c t t₁) = t_user_vars i c (text_suc t) (text_suc t₁)

-- more levels do no harm
pub text_up : {m : Mode} {l : ℕ} {g : F} {x : List ℕ} (k : ℕ) → l ≤ k → Text m l g x → Text m k g x
text_up {m} {l} {g} {x} zero h t =
    let e : l ≡ 0 = omega arith in
    rw e at t
text_up {m} {l} {g} {x} (suc k) h t = go (dec_le l k) (λ p. text_up k p t)
  where
    go : Dec (l ≤ k) → (l ≤ k → Text m k g x) → Text m (suc k) g x
    go (yes p) f = text_suc (f p)
    go (no p) f = let e : l ≡ suc k = omega arith in rw e at t
