-- A dump sees nothing but the graph: two arenas with the same graph are dumped alike, refused dumps too.
use Prim.Native.Nat.{ℕ, zero, suc, ◌-◌, ◌*◌}
use Rattle.std.specs.Prelude.{◌≡◌, Bool, eqb, leb}
use Rattle.std.proofs.Math.Path.{refl, ap, subst}
use Rattle.std.proofs.Common.{sym as psym, ◌∙◌, eq-eqb, ne_eqb}
use Rattle.std.proofs.Math.Bool.{true, false}
use Rattle.std.proofs.Math.Option.{Option, none, some}
use mathlib.Core.List.{List, [], ◌∷◌, ◌++◌, append-nil}
use Rattle.std.proofs.Math.ListN.{length}
use Rattle.std.proofs.Math.Decide.{ℕ_discrete}
use Rattle.definition.specs.Run.{Outcome, ok, refused, pure, refuse, next, ◌>>=◌, look, pick}
use Rattle.definition.specs.Integer.{integer_bytes}
use Rattle.definition.specs.Kind.{SYMBOL, SYMBOL_LINK, OBJECT_LINK, STRING, USER_DEFINED, FLOAT, BIGNUM, USER_CLASS}
use Rattle.definition.specs.Node.{Row, nil, bool, fixnum, symbol, array, hash, object, string, user, float, bignum, absent, present, optional_node, optional_present}
use Rattle.definition.specs.Magnitude.{magnitude, bignum_bytes}
use Rattle.definition.specs.Arena.{Arena, node, range, name_of, firsts}
use Rattle.definition.specs.Graph.{header_of, SameGraph, header}
use Rattle.definition.specs.Dump.{Written, Writer, ◌>>◌, write, number_symbol, number_object, number_in, link_or, byte_string_bytes, write_symbol, write_object_or_link, write_elements, write_pairs, write_name, write_instance_variables, write_variables, write_default, hash_byte, write_class, write_row, write_level, write_value, dump}
use Rattle.definition.specs.Slice.{OUTPUT}
use Rattle.definition.specs.declared.Refusal.{Refusal}
use Rattle.definition.specs.declared.Refusal.TheVariants.{NoSpace, TooDeep}
use Rattle.lists.specs.Lists.{At, PW, pw_snoc, apart}
use Rattle.graph.specs.Forest.{Node, leaf, sym, box}
use Rattle.graph.specs.Describe.{Like, Key}
use Rattle.graph.specs.Describe as Describe
use Rattle.graph.specs.View.{see, seen, see_at, at_see}
use Rattle.well_formed.specs.Nodes.{at_node, Name}
use Rattle.well_formed.specs.Right.{Right, RowRight, Names, ClassRight}
use Rattle.dump_forest.specs.Shown.{Shown, nil_shown, false_shown, true_shown, fixnum_shown, symbol_shown, array_shown, hash_shown, default_shown, object_shown, string_shown, string_vars_shown, user_shown, user_vars_shown, float_shown, bignum_shown, shown_at, name_shown}
use Rattle.dump_forest.specs.Same.{graph_of, same_pairing}

pw_snoc_inv : (R : ℕ → ℕ → Type 0) (l m : List ℕ) (x y : ℕ) → PW R (l ++ (x ∷ [])) (m ++ (y ∷ [])) → PW R l m × R x y
pw_snoc_inv R [] [] x y p = (tt, p.0)
pw_snoc_inv R [] (b ∷ []) x y p = absurd p.1
pw_snoc_inv R [] (b ∷ c ∷ m) x y p = absurd p.1
pw_snoc_inv R (a ∷ []) [] x y p = absurd p.1
pw_snoc_inv R (a ∷ c ∷ l) [] x y p = absurd p.1
pw_snoc_inv R (a ∷ l) (b ∷ m) x y p = let (q, r) = pw_snoc_inv R l m x y p.1 in ((p.0, q), r)

module _ (size : ℕ) (P Q : Arena) (R : ℕ → ℕ → Type 0) (π : Describe.Pairing (graph_of P) (graph_of Q) R) where
  -- the same bytes, and nodes numbered in pairs
  pub record Alike (s t : Written) : Type 0 where
    pub bytes : s.bytes ≡ t.bytes
    pub symbols : PW R s.symbols t.symbols
    pub objects : PW R s.objects t.objects

  -- both accepted alike, or refused for one reason
  pub data Same : Outcome Written (Unit {0}) → Outcome Written (Unit {0}) → Type 0 where
    both_done : {s t : Written} → Alike s t → Same (ok tt s) (ok tt t)
    both_refused : {r : Refusal} → Same (refused r) (refused r)

  record Twin (m n : Writer) : Type 0 where
    runs : (s t : Written) → Alike s t → Same (m s) (n t)

  -- ---- steps

  twin_pure : Twin (pure tt) (pure tt)
  unfolding pure
  twin_pure = record { runs = λ s t a. both_done a }

  twin_refuse : (r : Refusal) → Twin (refuse r) (refuse r)
  unfolding refuse
  twin_refuse r = record { runs = λ s t a. both_refused }

  twin_then : {m m' n n' : Writer} → Twin m n → Twin m' n' → Twin (m >> m') (n >> n')
  unfolding ◌>>◌ ◌>>=◌ next
  twin_then {m} {m'} {n} {n'} f g = record { runs = λ s t a. go (f.runs s t a) }
    where
      go : {o o' : Outcome Written (Unit {0})} → Same o o' → Same (next o (λ _. m')) (next o' (λ _. n'))
      go (both_done a) = g.runs _ _ a
      go both_refused = both_refused

  twin_write : (bs : List ℕ) → Twin (write size bs) (write size bs)
  unfolding write pick
  twin_write bs = record {
    runs = λ s t a.
        subst (λ (n : ℕ). Same (write size bs s) (pick (leb (length bs) (size - n)) (ok tt (record { bytes = t.bytes ++ bs; symbols = t.symbols; objects = t.objects })) (refused (NoSpace OUTPUT)))) (ap length a.bytes)
        (go (leb (length bs) (size - length s.bytes)) (record { bytes = ap (λ (x : List ℕ). x ++ bs) a.bytes; symbols = a.symbols; objects = a.objects }));
  }
    where
      go : (b : Bool) {x y : Written} → Alike x y → Same (pick b (ok tt x) (refused (NoSpace OUTPUT))) (pick b (ok tt y) (refused (NoSpace OUTPUT)))
      go true a = both_done a
      go false a = both_refused

  twin_number_symbol : (v w : ℕ) → R v w → Twin (number_symbol v) (number_symbol w)
  unfolding number_symbol
  twin_number_symbol v w r = record { runs = λ s t a. both_done (record { bytes = a.bytes; symbols = pw_snoc R s.symbols t.symbols v w a.symbols r; objects = a.objects }) }

  twin_number_object : (v w : ℕ) → R v w → Twin (number_object v) (number_object w)
  unfolding number_object
  twin_number_object v w r = record { runs = λ s t a. both_done (record { bytes = a.bytes; symbols = a.symbols; objects = pw_snoc R s.objects t.objects v w a.objects r }) }

  -- ---- numbers

  -- paired nodes, both of kinds 3 to 10
  record Keys (v w : ℕ) : Type 0 where
    paired : R v w
    left_node : Node
    right_node : Node
    left_at : At (seen P) v left_node
    right_at : At (seen Q) w right_node
    left_key : Key left_node
    right_key : Key right_node

  same_eqb : (x y v w : ℕ) → R x y → Keys v w → eqb x v ≡ eqb y w
  same_eqb x y v w r k = go (ℕ_discrete x v) (ℕ_discrete y w)
    where
      go : Dec (x ≡ v) → Dec (y ≡ w) → eqb x v ≡ eqb y w
      go (yes p) (yes q) = rw (p, q, eq-eqb v v refl, eq-eqb w w refl) refl
      go (yes p) (no q) = absurd (q (π.left v y w k.left_node (rw (← p) r) k.paired k.left_at k.left_key))
      go (no p) (yes q) = absurd (p (π.right x v w k.right_node (rw (← q) r) k.paired k.right_at k.right_key))
      go (no p) (no q) = rw (ne_eqb x v p, ne_eqb y w q) refl

  same_number : (l m : List ℕ) → PW R l m → (v w i : ℕ) → Keys v w → number_in l v i ≡ number_in m w i
  unfolding number_in
  same_number [] [] p v w i k = refl
  same_number [] (y ∷ m) p v w i k = absurd p
  same_number (x ∷ l) [] p v w i k = absurd p
  same_number (x ∷ l) (y ∷ m) p v w i k = rw (same_eqb x y v w p.0 k, same_number l m p.1 v w (suc i) k)

  twin_link : (k : ℕ) {f g : Writer} → Twin f g → (o : Option ℕ) → Twin (link_or size k f o) (link_or size k g o)
  unfolding link_or
  twin_link k t (some i) = twin_write (k ∷ integer_bytes i)
  twin_link k t none = t

  twin_symbol : (v w : ℕ) (b : List ℕ) → Keys v w → Twin (write_symbol size v b) (write_symbol size w b)
  unfolding write_symbol look
  twin_symbol v w b k = record {
    runs = λ s t a.
        subst (λ (o : Option ℕ). Same (write_symbol size v b s) (link_or size SYMBOL_LINK (number_symbol w >> write size (SYMBOL ∷ byte_string_bytes b)) o t)) (same_number s.symbols t.symbols a.symbols v w 0 k)
        ((twin_link SYMBOL_LINK (twin_then (twin_number_symbol v w k.paired) (twin_write (SYMBOL ∷ byte_string_bytes b))) (number_in s.symbols v 0)).runs s t a);
  }

  twin_object_or_link : (v w : ℕ) {f g : Writer} → Keys v w → Twin f g → Twin (write_object_or_link size v f) (write_object_or_link size w g)
  unfolding write_object_or_link look
  twin_object_or_link v w {f} {g} k x = record {
    runs = λ s t a.
        subst (λ (o : Option ℕ). Same (write_object_or_link size v f s) (link_or size OBJECT_LINK (number_object w >> g) o t)) (same_number s.objects t.objects a.objects v w 0 k)
        ((twin_link OBJECT_LINK (twin_then (twin_number_object v w k.paired) x) (number_in s.objects v 0)).runs s t a);
  }

  -- ---- names and lists of members

  symbol_too : (c d : ℕ) (b : List ℕ) → R c d → At (seen P) c (sym b) → At (seen Q) d (sym b)
  symbol_too c d b r e = let (n, m, x, y, k) = π.alike c d r in go n m x y k
    where
      go : (n m : Node) → At (seen P) c n → At (seen Q) d m → Like R n m → At (seen Q) d (sym b)
      go n m x y k =
          let q : n ≡ sym b = cc in
          let z : Like R (sym b) m = subst (λ (i : Node). Like R i m) q k in
          y ∙ ap some z

  symbol_keys : (c d : ℕ) (b : List ℕ) → R c d → At (seen P) c (sym b) → At (seen Q) d (sym b) → Keys c d
  symbol_keys c d b r e f = record { paired = r; left_node = sym b; right_node = sym b; left_at = e; right_at = f; left_key = tt; right_key = tt }

  name_seen : (c : ℕ) → Name P c → (b : List ℕ) × At (seen P) c (sym b)
  unfolding see header
  name_seen c (s, l, e) = (range P.bytes s l, see_at P c (symbol s l) e)

  twin_name : (c d : ℕ) → R c d → Name P c → Twin (write_name size P c) (write_name size Q d)
  unfolding write_name
  twin_name c d r h =
      let (b, e) = name_seen c h in
      let f = symbol_too c d b r e in
      let p : name_of P.bytes (node P c) ≡ b = name_shown P (node P c) b (shown_at P c (sym b) e) in
      let q : name_of Q.bytes (node Q d) ≡ b = name_shown Q (node Q d) b (shown_at Q d (sym b) f) in
      subst (λ (x : List ℕ). Twin (write_symbol size c x) (write_symbol size d (name_of Q.bytes (node Q d)))) (psym p)
      (subst (λ (x : List ℕ). Twin (write_symbol size c b) (write_symbol size d x)) (psym q) (twin_symbol c d b (symbol_keys c d b r e f)))

  -- a class and the members after it
  twin_class : (a b : ℕ) (l m : List ℕ) → optional_present a ≡ optional_present b → ClassRight P a → PW R (optional_node a ++ l) (optional_node b ++ m)
      → Twin (write_class size P a) (write_class size Q b) × PW R l m
  unfolding write_class optional_present optional_node
  twin_class zero zero l m o h p = (twin_pure, p)
  twin_class zero (suc d) l m o h p = apart (cc)
  twin_class (suc c) zero l m o h p = apart (cc)
  twin_class (suc c) (suc d) l m o h p = (twin_then (twin_write (USER_CLASS ∷ [])) (twin_name c d p.0 (h 0 c refl)), p.1)

  module _ (f g : ℕ → Writer) (inner : (v w : ℕ) → R v w → Twin (f v) (g w)) where
    twin_elements : (l m : List ℕ) → PW R l m → Twin (write_elements f l) (write_elements g m)
    unfolding write_elements
    twin_elements [] [] p = twin_pure
    twin_elements [] (y ∷ m) p = absurd p
    twin_elements (x ∷ l) [] p = absurd p
    twin_elements (x ∷ l) (y ∷ m) p = twin_then (inner x y p.0) (twin_elements l m p.1)

    twin_pairs : (l m : List ℕ) → PW R l m → Names P l → Twin (write_pairs (write_name size P) f l) (write_pairs (write_name size Q) g m)
    unfolding write_pairs firsts
    twin_pairs [] [] p h = twin_pure
    twin_pairs [] (d ∷ m) p h = absurd p
    twin_pairs (c ∷ l) [] p h = absurd p
    twin_pairs (c ∷ []) (d ∷ []) p h = twin_name c d p.0 (h 0 c refl)
    twin_pairs (c ∷ []) (d ∷ w ∷ m) p h = absurd p.1
    twin_pairs (c ∷ v ∷ l) (d ∷ []) p h = absurd p.1
    twin_pairs (c ∷ v ∷ l) (d ∷ w ∷ m) p h = twin_then (twin_then (twin_name c d p.0 (h 0 c refl)) (inner v w p.1.0)) (twin_pairs l m p.1.1 (λ k x e. h (suc k) x e))

    twin_instance_variables : (n s s' : ℕ) → PW R (range P.references s (n * 2)) (range Q.references s' (n * 2)) → Names P (range P.references s (n * 2))
        → Twin (write_instance_variables size P f s n) (write_instance_variables size Q g s' n)
    unfolding write_instance_variables
    twin_instance_variables n s s' p h = twin_then (twin_write (integer_bytes n)) (twin_pairs _ _ p h)

    -- ---- rows

    module _ (level : Writer) (test : Twin level level) (v w : ℕ) where
      abbrev Rows : Row → Row → Type 0
      Rows r q = Twin (write_row size P level f v r) (write_row size Q level g w q)

      twin_nil : {q : Row} → Shown Q q (leaf 0 0) → Rows nil q
      unfolding write_row
      twin_nil nil_shown = twin_write _

      twin_false : {q : Row} → Shown Q q (leaf 1 0) → Rows (bool false) q
      unfolding write_row
      twin_false false_shown = twin_write _

      twin_true : {q : Row} → Shown Q q (leaf 1 1) → Rows (bool true) q
      unfolding write_row
      twin_true true_shown = twin_write _

      twin_fixnum : (x : ℕ) {q : Row} → Shown Q q (leaf 2 x) → Rows (fixnum x) q
      unfolding write_row
      twin_fixnum x fixnum_shown = twin_write _

      twin_symbol_row : (s l : ℕ) (b : List ℕ) {q : Row} → range P.bytes s l ≡ b → Shown Q q (sym b) → Keys v w → Rows (symbol s l) q
      unfolding write_row
      twin_symbol_row s l b e symbol_shown k = subst (λ (x : List ℕ). Twin (write_symbol size v x) (write_symbol size w b)) (psym e) (twin_symbol v w b k)

      twin_array : (s n a : ℕ) (c : Bool) (ns : List ℕ) {q : Row} → optional_present a ≡ c → ClassRight P a → PW R (optional_node a ++ range P.references s n) ns → Shown Q q (box (header_of 4 0 [] n false c) ns) → Keys v w → Rows (array s n a) q
      unfolding write_row
      twin_array s n a c ns o h p (array_shown {w = b}) k =
          let (t, m) = twin_class a b _ _ o h p in
          twin_object_or_link v w k (twin_then (twin_then t (twin_write _)) (twin_elements _ _ m))

      twin_hash : (s n a : ℕ) (c : Bool) (ns : List ℕ) {q : Row} → optional_present a ≡ c → ClassRight P a → PW R (optional_node a ++ (range P.references s (n * 2) ++ [])) ns → Shown Q q (box (header_of 5 0 [] n false c) ns)
          → Keys v w → Rows (hash s n 0 a) q
      unfolding write_row hash_byte write_default
      twin_hash s n a c ns o h p (hash_shown {s = s'} {w = b}) k =
          let (t, m) = twin_class a b _ _ o h p in
          twin_object_or_link v w k (twin_then (twin_then (twin_then t (twin_write _)) (twin_elements _ _ (rw (append-nil (range P.references s (n * 2)), append-nil (range Q.references s' (n * 2))) at m))) twin_pure)

      twin_default : (s n d a : ℕ) (c : Bool) (ns : List ℕ) {q : Row} → optional_present a ≡ c → ClassRight P a → PW R (optional_node a ++ (range P.references s (n * 2) ++ (d ∷ []))) ns → Shown Q q (box (header_of 5 0 [] n true c) ns)
          → Keys v w → Rows (hash s n (suc d) a) q
      unfolding write_row hash_byte write_default
      twin_default s n d a c ns o h p (default_shown {s = s'} {d = d'} {w = b}) k =
          let (t, m) = twin_class a b _ _ o h p in
          let (x, y) = pw_snoc_inv R (range P.references s (n * 2)) (range Q.references s' (n * 2)) d d' m in
          twin_object_or_link v w k (twin_then (twin_then (twin_then t (twin_write _)) (twin_elements _ _ x)) (inner d d' y))

      twin_object : (s n c : ℕ) (ns : List ℕ) {q : Row} → PW R (c ∷ range P.references s (n * 2)) ns → Shown Q q (box (header_of 6 0 [] n false false) ns)
          → Name P c → Names P (range P.references s (n * 2)) → Keys v w → Rows (object s n c) q
      unfolding write_row
      twin_object s n c ns p (object_shown {s = s'} {c = c'}) a h k =
          twin_object_or_link v w k (twin_then (twin_then (twin_write _) (twin_name c c' p.0 a)) (twin_instance_variables n s s' p.1 h))

      -- the same bytes
      twin_bytes : (x y : List ℕ) → x ≡ y → Twin (write size x) (write size y)
      twin_bytes x y e = subst (λ (z : List ℕ). Twin (write size x) (write size z)) e (twin_write x)

      -- a kind byte and the same byte string
      twin_byte_string : (k : ℕ) {b c : List ℕ} → b ≡ c → Twin (write size (k ∷ byte_string_bytes b)) (write size (k ∷ byte_string_bytes c))
      twin_byte_string k e = twin_bytes _ _ (ap (λ (x : List ℕ). k ∷ byte_string_bytes x) e)

      twin_variables : {body body' : Writer} (n s s' : ℕ) → Twin body body' → PW R (range P.references s (n * 2)) (range Q.references s' (n * 2)) → Names P (range P.references s (n * 2))
          → Twin (write_variables size P level f body (present s n)) (write_variables size Q level g body' (present s' n))
      unfolding write_variables
      twin_variables n s s' x p h = twin_then (twin_then (twin_then (twin_write _) test) x) (twin_instance_variables n s s' p h)

      twin_string : (s l a : ℕ) (c : Bool) (b ns : List ℕ) {q : Row} → optional_present a ≡ c → ClassRight P a → range P.bytes s l ≡ b → PW R (optional_node a ++ []) ns → Shown Q q (box (header_of 7 0 b 0 false c) ns)
          → Keys v w → Rows (string s l absent a) q
      unfolding write_row write_variables
      twin_string s l a c b ns o h e p (string_shown {w = a'}) k = twin_object_or_link v w k (twin_then (twin_class a a' [] [] o h p).0 (twin_byte_string STRING e))

      twin_float : (s l : ℕ) (b ns : List ℕ) {q : Row} → range P.bytes s l ≡ b → Shown Q q (box (header_of 9 0 b 0 false false) ns) → Keys v w → Rows (float s l) q
      unfolding write_row
      twin_float s l b ns e float_shown k = twin_object_or_link v w k (twin_byte_string FLOAT e)

      -- the same magnitude, whatever its words
      twin_bignum : (low high n : ℕ) (m : Bool) (ns : List ℕ) {q : Row} → magnitude low high ≡ n → Shown Q q (box (header_of 10 n [] 0 m false) ns) → Keys v w → Rows (bignum low high m) q
      unfolding write_row
      twin_bignum low high n m ns e bignum_shown k = twin_object_or_link v w k (twin_bytes _ _ (ap (λ (x : ℕ). BIGNUM ∷ bignum_bytes m x) e))

      twin_string_vars : (s l p n a : ℕ) (c : Bool) (b ns : List ℕ) {q : Row} → optional_present a ≡ c → ClassRight P a → range P.bytes s l ≡ b → PW R (optional_node a ++ range P.references p (n * 2)) ns
          → Shown Q q (box (header_of 7 0 b n true c) ns) → Names P (range P.references p (n * 2)) → Keys v w → Rows (string s l (present p n) a) q
      unfolding write_row
      twin_string_vars s l p n a c b ns o r e x (string_vars_shown {p = p'} {w = a'}) h k =
          let (t, m) = twin_class a a' _ _ o r x in
          twin_object_or_link v w k (twin_variables n p p' (twin_then t (twin_byte_string STRING e)) m h)

      twin_user_head : (c c' : ℕ) (b b' : List ℕ) → R c c' → Name P c → b ≡ b'
          → Twin (write size (USER_DEFINED ∷ []) >> write_name size P c >> write size (byte_string_bytes b)) (write size (USER_DEFINED ∷ []) >> write_name size Q c' >> write size (byte_string_bytes b'))
      twin_user_head c c' b b' r a e = twin_then (twin_then (twin_write _) (twin_name c c' r a)) (twin_bytes _ _ (ap byte_string_bytes e))

      twin_user : (s l c : ℕ) (b ns : List ℕ) {q : Row} → range P.bytes s l ≡ b → PW R (c ∷ []) ns → Shown Q q (box (header_of 8 0 b 0 false false) ns) → Name P c → Keys v w → Rows (user s l c absent) q
      unfolding write_row write_variables
      twin_user s l c b ns e x (user_shown {c = c'}) a k = twin_object_or_link v w k (twin_user_head c c' _ _ x.0 a e)

      twin_user_vars : (s l c p n : ℕ) (b ns : List ℕ) {q : Row} → range P.bytes s l ≡ b → PW R (c ∷ range P.references p (n * 2)) ns → Shown Q q (box (header_of 8 0 b n true false) ns)
          → Name P c → Names P (range P.references p (n * 2)) → Keys v w → Rows (user s l c (present p n)) q
      unfolding write_row
      twin_user_vars s l c p n b ns e x (user_vars_shown {c = c'} {p = p'}) a h k = twin_object_or_link v w k (twin_variables n p p' (twin_user_head c c' _ _ x.0 a e) x.1 h)

      box_keys : (h : _) (ms ns : List ℕ) → R v w → At (seen P) v (box h ms) → At (seen Q) w (box h ns) → Keys v w
      box_keys h ms ns r e e' = record { paired = r; left_node = box h ms; right_node = box h ns; left_at = e; right_at = e'; left_key = tt; right_key = tt }

      twin_row : {r q : Row} {n m : Node} → Shown P r n → Shown Q q m → Like R n m → RowRight P r → R v w → At (seen P) v n → At (seen Q) w m → Rows r q
      twin_row {q = q} nil_shown b k h r x y = twin_nil (subst (Shown Q q) k b)
      twin_row {q = q} false_shown b k h r x y = twin_false (subst (Shown Q q) k b)
      twin_row {q = q} true_shown b k h r x y = twin_true (subst (Shown Q q) k b)
      twin_row {q = q} (fixnum_shown {w = z}) b k h r x y = twin_fixnum z (subst (Shown Q q) k b)
      twin_row {q = q} (symbol_shown {s = s} {l = l}) b k h r x y = twin_symbol_row s l _ refl (subst (Shown Q q) k b) (symbol_keys v w _ r x (y ∙ ap some k))
      twin_row {q = q} (array_shown {s = s} {n = n} {w = a}) b (ns, e, p) h r x y = twin_array s n a _ ns refl h.1 p (subst (Shown Q q) e b) (box_keys _ _ ns r x (y ∙ ap some e))
      twin_row {q = q} (hash_shown {s = s} {n = n} {w = a}) b (ns, e, p) h r x y = twin_hash s n a _ ns refl h.2 p (subst (Shown Q q) e b) (box_keys _ _ ns r x (y ∙ ap some e))
      twin_row {q = q} (default_shown {s = s} {n = n} {d = d} {w = a}) b (ns, e, p) h r x y = twin_default s n d a _ ns refl h.2 p (subst (Shown Q q) e b) (box_keys _ _ ns r x (y ∙ ap some e))
      twin_row {q = q} (object_shown {s = s} {n = n} {c = c}) b (ns, e, p) h r x y = twin_object s n c ns p (subst (Shown Q q) e b) h.0 h.1.names (box_keys _ _ ns r x (y ∙ ap some e))
      twin_row {q = q} (string_shown {s = s} {l = l} {w = a}) b (ns, e, p) h r x y = twin_string s l a _ _ ns refl h.2 refl p (subst (Shown Q q) e b) (box_keys _ _ ns r x (y ∙ ap some e))
      twin_row {q = q} (string_vars_shown {s = s} {l = l} {p = p₀} {n = n} {w = a}) b (ns, e, p) h r x y = twin_string_vars s l p₀ n a _ _ ns refl h.2 refl p (subst (Shown Q q) e b) h.1.names (box_keys _ _ ns r x (y ∙ ap some e))
      twin_row {q = q} (user_shown {s = s} {l = l} {c = c}) b (ns, e, p) h r x y = twin_user s l c _ ns refl p (subst (Shown Q q) e b) h.1 (box_keys _ _ ns r x (y ∙ ap some e))
      twin_row {q = q} (user_vars_shown {s = s} {l = l} {c = c} {p = p₀} {n = n}) b (ns, e, p) h r x y = twin_user_vars s l c p₀ n _ ns refl p (subst (Shown Q q) e b) h.1 h.2.names (box_keys _ _ ns r x (y ∙ ap some e))
      twin_row {q = q} (float_shown {s = s} {l = l}) b (ns, e, p) h r x y = twin_float s l _ ns refl (subst (Shown Q q) e b) (box_keys _ _ ns r x (y ∙ ap some e))
      twin_row {q = q} (bignum_shown {low = low} {high = high} {m = m}) b (ns, e, p) h r x y = twin_bignum low high _ m ns refl (subst (Shown Q q) e b) (box_keys _ _ ns r x (y ∙ ap some e))

  -- ---- values

  module _ (ρ : Right P) (limit : ℕ) where
    twin_level : (l : ℕ) → Twin (write_level limit l) (write_level limit l)
    unfolding write_level
    twin_level zero = twin_refuse (TooDeep limit)
    twin_level (suc l) = twin_pure

    twin_value : (l v w : ℕ) → R v w → Twin (write_value size P limit l v) (write_value size Q limit l w)
    unfolding write_value
    twin_value zero v w r = record { runs = λ s t a. both_refused }
    twin_value (suc l) v w r =
        let (n, m, x, y, k) = π.alike v w r in
        let f = at_node P v (at_see P v n x).1 in
        let t = twin_row (write_value size P limit l) (write_value size Q limit l) (twin_value l) (write_level limit l) (twin_level l) v w (shown_at P v n x) (shown_at Q w m y) k (ρ.rows_right v (node P v) f) r x y in
        record { runs = λ s t' a. t.runs s t' a }

    same_dump : Same (dump size P limit) (dump size Q limit)
    unfolding dump
    same_dump = (twin_then (twin_write (0x04 ∷ 0x08 ∷ [])) (twin_value limit P.root Q.root π.roots)).runs _ _ (record { bytes = refl; symbols = tt; objects = tt })

-- accepted with the same bytes, or refused for one reason
pub data Answered : Outcome Written (Unit {0}) → Outcome Written (Unit {0}) → Type 0 where
  with_bytes : {s t : Written} → s.bytes ≡ t.bytes → Answered (ok tt s) (ok tt t)
  with_refusal : {r : Refusal} → Answered (refused r) (refused r)

answered : (size : ℕ) (P Q : Arena) (R : ℕ → ℕ → Type 0) (π : Describe.Pairing (graph_of P) (graph_of Q) R) {o o' : Outcome Written (Unit {0})} → Same size P Q R π o o' → Answered o o'
answered size P Q R π (both_done a) = with_bytes a.bytes
answered size P Q R π both_refused = with_refusal

pub dump_answered : (P Q : Arena) → Right P → Right Q → SameGraph P Q → (size limit : ℕ) → Answered (dump size P limit) (dump size Q limit)
dump_answered P Q ρ κ s size limit =
    let (R, π) = same_pairing P Q ρ κ s in
    answered size P Q R π (same_dump size P Q R π ρ limit)
