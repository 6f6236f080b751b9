-- An accepted dump describes its arena by a forest and writes the forest's bytes.
use Prim.Native.Nat.{ℕ, zero, suc, ◌+◌, ◌*◌, ◌≤◌, ◌<◌, zero-le}
use Rattle.std.specs.Prelude.{◌≡◌, Bool}
use Rattle.std.proofs.Math.Path.{refl, ap}
use Rattle.std.proofs.Common.{sym as psym, ◌∙◌}
use Rattle.std.proofs.Math.Bool.{true, false}
use Rattle.std.proofs.Math.Option.{Option, none, some}
use mathlib.Core.List.{List, [], ◌∷◌, ◌++◌, append_assoc, append-nil}
use Rattle.std.proofs.Math.ListN.{length, length-append}
use native.Mathlib.Omega.{arith}
use Rattle.definition.specs.Run.{ok, pure, refuse, look, pick}
use Rattle.definition.specs.Integer.{integer_bytes}
use Rattle.definition.specs.Kind.{NIL, TRUE, FALSE, FIXNUM, SYMBOL, SYMBOL_LINK, OBJECT_LINK, INSTANCE_VARIABLES, ARRAY, OBJECT, STRING, USER_DEFINED, FLOAT, BIGNUM, USER_CLASS}
use Rattle.definition.specs.Node.{Row, nil, bool, fixnum, symbol, array, hash, object, string, user, float, bignum, absent, present, kind, words, optional_node, optional_present}
use Rattle.definition.specs.Magnitude.{magnitude, bignum_bytes}
use Rattle.definition.specs.Arena.{Arena, node, range, name_of, firsts}
use Rattle.definition.specs.Graph.{Header, header_of, header, links, vars_links, vars_count, vars_present}
use Rattle.definition.specs.Dump.{Written, Writer, ◌>>◌, write, number_symbol, number_object, number_in, link_or, byte_string_bytes, write_symbol, write_object_or_link, write_elements, write_pairs, write_name, write_instance_variables, write_variables, write_default, hash_byte, write_class, write_row, write_level, write_value, dump}
use Rattle.lists.specs.Lists.{At, NotIn, apart, Below, below_join}
use Rattle.lists.specs.Ranges.{length_range}
use Rattle.graph.specs.Forest.{Node, leaf, sym, box, Num, fresh, F, f_end, f_leaf, f_box, f_ref, trees, Class, no_class, a_class, Mode, values, pairs, value_pairs, after, IsValue, Text, t_end, t_end_pairs, t_nil, t_false, t_true, t_fixnum, t_object_link, t_array, t_hash, t_hash_default, t_object, text_string, text_float, t_text, t_bignum, t_string_vars, t_user, t_user_vars}
use Rattle.graph.specs.Describe.{E, e_end, e_leaf, e_box, e_ref, e_sym, e_symref, e_len}
use Rattle.graph.specs.View.{see, seen, see_at}
use Rattle.well_formed.specs.Nodes.{node_at, at_node, Name}
use Rattle.well_formed.specs.Right.{Right, RowRight, Names, ListIn, PairsIn, ClassRight, NumberRight, Fixnums, default_below}
use Rattle.dump_forest.specs.Writers.{num, put, ok_inj, un_then, pure_inv, Wrote, wrote_nothing, wrote_then, write_inv, un_write, number_some, number_none, Item, new, again, item_bytes, item, item_name, item_one, item_class, item_value, join_default}

module _ (size : ℕ) (t : List Node) where
  -- a value was written: a first tree for any forest
  pub record Head (l v : ℕ) (s s' : Written) : Type 0 where
    pub tree : F → F
    pub text : List ℕ
    pub wrote : Wrote size s.bytes s'.bytes text
    pub writes : (m : Mode) (r : F) (x : List ℕ) → IsValue m → Text (after m) l r x → Text m l (tree r) (text ++ x)
    pub says : (r : F) (ws : List ℕ) (σ : Num) → E t r ws (num s') σ → E t (tree r) (v ∷ ws) (num s) σ

  -- a symbol was written, as a name or as a value; objects are not touched
  pub record Symbol (v : ℕ) (s s' : Written) : Type 0 where
    pub as_item : Item
    pub wrote : Wrote size s.bytes s'.bytes (item_bytes as_item)
    pub objects : s.objects ≡ s'.objects
    pub says : (m : Bool) (o : List ℕ) (r : F) (ws : List ℕ) (σ : Num) → E t r ws (record { objs = o; syms = s'.symbols }) σ → E t (item m as_item r) (v ∷ ws) (record { objs = o; syms = s.symbols }) σ

  -- a class was written, or none, and then the bytes bs; objects are not touched
  pub record Classed (w : ℕ) (bs : List ℕ) (s s' : Written) : Type 0 where
    pub forest : F
    pub text : List ℕ
    pub between : List ℕ
    pub wrote : Wrote size s.bytes between text
    pub wrote_bytes : Wrote size between s'.bytes bs
    pub objects : s.objects ≡ s'.objects
    pub writes : Class (optional_present w) forest text
    pub says : (o : List ℕ) → E t forest (optional_node w) (record { objs = o; syms = s.symbols }) (record { objs = o; syms = s'.symbols })

  -- a list of nodes was written
  pub record Described (m : Mode) (l : ℕ) (vs : List ℕ) (s s' : Written) : Type 0 where
    pub forest : F
    pub text : List ℕ
    pub wrote : Wrote size s.bytes s'.bytes text
    pub writes : Text m l forest text
    pub says : E t forest vs (num s) (num s')

  none_described : (m : Mode) (l : ℕ) (s s' : Written) → Text m l f_end [] → s ≡ s' → Described m l [] s s'
  none_described m l s s' w e = rw (← e) (record { forest = f_end; text = []; wrote = wrote_nothing size s.bytes; writes = w; says = e_end })

  -- bytes alone
  plain : (l v : ℕ) (z : List ℕ) (tree : F → F) (s s' : Written)
      → ((m : Mode) (r : F) (x : List ℕ) → IsValue m → Text (after m) l r x → Text m l (tree r) (z ++ x))
      → ((r : F) (ws : List ℕ) (σ : Num) → E t r ws (num s) σ → E t (tree r) (v ∷ ws) (num s) σ)
      → write size z s ≡ ok tt s' → Head l v s s'
  plain l v z tree s s' f g e =
      let (p, w) = write_inv size z s s' e in
      rw (← p) (record { tree = tree; text = z; wrote = w; writes = f; says = g })

  symbol_sound : (v : ℕ) (b : List ℕ) (s s' : Written) → At t v (sym b) → write_symbol size v b s ≡ ok tt s' → Symbol v s s'
  unfolding write_symbol look link_or number_symbol
  symbol_sound v b s s' a e = go (number_in s.symbols v 0) refl e
    where
      go : (o : Option ℕ) → number_in s.symbols v 0 ≡ o → link_or size SYMBOL_LINK (number_symbol v >> write size (SYMBOL ∷ byte_string_bytes b)) o s ≡ ok tt s' → Symbol v s s'
      go (some k) h e =
          let (p, w) = write_inv size _ s s' e in
          let (j, z, i) = number_some s.symbols v 0 k h in
          let q : j ≡ k = omega arith in
          rw (← p) (record { as_item = again k; wrote = w; objects = refl; says = λ m o r ws σ d. e_symref a (rw q at i) d })
      go none h e =
          let (s₁, e₁, e₂) = un_then (number_symbol v) (write size (SYMBOL ∷ byte_string_bytes b)) s s' e in
          let q : record { bytes = s.bytes; symbols = s.symbols ++ (v ∷ []); objects = s.objects } ≡ s₁ = ok_inj _ _ e₁ in
          let (p, w) = write_inv size _ s₁ s' e₂ in
          rw (← p, ← q) (record { as_item = new b; wrote = rw (← q) at w; objects = refl; says = λ m o r ws σ d. e_sym a (number_none s.symbols v 0 h) d })

  -- a node of kinds 4 to 10: a link, or its number and its contents
  object_sound : (l v : ℕ) (first : Writer) (h : Header) (ms : List ℕ) (s s' : Written) → At t v (box h ms)
      → write_object_or_link size v first s ≡ ok tt s'
      → (NotIn v s.objects → first (record { bytes = s.bytes; symbols = s.symbols; objects = s.objects ++ (v ∷ []) }) ≡ ok tt s' → Head (suc l) v s s')
      → Head (suc l) v s s'
  unfolding write_object_or_link look link_or number_object
  object_sound l v first h ms s s' a e f = go (number_in s.objects v 0) refl e
    where
      go : (o : Option ℕ) → number_in s.objects v 0 ≡ o → link_or size OBJECT_LINK (number_object v >> first) o s ≡ ok tt s' → Head (suc l) v s s'
      go (some k) p e =
          let (j, z, i) = number_some s.objects v 0 k p in
          let q : j ≡ k = omega arith in
          plain (suc l) v (OBJECT_LINK ∷ integer_bytes k) (f_ref k) s s' (λ m r x u w. t_object_link u w) (λ r ws σ d. e_ref a (rw q at i) d) e
      go none p e =
          let (s₁, e₁, e₂) = un_then (number_object v) first s s' e in
          let q : record { bytes = s.bytes; symbols = s.symbols; objects = s.objects ++ (v ∷ []) } ≡ s₁ = ok_inj _ _ e₁ in
          f (number_none s.objects v 0 p) (rw q e₂)

same_objects : {t : List Node} {g : F} {vs o o' y : List ℕ} {σ : Num} → o ≡ o' → E t g vs (record { objs = o'; syms = y }) σ → E t g vs (record { objs = o; syms = y }) σ
same_objects e d = rw e d

-- what follows a class, and what follows that
regroup : {m : Mode} {l : ℕ} {g : F} (z y x : List ℕ) → Text m l g (z ++ (y ++ x)) → Text m l g (z ++ y ++ x)
regroup z y x t = rw (append_assoc z y x) t

-- with variables there are two levels
string_text : (l j k : ℕ) (m : Mode) (b : List ℕ) (r : F) {c : Bool} {p : F} {u : List ℕ} → Class c p u → (f : F) (y x : List ℕ) → l ≡ suc j → IsValue m → Text (pairs k) l f y → Text (after m) (suc l) r x
    → Text m (suc l) (f_box (header_of 7 0 b k true c) p f r) (INSTANCE_VARIABLES ∷ u ++ (STRING ∷ byte_string_bytes b ++ integer_bytes k ++ y ++ x))
string_text zero j k m b r c f y x e i t z = absurd (omega arith)
string_text (suc l) j k m b r c f y x e i t z = t_string_vars i c t z

user_text : (l j k : ℕ) (m : Mode) (b : List ℕ) (r : F) (c : Item) (f : F) (y x : List ℕ) → l ≡ suc j → IsValue m → Text (pairs k) l f y → Text (after m) (suc l) r x
    → Text m (suc l) (f_box (header_of 8 0 b k true false) (item false c f_end) f r) (INSTANCE_VARIABLES ∷ USER_DEFINED ∷ item_bytes c ++ byte_string_bytes b ++ integer_bytes k ++ y ++ x)
user_text zero j k m b r c f y x e i t z = absurd (omega arith)
user_text (suc l) j k m b r c f y x e i t z = t_user_vars i (item_one c) t z

-- members of a list that lies below
below_head : (n v : ℕ) (vs : List ℕ) → Below n (v ∷ vs) → v < n
below_head n v vs b = b 0 v refl

below_tail : (n v : ℕ) (vs : List ℕ) → Below n (v ∷ vs) → Below n vs
below_tail n v vs b k u e = b (suc k) u e

module _ (size : ℕ) (A : Arena) where
  abbrev Sound : ℕ → (ℕ → Writer) → Type 0
  Sound l inner = (v : ℕ) → v < length A.nodes → (s s' : Written) → inner v s ≡ ok tt s' → Head size (seen A) l v s s'

  no_level : (limit : ℕ) (s s₁ : Written) → write_level limit 0 s ≡ ok tt s₁ → ⊥
  unfolding write_level refuse
  no_level limit s s₁ e = apart (cc)

  one_level : (limit k : ℕ) (s s₁ : Written) → write_level limit (suc k) s ≡ ok tt s₁ → s ≡ s₁
  unfolding write_level pure
  one_level limit k s s₁ e = ok_inj s s₁ e

  name_sound : (c : ℕ) → Name A c → (s s' : Written) → write_name size A c s ≡ ok tt s' → Symbol size (seen A) c s s'
  unfolding write_name name_of kind words pick see header
  name_sound c (p, n, a) s s' e =
      let q : node A c ≡ symbol p n = node_at A c (symbol p n) a in
      symbol_sound size (seen A) c (range A.bytes p n) s s' (see_at A c (symbol p n) a) (rw q at e)

  class_sound : (w : ℕ) (bs : List ℕ) → ClassRight A w → (s s' : Written) → (write_class size A w >> write size bs) s ≡ ok tt s' → Classed size (seen A) w bs s s'
  unfolding write_class optional_node optional_present
  class_sound zero bs h s s' e =
      let (s₁, e₁, e₂) = un_then (pure tt) (write size bs) s s' e in
      let (p, w) = write_inv size bs s₁ s' e₂ in
      let q : s ≡ s₁ = pure_inv s s₁ e₁ in
      rw (← p, ← q) (record {
        forest = f_end;
        text = [];
        between = s.bytes;
        wrote = wrote_nothing size s.bytes;
        wrote_bytes = rw (← q) at w;
        objects = refl;
        writes = no_class;
        says = λ o. e_end;
      })
  class_sound (suc c) bs h s s' e =
      let (s₁, e₁, e₂) = un_then (write size (USER_CLASS ∷ []) >> write_name size A c) (write size bs) s s' e in
      let (w, e₃) = un_write size (USER_CLASS ∷ []) (write_name size A c) s s₁ e₁ in
      let y = name_sound c (h 0 c refl) (put (USER_CLASS ∷ []) s) s₁ e₃ in
      let (p, w₁) = write_inv size bs s₁ s' e₂ in
      rw (← p) (record {
        forest = item false y.as_item f_end;
        text = USER_CLASS ∷ item_bytes y.as_item;
        between = s₁.bytes;
        wrote = wrote_then size _ _ _ (USER_CLASS ∷ []) (item_bytes y.as_item) w y.wrote;
        wrote_bytes = w₁;
        objects = y.objects;
        writes = a_class (item_one y.as_item);
        says = λ o. y.says false o f_end [] _ e_end;
      })

  module _ (l : ℕ) (inner : ℕ → Writer) (ih : Sound l inner) where
    elements_sound : (vs : List ℕ) → Below (length A.nodes) vs → (s s' : Written) → write_elements inner vs s ≡ ok tt s' → Described size (seen A) values l vs s s'
    unfolding write_elements
    elements_sound [] b s s' e = none_described size (seen A) values l s s' t_end (pure_inv s s' e)
    elements_sound (v ∷ vs) b s s' e =
        let (s₁, e₁, e₂) = un_then (inner v) (write_elements inner vs) s s' e in
        let h = ih v (below_head _ v vs b) s s₁ e₁ in
        let d = elements_sound vs (below_tail _ v vs b) s₁ s' e₂ in
        record {
          forest = h.tree d.forest;
          text = h.text ++ d.text;
          wrote = wrote_then size _ _ _ _ _ h.wrote d.wrote;
          writes = h.writes values d.forest d.text tt d.writes;
          says = h.says d.forest vs (num s') d.says;
        }

    pairs_sound : (vs : List ℕ) (n : ℕ) → length vs ≡ n * 2 → Below (length A.nodes) vs → Names A vs → (s s' : Written)
        → write_pairs (write_name size A) inner vs s ≡ ok tt s' → Described size (seen A) (pairs n) l vs s s'
    unfolding write_pairs firsts
    pairs_sound [] zero q b c s s' e = none_described size (seen A) (pairs 0) l s s' t_end_pairs (pure_inv s s' e)
    pairs_sound [] (suc n) q b c s s' e = absurd (omega arith)
    pairs_sound (u ∷ []) n q b c s s' e = absurd (omega arith)
    pairs_sound (u ∷ v ∷ vs) zero q b c s s' e = absurd (omega arith)
    pairs_sound (u ∷ v ∷ vs) (suc n) q b c s s' e =
        let (s₂, e₁, e₂) = un_then (write_name size A u >> inner v) (write_pairs (write_name size A) inner vs) s s' e in
        let (s₁, e₃, e₄) = un_then (write_name size A u) (inner v) s s₂ e₁ in
        let y = name_sound u (c 0 u refl) s s₁ e₃ in
        let h = ih v (b 1 v refl) s₁ s₂ e₄ in
        let d = pairs_sound vs n (omega arith) (λ k w a. b (suc (suc k)) w a) (λ k w a. c (suc k) w a) s₂ s' e₂ in
        pair u v vs n s s₁ s₂ s' y h d
      where
        pair : (u v : ℕ) (vs : List ℕ) (n : ℕ) (s s₁ s₂ s' : Written) → Symbol size (seen A) u s s₁ → Head size (seen A) l v s₁ s₂ → Described size (seen A) (pairs n) l vs s₂ s'
            → Described size (seen A) (pairs (suc n)) l (u ∷ v ∷ vs) s s'
        pair u v vs n s s₁ s₂ s' y h d = record {
          forest = item false y.as_item (h.tree d.forest);
          text = item_bytes y.as_item ++ (h.text ++ d.text);
          wrote = wrote_then size _ _ _ _ _ y.wrote (wrote_then size _ _ _ _ _ h.wrote d.wrote);
          writes = item_name y.as_item (h.writes (value_pairs n) d.forest d.text tt d.writes);
          says = y.says false s.objects (h.tree d.forest) (v ∷ vs) (num s')
              (same_objects y.objects (h.says d.forest vs (num s') d.says));
        }

    -- the number of pairs, then the pairs
    vars_sound : (p n : ℕ) → PairsIn A p n → (s s' : Written) → write_instance_variables size A inner p n s ≡ ok tt s'
        → Wrote size s.bytes (s.bytes ++ integer_bytes n) (integer_bytes n) × Described size (seen A) (pairs n) l (range A.references p (n * 2)) (put (integer_bytes n) s) s'
    unfolding write_instance_variables
    vars_sound p n h s s' e =
        let (w, e₁) = un_write size (integer_bytes n) (write_pairs (write_name size A) inner (range A.references p (n * 2))) s s' e in
        (w, pairs_sound (range A.references p (n * 2)) n (length_range A.references p (n * 2) h.list.inside) h.list.below h.names (put (integer_bytes n) s) s' e₁)

    -- a class or none, the bytes k, the members
    listed_sound : (v : ℕ) (hd : Header) (w : ℕ) (k ms : List ℕ) {s s₁ s' : Written} → At (seen A) v (box hd (optional_node w ++ ms)) → NotIn v s.objects
        → (c : Classed size (seen A) w k (record { bytes = s.bytes; symbols = s.symbols; objects = s.objects ++ (v ∷ []) }) s₁) (d : Described size (seen A) values l ms s₁ s')
        → ((m : Mode) (r : F) (y : List ℕ) → IsValue m → Text (after m) (suc l) r y → Text m (suc l) (f_box hd c.forest d.forest r) (c.text ++ (k ++ d.text ++ y))) → Head size (seen A) (suc l) v s s'
    listed_sound v hd w k ms {s} x ni c d f = record {
      tree = λ r. f_box hd c.forest d.forest r;
      text = c.text ++ (k ++ d.text);
      wrote = wrote_then size _ _ _ _ _ c.wrote (wrote_then size _ _ _ _ _ c.wrote_bytes d.wrote);
      writes = λ m r y i z. regroup c.text (k ++ d.text) y (f m r y i z);
      says = λ r ws σ g. e_box {us = optional_node w} {ms = ms} x (c.says s.objects) ni (same_objects c.objects d.says) g;
    }

    array_sound : (v p n w : ℕ) → At A.nodes v (array p n w) → ListIn A p n → ClassRight A w → (s s' : Written)
        → write_object_or_link size v (write_class size A w >> write size (ARRAY ∷ integer_bytes n) >> write_elements inner (range A.references p n)) s ≡ ok tt s' → Head size (seen A) (suc l) v s s'
    unfolding see header links
    array_sound v p n w a h cr s s' e =
        let ms = range A.references p n in
        let x = see_at A v (array p n w) a in
        object_sound size (seen A) l v _ (header_of 4 0 [] n false (optional_present w)) (optional_node w ++ ms) s s' x e λ ni e₁.
        let (s₁, e₂, e₃) = un_then (write_class size A w >> write size (ARRAY ∷ integer_bytes n)) (write_elements inner ms) _ s' e₁ in
        let c = class_sound w (ARRAY ∷ integer_bytes n) cr _ s₁ e₂ in
        let d = elements_sound ms h.below s₁ s' e₃ in
        listed_sound v _ w _ ms x ni c d (λ m r y i z. t_array i c.writes (e_len d.says ∙ length_range A.references p n h.inside) d.writes z)

    hash_text : (n d : ℕ) (m : Mode) (r : F) {c : Bool} {p : F} {u : List ℕ} → Class c p u → (f : F) (y x : List ℕ) → IsValue m → trees f ≡ n * 2 + length (optional_node d) → Text values l f y → Text (after m) (suc l) r x
        → Text m (suc l) (f_box (header_of 5 0 [] n (optional_present d) c) p f r) (u ++ ((hash_byte size A d ∷ integer_bytes n) ++ y ++ x))
    unfolding optional_present optional_node hash_byte
    hash_text n zero m r c f y x i q t z = let w : trees f ≡ n * 2 = omega arith in t_hash i c w t z
    hash_text n (suc d) m r c f y x i q t z = t_hash_default i c q t z

    hash_sound : (v p n d w : ℕ) → At A.nodes v (hash p n d w) → ListIn A p (n * 2) → d ≤ length A.nodes → ClassRight A w → (s s' : Written)
        → write_object_or_link size v (write_class size A w >> write size (hash_byte size A d ∷ integer_bytes n) >> write_elements inner (range A.references p (n * 2)) >> write_default size A inner d) s ≡ ok tt s' → Head size (seen A) (suc l) v s s'
    unfolding see header links
    hash_sound v p n d w a h b cr s s' e =
        let l₀ = range A.references p (n * 2) in
        let k : List ℕ = hash_byte size A d ∷ integer_bytes n in
        let x = see_at A v (hash p n d w) a in
        object_sound size (seen A) l v _ (header_of 5 0 [] n (optional_present d) (optional_present w)) (optional_node w ++ (l₀ ++ optional_node d)) s s' x e λ ni e₁.
        let (s₁, e₂, e₃) = un_then (write_class size A w >> write size k >> write_elements inner l₀) (write_default size A inner d) _ s' e₁ in
        let (s₂, e₄, e₅) = un_then (write_class size A w >> write size k) (write_elements inner l₀) _ s₁ e₂ in
        let c = class_sound w k cr _ s₂ e₄ in
        let f = elements_sound (l₀ ++ optional_node d) (below_join _ l₀ (optional_node d) h.below (default_below A d b)) s₂ s' (join_default size A inner l₀ d s₂ s₁ s' e₅ e₃) in
        let q = e_len f.says ∙ length-append l₀ (optional_node d) ∙ ap (λ (i : ℕ). i + length (optional_node d)) (length_range A.references p (n * 2) h.inside) in
        listed_sound v _ w k (l₀ ++ optional_node d) x ni c f (λ m r y i z. hash_text n d m r c.writes f.forest f.text y i q f.writes z)

    variables_sound : (v p n c : ℕ) → At A.nodes v (object p n c) → Name A c → PairsIn A p n → (s s' : Written)
        → write_object_or_link size v (write size (OBJECT ∷ []) >> write_name size A c >> write_instance_variables size A inner p n) s ≡ ok tt s' → Head size (seen A) (suc l) v s s'
    unfolding see header links
    variables_sound v p n c a nm h s s' e =
        let ms = range A.references p (n * 2) in
        let x = see_at A v (object p n c) a in
        object_sound size (seen A) l v _ (header_of 6 0 [] n false false) (c ∷ ms) s s' x e λ ni e₁.
        let (s₁, e₂, e₃) = un_then (write size (OBJECT ∷ []) >> write_name size A c) (write_instance_variables size A inner p n) _ s' e₁ in
        let (w, e₄) = un_write size (OBJECT ∷ []) (write_name size A c) _ s₁ e₂ in
        let y = name_sound c nm _ s₁ e₄ in
        let (w₁, d) = vars_sound p n h s₁ s' e₃ in
        record {
          tree = λ r. f_box (header_of 6 0 [] n false false) f_end (item false y.as_item d.forest) r;
          text = (OBJECT ∷ []) ++ (item_bytes y.as_item ++ integer_bytes n ++ d.text);
          wrote = wrote_then size _ _ _ _ _ w (wrote_then size _ _ _ _ _ (wrote_then size _ _ _ _ _ y.wrote w₁) d.wrote);
          writes = λ m r z i q. t_object i (item_class y.as_item d.writes) q;
          says = λ r ws σ f. e_box {us = []} {ms = c ∷ ms} x e_end ni (y.says false (s.objects ++ (v ∷ [])) d.forest ms (num s') (same_objects y.objects d.says)) f;
        }

    -- the contents of a user-defined node up to its variables: `u`, its name, its bytes
    record User (c : ℕ) (b : List ℕ) (s s' : Written) : Type 0 where
      as_item : Item
      wrote : Wrote size s.bytes s'.bytes (USER_DEFINED ∷ item_bytes as_item ++ byte_string_bytes b)
      objects : s.objects ≡ s'.objects
      says : (m : Bool) (o : List ℕ) (r : F) (ws : List ℕ) (σ : Num) → E (seen A) r ws (record { objs = o; syms = s'.symbols }) σ → E (seen A) (item m as_item r) (c ∷ ws) (record { objs = o; syms = s.symbols }) σ

    user_head : (c : ℕ) (b : List ℕ) → Name A c → (s s' : Written) → (write size (USER_DEFINED ∷ []) >> write_name size A c >> write size (byte_string_bytes b)) s ≡ ok tt s' → User c b s s'
    user_head c b nm s s' e =
        let (s₁, e₁, e₂) = un_then (write size (USER_DEFINED ∷ []) >> write_name size A c) (write size (byte_string_bytes b)) s s' e in
        let (w, e₃) = un_write size (USER_DEFINED ∷ []) (write_name size A c) s s₁ e₁ in
        let y = name_sound c nm (put (USER_DEFINED ∷ []) s) s₁ e₃ in
        let (q, w₂) = write_inv size (byte_string_bytes b) s₁ s' e₂ in
        rw (← q) (record {
          as_item = y.as_item;
          wrote = wrote_then size _ _ _ (USER_DEFINED ∷ item_bytes y.as_item) (byte_string_bytes b) (wrote_then size _ _ _ (USER_DEFINED ∷ []) (item_bytes y.as_item) w y.wrote) w₂;
          objects = y.objects;
          says = y.says;
        })

    -- a node without members: its bytes alone
    bare_sound : (v : ℕ) (h : Header) (z : List ℕ) (s s' : Written) → At (seen A) v (box h [])
        → ((m : Mode) (r : F) (x : List ℕ) → IsValue m → Text (after m) (suc l) r x → Text m (suc l) (f_box h f_end f_end r) (z ++ x))
        → write_object_or_link size v (write size z) s ≡ ok tt s' → Head size (seen A) (suc l) v s s'
    bare_sound v h z s s' x f e =
        object_sound size (seen A) l v _ h [] s s' x e λ ni e₁.
        let (p, w) = write_inv size z _ s' e₁ in
        rw (← p) (record { tree = λ r. f_box h f_end f_end r; text = z; wrote = w; writes = f; says = λ r ws σ d. e_box {us = []} {ms = []} x e_end ni e_end d })

    float_sound : (v p n : ℕ) → At A.nodes v (float p n) → (s s' : Written)
        → write_object_or_link size v (write size (FLOAT ∷ byte_string_bytes (range A.bytes p n))) s ≡ ok tt s' → Head size (seen A) (suc l) v s s'
    unfolding see header links
    float_sound v p n a s s' e =
        let b = range A.bytes p n in
        bare_sound v (header_of 9 0 b 0 false false) (FLOAT ∷ byte_string_bytes b) s s' (see_at A v (float p n) a) (λ m r x i t. t_text text_float i no_class t) e

    string_sound : (v p n w : ℕ) → At A.nodes v (string p n absent w) → ClassRight A w → (s s' : Written)
        → write_object_or_link size v (write_class size A w >> write size (STRING ∷ byte_string_bytes (range A.bytes p n))) s ≡ ok tt s' → Head size (seen A) (suc l) v s s'
    unfolding see header links vars_links vars_count vars_present
    string_sound v p n w a cr s s' e =
        let b = range A.bytes p n in
        let x = see_at A v (string p n absent w) a in
        object_sound size (seen A) l v _ (header_of 7 0 b 0 false (optional_present w)) (optional_node w ++ []) s s' x e λ ni e₁.
        let c = class_sound w (STRING ∷ byte_string_bytes b) cr _ s' e₁ in
        record {
          tree = λ r. f_box (header_of 7 0 b 0 false (optional_present w)) c.forest f_end r;
          text = c.text ++ (STRING ∷ byte_string_bytes b);
          wrote = wrote_then size _ _ _ _ _ c.wrote c.wrote_bytes;
          writes = λ m r y i t. regroup c.text (STRING ∷ byte_string_bytes b) y (t_text text_string i c.writes t);
          says = λ r ws σ f. e_box {us = optional_node w} {ms = []} x (c.says s.objects) ni e_end (same_objects c.objects f);
        }

    bignum_sound : (v low high : ℕ) (m : Bool) → At A.nodes v (bignum low high m) → NumberRight (magnitude low high) m → (s s' : Written)
        → write_object_or_link size v (write size (BIGNUM ∷ bignum_bytes m (magnitude low high))) s ≡ ok tt s' → Head size (seen A) (suc l) v s s'
    unfolding see header links
    bignum_sound v low high m a h s s' e =
        bare_sound v (header_of 10 (magnitude low high) [] 0 m false) (BIGNUM ∷ bignum_bytes m (magnitude low high)) s s' (see_at A v (bignum low high m) a) (λ o r x i t. t_bignum i h t) e

    user_sound : (v p n c : ℕ) → At A.nodes v (user p n c absent) → Name A c → (s s' : Written)
        → write_object_or_link size v (write size (USER_DEFINED ∷ []) >> write_name size A c >> write size (byte_string_bytes (range A.bytes p n))) s ≡ ok tt s' → Head size (seen A) (suc l) v s s'
    unfolding see header links vars_links vars_count vars_present
    user_sound v p n c a nm s s' e =
        let b = range A.bytes p n in
        let x = see_at A v (user p n c absent) a in
        object_sound size (seen A) l v _ (header_of 8 0 b 0 false false) (c ∷ []) s s' x e λ ni e₁.
        let y = user_head c b nm _ s' e₁ in
        record {
          tree = λ r. f_box (header_of 8 0 b 0 false false) (item false y.as_item f_end) f_end r;
          text = USER_DEFINED ∷ item_bytes y.as_item ++ byte_string_bytes b;
          wrote = y.wrote;
          writes = λ m r z i q. t_user i (item_one y.as_item) q;
          says = λ r ws σ f. e_box {us = c ∷ []} {ms = []} x (y.says false s.objects f_end [] _ e_end) ni e_end (same_objects y.objects f);
        }

  -- `I`, a level, the contents, the variables
  un_variables : (limit l : ℕ) (inner : ℕ → Writer) (body : Writer) (p n : ℕ) (s s' : Written) → write_variables size A (write_level limit l) inner body (present p n) s ≡ ok tt s'
      → Wrote size s.bytes (s.bytes ++ (INSTANCE_VARIABLES ∷ [])) (INSTANCE_VARIABLES ∷ []) × (k : ℕ) × (l ≡ suc k)
      × (s₁ : Written) × (body (put (INSTANCE_VARIABLES ∷ []) s) ≡ ok tt s₁) × (write_instance_variables size A inner p n s₁ ≡ ok tt s')
  unfolding write_variables
  un_variables limit l inner body p n s s' e =
      let i : List ℕ = INSTANCE_VARIABLES ∷ [] in
      let (s₁, e₁, e₂) = un_then (write size i >> write_level limit l >> body) (write_instance_variables size A inner p n) s s' e in
      let (s₂, e₃, e₄) = un_then (write size i >> write_level limit l) body s s₁ e₁ in
      let (w, e₅) = un_write size i (write_level limit l) s s₂ e₃ in
      let (k, q, z) = level_inv l (put i s) s₂ e₅ in
      (w, k, q, s₁, rw z e₄, e₂)
    where
      level_inv : (l : ℕ) (s s₁ : Written) → write_level limit l s ≡ ok tt s₁ → (k : ℕ) × (l ≡ suc k) × (s ≡ s₁)
      level_inv zero s s₁ e = absurd (no_level limit s s₁ e)
      level_inv (suc k) s s₁ e = (k, refl, one_level limit k s s₁ e)

  string_vars_sound : (limit l : ℕ) (inner : ℕ → Writer) → Sound l inner → (v p n q k w : ℕ) → At A.nodes v (string p n (present q k) w) → PairsIn A q k → ClassRight A w → (s s' : Written)
      → write_object_or_link size v (write_variables size A (write_level limit l) inner (write_class size A w >> write size (STRING ∷ byte_string_bytes (range A.bytes p n))) (present q k)) s ≡ ok tt s' → Head size (seen A) (suc l) v s s'
  unfolding see header links vars_links vars_count vars_present
  string_vars_sound limit l inner ih v p n q k w a h cr s s' e =
      let b = range A.bytes p n in
      let ms = range A.references q (k * 2) in
      let x = see_at A v (string p n (present q k) w) a in
      object_sound size (seen A) l v _ (header_of 7 0 b k true (optional_present w)) (optional_node w ++ ms) s s' x e λ ni e₁.
      let (w₀, j, z, s₁, e₂, e₃) = un_variables limit l inner (write_class size A w >> write size (STRING ∷ byte_string_bytes b)) q k _ s' e₁ in
      let c = class_sound w (STRING ∷ byte_string_bytes b) cr _ s₁ e₂ in
      let (w₁, d) = vars_sound l inner ih q k h s₁ s' e₃ in
      let y = STRING ∷ byte_string_bytes b ++ integer_bytes k ++ d.text in
      record {
        tree = λ r. f_box (header_of 7 0 b k true (optional_present w)) c.forest d.forest r;
        text = (INSTANCE_VARIABLES ∷ c.text) ++ y;
        wrote = wrote_then size _ _ _ (INSTANCE_VARIABLES ∷ c.text) y (wrote_then size _ _ _ (INSTANCE_VARIABLES ∷ []) c.text w₀ c.wrote)
            (wrote_then size _ _ _ _ _ (wrote_then size _ _ _ _ _ c.wrote_bytes w₁) d.wrote);
        writes = λ m r o i t. regroup (INSTANCE_VARIABLES ∷ c.text) y o (string_text l j k m b r c.writes d.forest d.text o z i d.writes t);
        says = λ r ws σ f. e_box {us = optional_node w} {ms = ms} x (c.says s.objects) ni (same_objects c.objects d.says) f;
      }

  user_vars_sound : (limit l : ℕ) (inner : ℕ → Writer) → Sound l inner → (v p n c q k : ℕ) → At A.nodes v (user p n c (present q k)) → Name A c → PairsIn A q k → (s s' : Written)
      → write_object_or_link size v (write_variables size A (write_level limit l) inner (write size (USER_DEFINED ∷ []) >> write_name size A c >> write size (byte_string_bytes (range A.bytes p n))) (present q k)) s ≡ ok tt s' → Head size (seen A) (suc l) v s s'
  unfolding see header links vars_links vars_count vars_present
  user_vars_sound limit l inner ih v p n c q k a nm h s s' e =
      let b = range A.bytes p n in
      let ms = range A.references q (k * 2) in
      let x = see_at A v (user p n c (present q k)) a in
      object_sound size (seen A) l v _ (header_of 8 0 b k true false) (c ∷ ms) s s' x e λ ni e₁.
      let (w, j, z, s₁, e₂, e₃) = un_variables limit l inner (write size (USER_DEFINED ∷ []) >> write_name size A c >> write size (byte_string_bytes b)) q k _ s' e₁ in
      let y = user_head l inner ih c b nm _ s₁ e₂ in
      let (w₂, d) = vars_sound l inner ih q k h s₁ s' e₃ in
      let z₀ : List ℕ = USER_DEFINED ∷ item_bytes y.as_item ++ byte_string_bytes b in
      let z₁ : List ℕ = INSTANCE_VARIABLES ∷ z₀ in
      let w₃ = wrote_then size _ _ _ (INSTANCE_VARIABLES ∷ []) z₀ w y.wrote in
      record {
        tree = λ r. f_box (header_of 8 0 b k true false) (item false y.as_item f_end) d.forest r;
        text = INSTANCE_VARIABLES ∷ USER_DEFINED ∷ item_bytes y.as_item ++ byte_string_bytes b ++ integer_bytes k ++ d.text;
        wrote = wrote_then size _ _ _ (z₁ ++ integer_bytes k) d.text (wrote_then size _ _ _ z₁ (integer_bytes k) w₃ w₂) d.wrote;
        writes = λ m r o i t. user_text l j k m b r y.as_item d.forest d.text o z i d.writes t;
        says = λ r ws σ f. e_box {us = c ∷ []} {ms = ms} x (y.says false s.objects f_end [] _ e_end) ni (same_objects y.objects d.says) f;
      }

  module _ (fx : Fixnums A) (limit l : ℕ) (inner : ℕ → Writer) (ih : Sound l inner) where
    leaf_sound : (v : ℕ) (z : List ℕ) (k w : ℕ) (s s' : Written) → At (seen A) v (leaf k w)
        → ((m : Mode) (r : F) (x : List ℕ) → IsValue m → Text (after m) (suc l) r x → Text m (suc l) (f_leaf k w r) (z ++ x))
        → write size z s ≡ ok tt s' → Head size (seen A) (suc l) v s s'
    leaf_sound v z k w s s' a f e = plain size (seen A) (suc l) v z (f_leaf k w) s s' f (λ r ws σ d. e_leaf a d) e

    value_of : (v : ℕ) (s s' : Written) → Symbol size (seen A) v s s' → Head size (seen A) (suc l) v s s'
    value_of v s s' y = record {
      tree = λ r. item true y.as_item r;
      text = item_bytes y.as_item;
      wrote = y.wrote;
      writes = λ m r x i t. item_value y.as_item i t;
      says = λ r ws σ d. y.says true s.objects r ws σ (same_objects y.objects d);
    }

    row_sound : (v : ℕ) (r : Row) → At A.nodes v r → RowRight A r → (s s' : Written) → write_row size A (write_level limit l) inner v r s ≡ ok tt s' → Head size (seen A) (suc l) v s s'
    unfolding write_row see write_variables header
    row_sound v nil a h s s' e = leaf_sound v (NIL ∷ []) 0 0 s s' (see_at A v nil a) (λ m r x i t. t_nil i t) e
    row_sound v (bool true) a h s s' e = leaf_sound v (TRUE ∷ []) 1 1 s s' (see_at A v (bool true) a) (λ m r x i t. t_true i t) e
    row_sound v (bool false) a h s s' e = leaf_sound v (FALSE ∷ []) 1 0 s s' (see_at A v (bool false) a) (λ m r x i t. t_false i t) e
    row_sound v (fixnum w) a h s s' e = leaf_sound v (FIXNUM ∷ integer_bytes w) 2 w s s' (see_at A v (fixnum w) a) (λ m r x i t. t_fixnum i (fx v w a) t) e
    row_sound v (symbol p n) a h s s' e = value_of v s s' (symbol_sound size (seen A) v (range A.bytes p n) s s' (see_at A v (symbol p n) a) e)
    row_sound v (array p n w) a h s s' e = array_sound l inner ih v p n w a h.0 h.1 s s' e
    row_sound v (hash p n d w) a h s s' e = hash_sound l inner ih v p n d w a h.0 h.1 h.2 s s' e
    row_sound v (object p n c) a h s s' e = variables_sound l inner ih v p n c a h.0 h.1 s s' e
    row_sound v (string p n absent w) a h s s' e = string_sound l inner ih v p n w a h.2 s s' e
    row_sound v (string p n (present q k) w) a h s s' e = string_vars_sound limit l inner ih v p n q k w a h.1 h.2 s s' e
    row_sound v (user p n c absent) a h s s' e = user_sound l inner ih v p n c a h.1 s s' e
    row_sound v (user p n c (present q k)) a h s s' e = user_vars_sound limit l inner ih v p n c q k a h.1 h.2 s s' e
    row_sound v (float p n) a h s s' e = float_sound l inner ih v p n a s s' e
    row_sound v (bignum low high m) a h s s' e = bignum_sound l inner ih v low high m a h s s' e

  module _ (ρ : Right A) (fx : Fixnums A) (limit : ℕ) where
    pub value_sound : (l : ℕ) → Sound l (write_value size A limit l)
    unfolding write_value
    value_sound zero v h s s' e = apart (cc)
    value_sound (suc l) v h s s' e =
        let a = at_node A v h in
        row_sound fx limit l (write_value size A limit l) (value_sound l) v (node A v) a (ρ.rows_right v (node A v) a) s s' e

-- ---- dump

pub record Dump (size : ℕ) (A : Arena) (limit : ℕ) (w : Written) : Type 0 where
  pub forest : F
  pub text : List ℕ
  pub writes : Text values limit forest text
  pub is : w.bytes ≡ 0x04 ∷ 0x08 ∷ text
  pub fits : length w.bytes ≤ size
  pub says : E (seen A) forest (A.root ∷ []) fresh (num w)

pub dump_sound : (size : ℕ) (A : Arena) (limit : ℕ) (w : Written) → Right A → Fixnums A → dump size A limit ≡ ok tt w → Dump size A limit w
unfolding dump
dump_sound size A limit w ρ fx e =
    let s₀ : Written = record { bytes = []; symbols = []; objects = [] } in
    let (w₀, e₁) = un_write size (0x04 ∷ 0x08 ∷ []) (write_value size A limit limit A.root) s₀ w e in
    let h = value_sound size A ρ fx limit limit A.root ρ.root_below (put (0x04 ∷ 0x08 ∷ []) s₀) w e₁ in
    record {
      forest = h.tree f_end;
      text = h.text ++ [];
      writes = h.writes values f_end [] tt t_end;
      is = h.wrote.is ∙ ap (λ (x : List ℕ). 0x04 ∷ 0x08 ∷ x) (psym (append-nil h.text));
      fits = h.wrote.fits (w₀.fits zero-le);
      says = h.says f_end [] (num w) e_end;
    }
