-- A forest's bytes are read and its building is done.
use Prim.Native.Nat.{ℕ, suc, ◌+◌, ◌*◌, ◌<◌}
use Rattle.std.specs.Prelude.{◌≡◌, Bool, false, get_or, replicate}
use Rattle.std.proofs.Math.Path.{refl, ap}
use Rattle.std.proofs.Common.{subst, ◌∙◌}
use Rattle.std.proofs.Math.Bool.{true}
use mathlib.Core.List.{List, [], ◌∷◌, ◌++◌, append_assoc}
use Rattle.definition.specs.Run.{pick}
use Rattle.definition.specs.Integer.{integer_bytes}
use Rattle.definition.specs.Magnitude.{bignum_bytes}
use Rattle.definition.specs.Kind.{NIL, TRUE, FALSE, FIXNUM, SYMBOL, SYMBOL_LINK, OBJECT_LINK, INSTANCE_VARIABLES, ARRAY, HASH, HASH_DEFAULT, OBJECT, STRING, USER_DEFINED, BIGNUM, USER_CLASS}
use Rattle.definition.specs.Node.{nil, bool, fixnum, optional_node, optional_present}
use Rattle.definition.specs.Arena.{Arena}
use Rattle.definition.specs.State.{Room, State, Reader, at_set}
use Rattle.definition.specs.Load.{head, value_of, read_value, add_node, read_fixnum, read_symbol, read_symbol_link, read_object_link, read_symbol_like, read_array, read_hash, read_object, read_string, read_float, read_text, read_user_defined, read_bignum, read_variables, takes_variables, read_wrapped, read_user_class}
use Rattle.definition.specs.Dump.{byte_string_bytes}
use Rattle.definition.specs.Graph.{Header, header_of, header}
use Rattle.lists.specs.Lists.{At, NotIn, at_lt, apart}
use Rattle.graph.specs.Forest.{Node, leaf, sym, Num, add_o, add_s, F, f_end, f_leaf, f_box, f_ref, f_sym, f_symref, trees, OneName, one_new, one_link, Class, no_class, a_class, Mode, values, pairs, value_pairs, name_pairs, after, IsValue, Text, t_end, t_end_pairs, t_name, t_name_link, t_class, t_class_link, t_nil, t_false, t_true, t_fixnum, t_symbol, t_symbol_link, t_object_link, t_array, t_hash, t_hash_default, t_object, Texted, text_string, text_float, t_text, t_bignum, t_string_vars, t_user, t_user_vars}
use Rattle.graph.specs.Describe.{E, e_end, e_leaf, e_box, e_ref, e_sym, e_symref}
use Rattle.graph.specs.Build.{Names, Inv}
use Rattle.graph.specs.View.{see, text_row, state_seen}
use Rattle.well_formed.specs.Right.{NumberRight}
use Rattle.states.specs.States.{Ranged, inside_nil, inside_bool, inside_fixnum, above_nil, above_bool, above_fixnum}
use Rattle.load_text.specs.Items.{Fits, Takes, Before, before_none, before_one, before_at, step_as, Wrapped, Items, end, item, by_turns}
use Rattle.load_text.specs.Steps.{step}
use Rattle.load_text.specs.Input.{Ahead, ahead_past, ahead_as, first_ahead, read_byte_ahead}
use Rattle.load_text.specs.Leaves.{Small, kind_runs, takes_kind, takes_name, takes_name_link, takes_leaf, node_runs, fixnum_runs, takes_object_link, takes_symbol_link, takes_symbol}
use Rattle.load_text.specs.Boxes.{takes_array, takes_hash, takes_hash_default, takes_object}
use Rattle.load_text.specs.Strings.{takes_text, fits_before, takes_user, takes_string_vars, takes_user_vars}
use Rattle.load_text.specs.Bignums.{takes_bignum}

-- the modes in which values are put into words; the others come before them
abbrev pub InWords : Mode → Type 0
InWords values = Unit {0}
InWords (pairs n) = Unit {0}
InWords (value_pairs n) = Unit {0}
InWords (name_pairs n) = ⊥

words_after : (m : Mode) → IsValue m → InWords (after m)
words_after values v = tt
words_after (pairs n) v = absurd v
words_after (value_pairs n) v = tt
words_after (name_pairs n) v = absurd v

see_leaf : (A : Arena) (w : ℕ) → (see A nil ≡ leaf 0 0) × (see A (bool false) ≡ leaf 1 0) × (see A (bool true) ≡ leaf 1 1) × (see A (fixnum w) ≡ leaf 2 w)
unfolding see header
see_leaf A w = (refl, refl, refl, refl)

module _ (input : List ℕ) (room : Room) (sm : Small room) (limit : ℕ) (P : List Node) (nm : Names P) where
  abbrev val : ℕ → Reader ℕ
  val l = read_value input room limit l

  abbrev like : Reader ℕ
  like = read_symbol_like input room

  -- the readers of n trees in a mode
  abbrev pub readers : Mode → ℕ → ℕ → List (Reader ℕ)
  readers values l n = replicate n (val l)
  readers (pairs k) l n = by_turns like (val l) k
  readers (value_pairs k) l n = val l ∷ by_turns like (val l) k
  readers (name_pairs k) l n = []

  abbrev Its : List (Reader ℕ) → F → List ℕ → Num → Num → Type 0
  Its rds g x σ σ' = Items input room P rds g x σ σ'

  abbrev Tk : Reader ℕ → F → F → List ℕ → Num → Num → Type 0
  Tk rd g r z σ σ' = Takes input room P rd g r z σ σ'

  -- a value, then the rest
  on_value : (m : Mode) (l : ℕ) (g r : F) (z x : List ℕ) (σ σ₁ σ' : Num) → IsValue m → Tk (val l) g r z σ σ₁
      → Its (readers (after m) l (trees r)) r x σ₁ σ' → Its (readers m l (suc (trees r))) g (z ++ x) σ σ'
  on_value values l g r z x σ σ₁ σ' v tk it = item z tk it
  on_value (pairs n) l g r z x σ σ₁ σ' v tk it = absurd v
  on_value (value_pairs n) l g r z x σ σ₁ σ' v tk it = item z tk it
  on_value (name_pairs n) l g r z x σ σ₁ σ' v tk it = absurd v

  -- the same where its bytes begin with a class
  on_class : (m : Mode) (l : ℕ) (g r : F) (z y x : List ℕ) (σ σ₁ σ' : Num) → IsValue m → Tk (val l) g r (z ++ y) σ σ₁
      → Its (readers (after m) l (trees r)) r x σ₁ σ' → Its (readers m l (suc (trees r))) g (z ++ (y ++ x)) σ σ'
  on_class m l g r z y x σ σ₁ σ' v tk it = subst (λ (t : List ℕ). Its (readers m l (suc (trees r))) g t σ σ') (append_assoc z y x) (on_value m l g r (z ++ y) x σ σ₁ σ' v tk it)

  -- what stands behind a kind byte
  module _ (l : ℕ) where
    abbrev Is : ℕ → Reader ℕ → Type 0
    Is k rd = value_of input room (val l) k (head k) ≡ rd

    is_nil : Is NIL (add_node room nil)
    unfolding value_of head pick
    is_nil = refl

    is_false : Is FALSE (add_node room (bool false))
    unfolding value_of head pick
    is_false = refl

    is_true : Is TRUE (add_node room (bool true))
    unfolding value_of head pick
    is_true = refl

    is_fixnum : Is FIXNUM (read_fixnum input room)
    unfolding value_of head pick
    is_fixnum = refl

    is_symbol : Is SYMBOL (read_symbol input room)
    unfolding value_of head pick
    is_symbol = refl

    is_symbol_link : Is SYMBOL_LINK (read_symbol_link input)
    unfolding value_of head pick
    is_symbol_link = refl

    is_object_link : Is OBJECT_LINK (read_object_link input)
    unfolding value_of head pick
    is_object_link = refl

    is_variables : Is INSTANCE_VARIABLES (read_variables input room (val l))
    unfolding value_of head pick
    is_variables = refl

    is_user_class : Is USER_CLASS (read_user_class input room (val l))
    unfolding value_of head pick
    is_user_class = refl

    -- the reader behind k by the class: without one, and behind one
    record Wraps (k : ℕ) (c : Bool) (rd : ℕ → Reader ℕ) : Type 0 where
      bare : Is k (rd 0)
      wrapped : c ≡ true → (w : ℕ) → read_wrapped input room (val l) k w ≡ rd w

    wraps_array : (c : Bool) → Wraps ARRAY c (read_array input room (val l))
    unfolding value_of head read_wrapped pick
    wraps_array c = record { bare = refl; wrapped = λ o w. refl }

    wraps_hash : (c : Bool) → Wraps HASH c (read_hash false input room (val l))
    unfolding value_of head read_wrapped pick
    wraps_hash c = record { bare = refl; wrapped = λ o w. refl }

    wraps_hash_default : (c : Bool) → Wraps HASH_DEFAULT c (read_hash true input room (val l))
    unfolding value_of head read_wrapped pick
    wraps_hash_default c = record { bare = refl; wrapped = λ o w. refl }

    wraps_text : {k n : ℕ} {c : Bool} (q : Texted k n c) → Wraps k c (λ w. read_text input room (λ start m. text_row q start m w))
    unfolding value_of head read_wrapped pick read_string read_float
    wraps_text text_string = record { bare = refl; wrapped = λ o w. refl }
    wraps_text text_float = record { bare = refl; wrapped = λ o w. apart (cc) }

    is_object : Is OBJECT (read_object input room (val l))
    unfolding value_of head pick
    is_object = refl

    is_bignum : Is BIGNUM (read_bignum input room)
    unfolding value_of head pick
    is_bignum = refl

    is_user : Is USER_DEFINED (read_user_defined input room)
    unfolding value_of head pick
    is_user = refl

    kind : (k : ℕ) (rd : Reader ℕ) (z : List ℕ) (g r : F) (σ σ₁ : Num) → Is k rd → Tk rd g r z σ σ₁ → Tk (val (suc l)) g r (k ∷ z) σ σ₁
    kind k rd z g r σ σ₁ e tk = takes_kind input room P limit l k rd z e tk

    val_nil : (r : F) (σ : Num) → Tk (val (suc l)) (f_leaf 0 0 r) r (NIL ∷ []) σ σ
    val_nil r σ = kind NIL _ [] _ r σ σ is_nil (takes_leaf input room P _ nil 0 0 [] r σ (λ A. (see_leaf A 0).0) inside_nil above_nil (node_runs input room P nil))

    val_false : (r : F) (σ : Num) → Tk (val (suc l)) (f_leaf 1 0 r) r (FALSE ∷ []) σ σ
    val_false r σ = kind FALSE _ [] _ r σ σ is_false (takes_leaf input room P _ (bool false) 1 0 [] r σ (λ A. (see_leaf A 0).1) (inside_bool false) (λ p. above_bool p false) (node_runs input room P (bool false)))

    val_true : (r : F) (σ : Num) → Tk (val (suc l)) (f_leaf 1 1 r) r (TRUE ∷ []) σ σ
    val_true r σ = kind TRUE _ [] _ r σ σ is_true (takes_leaf input room P _ (bool true) 1 1 [] r σ (λ A. (see_leaf A 0).2) (inside_bool true) (λ p. above_bool p true) (node_runs input room P (bool true)))

    val_fixnum : (w : ℕ) (r : F) (σ : Num) → w < 4294967296 → Tk (val (suc l)) (f_leaf 2 w r) r (FIXNUM ∷ integer_bytes w) σ σ
    val_fixnum w r σ h =
        kind FIXNUM _ (integer_bytes w) _ r σ σ is_fixnum (takes_leaf input room P _ (fixnum w) 2 w (integer_bytes w) r σ (λ A. (see_leaf A w).3) (inside_fixnum w) (λ p. above_fixnum p w) (fixnum_runs input room P w h))

  -- ---- names, without the kind of a value

  new_like : (b : List ℕ) (r : F) (σ : Num) (v : ℕ) → At P v (sym b) → NotIn v σ.syms → Tk like (f_sym false b r) r (SYMBOL ∷ byte_string_bytes b) σ (add_s v σ)
  new_like b r σ v a n = takes_name input room P (byte_string_bytes b) (takes_symbol input room P sm nm false b r σ v a n)

  link_like : (k : ℕ) (r : F) (σ : Num) (v : ℕ) → At σ.syms k v → Tk like (f_symref false k r) r (SYMBOL_LINK ∷ integer_bytes k) σ σ
  link_like k r σ v a = takes_name_link input room P (integer_bytes k) (takes_symbol_link input room P sm false k r σ (at_lt σ.syms k v a))

  one_like : {p : F} {z us : List ℕ} {σ σ₁ : Num} → OneName p z → E P p us σ σ₁ → Tk like p f_end z σ σ₁
  one_like {σ = σ} (one_new {b = b}) (e_sym {v = u} a n e_end) = new_like b f_end σ u a n
  one_like {σ = σ} (one_link {k = k}) (e_symref {v = u} a n e_end) = link_like k f_end σ u n

  -- ---- classes

  -- a class, p, or none was read, and the kind byte k; rd is left, by the class
  record Classed (l k : ℕ) (c : Bool) (rd : ℕ → Reader ℕ) (p : F) (σ₁ : Num) (s : State) (x : List ℕ) : Type 0 where
    class : ℕ
    is : optional_present class ≡ c
    start : State
    runs : val (suc l) s ≡ rd class start
    before : Before input room P p (optional_node class) σ₁ s start
    ahead : Ahead input start.at x
    taking : takes_variables k ≡ true → takes_variables (get_or input s.at 0) ≡ true

  classed : (l k : ℕ) {c : Bool} {rd : ℕ → Reader ℕ} {p : F} {z us : List ℕ} {σ σ₁ : Num} → Wraps l k c rd → Class c p z → E P p us σ σ₁ → (s : State) (x : List ℕ)
      → Inv P σ (state_seen s) → Ranged s → Ahead input s.at (z ++ (k ∷ x)) → Fits room 0 p s → Classed l k c rd p σ₁ s x
  unfolding optional_present optional_node read_user_class takes_variables state_seen
  classed l k {rd = rd} wr no_class e_end s x i a h g =
      record {
        class = 0;
        is = refl;
        start = at_set (s.at + 1) s;
        runs = kind_runs input room P limit l k (rd 0) wr.bare s x h;
        before = before_at input room P s.at (s.at + 1) (before_none input room P s i a);
        ahead = ahead_past (k ∷ []) x h;
        taking = λ e. ap takes_variables (first_ahead input s.at k x h) ∙ e;
      }
  classed l k {rd = rd} wr (a_class {z = z} o) d s x i a h g =
      let s₁ = at_set (s.at + 1) s in
      let m = one_like o d s₁ (k ∷ x) i a (ahead_past (USER_CLASS ∷ []) (z ++ (k ∷ x)) h) g in
      let u = m.then' in
      let u₁ = at_set (u.at + 1) u in
      record {
        class = suc m.value;
        is = refl;
        start = u₁;
        runs = kind_runs input room P limit l USER_CLASS _ (is_user_class l) s _ h ∙ step _ _ s₁ m.value u m.runs ∙ step _ _ u k u₁ (read_byte_ahead input u k x m.ahead)
            ∙ ap (λ (t : Reader ℕ). t u₁) (wr.wrapped refl (suc m.value));
        before = before_at input room P (s.at + 1) (u.at + 1) (before_one input room P m);
        ahead = ahead_past (k ∷ []) x m.ahead;
        taking = λ e. ap takes_variables (first_ahead input s.at USER_CLASS _ h);
      }

  -- ---- boxes

  -- a class or none, k, and then what rd reads
  val_classed : (l k : ℕ) {c : Bool} {rd : ℕ → Reader ℕ} {p : F} {z us : List ℕ} (hd : Header) (f r : F) (y : List ℕ) {σ σ₁ : Num} (σ₂ : Num) → Wraps l k c rd → Class c p z → E P p us σ σ₁
      → Wrapped input room P rd c p (f_box hd p f r) r y σ₁ σ₂ → Tk (val (suc l)) (f_box hd p f r) r (z ++ (k ∷ y)) σ σ₂
  val_classed l k {p = p} {z = z} hd f r y σ₂ wr cl d tk s x i a h g =
      let t = classed l k wr cl d s (y ++ x) i a (ahead_as _ _ (append_assoc z (k ∷ y) x) h) (fits_before input room P hd p f r s g) in
      step_as input room P t.runs (tk t.class s t.start x t.is t.before t.ahead g)

  val_array : (l n : ℕ) {c : Bool} {p : F} {z us : List ℕ} (f r : F) (y : List ℕ) (σ σ₁ σ₂ : Num) (v : ℕ) → Class c p z → E P p us σ σ₁ → trees f ≡ n → Its (replicate (trees f) (val l)) f y (add_o v σ₁) σ₂
      → Tk (val (suc l)) (f_box (header_of 4 0 [] n false c) p f r) r (z ++ (ARRAY ∷ integer_bytes n ++ y)) σ σ₂
  val_array l n {c} {p} f r y σ σ₁ σ₂ v cl d e it =
      val_classed l ARRAY _ f r (integer_bytes n ++ y) σ₂ (wraps_array l c) cl d
      (takes_array input room P sm (val l) n c p f r y σ₁ σ₂ v (subst (λ (k : ℕ). Its (replicate k (val l)) f y (add_o v σ₁) σ₂) e it))

  val_hash : (l n : ℕ) {c : Bool} {p : F} {z us : List ℕ} (f r : F) (y : List ℕ) (σ σ₁ σ₂ : Num) (v : ℕ) → Class c p z → E P p us σ σ₁ → trees f ≡ n * 2 → Its (replicate (trees f) (val l)) f y (add_o v σ₁) σ₂
      → Tk (val (suc l)) (f_box (header_of 5 0 [] n false c) p f r) r (z ++ (HASH ∷ integer_bytes n ++ y)) σ σ₂
  val_hash l n {c} {p} f r y σ σ₁ σ₂ v cl d e it =
      val_classed l HASH _ f r (integer_bytes n ++ y) σ₂ (wraps_hash l c) cl d
      (takes_hash input room P sm (val l) n c p f r y σ₁ σ₂ v (subst (λ (k : ℕ). Its (replicate k (val l)) f y (add_o v σ₁) σ₂) e it))

  val_hash_default : (l n : ℕ) {c : Bool} {p : F} {z us : List ℕ} (f r : F) (y : List ℕ) (σ σ₁ σ₂ : Num) (v : ℕ) → Class c p z → E P p us σ σ₁ → trees f ≡ n * 2 + 1 → Its (replicate (trees f) (val l)) f y (add_o v σ₁) σ₂
      → Tk (val (suc l)) (f_box (header_of 5 0 [] n true c) p f r) r (z ++ (HASH_DEFAULT ∷ integer_bytes n ++ y)) σ σ₂
  val_hash_default l n {c} {p} f r y σ σ₁ σ₂ v cl d e it =
      val_classed l HASH_DEFAULT _ f r (integer_bytes n ++ y) σ₂ (wraps_hash_default l c) cl d
      (takes_hash_default input room P sm (val l) n c p f r y σ₁ σ₂ v (subst (λ (k : ℕ). Its (replicate k (val l)) f y (add_o v σ₁) σ₂) e it))

  -- x: the bytes of the name
  val_object : (l n : ℕ) (f f' r : F) (x y : List ℕ) (σ σ₁ σ₂ : Num) (v : ℕ) → Tk like f f' x (add_o v σ) σ₁ → Its (by_turns like (val l) n) f' y σ₁ σ₂
      → Tk (val (suc l)) (f_box (header_of 6 0 [] n false false) f_end f r) r (OBJECT ∷ (x ++ integer_bytes n ++ y)) σ σ₂
  val_object l n f f' r x y σ σ₁ σ₂ v tk it =
      kind l OBJECT _ (x ++ integer_bytes n ++ y) _ r σ σ₂ (is_object l) (takes_object input room P sm (val l) n f f' r x y σ σ₁ σ₂ v tk it)

  val_text : (l : ℕ) {k n : ℕ} {c : Bool} {p : F} {z us : List ℕ} (q : Texted k n c) (b : List ℕ) (r : F) (σ σ₁ : Num) (v : ℕ) → Class c p z → E P p us σ σ₁
      → Tk (val (suc l)) (f_box (header_of n 0 b 0 false c) p f_end r) r (z ++ (k ∷ byte_string_bytes b)) σ (add_o v σ₁)
  val_text l {k} {p = p} q b r σ σ₁ v cl d = val_classed l k _ f_end r (byte_string_bytes b) (add_o v σ₁) (wraps_text l q) cl d (takes_text input room P sm q b p r σ₁ v)

  val_bignum : (l n : ℕ) (minus : Bool) (r : F) (σ : Num) (v : ℕ) → NumberRight n minus → Tk (val (suc l)) (f_box (header_of 10 n [] 0 minus false) f_end f_end r) r (BIGNUM ∷ bignum_bytes minus n) σ (add_o v σ)
  val_bignum l n minus r σ v h = kind l BIGNUM _ (bignum_bytes minus n) _ r σ (add_o v σ) (is_bignum l) (takes_bignum input room P n minus h r σ v)

  val_user : (l : ℕ) (b x : List ℕ) (p r : F) (σ σ₁ : Num) (v : ℕ) → Tk like p f_end x σ σ₁
      → Tk (val (suc l)) (f_box (header_of 8 0 b 0 false false) p f_end r) r (USER_DEFINED ∷ (x ++ byte_string_bytes b)) σ (add_o v σ₁)
  val_user l b x p r σ σ₁ v tk = kind l USER_DEFINED _ (x ++ byte_string_bytes b) _ r σ (add_o v σ₁) (is_user l) (takes_user input room P sm b x p r σ σ₁ v tk)

  val_string_vars : (l n : ℕ) {c : Bool} {p : F} {z us : List ℕ} (b : List ℕ) (f r : F) (y : List ℕ) (σ σ₁ σ₂ : Num) (v : ℕ) → Class c p z → E P p us σ σ₁ → Its (by_turns like (val (suc l)) n) f y (add_o v σ₁) σ₂
      → Tk (val (suc (suc l))) (f_box (header_of 7 0 b n true c) p f r) r (INSTANCE_VARIABLES ∷ z ++ (STRING ∷ byte_string_bytes b ++ integer_bytes n ++ y)) σ σ₂
  unfolding takes_variables
  val_string_vars l n {c} {p} {z} b f r y σ σ₁ σ₂ v cl d it =
      let k : List ℕ = STRING ∷ byte_string_bytes b ++ integer_bytes n ++ y in
      kind (suc l) INSTANCE_VARIABLES _ (z ++ k) _ r σ σ₂ (is_variables (suc l)) λ s x i a h g.
      let e : z ++ k ++ x ≡ z ++ (STRING ∷ (byte_string_bytes b ++ (integer_bytes n ++ (y ++ x)))) = simp append_assoc in
      let t = classed l STRING (wraps_text l text_string) cl d s _ i a (ahead_as _ _ e h) (fits_before input room P (header_of 7 0 b n true c) p f r s g) in
      takes_string_vars input room P sm (val (suc l)) b n c p f r y σ₁ σ₂ v it t.class s t.start x t.is (t.taking refl) t.runs t.ahead t.before g

  val_user_vars : (l n : ℕ) (b : List ℕ) (p f r : F) (x y : List ℕ) (σ σ₁ σ₂ : Num) (v : ℕ) → Tk like p f_end x σ σ₁ → Its (by_turns like (val (suc l)) n) f y (add_o v σ₁) σ₂
      → Tk (val (suc (suc l))) (f_box (header_of 8 0 b n true false) p f r) r (INSTANCE_VARIABLES ∷ USER_DEFINED ∷ (x ++ byte_string_bytes b ++ integer_bytes n ++ y)) σ σ₂
  unfolding takes_variables
  val_user_vars l n b p f r x y σ σ₁ σ₂ v tk it =
      kind (suc l) INSTANCE_VARIABLES _ (USER_DEFINED ∷ (x ++ byte_string_bytes b ++ integer_bytes n ++ y)) _ r σ σ₂ (is_variables (suc l))
      (takes_user_vars input room P sm (val (suc l)) USER_DEFINED refl (kind_runs input room P limit l USER_DEFINED _ (is_user l)) b n p f r x y σ σ₁ σ₂ v tk it)

  -- ---- a forest that describes P, in its bytes: its readers take it tree by tree

  pub load_complete : {m : Mode} {l : ℕ} {g : F} {x : List ℕ} → Text m l g x → {vs : List ℕ} {σ σ' : Num} → E P g vs σ σ' → InWords m → Its (readers m l (trees g)) g x σ σ'
  load_complete t_end e_end w = end
  load_complete t_end_pairs e_end w = end
  load_complete (t_name {b = b} {r = r} t) (e_sym {v = u} {σ = σ} a n d) w = item (SYMBOL ∷ byte_string_bytes b) (new_like b r σ u a n) (load_complete t d tt)
  load_complete (t_name_link {k = k} {r = r} t) (e_symref {v = u} {σ = σ} a n d) w = item (SYMBOL_LINK ∷ integer_bytes k) (link_like k r σ u n) (load_complete t d tt)
  load_complete (t_class t) d w = absurd w
  load_complete (t_class_link t) d w = absurd w
  load_complete (t_nil {m = m} {l = l} {x = x} {r = r} v t) (e_leaf {σ = σ} {σ' = σ'} a d) w =
      on_value m (suc l) (f_leaf 0 0 r) r (NIL ∷ []) x σ σ σ' v (val_nil l r σ) (load_complete t d (words_after m v))
  load_complete (t_false {m = m} {l = l} {x = x} {r = r} v t) (e_leaf {σ = σ} {σ' = σ'} a d) w =
      on_value m (suc l) (f_leaf 1 0 r) r (FALSE ∷ []) x σ σ σ' v (val_false l r σ) (load_complete t d (words_after m v))
  load_complete (t_true {m = m} {l = l} {x = x} {r = r} v t) (e_leaf {σ = σ} {σ' = σ'} a d) w =
      on_value m (suc l) (f_leaf 1 1 r) r (TRUE ∷ []) x σ σ σ' v (val_true l r σ) (load_complete t d (words_after m v))
  load_complete (t_fixnum {m = m} {l = l} {w = k} {x = x} {r = r} v h t) (e_leaf {σ = σ} {σ' = σ'} a d) w =
      on_value m (suc l) (f_leaf 2 k r) r (FIXNUM ∷ integer_bytes k) x σ σ σ' v (val_fixnum l k r σ h) (load_complete t d (words_after m v))
  load_complete (t_symbol {m = m} {l = l} {b = b} {x = x} {r = r} v t) (e_sym {v = u} {σ = σ} {σ' = σ'} a n d) w =
      on_value m (suc l) (f_sym true b r) r (SYMBOL ∷ byte_string_bytes b) x σ (add_s u σ) σ' v
      (kind l SYMBOL _ (byte_string_bytes b) _ r σ (add_s u σ) (is_symbol l) (takes_symbol input room P sm nm true b r σ u a n)) (load_complete t d (words_after m v))
  load_complete (t_symbol_link {m = m} {l = l} {k = k} {x = x} {r = r} v t) (e_symref {v = u} {σ = σ} {σ' = σ'} a n d) w =
      on_value m (suc l) (f_symref true k r) r (SYMBOL_LINK ∷ integer_bytes k) x σ σ σ' v
      (kind l SYMBOL_LINK _ (integer_bytes k) _ r σ σ (is_symbol_link l) (takes_symbol_link input room P sm true k r σ (at_lt σ.syms k u n))) (load_complete t d (words_after m v))
  load_complete (t_object_link {m = m} {l = l} {k = k} {x = x} {r = r} v t) (e_ref {v = u} {σ = σ} {σ' = σ'} a n d) w =
      on_value m (suc l) (f_ref k r) r (OBJECT_LINK ∷ integer_bytes k) x σ σ σ' v
      (kind l OBJECT_LINK _ (integer_bytes k) _ r σ σ (is_object_link l) (takes_object_link input room P sm k r σ (at_lt σ.objs k u n))) (load_complete t d (words_after m v))
  load_complete (t_array {m = m} {l = l} {n = n} {c = c} {x = x} {y = y} {z = z} {p = p} {f = f} {r = r} v cl e t₁ t) (e_box {v = u} {σ = σ} {σ₁ = σ₁} {σ₂ = σ₂} {σ' = σ'} a d₀ k d₁ d) w =
      on_class m (suc l) (f_box (header_of 4 0 [] n false c) p f r) r z (ARRAY ∷ integer_bytes n ++ y) x σ σ₂ σ' v
      (val_array l n f r y σ σ₁ σ₂ u cl d₀ e (load_complete t₁ d₁ tt)) (load_complete t d (words_after m v))
  load_complete (t_hash {m = m} {l = l} {n = n} {c = c} {x = x} {y = y} {z = z} {p = p} {f = f} {r = r} v cl e t₁ t) (e_box {v = u} {σ = σ} {σ₁ = σ₁} {σ₂ = σ₂} {σ' = σ'} a d₀ k d₁ d) w =
      on_class m (suc l) (f_box (header_of 5 0 [] n false c) p f r) r z (HASH ∷ integer_bytes n ++ y) x σ σ₂ σ' v
      (val_hash l n f r y σ σ₁ σ₂ u cl d₀ e (load_complete t₁ d₁ tt)) (load_complete t d (words_after m v))
  load_complete (t_hash_default {m = m} {l = l} {n = n} {c = c} {x = x} {y = y} {z = z} {p = p} {f = f} {r = r} v cl e t₁ t) (e_box {v = u} {σ = σ} {σ₁ = σ₁} {σ₂ = σ₂} {σ' = σ'} a d₀ k d₁ d) w =
      on_class m (suc l) (f_box (header_of 5 0 [] n true c) p f r) r z (HASH_DEFAULT ∷ integer_bytes n ++ y) x σ σ₂ σ' v
      (val_hash_default l n f r y σ σ₁ σ₂ u cl d₀ e (load_complete t₁ d₁ tt)) (load_complete t d (words_after m v))
  load_complete (t_object {m = m} {l = l} {n = n} {x = x} v (t_class {b = b} {x = y} {r = f} t₁) t) (e_box {r = r} {v = u} {σ = σ} {σ₂ = σ₂} {σ' = σ'} a e_end k (e_sym {v = u'} a₁ k₁ d₁) d) w =
      on_value m (suc l) (f_box (header_of 6 0 [] n false false) f_end (f_sym false b f) r) r (OBJECT ∷ SYMBOL ∷ (byte_string_bytes b ++ integer_bytes n ++ y)) x σ σ₂ σ' v
      (val_object l n (f_sym false b f) f r (SYMBOL ∷ byte_string_bytes b) y σ (add_s u' (add_o u σ)) σ₂ u (new_like b f (add_o u σ) u' a₁ k₁) (load_complete t₁ d₁ tt))
      (load_complete t d (words_after m v))
  load_complete (t_object {m = m} {l = l} {n = n} {x = x} v (t_class_link {k = j} {x = y} {r = f} t₁) t) (e_box {r = r} {v = u} {σ = σ} {σ₂ = σ₂} {σ' = σ'} a e_end k (e_symref {v = u'} a₁ k₁ d₁) d) w =
      on_value m (suc l) (f_box (header_of 6 0 [] n false false) f_end (f_symref false j f) r) r (OBJECT ∷ SYMBOL_LINK ∷ (integer_bytes j ++ integer_bytes n ++ y)) x σ σ₂ σ' v
      (val_object l n (f_symref false j f) f r (SYMBOL_LINK ∷ integer_bytes j) y σ (add_o u σ) σ₂ u (link_like j f (add_o u σ) u' k₁) (load_complete t₁ d₁ tt))
      (load_complete t d (words_after m v))
  load_complete (t_text {m = m} {l = l} {k = j} {n = n} {c = c} {b = b} {x = x} {z = z} {p = p} {r = r} q v cl t) (e_box {v = u} {σ = σ} {σ₁ = σ₁} {σ' = σ'} a d₀ k e_end d) w =
      on_class m (suc l) (f_box (header_of n 0 b 0 false c) p f_end r) r z (j ∷ byte_string_bytes b) x σ (add_o u σ₁) σ' v (val_text l q b r σ σ₁ u cl d₀) (load_complete t d (words_after m v))
  load_complete (t_bignum {m = m} {l = l} {n = n} {minus = minus} {x = x} {r = r} v h t) (e_box {v = u} {σ = σ} {σ' = σ'} a e_end k e_end d) w =
      on_value m (suc l) (f_box (header_of 10 n [] 0 minus false) f_end f_end r) r (BIGNUM ∷ bignum_bytes minus n) x σ (add_o u σ) σ' v (val_bignum l n minus r σ u h) (load_complete t d (words_after m v))
  load_complete (t_string_vars {m = m} {l = l} {n = n} {c = c} {b = b} {x = x} {y = y} {z = z} {p = p} {f = f} {r = r} v cl t₁ t) (e_box {v = u} {σ = σ} {σ₁ = σ₁} {σ₂ = σ₂} {σ' = σ'} a d₀ k d₁ d) w =
      on_class m (suc (suc l)) (f_box (header_of 7 0 b n true c) p f r) r (INSTANCE_VARIABLES ∷ z) (STRING ∷ byte_string_bytes b ++ integer_bytes n ++ y) x σ σ₂ σ' v
      (val_string_vars l n b f r y σ σ₁ σ₂ u cl d₀ (load_complete t₁ d₁ tt)) (load_complete t d (words_after m v))
  load_complete (t_user {m = m} {l = l} {b = b} {x = x} {z = z} {p = p} {r = r} v o t) (e_box {v = u} {σ = σ} {σ₁ = σ₁} {σ' = σ'} a d₀ k e_end d) w =
      on_value m (suc l) (f_box (header_of 8 0 b 0 false false) p f_end r) r (USER_DEFINED ∷ (z ++ byte_string_bytes b)) x σ (add_o u σ₁) σ' v
      (val_user l b z p r σ σ₁ u (one_like o d₀)) (load_complete t d (words_after m v))
  load_complete (t_user_vars {m = m} {l = l} {n = n} {b = b} {x = x} {y = y} {z = z} {p = p} {f = f} {r = r} v o t₁ t) (e_box {v = u} {σ = σ} {σ₁ = σ₁} {σ₂ = σ₂} {σ' = σ'} a d₀ k d₁ d) w =
      on_value m (suc (suc l)) (f_box (header_of 8 0 b n true false) p f r) r (INSTANCE_VARIABLES ∷ USER_DEFINED ∷ (z ++ byte_string_bytes b ++ integer_bytes n ++ y)) x σ σ₂ σ' v
      (val_user_vars l n b p f r z y σ σ₁ σ₂ u (one_like o d₀) (load_complete t₁ d₁ tt)) (load_complete t d (words_after m v))
  load_complete (t_object {n = n} {x = x} v (t_nil {l = l} {r = r} x42 _) t) {vs = vs} {σ = σ} d w = elim x42 [ ]
  load_complete (t_object {n = n} {x = x} v (t_false {l = l} {r = r} x43 _) t) {vs = vs} {σ = σ} d w = elim x43 [ ]
  load_complete (t_object {n = n} {x = x} v (t_true {l = l} {r = r} x44 _) t) {vs = vs} {σ = σ} d w = elim x44 [ ]
  load_complete (t_object {n = n} {x = x} v (t_fixnum {l = l} {r = r} x49 _ _) t) {vs = vs} {σ = σ} d w = elim x49 [ ]
  load_complete (t_object {n = n} {x = x} v (t_symbol {l = l} {b = b} {r = r} x46 _) t) {vs = vs} {σ = σ} d w = elim x46 [ ]
  load_complete (t_object {n = n} {x = x} v (t_symbol_link {l = l} {k = k} {r = r} x47 _) t) {vs = vs} {σ = σ} d w = elim x47 [ ]
  load_complete (t_object {n = n} {x = x} v (t_object_link {l = l} {k = k} {r = r} x48 _) t) {vs = vs} {σ = σ} d w = elim x48 [ ]
  load_complete (t_object {n = n} {x = x} v (t_array {l = l} {c = c} {z = z} {p = p} {f = f} {r = r} x61 _ _ _ _) t) {vs = vs} {σ = σ} d w = elim x61 [ ]
  load_complete (t_object {n = n} {x = x} v (t_hash {l = l} {c = c} {z = z} {p = p} {f = f} {r = r} x62 _ _ _ _) t) {vs = vs} {σ = σ} d w = elim x62 [ ]
  load_complete (t_object {n = n} {x = x} v (t_hash_default {l = l} {c = c} {z = z} {p = p} {f = f} {r = r} x63 _ _ _ _) t) {vs = vs} {σ = σ} d w = elim x63 [ ]
  load_complete (t_object {n = n} {x = x} v (t_object {l = l} {f = f} {r = r} x56 _ _) t) {vs = vs} {σ = σ} d w = elim x56 [ ]
  load_complete (t_object {n = n} {x = x} v (t_text {l = l} {k = k} {c = c} {b = b} {z = z} {p = p} {r = r} _ x62 _ _) t) {vs = vs} {σ = σ} d w = elim x62 [ ]
  load_complete (t_object {n = n} {x = x} v (t_bignum {l = l} {minus = minus} {r = r} x58 _ _) t) {vs = vs} {σ = σ} d w = elim x58 [ ]
  load_complete (t_object {n = n} {x = x} v (t_string_vars {l = l} {c = c} {b = b} {z = z} {p = p} {f = f} {r = r} x63 _ _ _) t) {vs = vs} {σ = σ} d w = elim x63 [ ]
  load_complete (t_object {n = n} {x = x} v (t_user {l = l} {b = b} {z = z} {p = p} {r = r} x60 _ _) t) {vs = vs} {σ = σ} d w = elim x60 [ ]
  load_complete (t_object {n = n} {x = x} v (t_user_vars {l = l} {b = b} {z = z} {p = p} {f = f} {r = r} x65 _ _ _) t) {vs = vs} {σ = σ} d w = elim x65 [ ]
