-- Describing: what an accepted dump says of its arena; one forest, one graph; the same graph, the same forest.
use Rattle.std.specs.Prelude.{ℕ, suc, ◌+◌, ◌≤◌, ◌<◌, ◌≡◌, refl, Bool, ◌⊎◌, List, [], ◌∷◌, ◌++◌, length}
use Rattle.std.proofs.Common.{zero-le, ap, ◌∙◌, arith}
use Rattle.std.proofs.Math.Logic.{inl, inr}
use Rattle.std.proofs.Math.Option.{some}
use Rattle.std.proofs.Math.Decide.{dec_le}
use Rattle.definition.specs.Graph.{Header}
use Rattle.lists.specs.Lists.{At, NotIn, Distinct, distinct_snoc, PW, pw_snoc, pw_at, pw_at', at_snoc, at_snoc_inv, at_app, at_lt, len_snoc, apart}
use Rattle.graph.specs.Forest.{Node, leaf, sym, box, Num, add_o, add_s, fresh, F, f_end, f_leaf, f_box, f_ref, f_sym, f_symref, trees, boxes_of, syms_of}

pub record Dist (σ : Num) : Type 0 where
  pub dob : Distinct σ.objs
  pub dsy : Distinct σ.syms

pub record Rel (R : ℕ → ℕ → Type 0) (σ τ : Num) : Type 0 where
  pub ro : PW R σ.objs τ.objs
  pub rs : PW R σ.syms τ.syms

pub record Sub (σ τ : Num) : Type 0 where
  pub so : (k v : ℕ) → At σ.objs k v → At τ.objs k v
  pub ss : (k v : ℕ) → At σ.syms k v → At τ.syms k v

pub sub_refl : (σ : Num) → Sub σ σ
sub_refl σ = record { so = λ k v e. e; ss = λ k v e. e }

pub sub_trans : {σ τ υ : Num} → Sub σ τ → Sub τ υ → Sub σ υ
sub_trans a b = record { so = λ k v e. b.so k v (a.so k v e); ss = λ k v e. b.ss k v (a.ss k v e) }

pub sub_o : (v : ℕ) (σ : Num) → Sub σ (add_o v σ)
sub_o v σ = record { so = λ k u e. at_app σ.objs (v ∷ []) k u e; ss = λ k u e. e }

pub sub_s : (v : ℕ) (σ : Num) → Sub σ (add_s v σ)
sub_s v σ = record { so = λ k u e. e; ss = λ k u e. at_app σ.syms (v ∷ []) k u e }

pub no_dist : Dist fresh
no_dist = record { dob = (λ k k' v e e'. apart (cc)); dsy = (λ k k' v e e'. apart (cc)) }

pub data E (t : List Node) : F → List ℕ → Num → Num → Type 0 where
  e_end : {σ : Num} → E t f_end [] σ σ
  e_leaf : {k x : ℕ} {r : F} {v : ℕ} {ws : List ℕ} {σ σ' : Num} → At t v (leaf k x) → E t r ws σ σ' → E t (f_leaf k x r) (v ∷ ws) σ σ'
  e_box : {h : Header} {p f r : F} {v : ℕ} {us ms ws : List ℕ} {σ σ₁ σ₂ σ' : Num}
      → At t v (box h (us ++ ms)) → E t p us σ σ₁ → NotIn v σ₁.objs → E t f ms (add_o v σ₁) σ₂ → E t r ws σ₂ σ' → E t (f_box h p f r) (v ∷ ws) σ σ'
  e_ref : {k : ℕ} {r : F} {v : ℕ} {ws : List ℕ} {h : Header} {ms : List ℕ} {σ σ' : Num} → At t v (box h ms) → At σ.objs k v → E t r ws σ σ' → E t (f_ref k r) (v ∷ ws) σ σ'
  e_sym : {m : Bool} {b : List ℕ} {r : F} {v : ℕ} {ws : List ℕ} {σ σ' : Num} → At t v (sym b) → NotIn v σ.syms → E t r ws (add_s v σ) σ' → E t (f_sym m b r) (v ∷ ws) σ σ'
  e_symref : {m : Bool} {k : ℕ} {b : List ℕ} {r : F} {v : ℕ} {ws : List ℕ} {σ σ' : Num} → At t v (sym b) → At σ.syms k v → E t r ws σ σ' → E t (f_symref m k r) (v ∷ ws) σ σ'

pub e_len : {t : List Node} {g : F} {vs : List ℕ} {σ σ' : Num} → E t g vs σ σ' → trees g ≡ length vs
e_len e_end = refl
e_len (e_leaf a d) = ap suc (e_len d)
e_len (e_box a d₀ n d₁ d) = ap suc (e_len d)
e_len (e_ref a n d) = ap suc (e_len d)
e_len (e_sym a n d) = ap suc (e_len d)
e_len (e_symref a n d) = ap suc (e_len d)

pub e_dist : {t : List Node} {g : F} {vs : List ℕ} {σ σ' : Num} → E t g vs σ σ' → Dist σ → Dist σ'
e_dist e_end h = h
e_dist (e_leaf a d) h = e_dist d h
e_dist (e_box {v = v} {σ₁ = σ₁} a d₀ n d₁ d) h =
    let h₁ = e_dist d₀ h in
    e_dist d (e_dist d₁ (record { dob = distinct_snoc σ₁.objs v h₁.dob n; dsy = h₁.dsy }))
e_dist (e_ref a n d) h = e_dist d h
e_dist (e_sym {v = v} {σ = σ} a n d) h = e_dist d (record { dob = h.dob; dsy = distinct_snoc σ.syms v h.dsy n })
e_dist (e_symref a n d) h = e_dist d h

pub e_sub : {t : List Node} {g : F} {vs : List ℕ} {σ σ' : Num} → E t g vs σ σ' → Sub σ σ'
e_sub {σ = σ} e_end = sub_refl σ
e_sub (e_leaf a d) = e_sub d
e_sub (e_box {v = v} {σ₁ = σ₁} a d₀ n d₁ d) = sub_trans (e_sub d₀) (sub_trans (sub_trans (sub_o v σ₁) (e_sub d₁)) (e_sub d))
e_sub (e_ref a n d) = e_sub d
e_sub (e_sym {v = v} {σ = σ} a n d) = sub_trans (sub_s v σ) (e_sub d)
e_sub (e_symref a n d) = e_sub d

-- how many boxes and symbols a description numbers
pub boxes_numbered : {t : List Node} {g : F} {vs : List ℕ} {σ σ' : Num} → E t g vs σ σ' → length σ'.objs ≡ length σ.objs + boxes_of g
boxes_numbered e_end = omega arith
boxes_numbered (e_leaf a d) = boxes_numbered d
boxes_numbered (e_box {v = v} {σ₁ = σ₁} a d₀ n d₁ d) = omega (arith, boxes_numbered d₀, boxes_numbered d₁, boxes_numbered d, len_snoc σ₁.objs v)
boxes_numbered (e_ref a n d) = boxes_numbered d
boxes_numbered (e_sym a n d) = boxes_numbered d
boxes_numbered (e_symref a n d) = boxes_numbered d

pub symbols_numbered : {t : List Node} {g : F} {vs : List ℕ} {σ σ' : Num} → E t g vs σ σ' → length σ'.syms ≡ length σ.syms + syms_of g
symbols_numbered e_end = omega arith
symbols_numbered (e_leaf a d) = symbols_numbered d
symbols_numbered (e_box a d₀ n d₁ d) = omega (arith, symbols_numbered d₀, symbols_numbered d₁, symbols_numbered d)
symbols_numbered (e_ref a n d) = symbols_numbered d
symbols_numbered (e_sym {v = v} {σ = σ} a n d) = omega (arith, symbols_numbered d, len_snoc σ.syms v)
symbols_numbered (e_symref a n d) = symbols_numbered d

-- ---- the same graph

pub record Arena : Type 0 where
  pub table : List Node
  pub root : ℕ

abbrev pub Like : (ℕ → ℕ → Type 0) → Node → Node → Type 0
Like R (leaf k x) m = m ≡ leaf k x
Like R (sym b) m = m ≡ sym b
Like R (box h ms) m = (ns : List ℕ) × (m ≡ box h ns) × PW R ms ns

abbrev pub Key : Node → Type 0
Key (leaf k x) = ⊥
Key (sym b) = Unit {0}
Key (box h ms) = Unit {0}

pub record Pairing (p q : Arena) (R : ℕ → ℕ → Type 0) : Type 0 where
  pub roots : R p.root q.root
  pub alike : (a b : ℕ) → R a b → (n : Node) × (m : Node) × At p.table a n × At q.table b m × Like R n m
  pub left : (a b b' : ℕ) (n : Node) → R a b → R a b' → At p.table a n → Key n → b ≡ b'
  pub right : (a a' b : ℕ) (n : Node) → R a b → R a' b → At q.table b n → Key n → a ≡ a'

pw_split : (R : ℕ → ℕ → Type 0) (l k m : List ℕ) → PW R (l ++ k) m → (m₁ : List ℕ) × (m₂ : List ℕ) × (m ≡ m₁ ++ m₂) × PW R l m₁ × PW R k m₂
pw_split R [] k m w = ([], m, refl, tt, w)
pw_split R (x ∷ l) k [] w = absurd w
pw_split R (x ∷ l) k (y ∷ m) w =
    let (m₁, m₂, e, a, b) = pw_split R l k m w.1 in
    (y ∷ m₁, m₂, ap (λ (t : List ℕ). y ∷ t) e, (w.0, a), b)

pw_app : (R : ℕ → ℕ → Type 0) (l k m n : List ℕ) → PW R l m → PW R k n → PW R (l ++ k) (m ++ n)
pw_app R [] k [] n a b = b
pw_app R [] k (y ∷ m) n a b = absurd a
pw_app R (x ∷ l) k [] n a b = absurd a
pw_app R (x ∷ l) k (y ∷ m) n a b = (a.0, pw_app R l k m n a.1 b)

-- ---- (1)

module _ (p q : Arena) (R : ℕ → ℕ → Type 0) (π : Pairing p q R) where
  like_of : (a b : ℕ) (n : Node) → R a b → At p.table a n → (m : Node) × At q.table b m × Like R n m
  like_of a b n r e =
      let (n₀, m, e₀, e₁, l) = π.alike a b r in
      let z : n₀ ≡ n = cc in
      (m, e₁, rw z at l)

  new_of : (l m : List ℕ) (a b : ℕ) (n : Node) → PW R l m → R a b → At q.table b n → Key n → NotIn a l → NotIn b m
  new_of l m a b n w r e k ni j h =
      let (a', h', r') = pw_at' R l m j b w h in
      let z : a ≡ a' = π.right a a' b n r r' e k in
      ni j (rw z h')

  abbrev Carried : F → List ℕ → Num → Num → Type 0
  Carried g ws σ' τ = (τ' : Num) × E q.table g ws τ τ' × Rel R σ' τ'

  pub carry : {g : F} {vs : List ℕ} {σ σ' : Num} → E p.table g vs σ σ' → (ws : List ℕ) (τ : Num) → PW R vs ws → Rel R σ τ → Carried g ws σ' τ
  carry e_end [] τ w h = (τ, e_end, h)
  carry e_end (y ∷ ys) τ w h = absurd w
  carry (e_leaf a d) [] τ w h = absurd w
  carry (e_leaf {k = k} {x = x} {v = v} a d) (y ∷ ys) τ w h =
      let (m, e₁, l) = like_of v y (leaf k x) w.0 a in
      let (τ', d', h') = carry d ys τ w.1 h in
      (τ', e_leaf (rw l at e₁) d', h')
  carry (e_box a d₀ n d₁ d) [] τ w h = absurd w
  carry (e_box {h = hd} {v = v} {us = us} {ms = ms} {σ₁ = σ₁} a d₀ n d₁ d) (y ∷ ys) τ w h =
      let (m, e₁, (ns, l, wm)) = like_of v y (box hd (us ++ ms)) w.0 a in
      let (us', ms', z, wu, wk) = pw_split R us ms ns wm in
      let ea : At q.table y (box hd (us' ++ ms')) = e₁ ∙ ap some (l ∙ ap (box hd) z) in
      let (τ₁, c₀, h₁) = carry d₀ us' τ wu h in
      let (τ₂, c₁, h₂) = carry d₁ ms' (add_o y τ₁) wk (record { ro = pw_snoc R σ₁.objs τ₁.objs v y h₁.ro w.0; rs = h₁.rs }) in
      let (τ', c, h') = carry d ys τ₂ w.1 h₂ in
      (τ', e_box {us = us'} {ms = ms'} ea c₀ (new_of σ₁.objs τ₁.objs v y (box hd (us' ++ ms')) h₁.ro w.0 ea tt n) c₁ c, h')
  carry (e_ref a n d) [] τ w h = absurd w
  carry (e_ref {k = k} {v = v} {h = hd} {ms = ms} {σ = σ} a n d) (y ∷ ys) τ w h =
      let (m, e₁, (ns, l, wm)) = like_of v y (box hd ms) w.0 a in
      let (u, f, x') = pw_at R σ.objs τ.objs k v h.ro n in
      let z : u ≡ y = π.left v u y (box hd ms) x' w.0 a tt in
      let (τ', d', h') = carry d ys τ w.1 h in
      (τ', e_ref {ms = ns} (rw l at e₁) (rw z at f) d', h')
  carry (e_sym a n d) [] τ w h = absurd w
  carry (e_sym {b = b} {v = v} {σ = σ} a n d) (y ∷ ys) τ w h =
      let (m, e₁, l) = like_of v y (sym b) w.0 a in
      let ea : At q.table y (sym b) = rw l at e₁ in
      let (τ', d', h') = carry d ys (add_s y τ) w.1 (record { ro = h.ro; rs = pw_snoc R σ.syms τ.syms v y h.rs w.0 }) in
      (τ', e_sym ea (new_of σ.syms τ.syms v y (sym b) h.rs w.0 ea tt n) d', h')
  carry (e_symref a n d) [] τ w h = absurd w
  carry (e_symref {k = k} {b = b} {v = v} {σ = σ} a n d) (y ∷ ys) τ w h =
      let (m, e₁, l) = like_of v y (sym b) w.0 a in
      let (u, f, x') = pw_at R σ.syms τ.syms k v h.rs n in
      let z : u ≡ y = π.left v u y (sym b) x' w.0 a tt in
      let (τ', d', h') = carry d ys τ w.1 h in
      (τ', e_symref {b = b} (rw l at e₁) (rw z at f) d', h')

-- ---- (2b)

pub data Pr (p q : List Node) (S T : Num) (a b : ℕ) : Type 0 where
  by_obj : (k : ℕ) → At S.objs k a → At T.objs k b → Pr p q S T a b
  by_sym : (k : ℕ) → At S.syms k a → At T.syms k b → Pr p q S T a b
  by_leaf : (k x : ℕ) → At p a (leaf k x) → At q b (leaf k x) → Pr p q S T a b

swap_pr : (p q : List Node) (S T : Num) (a b : ℕ) → Pr p q S T a b → Pr q p T S b a
swap_pr p q S T a b (by_obj k x y) = by_obj k y x
swap_pr p q S T a b (by_sym k x y) = by_sym k y x
swap_pr p q S T a b (by_leaf k z x y) = by_leaf k z y x

module _ (p q : List Node) (S T : Num) where
  record Eqn (σ τ : Num) : Type 0 where
    lo : length σ.objs ≡ length τ.objs
    ls : length σ.syms ≡ length τ.syms
    sy : (k a b : ℕ) → At σ.syms k a → At τ.syms k b → (x : List ℕ) × At p a (sym x) × At q b (sym x)

  abbrev Paired : ℕ → ℕ → Type 0
  Paired a b = (h : Header) × (ms : List ℕ) × (ns : List ℕ) × At p a (box h ms) × At q b (box h ns) × PW (Pr p q S T) ms ns

  abbrev Cov : ℕ → ℕ → Type 0
  Cov n m = (k a b : ℕ) → n ≤ k → k < m → At S.objs k a → At T.objs k b → Paired a b

  cov_none : (n : ℕ) → Cov n n
  cov_none n k a b h₁ h₂ x y = absurd (omega arith)

  cov_join : (n m l : ℕ) → Cov n m → Cov m l → Cov n l
  cov_join n m l c d k a b h₁ h₂ x y = go (dec_le m k)
    where
      go : Dec (m ≤ k) → Paired a b
      go (yes h) = d k a b h h₂ x y
      go (no h) = c k a b h₁ (omega arith) x y

  cov_one : (n v w : ℕ) → At S.objs n v → At T.objs n w → Paired v w → Cov n (n + 1)
  cov_one n v w x y (hd, ms, ns, e, f, z) k a b h₁ h₂ x' y' =
      let z₀ : k ≡ n = omega arith in
      let z₁ : v ≡ a = cc in
      let z₂ : w ≡ b = cc in
      (hd, ms, ns, rw z₁ at e, rw z₂ at f, z)

  cov_four : (n m l k : ℕ) → Cov n m → Cov m (m + 1) → Cov (m + 1) l → Cov l k → Cov n k
  cov_four n m l k a b c d = cov_join n m k a (cov_join m l k (cov_join m (m + 1) l b c) d)

  record Got (σ σ' τ τ' : Num) (vs ws : List ℕ) : Type 0 where
    pw : PW (Pr p q S T) vs ws
    eqn : Eqn σ' τ'
    cov : Cov (length σ.objs) (length σ'.objs)

  eqn_sym : (σ τ : Num) (v y : ℕ) (b : List ℕ) → At p v (sym b) → At q y (sym b) → Eqn σ τ → Eqn (add_s v σ) (add_s y τ)
  eqn_sym σ τ v y b a a' h = record {
    lo = h.lo;
    ls = simp len_snoc (omega (arith, h.ls));
    sy = λ k u w x₁ x₂. go k u w (at_snoc_inv σ.syms v k u x₁) (at_snoc_inv τ.syms y k w x₂);
  }
    where
      go : (k u w : ℕ) → At σ.syms k u ⊎ ((k ≡ length σ.syms) × (u ≡ v)) → At τ.syms k w ⊎ ((k ≡ length τ.syms) × (w ≡ y))
          → (x : List ℕ) × At p u (sym x) × At q w (sym x)
      go k u w (inl x₁) (inl x₂) = h.sy k u w x₁ x₂
      go k u w (inl x₁) (inr x₂) = absurd (omega (arith, at_lt σ.syms k u x₁, h.ls))
      go k u w (inr x₁) (inl x₂) = absurd (omega (arith, at_lt τ.syms k w x₂, h.ls))
      go k u w (inr x₁) (inr x₂) = (b, rw x₁.1 a, rw x₂.1 a')

  eqn_obj : (σ τ : Num) (v y : ℕ) → Eqn σ τ → Eqn (add_o v σ) (add_o y τ)
  eqn_obj σ τ v y h = record { lo = simp len_snoc (omega (arith, h.lo)); ls = h.ls; sy = h.sy }

  both_box : (σ σ₁ σ₂ σ' τ τ₁ τ₂ τ' : Num) (v y : ℕ) (hd : Header) (us ms us' ms' ws ws' : List ℕ)
      → At p v (box hd (us ++ ms)) → At q y (box hd (us' ++ ms')) → Sub (add_o v σ₁) S → Sub (add_o y τ₁) T
      → Got σ σ₁ τ τ₁ us us' → Got (add_o v σ₁) σ₂ (add_o y τ₁) τ₂ ms ms' → Got σ₂ σ' τ₂ τ' ws ws' → Got σ σ' τ τ' (v ∷ ws) (y ∷ ws')
  both_box σ σ₁ σ₂ σ' τ τ₁ τ₂ τ' v y hd us ms us' ms' ws ws' a a' sv tv g₀ g₁ g =
      let x₁ : At S.objs (length σ₁.objs) v = sv.so _ _ (at_snoc σ₁.objs v) in
      let x₂ : At T.objs (length τ₁.objs) y = tv.so _ _ (at_snoc τ₁.objs y) in
      let x₃ : At T.objs (length σ₁.objs) y = rw g₀.eqn.lo x₂ in
      let c₁ : Cov (length σ₁.objs) (length σ₁.objs + 1) =
      cov_one (length σ₁.objs) v y x₁ x₃ (hd, us ++ ms, us' ++ ms', a, a', pw_app (Pr p q S T) us ms us' ms' g₀.pw g₁.pw) in
      let c₂ : Cov (length σ₁.objs + 1) (length σ₂.objs) = rw len_snoc at g₁.cov in
      record {
        pw = (by_obj (length σ₁.objs) x₁ x₃, g.pw);
        eqn = g.eqn;
        cov = cov_four (length σ.objs) (length σ₁.objs) (length σ₂.objs) (length σ'.objs) g₀.cov c₁ c₂ g.cov;
      }

  both : {g : F} {vs ws : List ℕ} {σ σ' τ τ' : Num} → E p g vs σ σ' → E q g ws τ τ' → Eqn σ τ → Sub σ' S → Sub τ' T → Got σ σ' τ τ' vs ws
  both e_end e_end h s t = record { pw = tt; eqn = h; cov = cov_none _ }
  both (e_leaf {k = k} {x = x} a d) (e_leaf a' d') h s t =
      let g = both d d' h s t in
      record { pw = (by_leaf k x a a', g.pw); eqn = g.eqn; cov = g.cov }
  both (e_box {h = hd} {v = v} {us = us} {ms = ms} {ws = ws} {σ = σ} {σ₁ = σ₁} {σ₂ = σ₂} {σ' = σ'} a d₀ n d₁ d) (e_box {v = y} {us = us'} {ms = ms'} {ws = ws'} {σ = τ} {σ₁ = τ₁} {σ₂ = τ₂} {σ' = τ'} a' d₀' n' d₁' d') h s t =
      let s₂ : Sub σ₂ S = sub_trans (e_sub d) s in
      let t₂ : Sub τ₂ T = sub_trans (e_sub d') t in
      let sv : Sub (add_o v σ₁) S = sub_trans (e_sub d₁) s₂ in
      let tv : Sub (add_o y τ₁) T = sub_trans (e_sub d₁') t₂ in
      let g₀ : Got σ σ₁ τ τ₁ us us' = both d₀ d₀' h (sub_trans (sub_o v σ₁) sv) (sub_trans (sub_o y τ₁) tv) in
      let g₁ : Got (add_o v σ₁) σ₂ (add_o y τ₁) τ₂ ms ms' = both d₁ d₁' (eqn_obj σ₁ τ₁ v y g₀.eqn) s₂ t₂ in
      both_box σ σ₁ σ₂ σ' τ τ₁ τ₂ τ' v y hd us ms us' ms' ws ws' a a' sv tv g₀ g₁ (both d d' g₁.eqn s t)
  both (e_ref {k = k} {v = v} a n d) (e_ref {v = y} a' n' d') h s t =
      let g = both d d' h s t in
      record { pw = (by_obj k ((sub_trans (e_sub d) s).so k v n) ((sub_trans (e_sub d') t).so k y n'), g.pw); eqn = g.eqn; cov = g.cov }
  both (e_sym {b = b} {v = v} {σ = σ} a n d) (e_sym {v = y} {σ = τ} a' n' d') h s t =
      let g = both d d' (eqn_sym σ τ v y b a a' h) s t in
      let x₁ : At S.syms (length σ.syms) v = (sub_trans (e_sub d) s).ss _ _ (at_snoc σ.syms v) in
      let x₂ : At T.syms (length τ.syms) y = (sub_trans (e_sub d') t).ss _ _ (at_snoc τ.syms y) in
      record { pw = (by_sym (length σ.syms) x₁ (rw h.ls x₂), g.pw); eqn = g.eqn; cov = g.cov }
  both (e_symref {k = k} {v = v} a n d) (e_symref {v = y} a' n' d') h s t =
      let g = both d d' h s t in
      record { pw = (by_sym k ((sub_trans (e_sub d) s).ss k v n) ((sub_trans (e_sub d') t).ss k y n'), g.pw); eqn = g.eqn; cov = g.cov }

module _ (p q : List Node) (S T : Num)
    (objK : (k a b : ℕ) → At S.objs k a → At T.objs k b → (h : Header) × (ms : List ℕ) × At p a (box h ms))
    (symK : (k a b : ℕ) → At S.syms k a → At T.syms k b → (x : List ℕ) × At p a (sym x)) where
  ByNum : ℕ → ℕ → Node → Type 0
  ByNum a b n =
      ((k : ℕ) × At S.objs k a × At T.objs k b × (h : Header) × (ms : List ℕ) × (n ≡ box h ms))
      ⊎ ((k : ℕ) × At S.syms k a × At T.syms k b × (x : List ℕ) × (n ≡ sym x))

  by_num : (a b : ℕ) (n : Node) → Pr p q S T a b → At p a n → Key n → ByNum a b n
  unfolding ByNum
  by_num a b n (by_obj k x y) e h = let (hd, ms, f) = objK k a b x y in inl (k, x, y, hd, ms, cc)
  by_num a b n (by_sym k x y) e h = let (z, f) = symK k a b x y in inr (k, x, y, z, cc)
  by_num a b n (by_leaf k w x y) e h = let z : n ≡ leaf k w = cc in absurd (rw z at h)

  inj_num : Dist S → (a b b' : ℕ) (n : Node) → ByNum a b n → ByNum a b' n → b ≡ b'
  unfolding ByNum
  inj_num h a b b' n (inl (k, x, y, hd, ms, e)) (inl (k', x', y', hd', ms', e')) = let z : k ≡ k' = h.dob k k' a x x' in cc
  inj_num h a b b' n (inl (k, x, y, hd, ms, e)) (inr (k', x', y', z', e')) = cc
  inj_num h a b b' n (inr (k, x, y, z, e)) (inl (k', x', y', hd', ms', e')) = cc
  inj_num h a b b' n (inr (k, x, y, z, e)) (inr (k', x', y', z', e')) = let z : k ≡ k' = h.dsy k k' a x x' in cc

  inj : Dist S → (a b b' : ℕ) (n : Node) → Pr p q S T a b → Pr p q S T a b' → At p a n → Key n → b ≡ b'
  inj h a b b' n x y e c = inj_num h a b b' n (by_num a b n x e c) (by_num a b' n y e c)

module _ (p q : Arena) (S T : Num) (g : Got p.table q.table S T fresh S fresh T (p.root ∷ []) (q.root ∷ [])) where
  obj_of : (k a b : ℕ) → At S.objs k a → At T.objs k b → Paired p.table q.table S T a b
  obj_of k a b x y = g.cov k a b zero-le (at_lt S.objs k a x) x y

  alike_of : (a b : ℕ) → Pr p.table q.table S T a b
      → (n : Node) × (m : Node) × At p.table a n × At q.table b m × Like (Pr p.table q.table S T) n m
  alike_of a b (by_obj k x y) = let (h, ms, ns, e, f, w) = obj_of k a b x y in (box h ms, box h ns, e, f, (ns, refl, w))
  alike_of a b (by_sym k x y) = let (z, e, f) = g.eqn.sy k a b x y in (sym z, sym z, e, f, refl)
  alike_of a b (by_leaf k z x y) = (leaf k z, leaf k z, x, y, refl)

  pair_of : Dist S → Dist T → Pairing p q (Pr p.table q.table S T)
  pair_of h₁ h₂ = record {
    roots = g.pw.0;
    alike = alike_of;
    left = inj p.table q.table S T
        (λ k a b x y. let (h, ms, ns, e, f, w) = obj_of k a b x y in (h, ms, e))
        (λ k a b x y. let (z, e, f) = g.eqn.sy k a b x y in (z, e)) h₁;
    right = λ a a' b n x y e c.
        inj q.table p.table T S
        (λ k b a y x. let (h, ms, ns, e, f, w) = obj_of k a b x y in (h, ns, f))
        (λ k b a y x. let (z, e, f) = g.eqn.sy k a b x y in (z, f))
        h₂ b a a' n (swap_pr _ _ _ _ _ _ x) (swap_pr _ _ _ _ _ _ y) e c;
  }

abbrev pub Says : Arena → F → Type 0
Says a g = (σ : Num) × E a.table g (a.root ∷ []) fresh σ

-- (a pairing, not yet cut down to what is reachable: that is Same.cut)
pub one_graph : (p q : Arena) (g : F) → Says p g → Says q g → (R : ℕ → ℕ → Type 0) × Pairing p q R
one_graph p q g (S, d) (T, d') =
    let z : Eqn p.table q.table S T fresh fresh = record { lo = refl; ls = refl; sy = (λ k a b x y. apart (cc)) } in
    let got = both p.table q.table S T d d' z (sub_refl S) (sub_refl T) in
    (Pr p.table q.table S T, pair_of p q S T got (e_dist d no_dist) (e_dist d' no_dist))

pub carried : (p q : Arena) (R : ℕ → ℕ → Type 0) → Pairing p q R → (g : F) → Says p g → Says q g
carried p q R π g (σ, d) =
    let (τ, d', h) = carry p q R π d (q.root ∷ []) fresh (π.roots, tt) (record { ro = tt; rs = tt }) in
    (τ, d')
