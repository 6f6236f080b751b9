-- Building: what an accepted load does to nodes and lists, forest by forest.
use Rattle.std.specs.Prelude.{ℕ, suc, ◌+◌, ◌≤◌, ◌<◌, ◌≡◌, refl, Bool, ◌⊎◌, ◌≢◌, List, [], ◌∷◌, ◌++◌, length, set}
use Rattle.std.proofs.Common.{ap, subst, sym as psym, ◌∙◌, inl, inr, length-set, arith}
use Rattle.std.proofs.Math.Option.{some}
use Rattle.std.proofs.Math.Decide.{ℕ_discrete}
use Rattle.definition.specs.Graph.{Header}
use Rattle.lists.specs.Lists.{At, NotIn, at_snoc, at_snoc_inv, at_app, at_lt, lt_at, len_snoc, at_set_same, at_set_other, at_set_inv, apart, Below, below_up, below_snoc}
use Rattle.graph.specs.Sums.{sum_to, sum_to_suc, sum_l, sum_l_app, total, total_snoc, total_set, total_set_most, weight, weigh}
use Rattle.graph.specs.Forest.{Node, leaf, sym, box, Num, add_o, add_s, F, f_end, f_leaf, f_box, f_ref, f_sym, f_symref, f_iv}
use Rattle.graph.specs.Describe.{E, e_end, e_leaf, e_box, e_ref, e_sym, e_symref}

pub record St : Type 0 where
  pub nodes : List Node
  pub objs : List ℕ
  pub syms : List ℕ

abbrev pub push : Node → St → St
push x s = record { nodes = s.nodes ++ (x ∷ []); objs = s.objs; syms = s.syms }

abbrev pub push_o : Node → St → St
push_o x s = record { nodes = s.nodes ++ (x ∷ []); objs = s.objs ++ (length s.nodes ∷ []); syms = s.syms }

abbrev pub add_sym : ℕ → St → St
add_sym v s = record { nodes = s.nodes; objs = s.objs; syms = s.syms ++ (v ∷ []) }

abbrev pub put : ℕ → Node → St → St
put i x s = record { nodes = set s.nodes i x; objs = s.objs; syms = s.syms }

abbrev pub num : St → Num
num s = record { objs = s.objs; syms = s.syms }

-- what stands for a box while its members are read: nil; in a canonical input also a node of kinds 7 to 10 without variables
abbrev pub Ph : Type 0 → Header → Node → Type 0
Ph K h p = (p ≡ leaf 0 0) ⊎ ((K → ⊥) × ((b : List ℕ) → p ≡ sym b → ⊥) × (7 ≤ h.kind))

pub ph_nosym : (K : Type 0) (h : Header) (p : Node) → Ph K h p → (b : List ℕ) → p ≡ sym b → ⊥
ph_nosym K h p (inl e) b q = apart (cc)
ph_nosym K h p (inr x) b q = x.1 b q

pub data B (K : Type 0) : F → St → List ℕ → St → Type 0 where
  b_end : {s : St} → B K f_end s [] s
  b_leaf : {k x : ℕ} {r : F} {s s' : St} {ws : List ℕ} → B K r (push (leaf k x) s) ws s' → B K (f_leaf k x r) s (length s.nodes ∷ ws) s'
  b_box : {h : Header} {p f r : F} {φ : Node} {s s₁ s₂ s' : St} {us ms ws : List ℕ}
      → B K p s us s₁ → Ph K h φ → B K f (push_o φ s₁) ms s₂ → B K r (put (length s₁.nodes) (box h (us ++ ms)) s₂) ws s'
      → B K (f_box h p f r) s (length s₁.nodes ∷ ws) s'
  b_ref : {k : ℕ} {r : F} {s s' : St} {v : ℕ} {ws : List ℕ} → At s.objs k v → B K r s ws s' → B K (f_ref k r) s (v ∷ ws) s'
  b_known : {m : Bool} {b : List ℕ} {r : F} {s s' : St} {v : ℕ} {ws : List ℕ} → K → At s.nodes v (sym b) → B K r (add_sym v s) ws s' → B K (f_sym m b r) s (v ∷ ws) s'
  b_new : {m : Bool} {b : List ℕ} {r : F} {s s' : St} {ws : List ℕ} → NotIn (sym b) s.nodes → B K r (add_sym (length s.nodes) (push (sym b) s)) ws s'
      → B K (f_sym m b r) s (length s.nodes ∷ ws) s'
  b_symref : {m : Bool} {k : ℕ} {r : F} {s s' : St} {v : ℕ} {ws : List ℕ} → At s.syms k v → B K r s ws s' → B K (f_symref m k r) s (v ∷ ws) s'
  b_iv : {f p r : F} {s s₁ s₂ s' : St} {v : ℕ} {h : Header} {ms ws : List ℕ} (h' : Header) (us os : List ℕ)
      → K → B K f s (v ∷ []) s₁ → B K p s₁ ms s₂ → At s₂.nodes v (box h (us ++ os)) → B K r (put v (box h' (us ++ ms)) s₂) ws s'
      → B K (f_iv f p r) s (v ∷ ws) s'

-- ---- lists only grow

pub record Sub (s s' : St) : Type 0 where
  pub so : (k v : ℕ) → At s.objs k v → At s'.objs k v
  pub ss : (k v : ℕ) → At s.syms k v → At s'.syms k v
  pub sn : length s.nodes ≤ length s'.nodes

sub_trans : {s t u : St} → Sub s t → Sub t u → Sub s u
sub_trans a b = record { so = λ k v e. b.so k v (a.so k v e); ss = λ k v e. b.ss k v (a.ss k v e); sn = omega (arith, a.sn, b.sn) }

sub_push : (x : Node) (s : St) → Sub s (push x s)
sub_push x s = record { so = λ k v e. e; ss = λ k v e. e; sn = omega (arith, len_snoc s.nodes x) }

sub_push_o : (x : Node) (s : St) → Sub s (push_o x s)
sub_push_o x s = record { so = λ k v e. at_app s.objs (length s.nodes ∷ []) k v e; ss = λ k v e. e; sn = omega (arith, len_snoc s.nodes x) }

sub_add_sym : (v : ℕ) (s : St) → Sub s (add_sym v s)
sub_add_sym v s = record { so = λ k u e. e; ss = λ k u e. at_app s.syms (v ∷ []) k u e; sn = omega arith }

sub_put : (i : ℕ) (x : Node) (s : St) → Sub s (put i x s)
sub_put i x s = record { so = λ k v e. e; ss = λ k v e. e; sn = omega (arith, length-set s.nodes i x) }

pub sub : {K : Type 0} {f : F} {s s' : St} {vs : List ℕ} → B K f s vs s' → Sub s s'
sub b_end = record { so = λ k v e. e; ss = λ k v e. e; sn = omega arith }
sub (b_leaf {k = k} {x = x} {s = s} b) = sub_trans (sub_push (leaf k x) s) (sub b)
sub (b_box {h = h} {φ = φ} {s₁ = s₁} {s₂ = s₂} {us = us} {ms = ms} b₀ c b₁ b) =
    sub_trans (sub b₀) (sub_trans (sub_trans (sub_push_o φ s₁) (sub b₁)) (sub_trans (sub_put (length s₁.nodes) (box h (us ++ ms)) s₂) (sub b)))
sub (b_ref a b) = sub b
sub (b_known {s = s} {v = v} c a b) = sub_trans (sub_add_sym v s) (sub b)
sub (b_new {b = b} {s = s} a t) = sub_trans (sub_trans (sub_push (sym b) s) (sub_add_sym (length s.nodes) (push (sym b) s))) (sub t)
sub (b_symref a b) = sub b
sub (b_iv {s₂ = s₂} {v = v} {ms = ms} h us os c b₁ b₂ a t) = sub_trans (sub b₁) (sub_trans (sub b₂) (sub_trans (sub_put v (box h (us ++ ms)) s₂) (sub t)))

-- ---- (3), first half: weights, for any input

-- a box weighs k and what its members weigh, a symbol k
module _ (lf : ℕ → ℕ) (k : ℕ) where
  abbrev pub w : Node → ℕ
  w (leaf k x) = 0
  w (sym b) = k
  w (box h ms) = k + sum_l lf ms

  abbrev pub Φ : List Node → ℕ
  Φ l = total w l

-- what is on both lists weighs nothing as a member
pub record Zero (lf : ℕ → ℕ) (s : St) : Type 0 where
  pub zo : (k v : ℕ) → At s.objs k v → lf v ≡ 0
  pub zs : (k v : ℕ) → At s.syms k v → lf v ≡ 0

zero_back : (lf : ℕ → ℕ) (s s' : St) → Sub s s' → Zero lf s' → Zero lf s
zero_back lf s s' h z = record { zo = λ k v e. z.zo k v (h.so k v e); zs = λ k v e. z.zs k v (h.ss k v e) }

-- node v brings c v when it is added, which pays for it as a box, as a symbol, or once as a member
module _ (lf c : ℕ → ℕ) (k : ℕ) (lc : (v : ℕ) → lf v ≤ c v) (kc : (v : ℕ) → k ≤ c v) where
  abbrev pub Paid : St → List ℕ → St → Type 0
  Paid s vs s' = Φ lf k s'.nodes + sum_l lf vs + sum_to c (length s.nodes) ≤ Φ lf k s.nodes + sum_to c (length s'.nodes)

  added : (l : List Node) (x : Node) → sum_to c (length (l ++ (x ∷ []))) ≡ sum_to c (length l) + c (length l)
  added l x = sum_to_suc c (length l) (length (l ++ (x ∷ []))) (len_snoc l x)

  kept_count : (l : List Node) (i : ℕ) (x : Node) → sum_to c (length (set l i x)) ≡ sum_to c (length l)
  kept_count l i x = ap (sum_to c) (length-set l i x)

  paid_box : (h : Header) (s s₁ s₂ s' : St) (us ms ws : List ℕ) → lf (length s₁.nodes) ≡ 0
      → Paid s us s₁ → Paid (push_o (leaf 0 0) s₁) ms s₂ → Paid (put (length s₁.nodes) (box h (us ++ ms)) s₂) ws s' → Paid s (length s₁.nodes ∷ ws) s'
  paid_box h s s₁ s₂ s' us ms ws z a b d =
      omega (
        arith,
        total_snoc (w lf k) s₁.nodes (leaf 0 0),
        added s₁.nodes (leaf 0 0),
        kc (length s₁.nodes),
        total_set_most (w lf k) s₂.nodes (length s₁.nodes) (box h (us ++ ms)),
        kept_count s₂.nodes (length s₁.nodes) (box h (us ++ ms)),
        sum_l_app lf us ms,
      )

  paid_iv : (h h' : Header) (s s₁ s₂ s' : St) (v : ℕ) (us os ms ws : List ℕ) → At s₂.nodes v (box h (us ++ os))
      → Paid s (v ∷ []) s₁ → Paid s₁ ms s₂ → Paid (put v (box h' (us ++ ms)) s₂) ws s' → Paid s (v ∷ ws) s'
  paid_iv h h' s s₁ s₂ s' v us os ms ws e a b d =
      omega (arith, total_set (w lf k) s₂.nodes v (box h' (us ++ ms)) (box h (us ++ os)) e, kept_count s₂.nodes v (box h' (us ++ ms)), sum_l_app lf us ms, sum_l_app lf us os)

  pub paid : {f : F} {s s' : St} {vs : List ℕ} → B (Unit {0}) f s vs s' → Zero lf s' → Paid s vs s'
  paid b_end z = omega arith
  paid (b_leaf {k = j} {x = x} {s = s} b) z = omega (arith, paid b z, total_snoc (w lf k) s.nodes (leaf j x), added s.nodes (leaf j x), lc (length s.nodes))
  paid {s' = s'} (b_box {h = h} {φ = φ} {s = s} {s₁ = s₁} {s₂ = s₂} {us = us} {ms = ms} {ws = ws} b₀ (inl e) b₁ b) z =
      let z₃ = zero_back lf _ s' (sub b) z in
      let z₂ : Zero lf s₂ = record { zo = z₃.zo; zs = z₃.zs } in
      let zp = zero_back lf (push_o φ s₁) s₂ (sub b₁) z₂ in
      let z₁ = zero_back lf s₁ (push_o φ s₁) (sub_push_o φ s₁) zp in
      let q = zp.zo (length s₁.objs) (length s₁.nodes) (at_snoc s₁.objs (length s₁.nodes)) in
      paid_box h s s₁ s₂ s' us ms ws q (paid b₀ z₁) (subst (λ (y : Node). Paid (push_o y s₁) ms s₂) e (paid b₁ z₂)) (paid b z)
  paid (b_box b₀ (inr (n, _, _)) b₁ b) z = absurd (n tt)
  paid {s' = s'} (b_ref {k = j} {s = s} {v = v} a b) z = omega (arith, paid b z, z.zo j v ((sub b).so j v a))
  paid {s' = s'} (b_known {s = s} {v = v} d a b) z = omega (arith, paid b z, z.zs (length s.syms) v ((sub b).ss _ _ (at_snoc s.syms v)))
  paid {s' = s'} (b_new {b = b} {s = s} a t) z =
      omega (
        arith,
        paid t z,
        z.zs (length s.syms) (length s.nodes) ((sub t).ss _ _ (at_snoc s.syms (length s.nodes))),
        total_snoc (w lf k) s.nodes (sym b),
        added s.nodes (sym b),
        kc (length s.nodes),
      )
  paid {s' = s'} (b_symref {k = j} {v = v} a b) z = omega (arith, paid b z, z.zs j v ((sub b).ss j v a))
  paid {s' = s'} (b_iv {s = s} {s₁ = s₁} {s₂ = s₂} {v = v} {h = h} {ms = ms} {ws = ws} h' us os d b₁ b₂ a t) z =
      let z₃ = zero_back lf _ s' (sub t) z in
      let z₂ : Zero lf s₂ = record { zo = z₃.zo; zs = z₃.zs } in
      let z₁ = zero_back lf s₁ s₂ (sub b₂) z₂ in
      paid_iv h h' s s₁ s₂ s' v us os ms ws a (paid b₁ z₁) (paid b₂ z₂) (paid t z)

-- ---- a canonical input changes nothing that stands

pub keep : {f : F} {s s' : St} {vs : List ℕ} → B ⊥ f s vs s' → (i : ℕ) (n : Node) → At s.nodes i n → At s'.nodes i n
keep b_end i n a = a
keep (b_leaf {k = k} {x = x} {s = s} b) i n a = keep b i n (at_app s.nodes (leaf k x ∷ []) i n a)
keep (b_box {h = h} {φ = φ} {s₁ = s₁} {s₂ = s₂} {us = us} {ms = ms} b₀ c b₁ b) i n a =
    let a₁ = keep b₀ i n a in
    keep b i n (at_set_other s₂.nodes (length s₁.nodes) i (box h (us ++ ms)) n (omega (arith, at_lt s₁.nodes i n a₁)) (keep b₁ i n (at_app s₁.nodes (φ ∷ []) i n a₁)))
keep (b_ref x b) i n a = keep b i n a
keep (b_known c x b) i n a = absurd c
keep (b_new {b = b} {s = s} x t) i n a = keep t i n (at_app s.nodes (sym b ∷ []) i n a)
keep (b_symref x b) i n a = keep b i n a
keep (b_iv h us os c b₁ b₂ x t) i n a = absurd c

-- ---- numbers on the lists are below the count of nodes

pub record Low (s : St) : Type 0 where
  pub wo : Below (length s.nodes) s.objs
  pub wy : Below (length s.nodes) s.syms

low_up : (s : St) (l : List Node) → length s.nodes ≤ length l → Low s → Low (record { nodes = l; objs = s.objs; syms = s.syms })
low_up s l h w = record { wo = below_up _ _ s.objs h w.wo; wy = below_up _ _ s.syms h w.wy }

low_push : (s : St) (x : Node) → Low s → Low (push x s)
low_push s x w = low_up s (s.nodes ++ (x ∷ [])) (omega (arith, len_snoc s.nodes x)) w

low_push_o : (s : St) (x : Node) → Low s → Low (push_o x s)
low_push_o s x w = let h = low_push s x w in record { wo = below_snoc _ s.objs (length s.nodes) (omega (arith, len_snoc s.nodes x)) h.wo; wy = h.wy }

low_add_sym : (s : St) (v : ℕ) → v < length s.nodes → Low s → Low (add_sym v s)
low_add_sym s v l w = record { wo = w.wo; wy = below_snoc _ s.syms v l w.wy }

low_put : (s : St) (i : ℕ) (x : Node) → Low s → Low (put i x s)
low_put s i x w = low_up s (set s.nodes i x) (omega (arith, length-set s.nodes i x)) w

low_new : (s : St) (b : List ℕ) → Low s → Low (add_sym (length s.nodes) (push (sym b) s))
low_new s b w = low_add_sym (push (sym b) s) (length s.nodes) (omega (arith, len_snoc s.nodes (sym b))) (low_push s (sym b) w)

pub low : {K : Type 0} {f : F} {s s' : St} {vs : List ℕ} → B K f s vs s' → Low s → Low s'
low b_end w = w
low (b_leaf {k = k} {x = x} {s = s} b) w = low b (low_push s (leaf k x) w)
low (b_box {h = h} {φ = φ} {s₁ = s₁} {s₂ = s₂} {us = us} {ms = ms} b₀ c b₁ b) w =
    low b (low_put s₂ (length s₁.nodes) (box h (us ++ ms)) (low b₁ (low_push_o s₁ φ (low b₀ w))))
low (b_ref x b) w = low b w
low (b_known {b = b} {s = s} {v = v} c x t) w = low t (low_add_sym s v (at_lt s.nodes v (sym b) x) w)
low (b_new {b = b} {s = s} x t) w = low t (low_new s b w)
low (b_symref x b) w = low b w
low (b_iv {s₂ = s₂} {v = v} {ms = ms} h us os c b₁ b₂ x t) w = low t (low_put s₂ v (box h (us ++ ms)) (low b₂ (low b₁ w)))

-- ---- (2a) what a canonical input builds is described by its forest

-- L from n on is what stands in t
abbrev pub Agree : ℕ → List Node → List Node → Type 0
Agree n t L = (i : ℕ) (x : Node) → n ≤ i → At t i x → At L i x

-- the lists of the last state, in L
pub record Fin (L : List Node) (s : St) : Type 0 where
  pub fo : (k v : ℕ) → At s.objs k v → (h : Header) × (ms : List ℕ) × At L v (box h ms)
  pub fy : (k v : ℕ) → At s.syms k v → (b : List ℕ) × At L v (sym b)

fin_back : (L : List Node) (s s' : St) → Sub s s' → Fin L s' → Fin L s
fin_back L s s' h f = record { fo = λ k v e. f.fo k v (h.so k v e); fy = λ k v e. f.fy k v (h.ss k v e) }

new_num : (n : ℕ) (l : List ℕ) → Below n l → NotIn n l
new_num n l b k e = omega (arith, b k n e)

module _ (L : List Node) where
  -- the three parts of a box
  record BoxIn (h : Header) (us ms : List ℕ) (s s₁ s₂ s' : St) (φ : Node) : Type 0 where
    is : At L (length s₁.nodes) (box h (us ++ ms))
    ag₀ : Agree (length s.nodes) s₁.nodes L
    ag₁ : Agree (length (s₁.nodes ++ (φ ∷ []))) s₂.nodes L
    ag : Agree (length (set s₂.nodes (length s₁.nodes) (box h (us ++ ms)))) s'.nodes L

  box_in : (h : Header) (p f r : F) (us ms ws : List ℕ) (s s₁ s₂ s' : St) (φ : Node)
      → B ⊥ p s us s₁ → B ⊥ f (push_o φ s₁) ms s₂ → B ⊥ r (put (length s₁.nodes) (box h (us ++ ms)) s₂) ws s'
      → Agree (length s.nodes) s'.nodes L → BoxIn h us ms s s₁ s₂ s' φ
  box_in h p f r us ms ws s s₁ s₂ s' φ b₀ b₁ b ag =
      let n = length s₁.nodes in
      let l₀ = (sub b₀).sn in
      let l₁ = (sub b₁).sn in
      let ln = len_snoc s₁.nodes φ in
      record {
        is = ag n (box h (us ++ ms)) l₀ (keep b n (box h (us ++ ms)) (at_set_same s₂.nodes n (box h (us ++ ms)) (omega arith)));
        ag₀ = λ i x l a. ag i x l (keep b i x (at_set_other s₂.nodes n i (box h (us ++ ms)) x (omega (arith, at_lt s₁.nodes i x a)) (keep b₁ i x (at_app s₁.nodes (φ ∷ []) i x a))));
        ag₁ = λ i x l a. ag i x (omega arith) (keep b i x (at_set_other s₂.nodes n i (box h (us ++ ms)) x (omega arith) a));
        ag = λ i x l a. ag i x (omega (arith, length-set s₂.nodes n (box h (us ++ ms)))) a;
      }

  pub desc : {f : F} {s s' : St} {vs : List ℕ} → B ⊥ f s vs s' → Agree (length s.nodes) s'.nodes L → Fin L s' → Low s → E L f vs (num s) (num s')
  desc b_end ag g w = e_end
  desc (b_leaf {k = k} {x = x} {s = s} b) ag g w =
      e_leaf (ag (length s.nodes) (leaf k x) (omega arith) (keep b _ _ (at_snoc s.nodes (leaf k x))))
      (desc b (λ i y l a. ag i y (omega (arith, len_snoc s.nodes (leaf k x))) a) g (low_push s (leaf k x) w))
  desc {s' = s'} (b_box {h = h} {p = p} {f = f} {r = r} {φ = φ} {s = s} {s₁ = s₁} {s₂ = s₂} {us = us} {ms = ms} {ws = ws} b₀ c b₁ b) ag g w =
      let a = box_in h p f r us ms ws s s₁ s₂ s' φ b₀ b₁ b ag in
      let g₃ = fin_back L _ s' (sub b) g in
      let g₂ : Fin L s₂ = record { fo = g₃.fo; fy = g₃.fy } in
      let gp = fin_back L (push_o φ s₁) s₂ (sub b₁) g₂ in
      let g₁ = fin_back L s₁ (push_o φ s₁) (sub_push_o φ s₁) gp in
      let w₁ = low b₀ w in
      let wp = low_push_o s₁ φ w₁ in
      e_box {us = us} {ms = ms} a.is (desc b₀ a.ag₀ g₁ w) (new_num (length s₁.nodes) s₁.objs w₁.wo) (desc b₁ a.ag₁ g₂ wp)
      (desc b a.ag g (low_put s₂ (length s₁.nodes) (box h (us ++ ms)) (low b₁ wp)))
  desc {s' = s'} (b_ref {k = k} {s = s} {v = v} x b) ag g w =
      let (h, ms, e) = g.fo k v ((sub b).so k v x) in
      e_ref {h = h} {ms = ms} e x (desc b ag g w)
  desc (b_known c x b) ag g w = absurd c
  desc (b_new {b = b} {s = s} x t) ag g w =
      e_sym (ag (length s.nodes) (sym b) (omega arith) (keep t _ _ (at_snoc s.nodes (sym b)))) (new_num (length s.nodes) s.syms w.wy)
      (desc t (λ i y l a. ag i y (omega (arith, len_snoc s.nodes (sym b))) a) g (low_new s b w))
  desc (b_symref {k = k} {v = v} x b) ag g w =
      let (y, e) = g.fy k v ((sub b).ss k v x) in
      e_symref {b = y} e x (desc b ag g w)
  desc (b_iv h us os c b₁ b₂ x t) ag g w = absurd c

-- ---- any input keeps kinds

abbrev pub Kin : Node → Node → Type 0
Kin (leaf k x) n = n ≡ leaf k x
Kin (sym b) n = n ≡ sym b
Kin (box h ms) n = (h' : Header) × (ms' : List ℕ) × (n ≡ box h' ms')

kin_refl : (n : Node) → Kin n n
kin_refl (leaf k x) = refl
kin_refl (sym b) = refl
kin_refl (box h ms) = (h, ms, refl)

kin_trans : (n m o : Node) → Kin n m → Kin m o → Kin n o
kin_trans (leaf k x) m o e f = rw e at f
kin_trans (sym b) m o e f = rw e at f
kin_trans (box h ms) m o (h', ms', e) f = rw e at f

abbrev pub Kept : List Node → List Node → Type 0
Kept l m = (i : ℕ) (n : Node) → At l i n → (n' : Node) × At m i n' × Kin n n'

kept_trans : (l m o : List Node) → Kept l m → Kept m o → Kept l o
kept_trans l m o a b i n e =
    let (n₁, e₁, k₁) = a i n e in
    let (n₂, e₂, k₂) = b i n₁ e₁ in
    (n₂, e₂, kin_trans n n₁ n₂ k₁ k₂)

kept_app : (l r : List Node) → Kept l (l ++ r)
kept_app l r i n e = (n, at_app l r i n e, kin_refl n)

kept_above : (l m : List Node) (j : ℕ) (x : Node) → length l ≤ j → Kept l m → Kept l (set m j x)
kept_above l m j x h k i n e =
    let (n', e', q) = k i n e in
    (n', at_set_other m j i x n' (omega (arith, at_lt l i n e)) e', q)

kept_box : (l : List Node) (v : ℕ) (h h' : Header) (ms ns : List ℕ) → At l v (box h ms) → Kept l (set l v (box h' ns))
kept_box l v h h' ms ns a i n e = go (ℕ_discrete i v)
  where
    go : Dec (i ≡ v) → (n' : Node) × At (set l v (box h' ns)) i n' × Kin n n'
    go (yes z) =
        let q : n ≡ box h ms = cc in
        (box h' ns, rw z (at_set_same l v (box h' ns) (at_lt l v (box h ms) a)), rw q (h', ns, refl))
    go (no z) = (n, at_set_other l v i (box h' ns) n z e, kin_refl n)

pub kept : {K : Type 0} {f : F} {s s' : St} {vs : List ℕ} → B K f s vs s' → Kept s.nodes s'.nodes
kept b_end = λ i n e. (n, e, kin_refl n)
kept {s' = s'} (b_leaf {k = k} {x = x} {s = s} b) = kept_trans s.nodes (s.nodes ++ (leaf k x ∷ [])) s'.nodes (kept_app s.nodes (leaf k x ∷ [])) (kept b)
kept {s' = s'} (b_box {h = h} {φ = φ} {s = s} {s₁ = s₁} {s₂ = s₂} {us = us} {ms = ms} b₀ c b₁ b) =
    kept_trans s.nodes s₁.nodes s'.nodes (kept b₀)
    (kept_trans s₁.nodes (set s₂.nodes (length s₁.nodes) (box h (us ++ ms))) s'.nodes
    (kept_above s₁.nodes s₂.nodes (length s₁.nodes) (box h (us ++ ms)) (omega arith)
    (kept_trans s₁.nodes (s₁.nodes ++ (φ ∷ [])) s₂.nodes (kept_app s₁.nodes (φ ∷ [])) (kept b₁)))
    (kept b))
kept (b_ref a b) = kept b
kept (b_known c a b) = kept b
kept {s' = s'} (b_new {b = b} {s = s} a t) = kept_trans s.nodes (s.nodes ++ (sym b ∷ [])) s'.nodes (kept_app s.nodes (sym b ∷ [])) (kept t)
kept (b_symref a b) = kept b
kept {s = s} {s' = s'} (b_iv {s₁ = s₁} {s₂ = s₂} {v = v} {h = h₀} {ms = ms} h us os c b₁ b₂ a t) =
    kept_trans s.nodes s₁.nodes s'.nodes (kept b₁)
    (kept_trans s₁.nodes s₂.nodes s'.nodes (kept b₂)
    (kept_trans s₂.nodes (set s₂.nodes v (box h (us ++ ms))) s'.nodes (kept_box s₂.nodes v h₀ h (us ++ os) (us ++ ms) a) (kept t)))

-- ---- at the end each number on the object list is a box, each on the symbol list a symbol

abbrev IsBox : List Node → ℕ → Type 0
IsBox l v = (h : Header) × (ms : List ℕ) × At l v (box h ms)

box_kept : (l m : List Node) (v : ℕ) → Kept l m → IsBox l v → IsBox m v
box_kept l m v k (h, ms, e) = let (n, e', (h', ms', q)) = k v (box h ms) e in (h', ms', e' ∙ ap some q)

box_set : (l : List Node) (i v : ℕ) (h : Header) (ms : List ℕ) → IsBox l v → IsBox (set l i (box h ms)) v
box_set l i v h ms (h₀, ms₀, e) = go (ℕ_discrete v i)
  where
    go : Dec (v ≡ i) → IsBox (set l i (box h ms)) v
    go (yes z) = (h, ms, rw z (at_set_same l i (box h ms) (rw z at (at_lt l v (box h₀ ms₀) e))))
    go (no z) = (h₀, ms₀, at_set_other l i v (box h ms) (box h₀ ms₀) z e)

-- what comes on the object list on the way is a box at the end
abbrev Boxed : St → St → Type 0
Boxed s s' = (k v : ℕ) → At s'.objs k v → At s.objs k v ⊎ IsBox s'.nodes v

boxed_trans : (s t u : St) → Boxed s t → Boxed t u → Kept t.nodes u.nodes → Boxed s u
boxed_trans s t u a b κ k v e = go (b k v e)
  where
    two : At s.objs k v ⊎ IsBox t.nodes v → At s.objs k v ⊎ IsBox u.nodes v
    two (inl x) = inl x
    two (inr x) = inr (box_kept t.nodes u.nodes v κ x)

    go : At t.objs k v ⊎ IsBox u.nodes v → At s.objs k v ⊎ IsBox u.nodes v
    go (inl x) = two (a k v x)
    go (inr x) = inr x

-- a box opened at s₁ and filled at s₂
boxed_box : (s₁ s₂ : St) (φ : Node) (h : Header) (ms : List ℕ) → length s₁.nodes < length s₂.nodes → Boxed (push_o φ s₁) s₂ → Boxed s₁ (put (length s₁.nodes) (box h ms) s₂)
boxed_box s₁ s₂ φ h ms l a k v e = go (a k v e)
  where
    two : At s₁.objs k v ⊎ ((k ≡ length s₁.objs) × (v ≡ length s₁.nodes)) → At s₁.objs k v ⊎ IsBox (set s₂.nodes (length s₁.nodes) (box h ms)) v
    two (inl x) = inl x
    two (inr x) = inr (h, ms, rw x.1 (at_set_same s₂.nodes (length s₁.nodes) (box h ms) l))

    go : At (s₁.objs ++ (length s₁.nodes ∷ [])) k v ⊎ IsBox s₂.nodes v → At s₁.objs k v ⊎ IsBox (set s₂.nodes (length s₁.nodes) (box h ms)) v
    go (inl x) = two (at_snoc_inv s₁.objs (length s₁.nodes) k v x)
    go (inr x) = inr (box_set s₂.nodes (length s₁.nodes) v h ms x)

boxed_put : (s : St) (v : ℕ) (h : Header) (ms : List ℕ) → Boxed s (put v (box h ms) s)
boxed_put s v h ms k u e = inl e

pub boxed : {K : Type 0} {f : F} {s s' : St} {vs : List ℕ} → B K f s vs s' → Boxed s s'
boxed b_end k v e = inl e
boxed (b_leaf b) k v e = boxed b k v e
boxed {s' = s'} (b_box {h = h} {φ = φ} {s = s} {s₁ = s₁} {s₂ = s₂} {us = us} {ms = ms} b₀ c b₁ b) k v e =
    let l : length s₁.nodes < length s₂.nodes = omega (arith, (sub b₁).sn, len_snoc s₁.nodes φ) in
    let m = boxed_box s₁ s₂ φ h (us ++ ms) l (λ i u x. boxed b₁ i u x) in
    let s₃ = put (length s₁.nodes) (box h (us ++ ms)) s₂ in
    boxed_trans s s₁ s' (λ i u x. boxed b₀ i u x) (boxed_trans s₁ s₃ s' m (λ i u x. boxed b i u x) (kept b))
    (kept_trans s₁.nodes s₃.nodes s'.nodes
    (kept_above s₁.nodes s₂.nodes (length s₁.nodes) (box h (us ++ ms)) (omega arith)
    (kept_trans s₁.nodes (s₁.nodes ++ (φ ∷ [])) s₂.nodes (kept_app s₁.nodes (φ ∷ [])) (kept b₁)))
    (kept b)) k v e
boxed (b_ref a b) k v e = boxed b k v e
boxed (b_known c a b) k v e = boxed b k v e
boxed (b_new a b) k v e = boxed b k v e
boxed (b_symref a b) k v e = boxed b k v e
boxed {s = s} {s' = s'} (b_iv {s₁ = s₁} {s₂ = s₂} {v = u} {h = h₀} {ms = ms} h us os c b₁ b₂ a t) k v e =
    let s₃ = put u (box h (us ++ ms)) s₂ in
    let k₃ : Kept s₂.nodes s₃.nodes = kept_box s₂.nodes u h₀ h (us ++ os) (us ++ ms) a in
    let k₂ = kept_trans s₂.nodes s₃.nodes s'.nodes k₃ (kept t) in
    boxed_trans s s₁ s' (λ i u x. boxed b₁ i u x)
    (boxed_trans s₁ s₂ s' (λ i u x. boxed b₂ i u x) (boxed_trans s₂ s₃ s' (boxed_put s₂ u h (us ++ ms)) (λ i u x. boxed t i u x) (kept t)) k₂)
    (kept_trans s₁.nodes s₂.nodes s'.nodes (kept b₂) k₂) k v e

-- ---- (2a) the forest of an arena can be built

abbrev pub Names : List Node → Type 0
Names l = (i j : ℕ) (b : List ℕ) → At l i (sym b) → At l j (sym b) → i ≡ j

pub record Inv (P : List Node) (σ : Num) (s : St) : Type 0 where
  pub io : length s.objs ≡ length σ.objs
  pub iy : length s.syms ≡ length σ.syms
  pub im : (i : ℕ) (b : List ℕ) → At s.nodes i (sym b) → (k : ℕ) × (u : ℕ) × At σ.syms k u × At P u (sym b)

im_snoc : (P : List Node) (σ : Num) (s : St) (x : Node) → ((b : List ℕ) → x ≡ sym b → ⊥) → Inv P σ s
    → (i : ℕ) (b : List ℕ) → At (s.nodes ++ (x ∷ [])) i (sym b) → (k : ℕ) × (u : ℕ) × At σ.syms k u × At P u (sym b)
im_snoc P σ s x n h i b e = go (at_snoc_inv s.nodes x i (sym b) e)
  where
    go : At s.nodes i (sym b) ⊎ ((i ≡ length s.nodes) × (sym b ≡ x)) → (k : ℕ) × (u : ℕ) × At σ.syms k u × At P u (sym b)
    go (inl a) = h.im i b a
    go (inr a) = absurd (n b (psym a.1))

pub inv_push : (P : List Node) (σ : Num) (s : St) (x : Node) → ((b : List ℕ) → x ≡ sym b → ⊥) → Inv P σ s → Inv P σ (push x s)
inv_push P σ s x n h = record { io = h.io; iy = h.iy; im = im_snoc P σ s x n h }

pub inv_push_o : (P : List Node) (σ : Num) (s : St) (v : ℕ) (x : Node) → ((b : List ℕ) → x ≡ sym b → ⊥) → Inv P σ s → Inv P (add_o v σ) (push_o x s)
inv_push_o P σ s v x n h = record { io = simp len_snoc (omega (arith, h.io)); iy = h.iy; im = im_snoc P σ s x n h }

pub inv_put : (P : List Node) (σ : Num) (s : St) (k : ℕ) (hd : Header) (ms : List ℕ) → Inv P σ s → Inv P σ (put k (box hd ms) s)
inv_put P σ s k hd ms h = record { io = h.io; iy = h.iy; im = λ i b e. go i b (at_set_inv s.nodes k i (box hd ms) (sym b) e) }
  where
    go : (i : ℕ) (b : List ℕ) → ((i ≡ k) × (sym b ≡ box hd ms)) ⊎ ((i ≢ k) × At s.nodes i (sym b)) → (k : ℕ) × (u : ℕ) × At σ.syms k u × At P u (sym b)
    go i b (inl a) = apart (cc a.1)
    go i b (inr a) = h.im i b a.1

pub inv_sym : (P : List Node) (σ : Num) (s : St) (v : ℕ) (b : List ℕ) → At P v (sym b) → Inv P σ s → Inv P (add_s v σ) (add_sym (length s.nodes) (push (sym b) s))
inv_sym P σ s v b a h = record {
  io = h.io;
  iy = simp len_snoc (omega (arith, h.iy));
  im = λ i x e. go i x (at_snoc_inv s.nodes (sym b) i (sym x) e);
}
  where
    go : (i : ℕ) (x : List ℕ) → At s.nodes i (sym x) ⊎ ((i ≡ length s.nodes) × (sym x ≡ sym b)) → (k : ℕ) × (u : ℕ) × At (σ.syms ++ (v ∷ [])) k u × At P u (sym x)
    go i x (inl e) = let (k, u, p, q) = h.im i x e in (k, u, at_app σ.syms (v ∷ []) k u p, q)
    go i x (inr e) = let z : x ≡ b = cc e.1 in (length σ.syms, v, at_snoc σ.syms v, rw z a)

-- ph: what stands for a box while its members are read
module _ (P : List Node) (nm : Names P) (ph : Header → List ℕ → Node) (pho : (h : Header) (us : List ℕ) → Ph ⊥ h (ph h us)) where
  abbrev Made : F → Num → St → Type 0
  Made f σ' s = (vs : List ℕ) × (s' : St) × B ⊥ f s vs s' × Inv P σ' s'

  pub new_name : (σ : Num) (s : St) (v : ℕ) (b : List ℕ) → Inv P σ s → At P v (sym b) → NotIn v σ.syms → NotIn (sym b) s.nodes
  new_name σ s v b h a n i e =
      let (k, u, p, q) = h.im i b e in
      let z : u ≡ v = nm u v b q a in
      n k (rw z at p)

  pub make : {f : F} {vs : List ℕ} {σ σ' : Num} → E P f vs σ σ' → (s : St) → Inv P σ s → Made f σ' s
  make e_end s h = ([], s, b_end, h)
  make (e_leaf {k = k} {x = x} {σ = σ} a d) s h =
      let (ws, s', b, i) = make d (push (leaf k x) s) (inv_push P σ s (leaf k x) (λ b q. apart (cc)) h) in
      (length s.nodes ∷ ws, s', b_leaf b, i)
  make (e_box {h = hd} {v = v} {σ = σ} {σ₁ = σ₁} {σ₂ = σ₂} a d₀ n d₁ d) s h =
      let (us, s₁, b₀, i₀) = make d₀ s h in
      let (ms, s₂, b₁, i₁) = make d₁ (push_o (ph hd us) s₁) (inv_push_o P σ₁ s₁ v (ph hd us) (ph_nosym ⊥ hd (ph hd us) (pho hd us)) i₀) in
      let (ws, s', b, i) = make d (put (length s₁.nodes) (box hd (us ++ ms)) s₂) (inv_put P σ₂ s₂ (length s₁.nodes) hd (us ++ ms) i₁) in
      (length s₁.nodes ∷ ws, s', b_box b₀ (pho hd us) b₁ b, i)
  make (e_ref {k = k} {v = v} {σ = σ} a n d) s h =
      let (u, p) = lt_at s.objs k (omega (arith, at_lt σ.objs k v n, h.io)) in
      let (ws, s', b, i) = make d s h in
      (u ∷ ws, s', b_ref p b, i)
  make (e_sym {b = b} {v = v} {σ = σ} a n d) s h =
      let (ws, s', t, i) = make d (add_sym (length s.nodes) (push (sym b) s)) (inv_sym P σ s v b a h) in
      (length s.nodes ∷ ws, s', b_new (new_name σ s v b h a n) t, i)
  make (e_symref {k = k} {v = v} {σ = σ} a n d) s h =
      let (u, p) = lt_at s.syms k (omega (arith, at_lt σ.syms k v n, h.iy)) in
      let (ws, s', b, i) = make d s h in
      (u ∷ ws, s', b_symref p b, i)

-- ---- no two symbols of one name, for any input

names_snoc : (l : List Node) (x : Node) → ((b : List ℕ) → x ≡ sym b → NotIn (sym b) l) → Names l → Names (l ++ (x ∷ []))
names_snoc l x n h i j b e e' = go (at_snoc_inv l x i (sym b) e) (at_snoc_inv l x j (sym b) e')
  where
    go : At l i (sym b) ⊎ ((i ≡ length l) × (sym b ≡ x)) → At l j (sym b) ⊎ ((j ≡ length l) × (sym b ≡ x)) → i ≡ j
    go (inl a) (inl a') = h i j b a a'
    go (inl a) (inr a') = absurd (n b (psym a'.1) i a)
    go (inr a) (inl a') = absurd (n b (psym a.1) j a')
    go (inr a) (inr a') = cc

names_set : (l : List Node) (k : ℕ) (hd : Header) (ms : List ℕ) → Names l → Names (set l k (box hd ms))
names_set l k hd ms h i j b e e' = go (at_set_inv l k i (box hd ms) (sym b) e) (at_set_inv l k j (box hd ms) (sym b) e')
  where
    go : ((i ≡ k) × (sym b ≡ box hd ms)) ⊎ ((i ≢ k) × At l i (sym b)) → ((j ≡ k) × (sym b ≡ box hd ms)) ⊎ ((j ≢ k) × At l j (sym b)) → i ≡ j
    go (inl a) y = apart (cc a.1)
    go (inr a) (inl a') = apart (cc a'.1)
    go (inr a) (inr a') = h i j b a.1 a'.1

pub names : {K : Type 0} {f : F} {s s' : St} {vs : List ℕ} → B K f s vs s' → Names s.nodes → Names s'.nodes
names b_end h = h
names (b_leaf {k = k} {x = x} {s = s} b) h = names b (names_snoc s.nodes (leaf k x) (λ b q. apart (cc)) h)
names {K = K} (b_box {h = hd} {φ = φ} {s₁ = s₁} {s₂ = s₂} {us = us} {ms = ms} b₀ c b₁ b) h =
    names b (names_set s₂.nodes (length s₁.nodes) hd (us ++ ms)
    (names b₁ (names_snoc s₁.nodes φ (λ b q. absurd (ph_nosym K hd φ c b q)) (names b₀ h))))
names (b_ref a b) h = names b h
names (b_known c a b) h = names b h
names (b_new {b = b} {s = s} a t) h = names t (names_snoc s.nodes (sym b) (λ x q. let z : b ≡ x = cc in rw (← z) a) h)
names (b_symref a b) h = names b h
names (b_iv {s₂ = s₂} {v = v} {ms = ms} hd us os c b₁ b₂ a t) h = names t (names_set s₂.nodes v hd (us ++ ms) (names b₂ (names b₁ h)))

-- ---- (3), second half: what a forest takes is the weight of what it numbers

abbrev pub nodes_of_forest : F → ℕ
nodes_of_forest f_end = 0
nodes_of_forest (f_leaf k x r) = suc (nodes_of_forest r)
nodes_of_forest (f_box h p f r) = suc (nodes_of_forest p + nodes_of_forest f + nodes_of_forest r)
nodes_of_forest (f_ref k r) = nodes_of_forest r
nodes_of_forest (f_sym m b r) = suc (nodes_of_forest r)
nodes_of_forest (f_symref m k r) = nodes_of_forest r
nodes_of_forest (f_iv f p r) = nodes_of_forest r

-- is it a leaf?
abbrev pub node_leaf : Node → ℕ
node_leaf (leaf k x) = 1
node_leaf (sym b) = 0
node_leaf (box h ms) = 0

abbrev pub lf : List Node → ℕ → ℕ
lf P = weigh node_leaf P

abbrev pub wt : List Node → ℕ → ℕ
wt P = weigh (w (lf P) 1) P

abbrev pub all : List Node → Num → ℕ
all P σ = sum_l (wt P) σ.objs + sum_l (wt P) σ.syms

cnt_box : (P : List Node) (h : Header) (p f r : F) (v : ℕ) (us ms ws : List ℕ) (σ σ₁ σ₂ σ' : Num) → At P v (box h (us ++ ms))
    → all P σ₁ + sum_l (lf P) us ≡ all P σ + nodes_of_forest p → all P σ₂ + sum_l (lf P) ms ≡ all P (add_o v σ₁) + nodes_of_forest f → all P σ' + sum_l (lf P) ws ≡ all P σ₂ + nodes_of_forest r
    → all P σ' + sum_l (lf P) (v ∷ ws) ≡ all P σ + nodes_of_forest (f_box h p f r)
cnt_box P h p f r v us ms ws σ σ₁ σ₂ σ' a x y z =
    let q : lf P v ≡ 0 = rw a in
    let t : wt P v ≡ 1 + sum_l (lf P) (us ++ ms) = ap (weight (w (lf P) 1)) a in
    omega (arith, sum_l_app (wt P) σ₁.objs (v ∷ []), sum_l_app (lf P) us ms)

pub cnt : {P : List Node} {g : F} {vs : List ℕ} {σ σ' : Num} → E P g vs σ σ' → all P σ' + sum_l (lf P) vs ≡ all P σ + nodes_of_forest g
cnt e_end = omega arith
cnt {P = P} (e_leaf {k = k} {x = x} {v = v} a d) = let q : lf P v ≡ 1 = rw a in omega (arith, cnt d)
cnt {P = P} {σ' = σ'} (e_box {h = h} {p = p} {f = f} {r = r} {v = v} {us = us} {ms = ms} {ws = ws} {σ = σ} {σ₁ = σ₁} {σ₂ = σ₂} a d₀ n d₁ d) =
    cnt_box P h p f r v us ms ws σ σ₁ σ₂ σ' a (cnt d₀) (cnt d₁) (cnt d)
cnt {P = P} (e_ref {v = v} {h = h} {ms = ms} a n d) = let q : lf P v ≡ 0 = rw a in omega (arith, cnt d)
cnt {P = P} (e_sym {b = b} {v = v} {σ = σ} a n d) =
    let q : lf P v ≡ 0 = rw a in
    let t : wt P v ≡ 1 = rw a in
    omega (arith, cnt d, sum_l_app (wt P) σ.syms (v ∷ []))
cnt {P = P} (e_symref {b = b} {v = v} a n d) = let q : lf P v ≡ 0 = rw a in omega (arith, cnt d)
