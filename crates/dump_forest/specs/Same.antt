-- Same graph: an equivalence, and the same as a pairing of the nodes seen.
use Rattle.std.specs.Prelude.{ℕ, zero, suc, ◌≤◌, ◌<◌, ◌≡◌, refl, false, List, [], ◌∷◌, length}
use Rattle.std.proofs.Common.{ap, subst, sym as psym, ◌∙◌, arith}
use Rattle.std.proofs.Math.Option.{none}
use Rattle.definition.specs.Node.{Row, kind}
use Rattle.definition.specs.Arena.{Arena, node}
use Rattle.definition.specs.Graph.{Header, header_of, header, links, Reachable, root, link, Paired, none, one, Pairing, SameGraph}
use Rattle.lists.specs.Lists.{At, PW}
use Rattle.graph.specs.Forest.{Node, leaf, sym, box, F}
use Rattle.graph.specs.Describe
use Rattle.graph.specs.Describe.{Key, Like, Says, carried}
use Rattle.graph.specs.View.{node_by_kind, node_of, see, header_kind, Headed, nil_headed, bool_headed, fixnum_headed, symbol_headed, box_headed, headed, seen, see_at, at_see}
use Rattle.well_formed.specs.Nodes.{at_node}
use Rattle.well_formed.specs.Right.{Right, node_links_below}

-- ---- an equivalence

pub reachable_below : (A : Arena) → Right A → (v : ℕ) → Reachable A v → v < length A.nodes
reachable_below A ρ v r = go r
  where
    go : {v : ℕ} → Reachable A v → v < length A.nodes
    go root = ρ.root_below
    go (link {v = v} r k w e) = node_links_below A ρ v (go r) k w e

-- paired nodes have one kind
pair_kind : (P Q : Arena) (a b : ℕ) → header P (node P a) ≡ header Q (node Q b) → kind (node P a) ≡ kind (node Q b)
pair_kind P Q a b e = psym (header_kind P (node P a)) ∙ ap (λ (h : Header). h.kind) e ∙ header_kind Q (node Q b)

paired_self : (R : ℕ → ℕ → Type 0) (l : List ℕ) → ((k v : ℕ) → At l k v → R v v) → Paired R l l
paired_self R [] f = none
paired_self R (x ∷ l) f = one (f 0 x refl) (paired_self R l (λ k v e. f (suc k) v e))

paired_turn : (R : ℕ → ℕ → Type 0) {l m : List ℕ} → Paired R l m → Paired (λ a b. R b a) m l
paired_turn R none = none
paired_turn R (one r p) = one r (paired_turn R p)

paired_join : (R S : ℕ → ℕ → Type 0) {l m n : List ℕ} → Paired R l m → Paired S m n → Paired (λ a c. (b : ℕ) × R a b × S b c) l n
paired_join R S none none = none
paired_join R S (one {b = b} r p) (one s q) = one (b, r, s) (paired_join R S p q)

pub same_refl : (A : Arena) → SameGraph A A
same_refl A = (
  λ a b. (a ≡ b) × Reachable A a,
  record {
    reachable = λ a b r. (r.1, rw (← r.0) r.1);
    roots = (refl, root);
    headers = λ a b r. ap (λ (v : ℕ). header A (node A v)) r.0;
    members = λ a b r. subst (λ (v : ℕ). Paired (λ a b. (a ≡ b) × Reachable A a) (links A (node A a)) (links A (node A v))) r.0
        (paired_self (λ a b. (a ≡ b) × Reachable A a) (links A (node A a)) (λ k v e. (refl, link r.1 k v e)));
    left = λ a b c r r' h. psym r.0 ∙ r'.0;
    right = λ a b c r r' h. r.0 ∙ psym r'.0;
  },
)

pub same_sym : (P Q : Arena) → SameGraph P Q → SameGraph Q P
same_sym P Q (R, π) = (
  λ a b. R b a,
  record {
    reachable = λ a b r. ((π.reachable b a r).1, (π.reachable b a r).0);
    roots = π.roots;
    headers = λ a b r. psym (π.headers b a r);
    members = λ a b r. paired_turn R (π.members b a r);
    left = λ a b c r r' h. π.right b c a r r' h;
    right = λ a b c r r' h. π.left c a b r r' h;
  },
)

pub same_trans : (P Q S : Arena) → SameGraph P Q → SameGraph Q S → SameGraph P S
same_trans P Q S (R, π) (R', π') = (
  λ a c. (b : ℕ) × R a b × R' b c,
  record {
    reachable = λ a c (b, r, r'). ((π.reachable a b r).0, (π'.reachable b c r').1);
    roots = (Q.root, π.roots, π'.roots);
    headers = λ a c (b, r, r'). π.headers a b r ∙ π'.headers b c r';
    members = λ a c (b, r, r'). paired_join R R' (π.members a b r) (π'.members b c r');
    left = λ a c c' (b, r, s) (b', r', s') h.
        let q : b ≡ b' = π.left a b b' r r' h in
        let k : 3 ≤ kind (node Q b') = omega (arith, pair_kind P Q a b' (π.headers a b' r')) in
        π'.left b' c c' (rw q at s) s' k;
    right = λ a a' c (b, r, s) (b', r', s') h.
        let q : b ≡ b' = π'.right b b' c s s' h in
        let k : 3 ≤ kind (node Q b') = omega (arith, pair_kind Q S b' c (π'.headers b' c s')) in
        π.right a a' b' (rw q at r) r' k;
  },
)

-- ---- rows by header and links

abbrev node_header : Node → Header
node_header (leaf k x) = header_of k x [] 0 false false
node_header (sym b) = header_of 3 0 b 0 false false
node_header (box h ms) = h

abbrev node_links : Node → List ℕ
node_links (leaf k x) = []
node_links (sym b) = []
node_links (box h ms) = ms

see_header : (A : Arena) (r : Row) → header A r ≡ node_header (see A r)
unfolding see
see_header A r = go (headed A r)
  where
    go : {h : Header} {ms : List ℕ} → Headed h ms → h ≡ node_header (node_of h ms)
    go (nil_headed x) = refl
    go (bool_headed x) = refl
    go (fixnum_headed x) = refl
    go (symbol_headed b) = refl
    go (box_headed k x b n p c ms) = refl

see_links : (A : Arena) (r : Row) → links A r ≡ node_links (see A r)
unfolding see
see_links A r = go (headed A r)
  where
    go : {h : Header} {ms : List ℕ} → Headed h ms → ms ≡ node_links (node_of h ms)
    go (nil_headed x) = refl
    go (bool_headed x) = refl
    go (fixnum_headed x) = refl
    go (symbol_headed b) = refl
    go (box_headed k x b n p c ms) = refl

see_key : (A : Arena) (r : Row) → 3 ≤ kind r → Key (see A r)
unfolding see
see_key A r h = go (header A r).kind (header A r) (links A r) (rw (header_kind A r) h)
  where
    go : (k : ℕ) (h : Header) (ms : List ℕ) → 3 ≤ k → Key (node_by_kind k h ms)
    go zero h ms l = absurd (omega arith)
    go (suc zero) h ms l = absurd (omega arith)
    go (suc (suc zero)) h ms l = absurd (omega arith)
    go (suc (suc (suc zero))) h ms l = tt
    go (suc (suc (suc (suc k)))) h ms l = tt

key_kind : (A : Arena) (r : Row) → Key (see A r) → 3 ≤ kind r
unfolding see
key_kind A r h = rw (header_kind A r) at (go (header A r).kind (header A r) (links A r) h)
  where
    go : (k : ℕ) (h : Header) (ms : List ℕ) → Key (node_by_kind k h ms) → 3 ≤ k
    go zero h ms l = absurd l
    go (suc zero) h ms l = absurd l
    go (suc (suc zero)) h ms l = absurd l
    go (suc (suc (suc zero))) h ms l = omega arith
    go (suc (suc (suc (suc k)))) h ms l = omega arith

-- ---- a pairing of nodes

-- an arena as a graph of nodes
abbrev pub graph_of : Arena → Describe.Arena
graph_of A = record { table = seen A; root = A.root }

pw_of : (R : ℕ → ℕ → Type 0) {l m : List ℕ} → Paired R l m → PW R l m
pw_of R none = tt
pw_of R (one r p) = (r, pw_of R p)

like_by_kind : (R : ℕ → ℕ → Type 0) (k : ℕ) (h : Header) (ms ns : List ℕ) → PW R ms ns → Like R (node_by_kind k h ms) (node_by_kind k h ns)
like_by_kind R zero h ms ns w = refl
like_by_kind R (suc zero) h ms ns w = refl
like_by_kind R (suc (suc zero)) h ms ns w = refl
like_by_kind R (suc (suc (suc zero))) h ms ns w = refl
like_by_kind R (suc (suc (suc (suc k)))) h ms ns w = (ns, refl, w)

like_rows : (R : ℕ → ℕ → Type 0) (P Q : Arena) (r r' : Row) → header P r ≡ header Q r' → PW R (links P r) (links Q r') → Like R (see P r) (see Q r')
unfolding see
like_rows R P Q r r' e w =
    rw (← e) (like_by_kind R (header P r).kind (header P r) (links P r) (links Q r') w)

module _ (P Q : Arena) (ρ : Right P) (κ : Right Q) (R : ℕ → ℕ → Type 0) (π : Pairing P Q R) where
  pub graph_pairing : Describe.Pairing (graph_of P) (graph_of Q) R
  graph_pairing = record {
    roots = π.roots;
    alike = λ a b r.
        let (x, y) = π.reachable a b r in (
          see P (node P a),
          see Q (node Q b),
          see_at P a (node P a) (at_node P a (reachable_below P ρ a x)),
          see_at Q b (node Q b) (at_node Q b (reachable_below Q κ b y)),
          like_rows R P Q (node P a) (node Q b) (π.headers a b r) (pw_of R (π.members a b r)),
        );
    left = λ a b b' n r r' e k. π.left a b b' r r' (key_kind P (node P a) (rw (at_see P a n e).0 k));
    right = λ a a' b n r r' e k. π.right a a' b r r' (key_kind Q (node Q b) (rw (at_see Q b n e).0 k));
  }

pub same_pairing : (P Q : Arena) → Right P → Right Q → SameGraph P Q → (R : ℕ → ℕ → Type 0) × Describe.Pairing (graph_of P) (graph_of Q) R
same_pairing P Q ρ κ (R, π) = (R, graph_pairing P Q ρ κ R π)

-- ---- and back: the pairing cut down to what is reachable

abbrev Cut : Arena → Arena → (ℕ → ℕ → Type 0) → ℕ → ℕ → Type 0
Cut P Q R a b = R a b × Reachable P a × Reachable Q b

pw_cut : (P Q : Arena) (R : ℕ → ℕ → Type 0) (l m : List ℕ) → PW R l m → ((k v : ℕ) → At l k v → Reachable P v) → ((k v : ℕ) → At m k v → Reachable Q v) → Paired (Cut P Q R) l m
pw_cut P Q R [] [] w f g = none
pw_cut P Q R [] (y ∷ m) w f g = absurd w
pw_cut P Q R (x ∷ l) [] w f g = absurd w
pw_cut P Q R (x ∷ l) (y ∷ m) w f g = one (w.0, f 0 x refl, g 0 y refl) (pw_cut P Q R l m w.1 (λ k v e. f (suc k) v e) (λ k v e. g (suc k) v e))

like_header : (R : ℕ → ℕ → Type 0) (n m : Node) → Like R n m → node_header n ≡ node_header m
like_header R (leaf k x) m e = ap node_header (psym e)
like_header R (sym b) m e = ap node_header (psym e)
like_header R (box h ms) m (ns, e, w) = ap node_header (psym e)

like_links : (R : ℕ → ℕ → Type 0) (n m : Node) → Like R n m → PW R (node_links n) (node_links m)
like_links R (leaf k x) m e = rw e tt
like_links R (sym b) m e = rw e tt
like_links R (box h ms) m (ns, e, w) = rw e w

module _ (P Q : Arena) (R : ℕ → ℕ → Type 0) (π : Describe.Pairing (graph_of P) (graph_of Q) R) where
  rows_like : (a b : ℕ) → R a b → Like R (see P (node P a)) (see Q (node Q b)) × At (seen P) a (see P (node P a)) × At (seen Q) b (see Q (node Q b))
  rows_like a b r =
      let (n, m, e, f, l) = π.alike a b r in
      let x : see P (node P a) ≡ n = (at_see P a n e).0 in
      let y : see Q (node Q b) ≡ m = (at_see Q b m f).0 in
      (rw (x, y) l, rw x e, rw y f)

  pub pairing_same : SameGraph P Q
  pairing_same = (
    Cut P Q R,
    record {
      reachable = λ a b r. (r.1, r.2);
      roots = (π.roots, root, root);
      headers = λ a b r. see_header P (node P a) ∙ like_header R (see P (node P a)) (see Q (node Q b)) (rows_like a b r.0).0 ∙ psym (see_header Q (node Q b));
      members = λ a b r. pw_cut P Q R (links P (node P a)) (links Q (node Q b))
          (rw (see_links P (node P a), see_links Q (node Q b)) (like_links R (see P (node P a)) (see Q (node Q b)) (rows_like a b r.0).0))
          (λ k v e. link r.1 k v e) (λ k v e. link r.2 k v e);
      left = λ a b c r r' h. π.left a b c (see P (node P a)) r.0 r'.0 (rows_like a b r.0).1 (see_key P (node P a) h);
      right = λ a b c r r' h. π.right a b c (see Q (node Q c)) r.0 r'.0 (rows_like a c r.0).2 (see_key Q (node Q c) h);
    },
  )

-- ---- one forest, one graph

-- two arenas that one forest describes hold the same graph
pub one_graph : (P Q : Arena) (g : F) → Says (graph_of P) g → Says (graph_of Q) g → SameGraph P Q
one_graph P Q g d d' =
    let (R, π) = Describe.one_graph (graph_of P) (graph_of Q) g d d' in
    pairing_same P Q R π

-- what describes one of two arenas with the same graph describes the other
pub same_forest : (P Q : Arena) → Right P → Right Q → SameGraph P Q → (g : F) → Says (graph_of P) g → Says (graph_of Q) g
same_forest P Q ρ κ s g d =
    let (R, π) = same_pairing P Q ρ κ s in
    carried (graph_of P) (graph_of Q) R π g d
