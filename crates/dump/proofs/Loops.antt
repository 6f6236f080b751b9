-- One turn of the loop over elements, what it keeps, and a value's members.
use Prim.Native.Nat.{ℕ, suc, ◌+◌, ◌-◌, ◌*◌, ◌≤◌, ◌<◌}
use native.Mathlib.Omega.{arith}
use mathlib.Core.Path.{◌≡◌, refl, sym, ap, ◌∙◌, subst}
use mathlib.Core.List.{List}
use lib.ListN.{length, get_or}
use borrow.Author.Tests.{eq-eqb, ne_eqb}
use Rattle.definition.specs.Run.{pure, pick}
use Rattle.definition.specs.Node.{width, LIST, COUNT, DEFAULT}
use Rattle.definition.specs.Arena.{Arena, node, range}
use Rattle.definition.specs.Dump.{Writer, ◌>>◌, write_elements, write_default, write_row, write_level, write_value}
use Rattle.well_formed.specs.Right.{ListIn}
use Rattle.std.specs.declared.result.Result.TheVariants.{Ok, Err}
use Rattle.writer.specs.declared.Progress.{Progress}
use Rattle.writer.specs.declared.Stop.{Stop}
use Rattle.writer.specs.declared.Stop.TheVariants.{TooDeep as Deep}
use Rattle.writer.specs.Held.{Buffers, buffers, Noded, Lent, Listed, Ready, Goes, Answer, Leads, Meets}
use Rattle.writer.specs.Laws.{Passed, then, still, goes_as, goes_to, goes_first, went, lead_as, lead_after, lead_first, lead_stop, ready_goes, ready, ready_as}
use Rattle.writer.proofs.Members.{list_rest, member_below, element_next, elements_begin, elements_end, value_deep, value_row}
use Rattle.object_writer.specs.declared.Opened.{Opened}
use Rattle.object_writer.specs.declared.Opened.TheVariants.{More, Whole}
use Rattle.object_writer.specs.Values.{Beginning, Heads}
use Rattle.dumper.specs.Members.{listed, default_of, members_of, MembersIn}
use Rattle.object_writer.specs.Laws.{head_goes, deep, deep_here, ready_head}

-- ---- elements

-- what the loop keeps
pub record Turning (no re by sc₀ out₀ : List ℕ) (c₀ : Progress) (start n levels : ℕ) (sc out : List ℕ) (c : Progress) (i : ℕ) : Type 0 where
  pub within : i ≤ n
  pub scratch_length : length sc ≡ length sc₀
  pub output_length : length out ≡ length out₀
  pub held : Ready (λ A. Lent A no by × Listed A re × ListIn A start n) (buffers sc out) c
  pub goes : (A : Arena) (room limit : ℕ) → Lent A no by → Listed A re → ListIn A start n → Goes A room (write_elements (write_value room A limit levels) (range A.references start n)) (buffers sc₀ out₀) c₀ (write_elements (write_value room A limit levels) (range A.references (start + i) (n - i))) (buffers sc out) c

pub turning_start : {no re by sc out : List ℕ} {c : Progress} {start n levels : ℕ} → Ready (λ A. Lent A no by × Listed A re × ListIn A start n) (buffers sc out) c → Turning no re by sc out c start n levels sc out c 0
turning_start {start = start} {n} {levels} R = record {
  within = omega arith;
  scratch_length = refl;
  output_length = refl;
  held = R;
  goes = λ A room limit L l I. goes_as (elements_begin (write_value room A limit levels) A.references start n) still;
}

-- the r short ones from the i-th on, up to the j-th
module _ {no re sc out out' : List ℕ} {c c' : Progress} (start n levels i r j : ℕ) (some : levels ≡ 0 → ⊥) (e : j ≡ i + r) (k : (A : Arena) (room limit l : ℕ) → Noded A no → Listed A re → ListIn A (start + i) (n - i) → Goes A room (write_elements (write_value room A limit (suc l)) (range A.references (start + i) (n - i))) (buffers sc out) c (write_elements (write_value room A limit (suc l)) (range A.references (start + i + r) (n - i - r))) (buffers sc out') c') where
  pub shorts_go : (A : Arena) (room limit : ℕ) {by : List ℕ} → Lent A no by → Listed A re → ListIn A start n → i ≤ n → Goes A room (write_elements (write_value room A limit levels) (range A.references (start + i) (n - i))) (buffers sc out) c (write_elements (write_value room A limit levels) (range A.references (start + j) (n - j))) (buffers sc out') c'
  shorts_go A room limit L l I h =
      let a : suc (levels - 1) ≡ levels = omega arith in
      let p : start + i + r ≡ start + j = omega (arith, e) in
      let q : n - i - r ≡ n - j = omega (arith, e) in
      goes_to (λ x. write_elements (write_value room A limit levels) (range A.references (p x) (q x)))
      (subst (λ (x : ℕ). Goes A room (write_elements (write_value room A limit x) (range A.references (start + i) (n - i))) (buffers sc out) c (write_elements (write_value room A limit x) (range A.references (start + i + r) (n - i - r))) (buffers sc out') c') a (k A room limit (levels - 1) L.noded l (list_rest start n i h I)))

module _ {no re by sc₀ out₀ : List ℕ} {c₀ : Progress} {start n levels : ℕ} {sc out : List ℕ} {c : Progress} {i : ℕ} (R : Turning no re by sc₀ out₀ c₀ start n levels sc out c i) where
  pub rest_ready : Ready (λ A. Noded A no × Listed A re × ListIn A (start + i) (n - i)) (buffers sc out) c
  rest_ready =
      let H = R.held in
      record { arena = H.arena; room = H.room; state = H.state; fact = (H.fact.0.noded, H.fact.1, list_rest start n i R.within H.fact.2); holds = H.holds }

  module _ {sc' out' : List ℕ} {c' : Progress} (j : ℕ) (s : (A : Arena) (room limit : ℕ) → Lent A no by → Listed A re → ListIn A start n → Goes A room (write_elements (write_value room A limit levels) (range A.references (start + i) (n - i))) (buffers sc out) c (write_elements (write_value room A limit levels) (range A.references (start + j) (n - j))) (buffers sc' out') c') where
    pub turned : j ≤ n → length sc' ≡ length sc → length out' ≡ length out → Turning no re by sc₀ out₀ c₀ start n levels sc' out' c' j
    turned h p q = record {
      within = h;
      scratch_length = p ∙ R.scratch_length;
      output_length = q ∙ R.output_length;
      held = let H = R.held in ready_goes H (s H.arena H.room 0 H.fact.0 H.fact.1 H.fact.2);
      goes = λ A room limit L l I. then (R.goes A room limit L l I) (s A room limit L l I);
    }

  -- no element is left
  pub all_turned : n ≤ i → (A : Arena) (room limit : ℕ) → Lent A no by → Listed A re → ListIn A start n → Meets A room limit (write_elements (write_value room A limit levels) (range A.references start n)) (buffers sc₀ out₀) c₀ (Ok tt) (buffers sc out) c
  all_turned h A room limit L l I = went (goes_to (elements_end (write_value room A limit levels) A.references (start + i) n i h) (R.goes A room limit L l I))

  -- an element is left, and no level
  pub element_deep : i < n → levels ≡ 0 → (A : Arena) (room limit : ℕ) → Lent A no by → Listed A re → ListIn A start n → Meets A room limit (write_elements (write_value room A limit levels) (range A.references start n)) (buffers sc₀ out₀) c₀ (Err Deep) (buffers sc out) c
  element_deep h z A room limit L l I =
      lead_after (R.goes A room limit L l I) (lead_as (element_next start n i (get_or re (start + i) 0) l I h refl (write_value room A limit levels) ∙ ap (λ (m : Writer). m >> write_elements (write_value room A limit levels) (range A.references (start + (i + 1)) (n - (i + 1)))) (value_deep room A limit levels (get_or re (start + i) 0) z)) (record { leads = deep limit _ }))

  -- element i is node v
  module _ {sc' out' : List ℕ} {c' : Progress} (v : ℕ) (h : i < n) (e : v ≡ get_or re (start + i) 0) where
    pub element_goes : {u : Unit {0}} → ((A : Arena) (room limit : ℕ) → Lent A no by → Listed A re → v < length A.nodes → Meets A room limit (write_value room A limit levels v) (buffers sc out) c (Ok u) (buffers sc' out') c') → (A : Arena) (room limit : ℕ) → Lent A no by → Listed A re → ListIn A start n → Goes A room (write_elements (write_value room A limit levels) (range A.references (start + i) (n - i))) (buffers sc out) c (write_elements (write_value room A limit levels) (range A.references (start + (i + 1)) (n - (i + 1)))) (buffers sc' out') c'
    element_goes k A room limit L l I = goes_as (element_next start n i v l I h e (write_value room A limit levels)) (goes_first _ (k A room limit L l (member_below start n i v l I h e)).leads)

    pub element_stops : {q : Stop} {s : Answer} → Passed s q → ((A : Arena) (room limit : ℕ) → Lent A no by → Listed A re → v < length A.nodes → Meets A room limit (write_value room A limit levels v) (buffers sc out) c (Err q) (buffers sc' out') c') → (A : Arena) (room limit : ℕ) → Lent A no by → Listed A re → ListIn A start n → Meets A room limit (write_elements (write_value room A limit levels) (range A.references start n)) (buffers sc₀ out₀) c₀ s (buffers sc' out') c'
    element_stops p k A room limit L l I = lead_after (R.goes A room limit L l I) (lead_as (element_next start n i v l I h e (write_value room A limit levels)) (lead_stop _ p (lead_first _ (k A room limit L l (member_below start n i v l I h e))).leads))

-- ---- measures

pub down : (l t : ℕ) → 2 * l + 1 ≡ t → 2 * l < t
down l t e = omega arith

pub down_list : (l levels t : ℕ) → l ≤ levels → (l ≡ 0 → ⊥) → 2 * levels ≡ t → 2 * (l - 1) + 1 < t
down_list l levels t h n e = omega arith

-- ---- a value's members

-- a default that isn't there, or is
module _ (room : ℕ) (A : Arena) (inner : ℕ → Writer) (k f : ℕ) where
  default_absent : (k ≡ 5 → ⊥) → write_default room A inner (default_of k f) ≡ pure tt
  unfolding default_of pick write_default
  default_absent e = rw (ne_eqb k 5 e) refl

  default_none : k ≡ 5 → f ≡ 0 → write_default room A inner (default_of k f) ≡ pure tt
  unfolding default_of pick write_default
  default_none e z = rw (eq-eqb k 5 e, z) refl

  default_some : (x : ℕ) → k ≡ 5 → (f ≡ 0 → ⊥) → x ≡ f → write_default room A inner (default_of k f) ≡ inner (x - 1)
  unfolding default_of pick write_default
  default_some x e n q =
      let z : f ≡ suc (x - 1) = omega arith in
      rw (eq-eqb k 5 e, z) refl

default_below : {A : Arena} (t : List ℕ) (v x : ℕ) → get_or t (v * width) 0 ≡ 5 → (get_or t (v * width + DEFAULT) 0 ≡ 0 → ⊥) → x ≡ get_or t (v * width + DEFAULT) 0 → MembersIn A t v → x - 1 < length A.nodes
unfolding default_of pick
default_below {A} t v x e n q M =
    let z : get_or t (v * width + DEFAULT) 0 ≤ length A.nodes = subst (λ (y : ℕ). y ≤ length A.nodes) (rw (eq-eqb (get_or t (v * width) 0) 5 e) refl) M.1 in
    omega arith

more : {x : Opened} → (x ≡ Whole → ⊥) → x ≡ More
more {x = More} n = refl
more {x = Whole} n = absurd (n refl)

-- what is met by a call that writes the n references from `start` on, and what holds wherever node v is written
abbrev Elements : (nodes re by : List ℕ) (levels start n : ℕ) → Buffers → Progress → Answer → Buffers → Progress → Type 0
Elements nodes re by levels start n B c r B' c' = (A : Arena) (room limit : ℕ) → Lent A nodes by → Listed A re → ListIn A start n → Meets A room limit (write_elements (write_value room A limit levels) (range A.references start n)) B c r B' c'

abbrev Value : (nodes re by : List ℕ) (v : ℕ) → (Arena → ℕ → ℕ → Type 0) → Type 0
Value nodes re by v P = (A : Arena) (room limit : ℕ) → Lent A nodes by → Listed A re → v < length A.nodes → P A room limit

-- node v was begun, and more of it comes; its list is the n references from `start` on
module _ {no re by sc out sc₁ out₁ : List ℕ} {c c₁ : Progress} {x : Opened} (v levels start n : ℕ) (some : levels ≡ 0 → ⊥) (comes : x ≡ Whole → ⊥) (at : start ≡ get_or no (v * width + LIST) 0) (count : n ≡ listed (get_or no (v * width) 0) (get_or no (v * width + COUNT) 0)) (begun : (A : Arena) (room limit : ℕ) → Lent A no by → Listed A re → v < length A.nodes → Heads A room limit (write_row room A (write_level limit (levels - 1)) (write_value room A limit (levels - 1)) v (node A v)) (members_of room A (write_value room A limit (levels - 1)) (get_or no (v * width) 0) (get_or no (v * width + LIST) 0) (get_or no (v * width + COUNT) 0) (get_or no (v * width + DEFAULT) 0)) (buffers sc out) c (Ok x) (buffers sc₁ out₁) c₁) (inside : (A : Arena) → Lent A no by → v < length A.nodes → ◌≡◌ {A = Beginning} (Ok x) (Ok More) → MembersIn A no v) where
  members_in : {A : Arena} → Lent A no by → v < length A.nodes → MembersIn A no v
  members_in {A} L b = inside A L b (ap (λ (o : Opened). Ok o) (more comes))

  list_in : {A : Arena} → Lent A no by → v < length A.nodes → ListIn A start n
  list_in {A} L b = subst (λ (x : ℕ). ListIn A x n) (sym at) (subst (λ (x : ℕ). ListIn A (get_or no (v * width + LIST) 0) x) (sym count) (members_in L b).0)

  pub list_ready : Ready (λ A. Lent A no by × Listed A re × (v < length A.nodes)) (buffers sc out) c → Ready (λ A. Lent A no by × Listed A re × ListIn A start n) (buffers sc₁ out₁) c₁
  list_ready R = ready_as (λ A f. (f.0, f.1, list_in f.0 f.2)) (ready_head _ _ R comes (λ A room f. begun A room 0 f.0 f.1 f.2))

  -- the call that writes its list
  module _ {sc₂ out₂ : List ℕ} {c₂ : Progress} where
    leads_default : {r : Answer} → Elements no re by (levels - 1) start n (buffers sc₁ out₁) c₁ r (buffers sc₂ out₂) c₂ → Value no re by v (λ A room limit. Leads A room limit (write_value room A limit levels v) (write_default room A (write_value room A limit (levels - 1)) (default_of (get_or no (v * width) 0) (get_or no (v * width + DEFAULT) 0))) (buffers sc out) c r (buffers sc₂ out₂) c₂)
    leads_default elements A room limit L l b =
        let inner = write_value room A limit (levels - 1) in
        let last = write_default room A inner (default_of (get_or no (v * width) 0) (get_or no (v * width + DEFAULT) 0)) in
        lead_as (value_row room A limit levels v some)
        (lead_after
        (goes_to (λ i. write_elements inner (range A.references (sym at i) (sym count i)) >> last) (head_goes comes (begun A room limit L l b)))
        (lead_first last (elements A room limit L l (list_in L b))))

    pub list_stops : {q : Stop} {s : Answer} → Passed s q → Elements no re by (levels - 1) start n (buffers sc₁ out₁) c₁ (Err q) (buffers sc₂ out₂) c₂ → Value no re by v (λ A room limit. Meets A room limit (write_value room A limit levels v) (buffers sc out) c s (buffers sc₂ out₂) c₂)
    list_stops p elements A room limit L l b = lead_stop _ p (leads_default elements A room limit L l b).leads

    module _ {u : Unit {0}} (elements : Elements no re by (levels - 1) start n (buffers sc₁ out₁) c₁ (Ok u) (buffers sc₂ out₂) c₂) where
      pub no_default : (get_or no (v * width) 0 ≡ 5 → ⊥) → Value no re by v (λ A room limit. Meets A room limit (write_value room A limit levels v) (buffers sc out) c (Ok tt) (buffers sc₂ out₂) c₂)
      no_default k A room limit L l b = went (goes_to (default_absent room A _ _ _ k) (leads_default elements A room limit L l b).leads)

      module _ (hash : get_or no (v * width) 0 ≡ 5) where
        pub zero_default : get_or no (v * width + DEFAULT) 0 ≡ 0 → Value no re by v (λ A room limit. Meets A room limit (write_value room A limit levels v) (buffers sc out) c (Ok tt) (buffers sc₂ out₂) c₂)
        zero_default d A room limit L l b = went (goes_to (default_none room A _ _ _ hash d) (leads_default elements A room limit L l b).leads)

        -- and its default is node d - 1
        module _ (d : ℕ) (some-default : get_or no (v * width + DEFAULT) 0 ≡ 0 → ⊥) (is : d ≡ get_or no (v * width + DEFAULT) 0) where
          default_in : {A : Arena} → Lent A no by → v < length A.nodes → d - 1 < length A.nodes
          default_in {A} L b = default_below no v d hash some-default is (members_in L b)

          pub default_ready : Ready (λ A. Lent A no by × Listed A re × (v < length A.nodes)) (buffers sc out) c → Ready (λ A. Lent A no by × Listed A re × (d - 1 < length A.nodes)) (buffers sc₂ out₂) c₂
          default_ready R = ready_as (λ A f. (f.0, f.1, default_in f.0 f.2)) (ready _ _ R (λ A room f. leads_default elements A room 0 f.0 f.1 f.2))

          pub with_default : {sc₃ out₃ : List ℕ} {c₃ : Progress} {r : Answer} → ((A : Arena) (room limit : ℕ) → Lent A no by → Listed A re → d - 1 < length A.nodes → Meets A room limit (write_value room A limit (levels - 1) (d - 1)) (buffers sc₂ out₂) c₂ r (buffers sc₃ out₃) c₃) → Value no re by v (λ A room limit. Meets A room limit (write_value room A limit levels v) (buffers sc out) c r (buffers sc₃ out₃) c₃)
          with_default m A room limit L l b =
              lead_after
              (goes_to (default_some room A _ _ _ d hash some-default is) (leads_default elements A room limit L l b).leads)
              (m A room limit L l (default_in L b))

-- ---- defaults in a row

-- what the turns over them keep: node h, with so many levels left, is what is to be written
pub record Lasting (no re by sc₀ out₀ : List ℕ) (c₀ : Progress) (v levels : ℕ) (sc out : List ℕ) (c : Progress) (h left : ℕ) : Type 0 where
  pub within : left ≤ levels
  pub scratch_length : length sc ≡ length sc₀
  pub output_length : length out ≡ length out₀
  pub held : Ready (λ A. Lent A no by × Listed A re × (h < length A.nodes)) (buffers sc out) c
  pub goes : {sc' out' : List ℕ} {c' : Progress} {r : Answer} → Value no re by h (λ A room limit. Meets A room limit (write_value room A limit left h) (buffers sc out) c r (buffers sc' out') c') → Value no re by v (λ A room limit. Meets A room limit (write_value room A limit levels v) (buffers sc₀ out₀) c₀ r (buffers sc' out') c')

pub lasting_start : {no re by sc out : List ℕ} {c : Progress} {v levels : ℕ} → Ready (λ A. Lent A no by × Listed A re × (v < length A.nodes)) (buffers sc out) c → Lasting no re by sc out c v levels sc out c v levels
lasting_start R = record { within = omega arith; scratch_length = refl; output_length = refl; held = R; goes = λ m. m }

-- the default of node h comes next
pub lasting_next : {no re by sc₀ out₀ sc out sc' out' : List ℕ} {c₀ c c' : Progress} {v levels h left d : ℕ} → Lasting no re by sc₀ out₀ c₀ v levels sc out c h left → length sc' ≡ length sc → length out' ≡ length out → Ready (λ A. Lent A no by × Listed A re × (d < length A.nodes)) (buffers sc' out') c' → ((sc₃ out₃ : List ℕ) (c₃ : Progress) (r : Answer) → Value no re by d (λ A room limit. Meets A room limit (write_value room A limit (left - 1) d) (buffers sc' out') c' r (buffers sc₃ out₃) c₃) → Value no re by h (λ A room limit. Meets A room limit (write_value room A limit left h) (buffers sc out) c r (buffers sc₃ out₃) c₃)) → Lasting no re by sc₀ out₀ c₀ v levels sc' out' c' d (left - 1)
lasting_next R p q H k = record { within = omega (arith, R.within); scratch_length = p ∙ R.scratch_length; output_length = q ∙ R.output_length; held = H; goes = λ m. R.goes (k _ _ _ _ m) }

-- no level is left
pub value_stops : {no re by sc₀ out₀ sc out : List ℕ} {c₀ c : Progress} {v levels h left : ℕ} → Lasting no re by sc₀ out₀ c₀ v levels sc out c h left → left ≡ 0 → Value no re by v (λ A room limit. Meets A room limit (write_value room A limit levels v) (buffers sc₀ out₀) c₀ (Err Deep) (buffers sc out) c)
value_stops {h = h} {left} R z = R.goes (λ A room limit L l b. lead_as (value_deep room A limit left h z) (record { leads = deep_here limit }))
