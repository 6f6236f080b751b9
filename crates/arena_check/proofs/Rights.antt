-- The rules for a row and for all nodes, as the check tests them.
use Prim.Native.Nat.{ℕ, zero, suc, ◌+◌, ◌-◌, ◌*◌, ◌/◌, ◌≤◌, ◌<◌}
use native.Mathlib.Omega.{arith}
use native.Mathlib.Numerals.{add-one}
use mathlib.Core.Bool.{Bool, true, false, not, ◌&&◌, and-true}
use mathlib.Core.List.{List, [], ◌∷◌}
use mathlib.Core.Option.{Option, none, some}
use mathlib.Core.Path.{◌≡◌, refl, sym, ap, ◌∙◌, subst}
use mathlib.Core.Logic.{◌⊎◌, inl, inr}
use lib.Dec.{leb, ltb, eqb, T}
use lib.ListN.{length, get_or, take, drop, length-drop}
use lib.Seq.{get_or-drop, length-take-le, drop-drop, take-take}
use borrow.Author.Tests.{le-leb, lt-leb, lt-ltb, le-ltb, ne_eqb}
use Rattle.definition.specs.Run.{pick}
use Rattle.definition.specs.Node.{Row, row, row_of, vars, is_row, rows, width, START, LENGTH, LIST, COUNT, NAME, DEFAULT, CLASS, optional_node}
use Rattle.definition.specs.Magnitude.{magnitude, fits as magnitude_fits}
use Rattle.definition.specs.Arena.{Arena, Tables, arena, range, firsts, all_below, all_names, is_name, bytes_right, list_right, pairs_right, vars_right, class_right, number_right, row_right, node_right, faulty, counts_fit, fault, fault_if}
use Rattle.definition.specs.declared.Counts.{Counts}
use Rattle.definition.specs.declared.Fault.{Fault}
use Rattle.definition.specs.declared.Fault.TheVariants.{Counts as BadCounts, Node}
use Rattle.std.specs.Prelude.{Result, Ok, Err}
use Rattle.arena_check.specs.declared.fitted.Fitted.{Fitted}
use Rattle.arena_check.specs.Held.{Held, Fits, FitIf}
use Rattle.lists.specs.Tables.{length_rows}
use Rattle.arena_check.proofs.Rows.{row_2}

-- ---- two tests in a row: the second where the first holds, else the first

pub and_on : {r : Bool} (x y : Bool) → true ≡ x → r ≡ y → r ≡ (x && y)
and_on x y t e = e ∙ ap (λ (b : Bool). b && y) t

pub and_off : {r : Bool} (x y : Bool) → r ≡ false → r ≡ x → r ≡ (x && y)
and_off x y f e = f ∙ ap (λ (b : Bool). b && y) (sym f ∙ e)

-- ---- ranges and lists

pub bytes_at : (A : Arena) (start n stored : ℕ) → length A.bytes ≡ stored → leb (start + n) stored ≡ bytes_right A start n
unfolding bytes_right
bytes_at A start n stored e = λ i. leb (start + n) (sym e i)

-- a part of the first entries is a part of them all
pub range_take : (l : List ℕ) (used start n : ℕ) → start + n ≤ used → range (take used l) start n ≡ range l start n
unfolding range
range_take l used zero n h = take-take n used l (omega arith)
range_take [] zero (suc start) n h = refl
range_take [] (suc used) (suc start) n h = refl
range_take (x ∷ l) zero (suc start) n h = absurd (omega arith)
range_take (x ∷ l) (suc used) (suc start) n h = range_take l used start n (omega arith)

module _ (A : Arena) (l : List ℕ) (used count : ℕ) (e : A.references ≡ take used l) (g : length A.nodes ≡ count) (fit : used ≤ length l) where
  listed : length A.references ≡ used
  listed = ap length e ∙ length-take-le used l fit

  pub list_in : (start n : ℕ) → start + n ≤ used → all_below count (take (start + n - start) (drop start l)) ≡ list_right A start n
  unfolding list_right range
  list_in start n h =
      let h' : start + n ≤ length A.references = omega (arith, listed) in
      let z : start + n - start ≡ n = omega arith in
      ap (λ (k : ℕ). all_below count (take k (drop start l))) z
      ∙ sym (rw (le-leb (start + n) (length A.references) h')
      (ap (λ (m : List ℕ). all_below (length A.nodes) (range m start n)) e
      ∙ ap (all_below (length A.nodes)) (range_take l used start n h)
      ∙ λ i. all_below (g i) (range l start n)))

  pub list_out : (start n : ℕ) → used < start + n → false ≡ list_right A start n
  unfolding list_right
  list_out start n h =
      let h' : length A.references < start + n = omega (arith, listed) in
      sym (rw (lt-leb (start + n) (length A.references) h') refl)

  pub pairs_in : (start n : ℕ) → true ≡ list_right A start (n * 2) → start + n * 2 ≤ used → all_names A (firsts (range l start (n * 2))) ≡ pairs_right A start n
  unfolding pairs_right
  pairs_in start n t h =
      sym (ap (λ (m : List ℕ). all_names A (firsts (range m start (n * 2)))) e ∙ ap (λ (m : List ℕ). all_names A (firsts m)) (range_take l used start (n * 2) (omega arith)))
      ∙ and_on _ _ t refl

pub pairs_out : (A : Arena) (start n : ℕ) {r : Bool} → r ≡ false → r ≡ list_right A start (n * 2) → r ≡ pairs_right A start n
unfolding pairs_right
pairs_out A start n f e = and_off _ (all_names A (firsts (range A.references start (n * 2)))) f e

pub vars_none : (A : Arena) (f s n : ℕ) → f ≡ 0 → true ≡ vars_right A (vars f s n)
unfolding vars_right vars
vars_none A f s n e = ap (λ (k : ℕ). vars_right A (vars k s n)) (sym e)

pub vars_some : (A : Arena) (f s n : ℕ) → (f ≡ 0 → ⊥) → pairs_right A s n ≡ vars_right A (vars f s n)
unfolding vars_right vars
vars_some A zero s n e = absurd (e refl)
vars_some A (suc f) s n e = refl

pick_self : (x : Bool) → x ≡ pick x true false
unfolding pick
pick_self true = refl
pick_self false = refl

pub class_none : (A : Arena) (w : ℕ) → w ≡ 0 → true ≡ class_right A w
unfolding class_right all_names optional_node
class_none A w e = ap (class_right A) (sym e)

pub class_some : (A : Arena) (w : ℕ) → (w ≡ 0 → ⊥) → is_name A (w - 1) ≡ class_right A w
unfolding class_right all_names optional_node
class_some A zero e = absurd (e refl)
class_some A (suc c) e = let z : suc c - 1 ≡ c = omega arith in ap (is_name A) z ∙ pick_self (is_name A c)

-- ---- a Bignum's number

module _ {x m : ℕ} (e : x ≡ m) (w : ℕ) where
  pub number_minus : x < 9223372036854775808 → w ≡ 1 → not (eqb x 0) ≡ number_right m (eqb w 1)
  unfolding number_right magnitude_fits
  number_minus l o = sym (rw (← e, lt-ltb x 9223372036854775808 l, o) refl)

  pub number_plus : x < 9223372036854775808 → (w ≡ 1 → ⊥) → true ≡ number_right m (eqb w 1)
  unfolding number_right magnitude_fits
  number_plus l o = sym (rw (← e, lt-ltb x 9223372036854775808 l, ne_eqb w 1 o) refl)

  pub number_past : 9223372036854775808 ≤ x → false ≡ number_right m (eqb w 1)
  unfolding number_right magnitude_fits
  number_past l = sym (rw (← e, le-ltb x 9223372036854775808 l) refl)

-- ---- rows by kind

pub held_count : {A : Arena} {t : Fitted} → Held A t → length A.nodes ≡ t.count
held_count {t = t} H = ap length H.nodes_same ∙ length_rows t.count t.nodes.now

module _ (A : Arena) (a b s n c f w : ℕ) where
  abbrev right : ℕ → Bool
  right k = row_right A (row_of k a b s n c f w)

  -- a byte string alone
  pub right_text : (k : ℕ) → (k ≡ 3) ⊎ (k ≡ 9) → bytes_right A a b ≡ right k
  unfolding row_right row_of pick
  right_text k (inl e) = ap right (sym e)
  right_text k (inr e) = ap right (sym e)

  pub right_4 : (k : ℕ) → k ≡ 4 → (list_right A s n && class_right A w) ≡ right k
  unfolding row_right row_of pick
  right_4 k e = ap right (sym e)

  pub right_5 : (k : ℕ) → k ≡ 5 → (list_right A s (n * 2) && leb f (length A.nodes) && class_right A w) ≡ right k
  unfolding row_right row_of pick
  right_5 k e = ap right (sym e)

  pub right_6 : (k : ℕ) → k ≡ 6 → (is_name A c && pairs_right A s n) ≡ right k
  unfolding row_right row_of pick
  right_6 k e = ap right (sym e)

  pub right_7 : (k : ℕ) → k ≡ 7 → (bytes_right A a b && vars_right A (vars f s n) && class_right A w) ≡ right k
  unfolding row_right row_of pick
  right_7 k e = ap right (sym e)

  pub right_8 : (k : ℕ) → k ≡ 8 → (bytes_right A a b && is_name A c && vars_right A (vars f s n)) ≡ right k
  unfolding row_right row_of pick
  right_8 k e = ap right (sym e)

  pub right_10 : (k : ℕ) → k ≡ 10 → number_right (magnitude a b) (eqb n 1) ≡ right k
  unfolding row_right row_of pick
  right_10 k e = ap right (sym e)

  -- the kinds that have neither ranges nor names
  pub right_else : (k : ℕ) → (k ≡ 3 → ⊥) → (k ≡ 4 → ⊥) → (k ≡ 5 → ⊥) → (k ≡ 6 → ⊥) → (k ≡ 7 → ⊥) → (k ≡ 8 → ⊥) → (k ≡ 9 → ⊥) → (k ≡ 10 → ⊥) → true ≡ right k
  unfolding row_right row_of pick
  right_else k n3 n4 n5 n6 n7 n8 n9 n10 = rw (ne_eqb k 3 n3, ne_eqb k 4 n4, ne_eqb k 5 n5, ne_eqb k 6 n6, ne_eqb k 7 n7, ne_eqb k 8 n8, ne_eqb k 9 n9, ne_eqb k 10 n10) (go (eqb k 1) (eqb k 2))
    where
      go : (x y : Bool) → true ≡ row_right A (pick x (Row.bool (eqb a 1)) (pick y (Row.fixnum a) Row.nil))
      go true y = refl
      go false true = refl
      go false false = refl

-- ---- nodes

eight : (t : List ℕ) → width ≤ length t → take width t ≡ get_or t 0 0 ∷ get_or t 1 0 ∷ get_or t 2 0 ∷ get_or t 3 0 ∷ get_or t 4 0 ∷ get_or t 5 0 ∷ get_or t 6 0 ∷ get_or t 7 0 ∷ []
eight [] h = absurd (omega arith)
eight (a ∷ []) h = absurd (omega arith)
eight (a ∷ b ∷ []) h = absurd (omega arith)
eight (a ∷ b ∷ c ∷ []) h = absurd (omega arith)
eight (a ∷ b ∷ c ∷ d ∷ []) h = absurd (omega arith)
eight (a ∷ b ∷ c ∷ d ∷ e ∷ []) h = absurd (omega arith)
eight (a ∷ b ∷ c ∷ d ∷ e ∷ f ∷ []) h = absurd (omega arith)
eight (a ∷ b ∷ c ∷ d ∷ e ∷ f ∷ g ∷ []) h = absurd (omega arith)
eight (a ∷ b ∷ c ∷ d ∷ e ∷ f ∷ g ∷ w ∷ t) h = refl

-- the eight words of node i
pub node_words : (t : List ℕ) (at : ℕ) → at + width ≤ length t → take width (drop at t) ≡ get_or t at 0 ∷ get_or t (at + START) 0 ∷ get_or t (at + LENGTH) 0 ∷ get_or t (at + LIST) 0 ∷ get_or t (at + COUNT) 0 ∷ get_or t (at + NAME) 0 ∷ get_or t (at + DEFAULT) 0 ∷ get_or t (at + CLASS) 0 ∷ []
node_words t at h =
    let z : at + 0 ≡ at = omega arith in
    eight (drop at t) (rw (length-drop at t) (omega arith))
    ∙ (λ i. (get_or-drop at t 0 0 ∙ ap (λ (k : ℕ). get_or t k 0) z) i ∷ get_or-drop at t 1 0 i ∷ get_or-drop at t 2 0 i ∷ get_or-drop at t 3 0 i ∷ get_or-drop at t 4 0 i ∷ get_or-drop at t 5 0 i ∷ get_or-drop at t 6 0 i ∷ get_or-drop at t 7 0 i ∷ [])

pub node_in : (A : Arena) (ws : List ℕ) (k a b s n c f w : ℕ) → ws ≡ k ∷ a ∷ b ∷ s ∷ n ∷ c ∷ f ∷ w ∷ [] → true ≡ is_row (k ∷ a ∷ b ∷ s ∷ n ∷ c ∷ f ∷ w ∷ []) → row_right A (row_of k a b s n c f w) ≡ node_right A ws
unfolding node_right row
node_in A ws k a b s n c f w e t = ap (λ (x : Bool). x && row_right A (row_of k a b s n c f w)) t ∙ ap (node_right A) (sym e)

pub node_out : (A : Arena) (ws : List ℕ) (k a b s n c f w : ℕ) → ws ≡ k ∷ a ∷ b ∷ s ∷ n ∷ c ∷ f ∷ w ∷ [] → false ≡ is_row (k ∷ a ∷ b ∷ s ∷ n ∷ c ∷ f ∷ w ∷ []) → false ≡ node_right A ws
unfolding node_right row
node_out A ws k a b s n c f w e t = ap (λ (x : Bool). x && row_right A (row_of k a b s n c f w)) t ∙ ap (node_right A) (sym e)

-- an integer's node has neither ranges nor names
pub node_fixnum : (A : Arena) (ws : List ℕ) (k a b s n c f w : ℕ) → ws ≡ k ∷ a ∷ b ∷ s ∷ n ∷ c ∷ f ∷ w ∷ [] → k ≡ 2 → eqb (0 + b + s + n + c + f + w) 0 ≡ node_right A ws
unfolding node_right row row_right row_of pick
node_fixnum A ws k a b s n c f w e q =
    row_2 a b s n c f w
    ∙ sym (and-true (is_row (2 ∷ a ∷ b ∷ s ∷ n ∷ c ∷ f ∷ w ∷ [])))
    ∙ ap (λ (k : ℕ). node_right A (k ∷ a ∷ b ∷ s ∷ n ∷ c ∷ f ∷ w ∷ [])) (sym q)
    ∙ ap (node_right A) (sym e)

-- ---- all nodes

module _ (A : Arena) (t : List ℕ) (n i : ℕ) where
  abbrev left : ℕ → Option Fault
  left k = faulty A (n - k) k (drop (k * width) t)

  begin : i < n → left i ≡ pick (node_right A (take width (drop (i * width) t))) (faulty A (n - (i + 1)) (suc i) (drop width (drop (i * width) t))) (some (Node i))
  unfolding faulty
  begin h = let z : n - i ≡ suc (n - (i + 1)) = omega arith in ap (λ (k : ℕ). faulty A k i (drop (i * width) t)) z

  pub faulty_on : i < n → true ≡ node_right A (take width (drop (i * width) t)) → left i ≡ left (i + 1)
  unfolding pick
  faulty_on h r =
      let z : i * width + width ≡ (i + 1) * width = omega arith in
      begin h
      ∙ ap (λ (b : Bool). pick b (faulty A (n - (i + 1)) (suc i) (drop width (drop (i * width) t))) (some (Node i))) (sym r)
      ∙ (λ j. faulty A (n - (i + 1)) (sym (add-one i) j) ((drop-drop width (i * width) t ∙ ap (λ (k : ℕ). drop k t) z) j))

  pub faulty_here : i < n → false ≡ node_right A (take width (drop (i * width) t)) → some (Node i) ≡ left i
  unfolding pick
  faulty_here h r =
      sym (begin h ∙ ap (λ (b : Bool). pick b (faulty A (n - (i + 1)) (suc i) (drop width (drop (i * width) t))) (some (Node i))) (sym r))

  pub faulty_none : n ≤ i → none ≡ left i
  unfolding faulty
  faulty_none h = let z : n - i ≡ 0 = omega arith in sym (ap (λ (k : ℕ). faulty A k i (drop (i * width) t)) z)

pub faulty_start : (A : Arena) (t : List ℕ) (n : ℕ) → faulty A n 0 t ≡ faulty A (n - 0) 0 (drop (0 * width) t)
faulty_start A t n = ap (λ (k : ℕ). faulty A k 0 t) (omega arith)

-- ---- counts

pub counts_are : (T : Tables) (c : Counts) {n r b : ℕ} → length T.nodes ≡ n → length T.references ≡ r → length T.bytes ≡ b
    → (leb 1 c.nodes && leb c.nodes (n / width) && leb c.references r && leb c.bytes b && ltb c.root c.nodes) ≡ counts_fit T c
unfolding counts_fit
counts_are T c p q s = λ i. leb 1 c.nodes && leb c.nodes (sym p i / width) && leb c.references (sym q i) && leb c.bytes (sym s i) && ltb c.root c.nodes

-- ---- the whole check

pub held : (T : Tables) (c : Counts) (t : Fitted) → t.nodes.now ≡ T.nodes → t.references.now ≡ T.references → t.count ≡ c.nodes → t.used ≡ c.references → t.stored ≡ c.bytes → c.bytes ≤ length T.bytes → Held (arena T c) t
unfolding arena
held T c t p q x y z h = record { nodes_same = λ i. rows (sym x i) (sym p i); references_same = λ i. take (sym y i) (sym q i); bytes_same = length-take-le c.bytes T.bytes h ∙ sym z }

pub fit_if : {n r b : ℕ} {c : Counts} (x : Result (Unit {0}) Fault) → Fits n r b c → FitIf x n r b c
fit_if (Ok u) f = f
fit_if (Err q) f = tt

pub checked_in : (T : Tables) (c : Counts) (o : Option Fault) → true ≡ counts_fit T c → o ≡ faulty (arena T c) c.nodes 0 T.nodes → o ≡ fault T c
unfolding fault fault_if
checked_in T c o t e = e ∙ ap (λ (b : Bool). fault_if b T c) t

pub checked_out : (T : Tables) (c : Counts) → false ≡ counts_fit T c → some BadCounts ≡ fault T c
unfolding fault fault_if
checked_out T c t = ap (λ (b : Bool). fault_if b T c) t

pub not_so : {A : Type 0} → false ≡ true → A
not_so e = absurd (subst T (sym e) tt)
