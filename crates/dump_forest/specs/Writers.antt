-- Laws of the writers that dump is made of.
use Prim.Native.Nat.{ℕ, zero, suc, ◌+◌, ◌-◌, ◌≤◌}
use Rattle.std.specs.Prelude.{◌≡◌, Bool, true, false, ◌≢◌, leb, eqb, length}
use Rattle.std.proofs.Math.Path.{refl}
use Rattle.std.proofs.Common.{ap, sym as psym, ◌∙◌, length-append, arith, eqb-true, eq-eqb, ne_eqb, leb-true, le-leb}
use Rattle.std.proofs.Math.Option.{none, some}
use mathlib.Core.List.{List, [], ◌∷◌, ◌++◌, append_assoc, append-nil}
use Rattle.std.proofs.lemmas.Bool.{eqb-false}
use Rattle.definition.specs.Node.{optional_node}
use Rattle.definition.specs.Run.{Outcome, ok, refused, pure, next, ◌>>=◌, pick}
use Rattle.definition.specs.Integer.{integer_bytes}
use Rattle.definition.specs.Kind.{SYMBOL, SYMBOL_LINK}
use Rattle.definition.specs.Dump.{Written, Writer, ◌>>◌, write, number_in, byte_string_bytes, write_elements, write_default}
use Rattle.definition.specs.Arena.{Arena}
use Rattle.definition.specs.Slice.{OUTPUT}
use Rattle.definition.specs.declared.Refusal.TheVariants.{NoSpace}
use Rattle.lists.specs.Lists.{At, NotIn, Distinct, apart}
use Rattle.graph.specs.Forest.{Num, F, f_end, f_sym, f_symref, OneName, one_new, one_link, Mode, pairs, value_pairs, name_pairs, after, IsValue, Text, t_name, t_name_link, t_class, t_class_link, t_symbol, t_symbol_link}

-- what is numbered when s is written
abbrev pub num : Written → Num
num s = record { objs = s.objects; syms = s.symbols }

abbrev pub put : List ℕ → Written → Written
put bs s = record { bytes = s.bytes ++ bs; symbols = s.symbols; objects = s.objects }

abbrev pub written : List ℕ → Num → Written
written b σ = record { bytes = b; symbols = σ.syms; objects = σ.objs }

-- ---- steps

pub ok_inj : (s s' : Written) → ◌≡◌ {A = Outcome Written (Unit {0})} (ok tt s) (ok tt s') → s ≡ s'
ok_inj s s' e = cc

pub un_then : (m n : Writer) (s s' : Written) → (m >> n) s ≡ ok tt s' → (s₁ : Written) × (m s ≡ ok tt s₁) × (n s₁ ≡ ok tt s')
unfolding ◌>>◌ ◌>>=◌ next
un_then m n s s' e = go (m s) refl e
  where
    go : (o : Outcome Written (Unit {0})) → m s ≡ o → next o (λ _. n) ≡ ok tt s' → (s₁ : Written) × (m s ≡ ok tt s₁) × (n s₁ ≡ ok tt s')
    go (ok a t) h e = (t, h, e)
    go (refused r) h e = apart (cc)

pub then_ok : (m n : Writer) (s s₁ s' : Written) → m s ≡ ok tt s₁ → n s₁ ≡ ok tt s' → (m >> n) s ≡ ok tt s'
unfolding ◌>>◌ ◌>>=◌ next
then_ok m n s s₁ s' p q = rw p q

pub pure_inv : (s s' : Written) → ◌≡◌ {A = Outcome Written (Unit {0})} (pure tt s) (ok tt s') → s ≡ s'
unfolding pure
pure_inv s s' e = ok_inj s s' e

-- ---- write

-- the bytes z were written after b, and the output had room
pub record Wrote (size : ℕ) (b b' z : List ℕ) : Type 0 where
  pub is : b' ≡ b ++ z
  pub fits : length b ≤ size → length b' ≤ size

pub wrote_nothing : (size : ℕ) (b : List ℕ) → Wrote size b b []
wrote_nothing size b = record { is = psym (append-nil b); fits = λ h. h }

pub wrote_then : (size : ℕ) (b b₁ b₂ y z : List ℕ) → Wrote size b b₁ y → Wrote size b₁ b₂ z → Wrote size b b₂ (y ++ z)
wrote_then size b b₁ b₂ y z p q = record {
  is = q.is ∙ ap (λ (l : List ℕ). l ++ z) p.is ∙ append_assoc b y z;
  fits = λ h. q.fits (p.fits h);
}

pub write_inv : (size : ℕ) (bs : List ℕ) (s s' : Written) → write size bs s ≡ ok tt s' → (put bs s ≡ s') × Wrote size s.bytes (s.bytes ++ bs) bs
unfolding write pick
write_inv size bs s s' e = go (leb (length bs) (size - length s.bytes)) refl e
  where
    go : (b : Bool) → leb (length bs) (size - length s.bytes) ≡ b → ◌≡◌ {A = Outcome Written (Unit {0})} (pick b (ok tt (put bs s)) (refused (NoSpace OUTPUT))) (ok tt s')
        → (put bs s ≡ s') × Wrote size s.bytes (s.bytes ++ bs) bs
    go true h e = (ok_inj _ _ e, record { is = refl; fits = λ f. rw (length-append s.bytes bs) (omega (arith, leb-true (length bs) (size - length s.bytes) h)) })
    go false h e = apart (cc)

pub write_ok : (size : ℕ) (bs : List ℕ) (s : Written) → length s.bytes + length bs ≤ size → write size bs s ≡ ok tt (put bs s)
unfolding write pick
write_ok size bs s h = rw (le-leb (length bs) (size - length s.bytes) (omega arith))

-- bytes, then a writer
pub un_write : (size : ℕ) (bs : List ℕ) (n : Writer) (s s' : Written) → (write size bs >> n) s ≡ ok tt s'
    → Wrote size s.bytes (s.bytes ++ bs) bs × (n (put bs s) ≡ ok tt s')
un_write size bs n s s' e =
    let (s₁, e₁, e₂) = un_then (write size bs) n s s' e in
    let (p, w) = write_inv size bs s s₁ e₁ in
    (w, rw p e₂)

-- ---- numbers

pub number_some : (l : List ℕ) (h i k : ℕ) → number_in l h i ≡ some k → (j : ℕ) × (k ≡ i + j) × At l j h
unfolding number_in pick
number_some [] h i k e = apart (cc)
number_some (x ∷ l) h i k e = go (eqb x h) refl e (number_some l h (suc i) k)
  where
    go : (b : Bool) → eqb x h ≡ b → pick b (some i) (number_in l h (suc i)) ≡ some k → (number_in l h (suc i) ≡ some k → (j : ℕ) × (k ≡ suc i + j) × At l j h)
        → (j : ℕ) × (k ≡ i + j) × At (x ∷ l) j h
    go true p e f = let z : i ≡ k = cc in (0, omega arith, ap some (eqb-true x h p))
    go false p e f = let (j, z, a) = f e in (suc j, omega arith, a)

pub number_none : (l : List ℕ) (h i : ℕ) → number_in l h i ≡ none → NotIn h l
unfolding number_in pick
number_none [] h i e k a = apart (cc)
number_none (x ∷ l) h i e k a = go (eqb x h) refl e (number_none l h (suc i)) k a
  where
    go : (b : Bool) → eqb x h ≡ b → pick b (some i) (number_in l h (suc i)) ≡ none → (number_in l h (suc i) ≡ none → NotIn h l) → NotIn h (x ∷ l)
    go true p e f k a = apart (cc)
    go false p e f zero a = eqb-false x h p (cc)
    go false p e f (suc k) a = f e k a

pub notin_number : (l : List ℕ) (h i : ℕ) → NotIn h l → number_in l h i ≡ none
unfolding number_in pick
notin_number [] h i n = refl
notin_number (x ∷ l) h i n = rw (ne_eqb x h (λ q. n 0 (ap some q))) (notin_number l h (suc i) (λ k a. n (suc k) a))

pub at_number : (l : List ℕ) (h i k : ℕ) → Distinct l → At l k h → number_in l h i ≡ some (i + k)
unfolding number_in pick
at_number [] h i k d a = apart (cc)
at_number (x ∷ l) h i zero d a =
    let z : x ≡ h = cc in
    let q : i + 0 ≡ i = omega arith in
    rw (z, eq-eqb h h refl, q)
at_number (x ∷ l) h i (suc k) d a =
    let ne : x ≢ h = λ q. omega (arith, d 0 (suc k) h (ap some q) a) in
    let q : i + suc k ≡ suc i + k = omega arith in
    rw (ne_eqb x h ne, q) (at_number l h (suc i) k (λ j j' v p p'. omega (arith, d (suc j) (suc j') v p p')) a)

-- ---- a symbol as it is written: new with its name, or a link

pub data Item : Type 0 where
  new : List ℕ → Item
  again : ℕ → Item

abbrev pub item_bytes : Item → List ℕ
item_bytes (new b) = SYMBOL ∷ byte_string_bytes b
item_bytes (again k) = SYMBOL_LINK ∷ integer_bytes k

abbrev pub item : Bool → Item → F → F
item m (new b) r = f_sym m b r
item m (again k) r = f_symref m k r

pub item_name : (i : Item) {l n : ℕ} {x : List ℕ} {r : F} → Text (value_pairs n) l r x → Text (pairs (suc n)) l (item false i r) (item_bytes i ++ x)
item_name (new b) t = t_name t
item_name (again k) t = t_name_link t

pub item_one : (i : Item) → OneName (item false i f_end) (item_bytes i)
item_one (new b) = one_new
item_one (again k) = one_link

pub item_class : (i : Item) {l n : ℕ} {x : List ℕ} {r : F} → Text (pairs n) l r x → Text (name_pairs n) l (item false i r) (item_bytes i ++ integer_bytes n ++ x)
item_class (new b) t = t_class t
item_class (again k) t = t_class_link t

pub item_value : (i : Item) {m : Mode} {l : ℕ} {x : List ℕ} {r : F} → IsValue m → Text (after m) (suc l) r x → Text m (suc l) (item true i r) (item_bytes i ++ x)
item_value (new b) v t = t_symbol v t
item_value (again k) v t = t_symbol_link v t

-- ---- members

pub elements_cons : (inner : ℕ → Writer) (v : ℕ) (vs : List ℕ) (s s₁ s' : Written) → inner v s ≡ ok tt s₁ → write_elements inner vs s₁ ≡ ok tt s' → write_elements inner (v ∷ vs) s ≡ ok tt s'
unfolding write_elements
elements_cons inner v vs s s₁ s' p q = then_ok (inner v) (write_elements inner vs) s s₁ s' p q

-- a default is one member more
module _ (size : ℕ) (A : Arena) (inner : ℕ → Writer) where
  pub join_default : (l : List ℕ) (d : ℕ) (s s₁ s' : Written) → write_elements inner l s ≡ ok tt s₁ → write_default size A inner d s₁ ≡ ok tt s'
      → write_elements inner (l ++ optional_node d) s ≡ ok tt s'
  unfolding write_elements write_default optional_node pure
  join_default [] zero s s₁ s' p q = p ∙ q
  join_default [] (suc d) s s₁ s' p q = elements_cons inner d [] s s' s' (let z : s ≡ s₁ = ok_inj s s₁ p in rw z q) refl
  join_default (v ∷ l) d s s₁ s' p q =
      let (s₂, e₁, e₂) = un_then (inner v) (write_elements inner l) s s₁ p in
      elements_cons inner v (l ++ optional_node d) s s₂ s' e₁ (join_default l d s₂ s₁ s' e₂ q)

  pub part_default : (l : List ℕ) (d : ℕ) (s s' : Written) → write_elements inner (l ++ optional_node d) s ≡ ok tt s'
      → (s₁ : Written) × (write_elements inner l s ≡ ok tt s₁) × (write_default size A inner d s₁ ≡ ok tt s')
  unfolding write_elements write_default optional_node pure
  part_default [] zero s s' p = (s, refl, p)
  part_default [] (suc d) s s' p =
      let (s₁, e₁, e₂) = un_then (inner d) (write_elements inner []) s s' p in
      (s, refl, e₁ ∙ e₂)
  part_default (v ∷ l) d s s' p =
      let (s₂, e₁, e₂) = un_then (inner v) (write_elements inner (l ++ optional_node d)) s s' p in
      let (s₁, e₃, e₄) = part_default l d s₂ s' e₂ in
      (s₁, elements_cons inner v l s s₂ s₁ e₁ e₃, e₄)
