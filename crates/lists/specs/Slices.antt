-- BAD-TABLES: the tests of lent slices, in the order of their numbers.
use Rattle.std.specs.Prelude.{ℕ, suc, ◌*◌, ◌/◌, ◌%◌, ◌≤◌, Bool, true, false, not, ◌||◌, List, [], ◌∷◌, ◌≢◌, ◌≡◌, refl, eqb}
use Rattle.std.proofs.Common.{arith, sym, ◌∙◌, ltb-false, eqb-true}
use Rattle.std.proofs.lemmas.Bool.{eqb-false, not-false}
use Rattle.definition.specs.Run.{pick}
use Rattle.definition.specs.Node.{width}
use Rattle.definition.specs.Arena.{too_long, bad_nodes, lowest}
use Rattle.definition.specs.Slice.{BYTES, NODES, REFERENCES, greatest_length}
use Rattle.lists.specs.Joined.{or_none}

-- ---- the number of the lowest wrong slice

-- no slice
pub no_slice : 0 ≡ lowest []
unfolding lowest
no_slice = refl

-- slice k, whose test is b, before the others
pub slice : (k : ℕ) (ts : List (ℕ × Bool)) {x y : ℕ} {t b : Bool} → x ≡ pick t k y → t ≡ b → y ≡ lowest ts → x ≡ lowest ((k, b) ∷ ts)
unfolding lowest
slice k ts e f g = e ∙ λ i. pick (f i) k (g i)

-- ---- where no slice is wrong

pub lowest_none : (k : ℕ) (b : Bool) (ts : List (ℕ × Bool)) → lowest ((suc k, b) ∷ ts) ≡ 0 → (b ≡ false) × (lowest ts ≡ 0)
unfolding lowest pick
lowest_none k false ts e = (refl, e)
lowest_none k true ts e = absurd (omega arith)

pub short : (n : ℕ) → too_long n ≡ false → n ≤ greatest_length
unfolding too_long
short n e = ltb-false greatest_length n e

pub whole_pairs : (n : ℕ) → too_long n || not (eqb (n % 2) 0) ≡ false → n / 2 * 2 ≡ n
whole_pairs n e =
    let z : n % 2 ≡ 0 = eqb-true (n % 2) 0 (not-false _ (or_none (too_long n) _ e).1) in
    omega arith

nodes_right : (n : ℕ) → bad_nodes n ≡ false → (n ≤ greatest_length) × (n ≢ 0) × (n % width ≡ 0)
unfolding bad_nodes
nodes_right n e =
    let (x, y) = or_none _ _ e in
    let (u, v) = or_none _ _ x in
    (short n u, eqb-false n 0 v, eqb-true (n % width) 0 (not-false _ y))

-- ---- the three tables, and then other slices

abbrev pub with_tables : ℕ → ℕ → ℕ → List (ℕ × Bool) → List (ℕ × Bool)
with_tables nodes references bytes ts = (NODES, bad_nodes nodes) ∷ (REFERENCES, too_long references) ∷ (BYTES, too_long bytes) ∷ ts

-- lengths of tables that are right: whole nodes, at least one, and none too long
pub record Small (nodes references bytes : ℕ) : Type 0 where
  pub whole : nodes / width * width ≡ nodes
  pub one : 1 ≤ nodes / width
  pub nodes_small : nodes ≤ greatest_length
  pub references_small : references ≤ greatest_length
  pub bytes_small : bytes ≤ greatest_length

pub tables_right : (n r b : ℕ) (ts : List (ℕ × Bool)) → lowest (with_tables n r b ts) ≡ 0 → Small n r b × (lowest ts ≡ 0)
tables_right n r b ts e =
    let (b₁, e₁) = lowest_none 0 _ _ e in
    let (b₂, e₂) = lowest_none 1 _ _ e₁ in
    let (b₃, e₃) = lowest_none 2 _ _ e₂ in
    let (most, some, whole) = nodes_right n b₁ in
    (record { whole = omega arith; one = omega (arith, some); nodes_small = most; references_small = short r b₂; bytes_small = short b b₃ }, e₃)

-- x is the lowest wrong of the tables, or else what other slices give
abbrev pub Named : ℕ → ℕ → ℕ → ℕ → ℕ → Type 0
Named nodes references bytes more x = (ts : List (ℕ × Bool)) → more ≡ lowest ts → x ≡ lowest (with_tables nodes references bytes ts)

pub tables_named : (n r b : ℕ) {more x : ℕ} → Named n r b more x → Named n r b more x × (x ≡ 0 → Small n r b × (more ≡ 0))
unfolding lowest pick
tables_named n r b {more} e = let ts : List (ℕ × Bool) = (more, true) ∷ [] in (e, λ z. tables_right n r b ts (sym (e ts refl) ∙ z))
