-- The slices besides the tables that builders take.
use Prim.Native.Nat.{ℕ, ◌*◌, ◌/◌, ◌%◌}
use mathlib.Core.Bool.{Bool, not, ◌||◌}
use mathlib.Core.List.{List, [], ◌∷◌}
use mathlib.Core.Path.{◌≡◌, sym, ap, ◌∙◌}
use lib.Dec.{eqb}
use lib.ListN.{length}
use Rattle.definition.specs.Run.{pick}
use Rattle.definition.specs.Arena.{too_long, lowest}
use Rattle.definition.specs.Build.{byte_slice, member_slice, pair_slice}
use Rattle.definition.specs.Slice.{INPUT, MEMBERS}
use Rattle.lists.specs.Slices.{no_slice, slice, lowest_none, whole_pairs}

abbrev pub odd : ℕ → Bool
odd n = too_long n || not (eqb (n % 2) 0)

module _ (n : ℕ) {r : ℕ} {t : Bool} (q : t ≡ too_long n) where
  pub bytes_named : r ≡ pick t 8 0 → (bs : List ℕ) → length bs ≡ n → lowest (byte_slice bs ∷ []) ≡ r
  unfolding byte_slice
  bytes_named p bs e = sym (slice INPUT [] p (q ∙ ap too_long (sym e)) no_slice)

  pub members_named : r ≡ pick t 9 0 → (ms : List ℕ) → length ms ≡ n → lowest (member_slice ms ∷ []) ≡ r
  unfolding member_slice
  members_named p ms e = sym (slice MEMBERS [] p (q ∙ ap too_long (sym e)) no_slice)

pub pairs_named : (n : ℕ) {r : ℕ} {t : Bool} → t ≡ odd n → r ≡ pick t 9 0 → ((ps : List ℕ) → length ps ≡ n → lowest (pair_slice ps ∷ []) ≡ r) × (r ≡ 0 → n / 2 * 2 ≡ n)
unfolding pair_slice
pairs_named n {r = r} q p =
    let x : r ≡ lowest ((MEMBERS, odd n) ∷ []) = slice MEMBERS [] p q no_slice in
    (λ ps e. ap (λ (k : ℕ). lowest ((MEMBERS, odd k) ∷ [])) e ∙ sym x, λ z. whole_pairs n (lowest_none 8 _ _ (sym x ∙ z)).0)
