-- Load at an offset: of the input the whole length is tested, and what stands at the offset is loaded.
use Rattle.std.specs.Prelude.{ℕ, zero, suc, ◌≤◌, ◌<◌, true, false, List, ◌≡◌, refl, length, drop}
use Rattle.std.proofs.Common.{arith, sym, ap, ◌∙◌, length-drop, le-ltb, lt-ltb}
use Rattle.definition.specs.Slice.{greatest_length}
use Rattle.definition.specs.Arena.{too_long}
use Rattle.definition.specs.Load.{Lists, load_wrong, load_if, load_call}
use Rattle.definition.specs.Reader.{load_next}
use Rattle.lists.specs.Lists.{apart}
use Rattle.lists.specs.Slices.{lowest_none}

-- the test of what is lent asks only whether the input is too long
pub wrong_same : (x y : List ℕ) (T : Lists) (limit : ℕ) → length x ≤ greatest_length → length y ≤ greatest_length → load_wrong x T limit ≡ load_wrong y T limit
unfolding load_wrong too_long
wrong_same x y T limit h k = rw (le-ltb greatest_length (length x) h, le-ltb greatest_length (length y) k)

-- an input that is too long is always wrong
wrong_some : (input : List ℕ) (T : Lists) (limit : ℕ) → greatest_length < length input → load_wrong input T limit ≡ 0 → ⊥
unfolding load_wrong too_long
wrong_some input T limit h e =
    let e1 = (lowest_none _ _ _ e).1 in
    let e2 = (lowest_none _ _ _ e1).1 in
    let e3 = (lowest_none _ _ _ e2).1 in
    let e4 = (lowest_none _ _ _ e3).1 in
    let e5 = (lowest_none _ _ _ e4).1 in
    let e6 = (lowest_none _ _ _ e5).1 in
    let z : true ≡ false = sym (lt-ltb greatest_length (length input) h) ∙ (lowest_none _ _ _ e6).0 in
    apart (cc)

-- of an input that is not too long, what stands at the offset is loaded
pub next_allowed : (input : List ℕ) (at : ℕ) (T : Lists) (limit : ℕ) → length input ≤ greatest_length → load_next input at T limit ≡ load_call (drop at input) T limit
unfolding load_call
next_allowed input at T limit h = ap (λ (n : ℕ). load_if n (drop at input) T limit) (wrong_same input (drop at input) T limit h (omega (arith, length-drop at input)))

-- another is refused as by load, wherever the offset is
pub next_denied : (input : List ℕ) (at : ℕ) (T : Lists) (limit : ℕ) → greatest_length < length input → load_next input at T limit ≡ load_call input T limit
unfolding load_call load_if
next_denied input at T limit h = by (load_wrong input T limit) (wrong_some input T limit h)
  where
    by : (n : ℕ) → (n ≡ 0 → ⊥) → load_if n (drop at input) T limit ≡ load_if n input T limit
    by zero ne = absurd (ne refl)
    by (suc slice) ne = refl
