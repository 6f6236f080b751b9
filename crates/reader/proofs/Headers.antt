-- The header at an offset.
use Prim.Native.Nat.{ℕ, ◌+◌, ◌-◌, ◌≤◌, ◌<◌}
use native.Mathlib.Omega.{arith}
use mathlib.Core.Path.{◌≡◌, refl, sym, ap, ◌∙◌}
use mathlib.Core.Bool.{Bool, true, false, ◌&&◌}
use mathlib.Core.List.{List}
use lib.Dec.{eqb, leb, ltb}
use lib.ListN.{length, get_or}
use borrow.Author.Tests.{lt-ltb, le-ltb, lt-leb, le-leb, eq-eqb, ne_eqb}
use Rattle.definition.specs.Run.{ok, refused, refuse, pick, next, ◌>>=◌}
use Rattle.definition.specs.State.{State, at_set, noted}
use Rattle.definition.specs.Load.{note, read_byte, read_header}
use Rattle.definition.specs.declared.Refusal.TheVariants.{ShortInput, InvalidVersion}
use Rattle.reader.specs.Answers.{refusal_at, at_short}

and_false : (t : Bool) → (t && false) ≡ false
and_false true = refl
and_false false = refl

module _ (input : List ℕ) (at : ℕ) where
  both : at + 2 ≤ length input → (s : State) → s.at ≡ at → read_header input s ≡ pick (eqb (get_or input at 0) 4 && leb (get_or input (at + 1) 0) 8) (note (eqb (get_or input (at + 1) 0) 8)) (refuse (InvalidVersion (get_or input at 0) (get_or input (at + 1) 0))) (at_set (at + 2) s)
  unfolding read_header read_byte ◌>>=◌ next pick
  both h s e =
      let l : at < length input = omega arith in
      let m : at + 1 < length input = omega arith in
      let f : at + 1 + 1 ≡ at + 2 = omega arith in
      simp (e, lt-ltb _ _ l, lt-ltb _ _ m, f)

  pub short : length input - at < 2 → (limit : ℕ) (s : State) → s.at ≡ at → read_header input s ≡ refused (refusal_at limit 17179869184)
  unfolding read_header read_byte ◌>>=◌ next pick
  short h limit s e = go (ltb at (length input)) refl ∙ ap refused (sym (at_short limit))
    where
      go : (t : Bool) → ltb at (length input) ≡ t → read_header input s ≡ refused ShortInput
      go true q =
          let m : length input ≤ at + 1 = omega (arith, h) in
          simp (e, q, le-ltb _ _ m)
      go false q = simp (e, q)

  pub good : at + 2 ≤ length input → get_or input at 0 ≡ 4 → get_or input (at + 1) 0 ≤ 8 → {t : Bool} → t ≡ eqb (get_or input (at + 1) 0) 8 → (s : State) → s.at ≡ at → read_header input s ≡ ok tt (noted t (at_set (at + 2) s))
  unfolding pick note
  good h x y q s e = both h s e ∙ rw q (simp (eq-eqb _ _ x, le-leb _ _ y))

  module _ {major minor : ℕ} (code : ℕ) (h : at + 2 ≤ length input) (p : major ≡ get_or input at 0) (q : minor ≡ get_or input (at + 1) 0) (z : (limit : ℕ) → refusal_at limit code ≡ InvalidVersion major minor) where
    bad : (eqb major 4 && leb minor 8) ≡ false → (limit : ℕ) (s : State) → s.at ≡ at → read_header input s ≡ refused (refusal_at limit code)
    unfolding pick refuse
    bad t limit s e = both h s e ∙ rw (← p, ← q) (simp t (sym (ap refused (z limit))))

    pub bad_major : (major ≡ 4 → ⊥) → (limit : ℕ) (s : State) → s.at ≡ at → read_header input s ≡ refused (refusal_at limit code)
    bad_major n = bad (ap (λ (t : Bool). t && leb minor 8) (ne_eqb major 4 n))

    pub bad_minor : 8 < minor → (limit : ℕ) (s : State) → s.at ≡ at → read_header input s ≡ refused (refusal_at limit code)
    bad_minor n = bad (ap (λ (t : Bool). eqb major 4 && t) (lt-leb minor 8 n) ∙ and_false (eqb major 4))
