-- A node's reading by the words that it has in the table, and what a well-formed arena says of them.
use Prim.Native.Nat.{ℕ, ◌+◌, ◌*◌, ◌≤◌, ◌<◌}
use native.Mathlib.Omega.{arith}
use mathlib.Core.Path.{◌≡◌, refl, sym, ap, ◌∙◌}
use mathlib.Core.Bool.{Bool, true, false}
use mathlib.Core.List.{List, []}
use mathlib.Core.Option.{some}
use lib.Dec.{eqb}
use lib.ListN.{length, get_or, take}
use borrow.Author.Tests.{ne_eqb}
use Rattle.definition.specs.Run.{ok, pick}
use Rattle.definition.specs.Refused.{signed}
use Rattle.definition.specs.Node.{Row, fixnum, float, row, row_of, width, START, LENGTH, LIST, COUNT, NAME, DEFAULT, CLASS, kind, words}
use Rattle.definition.specs.Arena.{arena, node, range}
use Rattle.definition.specs.Build.{Lent, held, words_at, check}
use Rattle.definition.specs.Weight.{decimal, text_reading, row_reading}
use Rattle.definition.specs.declared.Reading.TheVariants.{Whole, NotANumber}
use Rattle.lists.specs.Tables.{rows_at, words_said}
use Rattle.well_formed.specs.Nodes.{at_node}
use Rattle.well_formed.specs.Right as R
use Rattle.well_formed.specs.Checks.{checked}
use Rattle.arena_check.proofs.Rights.{range_take}
use Rattle.weight.specs.Tables.{Inside, Has}

-- whichever is picked
either : (bs : List ℕ) (b : Bool) (x y : Row) → row_reading bs x ≡ NotANumber → row_reading bs y ≡ NotANumber → row_reading bs (pick b x y) ≡ NotANumber
unfolding pick
either bs true x y p q = p
either bs false x y p q = q

-- the second, where the test fails
second : (bs : List ℕ) (b : Bool) (x y : Row) → b ≡ false → row_reading bs y ≡ NotANumber → row_reading bs (pick b x y) ≡ NotANumber
unfolding pick
second bs b x y e p = ap (λ (c : Bool). row_reading bs (pick c x y)) e ∙ p

module _ (t : List ℕ) (h : ℕ) where
  abbrev at : ℕ → ℕ
  at k = get_or t (h * width + k) 0

  abbrev first : ℕ
  first = get_or t (h * width) 0

  said : row (words_at t h) ≡ row_of first (at START) (at LENGTH) (at LIST) (at COUNT) (at NAME) (at DEFAULT) (at CLASS)
  unfolding words_at
  said = words_said t h

  is_fixnum : first ≡ 2 → row (words_at t h) ≡ fixnum (at START)
  unfolding row_of pick
  is_fixnum e = said ∙ ap (λ (k : ℕ). row_of k (at START) (at LENGTH) (at LIST) (at COUNT) (at NAME) (at DEFAULT) (at CLASS)) e

  is_float : first ≡ 9 → row (words_at t h) ≡ float (at START) (at LENGTH)
  unfolding row_of pick
  is_float e = said ∙ ap (λ (k : ℕ). row_of k (at START) (at LENGTH) (at LIST) (at COUNT) (at NAME) (at DEFAULT) (at CLASS)) e

  pub reads_whole : (bs : List ℕ) → first ≡ 2 → Whole (signed (at START)) ≡ row_reading bs (row (words_at t h))
  unfolding row_reading kind words pick
  reads_whole bs e = sym (ap (row_reading bs) (is_fixnum e))

  pub reads_text : (bytes : List ℕ) (stored : ℕ) → first ≡ 9 → at START + at LENGTH ≤ stored → text_reading (decimal (range bytes (at START) (at LENGTH))) ≡ row_reading (take stored bytes) (row (words_at t h))
  unfolding row_reading kind words pick
  reads_text bytes stored e i = ap (λ (x : List ℕ). text_reading (decimal x)) (sym (range_take bytes stored (at START) (at LENGTH) i)) ∙ sym (ap (row_reading (take stored bytes)) (is_float e))

  pub reads_other : (bs : List ℕ) → (first ≡ 2 → ⊥) → (first ≡ 9 → ⊥) → NotANumber ≡ row_reading bs (row (words_at t h))
  unfolding row_of row_reading kind words pick
  reads_other bs n m =
      let k = first in
      let e : row_reading bs (row_of k (at START) (at LENGTH) (at LIST) (at COUNT) (at NAME) (at DEFAULT) (at CLASS)) ≡ NotANumber =
      either bs (eqb k 1) _ _ refl
      (second bs (eqb k 2) _ _ (ne_eqb k 2 n)
      (either bs (eqb k 3) _ _ refl
      (either bs (eqb k 4) _ _ refl
      (either bs (eqb k 5) _ _ refl
      (either bs (eqb k 6) _ _ refl
      (either bs (eqb k 7) _ _ refl
      (either bs (eqb k 8) _ _ refl
      (second bs (eqb k 9) _ _ (ne_eqb k 9 m)
      (either bs (eqb k 10) _ _ refl refl)))))))))
      in
      sym (ap (row_reading bs) said ∙ e)

-- ---- in an arena that was checked

module _ (L : Lent) (h : ℕ) (e : check [] L ≡ ok tt L) (l : h < L.counts.nodes) where
  fit : R.Fit L.tables L.counts
  fit = R.fault_fit L.tables L.counts (checked [] L L tt e).0

  node_is : node (held L) h ≡ row (words_at L.tables.nodes h)
  unfolding node arena words_at
  node_is = rows_at L.counts.nodes L.tables.nodes h l

  inside : h * width + width ≤ length L.tables.nodes
  inside = omega (arith, l, fit.nodes_fit)

  pub is_inside : Inside L.tables.nodes L.tables.bytes L.counts.bytes h
  is_inside = (
    inside,
    λ k. omega (arith, (R.fault_right L.tables L.counts (checked [] L L tt e).0).rows_right h (float _ _) (at_node (held L) h (omega (arith, l, fit.nodes)) ∙ ap some (node_is ∙ is_float L.tables.nodes h k)), fit.bytes),
    fit.bytes_fit,
  )

  pub has_it : Has L L.tables.nodes L.tables.bytes L.counts.bytes h
  unfolding arena
  has_it = (refl, node_is)
