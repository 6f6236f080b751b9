-- Eight words as a row, by word 0.
use Rattle.std.specs.Prelude.{ℕ, zero, suc, ◌≤◌, ◌<◌, ◌≡◌, Bool, true, false, leb, eqb}
use Rattle.std.proofs.Common.{arith, sym, ◌∙◌}
use Rattle.std.proofs.Math.Path.{refl, ap}
use borrow.Author.Tests.{ne_eqb, leb-true, leb-false}
use Rattle.definition.specs.Run.{pick}
use Rattle.definition.specs.Node.{nil, bool, fixnum, symbol, array, hash, object, string, user, float, bignum, kind, row_of, vars}

module _ (k a b s n c f w : ℕ) where
  -- the row of each kind
  pub row_0 : k ≡ 0 → row_of k a b s n c f w ≡ nil
  unfolding row_of pick
  row_0 e = rw e refl

  pub row_1 : k ≡ 1 → row_of k a b s n c f w ≡ bool (eqb a 1)
  unfolding row_of pick
  row_1 e = rw e refl

  pub row_2 : k ≡ 2 → row_of k a b s n c f w ≡ fixnum a
  unfolding row_of pick
  row_2 e = rw e refl

  pub row_3 : k ≡ 3 → row_of k a b s n c f w ≡ symbol a b
  unfolding row_of pick
  row_3 e = rw e refl

  pub row_4 : k ≡ 4 → row_of k a b s n c f w ≡ array s n w
  unfolding row_of pick
  row_4 e = rw e refl

  pub row_5 : k ≡ 5 → row_of k a b s n c f w ≡ hash s n f w
  unfolding row_of pick
  row_5 e = rw e refl

  pub row_6 : k ≡ 6 → row_of k a b s n c f w ≡ object s n c
  unfolding row_of pick
  row_6 e = rw e refl

  pub row_7 : k ≡ 7 → row_of k a b s n c f w ≡ string a b (vars f s n) w
  unfolding row_of pick
  row_7 e = rw e refl

  pub row_8 : k ≡ 8 → row_of k a b s n c f w ≡ user a b c (vars f s n)
  unfolding row_of pick
  row_8 e = rw e refl

  pub row_9 : k ≡ 9 → row_of k a b s n c f w ≡ float a b
  unfolding row_of pick
  row_9 e = rw e refl

  pub row_10 : k ≡ 10 → row_of k a b s n c f w ≡ bignum a b (eqb n 1)
  unfolding row_of pick
  row_10 e = rw e refl

  -- past 10 it is nil
  row_past : 10 < k → row_of k a b s n c f w ≡ nil
  unfolding row_of pick
  row_past l = simp (ne_eqb k 1 (omega arith), ne_eqb k 2 (omega arith), ne_eqb k 3 (omega arith), ne_eqb k 4 (omega arith), ne_eqb k 5 (omega arith), ne_eqb k 6 (omega arith), ne_eqb k 7 (omega arith), ne_eqb k 8 (omega arith), ne_eqb k 9 (omega arith), ne_eqb k 10 (omega arith))

  kind_past : 10 < k → kind (row_of k a b s n c f w) ≡ 0
  unfolding kind
  kind_past l = ap kind (row_past l)

pub kind_of : (k a b s n c f w : ℕ) → k ≤ 10 → kind (row_of k a b s n c f w) ≡ k
unfolding row_of pick kind
kind_of zero a b s n c f w h = refl
kind_of (suc zero) a b s n c f w h = refl
kind_of (suc (suc zero)) a b s n c f w h = refl
kind_of (suc (suc (suc zero))) a b s n c f w h = refl
kind_of (suc (suc (suc (suc zero)))) a b s n c f w h = refl
kind_of (suc (suc (suc (suc (suc zero))))) a b s n c f w h = refl
kind_of (suc (suc (suc (suc (suc (suc zero)))))) a b s n c f w h = refl
kind_of (suc (suc (suc (suc (suc (suc (suc zero))))))) a b s n c f w h = refl
kind_of (suc (suc (suc (suc (suc (suc (suc (suc zero)))))))) a b s n c f w h = refl
kind_of (suc (suc (suc (suc (suc (suc (suc (suc (suc zero))))))))) a b s n c f w h = refl
kind_of (suc (suc (suc (suc (suc (suc (suc (suc (suc (suc zero)))))))))) a b s n c f w h = refl
kind_of (suc (suc (suc (suc (suc (suc (suc (suc (suc (suc (suc j))))))))))) a b s n c f w h = absurd (omega arith)

-- a bound that is not reached is one lower
below_next : (k n : ℕ) → k ≤ suc n → (k ≡ suc n → ⊥) → k ≤ n
below_next k n h e = omega arith

module _ (k a b s n c f w : ℕ) where
  -- up to 10 the kind is word 0
  pub kind_is : (x : ℕ) → kind (row_of k a b s n c f w) ≡ x → 0 < x → k ≡ x
  kind_is x e h = go (leb k 10) refl
    where
      go : (t : Bool) → leb k 10 ≡ t → k ≡ x
      go true q = sym (kind_of k a b s n c f w (leb-true k 10 q)) ∙ e
      go false q = absurd (omega (arith, kind_past k a b s n c f w (leb-false k 10 q)))

  -- a kind that is none of 4 to 10
  pub kind_low : (k ≡ 4 → ⊥) → (k ≡ 5 → ⊥) → (k ≡ 6 → ⊥) → (k ≡ 7 → ⊥) → (k ≡ 8 → ⊥) → (k ≡ 9 → ⊥) → (k ≡ 10 → ⊥) → kind (row_of k a b s n c f w) ≤ 3
  kind_low n4 n5 n6 n7 n8 n9 n10 = go (leb k 10) refl
    where
      low : {x : ℕ} → x ≡ 0 → x ≤ 3
      low e = rw e (omega arith)

      go : (t : Bool) → leb k 10 ≡ t → kind (row_of k a b s n c f w) ≤ 3
      go true q =
          rw (kind_of k a b s n c f w (leb-true k 10 q))
          (below_next k 3 (below_next k 4 (below_next k 5 (below_next k 6 (below_next k 7 (below_next k 8 (below_next k 9 (leb-true k 10 q) n10) n9) n8) n7) n6) n5) n4)
      go false q = low (kind_past k a b s n c f w (leb-false k 10 q))

  pub row_nil : (k ≡ 1 → ⊥) → (k ≡ 2 → ⊥) → (k ≡ 3 → ⊥) → kind (row_of k a b s n c f w) ≤ 3 → row_of k a b s n c f w ≡ nil
  row_nil n1 n2 n3 h = go (leb k 10) refl
    where
      go : (t : Bool) → leb k 10 ≡ t → row_of k a b s n c f w ≡ nil
      go true q = row_0 k a b s n c f w (omega (arith, kind_of k a b s n c f w (leb-true k 10 q)))
      go false q = row_past k a b s n c f w (leb-false k 10 q)
