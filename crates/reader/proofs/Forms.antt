-- Is an integer in the form that dump writes? By its first byte and the range of its 32 bits.
use Prim.Native.Nat.{ℕ, zero, suc, ◌+◌, ◌-◌, ◌%◌, ◌^◌, ◌≤◌, ◌<◌}
use native.Mathlib.Omega.{arith}
use mathlib.Core.Bool.{Bool, true, false}
use mathlib.Core.Path.{◌≡◌, refl, sym, ap, ◌∙◌}
use mathlib.Core.List.{List, [], ◌∷◌}
use lib.Dec.{leb}
use lib.ListN.{take}
use borrow.Author.Tests.{leb-true, leb-false}
use Rattle.definition.specs.Run.{pick}
use Rattle.definition.specs.Integer.{Form, value, data_bytes, form, little, low_bytes, fewest, integer_bytes}
use Rattle.definition.specs.Node.{equal}
use Rattle.lists.specs.Integers.{fewest_most, fewest_some, fewest_within, fewest_beyond, bytes_zero, bytes_small, bytes_last, large_as, negative_as, same_form, other_form, few_negative, many_positive}
use Rattle.reader.specs.Integers.{size_of, word_of, data_of, as_dumped, least, of_zero, of_few, of_plus, of_minus, of_251, of_many}

-- ---- the data bytes as the low bytes of the word

pub data_value : (rest : List ℕ) {f : Form} {w : ℕ} (r : ℕ) → f ≡ value w → data_of rest f ≡ low_bytes (size_of f - 1) r
unfolding data_of size_of low_bytes
data_value rest r e = rw e refl

pub data_data : (rest : List ℕ) {f : Form} {n above : ℕ} (r : ℕ) → f ≡ data_bytes n above → take n rest ≡ low_bytes n r → data_of rest f ≡ low_bytes (size_of f - 1) r
unfolding data_of size_of
data_data rest {n = n} r e q =
    let k : n ≡ suc n - 1 = omega arith in
    rw e (q ∙ ap (λ (x : ℕ). low_bytes x r) k)

-- ---- first bytes 1 to 4 and 252 to 255

-- what is in form
few_is : (b w : ℕ) → 1 ≤ b → b ≤ 4 → w ≡ little (low_bytes b w) 0 → w < 2147483648 → least b ≤ w → integer_bytes w ≡ b ∷ low_bytes b w
unfolding little low_bytes least pick
few_is zero w h k e u l = absurd (omega (arith, h))
few_is (suc zero) w h k e u l = large_as w 1 1 (omega arith) u (omega (arith, fewest_some w (omega arith) (omega arith), fewest_within w 1 (omega arith) (omega arith) (omega arith))) refl
few_is (suc (suc zero)) w h k e u l = large_as w 2 2 (omega arith) u (omega (arith, fewest_beyond w 1 (omega arith) (omega arith) (omega arith), fewest_within w 2 (omega arith) (omega arith) (omega arith))) refl
few_is (suc (suc (suc zero))) w h k e u l = large_as w 3 3 (omega arith) u (omega (arith, fewest_beyond w 2 (omega arith) (omega arith) (omega arith), fewest_within w 3 (omega arith) (omega arith) (omega arith))) refl
few_is (suc (suc (suc (suc zero)))) w h k e u l = large_as w 4 4 (omega arith) u (omega (arith, fewest_beyond w 3 (omega arith) (omega arith) (omega arith), fewest_most w)) refl
few_is (suc (suc (suc (suc (suc b))))) w h k e u l = absurd (omega (arith, k))

many_is : (n w : ℕ) → 1 ≤ n → n ≤ 4 → w ≡ little (low_bytes n w) (256 ^ (4 - n) - 1) → 2147483648 ≤ w → least n ≤ 4294967295 - w → integer_bytes w ≡ (256 - n) ∷ low_bytes n w
unfolding little low_bytes least pick
many_is zero w h k e u l = absurd (omega (arith, h))
many_is (suc zero) w h k e u l = let v = 4294967295 - w in negative_as w 1 1 u (omega arith) (omega (arith, fewest_some v (omega arith) (omega arith), fewest_within v 1 (omega arith) (omega arith) (omega arith))) refl
many_is (suc (suc zero)) w h k e u l = let v = 4294967295 - w in negative_as w 2 2 u (omega arith) (omega (arith, fewest_beyond v 1 (omega arith) (omega arith) (omega arith), fewest_within v 2 (omega arith) (omega arith) (omega arith))) refl
many_is (suc (suc (suc zero))) w h k e u l = let v = 4294967295 - w in negative_as w 3 3 u (omega arith) (omega (arith, fewest_beyond v 2 (omega arith) (omega arith) (omega arith), fewest_within v 3 (omega arith) (omega arith) (omega arith))) refl
many_is (suc (suc (suc (suc zero)))) w h k e u l = let v = 4294967295 - w in negative_as w 4 4 u (omega arith) (omega (arith, fewest_beyond v 3 (omega arith) (omega arith) (omega arith), fewest_most v)) refl
many_is (suc (suc (suc (suc (suc b))))) w h k e u l = absurd (omega (arith, k))

-- the number of data bytes is not the fewest
few_more : (b w : ℕ) → 1 ≤ b → b ≤ 4 → w < least b → 122 < w → b ≡ fewest w → ⊥
unfolding least pick
few_more zero w h k l m e = omega (arith, h)
few_more (suc zero) w h k l m e = omega arith
few_more (suc (suc zero)) w h k l m e = omega (arith, e, fewest_within w 1 (omega arith) (omega arith) (omega arith))
few_more (suc (suc (suc zero))) w h k l m e = omega (arith, e, fewest_within w 2 (omega arith) (omega arith) (omega arith))
few_more (suc (suc (suc (suc zero)))) w h k l m e = omega (arith, e, fewest_within w 3 (omega arith) (omega arith) (omega arith))
few_more (suc (suc (suc (suc (suc b))))) w h k l m e = omega (arith, k)

-- the two tests
few_test : (b w : ℕ) → 1 ≤ b → b ≤ 4 → w ≡ little (low_bytes b w) 0 → w < 2147483648 → leb (least b) w ≡ equal (b ∷ low_bytes b w) (integer_bytes w)
few_test b w h k e u = go (leb (least b) w) refl
  where
    go : (t : Bool) → leb (least b) w ≡ t → t ≡ equal (b ∷ low_bytes b w) (integer_bytes w)
    go true q = same_form w (few_is b w h k e u (leb-true (least b) w q))
    go false q =
        let l = leb-false (least b) w q in
        other_form w b (low_bytes b w) (λ z f. omega (arith, f, h)) (λ z m f. omega (arith, z, f, k)) (λ m v f. few_more b w h k l m f) (λ m v f. omega (arith, m, u)) (λ m f. omega (arith, m, u))

many_test : (n w : ℕ) → 1 ≤ n → n ≤ 4 → w ≡ little (low_bytes n w) (256 ^ (4 - n) - 1) → 2147483648 ≤ w → w < 4294967296 → leb (least n) (4294967295 - w) ≡ equal ((256 - n) ∷ low_bytes n w) (integer_bytes w)
many_test n w h k e u z = go (leb (least n) v) refl
  where
    v : ℕ
    v = 4294967295 - w

    go : (t : Bool) → leb (least n) v ≡ t → t ≡ equal ((256 - n) ∷ low_bytes n w) (integer_bytes w)
    go true q = same_form w (many_is n w h k e u (leb-true (least n) v q))
    go false q =
        let l = leb-false (least n) v q in
        other_form w (256 - n) (low_bytes n w) (λ y f. omega (arith, y, u)) (λ y m f. omega (arith, m, u)) (λ m v f. omega (arith, v, u)) (λ m x f. few_more n v h k l (omega (arith, x)) (omega (arith, f, k, fewest_most v))) (λ m f. omega (arith, f, k, m, z))

-- ---- by what stands there: a first byte b that says a form f, and the bytes after it

module _ (rest : List ℕ) (b w : ℕ) (f : Form) (e : w ≡ word_of rest f) (d : data_of rest f ≡ low_bytes (size_of f - 1) w) where
  one_byte : {t : Bool} {v : ℕ} → f ≡ value v → (w ≡ v → t ≡ equal (b ∷ []) (integer_bytes w)) → t ≡ as_dumped rest b f
  unfolding word_of data_of
  one_byte q h = rw q (h (e ∙ ap (word_of rest) q) ∙ ap (λ (x : ℕ). equal (b ∷ []) (integer_bytes x)) (e ∙ ap (word_of rest) q))

  more_bytes : {t : Bool} {n above : ℕ} → f ≡ data_bytes n above → (w ≡ little (low_bytes n w) above → t ≡ equal (b ∷ low_bytes n w) (integer_bytes w)) → t ≡ as_dumped rest b f
  unfolding word_of data_of size_of
  more_bytes {t} {n} {above} q h =
      let k : suc n - 1 ≡ n = omega arith in
      let m : take n rest ≡ low_bytes n w = sym (ap (data_of rest) q) ∙ d ∙ ap (λ (g : Form). low_bytes (size_of g - 1) w) q ∙ ap (λ (x : ℕ). low_bytes x w) k in
      let v : w ≡ little (take n rest) above = e ∙ ap (word_of rest) q in
      rw q (h (v ∙ ap (λ (x : List ℕ). little x above) m) ∙ λ i. equal (b ∷ sym m i) (integer_bytes (v i)))

module _ (rest : List ℕ) (b w : ℕ) (e : w ≡ word_of rest (form b)) (d : data_of rest (form b) ≡ low_bytes (size_of (form b) - 1) w) where
  pub form_zero : b ≡ 0 → true ≡ as_dumped rest b (form b)
  form_zero z = one_byte rest b w (form b) e d (of_zero b z) (λ v. same_form w (bytes_zero w v ∙ ap (λ (x : ℕ). x ∷ []) (sym z)))

  pub form_few : 1 ≤ b → b ≤ 4 → w < 2147483648 → leb (least b) w ≡ as_dumped rest b (form b)
  form_few h k u = more_bytes rest b w (form b) e d (of_few b (omega arith) k) (λ v. few_test b w h k v u)

  pub form_few_negative : 1 ≤ b → b ≤ 4 → 2147483648 ≤ w → w < 4294967296 → false ≡ as_dumped rest b (form b)
  form_few_negative h k l u = more_bytes rest b w (form b) e d (of_few b (omega arith) k) (λ v. few_negative b w (low_bytes b w) h k l u)

  pub form_five : b ≡ 5 → false ≡ as_dumped rest b (form b)
  form_five z = one_byte rest b w (form b) e d (of_plus b (omega arith) (omega arith)) (λ v. other_form w b [] (λ y f. omega (arith, f, z)) (λ y m f. y (omega (arith, v, z))) (λ m u f. omega (arith, v, z, m)) (λ m u f. omega (arith, v, z, m)) (λ m f. omega (arith, v, z, m)))

  form_plus : 5 < b → b ≤ 127 → true ≡ as_dumped rest b (form b)
  form_plus h k = one_byte rest b w (form b) e d (of_plus b (omega arith) k) (λ v. let x : w + 5 ≡ b = omega (arith, v, h) in same_form w (bytes_small w (omega (arith, v, h)) (omega (arith, v, k)) ∙ ap (λ (y : ℕ). y ∷ []) x))

  form_minus : 127 < b → b ≤ 250 → true ≡ as_dumped rest b (form b)
  form_minus h k = one_byte rest b w (form b) e d (of_minus b h k) (λ v. let x : (w - 5) % 256 ≡ b = omega (arith, v, h, k) in same_form w (bytes_last w (omega (arith, v, h)) ∙ ap (λ (y : ℕ). y ∷ []) x))

  pub form_one : 5 < b → b ≤ 250 → true ≡ as_dumped rest b (form b)
  form_one h k = go (leb b 127) refl
    where
      go : (t : Bool) → leb b 127 ≡ t → true ≡ as_dumped rest b (form b)
      go true q = form_plus h (leb-true b 127 q)
      go false q = form_minus (leb-false b 127 q) k

  pub form_251 : b ≡ 251 → false ≡ as_dumped rest b (form b)
  form_251 z = one_byte rest b w (form b) e d (of_251 b z) (λ v. other_form w b [] (λ y f. omega (arith, f, z)) (λ y m f. y v) (λ m u f. omega (arith, v, m)) (λ m u f. omega (arith, v, m)) (λ m f. omega (arith, v, m)))

  pub form_many_positive : 251 < b → w < 2147483648 → false ≡ as_dumped rest b (form b)
  form_many_positive h l = more_bytes rest b w (form b) e d (of_many b h) (λ v. many_positive b w (low_bytes (256 - b) w) h l)

  pub form_many : 251 < b → b ≤ 255 → 2147483648 ≤ w → w < 4294967296 → leb (least (256 - b)) (4294967295 - w) ≡ as_dumped rest b (form b)
  form_many h k l u =
      let x : 256 - (256 - b) ≡ b = omega arith in
      let y : b - 252 ≡ 4 - (256 - b) = omega arith in
      more_bytes rest b w (form b) e d (of_many b h) (λ v. many_test (256 - b) w (omega arith) (omega arith) (v ∙ ap (λ (z : ℕ). little (low_bytes (256 - b) w) (256 ^ z - 1)) y) l u ∙ ap (λ (z : ℕ). equal (z ∷ low_bytes (256 - b) w) (integer_bytes w)) x)
