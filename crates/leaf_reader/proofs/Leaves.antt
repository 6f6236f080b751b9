-- Values without members by their kind bytes.
use Prim.Native.Nat.{ℕ, zero, suc}
use native.Mathlib.Omega.{arith}
use mathlib.Core.Path.{◌≡◌, sym, ap, refl, ◌∙◌}
use mathlib.Core.List.{List, [], ◌∷◌}
use mathlib.Core.Logic.{◌⊎◌, inl, inr}
use borrow.Author.Tests.{ne_eqb}
use Rattle.std.specs.Prelude.{Result}
use Rattle.reader.specs.declared.Stop.{Stop}
use Rattle.definition.specs.Run.{pick}
use Rattle.definition.specs.Kind.{NIL, TRUE, FALSE, FIXNUM, SYMBOL, SYMBOL_LINK, OBJECT_LINK, INSTANCE_VARIABLES, ARRAY, HASH, HASH_DEFAULT, OBJECT, STRING, USER_DEFINED, FLOAT, BIGNUM, USER_CLASS}
use Rattle.definition.specs.Node.{Row, string, float, absent, words, kind}
use Rattle.definition.specs.State.{Room, Reader}
use Rattle.definition.specs.Load.{String, Float, Unknown, head, value_of, read_text, read_string, read_float, read_wrapped}
use Rattle.load_state.specs.declared.Progress.{Progress}
use Rattle.load_state.specs.Holds.{Lent, Leads, Plain}
use Rattle.leaf_reader.specs.Parts.{Leaf}
use Rattle.leaf_reader.specs.Classes.{valued}
use Rattle.input_reader.proofs.Heads.{headed}
use Rattle.load_state.specs.Names.{other_kind}

-- a value that is no string has no class
pub plain : {input : List ℕ} {room : Room} {limit : ℕ} {T T' : Lent} {c c' : Progress} {r : Result ℕ Stop} {k w : ℕ} {m' : ℕ → Reader ℕ} (inner : Reader ℕ) → (w ≡ 0) ⊎ (k ≡ STRING) → (k ≡ STRING → ⊥)
    → Leads input room limit (value_of input room inner k (head k)) m' T c r T' c' → Leads input room limit (valued input room inner k w) m' T c r T' c'
unfolding valued
plain inner (inl e) n m = rw e m
plain inner (inr e) n m = absurd (n e)

-- a byte that is another is not a string's
pub other_byte : {k n : ℕ} → k ≡ n → (n ≡ STRING → ⊥) → k ≡ STRING → ⊥
other_byte e f g = f (sym e ∙ g)

-- a byte string alone, of one of two kinds
pub text_headed : {input : List ℕ} {room : Room} {limit : ℕ} {T T' : Lent} {c c' : Progress} {r : Result ℕ Stop} {k number : ℕ} {m' : ℕ → Reader ℕ} (inner : Reader ℕ) (w : ℕ) → (w ≡ 0) ⊎ (k ≡ STRING) → (k ≡ STRING) ⊎ (k ≡ FLOAT) → (k ≡ STRING → number ≡ 7) → ((k ≡ STRING → ⊥) → number ≡ 9)
    → ((row : ℕ → ℕ → Row) → ((start n : ℕ) → words (row start n) ≡ number ∷ start ∷ n ∷ 0 ∷ 0 ∷ 0 ∷ 0 ∷ w ∷ []) → ((start n : ℕ) → Plain (row start n)) → Leads input room limit (read_text input room row) m' T c r T' c')
    → Leads input room limit (valued input room inner k w) m' T c r T' c'
unfolding head pick value_of read_string read_float read_wrapped valued kind words
text_headed {k = k} inner zero u (inl e) q p m =
    headed inner k String (ap head e) (m (λ start n. string start n absent 0) (λ start n. ap (λ (x : ℕ). x ∷ start ∷ n ∷ 0 ∷ 0 ∷ 0 ∷ 0 ∷ 0 ∷ []) (sym (q e))) (λ start n. other_kind (string start n absent 0) refl))
text_headed {k = k} inner (suc w) u (inl e) q p m =
    rw e (m (λ start n. string start n absent (suc w)) (λ start n. ap (λ (x : ℕ). x ∷ start ∷ n ∷ 0 ∷ 0 ∷ 0 ∷ 0 ∷ suc w ∷ []) (sym (q e))) (λ start n. other_kind (string start n absent (suc w)) refl))
text_headed {k = k} inner zero u (inr e) q p m =
    headed inner k Float (ap head e) (m float (λ start n. ap (λ (x : ℕ). x ∷ start ∷ n ∷ 0 ∷ 0 ∷ 0 ∷ 0 ∷ 0 ∷ []) (sym (p (λ z. omega arith)))) (λ start n. other_kind (float start n) refl))
text_headed {k = k} inner (suc w) (inl u) (inr e) q p m = absurd (omega arith)
text_headed {k = k} inner (suc w) (inr u) (inr e) q p m = absurd (omega arith)

-- no kind byte
pub other : (k : ℕ) → Leaf k → (k ≡ FIXNUM → ⊥) → (k ≡ SYMBOL_LINK → ⊥) → ((k ≡ STRING) ⊎ (k ≡ FLOAT) → ⊥) → (k ≡ SYMBOL → ⊥) → (k ≡ NIL → ⊥) → (k ≡ TRUE → ⊥) → (k ≡ FALSE → ⊥) → (k ≡ OBJECT_LINK → ⊥) → (k ≡ USER_DEFINED → ⊥) → (k ≡ BIGNUM → ⊥) → head k ≡ Unknown
unfolding head pick
other k l a b c d e f g h i j = simp (ne_eqb k FIXNUM a, ne_eqb k SYMBOL_LINK b, ne_eqb k STRING (λ q. c (inl q)), ne_eqb k FLOAT (λ q. c (inr q)), ne_eqb k SYMBOL d, ne_eqb k NIL e, ne_eqb k TRUE f, ne_eqb k FALSE g, ne_eqb k OBJECT_LINK h, ne_eqb k USER_DEFINED i, ne_eqb k BIGNUM j, ne_eqb k ARRAY l.array, ne_eqb k HASH l.hash, ne_eqb k HASH_DEFAULT l.default, ne_eqb k OBJECT l.object, ne_eqb k INSTANCE_VARIABLES l.variables, ne_eqb k USER_CLASS l.class)
