-- What 02, 2.1 says of Floats, shown of the definitions: bytes with known outcomes, computed, and when two Floats are the same graph.
use Rattle.std.specs.Prelude.{ℕ, ◌≡◌, refl, false, List, [], ◌∷◌, pos, negsuc}
use Rattle.std.proofs.Common.{arith, sym, ap, ◌∙◌}
use Rattle.definition.specs.Node.{Vars, string, float}
use Rattle.definition.specs.Arena.{Arena, node, range}
use Rattle.definition.specs.Graph.{Header, header, header_of, links, root, none as no_pairs, Pairing, SameGraph}
use Rattle.definition.specs.Starred.{Result, dumped, not_loaded, load_and_dump, holds}

abbrev outcomes : List (List ℕ × Result)
outcomes =
    -- any text, also none, is kept as it is
    (0x04 ∷ 0x08 ∷ 0x66 ∷ 0x06 ∷ 0x31 ∷ [], dumped (0 ∷ 0 ∷ 0 ∷ 0 ∷ 0 ∷ 0 ∷ 0 ∷ 0 ∷ 9 ∷ 0 ∷ 1 ∷ 0 ∷ 0 ∷ 0 ∷ 0 ∷ 0 ∷ []) [] (0x31 ∷ []) 5 (0x04 ∷ 0x08 ∷ 0x66 ∷ 0x06 ∷ 0x31 ∷ []))
    ∷ (0x04 ∷ 0x08 ∷ 0x66 ∷ 0x00 ∷ [], dumped (0 ∷ 0 ∷ 0 ∷ 0 ∷ 0 ∷ 0 ∷ 0 ∷ 0 ∷ 9 ∷ 0 ∷ 0 ∷ 0 ∷ 0 ∷ 0 ∷ 0 ∷ 0 ∷ []) [] [] 4 (0x04 ∷ 0x08 ∷ 0x66 ∷ 0x00 ∷ []))
    -- each `f` makes a node of its own, only `@` shares
    ∷ (0x04 ∷ 0x08 ∷ 0x5B ∷ 0x08 ∷ 0x66 ∷ 0x06 ∷ 0x31 ∷ 0x66 ∷ 0x06 ∷ 0x31 ∷ 0x40 ∷ 0x06 ∷ [], dumped (0 ∷ 0 ∷ 0 ∷ 0 ∷ 0 ∷ 0 ∷ 0 ∷ 0 ∷ 4 ∷ 0 ∷ 0 ∷ 0 ∷ 3 ∷ 0 ∷ 0 ∷ 0 ∷ 9 ∷ 0 ∷ 1 ∷ 0 ∷ 0 ∷ 0 ∷ 0 ∷ 0 ∷ 9 ∷ 1 ∷ 1 ∷ 0 ∷ 0 ∷ 0 ∷ 0 ∷ 0 ∷ []) (2 ∷ 3 ∷ 2 ∷ []) (0x31 ∷ 0x31 ∷ []) 12 (0x04 ∷ 0x08 ∷ 0x5B ∷ 0x08 ∷ 0x66 ∷ 0x06 ∷ 0x31 ∷ 0x66 ∷ 0x06 ∷ 0x31 ∷ 0x40 ∷ 0x06 ∷ []))
    -- missing bytes, and a negative length
    ∷ (0x04 ∷ 0x08 ∷ 0x66 ∷ 0x06 ∷ [], not_loaded (4, pos 0, pos 0))
    ∷ (0x04 ∷ 0x08 ∷ 0x66 ∷ 0xFA ∷ [], not_loaded (6, negsuc 0, pos 0))
    -- `I` on a Float is 10 after the variables, directly and through `@`
    ∷ (0x04 ∷ 0x08 ∷ 0x49 ∷ 0x66 ∷ 0x00 ∷ [], not_loaded (4, pos 0, pos 0))
    ∷ (0x04 ∷ 0x08 ∷ 0x49 ∷ 0x66 ∷ 0x00 ∷ 0x06 ∷ 0x30 ∷ [], not_loaded (9, pos 48, pos 0))
    ∷ (0x04 ∷ 0x08 ∷ 0x49 ∷ 0x66 ∷ 0x00 ∷ 0x00 ∷ [], not_loaded (10, pos 0, pos 0))
    ∷ (0x04 ∷ 0x08 ∷ 0x5B ∷ 0x07 ∷ 0x66 ∷ 0x00 ∷ 0x49 ∷ 0x40 ∷ 0x06 ∷ 0x00 ∷ [], not_loaded (10, pos 0, pos 0))
    -- no name
    ∷ (0x04 ∷ 0x08 ∷ 0x6F ∷ 0x66 ∷ [], not_loaded (9, pos 102, pos 0))
    ∷ []

floats : holds load_and_dump outcomes
unfolding holds load_and_dump
floats = refl

-- "Two Floats pair in the same graph when their bytes are equal": those that are paired have the same bytes
pub paired_floats : {P Q : Arena} {R : ℕ → ℕ → Type 0} → Pairing P Q R → (a b s l t m : ℕ) → R a b → node P a ≡ float s l → node Q b ≡ float t m → range P.bytes s l ≡ range Q.bytes t m
unfolding header
paired_floats {P} {Q} p a b s l t m r e f = ap (λ (h : Header). h.bytes) (sym (ap (header P) e) ∙ p.headers a b r ∙ ap (header Q) f)

-- a Float is not paired with a string, whatever their bytes
pub float_no_string : {P Q : Arena} {R : ℕ → ℕ → Type 0} → Pairing P Q R → (a b s l t m : ℕ) (v : Vars) (c : ℕ) → R a b → node P a ≡ float s l → node Q b ≡ string t m v c → ⊥
unfolding header
float_no_string {P} {Q} p a b s l t m v c r e f = let z : ◌≡◌ {A = ℕ} 9 7 = ap (λ (h : Header). h.kind) (sym (ap (header P) e) ∙ p.headers a b r ∙ ap (header Q) f) in omega (arith, z)

-- and two Floats that are the roots, with the same bytes, are the same graph
pub same_floats : (P Q : Arena) (s l t m : ℕ) → node P P.root ≡ float s l → node Q Q.root ≡ float t m → range P.bytes s l ≡ range Q.bytes t m → SameGraph P Q
unfolding header links
same_floats P Q s l t m e f b = (
  λ x y. (x ≡ P.root) × (y ≡ Q.root),
  record {
    reachable = λ x y r. (rw r.0 root, rw r.1 root);
    roots = (refl, refl);
    headers = λ x y r. ap (λ (i : ℕ). header P (node P i)) r.0 ∙ ap (header P) e
        ∙ ap (λ (bs : List ℕ). header_of 9 0 bs 0 false false) b ∙ sym (ap (λ (i : ℕ). header Q (node Q i)) r.1 ∙ ap (header Q) f);
    members = λ x y r. rw (r.0, r.1, e, f) no_pairs;
    left = λ x y z q r k. q.1 ∙ sym r.1;
    right = λ x y z q r k. q.0 ∙ sym r.0;
  },
)
