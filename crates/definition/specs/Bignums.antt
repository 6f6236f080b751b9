-- What 02, 2.4 says of Bignums, shown of the definitions: bytes with known outcomes, which are in dump form, and which nodes are well formed, computed, and when two Bignums are the same graph.
use Rattle.std.specs.Prelude.{ℕ, refl, Bool, true, false, List, [], ◌∷◌, pos, negsuc}
use Rattle.std.proofs.Common.{arith, ◌∙◌}
use Rattle.std.proofs.Math.Path.{◌≡◌, sym, ap}
use Rattle.definition.specs.Run.{pick}
use Rattle.definition.specs.Node.{fixnum, bignum, row, row_of, words, is_row, equal}
use Rattle.definition.specs.Magnitude.{fits, magnitude}
use Rattle.definition.specs.Arena.{Arena, node, number_right, row_right, node_right}
use Rattle.definition.specs.Graph.{Header, header, header_of, links, root, none as no_pairs, Pairing, SameGraph}
use Rattle.definition.specs.Starred.{Result, dumped, not_loaded, load_and_dump, in_dump_form, holds}

abbrev outcomes : List (List ℕ × Result)
outcomes =
    -- zero, the least and the greatest of a unit, of two, three and four
    (0x04 ∷ 0x08 ∷ 0x6C ∷ 0x2B ∷ 0x00 ∷ [], dumped (0 ∷ 0 ∷ 0 ∷ 0 ∷ 0 ∷ 0 ∷ 0 ∷ 0 ∷ 10 ∷ 0 ∷ 0 ∷ 0 ∷ 0 ∷ 0 ∷ 0 ∷ 0 ∷ []) [] [] 5 (0x04 ∷ 0x08 ∷ 0x6C ∷ 0x2B ∷ 0x00 ∷ []))
    ∷ (0x04 ∷ 0x08 ∷ 0x6C ∷ 0x2B ∷ 0x06 ∷ 0x01 ∷ 0x00 ∷ [], dumped (0 ∷ 0 ∷ 0 ∷ 0 ∷ 0 ∷ 0 ∷ 0 ∷ 0 ∷ 10 ∷ 1 ∷ 0 ∷ 0 ∷ 0 ∷ 0 ∷ 0 ∷ 0 ∷ []) [] [] 7 (0x04 ∷ 0x08 ∷ 0x6C ∷ 0x2B ∷ 0x06 ∷ 0x01 ∷ 0x00 ∷ []))
    ∷ (0x04 ∷ 0x08 ∷ 0x6C ∷ 0x2D ∷ 0x06 ∷ 0xFF ∷ 0xFF ∷ [], dumped (0 ∷ 0 ∷ 0 ∷ 0 ∷ 0 ∷ 0 ∷ 0 ∷ 0 ∷ 10 ∷ 65535 ∷ 0 ∷ 0 ∷ 1 ∷ 0 ∷ 0 ∷ 0 ∷ []) [] [] 7 (0x04 ∷ 0x08 ∷ 0x6C ∷ 0x2D ∷ 0x06 ∷ 0xFF ∷ 0xFF ∷ []))
    ∷ (0x04 ∷ 0x08 ∷ 0x6C ∷ 0x2B ∷ 0x07 ∷ 0x00 ∷ 0x00 ∷ 0x01 ∷ 0x00 ∷ [], dumped (0 ∷ 0 ∷ 0 ∷ 0 ∷ 0 ∷ 0 ∷ 0 ∷ 0 ∷ 10 ∷ 65536 ∷ 0 ∷ 0 ∷ 0 ∷ 0 ∷ 0 ∷ 0 ∷ []) [] [] 9 (0x04 ∷ 0x08 ∷ 0x6C ∷ 0x2B ∷ 0x07 ∷ 0x00 ∷ 0x00 ∷ 0x01 ∷ 0x00 ∷ []))
    ∷ (0x04 ∷ 0x08 ∷ 0x6C ∷ 0x2D ∷ 0x07 ∷ 0xFF ∷ 0xFF ∷ 0xFF ∷ 0xFF ∷ [], dumped (0 ∷ 0 ∷ 0 ∷ 0 ∷ 0 ∷ 0 ∷ 0 ∷ 0 ∷ 10 ∷ 4294967295 ∷ 0 ∷ 0 ∷ 1 ∷ 0 ∷ 0 ∷ 0 ∷ []) [] [] 9 (0x04 ∷ 0x08 ∷ 0x6C ∷ 0x2D ∷ 0x07 ∷ 0xFF ∷ 0xFF ∷ 0xFF ∷ 0xFF ∷ []))
    ∷ (0x04 ∷ 0x08 ∷ 0x6C ∷ 0x2B ∷ 0x08 ∷ 0x00 ∷ 0x00 ∷ 0x00 ∷ 0x00 ∷ 0x01 ∷ 0x00 ∷ [], dumped (0 ∷ 0 ∷ 0 ∷ 0 ∷ 0 ∷ 0 ∷ 0 ∷ 0 ∷ 10 ∷ 0 ∷ 1 ∷ 0 ∷ 0 ∷ 0 ∷ 0 ∷ 0 ∷ []) [] [] 11 (0x04 ∷ 0x08 ∷ 0x6C ∷ 0x2B ∷ 0x08 ∷ 0x00 ∷ 0x00 ∷ 0x00 ∷ 0x00 ∷ 0x01 ∷ 0x00 ∷ []))
    ∷ (0x04 ∷ 0x08 ∷ 0x6C ∷ 0x2B ∷ 0x09 ∷ 0x00 ∷ 0x00 ∷ 0x00 ∷ 0x00 ∷ 0x00 ∷ 0x00 ∷ 0x01 ∷ 0x00 ∷ [], dumped (0 ∷ 0 ∷ 0 ∷ 0 ∷ 0 ∷ 0 ∷ 0 ∷ 0 ∷ 10 ∷ 0 ∷ 65536 ∷ 0 ∷ 0 ∷ 0 ∷ 0 ∷ 0 ∷ []) [] [] 13 (0x04 ∷ 0x08 ∷ 0x6C ∷ 0x2B ∷ 0x09 ∷ 0x00 ∷ 0x00 ∷ 0x00 ∷ 0x00 ∷ 0x00 ∷ 0x00 ∷ 0x01 ∷ 0x00 ∷ []))
    ∷ (0x04 ∷ 0x08 ∷ 0x6C ∷ 0x2D ∷ 0x09 ∷ 0xFF ∷ 0xFF ∷ 0xFF ∷ 0xFF ∷ 0xFF ∷ 0xFF ∷ 0xFF ∷ 0x7F ∷ [], dumped (0 ∷ 0 ∷ 0 ∷ 0 ∷ 0 ∷ 0 ∷ 0 ∷ 0 ∷ 10 ∷ 4294967295 ∷ 2147483647 ∷ 0 ∷ 1 ∷ 0 ∷ 0 ∷ 0 ∷ []) [] [] 13 (0x04 ∷ 0x08 ∷ 0x6C ∷ 0x2D ∷ 0x09 ∷ 0xFF ∷ 0xFF ∷ 0xFF ∷ 0xFF ∷ 0xFF ∷ 0xFF ∷ 0xFF ∷ 0x7F ∷ []))
    -- zero is plus; high zero units are not written
    ∷ (0x04 ∷ 0x08 ∷ 0x6C ∷ 0x2D ∷ 0x00 ∷ [], dumped (0 ∷ 0 ∷ 0 ∷ 0 ∷ 0 ∷ 0 ∷ 0 ∷ 0 ∷ 10 ∷ 0 ∷ 0 ∷ 0 ∷ 0 ∷ 0 ∷ 0 ∷ 0 ∷ []) [] [] 5 (0x04 ∷ 0x08 ∷ 0x6C ∷ 0x2B ∷ 0x00 ∷ []))
    ∷ (0x04 ∷ 0x08 ∷ 0x6C ∷ 0x2D ∷ 0x06 ∷ 0x00 ∷ 0x00 ∷ [], dumped (0 ∷ 0 ∷ 0 ∷ 0 ∷ 0 ∷ 0 ∷ 0 ∷ 0 ∷ 10 ∷ 0 ∷ 0 ∷ 0 ∷ 0 ∷ 0 ∷ 0 ∷ 0 ∷ []) [] [] 7 (0x04 ∷ 0x08 ∷ 0x6C ∷ 0x2B ∷ 0x00 ∷ []))
    ∷ (0x04 ∷ 0x08 ∷ 0x6C ∷ 0x2B ∷ 0x07 ∷ 0x01 ∷ 0x00 ∷ 0x00 ∷ 0x00 ∷ [], dumped (0 ∷ 0 ∷ 0 ∷ 0 ∷ 0 ∷ 0 ∷ 0 ∷ 0 ∷ 10 ∷ 1 ∷ 0 ∷ 0 ∷ 0 ∷ 0 ∷ 0 ∷ 0 ∷ []) [] [] 9 (0x04 ∷ 0x08 ∷ 0x6C ∷ 0x2B ∷ 0x06 ∷ 0x01 ∷ 0x00 ∷ []))
    ∷ (0x04 ∷ 0x08 ∷ 0x6C ∷ 0x2D ∷ 0x09 ∷ 0x02 ∷ 0x01 ∷ 0x00 ∷ 0x00 ∷ 0x00 ∷ 0x00 ∷ 0x00 ∷ 0x00 ∷ [], dumped (0 ∷ 0 ∷ 0 ∷ 0 ∷ 0 ∷ 0 ∷ 0 ∷ 0 ∷ 10 ∷ 258 ∷ 0 ∷ 0 ∷ 1 ∷ 0 ∷ 0 ∷ 0 ∷ []) [] [] 13 (0x04 ∷ 0x08 ∷ 0x6C ∷ 0x2D ∷ 0x06 ∷ 0x02 ∷ 0x01 ∷ []))
    -- each `l` makes a node of its own, only `@` shares
    ∷ (0x04 ∷ 0x08 ∷ 0x5B ∷ 0x08 ∷ 0x6C ∷ 0x2B ∷ 0x06 ∷ 0x01 ∷ 0x00 ∷ 0x6C ∷ 0x2B ∷ 0x06 ∷ 0x01 ∷ 0x00 ∷ 0x40 ∷ 0x06 ∷ [], dumped (0 ∷ 0 ∷ 0 ∷ 0 ∷ 0 ∷ 0 ∷ 0 ∷ 0 ∷ 4 ∷ 0 ∷ 0 ∷ 0 ∷ 3 ∷ 0 ∷ 0 ∷ 0 ∷ 10 ∷ 1 ∷ 0 ∷ 0 ∷ 0 ∷ 0 ∷ 0 ∷ 0 ∷ 10 ∷ 1 ∷ 0 ∷ 0 ∷ 0 ∷ 0 ∷ 0 ∷ 0 ∷ []) (2 ∷ 3 ∷ 2 ∷ []) [] 16 (0x04 ∷ 0x08 ∷ 0x5B ∷ 0x08 ∷ 0x6C ∷ 0x2B ∷ 0x06 ∷ 0x01 ∷ 0x00 ∷ 0x6C ∷ 0x2B ∷ 0x06 ∷ 0x01 ∷ 0x00 ∷ 0x40 ∷ 0x06 ∷ []))
    -- the sign byte, before anything after it
    ∷ (0x04 ∷ 0x08 ∷ 0x6C ∷ [], not_loaded (4, pos 0, pos 0))
    ∷ (0x04 ∷ 0x08 ∷ 0x6C ∷ 0x2A ∷ [], not_loaded (15, pos 42, pos 0))
    ∷ (0x04 ∷ 0x08 ∷ 0x6C ∷ 0x2A ∷ 0xFA ∷ [], not_loaded (15, pos 42, pos 0))
    -- the count: missing, negative, over 4 before its units
    ∷ (0x04 ∷ 0x08 ∷ 0x6C ∷ 0x2B ∷ [], not_loaded (4, pos 0, pos 0))
    ∷ (0x04 ∷ 0x08 ∷ 0x6C ∷ 0x2B ∷ 0xFA ∷ [], not_loaded (6, negsuc 0, pos 0))
    ∷ (0x04 ∷ 0x08 ∷ 0x6C ∷ 0x2B ∷ 0x0A ∷ [], not_loaded (16, pos 5, pos 0))
    ∷ (0x04 ∷ 0x08 ∷ 0x6C ∷ 0x2B ∷ 0x0A ∷ 0x01 ∷ 0x00 ∷ 0x00 ∷ 0x00 ∷ 0x00 ∷ 0x00 ∷ 0x00 ∷ 0x00 ∷ 0x00 ∷ 0x00 ∷ [], not_loaded (16, pos 5, pos 0))
    -- units that are missing, and then the magnitude: 2^63, and minus 2^63 too
    ∷ (0x04 ∷ 0x08 ∷ 0x6C ∷ 0x2B ∷ 0x09 ∷ [], not_loaded (4, pos 0, pos 0))
    ∷ (0x04 ∷ 0x08 ∷ 0x6C ∷ 0x2B ∷ 0x09 ∷ 0x00 ∷ 0x00 ∷ 0x00 ∷ 0x00 ∷ 0x00 ∷ 0x00 ∷ 0x00 ∷ [], not_loaded (4, pos 0, pos 0))
    ∷ (0x04 ∷ 0x08 ∷ 0x6C ∷ 0x2B ∷ 0x09 ∷ 0x00 ∷ 0x00 ∷ 0x00 ∷ 0x00 ∷ 0x00 ∷ 0x00 ∷ 0x00 ∷ 0x80 ∷ [], not_loaded (16, pos 4, pos 0))
    ∷ (0x04 ∷ 0x08 ∷ 0x6C ∷ 0x2D ∷ 0x09 ∷ 0x00 ∷ 0x00 ∷ 0x00 ∷ 0x00 ∷ 0x00 ∷ 0x00 ∷ 0x00 ∷ 0x80 ∷ [], not_loaded (16, pos 4, pos 0))
    -- `I` on a Bignum is 10 after the variables; it is no name
    ∷ (0x04 ∷ 0x08 ∷ 0x49 ∷ 0x6C ∷ 0x2B ∷ 0x00 ∷ [], not_loaded (4, pos 0, pos 0))
    ∷ (0x04 ∷ 0x08 ∷ 0x49 ∷ 0x6C ∷ 0x2B ∷ 0x00 ∷ 0x00 ∷ [], not_loaded (10, pos 0, pos 0))
    ∷ (0x04 ∷ 0x08 ∷ 0x6F ∷ 0x6C ∷ [], not_loaded (9, pos 108, pos 0))
    ∷ []

-- a high zero unit, a minus on zero, and a count in another form
abbrev forms : List (List ℕ × Bool)
forms =
    (0x04 ∷ 0x08 ∷ 0x6C ∷ 0x2B ∷ 0x00 ∷ [], true)
    ∷ (0x04 ∷ 0x08 ∷ 0x6C ∷ 0x2D ∷ 0x00 ∷ [], false)
    ∷ (0x04 ∷ 0x08 ∷ 0x6C ∷ 0x2D ∷ 0x06 ∷ 0x00 ∷ 0x00 ∷ [], false)
    ∷ (0x04 ∷ 0x08 ∷ 0x6C ∷ 0x2B ∷ 0x06 ∷ 0x01 ∷ 0x00 ∷ [], true)
    ∷ (0x04 ∷ 0x08 ∷ 0x6C ∷ 0x2B ∷ 0x07 ∷ 0x01 ∷ 0x00 ∷ 0x00 ∷ 0x00 ∷ [], false)
    ∷ (0x04 ∷ 0x08 ∷ 0x6C ∷ 0x2B ∷ 0x07 ∷ 0x00 ∷ 0x00 ∷ 0x01 ∷ 0x00 ∷ [], true)
    ∷ (0x04 ∷ 0x08 ∷ 0x6C ∷ 0x2D ∷ 0x06 ∷ 0x00 ∷ 0x01 ∷ [], true)
    ∷ (0x04 ∷ 0x08 ∷ 0x6C ∷ 0x2B ∷ 0x05 ∷ [], false)
    ∷ (0x04 ∷ 0x08 ∷ 0x6C ∷ 0x2B ∷ 0x01 ∷ 0x01 ∷ 0x01 ∷ 0x00 ∷ [], false)
    ∷ []

-- a node's words: is it well formed?
right : List ℕ → Bool
unfolding node_right row_right number_right is_row equal row row_of words fits magnitude pick
right ws = node_right (record { nodes = []; references = []; bytes = []; root = 0 }) ws

-- zero and its minus, the greatest magnitude and the next, another sign, and words that are not used
abbrev nodes : List (List ℕ × Bool)
nodes =
    (10 ∷ 0 ∷ 0 ∷ 0 ∷ 0 ∷ 0 ∷ 0 ∷ 0 ∷ [], true)
    ∷ (10 ∷ 0 ∷ 0 ∷ 0 ∷ 1 ∷ 0 ∷ 0 ∷ 0 ∷ [], false)
    ∷ (10 ∷ 4294967295 ∷ 2147483647 ∷ 0 ∷ 1 ∷ 0 ∷ 0 ∷ 0 ∷ [], true)
    ∷ (10 ∷ 0 ∷ 2147483648 ∷ 0 ∷ 0 ∷ 0 ∷ 0 ∷ 0 ∷ [], false)
    ∷ (10 ∷ 1 ∷ 0 ∷ 0 ∷ 2 ∷ 0 ∷ 0 ∷ 0 ∷ [], false)
    ∷ (10 ∷ 1 ∷ 0 ∷ 1 ∷ 0 ∷ 0 ∷ 0 ∷ 0 ∷ [], false)
    ∷ (10 ∷ 1 ∷ 0 ∷ 0 ∷ 0 ∷ 1 ∷ 0 ∷ 0 ∷ [], false)
    ∷ (10 ∷ 1 ∷ 0 ∷ 0 ∷ 0 ∷ 0 ∷ 1 ∷ 0 ∷ [], false)
    ∷ []

bignums : holds load_and_dump outcomes × holds in_dump_form forms × holds right nodes
unfolding holds load_and_dump in_dump_form right
bignums = (refl, refl, refl)

module _ {P Q : Arena} {R : ℕ → ℕ → Type 0} (p : Pairing P Q R) (a b low high : ℕ) (m : Bool) (r : R a b) (e : node P a ≡ bignum low high m) where
  -- "Values equal in sign and magnitude pair": those that are paired are equal in both
  pub paired_bignums : (low' high' : ℕ) (m' : Bool) → node Q b ≡ bignum low' high' m' → (magnitude low high ≡ magnitude low' high') × (m ≡ m')
  unfolding header
  paired_bignums low' high' m' f =
      let z = sym (ap (header P) e) ∙ p.headers a b r ∙ ap (header Q) f in
      (ap (λ (h : Header). h.value) z, ap (λ (h : Header). h.presence) z)

  -- "keeps its kind however small it is": no Bignum is paired with a Fixnum
  pub bignum_no_fixnum : (w : ℕ) → node Q b ≡ fixnum w → ⊥
  unfolding header
  bignum_no_fixnum w f = let z : ◌≡◌ {A = ℕ} 10 2 = ap (λ (h : Header). h.kind) (sym (ap (header P) e) ∙ p.headers a b r ∙ ap (header Q) f) in omega (arith, z)

-- and two Bignums that are the roots, equal in sign and magnitude, are the same graph
pub same_bignums : (P Q : Arena) (low high low' high' : ℕ) (m : Bool) → node P P.root ≡ bignum low high m → node Q Q.root ≡ bignum low' high' m
    → magnitude low high ≡ magnitude low' high' → SameGraph P Q
unfolding header links
same_bignums P Q low high low' high' m e f v = (
  λ x y. (x ≡ P.root) × (y ≡ Q.root),
  record {
    reachable = λ x y r. (rw r.0 root, rw r.1 root);
    roots = (refl, refl);
    headers = λ x y r. ap (λ (i : ℕ). header P (node P i)) r.0 ∙ ap (header P) e
        ∙ ap (λ (n : ℕ). header_of 10 n [] 0 m false) v ∙ sym (ap (λ (i : ℕ). header Q (node Q i)) r.1 ∙ ap (header Q) f);
    members = λ x y r. rw (r.0, r.1, e, f) no_pairs;
    left = λ x y z q r k. q.1 ∙ sym r.1;
    right = λ x y z q r k. q.0 ∙ sym r.0;
  },
)
