-- What 02, 2.9 says of classes, shown of the definitions: bytes with known outcomes and words that are a node's, computed, and how classes are paired.
use Rattle.std.specs.Prelude.{ℕ, suc, ◌≡◌, refl, Bool, true, false, List, [], ◌∷◌, pos}
use Rattle.std.proofs.Common.{sym, ap, ◌∙◌}
use Rattle.definition.specs.Run.{pick}
use Rattle.definition.specs.Node as N
use Rattle.definition.specs.Node.{array, symbol, nil, optional_node, optional_present}
use Rattle.definition.specs.Arena as A
use Rattle.definition.specs.Arena.{Arena, node, range}
use Rattle.definition.specs.Graph.{Header, header, links, one, Paired, Pairing}
use Rattle.definition.specs.Starred.{Result, dumped, not_loaded, load_and_dump, holds}

abbrev outcomes : List (List ℕ × Result)
outcomes =
    -- `C` before each of the four kinds
    (0x04 ∷ 0x08 ∷ 0x43 ∷ 0x3A ∷ 0x06 ∷ 0x61 ∷ 0x5B ∷ 0x00 ∷ [], dumped (0 ∷ 0 ∷ 0 ∷ 0 ∷ 0 ∷ 0 ∷ 0 ∷ 0 ∷ 3 ∷ 0 ∷ 1 ∷ 0 ∷ 0 ∷ 0 ∷ 0 ∷ 0 ∷ 4 ∷ 0 ∷ 0 ∷ 0 ∷ 0 ∷ 0 ∷ 0 ∷ 2 ∷ []) [] (0x61 ∷ []) 8 (0x04 ∷ 0x08 ∷ 0x43 ∷ 0x3A ∷ 0x06 ∷ 0x61 ∷ 0x5B ∷ 0x00 ∷ []))
    ∷ (0x04 ∷ 0x08 ∷ 0x43 ∷ 0x3A ∷ 0x06 ∷ 0x61 ∷ 0x7B ∷ 0x00 ∷ [], dumped (0 ∷ 0 ∷ 0 ∷ 0 ∷ 0 ∷ 0 ∷ 0 ∷ 0 ∷ 3 ∷ 0 ∷ 1 ∷ 0 ∷ 0 ∷ 0 ∷ 0 ∷ 0 ∷ 5 ∷ 0 ∷ 0 ∷ 0 ∷ 0 ∷ 0 ∷ 0 ∷ 2 ∷ []) [] (0x61 ∷ []) 8 (0x04 ∷ 0x08 ∷ 0x43 ∷ 0x3A ∷ 0x06 ∷ 0x61 ∷ 0x7B ∷ 0x00 ∷ []))
    ∷ (0x04 ∷ 0x08 ∷ 0x43 ∷ 0x3A ∷ 0x06 ∷ 0x61 ∷ 0x7D ∷ 0x00 ∷ 0x3B ∷ 0x00 ∷ [], dumped (0 ∷ 0 ∷ 0 ∷ 0 ∷ 0 ∷ 0 ∷ 0 ∷ 0 ∷ 3 ∷ 0 ∷ 1 ∷ 0 ∷ 0 ∷ 0 ∷ 0 ∷ 0 ∷ 5 ∷ 0 ∷ 0 ∷ 0 ∷ 0 ∷ 0 ∷ 2 ∷ 2 ∷ []) [] (0x61 ∷ []) 10 (0x04 ∷ 0x08 ∷ 0x43 ∷ 0x3A ∷ 0x06 ∷ 0x61 ∷ 0x7D ∷ 0x00 ∷ 0x3B ∷ 0x00 ∷ []))
    ∷ (0x04 ∷ 0x08 ∷ 0x43 ∷ 0x3A ∷ 0x06 ∷ 0x61 ∷ 0x22 ∷ 0x06 ∷ 0x62 ∷ [], dumped (0 ∷ 0 ∷ 0 ∷ 0 ∷ 0 ∷ 0 ∷ 0 ∷ 0 ∷ 3 ∷ 0 ∷ 1 ∷ 0 ∷ 0 ∷ 0 ∷ 0 ∷ 0 ∷ 7 ∷ 1 ∷ 1 ∷ 0 ∷ 0 ∷ 0 ∷ 0 ∷ 2 ∷ []) [] (0x61 ∷ 0x62 ∷ []) 9 (0x04 ∷ 0x08 ∷ 0x43 ∷ 0x3A ∷ 0x06 ∷ 0x61 ∷ 0x22 ∷ 0x06 ∷ 0x62 ∷ []))
    -- `I` on `C` and `"`; a class kept by `I` on `@`; an array in a class that is a member of itself
    ∷ (0x04 ∷ 0x08 ∷ 0x49 ∷ 0x43 ∷ 0x3A ∷ 0x06 ∷ 0x61 ∷ 0x22 ∷ 0x00 ∷ 0x00 ∷ [], dumped (0 ∷ 0 ∷ 0 ∷ 0 ∷ 0 ∷ 0 ∷ 0 ∷ 0 ∷ 3 ∷ 0 ∷ 1 ∷ 0 ∷ 0 ∷ 0 ∷ 0 ∷ 0 ∷ 7 ∷ 1 ∷ 0 ∷ 0 ∷ 0 ∷ 0 ∷ 1 ∷ 2 ∷ []) [] (0x61 ∷ []) 10 (0x04 ∷ 0x08 ∷ 0x49 ∷ 0x43 ∷ 0x3A ∷ 0x06 ∷ 0x61 ∷ 0x22 ∷ 0x00 ∷ 0x00 ∷ []))
    ∷ (0x04 ∷ 0x08 ∷ 0x5B ∷ 0x07 ∷ 0x43 ∷ 0x3A ∷ 0x06 ∷ 0x61 ∷ 0x22 ∷ 0x00 ∷ 0x49 ∷ 0x40 ∷ 0x06 ∷ 0x00 ∷ [], dumped (0 ∷ 0 ∷ 0 ∷ 0 ∷ 0 ∷ 0 ∷ 0 ∷ 0 ∷ 4 ∷ 0 ∷ 0 ∷ 0 ∷ 2 ∷ 0 ∷ 0 ∷ 0 ∷ 3 ∷ 0 ∷ 1 ∷ 0 ∷ 0 ∷ 0 ∷ 0 ∷ 0 ∷ 7 ∷ 1 ∷ 0 ∷ 2 ∷ 0 ∷ 0 ∷ 1 ∷ 3 ∷ []) (3 ∷ 3 ∷ []) (0x61 ∷ []) 14 (0x04 ∷ 0x08 ∷ 0x5B ∷ 0x07 ∷ 0x49 ∷ 0x43 ∷ 0x3A ∷ 0x06 ∷ 0x61 ∷ 0x22 ∷ 0x00 ∷ 0x00 ∷ 0x40 ∷ 0x06 ∷ []))
    ∷ (0x04 ∷ 0x08 ∷ 0x43 ∷ 0x3A ∷ 0x06 ∷ 0x61 ∷ 0x5B ∷ 0x06 ∷ 0x40 ∷ 0x00 ∷ [], dumped (0 ∷ 0 ∷ 0 ∷ 0 ∷ 0 ∷ 0 ∷ 0 ∷ 0 ∷ 3 ∷ 0 ∷ 1 ∷ 0 ∷ 0 ∷ 0 ∷ 0 ∷ 0 ∷ 4 ∷ 0 ∷ 0 ∷ 0 ∷ 1 ∷ 0 ∷ 0 ∷ 2 ∷ []) (2 ∷ []) (0x61 ∷ []) 10 (0x04 ∷ 0x08 ∷ 0x43 ∷ 0x3A ∷ 0x06 ∷ 0x61 ∷ 0x5B ∷ 0x06 ∷ 0x40 ∷ 0x00 ∷ []))
    -- `I` on `C` and `[` is 10 after the variables
    ∷ (0x04 ∷ 0x08 ∷ 0x49 ∷ 0x43 ∷ 0x3A ∷ 0x06 ∷ 0x61 ∷ 0x5B ∷ 0x00 ∷ [], not_loaded (4, pos 0, pos 0))
    ∷ (0x04 ∷ 0x08 ∷ 0x49 ∷ 0x43 ∷ 0x3A ∷ 0x06 ∷ 0x61 ∷ 0x5B ∷ 0x00 ∷ 0x00 ∷ [], not_loaded (10, pos 0, pos 0))
    -- no name
    ∷ (0x04 ∷ 0x08 ∷ 0x6F ∷ 0x43 ∷ [], not_loaded (9, pos 67, pos 0))
    ∷ []

-- ---- words that are a node's, in an arena of nil and a symbol

unfoldable right : List ℕ → Bool
unfolding A.node_right A.row_right A.class_right A.vars_right A.pairs_right A.list_right A.bytes_right A.number_right A.all_names A.all_below A.is_name A.node A.range A.firsts N.is_row N.equal N.row N.row_of N.vars N.words N.kind N.optional_node pick
right ws = A.node_right (record { nodes = nil ∷ symbol 0 0 ∷ []; references = []; bytes = []; root = 0 }) ws

abbrev node_words : List (List ℕ × Bool)
node_words =
    -- kinds 4, 5 and 7: none, a symbol; no symbol, no node
    (4 ∷ 0 ∷ 0 ∷ 0 ∷ 0 ∷ 0 ∷ 0 ∷ 0 ∷ [], true)
    ∷ (4 ∷ 0 ∷ 0 ∷ 0 ∷ 0 ∷ 0 ∷ 0 ∷ 2 ∷ [], true)
    ∷ (4 ∷ 0 ∷ 0 ∷ 0 ∷ 0 ∷ 0 ∷ 0 ∷ 1 ∷ [], false)
    ∷ (4 ∷ 0 ∷ 0 ∷ 0 ∷ 0 ∷ 0 ∷ 0 ∷ 3 ∷ [], false)
    ∷ (5 ∷ 0 ∷ 0 ∷ 0 ∷ 0 ∷ 0 ∷ 0 ∷ 2 ∷ [], true)
    ∷ (5 ∷ 0 ∷ 0 ∷ 0 ∷ 0 ∷ 0 ∷ 1 ∷ 1 ∷ [], false)
    ∷ (7 ∷ 0 ∷ 0 ∷ 0 ∷ 0 ∷ 0 ∷ 0 ∷ 2 ∷ [], true)
    ∷ (7 ∷ 0 ∷ 0 ∷ 0 ∷ 0 ∷ 0 ∷ 1 ∷ 3 ∷ [], false)
    -- every other kind has none
    ∷ (0 ∷ 0 ∷ 0 ∷ 0 ∷ 0 ∷ 0 ∷ 0 ∷ 2 ∷ [], false)
    ∷ (1 ∷ 1 ∷ 0 ∷ 0 ∷ 0 ∷ 0 ∷ 0 ∷ 2 ∷ [], false)
    ∷ (2 ∷ 0 ∷ 0 ∷ 0 ∷ 0 ∷ 0 ∷ 0 ∷ 2 ∷ [], false)
    ∷ (3 ∷ 0 ∷ 0 ∷ 0 ∷ 0 ∷ 0 ∷ 0 ∷ 2 ∷ [], false)
    ∷ (6 ∷ 0 ∷ 0 ∷ 0 ∷ 0 ∷ 1 ∷ 0 ∷ 0 ∷ [], true)
    ∷ (6 ∷ 0 ∷ 0 ∷ 0 ∷ 0 ∷ 1 ∷ 0 ∷ 2 ∷ [], false)
    ∷ (8 ∷ 0 ∷ 0 ∷ 0 ∷ 0 ∷ 1 ∷ 0 ∷ 2 ∷ [], false)
    ∷ (9 ∷ 0 ∷ 0 ∷ 0 ∷ 0 ∷ 0 ∷ 0 ∷ 2 ∷ [], false)
    ∷ (10 ∷ 0 ∷ 0 ∷ 0 ∷ 0 ∷ 0 ∷ 0 ∷ 2 ∷ [], false)
    ∷ []

classes : holds load_and_dump outcomes × holds right node_words
unfolding holds load_and_dump right
classes = (refl, refl)

-- ---- "paired or both absent", shown of arrays

-- paired arrays have both a class or none
pub both_or_none : {P Q : Arena} {R : ℕ → ℕ → Type 0} → Pairing P Q R → (a b s n v t m w : ℕ) → R a b → node P a ≡ array s n v → node Q b ≡ array t m w → optional_present v ≡ optional_present w
unfolding header
both_or_none {P} {Q} p a b s n v t m w r e f = ap (λ (h : Header). h.class) (sym (ap (header P) e) ∙ p.headers a b r ∙ ap (header Q) f)

-- and the class names are paired
pub paired_classes : {P Q : Arena} {R : ℕ → ℕ → Type 0} → Pairing P Q R → (a b s n c t m d : ℕ) → R a b → node P a ≡ array s n (suc c) → node Q b ≡ array t m (suc d) → R c d
unfolding links optional_node
paired_classes {P} {Q} {R} p a b s n c t m d r e f = first (rw (e, f) at (p.members a b r))
  where
    first : Paired R (c ∷ range P.references s n) (d ∷ range Q.references t m) → R c d
    first (one x w) = x
