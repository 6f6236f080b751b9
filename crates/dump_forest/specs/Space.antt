-- What a described forest takes: the weight of the nodes that it numbers.
use Rattle.std.specs.Prelude.{ℕ, ◌+◌, ◌≡◌, Bool, List, ◌++◌, length}
use Rattle.std.proofs.Common.{ap, arith}
use Rattle.definition.specs.Graph.{Header}
use Rattle.lists.specs.Lists.{At}
use Rattle.graph.specs.Sums.{sum_l, total_snoc, weight, weigh}
use Rattle.graph.specs.Forest.{Node, sym, box, Num, add_o, add_s, F, f_box, f_sym, list_words, refs_of, bytes_of, node_words, node_bytes}
use Rattle.graph.specs.Describe.{E, e_end, e_leaf, e_box, e_ref, e_sym, e_symref}

pub record Takes (t : List Node) (g : F) (σ σ' : Num) : Type 0 where
  pub words : sum_l (weigh node_words t) σ'.objs ≡ sum_l (weigh node_words t) σ.objs + refs_of g
  pub bytes : sum_l (weigh node_bytes t) σ'.objs + sum_l (weigh node_bytes t) σ'.syms ≡ sum_l (weigh node_bytes t) σ.objs + sum_l (weigh node_bytes t) σ.syms + bytes_of g

takes_box : (t : List Node) (h : Header) (p f r : F) (v : ℕ) (ms : List ℕ) (σ σ₁ σ₂ σ' : Num) → At t v (box h ms)
    → Takes t p σ σ₁ → Takes t f (add_o v σ₁) σ₂ → Takes t r σ₂ σ' → Takes t (f_box h p f r) σ σ'
takes_box t h p f r v ms σ σ₁ σ₂ σ' a x y z =
    let w : weigh node_words t v ≡ list_words h = ap (weight node_words) a in
    let b : weigh node_bytes t v ≡ length h.bytes = ap (weight node_bytes) a in
    let s₁ = total_snoc (weigh node_words t) σ₁.objs v in
    let s₂ = total_snoc (weigh node_bytes t) σ₁.objs v in
    record {
      words = omega (arith, x.words, y.words, z.words);
      bytes = omega (arith, x.bytes, y.bytes, z.bytes);
    }

takes_symbol : (t : List Node) (m : Bool) (b : List ℕ) (r : F) (v : ℕ) (σ σ' : Num) → At t v (sym b) → Takes t r (add_s v σ) σ' → Takes t (f_sym m b r) σ σ'
takes_symbol t m b r v σ σ' a z =
    let w : weigh node_bytes t v ≡ length b = ap (weight node_bytes) a in
    let s = total_snoc (weigh node_bytes t) σ.syms v in
    record {
      words = z.words;
      bytes = omega (arith, z.bytes);
    }

pub takes : {t : List Node} {g : F} {vs : List ℕ} {σ σ' : Num} → E t g vs σ σ' → Takes t g σ σ'
takes e_end = record { words = omega arith; bytes = omega arith }
takes (e_leaf a d) = let z = takes d in record { words = z.words; bytes = z.bytes }
takes {t = t} {σ' = σ'} (e_box {h = h} {p = p} {f = f} {r = r} {v = v} {us = us} {ms = ms} {σ = σ} {σ₁ = σ₁} {σ₂ = σ₂} a d₀ n d₁ d) =
    takes_box t h p f r v (us ++ ms) σ σ₁ σ₂ σ' a (takes d₀) (takes d₁) (takes d)
takes (e_ref a n d) = let z = takes d in record { words = z.words; bytes = z.bytes }
takes {t = t} {σ' = σ'} (e_sym {m = m} {b = b} {r = r} {v = v} {σ = σ} a n d) = takes_symbol t m b r v σ σ' a (takes d)
takes (e_symref a n d) = let z = takes d in record { words = z.words; bytes = z.bytes }
