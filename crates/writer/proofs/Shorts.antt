-- The loop over integers and links that come one after the other.
use Prim.Native.Nat.{ℕ, zero, suc, ◌+◌, ◌-◌, ◌*◌, ◌≤◌, ◌<◌}
use native.Mathlib.Omega.{arith}
use mathlib.Core.Path.{◌≡◌, refl, sym, ap, ◌∙◌, subst}
use mathlib.Core.List.{List, ◌∷◌}
use mathlib.Core.Logic.{inl, inr}
use lib.ListN.{length, get_or}
use lib.Seq.{sets}
use Rattle.definition.specs.Run.{pure}
use Rattle.definition.specs.Node.{width}
use Rattle.definition.specs.Arena.{Arena, range}
use Rattle.definition.specs.Dump.{Writer, write, write_elements, write_value}
use Rattle.well_formed.specs.Right.{ListIn}
use Rattle.writer.specs.declared.Progress.{Progress}
use Rattle.writer.specs.Held.{buffers, with_written, Noded, Listed, Goes, Shorts, ShortKind, Short}
use Rattle.writer.specs.Laws.{then, still, goes_as, goes_first}
use Rattle.writer.proofs.Steps.{tagged_goes}
use Rattle.writer.proofs.Members.{member_below, element_next, elements_begin}

-- ---- one of them

pub short_stored : {A : Arena} {room : ℕ} {m : Writer} {sc out out' : List ℕ} {c : Progress} {p : ℕ} (at k : ℕ) (bs : List ℕ) → c.written ≡ at → at + 1 + length bs ≤ length out → out' ≡ sets out at (k ∷ bs) → p ≡ at + 1 + length bs → Goes A room m (buffers sc out) c (write room (k ∷ bs)) (buffers sc out) c → Shorts A room m sc out c p out'
short_stored {p = zero} at k bs e h o q G = absurd (omega (arith, q))
short_stored {out = out} {out'} {c} {p = suc p} at k bs e h o q G =
    let z : out' ≡ sets out (c.written) (k ∷ bs) = o ∙ ap (λ (i : ℕ). sets out i (k ∷ bs)) (sym e) in
    record { shorts = then G (tagged_goes k bs (omega (arith, e)) z (omega (arith, q, e))) }

pub short_none : {A : Arena} {room : ℕ} {m : Writer} {sc out out' : List ℕ} {c : Progress} {p : ℕ} → p ≡ 0 → Shorts A room m sc out c p out' → out' ≡ out
short_none {p = zero} e k = k.shorts
short_none {p = suc p} e k = absurd (omega (arith, e))

short_some : {A : Arena} {room : ℕ} {m : Writer} {sc out out' : List ℕ} {c : Progress} {p : ℕ} → (p ≡ 0 → ⊥) → Shorts A room m sc out c p out' → Goes A room m (buffers sc out) c (pure tt) (buffers sc out') (with_written c p)
short_some {p = zero} e k = absurd (e refl)
short_some {p = suc p} e k = k.shorts

-- what is neither an integer nor a symbol with a number
pub not_short : {no sc : List ℕ} {size at v : ℕ} → (get_or no (v * width) 0 ≡ 2 → ⊥) → (get_or no (v * width) 0 ≡ 3 → get_or sc v 0 ≡ 0) → Short no sc size at v → ⊥
not_short {no} {sc} {v = v} f g s = go s.kind
  where
    go : ShortKind no sc v → ⊥
    go (inl e) = f e
    go (inr (e, n)) = n (g e)

pub short_as : {no sc : List ℕ} {size size' at at' v v' : ℕ} → size ≡ size' → at ≡ at' → v ≡ v' → Short no sc size at v → Short no sc size' at' v'
short_as {no} {sc} e f g s = record { free = omega (arith, e, f, s.free); kind = subst (λ (x : ℕ). ShortKind no sc x) g s.kind }

-- ---- what the loop keeps: the counts are as they were, and `at` is to be that of the bytes

pub record Running (no re sc out₀ : List ℕ) (c₀ : Progress) (start n : ℕ) (out : List ℕ) (c : Progress) (at i : ℕ) : Type 0 where
  pub within : i ≤ n
  pub output_length : length out ≡ length out₀
  pub same_counts : c ≡ c₀
  pub goes : (A : Arena) (room limit levels : ℕ) → Noded A no → Listed A re → ListIn A start n → Goes A room (write_elements (write_value room A limit (suc levels)) (range A.references start n)) (buffers sc out₀) c₀ (write_elements (write_value room A limit (suc levels)) (range A.references (start + i) (n - i))) (buffers sc out) (with_written c₀ at)

pub running_start : {no re sc out : List ℕ} {c : Progress} {start n : ℕ} → Running no re sc out c start n out c c.written 0
running_start {sc = sc} {out} {c} {start} {n} = record {
  within = omega arith;
  output_length = refl;
  same_counts = refl;
  goes = λ A room limit levels N L I. goes_as (elements_begin (write_value room A limit (suc levels)) A.references start n) still;
}

module _ {no re sc out₀ : List ℕ} {c₀ : Progress} {start n : ℕ} {out : List ℕ} {c : Progress} {at i : ℕ} (R : Running no re sc out₀ c₀ start n out c at i) where
  pub running_on : i < n → (v p : ℕ) (out' : List ℕ) → v ≡ get_or re (start + i) 0 → length out' ≡ length out → (p ≡ 0 → ⊥) → ((A : Arena) (room limit levels : ℕ) (counts : Progress) → Noded A no → v < length A.nodes → counts.written ≡ at → Shorts A room (write_value room A limit (suc levels) v) sc out counts p out') → Running no re sc out₀ c₀ start n out' c p (i + 1)
  running_on h v p out' e z k f = record {
    within = omega arith;
    output_length = z ∙ R.output_length;
    same_counts = R.same_counts;
    goes = λ A room limit levels N L I.
        let s = short_some k (f A room limit levels (with_written c₀ at) N (member_below start n i v L I h e) refl) in
        then (R.goes A room limit levels N L I) (goes_as (element_next start n i v L I h e (write_value room A limit (suc levels))) (goes_first _ s));
  }

  pub running_stop : {out' : List ℕ} → out' ≡ out → (A : Arena) (room limit levels : ℕ) → Noded A no → Listed A re → ListIn A start n → Goes A room (write_elements (write_value room A limit (suc levels)) (range A.references start n)) (buffers sc out₀) c₀ (write_elements (write_value room A limit (suc levels)) (range A.references (start + i) (n - i))) (buffers sc out') (with_written c at)
  running_stop {out'} e A room limit levels N L I =
      subst (λ (o : List ℕ). Goes A room (write_elements (write_value room A limit (suc levels)) (range A.references start n)) (buffers sc out₀) c₀ (write_elements (write_value room A limit (suc levels)) (range A.references (start + i) (n - i))) (buffers sc o) (with_written c at)) (sym e)
      (subst (λ (x : Progress). Goes A room (write_elements (write_value room A limit (suc levels)) (range A.references start n)) (buffers sc out₀) c₀ (write_elements (write_value room A limit (suc levels)) (range A.references (start + i) (n - i))) (buffers sc out) (with_written x at)) (sym R.same_counts) (R.goes A room limit levels N L I))

  -- after the last
  pub running_end : n ≤ i → (A : Arena) (room limit levels : ℕ) → Noded A no → Listed A re → ListIn A start n → Goes A room (write_elements (write_value room A limit (suc levels)) (range A.references start n)) (buffers sc out₀) c₀ (write_elements (write_value room A limit (suc levels)) (range A.references (start + n) (n - n))) (buffers sc out) (with_written c at)
  running_end h A room limit levels N L I =
      let e : i ≡ n = omega (arith, R.within) in
      subst (λ (x : ℕ). Goes A room (write_elements (write_value room A limit (suc levels)) (range A.references start n)) (buffers sc out₀) c₀ (write_elements (write_value room A limit (suc levels)) (range A.references (start + x) (n - x))) (buffers sc out) (with_written c at)) e (running_stop refl A room limit levels N L I)
