-- The proof of probe.
use native.Mathlib.Omega.{arith}
use Prim.Native.Nat.{ℕ, suc, ◌+◌, ◌%◌}
use native.Mathlib.Nat.{mod-eq_of_lt, add-zero}
use mathlib.Core.Path.{◌≡◌, sym, ap, ◌∙◌, subst, refl}
use mathlib.Core.Logic.{inl, inr}
use lib.ListN.{length, get_or}
use Rattle.definition.specs.Node.{nil}
use Rattle.definition.specs.Arena.{named}
use Rattle.definition.specs.Buckets.{bucket}
use Rattle.load_state.specs.Holds.{by_buckets, Symbolic, span}
use Rattle.symbol_search.proofs.Probing.{passing_more, word_at, word_inside, next_round, not_empty, word_symbolic, never_round}
use Rattle.load_state.specs.Needs.{length_span}
use Rattle.symbol_search.proofs.probe.Goals as goal

pub last_byte-last-requires : goal.last_byte-last-requires
last_byte-last-requires c =
    let p = c.requires in (p.0, p.1)

pub loop-p-init : goal.loop-p-init
loop-p-init c =
    (omega arith, sym (ap (λ (j : ℕ). j % length c.args.buckets.now) (add-zero c.args.start) ∙ mod-eq_of_lt c.requires.2), λ room s re sy ob k H q l. absurd (omega (arith, l)))

pub offset_bounds-buckets-i : goal.offset_bounds-buckets-i
offset_bounds-buckets-i c =
    let i = word_inside c.args.buckets.now (c.args.start + c.loop-p.p) c.loop-p.i c.args.start c.loop-p.invariant.1 c.requires.2 in
    let m = ((c.requires.3.6.known.names refl).hashed (not_empty c.requires.2)).short in
    record { fits = omega (arith, i, m) }

pub bounds-buckets-i : goal.bounds-buckets-i
bounds-buckets-i c =
    word_inside c.args.buckets.now (c.args.start + c.loop-p.p) c.loop-p.i c.args.start c.loop-p.invariant.1 c.requires.2

pub returns-then-h-eq0 : goal.returns-then-h-eq0
returns-then-h-eq0 c =
    let l = c.loop-p-test.true in
    let e = word_at c.args.buckets.now (c.args.start + c.loop-p.p) c.loop-p.i c.loop-p.invariant.1 in
    record { upper_bound = l; probe = λ room s re sy ob k H. record { inside = l; before = c.loop-p.invariant.2 room s re sy ob k H; ends = inl (sym e ∙ c.if-h-eq0.true) } }

pub has_name-requires : goal.has_name-requires
has_name-requires c =
    let p = c.requires in
    let a = c.args in
    let H = p.3.6 in
    let e = word_at a.buckets.now (a.start + c.loop-p.p) c.loop-p.i c.loop-p.invariant.1 in
    let y = word_symbolic H refl (not_empty p.2) (a.start + c.loop-p.p) (λ z. c.if-h-eq0.false (e ∙ z)) in
    (p.0, p.1, (length_span a.input.now a.at a.n p.0 p.1, c.last_byte-last.ensures), (p.3.0, p.3.1, p.3.2, by_buckets p.3.3 a.buckets.now, p.3.4, p.3.5, subst (λ (h : ℕ). Symbolic (get_or p.3.1.nodes h nil)) (sym e) y, H))

pub returns-then-has_name : goal.returns-then-has_name
returns-then-has_name c =
    let l = c.loop-p-test.true in
    let a = c.args in
    let e = word_at a.buckets.now (a.start + c.loop-p.p) c.loop-p.i c.loop-p.invariant.1 in record {
      upper_bound = l;
      probe = λ room s re sy ob k H.
          let y = subst (λ (h : ℕ). Symbolic (get_or s.nodes h nil)) (sym e) (word_symbolic H refl (not_empty c.requires.2) (a.start + c.loop-p.p) (λ z. c.if-h-eq0.false (e ∙ z))) in
          record { inside = l; before = c.loop-p.invariant.2 room s re sy ob k H; ends = inr (ap (λ (h : ℕ). named s.bytes (span a.input.now a.at a.n) (get_or s.nodes h nil)) (sym e) ∙ sym (c.has_name.ensures room s re (by_buckets sy a.buckets.now) ob k y H) ∙ c.if-has_name.true) };
    }

pub next_word-i-requires : goal.next_word-i-requires
next_word-i-requires c =
    word_inside c.args.buckets.now (c.args.start + c.loop-p.p) c.loop-p.i c.args.start c.loop-p.invariant.1 c.requires.2

pub loop-p-preserved : goal.loop-p-preserved
loop-p-preserved c =
    let a = c.args in
    let B = a.buckets.now in
    let k = a.start + c.loop-p.p in
    let i = c.loop-p.i in
    let e = word_at B k i c.loop-p.invariant.1 in
    let o : a.start + (c.loop-p.p + 1) ≡ suc k = omega arith in (
      omega (arith, c.loop-p-test.true),
      next_round k i c.next_word-i.result (length B) c.loop-p.invariant.1 (word_inside B k i a.start c.loop-p.invariant.1 c.requires.2) c.next_word-i.ensures.0 c.next_word-i.ensures.1 ∙ ap (λ (j : ℕ). j % length B) (sym o),
      λ room s re sy ob m H.
          let z : bucket B k ≡ 0 → ⊥ = λ u. c.if-h-eq0.false (e ∙ u) in
          let y = subst (λ (h : ℕ). Symbolic (get_or s.nodes h nil)) (sym e) (word_symbolic H refl (not_empty c.requires.2) k z) in
          passing_more s (span a.input.now a.at a.n) B a.start c.loop-p.p (c.loop-p.invariant.2 room s re sy ob m H) z (ap (λ (h : ℕ). named s.bytes (span a.input.now a.at a.n) (get_or s.nodes h nil)) (sym e) ∙ sym (c.has_name.ensures room s re (by_buckets sy B) ob m y H) ∙ c.if-has_name.false),
    )

pub returns : goal.returns
returns c =
    let p = c.requires in
    let h = p.3 in
    let q = c.loop-p.invariant.2 h.0 h.1 h.2 h.3 h.4 h.5 h.6 in absurd (never_round h.6 refl (not_empty p.2) c.args.start (λ j l. (q j (omega (arith, l, c.loop-p-test.false))).0))
