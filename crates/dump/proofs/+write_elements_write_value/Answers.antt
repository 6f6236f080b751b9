-- The proof of the cycle of write_elements, write_value.
use native.Mathlib.Omega.{arith}
use mathlib.Core.Path.{refl, ◌∙◌}
use Rattle.writer.specs.Laws.{went, lead_as, lead_stop, ready_as}
use Rattle.writer.proofs.Members.{member_below, value_row}
use Rattle.object_writer.specs.Laws.{head_whole}
use Rattle.dump.proofs.Loops.{turning_start, shorts_go, rest_ready, turned, all_turned, element_deep, element_goes, element_stops, down, down_list, list_ready, list_stops, no_default, zero_default, default_ready, with_default, lasting_start, lasting_next, value_stops}
use Rattle.dump.proofs.+write_elements_write_value.Goals as goal

pub write_elements-loop-i-init : goal.write_elements-loop-i-init
write_elements-loop-i-init t c =
    turning_start c.requires

pub write_elements-returns-then-levels-eq0 : goal.write_elements-returns-then-levels-eq0
write_elements-returns-then-levels-eq0 t c =
    element_deep c.loop-i.invariant c.loop-i-test.true c.if-levels-eq0.true

pub write_elements-overflow_add-start : goal.write_elements-overflow_add-start
write_elements-overflow_add-start t c =
    omega (arith, c.loop-i-test.true, c.requires.fact.2.inside, c.requires.fact.1.references_fit, c.requires.fact.1.references_small)

pub write_elements-write_shorts-requires : goal.write_elements-write_shorts-requires
write_elements-write_shorts-requires t c =
    rest_ready c.loop-i.invariant

pub write_elements-overflow_add-j : goal.write_elements-overflow_add-j
write_elements-overflow_add-j t c =
    omega (arith, c.write_shorts.ensures.upper_bound, c.loop-i-test.true, c.requires.fact.2.inside, c.requires.fact.1.references_fit, c.requires.fact.1.references_small)

pub write_elements-returns-then-n-j : goal.write_elements-returns-then-n-j
write_elements-returns-then-n-j t c =
    let a = c.args in
    let R = c.loop-i.invariant in
    let T = turned R _ (λ A room limit L l I. shorts_go a.start a.n a.levels c.loop-i.i _ _ c.if-levels-eq0.false refl c.write_shorts.ensures.goes A room limit L l I R.within) (omega (arith, c.write_shorts.ensures.upper_bound, c.loop-i-test.true)) refl c.write_shorts.auto.output in
    all_turned T c.if-n-j.true

pub write_elements-overflow_add-start-in-loop-i : goal.write_elements-overflow_add-start-in-loop-i
write_elements-overflow_add-start-in-loop-i t c =
    omega (arith, c.if-n-j.false, c.requires.fact.2.inside, c.requires.fact.1.references_fit, c.requires.fact.1.references_small)

pub write_elements-offset_bounds-references-start : goal.write_elements-offset_bounds-references-start
write_elements-offset_bounds-references-start t c =
    omega (arith, c.if-n-j.false, c.requires.fact.2.inside, c.requires.fact.1.references_fit, c.requires.fact.1.references_small)

pub write_elements-bounds-references-start : goal.write_elements-bounds-references-start
write_elements-bounds-references-start t c =
    omega (arith, c.if-n-j.false, c.requires.fact.2.inside, c.requires.fact.1.references_fit)

pub write_elements-write_value-requires : goal.write_elements-write_value-requires
write_elements-write_value-requires t c =
    let a = c.args in
    let R = c.loop-i.invariant in
    let T = turned R _ (λ A room limit L l I. shorts_go a.start a.n a.levels c.loop-i.i _ _ c.if-levels-eq0.false refl c.write_shorts.ensures.goes A room limit L l I R.within) (omega (arith, c.write_shorts.ensures.upper_bound, c.loop-i-test.true)) refl c.write_shorts.auto.output in
    (down _ _ c.decreases, ready_as (λ A f. (f.0, f.1, member_below a.start a.n _ _ f.1 f.2 c.if-n-j.false refl)) T.held)

pub write_elements-returns-in_err-write_value : goal.write_elements-returns-in_err-write_value
write_elements-returns-in_err-write_value t c =
    let a = c.args in
    let R = c.loop-i.invariant in
    let T = turned R _ (λ A room limit L l I. shorts_go a.start a.n a.levels c.loop-i.i _ _ c.if-levels-eq0.false refl c.write_shorts.ensures.goes A room limit L l I R.within) (omega (arith, c.write_shorts.ensures.upper_bound, c.loop-i-test.true)) refl c.write_shorts.auto.output in
    element_stops T _ c.if-n-j.false refl c.from_residual.ensures c.in_err-write_value.ensures

pub write_elements-loop-i-preserved : goal.write_elements-loop-i-preserved
write_elements-loop-i-preserved t c =
    let a = c.args in
    let R = c.loop-i.invariant in
    let T = turned R _ (λ A room limit L l I. shorts_go a.start a.n a.levels c.loop-i.i _ _ c.if-levels-eq0.false refl c.write_shorts.ensures.goes A room limit L l I R.within) (omega (arith, c.write_shorts.ensures.upper_bound, c.loop-i-test.true)) refl c.write_shorts.auto.output in
    turned T _ (element_goes T _ c.if-n-j.false refl c.in_ok-write_value.ensures) (omega (arith, c.if-n-j.false)) c.write_value.auto.scratch c.write_value.auto.output

pub write_elements-returns : goal.write_elements-returns
write_elements-returns t c =
    all_turned c.loop-i.invariant c.loop-i-test.false

pub write_value-loop-left-init : goal.write_value-loop-left-init
write_value-loop-left-init t c =
    lasting_start c.requires

pub write_value-returns-in-Whole : goal.write_value-returns-in-Whole
write_value-returns-in-Whole t c =
    let w = c.loop-left in
    w.invariant.goes (λ A room limit l li b. lead_as (value_row room A limit w.left w.h c.loop-left-test.true) (went (head_whole c.in-Whole.is (c.in_ok-open_value.ensures.heads A room limit l li b))))

pub write_value-returns-in_err-open_value : goal.write_value-returns-in_err-open_value
write_value-returns-in_err-open_value t c =
    let w = c.loop-left in
    w.invariant.goes (λ A room limit l li b. lead_as (value_row room A limit w.left w.h c.loop-left-test.true) (lead_stop _ c.from_residual.ensures (c.in_err-open_value.ensures.heads A room limit l li b).heads))

pub write_value-write_elements-requires : goal.write_value-write_elements-requires
write_value-write_elements-requires t c =
    let w = c.loop-left in
    (down_list _ _ _ w.invariant.within c.loop-left-test.true c.decreases, list_ready w.h w.left _ _ c.loop-left-test.true c.in_default.not-Whole refl c.list_words.ensures c.in_ok-open_value.ensures.heads c.in_ok-open_value.ensures.members_in w.invariant.held)

pub write_value-returns-in_err-write_elements : goal.write_value-returns-in_err-write_elements
write_value-returns-in_err-write_elements t c =
    let w = c.loop-left in
    w.invariant.goes (list_stops w.h w.left _ _ c.loop-left-test.true c.in_default.not-Whole refl c.list_words.ensures c.in_ok-open_value.ensures.heads c.in_ok-open_value.ensures.members_in c.from_residual-in_err-write_elements.ensures c.in_err-write_elements.ensures)

pub write_value-returns-then-k-ne-HASH : goal.write_value-returns-then-k-ne-HASH
write_value-returns-then-k-ne-HASH t c =
    let w = c.loop-left in
    w.invariant.goes (no_default w.h w.left _ _ c.loop-left-test.true c.in_default.not-Whole refl c.list_words.ensures c.in_ok-open_value.ensures.heads c.in_ok-open_value.ensures.members_in c.in_ok-write_elements.ensures c.if-k-ne-HASH.true)

pub write_value-returns-then-d-eq0 : goal.write_value-returns-then-d-eq0
write_value-returns-then-d-eq0 t c =
    let w = c.loop-left in
    w.invariant.goes (zero_default w.h w.left _ _ c.loop-left-test.true c.in_default.not-Whole refl c.list_words.ensures c.in_ok-open_value.ensures.heads c.in_ok-open_value.ensures.members_in c.in_ok-write_elements.ensures c.if-k-ne-HASH.false c.if-d-eq0.true)

pub write_value-loop-left-preserved : goal.write_value-loop-left-preserved
write_value-loop-left-preserved t c =
    let w = c.loop-left in
    lasting_next w.invariant (c.write_elements.auto.scratch ∙ c.open_value.auto.scratch) (c.write_elements.auto.output ∙ c.open_value.auto.output)
    (default_ready w.h w.left _ _ c.loop-left-test.true c.in_default.not-Whole refl c.list_words.ensures c.in_ok-open_value.ensures.heads c.in_ok-open_value.ensures.members_in c.in_ok-write_elements.ensures c.if-k-ne-HASH.false _ c.if-d-eq0.false refl w.invariant.held)
    (λ _ _ _ _ m. with_default w.h w.left _ _ c.loop-left-test.true c.in_default.not-Whole refl c.list_words.ensures c.in_ok-open_value.ensures.heads c.in_ok-open_value.ensures.members_in c.in_ok-write_elements.ensures c.if-k-ne-HASH.false _ c.if-d-eq0.false refl m)

pub write_value-returns : goal.write_value-returns
write_value-returns t c =
    value_stops c.loop-left.invariant c.loop-left-test.false
