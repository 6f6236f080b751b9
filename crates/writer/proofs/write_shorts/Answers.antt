-- The proof of write_shorts.
use native.Mathlib.Omega.{arith}
use mathlib.Core.Path.{refl, ◌∙◌}
use Rattle.writer.specs.Held.{with_written}
use Rattle.writer.proofs.Members.{member_below}
use Rattle.writer.proofs.Shorts.{running_start, running_on, running_stop, running_end, short_none, short_as}
use Rattle.writer.proofs.write_shorts.Goals as goal

pub loop-i-init : goal.loop-i-init
loop-i-init c =
    running_start

pub bounds-references-start : goal.bounds-references-start
bounds-references-start c =
    let pre = c.requires in
    let loop-test = c.loop-i-test in
    omega (arith, pre.fact.2.inside, pre.fact.1.references_fit, loop-test.true)

pub write_short-p-requires : goal.write_short-p-requires
write_short-p-requires c =
    let a = c.args in
    let pre = c.requires in
    let turn = c.loop-i in
    let loop-test = c.loop-i-test in
    let f = pre.fact in
    let b = member_below a.start a.n turn.i _ f.1 f.2 loop-test.true refl in
    (omega (arith, b, f.0.nodes_fit), omega (arith, b, pre.holds.scratch_fits))

pub shape_of-output-then-p-eq0 : goal.shape_of-output-then-p-eq0
shape_of-output-then-p-eq0 c =
    let write-short = c.write_short-p in
    let turn = c.loop-i in
    write-short.auto.output ∙ turn.invariant.output_length

pub returns-then-p-eq0 : goal.returns-then-p-eq0
returns-then-p-eq0 c =
    let a = c.args in
    let pre = c.requires in
    let turn = c.loop-i in
    let loop-test = c.loop-i-test in
    let write-short = c.write_short-p in
    let f = pre.fact in
    let b = member_below a.start a.n turn.i _ f.1 f.2 loop-test.true refl in
    record { upper_bound = turn.invariant.within; goes = running_stop turn.invariant (short_none c.if-p-eq0.true (write-short.ensures.shorts pre.arena 0 0 0 (with_written a.c.now turn.at) f.0 b refl)); fact = λ l k. write-short.ensures.fact (short_as write-short.auto.output refl refl k) c.if-p-eq0.true }

pub loop-i-preserved : goal.loop-i-preserved
loop-i-preserved c =
    let turn = c.loop-i in
    let loop-test = c.loop-i-test in
    let write-short = c.write_short-p in
    running_on turn.invariant loop-test.true _ _ _ refl write-short.auto.output c.if-p-eq0.false write-short.ensures.shorts

pub shape_of-output : goal.shape_of-output
shape_of-output c =
    c.loop-i.invariant.output_length

pub returns : goal.returns
returns c =
    record { upper_bound = omega arith; goes = running_end c.loop-i.invariant c.loop-i-test.false; fact = λ l k. omega (arith, l) }
