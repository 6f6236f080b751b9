-- The proof of read_class.
use native.Mathlib.Omega.{arith}
use Rattle.load_state.specs.Laws.{lead_after}
use Rattle.leaf_reader.proofs.Classes.{none_past, no_class, a_class, follows_none}
use Rattle.leaf_reader.proofs.read_class.Goals as goal

pub returns-then-input-at : goal.returns-then-input-at
returns-then-input-at c =
    let n = none_past c.args.input.now (c.args.c.now.at) c.if-input-at.true in
    record { meets = λ room limit re ob. no_class n; follows = (follows_none n, omega arith) }

pub returns-then-input-at-ne-USER_CLASS : goal.returns-then-input-at-ne-USER_CLASS
returns-then-input-at-ne-USER_CLASS c = record { meets = λ room limit re ob. no_class c.if-input-at-ne-USER_CLASS.true; follows = (follows_none c.if-input-at-ne-USER_CLASS.true, omega arith) }

pub returns : goal.returns
returns c =
    let k = c.read_class_name.ensures in
    let e = c.if-input-at-ne-USER_CLASS.false in
    record { meets = λ room limit re ob. lead_after (a_class e) (k.meets room limit re ob); follows = k.follows }
