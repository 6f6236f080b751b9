-- The proof of read_magnitude.
use native.Mathlib.Omega.{arith}
use mathlib.Core.Path.{refl}
use mathlib.Core.Bool.{false}
use Rattle.std.proofs.lemmas.Result.{IfOk-weaker}
use Rattle.definition.specs.Magnitude.{bignum_row}
use Rattle.definition.specs.Load.{read_magnitude}
use Rattle.definition.specs.Node.{kind, bignum}
use Rattle.load_state.specs.Laws.{then, held_goes, lead_after}
use Rattle.leaf_reader.proofs.Bignums.{magnitude_read, magnitude_over}
use Rattle.load_state.specs.Needs.{space_fits}
use Rattle.load_state.specs.Names.{other_kind}
use Rattle.leaf_reader.proofs.read_magnitude.Goals as goal

pub returns-then-m-ge-TOO_BIG : goal.returns-then-m-ge-TOO_BIG
returns-then-m-ge-TOO_BIG c =
    let p = c.requires in
    let e = c.magnitude_at-m.ensures in
    record { meets = λ room limit re by sy. magnitude_over _ _ _ p.2 p.1 e.value e.input_value c.if-m-ge-TOO_BIG.true (c.too_big.ensures limit); upper_bound = tt }

pub add_object_node-requires : goal.add_object_node-requires
add_object_node-requires c =
    let p = c.requires in
    let e = c.magnitude_at-m.ensures in
    let G = held_goes {m = λ room. read_magnitude _ room _ _} {m' = λ room. _} p.3.3 (λ room. then (magnitude_read _ _ _ p.2 p.1 e.value e.input_value c.if-m-ge-TOO_BIG.false) (c.note_bignum.ensures _ room _)) in
    (omega (arith, p.3.3), space_fits G)

pub returns : goal.returns
unfolding kind bignum_row
returns c =
    let p = c.requires in
    let e = c.magnitude_at-m.ensures in
    let o = c.add_object_node.ensures in record {
      meets = λ room limit re by sy.
          lead_after (magnitude_read _ _ _ p.2 p.1 e.value e.input_value c.if-m-ge-TOO_BIG.false)
          (lead_after (c.note_bignum.ensures _ room _) (o.by_index _ room limit _ re by sy c.sign_word.ensures (other_kind (bignum 0 0 false) refl)));
      upper_bound = IfOk-weaker c.add_object_node.result _ _ (λ h q. q.0) o.upper_bound;
    }
