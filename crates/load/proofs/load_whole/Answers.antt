-- The proof of load_whole.
use native.Mathlib.Omega.{arith}
use mathlib.Core.Path.{refl, ◌∙◌}
use Rattle.definition.specs.Load.{lists, room_of}
use Rattle.load_state.specs.Laws.{held}
use Rattle.value_reader.specs.Root.{whole}
use Rattle.load.proofs.Whole.{held_begin, not_taken, loaded, load_refused, lists_same, emptied}
use Rattle.load.proofs.load_whole.Goals as goal

pub returns-then-w-ne0 : goal.returns-then-w-ne0
returns-then-w-ne0 c =
    let a = c.args in
    let T = lists a.nodes.now a.references.now a.bytes.now a.symbols.now a.objects.now in
    let e = not_taken a.input.now T a.buckets.now a.limit a.compared a.wrong _ c.wrong_slice-w.ensures.value c.if-w-ne0.true in
    record { objects_after = e.0; objects_after_2 = e.1; buckets_after = e.2 }

pub put_node-requires : goal.put_node-requires
put_node-requires c =
    let F = c.wrong_slice-w.ensures.allowed c.if-w-ne0.false in
    omega (arith, F.whole, F.one)

pub read_root-root-requires : goal.read_root-root-requires
read_root-root-requires c =
    let a = c.args in
    let T = lists a.nodes.now a.references.now a.bytes.now a.symbols.now a.objects.now in
    held_begin a.input.now T a.buckets.now a.compared a.wrong (c.wrong_slice-w.ensures.allowed c.if-w-ne0.false) c.requires.0 c.requires.1 c.put_node.ensures (emptied a.buckets.now a.buckets.now c.fill_from.ensures refl)

pub overflow_mul-c : goal.overflow_mul-c
overflow_mul-c c =
    -- what is held after the root value
    let a = c.args in
    let T = lists a.nodes.now a.references.now a.bytes.now a.symbols.now a.objects.now in
    let H = held_begin a.input.now T a.buckets.now a.compared a.wrong (c.wrong_slice-w.ensures.allowed c.if-w-ne0.false) c.requires.0 c.requires.1 c.put_node.ensures (emptied a.buckets.now a.buckets.now c.fill_from.ensures refl) in
    let root = held {m = λ room. whole a.input.now room a.limit} {m' = λ room. _} H (λ room. c.in-Ok.ensures.meets room) in
    let G = root.holds in
    record { fits = omega (arith, G.counted.count_nodes, G.counted.room_nodes, G.fixed.small.nodes) }

pub fill_from-requires-in-Ok : goal.fill_from-requires-in-Ok
fill_from-requires-in-Ok c =
    -- what is held after the root value
    let a = c.args in
    let T = lists a.nodes.now a.references.now a.bytes.now a.symbols.now a.objects.now in
    let H = held_begin a.input.now T a.buckets.now a.compared a.wrong (c.wrong_slice-w.ensures.allowed c.if-w-ne0.false) c.requires.0 c.requires.1 c.put_node.ensures (emptied a.buckets.now a.buckets.now c.fill_from.ensures refl) in
    let root = held {m = λ room. whole a.input.now room a.limit} {m' = λ room. _} H (λ room. c.in-Ok.ensures.meets room) in
    let G = root.holds in
    omega (arith, G.counted.count_nodes, G.counted.room_nodes, G.laid.nodes.sized)

pub fill_from-requires-in-Ok-2 : goal.fill_from-requires-in-Ok-2
fill_from-requires-in-Ok-2 c =
    -- what is held after the root value
    let a = c.args in
    let T = lists a.nodes.now a.references.now a.bytes.now a.symbols.now a.objects.now in
    let H = held_begin a.input.now T a.buckets.now a.compared a.wrong (c.wrong_slice-w.ensures.allowed c.if-w-ne0.false) c.requires.0 c.requires.1 c.put_node.ensures (emptied a.buckets.now a.buckets.now c.fill_from.ensures refl) in
    let root = held {m = λ room. whole a.input.now room a.limit} {m' = λ room. _} H (λ room. c.in-Ok.ensures.meets room) in
    let G = root.holds in
    omega (arith, G.counted.count_references, G.laid.references.fits, G.laid.references.sized)

pub fill_from-requires-in-Ok-3 : goal.fill_from-requires-in-Ok-3
fill_from-requires-in-Ok-3 c =
    -- what is held after the root value
    let a = c.args in
    let T = lists a.nodes.now a.references.now a.bytes.now a.symbols.now a.objects.now in
    let H = held_begin a.input.now T a.buckets.now a.compared a.wrong (c.wrong_slice-w.ensures.allowed c.if-w-ne0.false) c.requires.0 c.requires.1 c.put_node.ensures (emptied a.buckets.now a.buckets.now c.fill_from.ensures refl) in
    let root = held {m = λ room. whole a.input.now room a.limit} {m' = λ room. _} H (λ room. c.in-Ok.ensures.meets room) in
    let G = root.holds in
    omega (arith, G.counted.count_bytes, G.laid.bytes.fits, G.laid.bytes.sized)

pub returns-in-Ok : goal.returns-in-Ok
returns-in-Ok c =
    let a = c.args in
    let T = lists a.nodes.now a.references.now a.bytes.now a.symbols.now a.objects.now in
    let k = c.read_root-root.new in
    let n = c.read_root-root.auto in
    let w = c.wrong_slice-w.ensures in
    let e = loaded a.input.now T a.buckets.now a.limit a.compared a.wrong _ w.value c.if-w-ne0.false (w.allowed c.if-w-ne0.false) c.requires.0 c.requires.1 c.put_node.ensures (emptied a.buckets.now a.buckets.now c.fill_from.ensures refl) (c.in-Ok.ensures.meets (room_of T)) c.number.ensures
    c.fill_from-in-Ok.ensures
    c.fill_from-in-Ok-2.ensures
    c.fill_from-in-Ok-3.ensures
    (emptied k.symbols a.symbols.now c.fill_from-2.ensures n.symbols)
    (emptied k.objects a.objects.now c.fill_from-3.ensures n.objects)
    (emptied k.buckets a.buckets.now c.fill_from-4.ensures (n.buckets ∙ c.fill_from.auto.list))
    (n.buckets ∙ c.fill_from.auto.list) in
    record { objects_after = e.0; objects_after_2 = e.1; buckets_after = e.2 }

pub returns-in-Err : goal.returns-in-Err
returns-in-Err c =
    let a = c.args in
    let T = lists a.nodes.now a.references.now a.bytes.now a.symbols.now a.objects.now in
    let k = c.read_root-root.new in
    let n = c.read_root-root.auto in
    let w = c.wrong_slice-w.ensures in
    let e = load_refused a.input.now T a.buckets.now a.limit a.compared a.wrong _ w.value c.if-w-ne0.false (w.allowed c.if-w-ne0.false) c.requires.0 c.requires.1 c.put_node.ensures (emptied a.buckets.now a.buckets.now c.fill_from.ensures refl) (c.in-Err.ensures.meets (room_of T)) c.refusal.ensures
    (lists_same
    (emptied k.nodes a.nodes.now c.fill_from-in-Err.ensures (n.nodes ∙ c.put_node.auto.nodes))
    (emptied k.references a.references.now c.fill_from-in-Err-2.ensures n.references)
    (emptied k.bytes a.bytes.now c.fill_from-in-Err-3.ensures n.bytes)
    (emptied k.symbols a.symbols.now c.fill_from-2.ensures n.symbols)
    (emptied k.objects a.objects.now c.fill_from-3.ensures n.objects))
    (emptied k.buckets a.buckets.now c.fill_from-4.ensures (n.buckets ∙ c.fill_from.auto.list)) in
    record { objects_after = e.0; objects_after_2 = e.1; buckets_after = e.2 }
