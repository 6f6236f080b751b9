-- The proof of add_bytes.
use native.Mathlib.Omega.{arith}
use Prim.Native.Nat.{◌-◌}
use mathlib.Core.Path.{◌≡◌, ap, ◌∙◌}
use lib.ListN.{take, drop}
use lib.Seq.{sets}
use Rattle.table_writer.proofs.Added.{bytes_added, bytes_full}
use Rattle.load_state.specs.Needs.{span_length}
use Rattle.table_writer.proofs.add_bytes.Goals as goal

pub returns-then-bytes-to : goal.returns-then-bytes-to
returns-then-bytes-to c =
    let c-args = c.args in
    let p = c.requires in
    record { meets = λ room limit no re sy ob. bytes_full _ _ (span_length c-args.input.now c-args.c.now _ p.0 p.1) c.if-bytes-to.true; n_bound = tt }

pub returns : goal.returns
returns c =
    let c-args = c.args in
    let p = c.requires in
    let l = c-args.c.now in
    let part : l.at - (l.at - c-args.n) ≡ c-args.n = omega (arith, p.0) in
    let copied = c.copy_to.ensures ∙ ap (λ m. sets c-args.bytes.now l.bytes (take m (drop (l.at - c-args.n) c-args.input.now))) part in
    record { meets = λ room limit no re sy ob. bytes_added _ _ (span_length c-args.input.now c-args.c.now _ p.0 p.1) p.2 c.if-bytes-to.false copied; n_bound = (omega arith, omega arith) }
