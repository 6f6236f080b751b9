-- The proof of read_hashed.
use native.Mathlib.Omega.{arith}
use native.Mathlib.Nat.{mod-lt}
use mathlib.Core.Path.{◌≡◌, ap, refl}
use mathlib.Core.List.{[]}
use lib.ListN.{length}
use Rattle.lists.specs.Runs.{err_is}
use Rattle.symbol_reader.proofs.Hashed.{Sought, list_symbolic, known_below, held_after, hashed_meets, hashed_stop}
use Rattle.symbol_search.proofs.Probing.{looked_fits}
use Rattle.symbol_reader.proofs.read_hashed.Goals as goal

pub probe-p-requires : goal.probe-p-requires
probe-p-requires c =
    let p = c.requires in
    let H = p.2.2 in
    (omega arith, p.0, mod-lt _ (omega (arith, p.1)), (H.room, H.state, p.2.0, c.args.symbols.now, p.2.1, c.args.c.now, H.holds))

pub word_on-i-requires : goal.word_on-i-requires
word_on-i-requires c =
    let p = c.requires in
    let b : c.args.buckets.now ≡ [] → ⊥ = λ e. p.1 (ap length e) in
    (mod-lt _ (omega (arith, p.1)), c.probe-p.ensures.upper_bound, ((p.2.2.holds.known.names refl).hashed b).short)

pub overflow_add-looked-2 : goal.overflow_add-looked-2
overflow_add-looked-2 c =
    let p = c.requires in
    let b : c.args.buckets.now ≡ [] → ⊥ = λ e. p.1 (ap length e) in
    record { fits = looked_fits p.2.2.holds refl b c.probe-p.result c.probe-p.ensures.upper_bound }

pub offset_bounds-buckets-i : goal.offset_bounds-buckets-i
offset_bounds-buckets-i c =
    let p = c.requires in
    let b : c.args.buckets.now ≡ [] → ⊥ = λ e. p.1 (ap length e) in
    let l = ((p.2.2.holds.known.names refl).hashed b).short in
    record { fits = omega (arith, c.word_on-i.ensures.1, l) }

pub bounds-buckets-i : goal.bounds-buckets-i
bounds-buckets-i c =
    c.word_on-i.ensures.1

pub intern_symbol-requires : goal.intern_symbol-requires
intern_symbol-requires c =
    let a = c.args in
    let p = c.requires in
    -- what the search has come to
    let S : Sought a.input.now a.nodes.now a.bytes.now a.symbols.now a.buckets.now a.c.now a.n c.fnv_1a.result c.probe-p.result c.word_on-i.result c.symbol_in.result =
    record { inside = c.requires.0; words = c.requires.1; hash = c.fnv_1a.ensures; probe = λ room s re ob m G. c.probe-p.ensures.probe room s re _ ob m G; place = c.word_on-i.ensures.0; zero = c.symbol_in.ensures.0; other = c.symbol_in.ensures.1 } in
    let H = p.2.2 in
    (omega arith, p.0, known_below S H, (p.2.0, p.2.1, held_after S H))

pub returns-in_err-r : goal.returns-in_err-r
returns-in_err-r c =
    let a = c.args in
    -- what the search has come to
    let S : Sought a.input.now a.nodes.now a.bytes.now a.symbols.now a.buckets.now a.c.now a.n c.fnv_1a.result c.probe-p.result c.word_on-i.result c.symbol_in.result =
    record { inside = c.requires.0; words = c.requires.1; hash = c.fnv_1a.ensures; probe = λ room s re ob m G. c.probe-p.ensures.probe room s re _ ob m G; place = c.word_on-i.ensures.0; zero = c.symbol_in.ensures.0; other = c.symbol_in.ensures.1 } in
    let H = c.requires.2.2 in
    rw (err_is c.from_residual.result c.from_residual.ensures.1) (record { meets = λ room limit re ob. hashed_stop S H (c.in_err-r.ensures.meets room limit re ob (λ s m z G. list_symbolic S H z G)); upper_bound = tt })

pub offset_bounds-buckets-i-2 : goal.offset_bounds-buckets-i-2
offset_bounds-buckets-i-2 c =
    let p = c.requires in
    let b : c.args.buckets.now ≡ [] → ⊥ = λ e. p.1 (ap length e) in
    let l = ((p.2.2.holds.known.names refl).hashed b).short in
    record { fits = omega (arith, c.word_on-i.ensures.1, l) }

pub bounds-buckets-i-2 : goal.bounds-buckets-i-2
bounds-buckets-i-2 c =
    omega (arith, c.word_on-i.ensures.1)

pub returns : goal.returns
returns c =
    let a = c.args in
    -- what the search has come to
    let S : Sought a.input.now a.nodes.now a.bytes.now a.symbols.now a.buckets.now a.c.now a.n c.fnv_1a.result c.probe-p.result c.word_on-i.result c.symbol_in.result =
    record { inside = c.requires.0; words = c.requires.1; hash = c.fnv_1a.ensures; probe = λ room s re ob m G. c.probe-p.ensures.probe room s re _ ob m G; place = c.word_on-i.ensures.0; zero = c.symbol_in.ensures.0; other = c.symbol_in.ensures.1 } in
    let H = c.requires.2.2 in record { meets = λ room limit re ob. hashed_meets S H (c.in_ok-r.ensures.meets room limit re ob (λ s m z G. list_symbolic S H z G)); upper_bound = c.in_ok-r.ensures.upper_bound }
