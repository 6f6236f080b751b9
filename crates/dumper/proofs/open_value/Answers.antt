-- The proof of open_value.
use native.Mathlib.Omega.{arith}
use Prim.Native.Nat.{ℕ, ◌+◌, ◌*◌}
use mathlib.Core.Logic.{inl, inr}
use lib.ListN.{get_or}
use Rattle.definition.specs.Node.{width, DEFAULT}
use Rattle.definition.specs.Arena.{Arena}
use Rattle.definition.specs.Dump.{write_level, write_value, hash_byte}
use Rattle.writer.specs.Laws.{ready_as}
use Rattle.object_writer.specs.Laws.{unclassed, head_stop, head_as, head_done}
use Rattle.dumper.proofs.Heads.{is_object, array_row, hash_row, low_kind, array_open, hash_open, default_byte, in_array, in_hash}
use Rattle.dumper.proofs.Bodies.{here, answers_as, first_stops, ended, class_ready, array_class, hash_class, no_class, float_inside, float_first, bignum_first}
use mathlib.Core.Path.{◌≡◌, ◌∙◌}
use Rattle.dumper.proofs.open_value.Goals.{then-nodes-v-eq0, else-nodes-v-eq0}
use Rattle.dumper.proofs.open_value.Goals as goal

pub open_list-requires : goal.open_list-requires
open_list-requires c =
    let h = here c.args.nodes.now c.args.references.now c.args.bytes.now c.args.v c.args.levels in
    let is = c.in-4.is in
    ready_as (λ A f. f.1) (class_ready h 4 is (omega arith) _ (omega arith) (array_class h is) c.requires)

pub returns-then-class-eq0 : goal.returns-then-class-eq0
returns-then-class-eq0 c =
    let a = c.args in
    let is = c.in-4.is in
    let f = c.open_list.ensures in record { heads = λ A room limit l li b. head_as (array_open room A (write_level limit a.levels) (write_value room A limit a.levels) a.v _ _ _ _ _ (array_row l.noded a.v b is) is ∙ unclassed room A a.v _ _ c.if-class-eq0.true) (f A room limit (is_object l.noded a.v b 4 is (omega arith) (omega arith)) _); members_in = λ A l b e. in_array l a.v b is }

pub open_classed-requires : goal.open_classed-requires
open_classed-requires c =
    let h = here c.args.nodes.now c.args.references.now c.args.bytes.now c.args.v c.args.levels in
    let is = c.in-4.is in
    class_ready h 4 is (omega arith) _ (omega arith) (array_class h is) c.requires

pub open_list-requires-then-class-eq0-2 : goal.open_list-requires-then-class-eq0-2
open_list-requires-then-class-eq0-2 c =
    let h = here c.args.nodes.now c.args.references.now c.args.bytes.now c.args.v c.args.levels in
    let is = c.in-5.is in
    ready_as (λ A f. f.1) (class_ready h 5 is (omega arith) _ (omega arith) (hash_class h is) c.requires)

pub returns-then-class-eq0-2 : goal.returns-then-class-eq0-2
returns-then-class-eq0-2 c =
    let a = c.args in
    let if2 = c.if-nodes-v-eq0 in
    let byte : (room : ℕ) (A : Arena) → if2.k ≡ hash_byte room A (get_or a.nodes.now (a.v * width + DEFAULT) 0) = λ room A.
    elim if2.branch [
      | then-nodes-v-eq0 w ↦ default_byte room A _ if2.k (λ t. t) (λ (t : get_or a.nodes.now (a.v * width + DEFAULT) 0 ≡ 0 → ⊥). t) (inl (w.if-nodes-v-eq0.true, w.k-is))
      | else-nodes-v-eq0 w ↦ default_byte room A _ if2.k (λ (t : get_or a.nodes.now (a.v * width + DEFAULT) 0 ≡ 0). t) (λ t. t) (inr (w.if-nodes-v-eq0.false, w.k-is))
    ] in
    let is = c.in-5.is in
    let f = c.open_list-then-class-eq0-2.ensures in record { heads = λ A room limit l li b. head_as (hash_open room A (write_level limit a.levels) (write_value room A limit a.levels) a.v if2.k _ _ _ _ _ (hash_row l.noded a.v b is) (byte room A) is ∙ unclassed room A a.v _ _ c.if-class-eq0-2.true) (f A room limit (is_object l.noded a.v b 5 is (omega arith) (omega arith)) _); members_in = λ A l b e. in_hash l a.v b is }

pub open_classed-requires-in-5 : goal.open_classed-requires-in-5
open_classed-requires-in-5 c =
    let h = here c.args.nodes.now c.args.references.now c.args.bytes.now c.args.v c.args.levels in
    let is = c.in-5.is in
    class_ready h 5 is (omega arith) _ (omega arith) (hash_class h is) c.requires

pub open_text-requires : goal.open_text-requires
open_text-requires c =
    let h = here c.args.nodes.now c.args.references.now c.args.bytes.now c.args.v c.args.levels in
    let kinds = c.in-9 in
    let f = c.requires.fact in
    (float_inside h kinds.is c.requires.arena f.0 f.2, class_ready h 9 kinds.is (omega arith) 0 (omega arith) (λ A l b. no_class A) c.requires)

pub open_bignum-requires : goal.open_bignum-requires
open_bignum-requires c =
    let h = here c.args.nodes.now c.args.references.now c.args.bytes.now c.args.v c.args.levels in
    ready_as (λ A f. (f.0.noded, f.1)) (class_ready h 10 c.in-10.is (omega arith) 0 (omega arith) (λ A l b. no_class A) c.requires)

pub returns-else-class-eq0 : goal.returns-else-class-eq0
returns-else-class-eq0 c =
    let h = here c.args.nodes.now c.args.references.now c.args.bytes.now c.args.v c.args.levels in
    let a = c.args in
    let is = c.in-4.is in
    let f = c.open_classed.ensures in record { heads = λ A room limit l li b. head_as (array_open room A (write_level limit a.levels) (write_value room A limit a.levels) a.v _ _ _ _ _ (array_row l.noded a.v b is) is) (f A room limit l (is_object l.noded a.v b 4 is (omega arith) (omega arith)) (array_class h is A l b) _); members_in = λ A l b e. in_array l a.v b is }

pub returns-else-class-eq0-2 : goal.returns-else-class-eq0-2
returns-else-class-eq0-2 c =
    let h = here c.args.nodes.now c.args.references.now c.args.bytes.now c.args.v c.args.levels in
    let a = c.args in
    let if2 = c.if-nodes-v-eq0 in
    let byte : (room : ℕ) (A : Arena) → if2.k ≡ hash_byte room A (get_or a.nodes.now (a.v * width + DEFAULT) 0) = λ room A.
    elim if2.branch [
      | then-nodes-v-eq0 w ↦ default_byte room A _ if2.k (λ t. t) (λ (t : get_or a.nodes.now (a.v * width + DEFAULT) 0 ≡ 0 → ⊥). t) (inl (w.if-nodes-v-eq0.true, w.k-is))
      | else-nodes-v-eq0 w ↦ default_byte room A _ if2.k (λ (t : get_or a.nodes.now (a.v * width + DEFAULT) 0 ≡ 0). t) (λ t. t) (inr (w.if-nodes-v-eq0.false, w.k-is))
    ] in
    let is = c.in-5.is in
    let f = c.open_classed-in-5.ensures in record { heads = λ A room limit l li b. head_as (hash_open room A (write_level limit a.levels) (write_value room A limit a.levels) a.v if2.k _ _ _ _ _ (hash_row l.noded a.v b is) (byte room A) is) (f A room limit l (is_object l.noded a.v b 5 is (omega arith) (omega arith)) (hash_class h is A l b) _); members_in = λ A l b e. in_hash l a.v b is }

pub returns-in-6 : goal.returns-in-6
returns-in-6 c =
    let h = here c.args.nodes.now c.args.references.now c.args.bytes.now c.args.v c.args.levels in
    let kinds = c.in-6 in
    let open-named = c.open_named in
    record { heads = answers_as h _ 6 kinds.is open-named.ensures.heads; members_in = open-named.ensures.members_in }

pub returns-in-7 : goal.returns-in-7
returns-in-7 c =
    let h = here c.args.nodes.now c.args.references.now c.args.bytes.now c.args.v c.args.levels in
    let kinds = c.in-7 in
    let open-string = c.open_string in
    record { heads = answers_as h _ 7 kinds.is open-string.ensures.heads; members_in = open-string.ensures.members_in }

pub returns-in-8 : goal.returns-in-8
returns-in-8 c =
    let h = here c.args.nodes.now c.args.references.now c.args.bytes.now c.args.v c.args.levels in
    let kinds = c.in-8 in
    let open-user-defined = c.open_user_defined in
    record { heads = answers_as h _ 8 kinds.is open-user-defined.ensures.heads; members_in = open-user-defined.ensures.members_in }

pub returns-in_err-open_text-in-9-clause-heads : goal.returns-in_err-open_text-in-9-clause-heads
returns-in_err-open_text-in-9-clause-heads c =
    let h = here c.args.nodes.now c.args.references.now c.args.bytes.now c.args.v c.args.levels in
    first_stops h _ _ c.from_residual.ensures (float_first h c.in-9.is c.in_err-open_text-in-9.ensures)

pub returns-in_ok-open_text-in-9-clause-heads : goal.returns-in_ok-open_text-in-9-clause-heads
returns-in_ok-open_text-in-9-clause-heads c =
    let h = here c.args.nodes.now c.args.references.now c.args.bytes.now c.args.v c.args.levels in
    ended h _ (λ A room limit L l b. head_done (float_first h c.in-9.is c.in_ok-open_text-in-9.ensures A room limit L l b))

pub returns-in_err-open_bignum-in-10-clause-heads : goal.returns-in_err-open_bignum-in-10-clause-heads
returns-in_err-open_bignum-in-10-clause-heads c =
    let h = here c.args.nodes.now c.args.references.now c.args.bytes.now c.args.v c.args.levels in
    first_stops h _ _ c.from_residual-in_err-open_bignum-in-10.ensures (bignum_first h c.in-10.is c.in_err-open_bignum-in-10.ensures)

pub returns-in_ok-open_bignum-in-10-clause-heads : goal.returns-in_ok-open_bignum-in-10-clause-heads
returns-in_ok-open_bignum-in-10-clause-heads c =
    let h = here c.args.nodes.now c.args.references.now c.args.bytes.now c.args.v c.args.levels in
    ended h _ (λ A room limit L l b. head_done (bignum_first h c.in-10.is c.in_ok-open_bignum-in-10.ensures A room limit L l b))

pub returns-in_err-write_scalar-in_default-clause-heads : goal.returns-in_err-write_scalar-in_default-clause-heads
returns-in_err-write_scalar-in_default-clause-heads c =
    let a = c.args in
    λ A room limit l li b.
    head_stop _ c.from_residual-in_err-write_scalar-in_default.ensures
    (c.in_err-write_scalar-in_default.ensures A room limit (write_level limit a.levels) (write_value room A limit a.levels) l b (low_kind l.noded a.v b (λ e. omega (arith, e)) (λ e. omega (arith, e)) (λ e. omega (arith, e)) (λ e. omega (arith, e)) (λ e. omega (arith, e)) (λ e. omega (arith, e)) (λ e. omega (arith, e)))).leads

pub returns-in_ok-write_scalar-in_default-clause-heads : goal.returns-in_ok-write_scalar-in_default-clause-heads
returns-in_ok-write_scalar-in_default-clause-heads c =
    let a = c.args in
    λ A room limit l li b.
    record { heads = (c.in_ok-write_scalar-in_default.ensures A room limit (write_level limit a.levels) (write_value room A limit a.levels) l b (low_kind l.noded a.v b (λ e. omega (arith, e)) (λ e. omega (arith, e)) (λ e. omega (arith, e)) (λ e. omega (arith, e)) (λ e. omega (arith, e)) (λ e. omega (arith, e)) (λ e. omega (arith, e)))).leads }
