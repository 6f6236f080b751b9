-- The proof of fixnum_size.
use native.Mathlib.Omega.{arith}
use mathlib.Core.Path.{refl}
use Rattle.writer.proofs.Integers.{size_small, size_large, size_negative, size_last}
use Rattle.writer.proofs.fixnum_size.Goals as goal

pub returns-then-v-lt123 : goal.returns-then-v-lt123
returns-then-v-lt123 c =
    size_small c.args.v (omega (arith, c.if-v-lt123.true))

pub returns-then-v-lt2147483648 : goal.returns-then-v-lt2147483648
returns-then-v-lt2147483648 c =
    let args = c.args in
    let if1 = c.if-v-lt123 in
    let if2 = c.if-v-lt2147483648 in
    let data_bytes = c.data_bytes in
    omega (arith, size_large args.v _ _ (omega (arith, if1.false)) if2.true data_bytes.ensures.value refl)

pub returns-then-v-lt4294967173 : goal.returns-then-v-lt4294967173
returns-then-v-lt4294967173 c =
    let args = c.args in
    let if2 = c.if-v-lt2147483648 in
    let if3 = c.if-v-lt4294967173 in
    let data-bytes2 = c.data_bytes-then-v-lt4294967173 in
    omega (arith, size_negative args.v _ _ if2.false if3.true data-bytes2.ensures.value refl)

pub returns : goal.returns
returns c =
    size_last c.args.v c.if-v-lt4294967173.false
