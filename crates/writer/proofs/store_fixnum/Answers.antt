-- The proof of store_fixnum.
use native.Mathlib.Omega.{arith}
use mathlib.Core.Path.{refl, sym, ap, ◌∙◌}
use lib.ListN.{length}
use lib.Seq.{sets}
use Rattle.writer.proofs.Integers.{bytes_zero, bytes_small, bytes_last, large_as, negative_as, size_large, size_negative, stored_as}
use Rattle.writer.proofs.store_fixnum.Goals as goal

pub bounds-output-at : goal.bounds-output-at
bounds-output-at c =
    let a = c.args in
    omega (arith, c.requires, ap length (bytes_zero a.v c.if-v-eq0.true))

pub returns-then-v-eq0 : goal.returns-then-v-eq0
returns-then-v-eq0 c =
    let a = c.args in let whole = stored_as a.v a.output.now a.at (bytes_zero a.v c.if-v-eq0.true) refl in record { output_after = whole.0; value = whole.1 }

pub bounds-output-at-then-v-le122 : goal.bounds-output-at-then-v-le122
bounds-output-at-then-v-le122 c =
    let a = c.args in
    let pre = c.requires in
    let if1 = c.if-v-eq0 in
    omega (arith, pre, ap length (bytes_small a.v if1.false c.if-v-le122.true))

pub returns-then-v-le122 : goal.returns-then-v-le122
returns-then-v-le122 c =
    let a = c.args in let whole = stored_as a.v a.output.now a.at (bytes_small a.v c.if-v-eq0.false c.if-v-le122.true) refl in record { output_after = whole.0; value = whole.1 }

pub store_data-requires : goal.store_data-requires
store_data-requires c =
    let pre = c.requires in
    let args = c.args in
    let if2 = c.if-v-le122 in
    let if3 = c.if-v-lt2147483648 in
    let data_bytes = c.data_bytes-n in
    omega (arith, pre, size_large args.v _ _ if2.false if3.true data_bytes.ensures.value refl)

pub returns-then-v-lt2147483648 : goal.returns-then-v-lt2147483648
returns-then-v-lt2147483648 c =
    let a = c.args in
    let if2 = c.if-v-le122 in
    let if3 = c.if-v-lt2147483648 in
    let data_bytes = c.data_bytes-n in
    let store-data = c.store_data in
    let e = large_as a.v _ _ if2.false if3.true data_bytes.ensures.value refl in
    record { output_after = store-data.ensures.output_after ∙ ap (sets a.output.now a.at) (sym e); value = store-data.ensures.value ∙ size_large a.v _ _ if2.false if3.true data_bytes.ensures.value refl }

pub overflow_cast-n-then-v-lt4294967173 : goal.overflow_cast-n-then-v-lt4294967173
overflow_cast-n-then-v-lt4294967173 c =
    omega (arith, c.data_bytes-n-then-v-lt4294967173.ensures.upper_bound.1 (omega (arith, c.if-v-lt4294967173.true)))

pub store_data-requires-then-v-lt4294967173 : goal.store_data-requires-then-v-lt4294967173
store_data-requires-then-v-lt4294967173 c =
    let pre = c.requires in
    let args = c.args in
    let if3 = c.if-v-lt2147483648 in
    let if4 = c.if-v-lt4294967173 in
    let data-bytes2 = c.data_bytes-n-then-v-lt4294967173 in
    omega (arith, pre, size_negative args.v _ _ if3.false if4.true data-bytes2.ensures.value refl)

pub returns-then-v-lt4294967173 : goal.returns-then-v-lt4294967173
returns-then-v-lt4294967173 c =
    let a = c.args in
    let if3 = c.if-v-lt2147483648 in
    let if4 = c.if-v-lt4294967173 in
    let data-bytes2 = c.data_bytes-n-then-v-lt4294967173 in
    let store-data2 = c.store_data-then-v-lt4294967173 in
    let e = negative_as a.v _ _ if3.false if4.true data-bytes2.ensures.value refl in
    record { output_after = store-data2.ensures.output_after ∙ ap (sets a.output.now a.at) (sym e); value = store-data2.ensures.value ∙ size_negative a.v _ _ if3.false if4.true data-bytes2.ensures.value refl }

pub bounds-output-at-2 : goal.bounds-output-at-2
bounds-output-at-2 c =
    let a = c.args in
    let pre = c.requires in
    omega (arith, pre, ap length (bytes_last a.v c.if-v-lt4294967173.false))

pub returns : goal.returns
returns c =
    let a = c.args in let whole = stored_as a.v a.output.now a.at (bytes_last a.v c.if-v-lt4294967173.false) refl in record { output_after = whole.0; value = whole.1 }
