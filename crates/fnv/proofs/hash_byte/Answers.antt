-- The proof of hash_byte.
use Prim.Native.Nat.{ℕ, ◌*◌, ◌%◌}
use mathlib.Core.Path.{ap, ◌∙◌}
use Rattle.fnv.proofs.Laws.{xor_32}
use Rattle.fnv.proofs.hash_byte.Goals as goal

pub returns : goal.returns
returns c =
    c.wrapping_mul.ensures ∙ ap (λ (x : ℕ). x * 16777619 % 4294967296) (xor_32 c.args.k c.args.b c.ranges.k.fits c.ranges.b.fits)
