-- The proof of create_fixnum.
use Prim.Native.Nat.{ℕ}
use mathlib.Core.Path.{refl, sym, ap, ◌∙◌}
use mathlib.Core.List.{[], ◌∷◌}
use Rattle.definition.specs.Run.{pure, next, ◌>>=◌}
use Rattle.definition.specs.Node.{fixnum, words}
use Rattle.definition.specs.Build.{create_fixnum, bits}
use Rattle.value_arena.specs.Calls.{plain}
use Rattle.bits.proofs.Bits.{passed}
use Rattle.value_arena.proofs.create_fixnum.Goals as goal

pub returns : goal.returns
unfolding create_fixnum plain words pure next ◌>>=◌
returns c =
    c.create_plain.ensures (pure tt) (fixnum (bits c.args.value)) refl (ap (λ (w : ℕ). 2 ∷ w ∷ 0 ∷ 0 ∷ 0 ∷ 0 ∷ 0 ∷ 0 ∷ []) (sym (c.bits_of.ensures ∙ ap bits (passed c.ranges.value))))
