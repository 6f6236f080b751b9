-- The proof of read_sign.
use mathlib.Core.Path.{refl}
use Rattle.leaf_reader.proofs.Bignums.{sign_answered, sign_said, sign_missing}
use Rattle.leaf_reader.proofs.read_sign.Goals as goal

pub returns-then-input-at : goal.returns-then-input-at
returns-then-input-at c = record { meets = λ room limit T. sign_missing c.if-input-at.true; fact = tt }

pub returns : goal.returns
returns c =
    let e = c.sign_byte.ensures in
    record { meets = λ room limit T. sign_answered _ refl c.if-input-at.false _ e; fact = sign_said _ _ e }
