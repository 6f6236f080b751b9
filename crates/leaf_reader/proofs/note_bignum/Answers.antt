-- The proof of note_bignum.
use Rattle.leaf_reader.proofs.Bignums.{kept_as, bignum_kept, bignum_other}
use Rattle.leaf_reader.proofs.note_bignum.Goals as goal

pub returns-then-keeps_sign-n : goal.returns-then-keeps_sign-n
returns-then-keeps_sign-n c input room T = bignum_kept _ _ _ (kept_as _ _ _ c.keeps_sign.ensures c.fewest_units.ensures.value c.if-keeps_sign-n.true)

pub returns : goal.returns
returns c input room T = bignum_other _ _ _ (kept_as _ _ _ c.keeps_sign.ensures c.fewest_units.ensures.value c.if-keeps_sign-n.false)
