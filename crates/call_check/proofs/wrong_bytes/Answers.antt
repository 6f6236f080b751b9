-- The proof of wrong_bytes.
use Rattle.call_check.proofs.Slices.{bytes_named}
use Rattle.call_check.proofs.wrong_bytes.Goals as goal

pub returns : goal.returns
returns c = bytes_named _ c.too_long.ensures c.first_wrong.ensures
