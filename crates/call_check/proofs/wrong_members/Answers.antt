-- The proof of wrong_members.
use Rattle.call_check.proofs.Slices.{members_named}
use Rattle.call_check.proofs.wrong_members.Goals as goal

pub returns : goal.returns
returns c = members_named _ c.too_long.ensures c.first_wrong.ensures
