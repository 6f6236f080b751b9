-- Why the loop of write_listings ends.
use Rattle.std.proofs.Common.{length, ◌-◌}
use Rattle.listing.proofs.write_listings.Given as goal

abbrev pub decreases-loop-at : goal.decreases-loop-at
decreases-loop-at l = length l.input - l.at
