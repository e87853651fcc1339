-- Each turn passes a record. Assumes nothing.
use Rattle.std.proofs.Common.{◌-◌, length}
use Rattle.test_timing.proofs.lead.Given as goal

abbrev pub decreases-loop-at : goal.decreases-loop-at
decreases-loop-at l = length l.log - l.at
