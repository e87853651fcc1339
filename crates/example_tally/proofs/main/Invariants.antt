-- Each turn passes a record of the log. Assumes nothing.
use Rattle.std.proofs.Common.{◌-◌, length}
use Rattle.example_tally.proofs.main.Given as goal

abbrev pub decreases-loop-at : goal.decreases-loop-at
decreases-loop-at l = length l.log - l.at
