-- Each turn passes a record of the log. Assumes nothing.
use Rattle.std.proofs.Common.{◌-◌, length}
use Rattle.test_spent.proofs.run.Given as goal

abbrev pub decreases-loop-at : goal.decreases-loop-at
decreases-loop-at g l = length l.log - l.at
