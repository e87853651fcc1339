-- Each turn passes a record, and the log has 24 bytes. Assumes nothing.
use Rattle.std.proofs.Common.{◌-◌}
use Rattle.example_lent.proofs.main.Given as goal

abbrev pub decreases-loop-at : goal.decreases-loop-at
decreases-loop-at l = 24 - l.at
