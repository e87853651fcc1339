-- Each turn passes a record, and the log has 29 bytes. Assumes nothing.
use Rattle.std.proofs.Common.{◌-◌}
use Rattle.example_in_place.proofs.main.Given as goal

abbrev pub decreases-loop-at : goal.decreases-loop-at
decreases-loop-at l = 29 - l.at
