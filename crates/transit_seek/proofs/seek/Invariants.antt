-- The loop's invariant: the walk has come to `at`. Assumes nothing.
use Rattle.std.proofs.Common.{◌-◌}
use Rattle.transit.specs.Columns.{columns_of, SLOTS}
use Rattle.transit.specs.Search.{Walked}
use Rattle.transit_seek.proofs.seek.Given as goal

abbrev pub invariant-loop-at : goal.invariant-loop-at
invariant-loop-at l = Walked (columns_of l.mail.slots) l.pair l.place l.at

abbrev pub decreases-loop-at : goal.decreases-loop-at
decreases-loop-at l = SLOTS - l.at
