-- The loop's invariant: so many entries of the row are copied. Assumes nothing.
use Rattle.std.proofs.Common.{◌+◌, ◌*◌}
use Rattle.transit.specs.Message.{ranks}
use Rattle.broker.specs.Names.{unknown}
use Rattle.roster.specs.Loaded.{Copying}
use Rattle.roster.specs.Roster.{location_in}
use Rattle.roster_load.proofs.row_in.Given as goal

abbrev pub invariant-loop-i : goal.invariant-loop-i
invariant-loop-i l = Copying (λ k. location_in l.roster (ranks * l.a + k)) unknown ranks l.i l.row
