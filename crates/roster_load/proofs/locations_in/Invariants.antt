-- The loops' invariants: so many entries are copied. Assumes nothing.
use Rattle.std.proofs.Common.{◌+◌, ◌*◌, ◌≤◌}
use Rattle.transit.specs.Message.{ranks, cells}
use Rattle.broker.specs.Names.{unknown}
use Rattle.roster.specs.Loaded.{Copying}
use Rattle.roster.specs.Roster.{location_in}
use Rattle.roster_load.proofs.locations_in.Given as goal

abbrev pub invariant-loop-i : goal.invariant-loop-i
invariant-loop-i l =
    (l.i ≤ ranks) × Copying (location_in l.roster) unknown cells (ranks * l.a + l.i) l.locations

abbrev pub invariant-loop-a : goal.invariant-loop-a
invariant-loop-a l = Copying (location_in l.roster) unknown cells (ranks * l.a) l.locations
