-- The loop's invariant: the tables so far are filled in. Assumes nothing.
use Rattle.std.proofs.Common.{◌+◌, ◌*◌, ◌≤◌}
use Rattle.transit.specs.Message.{ranks}
use Rattle.broker.specs.Names.{unknown}
use Rattle.roster.specs.Loaded.{Filled}
use Rattle.roster.specs.Roster.{location_in, LOCATIONS, LINKS}
use Rattle.roster_load.proofs.load_locations.Given as goal

abbrev pub invariant-loop-i : goal.invariant-loop-i
invariant-loop-i l =
    (l.i ≤ ranks) ×
    Filled location_in unknown l.locations (ranks * l.a + l.i) LOCATIONS LINKS l.initial.roster l.roster

abbrev pub invariant-loop-a : goal.invariant-loop-a
invariant-loop-a l =
    (l.a ≤ ranks) × Filled location_in unknown l.locations (ranks * l.a) LOCATIONS LINKS l.initial.roster l.roster
