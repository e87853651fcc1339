-- The loop's invariant: the processes so far are filled in. Assumes nothing.
use Rattle.std.proofs.Common.{◌≤◌}
use Rattle.transit.specs.Message.{ranks}
use Rattle.broker.specs.State.{idle}
use Rattle.roster.specs.Loaded.{Filled}
use Rattle.roster.specs.Roster.{process_in, LOCATIONS}
use Rattle.roster_load.proofs.load_processes.Given as goal

abbrev pub invariant-loop-i : goal.invariant-loop-i
invariant-loop-i l =
    (l.i ≤ ranks) × Filled process_in idle l.processes l.i 0 LOCATIONS l.initial.roster l.roster
