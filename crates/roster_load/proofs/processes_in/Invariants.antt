-- The loop's invariant: the processes so far are copied. Assumes nothing.
use Rattle.transit.specs.Message.{ranks}
use Rattle.broker.specs.State.{idle}
use Rattle.roster.specs.Loaded.{Copying}
use Rattle.roster.specs.Roster.{process_in}
use Rattle.roster_load.proofs.processes_in.Given as goal

abbrev pub invariant-loop-i : goal.invariant-loop-i
invariant-loop-i l = Copying (process_in l.roster) idle ranks l.i l.processes
