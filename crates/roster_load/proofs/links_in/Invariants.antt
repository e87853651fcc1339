-- The loop's invariant: the links so far are copied. Assumes nothing.
use Rattle.transit.specs.Message.{cells}
use Rattle.broker.specs.State.{apart}
use Rattle.roster.specs.Loaded.{Copying}
use Rattle.roster.specs.Roster.{link_in}
use Rattle.roster_load.proofs.links_in.Given as goal

abbrev pub invariant-loop-i : goal.invariant-loop-i
invariant-loop-i l = Copying (link_in l.roster) apart cells l.i l.links
