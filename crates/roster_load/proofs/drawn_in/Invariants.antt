-- The loop's invariant: the numbers so far are copied. Assumes nothing.
use Rattle.broker.specs.Names.{hosts}
use Rattle.roster.specs.Loaded.{Copying}
use Rattle.roster.specs.Roster.{drawn_in}
use Rattle.roster_load.proofs.drawn_in.Given as goal

abbrev pub invariant-loop-i : goal.invariant-loop-i
invariant-loop-i l = Copying (drawn_in l.roster) 0 hosts l.i l.drawn
