-- The loop's invariant: the numbers so far are filled in. Assumes nothing.
use Rattle.std.proofs.Common.{◌≤◌}
use Rattle.broker.specs.Names.{hosts}
use Rattle.roster.specs.Loaded.{Filled}
use Rattle.roster.specs.Roster.{drawn_in, DRAWN, roster_length}
use Rattle.roster_load.proofs.load_drawn.Given as goal

abbrev pub invariant-loop-i : goal.invariant-loop-i
invariant-loop-i l =
    (l.i ≤ hosts) × Filled drawn_in 0 l.drawn l.i DRAWN roster_length l.initial.roster l.roster
