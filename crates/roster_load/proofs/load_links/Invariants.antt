-- The loop's invariant: the links so far are filled in. Assumes nothing.
use Rattle.std.proofs.Common.{◌≤◌}
use Rattle.transit.specs.Message.{cells}
use Rattle.broker.specs.State.{apart}
use Rattle.roster.specs.Loaded.{Filled}
use Rattle.roster.specs.Roster.{link_in, LINKS, DRAWN}
use Rattle.roster_load.proofs.load_links.Given as goal

abbrev pub invariant-loop-i : goal.invariant-loop-i
invariant-loop-i l =
    (l.i ≤ cells) × Filled link_in apart l.links l.i LINKS DRAWN l.initial.roster l.roster
