-- The loop's invariant: so many entries of the row are copied. Assumes nothing.
use Rattle.std.proofs.Common.{◌+◌, ◌*◌, get_or}
use Rattle.transit.specs.Message.{ranks}
use Rattle.broker.specs.Names.{unknown}
use Rattle.roster.specs.Loaded.{Copying}
use Rattle.roster_load.proofs.row_of.Given as goal

abbrev pub invariant-loop-i : goal.invariant-loop-i
invariant-loop-i l =
    Copying (λ k. get_or l.locations (ranks * l.a + k) unknown) unknown ranks l.i l.row
