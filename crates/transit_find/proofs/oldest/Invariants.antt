-- The loop's invariant: `best` is the least of the first slots before `s`. Assumes nothing.
use Rattle.transit.specs.Columns.{columns_of}
use Rattle.transit.specs.Search.{Oldest}
use Rattle.transit_find.proofs.oldest.Given as goal

abbrev pub invariant-loop-s : goal.invariant-loop-s
invariant-loop-s l = Oldest (columns_of l.slots) l.r l.s l.best
