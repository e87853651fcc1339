-- The loop's invariant: `n` of the slots before `i` are picked. Assumes nothing.
use Rattle.std.proofs.Common.{◌≡◌}
use Rattle.transit.specs.Columns.{columns_of}
use Rattle.transit.specs.Pick.{hits}
use Rattle.transit_count.proofs.count_hits.Given as goal

abbrev pub invariant-loop-i : goal.invariant-loop-i
invariant-loop-i l = l.n ≡ hits l.w (columns_of l.slots) l.i
