use Rattle.std.proofs.Common.{◌+◌, ◌*◌, arith}
use Rattle.transit.specs.Columns.{columns_of}
use Rattle.transit.specs.Message.{ranks}
use Rattle.transit.specs.Laws.Columns.{first_at}
use Rattle.transit.proofs.Laws.Oldest.{oldest_next}
use Rattle.transit_find.proofs.oldest.Goals as goal

pub loop-s-preserved : goal.loop-s-preserved
loop-s-preserved c =
    let a = c.args in
    let s = c.loop-s.s in
    let first = first_at a.slots.now (ranks * s + a.r) (omega arith) in
    rw c.min-best.ensures (rw first at (oldest_next (columns_of a.slots.now) a.r c.loop-s.invariant))
