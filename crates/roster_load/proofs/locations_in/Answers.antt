use Rattle.std.proofs.Common.{sym, arith}
use Rattle.base.specs.Laws.Tabulate.{tabulate_at}
use Rattle.transit.specs.Message.{ranks}
use Rattle.broker.specs.Names.{unknown}
use Rattle.roster.specs.Laws.Loaded.{copy_next, copy_fewer, copy_whole}
use Rattle.roster.specs.Roster.{ranks_of}
use Rattle.roster_load.proofs.locations_in.Goals as goal

pub loop-i-preserved : goal.loop-i-preserved
loop-i-preserved c =
    let row = c.row_in-row.ensures in
    let entry = sym (tabulate_at ranks _ c.loop-i.i unknown (omega arith)) in
    (omega arith, copy_fewer (copy_next c.loop-i.invariant.1 (omega arith) (rw row entry)) (omega arith))

pub returns : goal.returns
unfolding ranks_of
returns c = copy_whole c.loop-a.invariant (omega arith)
