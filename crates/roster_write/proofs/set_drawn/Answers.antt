use Rattle.std.proofs.Common.{◌+◌, arith}
use Rattle.base.specs.Laws.Tabulate.{tabulate_set_past}
use Rattle.broker.specs.Names.{hosts}
use Rattle.roster.specs.Laws.Columns.{stored, drawn_only}
use Rattle.roster.specs.Laws.Stores.{column_set}
use Rattle.roster.specs.Numbers.{drawn_of}
use Rattle.roster.specs.Roster.{ranks_of, DRAWN}
use Rattle.roster_write.proofs.set_drawn.Goals as goal

pub returns-then-i-lt8 : goal.returns-then-i-lt8
unfolding ranks_of
returns-then-i-lt8 c =
    let roster = c.args.roster.now in
    drawn_only (stored roster (DRAWN + c.args.host) c.encode_drawn-w.result (omega arith) (omega arith) (omega arith))
    (column_set drawn_of DRAWN hosts roster c.if-i-lt8.true (omega arith) c.encode_drawn-w.ensures)

pub returns-else-i-lt8 : goal.returns-else-i-lt8
unfolding ranks_of
returns-else-i-lt8 c = record { long = omega arith; same = rw (tabulate_set_past _ _ _ _ c.if-i-lt8.false) }
