use Rattle.std.proofs.Common.{◌+◌, arith}
use Rattle.base.specs.Laws.Tabulate.{tabulate_set_past}
use Rattle.transit.specs.Message.{cells}
use Rattle.roster.specs.Laws.Columns.{stored, locations_only}
use Rattle.roster.specs.Laws.Stores.{column_set}
use Rattle.roster.specs.Numbers.{vmid_of}
use Rattle.roster.specs.Roster.{ranks_of, LOCATIONS}
use Rattle.roster_write.proofs.set_location.Goals as goal

pub returns-then-i-lt-CELLS : goal.returns-then-i-lt-CELLS
unfolding ranks_of
returns-then-i-lt-CELLS c =
    let cell = c.cell-i in
    let roster = c.args.roster.now in
    rw (← cell.ensures)
    (locations_only (stored roster (LOCATIONS + cell.result) c.encode_vmid-w.result (omega arith) (omega arith) (omega arith))
    (column_set vmid_of LOCATIONS cells roster c.if-i-lt-CELLS.true (omega arith) c.encode_vmid-w.ensures.result_value))

pub returns-else-i-lt-CELLS : goal.returns-else-i-lt-CELLS
unfolding ranks_of
returns-else-i-lt-CELLS c =
    record { long = omega arith; same = rw (← c.cell-i.ensures, tabulate_set_past _ _ _ _ c.if-i-lt-CELLS.false) }
