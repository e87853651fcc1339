use Rattle.base.specs.Laws.Tabulate.{tabulate_at, tabulate_past}
use Rattle.roster.specs.Roster.{ranks_of}
use Rattle.roster_read.proofs.link_between.Goals as goal

pub returns-then-i-lt-CELLS : goal.returns-then-i-lt-CELLS
unfolding ranks_of
returns-then-i-lt-CELLS c =
    rw (← c.cell-i.ensures, tabulate_at _ _ _ _ c.if-i-lt-CELLS.true) c.decode_link.ensures

pub returns : goal.returns
unfolding ranks_of
returns c = rw (← c.cell-i.ensures, tabulate_past _ _ _ _ c.if-i-lt-CELLS.false)
