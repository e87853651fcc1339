use Rattle.base.specs.Laws.Tabulate.{tabulate_at, tabulate_past}
use Rattle.roster.specs.Roster.{ranks_of}
use Rattle.roster_read.proofs.drawn_on.Goals as goal

pub returns-then-i-lt8 : goal.returns-then-i-lt8
unfolding ranks_of
returns-then-i-lt8 c = rw (tabulate_at _ _ _ _ c.if-i-lt8.true) c.decode_drawn.ensures

pub returns : goal.returns
unfolding ranks_of
returns c = rw (tabulate_past _ _ _ _ c.if-i-lt8.false)
