use Rattle.std.proofs.Common.{arith}
use Rattle.roster.specs.Laws.Columns.{drawn_only}
use Rattle.roster.specs.Laws.Loaded.{fill_whole}
use Rattle.roster_load.proofs.load_drawn.Goals as goal

pub returns : goal.returns
returns c =
    let filled = c.loop-i.invariant.1 in
    drawn_only filled.kept (fill_whole filled c.well_formed.0.1.0.1 (omega arith))
