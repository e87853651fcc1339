use Rattle.std.proofs.Common.{◌≡◌, add-one, arith}
use Rattle.print_lines.specs.Lines.{pair_lines}
use Rattle.transit.specs.Message.{ranks}
use Rattle.print_last.specs.Laws.Last.{said_of_any, and_then, said_in}
use Rattle.print_last.proofs.last_lines.Goals as goal

pub loop-from-preserved : goal.loop-from-preserved
loop-from-preserved c =
    (rw (add-one c.loop-from.from) (said_in (omega arith) (and_then c.loop-from.invariant.0 c.lines_of_sender.ensures)), omega arith)

pub returns : goal.returns
unfolding pair_lines
returns c =
    let all : c.loop-from.from ≡ ranks = omega arith in
    and_then (rw all at c.loop-from.invariant.0) (said_of_any c.end_line.ensures)
