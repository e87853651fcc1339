use Rattle.std.proofs.Common.{◌≡◌, add-one, arith}
use Rattle.transit.specs.Message.{ranks}
use Rattle.print_last.specs.Laws.Last.{and_then, said_in}
use Rattle.print_last.proofs.lines_of_sender.Goals as goal

pub loop-to-preserved : goal.loop-to-preserved
loop-to-preserved c =
    (rw (add-one c.loop-to.to) (said_in (omega arith) (and_then c.loop-to.invariant.0 c.lines_of_pair.ensures)), omega arith)

pub returns : goal.returns
returns c =
    let all : c.loop-to.to ≡ ranks = omega arith in
    rw all at c.loop-to.invariant.0
