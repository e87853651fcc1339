-- One text behind the other.
use Rattle.print_last.specs.Laws.Last.{and_then, said_of_any}
use Rattle.print_ending.proofs.run_end.Goals as goal

pub returns : goal.returns
returns c = and_then (said_of_any c.closing_line.ensures) c.last_lines.ensures
