-- What the run of a log from the fresh state prints, to be computed. Assumes nothing.
use Rattle.std.specs.Prelude.{List, ◌≡◌, ℕ}
use Rattle.print_page.specs.Text.{decimal}
use Rattle.print_lines.specs.Lines.{record_line, pair_line, pair_lines}
use Rattle.protocol.specs.Laws.Opened.{opened}
use Rattle.broker.specs.State.{fresh}
use Rattle.ordering.specs.Laws.Runs.{fresh_sound}
use Rattle.print_run.proofs.Laws.Pieces.{printed_is_left}
use Rattle.print_run.specs.Printed.{printed}
use Rattle.print_run.specs.Wholes.{closing, wholes, run_from, left}

-- all that is left to print of a log; where this is opened, all that it computes with is open
unfoldable pub shown : List ℕ → List ℕ
unfolding opened decimal record_line pair_line pair_lines wholes closing run_from
shown log = left 0 fresh log

-- It is what the run of the log prints.
pub prints_shown : (log : List ℕ) → printed fresh log ≡ shown log
unfolding shown
prints_shown log = printed_is_left fresh log fresh_sound
