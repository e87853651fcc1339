-- What a run of a log prints. Paper 01, "The printed run". Assumes nothing.
use Rattle.std.specs.Prelude.{List, [], ◌∷◌, ◌++◌, ℕ, length}
use Rattle.print_lines.specs.Lines.{record_line, pair_lines, end_line}
use Rattle.broker.specs.State.{State, messages}
use Rattle.print_run.specs.Run.{Answered, Came, run_log}

-- "prints, per record": a line for each step
abbrev pub lines_of : List Answered → List ℕ
lines_of [] = []
lines_of (a ∷ rest) = record_line a.at a.kind a.answer ++ lines_of rest

-- "Then, for each ordered pair with unread messages .. Then `end`."
abbrev pub last_lines : State → List ℕ
last_lines s = pair_lines (messages s) ++ end_line

-- all that a run prints that has come so far
abbrev pub text_of : Came → List ℕ
text_of c = lines_of c.answers ++ last_lines c.state

-- what the run of a log from a state prints
abbrev pub printed : State → List ℕ → List ℕ
printed s log = text_of (run_log (length log) s log 0)
