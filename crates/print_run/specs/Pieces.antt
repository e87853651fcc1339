-- A run whose log comes in pieces of any lengths. Paper 01, "The printed run": "Input may be of any length, read through at most 65,536
-- bytes; positions count from its start." Assumes nothing.
use Rattle.std.specs.Prelude.{List, [], ◌∷◌, ◌++◌, ℕ, ◌+◌, drop}
use Rattle.broker.specs.State.{State}
use Rattle.print_run.specs.Run.{Came, behind}
use Rattle.print_run.specs.Wholes.{wholes, run_from}

-- a turn of a program: the bytes that it reads, and how many whole records at most it runs of all that it then holds
pub record Turn : Type 0 where
  pub bytes : List ℕ
  pub most : ℕ

-- all that is read in some turns
abbrev pub all_bytes : List Turn → List ℕ
all_bytes [] = []
all_bytes (t ∷ ts) = t.bytes ++ all_bytes ts

-- a run in turns: of what is held and what is read, whole records are run, and what is left of it is held; at the input's end all that
-- is held is run
abbrev pub in_pieces : ℕ → State → List ℕ → List Turn → Came
in_pieces base s held [] = run_from base s held
in_pieces base s held (t ∷ ts) =
    let log = held ++ t.bytes in
    let w = wholes base t.most s log 0 in
    behind w.answers (in_pieces (base + w.at) w.state (drop w.at log) ts)
