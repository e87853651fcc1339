-- What the turns of a program leave is what a run of whole records leaves, after any number of turns and behind the last. Paper 01, "The
-- printed run". Assumes nothing.
use Rattle.std.specs.Prelude.{Bool, List, [], ◌++◌, ◌≡◌, refl, ℕ, ◌+◌, ◌≤◌, length, drop}
use Rattle.std.proofs.Common.{append-nil, sym, ◌∙◌, add-zero, zero-add, arith, drop-drop}
use Rattle.std.proofs.lemmas.List.{drop-append-le}
use Rattle.broker.specs.State.{State, fresh}
use Rattle.ordering.specs.Laws.Runs.{fresh_sound}
use Rattle.print_piece.specs.Laws.Ran.{ran_none, ran_on}
use Rattle.print_piece.specs.Ran.{Ran}
use Rattle.print_run.specs.Laws.Wholes.{run_within}
use Rattle.print_course.specs.Course.{Course, RunSoFar}
use Rattle.print_course.specs.Course.Course.{begun, reads, turns}
use Rattle.print_turn.specs.Turn.{Shows}
use Rattle.print_turn.specs.declared.Turned.{Turned}

module _ {read : List ℕ} {s : State} {base : ℕ} {held : List ℕ} (x : RunSoFar read s base held) where
  -- What is run stands in what was read.
  within : base ≤ length read
  within = rw (← x.ran.came) at (run_within 0 read x.steps fresh 0 (omega arith))

  -- More is read, and nothing is run.
  more_read : (bytes : List ℕ) → RunSoFar (read ++ bytes) s base (held ++ bytes)
  more_read bytes =
      let none = ran_none s (drop base read ++ bytes) (0 + base) x.ran.stays in
      record {
        steps = x.steps;
        answers = x.answers;
        ran = rw (add-zero x.steps, add-zero base, append-nil x.answers) at (ran_on x.ran bytes none);
        rest = rw (x.rest, drop-append-le base read bytes within);
      }

  -- A turn runs more of it.
  pub turn_runs : {state : State} {held' : List ℕ} {r : Turned} {page : List ℕ} → Shows s held base state held' r page →
      RunSoFar read state r.base held'
  turn_runs {state} shows =
      let all : held ≡ drop base read ++ [] = x.rest ∙ sym (append-nil (drop base read)) in
      let later : Ran s (drop base read ++ []) (0 + base) shows.steps state shows.at shows.answers =
      rw (zero-add base, ← all) shows.ran in
      record {
        steps = x.steps + shows.steps;
        answers = x.answers ++ shows.answers;
        ran = rw (append-nil read, ← shows.further) at (ran_on x.ran [] later);
        rest = rw (shows.rest, x.rest, drop-drop shows.at base read, shows.further);
      }

-- After any number of turns the state is that of so many whole records of what was read, and what is held is the rest of it.
pub course_runs : {read written : List ℕ} {s : State} {base : ℕ} {held : List ℕ} {done : Bool} → Course read written s base held done →
    RunSoFar read s base held
course_runs begun = record { steps = 0; answers = []; ran = ran_none fresh [] 0 fresh_sound; rest = refl }
course_runs (reads x bytes) = more_read (course_runs x) bytes
course_runs (turns x shows go) = turn_runs (course_runs x) shows
