-- Where the program `replay` stands in a course of reads and turns, by what it does next: the invariant of its loop. Paper 01, "The printed
-- run". Assumes nothing.
use Rattle.std.specs.Prelude.{Bool, false, List, ◌++◌, ◌≡◌, ℕ, ◌+◌, ◌≤◌, ◌<◌, length, take}
use Rattle.broker.specs.State.{State, fresh}
use Rattle.print_run.specs.Printed.{printed}
use Rattle.print_course.specs.Course.{Course, RunSoFar}
use Rattle.print_turn.specs.Turn.{buffer_room, farthest, longest, MayFollow}
use Rattle.replay_stage.specs.declared.Ending.TheVariants.{Over, Unwritten, Unread, TooLong}
use Rattle.replay_stage.specs.declared.Stage.{Stage}
use Rattle.replay_stage.specs.declared.Then.{Then}
use Rattle.replay_stage.specs.declared.Then.TheVariants.{Turn, Read, Stop}

-- a program stands so in some course
pub record Stands (s : State) (base : ℕ) (held : List ℕ) (done : Bool) : Type 0 where
  pub read : List ℕ
  pub written : List ℕ
  pub course : Course read written s base held done

-- a program's run is over: whatever follows, all that was written is the printed run of all that was read; and the state is that of so many
-- whole records of it
pub record Finished (s : State) (base : ℕ) (held : List ℕ) (done : Bool) : Type 0 where
  pub read : List ℕ
  pub written : List ℕ
  pub prints : (more : List ℕ) → MayFollow done more → written ≡ printed fresh (read ++ more)
  pub runs : RunSoFar read s base held

-- what holds by what is next: a turn or a read goes on in a course, and a read short of the input's end and behind less than a record; the
-- program stops with `end` where its run is over, and because of the input's length from `farthest` on
abbrev pub Holds : Then → Stage → State → List ℕ → Type 0
Holds Turn at s buffer = Stands s at.base (take at.held buffer) at.done
Holds Read at s buffer = Stands s at.base (take at.held buffer) at.done × (at.done ≡ false) × (at.held < longest)
Holds (Stop Over) at s buffer = Finished s at.base (take at.held buffer) at.done
Holds (Stop Unwritten) at s buffer = Unit {0}
Holds (Stop Unread) at s buffer = Stands s at.base (take at.held buffer) at.done
Holds (Stop TooLong) at s buffer = Stands s at.base (take at.held buffer) at.done × (farthest ≤ at.base)

-- no turn begins further on in the input
abbrev pub last : ℕ
last = farthest + buffer_room

-- the program stands so with a buffer and a page
pub record Runs (at : Stage) (s : State) (buffer page : List ℕ) : Type 0 where
  pub holds : Holds at.then at s buffer
  pub long : (length buffer ≡ buffer_room) × (length page ≡ buffer_room)
  pub room : at.held ≤ buffer_room
  pub near : at.base ≤ last
