-- The loop's invariant: with what is held the program stands so in a course, whose laws say what was written. Assumes nothing.
use Rattle.desk.specs.Desk.{state_of}
use Rattle.replay_course.specs.Course.{Runs}
use Rattle.replay_course.specs.Laws.Ends.{ahead}
use Rattle.replay.proofs.main.Given as goal

abbrev pub invariant-loop-buffer : goal.invariant-loop-buffer
invariant-loop-buffer l = Runs l.stage (state_of l.desk) l.buffer l.page

abbrev pub decreases-loop-buffer : goal.decreases-loop-buffer
decreases-loop-buffer l = ahead l.stage
