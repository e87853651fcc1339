-- Where the program `replay` stands, and what each of its calls does to that. Paper 01, "The printed run". Assumes nothing.
use Rattle.std.specs.Prelude.{Bool, true, false, ℕ, zero, suc, ◌+◌, min, Option, Some, None, Result, Ok, Err}
use Rattle.print_turn.specs.declared.Next.{Next}
use Rattle.print_turn.specs.declared.Next.TheVariants.{Again, Read, End, TooLong}
use Rattle.replay_stage.specs.declared.Ending.TheVariants as Ending
use Rattle.replay_stage.specs.declared.Stage.{Stage}
use Rattle.replay_stage.specs.declared.Then.{Then}

-- nothing is held, and a turn is next
abbrev pub begins : Stage
begins = record { held = 0; base = 0; done = false; used = 0; then = Then.Turn }

-- what a read gave, by what it answered: nothing where it failed, and else so many bytes, no more than were lent
abbrev pub given_of : {E : Type 0} → Result ℕ E → ℕ → Option ℕ
given_of (Ok count) lent = Some (min count lent)
given_of (Err why) lent = None

-- what is given stands behind what is held, and where it is no byte the input is at its end, and nowhere else; where the read failed the
-- program stops
abbrev pub taken_in : Stage → Option ℕ → Stage
taken_in before None =
    record { held = before.held; base = before.base; done = before.done; used = before.used; then = Then.Stop Ending.Unread }
taken_in before (Some zero) = record { held = before.held; base = before.base; done = true; used = before.used; then = Then.Turn }
taken_in before (Some (suc n)) =
    record { held = before.held + suc n; base = before.base; done = false; used = before.used; then = Then.Turn }

-- what the program does behind a turn
abbrev pub then_of : Next → Then
then_of Again = Then.Turn
then_of Read = Then.Read
then_of End = Then.Stop Ending.Over
then_of TooLong = Then.Stop Ending.TooLong

-- where a write failed the program stops
abbrev pub after_write : Stage → Bool → Stage
after_write before true = before
after_write before false =
    record { held = before.held; base = before.base; done = before.done; used = before.used; then = Then.Stop Ending.Unwritten }
