-- What the contracts of the entries say alike. Assumes nothing.
use Rattle.std.specs.Prelude.{Bool, true, false, List, [], ◌∷◌, ◌++◌, ◌≡◌, ℕ, ◌+◌, ◌*◌, ◌<◌, ◌≤◌, length, take, drop, Result, Ok, Err}
use Rattle.answer.specs.declared.Refusal.{Refusal}
use Rattle.answer.specs.declared.Values.{Values}
use Rattle.broker.specs.State.{State}
use Rattle.generator.specs.Answer.{Made}
use Rattle.generator.specs.declared.Unmade.TheVariants.{SeedZero, TooShort}
use Rattle.generator_record.specs.MadeUp.{made_log, log_leaves}
use Rattle.print_run.specs.Printed.{lines_of, last_lines}
use Rattle.print_run.specs.Run.{Answered, Came}
use Rattle.print_run.specs.Wholes.{is_whole, closing, wholes}
use Rattle.print_turn.specs.declared.Next.TheVariants.{Again, Read, End, TooLong}
use Rattle.print_turn.specs.declared.Turned.{Turned}
use Rattle.protocol.specs.Sound.{sound}
use Rattle.protocol.specs.Step.{Outcome, step}
use Rattle.record.specs.Record.{decode}
use Rattle.record.specs.declared.Fault.TheVariants.{Unknown, Cut}

-- "ties the answer, next position and whole state afterwards to the step definitions, refusals too, by equality"
abbrev pub ExactStep : State → List ℕ → ℕ → Result Values Refusal → ℕ → State → Type 0
ExactStep s log at answer next state =
    ◌≡◌ {A = Outcome} (record { answer = answer; next = next; state = state }) (step s log at)

-- each answer of a run's steps is such
abbrev pub EachAnswer : (Result Values Refusal → Type 0) → List Answered → Type 0
EachAnswer P [] = Unit {0}
EachAnswer P (a ∷ rest) = P a.answer × EachAnswer P rest

-- "26 for seed zero, then 27 for a buffer shorter than 7 times n bytes; neither writes a byte"; else "The answer is the bytes written; the
-- buffer beyond them is untouched."
pub record Makes (word n : ℕ) (buffer : List ℕ) (made : Made) (after : List ℕ) : Type 0 where
  pub seed_zero : word ≡ 0 → (made ≡ Err SeedZero) × (after ≡ buffer)
  pub too_short : (word ≡ 0 → ⊥) → length buffer < 7 * n → (made ≡ Err TooShort) × (after ≡ buffer)
  pub written :
      (word ≡ 0 → ⊥) → 7 * n ≤ length buffer →
      (made ≡ Ok (length (made_log n word), record { 0 = log_leaves n word })) ×
      (after ≡ made_log n word ++ drop (length (made_log n word)) buffer)

-- a turn of a program, from a state and what is held, whose first byte stands at a position of the input, and whether the input is at its
-- end
pub record TurnOfARun
    (s : State) (held : List ℕ) (base : ℕ) (done : Bool) (state : State) (held' : List ℕ) (r : Turned) (page : List ℕ) : Type 0 where
  -- where the state was sound so many whole records of what was held are run: the state is the one that they leave, what is held is what
  -- stands behind them, and the page shows their lines and, where the run is over, how it ends
  pub runs : sound s ≡ true →
      (steps : ℕ) × (at : ℕ) × (answers : List Answered) ×
      (◌≡◌ {A = Came} (record { state = state; at = at; answers = answers }) (wholes base steps s held 0)) ×
      (r.base ≡ base + at) ×
      (held' ≡ drop at held) ×
      ((r.next ≡ End → ⊥) → take r.used page ≡ lines_of answers) ×
      (r.next ≡ End → take r.used page ≡ lines_of answers ++ (lines_of (closing r.base held' 0) ++ last_lines state))
  -- another turn has something to write and comes further on
  pub again : r.next ≡ Again → (0 < r.used) × (base < r.base)
  -- input is read short of its end, and behind less than a record
  pub reads : r.next ≡ Read → (done ≡ false) × (decode held' 0 ≡ Err Cut) × (r.held < 7)
  -- a run ends where no whole record stands: at the input's end, or at a kind that is none
  pub ends : r.next ≡ End → (is_whole (decode held' 0) ≡ false) × (done ≡ false → decode held' 0 ≡ Err Unknown)
  -- the input is too long from position 2^63 on, and nowhere else, and there nothing is run or written
  pub too_long : r.next ≡ TooLong → 9223372036854775808 ≤ base
  pub nothing_further : 9223372036854775808 ≤ base → (r.next ≡ TooLong) × (r.base ≡ base) × (r.used ≡ 0)
