-- What a run of a piece of the input comes to, beside the page and on it. Paper 01, "The printed run". Assumes nothing.
use Rattle.std.specs.Prelude.{true, List, [], ◌∷◌, ◌≡◌, ℕ, ◌+◌, ◌*◌, ◌≤◌, ◌<◌, length, take, Err}
use Rattle.print_lines.specs.Lines.{record_room}
use Rattle.answer.specs.Answer.{NeverEighteen}
use Rattle.record.specs.Record.{decode}
use Rattle.protocol.specs.Sound.{sound}
use Rattle.broker.specs.State.{State}
use Rattle.record.specs.declared.Fault.TheVariants.{Unknown, Cut}
use Rattle.print_run.specs.Printed.{lines_of}
use Rattle.print_run.specs.Run.{Answered, Came}
use Rattle.print_run.specs.Wholes.{wholes}
use Rattle.print_piece.specs.declared.Stop.{Stop}
use Rattle.print_piece.specs.declared.Stop.TheVariants.{PageFull, KindUnknown, RecordCut}

-- so many whole records of a piece are run from a state: the state, the position and the answers are those of the definition, and the
-- state is sound
pub record Ran (s : State) (piece : List ℕ) (base steps : ℕ) (state : State) (at : ℕ) (answers : List Answered) : Type 0 where
  pub came : ◌≡◌ {A = Came} (record { state = state; at = at; answers = answers }) (wholes base steps s piece 0)
  pub counted : length answers ≡ steps
  pub stays : sound state ≡ true

-- Paper 02, change 2: "no input meets it", of the steps of a run
abbrev pub NeverEighteenIn : List Answered → Type 0
NeverEighteenIn [] = Unit {0}
NeverEighteenIn (a ∷ rest) = NeverEighteen a.answer × NeverEighteenIn rest

-- why it stops: the page has no room for another line, or no whole record stands there
abbrev pub Stops : Stop → List ℕ → ℕ → ℕ → ℕ → Type 0
Stops PageFull piece at used room = room < used + record_room
Stops KindUnknown piece at used room = decode piece at ≡ Err Unknown
Stops RecordCut piece at used room = decode piece at ≡ Err Cut

-- some whole records of a piece are run, and a page of so many bytes shows the lines of their answers; where the state was sound, the
-- answers are those of the definition
pub record RanSome (s : State) (piece : List ℕ) (base room : ℕ) (state : State) (at used steps : ℕ) (page : List ℕ) : Type 0 where
  pub answers : List Answered
  pub shown : take used page ≡ lines_of answers
  pub never_eighteen : NeverEighteenIn answers
  pub ran : sound s ≡ true → Ran s piece base steps state at answers
  pub inside : at ≤ length piece
  pub fits : used ≤ length page
  pub keeps : length page ≡ room
  pub taken : used ≤ record_room * at
  pub moved : steps ≤ at
