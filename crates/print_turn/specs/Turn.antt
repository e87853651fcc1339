-- A turn of a program that reads its input through a buffer: what it runs of what is held, what the page shows, and what it leaves.
-- Paper 01, "The printed run". Assumes nothing.
use Rattle.std.specs.Prelude.{Bool, true, false, cond, List, [], ◌++◌, ◌≡◌, ℕ, ◌+◌, ◌^◌, ◌≤◌, ◌<◌, length, take, drop, Err}
use Rattle.record.specs.Record.{decode, Decoded}
use Rattle.protocol.specs.Sound.{sound}
use Rattle.broker.specs.State.{State}
use Rattle.record.specs.declared.Fault.TheVariants.{Unknown, Cut}
use Rattle.print_piece.specs.Ran.{Ran}
use Rattle.print_run.specs.Printed.{lines_of, last_lines}
use Rattle.print_run.specs.Run.{Answered}
use Rattle.print_run.specs.Wholes.{is_whole, closing}
use Rattle.print_piece.specs.declared.Stop.{Stop}
use Rattle.print_piece.specs.declared.Stop.TheVariants.{PageFull, KindUnknown, RecordCut}
use Rattle.print_turn.specs.declared.Next.{Next}
use Rattle.print_turn.specs.declared.Next.TheVariants.{Again, Read, End, TooLong}
use Rattle.print_turn.specs.declared.Turned.{Turned}

-- the most bytes that a buffer has: "read through at most 65,536 bytes"
abbrev pub buffer_room : ℕ
buffer_room = 65536

-- nothing is run from here on, so that no position is printed that does not fit 64 bits
abbrev pub farthest : ℕ
farthest = 2 ^ 63

-- the bytes of the longest record
abbrev pub longest : ℕ
longest = 7

-- what a program does behind a piece, by why its run stops; at the input's end no more can be read
abbrev pub next_of : Stop → Bool → Next
next_of PageFull done = Again
next_of KindUnknown done = End
next_of RecordCut done = cond done End Read

-- what may follow in the input: nothing at its end
abbrev pub MayFollow : Bool → List ℕ → Type 0
MayFollow done more = done ≡ true → more ≡ []

-- what the page shows behind the lines of the records: how the run ends where it is over, and nothing where it is not
abbrev pub end_behind : Next → ℕ → State → List ℕ → List ℕ
end_behind Again base s held = []
end_behind Read base s held = []
end_behind End base s held = lines_of (closing base held 0) ++ last_lines s
end_behind TooLong base s held = []

-- some whole records of what was held are run: the state is the one that they leave, what is held and where it begins is what stands
-- behind them, and the page shows the lines of their answers and, where the run is over, how it ends
pub record Shows (s : State) (held : List ℕ) (base : ℕ) (state : State) (held' : List ℕ) (r : Turned) (page : List ℕ) : Type 0 where
  pub steps : ℕ
  pub at : ℕ
  pub answers : List Answered
  pub ran : Ran s held base steps state at answers
  pub further : r.base ≡ base + at
  pub rest : held' ≡ drop at held
  pub shown : take r.used page ≡ lines_of answers ++ end_behind r.next r.base state held'

-- a run is over where no whole record stands: at the input's end, or at a kind that is none
abbrev pub Over : Bool → Decoded → Type 0
Over done d = (is_whole d ≡ false) × (done ≡ false → d ≡ Err Unknown)

-- why a program does what it does next: another turn has something to write and comes further on; input is read short of its end, and
-- behind less than a record; a run ends where it is over; and from `farthest` on, and nowhere before, the input is too long, and nothing
-- is run
abbrev pub Because : Next → ℕ → Bool → List ℕ → Turned → Type 0
Because Again base done held r = (base < farthest) × (0 < r.used) × (base < r.base)
Because Read base done held r = (base < farthest) × (done ≡ false) × (decode held 0 ≡ Err Cut) × (r.held < longest)
Because End base done held r = (base < farthest) × Over done (decode held 0)
Because TooLong base done held r = (farthest ≤ base) × (r.base ≡ base) × (r.used ≡ 0)

-- a turn: what it runs and shows where the state was sound, why it goes on as it does, and that nothing that was held is lost or moved
pub record Turns
    (s : State) (buffer : List ℕ) (held base : ℕ) (done : Bool) (room : ℕ) (state : State) (buffer' : List ℕ) (r : Turned) (page : List ℕ)
    : Type 0 where
  pub shows : sound s ≡ true → Shows s (take held buffer) base state (take r.held buffer') r page
  pub because : Because r.next base done (take r.held buffer') r
  pub exact : r.base + r.held ≡ base + held
  pub holds : r.held ≤ held
  pub fits : r.used ≤ length page
  pub keeps : (length buffer' ≡ length buffer) × (length page ≡ room)
