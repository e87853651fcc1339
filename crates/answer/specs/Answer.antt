-- Paper 01's number and values of an answer. Paper 01, "Where each step is checked"; paper 02, changes 2 and 4.
-- Assumes nothing.
use Rattle.std.specs.Prelude.{List, [], ◌∷◌, ◌≡◌, ℕ, Result, Ok, Err}
use Rattle.answer.specs.declared.Refusal.{Refusal}
use Rattle.answer.specs.declared.Values.{Values}
use Rattle.answer.specs.declared.Refusal.TheVariants.{
  Unsound,
  UnknownKind,
  CutShort,
  RankRange,
  HostRange,
  SameRank,
  NotStarted,
  AlreadyStarted,
  HasEnded,
  IsMigrating,
  NotMigrating,
  Connected,
  RequestOpen,
  NoRequest,
  NotConnected,
  PeerMigrating,
  NoNotice,
  BacklogLeft,
  NoBacklog,
  NothingToDrain,
  NothingUnread,
  UnreadLeft,
  Full,
  NumbersSpent,
  SequenceSpent,
}

-- the number of each row of the table of checks
abbrev pub refusal_number : Refusal → ℕ
refusal_number Unsound = 1
refusal_number UnknownKind = 2
refusal_number CutShort = 3
refusal_number RankRange = 4
refusal_number HostRange = 5
refusal_number SameRank = 6
refusal_number NotStarted = 7
refusal_number AlreadyStarted = 8
refusal_number HasEnded = 9
refusal_number IsMigrating = 10
refusal_number NotMigrating = 11
refusal_number Connected = 12
refusal_number RequestOpen = 13
refusal_number NoRequest = 14
refusal_number NotConnected = 15
refusal_number PeerMigrating = 16
refusal_number NoNotice = 17
refusal_number BacklogLeft = 19
refusal_number NoBacklog = 20
refusal_number NothingToDrain = 21
refusal_number NothingUnread = 22
refusal_number UnreadLeft = 23
refusal_number Full = 24
refusal_number NumbersSpent = 25
refusal_number SequenceSpent = 28

-- the printed number: "0 when accepted"
abbrev pub number : Result Values Refusal → ℕ
number (Ok v) = 0
number (Err n) = refusal_number n

-- Paper 02, change 2: "Number 18 is given no more, and the contract says that no input meets it."
unfoldable pub NeverEighteen : Result Values Refusal → Type 0
NeverEighteen answer = number answer ≡ 18 → ⊥

-- v1, v2 and v3
abbrev pub three : ℕ → ℕ → ℕ → Values
three v1 v2 v3 = record { 0 = v1; 1 = v2; 2 = v3 }

abbrev pub listed : Values → List ℕ
listed v = v.0 ∷ v.1 ∷ v.2 ∷ []

-- the values of an answer: "A refusal leaves .. v1 to v3 zero."
abbrev pub values : Result Values Refusal → List ℕ
values (Ok v) = listed v
values (Err n) = 0 ∷ 0 ∷ 0 ∷ []
