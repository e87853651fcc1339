-- A step: the record at a position of a log, its checks, what it does, and where the next one stands. Paper 01, "The step log" and
-- "Where each step is checked". Assumes nothing.
use Rattle.std.specs.Prelude.{cond, List, ℕ, Result, Ok, Err}
use Rattle.std.proofs.Math.Option.{Option, none, some}
use Rattle.protocol.specs.Checks.{refusal}
use Rattle.protocol.specs.Connect.{call, route, part}
use Rattle.protocol.specs.Done.{Done}
use Rattle.protocol.specs.Life.{start, end}
use Rattle.protocol.specs.Messages.{send, take, look}
use Rattle.protocol.specs.Migrate.{move, heed, drain, land}
use Rattle.record.specs.Record.{decode, Decoded}
use Rattle.record.specs.Refused.{refusal_of}
use Rattle.protocol.specs.Sound.{sound}
use Rattle.broker.specs.State.{State}
use Rattle.answer.specs.declared.Refusal.{Refusal}
use Rattle.answer.specs.declared.Values.{Values}
use Rattle.answer.specs.declared.Refusal.TheVariants.{Unsound}
use Rattle.record.specs.declared.Record.{Record}
use Rattle.record.specs.declared.Record.TheVariants.{Start, Call, Route, Send, Take, Move, Heed, Drain, Land, Part, End, Look}

-- what an accepted record does
unfoldable pub apply : Record → State → Done
apply (Start r h) s = start r h s
apply (Call a b) s = call a b s
apply (Route a b) s = route a b s
apply (Send a b v) s = send a b v s
apply (Take b a) s = take b a s
apply (Move r h) s = move r h s
apply (Heed b r) s = heed b r s
apply (Drain r p) s = drain r p s
apply (Land r) s = land r s
apply (Part a b) s = part a b s
apply (End r) s = end r s
apply (Look r) s = look r s

-- what a record that was read whole comes to: its answer, and the state afterwards
pub record Settlement : Type 0 where
  pub answer : Result Values Refusal
  pub state : State

-- "A refusal leaves the state lent for a step unchanged, v1 to v3 zero."
abbrev pub on_refusal : Option Refusal → Done → State → Settlement
on_refusal (some n) d s = record { answer = Err n; state = s }
on_refusal none d s = record { answer = Ok d.values; state = d.state }

-- by the first check that applies
unfoldable pub settle : Record → State → Settlement
settle r s = on_refusal (refusal s r) (apply r s) s

-- all of a step's outcome: its answer, the next position, and the state afterwards
pub record Outcome : Type 0 where
  pub answer : Result Values Refusal
  pub next : ℕ
  pub state : State

abbrev pub refused : Refusal → ℕ → State → Outcome
refused n next s = record { answer = Err n; next = next; state = s }

-- "The position passes the record, except at 1, 2 and 3, where it stays."
abbrev pub on_decoded : ℕ → State → Decoded → Outcome
on_decoded at s (Ok (r, next)) =
    record { answer = (settle r s).answer; next = next; state = (settle r s).state }
on_decoded at s (Err fault) = refused (refusal_of fault) at s

-- a step of a sound state
unfoldable pub step_sound : State → List ℕ → ℕ → Outcome
step_sound s log at = on_decoded at s (decode log at)

-- "1: the lent state is unsound"
unfoldable pub step : State → List ℕ → ℕ → Outcome
step s log at = cond (sound s) (step_sound s log at) (refused Unsound at s)
