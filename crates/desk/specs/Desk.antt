-- The state that a desk in place holds, and what the functions of a kind promise of it.
-- Paper 01, "Names and places" and "What the contracts carry". Assumes nothing.
use Rattle.std.specs.Prelude.{true, ◌≡◌, ⊤, Result}
use Rattle.transit.specs.InPlace.{unread}
use Rattle.transit.specs.Unread.{Unread}
use Rattle.protocol.specs.Checks.{refusal}
use Rattle.protocol.specs.Done.{Done}
use Rattle.protocol.specs.Sound.{sound}
use Rattle.broker.specs.State.{State, with_unread}
use Rattle.answer.specs.declared.Refusal.{Refusal}
use Rattle.answer.specs.declared.Values.{Values}
use Rattle.record.specs.declared.Record.{Record}
use Rattle.roster.specs.Roster.{ranks_of}
use Rattle.verdict.specs.Verdict.{verdict_of}
use Rattle.desk.specs.declared.Desk.{Desk}

-- the state that a desk in place holds
abbrev pub state_of : Desk → State
state_of d = with_unread (unread d.mail) (ranks_of d.roster)

-- the verdict is the refusal of the definition
abbrev pub Judges : Record → State → Result ⊤ Refusal → Type 0
Judges r s v = verdict_of v ≡ refusal s r

-- the values and the state afterwards are those of the definition
abbrev pub Does : (State → Done) → State → Values → State → Type 0
Does f s v s' = record { state = s'; values = v } ≡ f s

-- a change that needs no messages: the definition's whatever is unread, sound or not, and the messages are as they were
pub record RosterDoes (f : State → Done) (d : Desk) (v : Values) (d' : Desk) : Type 0 where
  pub does : (u : Unread) → Does f (with_unread u (ranks_of d.roster)) v (with_unread u (ranks_of d'.roster))
  pub mail : d'.mail ≡ d.mail

-- where the desk was sound, the values and the state afterwards are those of the definition
abbrev pub DeskDoes : (State → Done) → Desk → Values → Desk → Type 0
DeskDoes f d v d' = sound (state_of d) ≡ true → Does f (state_of d) v (state_of d')
