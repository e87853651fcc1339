-- What a record comes to in place. Paper 01, "What the contracts carry". Assumes nothing.
use Rattle.std.specs.Prelude.{true, ◌≡◌, Result}
use Rattle.answer.specs.declared.Refusal.{Refusal}
use Rattle.answer.specs.declared.Values.{Values}
use Rattle.protocol.specs.Sound.{sound}
use Rattle.protocol.specs.Step.{settle}
use Rattle.record.specs.declared.Record.{Record}
use Rattle.desk.specs.Desk.{state_of}
use Rattle.desk.specs.declared.Desk.{Desk}

-- where the desk held a sound state, the answer is the definition's and it holds the definition's next state
abbrev pub Settles : Record → Desk → Result Values Refusal → Desk → Type 0
Settles r d a d' = sound (state_of d) ≡ true → record { answer = a; state = state_of d' } ≡ settle r (state_of d)
