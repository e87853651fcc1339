-- What a step in place leaves and answers. Paper 01, "What the contracts carry". Assumes nothing.
use Rattle.std.specs.Prelude.{true, List, ◌≡◌, ℕ}
use Rattle.protocol.specs.Sound.{sound}
use Rattle.broker.specs.State.{State}
use Rattle.protocol.specs.Step as step
use Rattle.desk.specs.Desk.{state_of}
use Rattle.desk.specs.declared.Desk.{Desk}
use Rattle.steps_in_place.specs.declared.Reply.{Reply}

-- the outcome of a reply, with the state that is then held
abbrev pub replied : Reply → State → step.Outcome
replied r s = record { answer = r.answer; next = r.next; state = s }

-- where the desk held a sound state, the reply is the definition's and it holds the definition's next state
abbrev pub StepsInPlace : List ℕ → ℕ → Desk → Reply → Desk → Type 0
StepsInPlace log at d r d' = sound (state_of d) ≡ true → replied r (state_of d') ≡ step.step_sound (state_of d) log at
