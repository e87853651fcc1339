-- What a step by value leaves and answers. Paper 01, "What the contracts carry". Assumes nothing.
use Rattle.std.specs.Prelude.{◌≡◌, Result, Err}
use Rattle.broker.specs.State.{view}
use Rattle.protocol.specs.Step as step
use Rattle.answer.specs.declared.Refusal.{Refusal}
use Rattle.answer.specs.declared.Values.{Values}
use Rattle.broker.specs.declared.state.Broker.{Broker}
use Rattle.steps.specs.declared.Outcome.{Outcome}

abbrev pub outcome : Outcome → step.Outcome
outcome o = record { answer = o.answer; next = o.next; state = view o.broker }

-- "A refusal leaves the state lent for a step unchanged": all of it, its unused message slots too
abbrev pub RefusalKeeps : Result Values Refusal → Broker → Broker → Type 0
RefusalKeeps answer before after = (n : Refusal) → answer ≡ Err n → after ≡ before
