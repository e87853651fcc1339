-- A step in place of a desk that holds a state is a step of it. Assumes nothing.
use Rattle.std.specs.Prelude.{◌≡◌, true, List, ℕ}
use Rattle.std.proofs.Common.{sym, subst, ◌∙◌}
use Rattle.protocol.proofs.Laws.Step.{step_of_sound}
use Rattle.protocol.specs.Sound.{sound}
use Rattle.broker.specs.State.{State}
use Rattle.protocol.specs.Step.{step, step_sound}
use Rattle.desk.specs.Desk.{state_of}
use Rattle.desk.specs.declared.Desk.{Desk}
use Rattle.steps_in_place.specs.InPlace.{replied, StepsInPlace}
use Rattle.steps_load.specs.Held.{HoldsState}
use Rattle.steps_in_place.specs.declared.Reply.{Reply}

-- a step of a desk that holds a sound state is a step of it
pub stepped_in_place :
    (s : State) (log : List ℕ) (at : ℕ) (d : Desk) (r : Reply) (d' : Desk) → sound s ≡ true → HoldsState s d →
    StepsInPlace log at d r d' → replied r (state_of d') ≡ step s log at
stepped_in_place s log at d r d' ok h x =
    subst (λ (t : State). replied r (state_of d') ≡ step_sound t log at) h (x (rw h ok)) ∙ sym (step_of_sound s log at ok)
