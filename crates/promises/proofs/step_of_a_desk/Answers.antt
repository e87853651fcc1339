-- It is the contract of `step_in_place`, in full. Assumes nothing.
use Rattle.std.proofs.Common.{sym, ◌∙◌}
use Rattle.answer.specs.Answer.{NeverEighteen}
use Rattle.desk.specs.Desk.{state_of}
use Rattle.protocol.proofs.Laws.Step.{step_of_sound}
use Rattle.promises.proofs.step_of_a_desk.Goals as goal

pub returns-clause-exact : goal.returns-clause-exact
returns-clause-exact c =
    λ ok.
    c.step_in_place.ensures.steps_in_place ok ∙
    sym (step_of_sound (state_of c.args.desk.now) c.args.log.now c.args.at ok)

pub returns-clause-never_eighteen : goal.returns-clause-never_eighteen
unfolding NeverEighteen
returns-clause-never_eighteen c = c.step_in_place.ensures.never_eighteen
