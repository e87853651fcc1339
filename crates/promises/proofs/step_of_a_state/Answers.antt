-- It is the contract of the step that is called, in full. Assumes nothing.
use Rattle.answer.specs.Answer.{NeverEighteen}
use Rattle.promises.proofs.step_of_a_state.Goals as goal

pub returns-clause-exact : goal.returns-clause-exact
returns-clause-exact c = c.step.ensures.result_value

pub returns-clause-refused_unchanged : goal.returns-clause-refused_unchanged
returns-clause-refused_unchanged c = c.step.ensures.refused_unchanged

pub returns-clause-never_eighteen : goal.returns-clause-never_eighteen
unfolding NeverEighteen
returns-clause-never_eighteen c = c.step.ensures.never_eighteen
