use Rattle.std.proofs.Common.{sym, ap, ◌∙◌}
use Rattle.broker.specs.State.{State, view}
use Rattle.protocol.proofs.Laws.Restart.{never_eighteen}
use Rattle.protocol.proofs.Laws.Step.{step_of_unsound}
use Rattle.steps.specs.Laws.InPlace.{stepped_in_place}
use Rattle.steps.specs.Laws.Refused.{refused_step}
use Rattle.steps_in_place.specs.InPlace.{replied}
use Rattle.steps.proofs.step.Goals as goal

-- Any other state than a sound one is refused.
pub returns-then-not-load_into-clause-result_value : goal.returns-then-not-load_into-clause-result_value
returns-then-not-load_into-clause-result_value c =
    let failed = sym c.load_into.ensures.tells ∙ c.if-not-load_into.true in
    sym (step_of_unsound (view c.args.broker) c.args.log.now c.args.at failed)

pub returns-then-not-load_into-clause-never_eighteen : goal.returns-then-not-load_into-clause-never_eighteen
returns-then-not-load_into-clause-never_eighteen c = never_eighteen _

-- A sound state is stepped in place: it stays as it was,
pub returns-in-Err-clause-result_value : goal.returns-in-Err-clause-result_value
returns-in-Err-clause-result_value c =
    let passed = c.if-not-load_into.false in
    let stepped =
    stepped_in_place (view c.args.broker) _ _ c.load_into.new.desk _ c.step_in_place-answer.new.desk
    (sym c.load_into.ensures.tells ∙ passed) (c.load_into.ensures.holds passed)
    c.step_in_place-answer.ensures.steps_in_place in
    refused_step (view c.args.broker) c.args.log.now c.args.at _ _ c.in-Err.is stepped

-- or comes back from the desk.
pub returns-in-Ok-clause-result_value : goal.returns-in-Ok-clause-result_value
returns-in-Ok-clause-result_value c =
    let passed = c.if-not-load_into.false in
    let stepped =
    stepped_in_place (view c.args.broker) _ _ c.load_into.new.desk _ c.step_in_place-answer.new.desk
    (sym c.load_into.ensures.tells ∙ passed) (c.load_into.ensures.holds passed)
    c.step_in_place-answer.ensures.steps_in_place in
    ap (λ (s : State). replied c.step_in_place-answer.result s) c.unload-after.ensures ∙ stepped
