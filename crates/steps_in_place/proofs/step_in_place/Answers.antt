use Rattle.std.proofs.Common.{sym, ◌∙◌}
use Rattle.desk.specs.Desk.{state_of}
use Rattle.protocol.proofs.Laws.Restart.{never_eighteen}
use Rattle.steps_in_place.specs.Laws.Step.{on_whole, on_fault}
use Rattle.steps_in_place.proofs.step_in_place.Goals as goal

-- What stands at the position is settled as `settle` ensures.
pub returns-in-Ok : goal.returns-in-Ok
returns-in-Ok c =
    record {
      steps_in_place = λ ok.
          on_whole (state_of c.args.desk.now) c.args.log.now c.args.at _ _ _ (sym c.decode.ensures ∙ c.in-Ok.is)
          (c.settle-answer.ensures ok);
      never_eighteen = never_eighteen _;
    }

pub returns-in-Err : goal.returns-in-Err
returns-in-Err c =
    record {
      steps_in_place = λ ok.
          rw c.from.ensures (on_fault (state_of c.args.desk.now) c.args.log.now c.args.at _ (sym c.decode.ensures ∙ c.in-Err.is));
      never_eighteen = never_eighteen _;
    }
