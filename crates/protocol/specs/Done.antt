-- What an accepted step comes to, whatever its kind. Paper 01, "The step log": "v1, v2, v3 are the answer's values".
-- Assumes nothing.
use Rattle.std.specs.Prelude.{ℕ}
use Rattle.answer.specs.Answer.{three}
use Rattle.answer.specs.declared.Values.{Values}
use Rattle.broker.specs.State.{State}

-- what an accepted step leaves: the state, and v1, v2 and v3
pub record Done : Type 0 where
  pub state : State
  pub values : Values

abbrev pub done : State → ℕ → ℕ → ℕ → Done
done s v1 v2 v3 = record { state = s; values = three v1 v2 v3 }
