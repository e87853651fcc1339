-- A run of a log: step after step, each from the state and the position that the one before left. Paper 01, "The printed run".
-- Assumes nothing.
use Rattle.std.specs.Prelude.{Bool, cond, ◌&&◌, List, [], ◌∷◌, ◌++◌, ℕ, zero, suc, leb, ltb, length, get_or, Result}
use Rattle.answer.specs.Answer.{number}
use Rattle.answer.specs.declared.Values.{Values}
use Rattle.answer.specs.declared.Refusal.{Refusal}
use Rattle.broker.specs.State.{State}
use Rattle.protocol.specs.Step.{Outcome, step}

-- a step of a run: its position in the input, the kind that stands there, and the answer
pub record Answered : Type 0 where
  pub at : ℕ
  pub kind : ℕ
  pub answer : Result Values Refusal

-- what a run has come to: the state, the position, and its steps in order
pub record Came : Type 0 where
  pub state : State
  pub at : ℕ
  pub answers : List Answered

-- a run of no steps
abbrev pub standing : State → ℕ → Came
standing s at = record { state = s; at = at; answers = [] }

-- a run behind some steps
abbrev pub behind : List Answered → Came → Came
behind steps c = record { state = c.state; at = c.at; answers = steps ++ c.answers }

-- what a run keeps of a step
abbrev pub answered : List ℕ → ℕ → Outcome → Answered
answered log at o = record { at = at; kind = get_or log at 0; answer = o.answer }

-- "The position passes the record, except at 1, 2 and 3, where it stays."
abbrev pub stops : Result Values Refusal → Bool
stops a = leb 1 (number a) && leb (number a) 3

-- "It stops at the log's end .. or after a 2 or 3": a run of so many steps at most
unfoldable pub run_log : ℕ → State → List ℕ → ℕ → Came
run_log zero s log at = standing s at
run_log (suc n) s log at =
    let o = step s log at in
    cond (ltb at (length log))
    (behind (answered log at o ∷ [])
    (cond (stops o.answer) (standing o.state o.next) (run_log n o.state log o.next)))
    (standing s at)
