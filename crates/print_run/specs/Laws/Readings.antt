-- The steps that a run takes are a list of steps, and it leaves what the list leaves: so all that is claimed of lists of steps holds of
-- runs. Paper 01, "Lists of steps". Assumes nothing.
use Rattle.std.specs.Prelude.{◌≡◌, refl, cond, List, [], ◌∷◌, map, ℕ, zero, suc, ltb, length}
use Rattle.base.specs.Laws.Tests.{by_test}
use Rattle.protocol.specs.Step.{step}
use Rattle.broker.specs.State.{State}
use Rattle.ordering.specs.Claim.{Reading, after}
use Rattle.print_run.specs.Run.{Answered, stops, run_log}

-- the steps that a run takes, so many at most
abbrev pub readings : ℕ → State → List ℕ → ℕ → List Reading
readings zero s log at = []
readings (suc n) s log at =
    let o = step s log at in
    cond (ltb at (length log))
    (record { log = log; at = at } ∷ cond (stops o.answer) [] (readings n o.state log o.next))
    []

-- They leave the state that the run leaves, and stand where its answers stand.
pub readings_run :
    (n : ℕ) (s : State) (log : List ℕ) (at : ℕ) →
    (after s (readings n s log at) ≡ (run_log n s log at).state) ×
    (map (λ (x : Reading). x.at) (readings n s log at) ≡ map (λ (a : Answered). a.at) (run_log n s log at).answers)
unfolding run_log
readings_run zero s log at = (refl, refl)
readings_run (suc n) s log at =
    let o = step s log at in
    let later = readings_run n o.state log o.next in
    by_test (ltb at (length log))
    (λ t. by_test (stops o.answer) (λ u. rw (t, u) (refl, refl)) (λ u. rw (t, u) (later.0, rw later.1)))
    (λ t. rw t (refl, refl))
