-- Move: the first row of the table of checks that applies is the first of the kind's tests that fails. Assumes nothing.
use Rattle.std.proofs.Math.Bool.{and-true, or-false}
use Rattle.std.specs.Prelude.{◌≡◌, ℕ}
use Rattle.transit.specs.declared.Rank.{Rank}
use Rattle.protocol.specs.Checks.{refusal}
use Rattle.protocol.specs.Laws.Opened.{opened_checks}
use Rattle.broker.specs.State.{State, status, request, drawn_on}
use Rattle.record.specs.declared.Record.TheVariants.{Move}
use Rattle.verdict.specs.Laws.Verdict.{judged_first}
use Rattle.verdict.specs.Verdict.{passed, judged}
use Rattle.kind_move.specs.Tests.{move_tests}

-- its refusal, by its tests at the parts of a state
pub by_tests :
    (s : State) (r : Rank) (h : ℕ) →
    refusal s (Move r h) ≡ judged passed (move_tests r h (status s r) (request s r) (drawn_on s h))
unfolding opened_checks
by_tests s r h = rw judged_first (simp (and-true, or-false))
