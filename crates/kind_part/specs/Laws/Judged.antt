-- Part: the first row of the table of checks that applies is the first of the kind's tests that fails. Assumes nothing.
use Rattle.std.proofs.Math.Bool.{and-true}
use Rattle.std.specs.Prelude.{◌≡◌}
use Rattle.transit.specs.declared.Rank.{Rank}
use Rattle.protocol.specs.Checks.{refusal}
use Rattle.protocol.specs.Laws.Opened.{opened_checks}
use Rattle.broker.specs.State.{State, status, connection}
use Rattle.record.specs.declared.Record.TheVariants.{Part}
use Rattle.verdict.specs.Laws.Verdict.{judged_first}
use Rattle.verdict.specs.Verdict.{passed, judged}
use Rattle.kind_part.specs.Tests.{part_tests}

-- its refusal, by its tests at the parts of a state
pub by_tests :
    (s : State) (a b : Rank) →
    refusal s (Part a b) ≡ judged passed (part_tests a b (status s a) (status s b) (connection s a b))
unfolding opened_checks
by_tests s a b = rw judged_first (simp and-true)
