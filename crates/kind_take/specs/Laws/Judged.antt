-- Take: the first row of the table of checks that applies is the first of the kind's tests that fails. Assumes nothing.
use Rattle.std.proofs.Math.Bool.{and-true, or-false}
use Rattle.std.specs.Prelude.{◌≡◌}
use Rattle.transit.specs.declared.Rank.{Rank}
use Rattle.protocol.specs.Checks.{refusal}
use Rattle.protocol.specs.Laws.Opened.{opened_checks}
use Rattle.protocol.specs.Messages.{unread_between}
use Rattle.broker.specs.State.{State, status}
use Rattle.record.specs.declared.Record.TheVariants.{Take}
use Rattle.verdict.specs.Laws.Verdict.{judged_first}
use Rattle.verdict.specs.Verdict.{passed, judged}
use Rattle.kind_take.specs.Tests.{take_tests}

-- its refusal, by its tests at the parts of a state
pub by_tests :
    (s : State) (b a : Rank) →
    refusal s (Take b a) ≡ judged passed (take_tests b a (status s b) (status s a) (unread_between a b s))
unfolding opened_checks
by_tests s b a = rw judged_first (simp (and-true, or-false))
