-- Drain: the first row of the table of checks that applies is the first of the kind's tests that fails. Assumes nothing.
use Rattle.std.proofs.Math.Bool.{and-true}
use Rattle.std.specs.Prelude.{◌≡◌}
use Rattle.transit.specs.Unread.{first_sent}
use Rattle.transit.specs.declared.Rank.{Rank}
use Rattle.protocol.specs.Checks.{refusal}
use Rattle.protocol.specs.Laws.Opened.{opened_checks}
use Rattle.broker.specs.State.{State, status, backlog}
use Rattle.protocol.specs.Migrate.{on_source_channel}
use Rattle.record.specs.declared.Record.TheVariants.{Drain}
use Rattle.verdict.specs.Laws.Unread.{no_head}
use Rattle.verdict.specs.Laws.Verdict.{judged_first}
use Rattle.verdict.specs.Verdict.{passed, judged}
use Rattle.kind_drain.specs.Tests.{drain_tests}

-- its refusal, by its tests at the parts of a state
pub by_tests :
    (s : State) (r p : Rank) →
    refusal s (Drain r p) ≡
    judged passed (drain_tests r p (status s r) (status s p) (backlog s r p) (first_sent (on_source_channel p r) s.unread))
unfolding opened_checks
by_tests s r p = rw (judged_first, ← no_head) (simp and-true)
