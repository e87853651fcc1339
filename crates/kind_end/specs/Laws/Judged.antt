-- End: the first row of the table of checks that applies is the first of the kind's tests that fails. Assumes nothing.
use Rattle.std.proofs.Math.Bool.{and-true}
use Rattle.std.specs.Prelude.{◌≡◌}
use Rattle.transit.specs.Unread.{first_sent}
use Rattle.transit.specs.declared.Rank.{Rank}
use Rattle.transit.specs.declared.Selection.TheVariants.{To}
use Rattle.protocol.specs.Checks.{refusal}
use Rattle.protocol.specs.Laws.Opened.{opened_checks}
use Rattle.broker.specs.Names.{is_closed}
use Rattle.broker.specs.Ranks.{every_rank}
use Rattle.broker.specs.State.{State, status, request, link_at}
use Rattle.record.specs.declared.Record.TheVariants.{End}
use Rattle.verdict.specs.Laws.Unread.{no_head}
use Rattle.verdict.specs.Laws.Verdict.{judged_first}
use Rattle.verdict.specs.Verdict.{passed, judged}
use Rattle.kind_end.specs.Tests.{end_tests}

-- its refusal, by its tests at the parts of a state
pub by_tests :
    (s : State) (r : Rank) →
    refusal s (End r) ≡
    judged passed
    (end_tests r (status s r) (request s r) (every_rank (λ p. is_closed (link_at s.links r p).connection)) (first_sent (To r) s.unread))
unfolding opened_checks
by_tests s r = rw (judged_first, ← no_head) (simp and-true)
