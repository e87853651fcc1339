-- Land: the first row of the table of checks that applies is the first of the kind's tests that fails. Assumes nothing.
use Rattle.std.proofs.Math.Bool.{and-true}
use Rattle.std.specs.Prelude.{◌≡◌}
use Rattle.transit.specs.declared.Rank.{Rank}
use Rattle.protocol.specs.Checks.{refusal}
use Rattle.protocol.specs.Laws.Opened.{opened_checks}
use Rattle.broker.specs.State.{awaits_of, State, status, backlog}
use Rattle.broker.specs.Names.{is_clear}
use Rattle.record.specs.declared.Record.TheVariants.{Land}
use Rattle.verdict.specs.Laws.Verdict.{judged_first}
use Rattle.verdict.specs.Verdict.{passed, judged}
use Rattle.protocol.specs.Laws.Ranks.{every_rank_counts}
use Rattle.kind_land.specs.Tests.{land_tests}

-- its refusal, by its tests at the parts of a state
pub by_tests :
    (s : State) (r : Rank) →
    refusal s (Land r) ≡ judged passed (land_tests r (status s r) (awaits_of r s.links))
unfolding opened_checks
by_tests s r = rw (judged_first, ← every_rank_counts (λ p. is_clear (backlog s r p))) (simp and-true)
