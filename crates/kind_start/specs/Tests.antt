-- Start: its checks, as tests of the parts of the state that they speak of, in the order of their numbers.
-- Paper 01, "Where each step is checked". Assumes nothing.
use Rattle.std.specs.Prelude.{not, List, [], ◌∷◌, ℕ, leb, ltb}
use Rattle.transit.specs.declared.Rank.{Rank}
use Rattle.broker.specs.Names.{hosts, numbers, is_started}
use Rattle.transit.specs.Message.{is_rank}
use Rattle.answer.specs.declared.Refusal.TheVariants.{RankRange, HostRange, AlreadyStarted, NumbersSpent}
use Rattle.broker.specs.declared.process.Status.{Status}
use Rattle.verdict.specs.Verdict.{Test, test}

-- of the rank's standing, and of how many numbers are drawn on the host
abbrev pub start_tests : Rank → ℕ → Status → ℕ → List Test
start_tests r h t n =
    test (not (is_rank r)) RankRange ∷
    test (not (ltb h hosts)) HostRange ∷
    test (is_started t) AlreadyStarted ∷
    test (leb numbers n) NumbersSpent ∷ []
