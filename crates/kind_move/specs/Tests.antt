-- Move: its checks, as tests of the parts of the state that they speak of, in the order of their numbers.
-- Paper 01, "Where each step is checked". Assumes nothing.
use Rattle.std.specs.Prelude.{not, List, [], ◌∷◌, ◌++◌, ℕ, leb, ltb, Option}
use Rattle.transit.specs.declared.Rank.{Rank}
use Rattle.broker.specs.Names.{hosts, numbers, is_started, is_open_request}
use Rattle.transit.specs.Message.{is_rank}
use Rattle.answer.specs.declared.Refusal.TheVariants.{RankRange, HostRange, NotStarted, RequestOpen, NumbersSpent}
use Rattle.broker.specs.declared.process.Request.{Request}
use Rattle.broker.specs.declared.process.Status.{Status}
use Rattle.verdict.specs.Tests.{running_tests}
use Rattle.verdict.specs.Verdict.{Test, test}

-- of the rank's standing and call, and of how many numbers are drawn on the host
abbrev pub move_tests : Rank → ℕ → Status → Option Request → ℕ → List Test
move_tests r h t q n =
    (test (not (is_rank r)) RankRange ∷ test (not (ltb h hosts)) HostRange ∷ test (not (is_started t)) NotStarted ∷ []) ++
    running_tests t ++
    (test (is_open_request q) RequestOpen ∷ test (leb numbers n) NumbersSpent ∷ [])
