-- Land: its checks, as tests of the parts of the state that they speak of, in the order of their numbers.
-- Paper 01, "Where each step is checked". Assumes nothing.
use Rattle.std.specs.Prelude.{not, List, [], ◌∷◌, ◌++◌, ℕ, eqb}
use Rattle.transit.specs.declared.Rank.{Rank}
use Rattle.answer.specs.declared.Refusal.TheVariants.{BacklogLeft}
use Rattle.broker.specs.declared.process.Status.{Status}
use Rattle.verdict.specs.Tests.{migrating_tests, one_tests}
use Rattle.verdict.specs.Verdict.{Test, test}

-- of the rank's standing, and of how many awaits it has
abbrev pub land_tests : Rank → Status → ℕ → List Test
land_tests r t n = one_tests r t ++ migrating_tests t ++ (test (not (eqb n 0)) BacklogLeft ∷ [])
