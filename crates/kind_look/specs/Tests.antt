-- Look: its checks, as tests of the parts of the state that they speak of, in the order of their numbers.
-- Paper 01, "Where each step is checked". Assumes nothing.
use Rattle.std.specs.Prelude.{Option, is_none, List, [], ◌∷◌, ◌++◌}
use Rattle.transit.specs.declared.Message.{Message}
use Rattle.transit.specs.declared.Rank.{Rank}
use Rattle.answer.specs.declared.Refusal.TheVariants.{NothingUnread}
use Rattle.broker.specs.declared.process.Status.{Status}
use Rattle.verdict.specs.Tests.{one_tests, running_tests}
use Rattle.verdict.specs.Verdict.{Test, test}

-- of the rank's standing, and of the first message to it
abbrev pub look_tests : Rank → Status → Option Message → List Test
look_tests r t f = one_tests r t ++ running_tests t ++ (test (is_none f) NothingUnread ∷ [])
