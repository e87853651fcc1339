-- Take: its checks, as tests of the parts of the state that they speak of, in the order of their numbers.
-- Paper 01, "Where each step is checked". Assumes nothing.
use Rattle.std.specs.Prelude.{List, [], ◌∷◌, ◌++◌, ℕ, eqb}
use Rattle.transit.specs.declared.Rank.{Rank}
use Rattle.answer.specs.declared.Refusal.TheVariants.{NothingUnread}
use Rattle.broker.specs.declared.process.Status.{Status}
use Rattle.verdict.specs.Tests.{two_tests, running_tests}
use Rattle.verdict.specs.Verdict.{Test, test}

-- of the two ranks' standings, and of how many messages from the second one to the first are unread
abbrev pub take_tests : Rank → Rank → Status → Status → ℕ → List Test
take_tests b a t u n = two_tests b a t u ++ running_tests t ++ (test (eqb n 0) NothingUnread ∷ [])
