-- End: its checks, as tests of the parts of the state that they speak of, in the order of their numbers.
-- Paper 01, "Where each step is checked". Assumes nothing.
use Rattle.std.specs.Prelude.{Option, is_none, Bool, not, List, [], ◌∷◌, ◌++◌}
use Rattle.transit.specs.declared.Message.{Message}
use Rattle.transit.specs.declared.Rank.{Rank}
use Rattle.broker.specs.Names.{is_open_request}
use Rattle.answer.specs.declared.Refusal.TheVariants.{Connected, RequestOpen, UnreadLeft}
use Rattle.broker.specs.declared.process.Request.{Request}
use Rattle.broker.specs.declared.process.Status.{Status}
use Rattle.verdict.specs.Tests.{one_tests, running_tests}
use Rattle.verdict.specs.Verdict.{Test, test}

-- of the rank's standing and call, of whether it has no line, and of the first message unread by it
abbrev pub end_tests : Rank → Status → Option Request → Bool → Option Message → List Test
end_tests r t q alone f =
    one_tests r t ++
    running_tests t ++
    (test (not alone) Connected ∷ test (is_open_request q) RequestOpen ∷ test (not (is_none f)) UnreadLeft ∷ [])
