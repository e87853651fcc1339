-- Drain: its checks, as tests of the parts of the state that they speak of, in the order of their numbers.
-- Paper 01, "Where each step is checked". Assumes nothing.
use Rattle.std.specs.Prelude.{Option, is_none, ◌&&◌, List, [], ◌∷◌, ◌++◌}
use Rattle.transit.specs.declared.Message.{Message}
use Rattle.transit.specs.declared.Rank.{Rank}
use Rattle.broker.specs.Names.{is_clear, is_unheeded}
use Rattle.answer.specs.declared.Refusal.TheVariants.{NoBacklog, NothingToDrain}
use Rattle.broker.specs.declared.link.Backlog.{Backlog}
use Rattle.broker.specs.declared.process.Status.{Status}
use Rattle.verdict.specs.Tests.{migrating_tests, two_tests}
use Rattle.verdict.specs.Verdict.{Test, test}

-- of the two ranks' standings, of the first one's await of the second, and of the first message on the second one's channel
abbrev pub drain_tests : Rank → Rank → Status → Status → Backlog → Option Message → List Test
drain_tests r p t u g f =
    two_tests r p t u ++
    migrating_tests t ++
    (test (is_clear g) NoBacklog ∷ test (is_none f && is_unheeded g) NothingToDrain ∷ [])
