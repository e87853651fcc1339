-- Heed: its checks, as tests of the parts of the state that they speak of, in the order of their numbers.
-- Paper 01, "Where each step is checked". Assumes nothing.
use Rattle.std.specs.Prelude.{not, List, [], ◌∷◌, ◌++◌}
use Rattle.transit.specs.declared.Rank.{Rank}
use Rattle.broker.specs.Names.{is_ended, is_closing}
use Rattle.answer.specs.declared.Refusal.TheVariants.{HasEnded, NoNotice}
use Rattle.broker.specs.declared.link.Connection.{Connection}
use Rattle.broker.specs.declared.process.Status.{Status}
use Rattle.verdict.specs.Tests.{two_tests}
use Rattle.verdict.specs.Verdict.{Test, test}

-- of the two ranks' standings, and of the first one's line to the second
abbrev pub heed_tests : Rank → Rank → Status → Status → Connection → List Test
heed_tests b r t u l = two_tests b r t u ++ (test (is_ended t) HasEnded ∷ test (not (is_closing l)) NoNotice ∷ [])
