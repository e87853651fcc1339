-- Part: its checks, as tests of the parts of the state that they speak of, in the order of their numbers.
-- Paper 01, "Where each step is checked". Assumes nothing.
use Rattle.std.specs.Prelude.{List, [], ◌∷◌, ◌++◌}
use Rattle.transit.specs.declared.Rank.{Rank}
use Rattle.broker.specs.Names.{is_closed, is_closing}
use Rattle.answer.specs.declared.Refusal.TheVariants.{NotConnected, PeerMigrating}
use Rattle.broker.specs.declared.link.Connection.{Connection}
use Rattle.broker.specs.declared.process.Status.{Status}
use Rattle.verdict.specs.Tests.{two_tests, running_tests}
use Rattle.verdict.specs.Verdict.{Test, test}

-- of the two ranks' standings, and of the first one's line to the second
abbrev pub part_tests : Rank → Rank → Status → Status → Connection → List Test
part_tests a b t u l =
    two_tests a b t u ++
    running_tests t ++
    (test (is_closed l) NotConnected ∷ test (is_closing l) PeerMigrating ∷ [])
