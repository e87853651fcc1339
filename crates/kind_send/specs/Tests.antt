-- Send: its checks, as tests of the parts of the state that they speak of, in the order of their numbers.
-- Paper 01, "Where each step is checked"; paper 02, change 4. Assumes nothing.
use Rattle.std.specs.Prelude.{List, [], ◌∷◌, ◌++◌, ℕ, leb}
use Rattle.transit.specs.Unread.{limit, most_sent}
use Rattle.transit.specs.declared.Rank.{Rank}
use Rattle.broker.specs.Names.{is_closed}
use Rattle.answer.specs.declared.Refusal.TheVariants.{NotConnected, Full, SequenceSpent}
use Rattle.broker.specs.declared.link.Connection.{Connection}
use Rattle.broker.specs.declared.process.Status.{Status}
use Rattle.verdict.specs.Tests.{two_tests, running_tests}
use Rattle.verdict.specs.Verdict.{Test, test}

-- of the two ranks' standings, of the first one's line to the second, of how many messages are unread, and of how many the first
-- one has sent to the second
abbrev pub send_tests : Rank → Rank → Status → Status → Connection → ℕ → ℕ → List Test
send_tests a b t u l n k =
    two_tests a b t u ++
    running_tests t ++
    (test (is_closed l) NotConnected ∷ test (leb limit n) Full ∷ test (leb most_sent k) SequenceSpent ∷ [])
