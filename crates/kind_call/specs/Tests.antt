-- Call: its checks, as tests of the parts of the state that they speak of, in the order of their numbers.
-- Paper 01, "Where each step is checked". Assumes nothing.
use Rattle.std.specs.Prelude.{not, List, [], ◌∷◌, ◌++◌, Option}
use Rattle.transit.specs.declared.Rank.{Rank}
use Rattle.broker.specs.Names.{is_open_request, is_closed}
use Rattle.answer.specs.declared.Refusal.TheVariants.{Connected, RequestOpen}
use Rattle.broker.specs.declared.link.Connection.{Connection}
use Rattle.broker.specs.declared.process.Request.{Request}
use Rattle.broker.specs.declared.process.Status.{Status}
use Rattle.verdict.specs.Tests.{two_tests, running_tests}
use Rattle.verdict.specs.Verdict.{Test, test}

-- of the two ranks' standings, of the first one's call, and of its line to the second
abbrev pub call_tests : Rank → Rank → Status → Status → Option Request → Connection → List Test
call_tests a b t u q l =
    two_tests a b t u ++
    running_tests t ++
    (test (not (is_closed l)) Connected ∷ test (is_open_request q) RequestOpen ∷ [])
