-- Route: its checks, as tests of the parts of the state that they speak of, in the order of their numbers.
-- Paper 01, "Where each step is checked". Assumes nothing.
use Rattle.std.specs.Prelude.{not, List, [], ◌∷◌, ◌++◌, Option}
use Rattle.transit.specs.declared.Rank.{Rank}
use Rattle.broker.specs.Names.{asks_for}
use Rattle.answer.specs.declared.Refusal.TheVariants.{NoRequest}
use Rattle.broker.specs.declared.process.Request.{Request}
use Rattle.broker.specs.declared.process.Status.{Status}
use Rattle.verdict.specs.Tests.{two_tests}
use Rattle.verdict.specs.Verdict.{Test, test}

-- of the two ranks' standings, and of the first one's call
abbrev pub route_tests : Rank → Rank → Status → Status → Option Request → List Test
route_tests a b t u q = two_tests a b t u ++ (test (not (asks_for b q)) NoRequest ∷ [])
