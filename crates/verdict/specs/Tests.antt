-- The checks that most kinds share, as tests of the parts of the state that they speak of, in the order of their numbers.
-- Paper 01, "Where each step is checked". Assumes nothing.
use Rattle.std.specs.Prelude.{not, ◌&&◌, List, [], ◌∷◌}
use Rattle.transit.specs.Message.{is_same_rank, is_rank}
use Rattle.transit.specs.declared.Rank.{Rank}
use Rattle.broker.specs.Names.{is_started, is_migrating, is_ended}
use Rattle.answer.specs.declared.Refusal.TheVariants.{RankRange, SameRank, NotStarted, HasEnded, IsMigrating, NotMigrating}
use Rattle.broker.specs.declared.process.Status.{Status}
use Rattle.verdict.specs.Verdict.{Test, test}

-- 4 and 7, where one rank is named, of the rank and its standing
abbrev pub one_tests : Rank → Status → List Test
one_tests r t = test (not (is_rank r)) RankRange ∷ test (not (is_started t)) NotStarted ∷ []

-- 4, 6 and 7, where two are
abbrev pub two_tests : Rank → Rank → Status → Status → List Test
two_tests a b t u =
    test (not (is_rank a && is_rank b)) RankRange ∷
    test (is_same_rank a b) SameRank ∷
    test (not (is_started t && is_started u)) NotStarted ∷ []

-- 9 and 10, of the first rank's standing
abbrev pub running_tests : Status → List Test
running_tests t = test (is_ended t) HasEnded ∷ test (is_migrating t) IsMigrating ∷ []

-- 9 and 11, of the first rank's standing
abbrev pub migrating_tests : Status → List Test
migrating_tests t = test (is_ended t) HasEnded ∷ test (not (is_migrating t)) NotMigrating ∷ []
