-- The fields of each body that the code tells apart, and what it asks of them. Assumes nothing.
use Rattle.std.specs.Prelude.{Bool, true, false, List, [], ◌∷◌, ℕ}
use Rattle.transit.specs.Message.{ranks}
use Rattle.record.specs.Kind.{Field, rank_byte, host_byte, value_bytes}
use Rattle.broker.specs.Names.{hosts}
use Rattle.generator_record.specs.declared.Body.{Body}
use Rattle.generator_record.specs.declared.Body.TheVariants.{Rank, RankAndHost, Ranks, RanksAndValue}

abbrev pub fields_in : Body → List Field
fields_in Rank = rank_byte ∷ []
fields_in RankAndHost = rank_byte ∷ host_byte ∷ []
fields_in Ranks = rank_byte ∷ rank_byte ∷ []
fields_in RanksAndValue = rank_byte ∷ rank_byte ∷ value_bytes ∷ []

abbrev pub has_second : Body → Bool
has_second Rank = false
has_second RankAndHost = true
has_second Ranks = true
has_second RanksAndValue = true

-- what the second byte is below, where there is one
abbrev pub second_below : Body → ℕ
second_below Rank = ranks
second_below RankAndHost = hosts
second_below Ranks = ranks
second_below RanksAndValue = ranks

abbrev pub has_value : Body → Bool
has_value Rank = false
has_value RankAndHost = false
has_value Ranks = false
has_value RanksAndValue = true
