-- The order of sending over all pairs. Paper 02, change 6; the last definition is the claim. Assumes nothing.
use Rattle.std.specs.Prelude.{◌≡◌, cond, List, [], ◌∷◌, ◌++◌, map, ℕ, get_or}
use Rattle.base.specs.Lists.{without}
use Rattle.transit.specs.Message.{rank, letter, between}
use Rattle.transit.specs.Unread.{next_message, one_message_more}
use Rattle.transit.specs.declared.Message.{Message}
use Rattle.transit.specs.declared.Place.TheVariants.{EndList}
use Rattle.transit.specs.declared.Rank.{Rank}
use Rattle.record.specs.Parts.{ranks_in, is}
use Rattle.record.specs.Kind
use Rattle.broker.specs.State.{State, messages}
use Rattle.record.specs.declared.Record.{Record}
use Rattle.ordering.specs.Claim.{Entry, value_in}

-- the first rank that a record names, and the second
abbrev pub first_in : Record → Rank
first_in r = get_or (ranks_in r) 0 (rank 0)

abbrev pub second_in : Record → Rank
second_in r = get_or (ranks_in r) 1 (rank 0)

-- the unread messages as the state holds them, with their places forgotten
abbrev pub letters : State → List Message
letters s = map letter (messages s)

-- what an accepted record sends where each pair has sent so many: a message with the next number of its pair, or nothing; and how many each
-- pair has sent then
abbrev pub posted : List ℕ → Record → List Message
posted counts r = cond (is (Kind.send ∷ []) r) (next_message (first_in r) (second_in r) EndList (value_in r) counts ∷ []) []

abbrev pub counts_after : List ℕ → Record → List ℕ
counts_after counts r = cond (is (Kind.send ∷ []) r) (one_message_more (first_in r) (second_in r) counts) counts

-- all that accepted steps send, over all pairs, in list order
abbrev pub letters_sent : List ℕ → List Entry → List Message
letters_sent counts [] = []
letters_sent counts (e ∷ es) = posted counts e.read ++ letters_sent (counts_after counts e.read) es

-- messages less those that accepted steps take: each take takes the first of its pair
abbrev pub less_taken : Record → List Message → List Message
less_taken r l = cond (is (Kind.take ∷ []) r) (without (between (second_in r) (first_in r)) l) l

abbrev pub less_all_taken : List Entry → List Message → List Message
less_all_taken [] l = l
less_all_taken (e ∷ es) l = less_all_taken es (less_taken e.read l)

-- "The order of sending over all pairs is kept in the state": over accepted steps from one state to another, what is unread stands in it as
-- what was unread and then what was sent, less what was taken
abbrev pub KeptInOrder : State → List Entry → State → Type 0
KeptInOrder s es end = letters end ≡ less_all_taken es (letters s ++ letters_sent s.unread.sent es)
