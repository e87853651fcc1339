-- A message's place and its change, and which messages a selection picks. Paper 01, "Names and places".
-- Assumes nothing.
use Rattle.std.specs.Prelude.{Bool, ◌&&◌, List, ◌++◌, ℕ, ◌+◌, ◌*◌, eqb, ltb}
use Rattle.base.specs.Lists.{select}
use Rattle.transit.specs.declared.Message.{Message}
use Rattle.transit.specs.declared.Place.{Place}
use Rattle.transit.specs.declared.Place.TheVariants.{SourceList, SourceChannel, EndList, Channel}
use Rattle.transit.specs.declared.Rank.{Rank}
use Rattle.transit.specs.declared.Selection.{Selection}
use Rattle.transit.specs.declared.Selection.TheVariants.{To, ToAt, Between, BetweenAt}

-- "Ranks are 0 to 15."
abbrev pub ranks : ℕ
ranks = 16

-- the ordered pairs of ranks
abbrev pub cells : ℕ
cells = 256

abbrev pub rank : ℕ → Rank
rank n = record { 0 = n }

abbrev pub is_rank : Rank → Bool
is_rank r = ltb r.0 ranks

-- the number of the pair from a to b, among sixteen rows of sixteen
abbrev pub pair_of : Rank → Rank → ℕ
pair_of a b = ranks * a.0 + b.0

-- a message from a to b at a place, with its value and its running number
abbrev pub message : Rank → Rank → Place → ℕ → ℕ → Message
message a b p v n = record { sender = a; receiver = b; place = p; value = v; sequence = n }

-- "a place: 0 mover's list, 1 lane to the mover, 2 list of the current end, 3 lane to the current end"
abbrev pub place_number : Place → ℕ
place_number SourceList = 0
place_number SourceChannel = 1
place_number EndList = 2
place_number Channel = 3

-- the number of a message's place
abbrev pub place_index : Message → ℕ
place_index m = place_number m.place

-- the same place
abbrev pub same_place : Place → Place → Bool
same_place p q = eqb (place_number p) (place_number q)

-- the same rank
abbrev pub is_same_rank : Rank → Rank → Bool
is_same_rank a b = eqb a.0 b.0

-- the message is at the place
abbrev pub at : Place → Message → Bool
at p m = same_place m.place p

-- the message is to the receiver
abbrev pub to : Rank → Message → Bool
to r m = is_same_rank m.receiver r

-- the message is of the ordered pair, from a to b
abbrev pub between : Rank → Rank → Message → Bool
between a b m = is_same_rank m.sender a && to b m

-- the same message at another place
abbrev pub relabelled : Place → Message → Message
relabelled p m = message m.sender m.receiver p m.value m.sequence

-- a message with its place forgotten: all are at one place
abbrev pub letter : Message → Message
letter m = relabelled EndList m

-- the messages that a selection picks
abbrev pub picks : Selection → Message → Bool
picks (To r) m = to r m
picks (ToAt r p) m = to r m && at p m
picks (Between a b) m = between a b m
picks (BetweenAt a b p) m = between a b m && at p m

-- "Place order is by place and then by sending."
abbrev pub by_place : List Message → List Message
by_place l = select (at SourceList) l ++ select (at SourceChannel) l ++ select (at EndList) l ++ select (at Channel) l

-- the selected messages in place order
abbrev pub place_order : Selection → List Message → List Message
place_order s l = by_place (select (picks s) l)
