-- The messages that stand in slots: a function of the slots alone, whatever links them.
-- Assumes nothing.
use Rattle.std.specs.Prelude.{Bool, cond, ◌&&◌, List, [], ◌∷◌, ℕ, suc, ◌+◌, ◌/◌, ◌%◌, eqb, ltb, get_or}
use Rattle.transit.specs.Columns.{Columns, SEQUENCES}
use Rattle.transit.specs.Message.{message, rank, ranks, cells}
use Rattle.transit.specs.declared.Message.{Message}
use Rattle.transit.specs.declared.Place.{Place}
use Rattle.transit.specs.declared.Place.TheVariants.{SourceList, SourceChannel, EndList, Channel}

-- what the live slots hold, in order: a slot whose number is not that of a pair is dead
abbrev pub held : {A : Type 0} → (ℕ → ℕ → A) → ℕ → List ℕ → List A
held f i [] = []
held f i (p ∷ ps) = cond (ltb p cells) (f i p ∷ held f (suc i) ps) (held f (suc i) ps)

-- the place of a number
abbrev pub place_of : ℕ → Place
place_of n = cond (eqb n 0) SourceList (cond (eqb n 1) SourceChannel (cond (eqb n 2) EndList Channel))

-- the message of a pair, at the place of a number, with a value and a running number
abbrev pub message_of : ℕ → ℕ → ℕ → ℕ → Message
message_of p n v k = message (rank (p / ranks)) (rank (p % ranks)) (place_of n) v k

-- the message of a slot of a pair
abbrev pub message_at : List ℕ → List ℕ → ℕ → ℕ → Message
message_at places contents i p = message_of p (get_or places i 0) (get_or contents i 0) (get_or contents (SEQUENCES + i) 0)

-- the messages of the live slots, in order
abbrev pub messages_of : Columns → List ℕ → List Message
messages_of c contents = held (message_at c.places contents) 0 c.pairs

-- both ranks of the message are below sixteen
abbrev pub ranked : Message → Bool
ranked m = ltb m.sender.0 ranks && ltb m.receiver.0 ranks
