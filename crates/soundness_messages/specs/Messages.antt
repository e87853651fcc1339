-- What soundness says of the messages, by passes in order of sending. Paper 01, "Sound states"; paper 02, change 4.
-- Assumes nothing.
use Rattle.std.specs.Prelude.{Bool, true, ◌&&◌, List, [], ◌∷◌, ℕ, leb, ltb, get_or, set, replicate}
use Rattle.transit.specs.Message.{place_index, cells}
use Rattle.transit.specs.Unread.{Unread, limit}
use Rattle.transit.specs.declared.Message.{Message}
use Rattle.protocol.specs.Laws.Sound.{is_named}
use Rattle.soundness_places.specs.Places.{message_fits}
use Rattle.broker.specs.State.{idle, cell, link_at}
use Rattle.broker.specs.declared.link.Link.{Link}
use Rattle.broker.specs.declared.process.Process.{Process}

-- a message by the processes and the links of all
abbrev pub message_sound_at : List Process → List Link → Message → Bool
message_sound_at ps ls m =
    is_named m &&
    message_fits m (get_or ps m.sender.0 idle) (get_or ps m.receiver.0 idle) (link_at ls m.receiver m.sender)

-- the cell of a message's pair
abbrev pub pair_of : Message → ℕ
pair_of m = cell m.sender m.receiver

-- a pass that keeps the last number of each cell: each element fits, and its number may come after the last one of its cell
abbrev pub rises : {A : Type 0} → (A → Bool) → (ℕ → ℕ → ℕ → Bool) → (A → ℕ) → (A → ℕ) → List ℕ → List A → Bool
rises fits after cell_of number_of last [] = true
rises fits after cell_of number_of last (x ∷ xs) =
    fits x &&
    (after (cell_of x) (get_or last (cell_of x) 0) (number_of x) &&
    rises fits after cell_of number_of (set last (cell_of x) (number_of x)) xs)

-- a number that is not below the last one, whatever its cell
abbrev pub not_below : ℕ → ℕ → ℕ → Bool
not_below k last n = leb last n

-- a number above the last one of its cell, and not above the most of it
abbrev pub within : List ℕ → ℕ → ℕ → ℕ → Bool
within most k last n = ltb last n && leb n (get_or most k 0)

-- each message by itself, and "Within a pair, places never fall along the order of sending."
abbrev pub places_rise : List Process → List Link → Unread → Bool
places_rise ps ls u = rises (message_sound_at ps ls) not_below pair_of place_index (replicate cells 0) u.messages

-- Paper 02, change 4: "Sound pairs have unread numbers rising within 1 to the count sent."
abbrev pub numbers_rise : Unread → Bool
numbers_rise u = rises is_named (within u.sent) pair_of (λ m. m.sequence) (replicate cells 0) u.messages

-- "At most 1,024 messages stand."; and each is after the last of its pair
unfoldable pub messages_sound : List Process → List Link → Unread → Bool
messages_sound ps ls u = leb u.count limit && places_rise ps ls u && numbers_rise u
