-- The words of the list of states, each a change of a state. Paper 01, "Names and places"; paper 02, change 4.
-- Assumes nothing.
use Rattle.std.specs.Prelude.{cond, ◌&&◌, List, [], ◌∷◌, ◌++◌, ℕ, ◌+◌, get_or, set}
use Rattle.base.specs.Below.{each_below}
use Rattle.transit.specs.Message.{ranks, rank, is_rank, pair_of}
use Rattle.transit.specs.Unread.{counted}
use Rattle.transit.specs.declared.Message.{Message}
use Rattle.transit.specs.declared.Place.{Place}
use Rattle.transit.specs.declared.Place.TheVariants.{SourceList, SourceChannel, EndList, Channel}
use Rattle.protocol.specs.Messages.{sent_between}
use Rattle.broker.specs.Names.{vmid, posted}
use Rattle.broker.specs.State as State
use Rattle.broker.specs.State.{State, cell, connect, await, with_status, with_request, with_locations, with_links, with_drawn, with_unread}
use Rattle.broker.specs.declared.link.Backlog.TheVariants.{Unheeded, Marked}
use Rattle.broker.specs.declared.link.Connection.TheVariants.{Open, Closing}
use Rattle.broker.specs.declared.process.Status.TheVariants.{Running, Migrating, Ended}

abbrev pub Change : Type 0
Change = State → State

-- the changes, one after the other
abbrev pub changed : State → List Change → State
changed s [] = s
changed s (c ∷ cs) = changed (c s) cs

abbrev pub fresh : Change
fresh s = State.fresh

-- a rank's standing
abbrev pub running : ℕ → ℕ → ℕ → Change
running a h n = with_status (rank a) (Running (vmid h n))

abbrev pub moving : ℕ → ℕ → ℕ → ℕ → ℕ → Change
moving a h n k m = with_status (rank a) (Migrating (vmid h n) (vmid k m))

abbrev pub ended : ℕ → ℕ → ℕ → Change
ended a h n = with_status (rank a) (Ended (vmid h n))

-- how many numbers are drawn on a host
abbrev pub drawn : ℕ → ℕ → Change
drawn = with_drawn

-- a's entry for b
abbrev pub table : ℕ → ℕ → ℕ → ℕ → Change
table a b h n s = with_locations (set s.locations (cell (rank a) (rank b)) (vmid h n)) s

-- everybody's entry for b
abbrev pub tables : ℕ → ℕ → ℕ → Change
tables b h n s =
    with_locations (each_below ranks (λ a ls. set ls (cell (rank a) (rank b)) (vmid h n)) s.locations) s

-- a's call to b
abbrev pub call : ℕ → ℕ → ℕ → ℕ → Change
call a b h n = with_request (rank a) (posted (rank b) (vmid h n))

-- a's line to b
abbrev pub plain : ℕ → ℕ → Change
plain a b s = with_links (connect (rank a) (rank b) Open s.links) s

abbrev pub notice : ℕ → ℕ → Change
notice a b s = with_links (connect (rank a) (rank b) Closing s.links) s

-- a's await of b
abbrev pub unheeded : ℕ → ℕ → Change
unheeded a b s = with_links (await (rank a) (rank b) Unheeded s.links) s

abbrev pub marked : ℕ → ℕ → Change
marked a b s = with_links (await (rank a) (rank b) Marked s.links) s

-- the place of a number; there are four
abbrev pub place_of : ℕ → Place
place_of p = get_or (SourceList ∷ SourceChannel ∷ EndList ∷ []) p Channel

-- one more message is unread, with a running number; the count sent stays
abbrev pub numbered : ℕ → ℕ → ℕ → ℕ → ℕ → Change
numbered a b p v k s =
    let message : Message = record { sender = rank a; receiver = rank b; value = v; sequence = k; place = place_of p } in
    with_unread (counted s.unread.sent (s.unread.messages ++ message ∷ [])) s

-- a has sent n messages to b
abbrev pub sent : ℕ → ℕ → ℕ → Change
sent a b n s = with_unread (counted (set s.unread.sent (pair_of (rank a) (rank b)) n) s.unread.messages) s

-- one more message is unread, with the next number of its pair, which has then sent one more; for a rank above 15 the number is 1, and
-- nothing is counted
abbrev pub message : ℕ → ℕ → ℕ → ℕ → Change
message a b p v s =
    let k = sent_between (rank a) (rank b) s + 1 in
    cond (is_rank (rank a) && is_rank (rank b)) (numbered a b p v k (sent a b k s)) (numbered a b p v 1 s)

-- n more such messages
abbrev pub messages : ℕ → ℕ → ℕ → ℕ → ℕ → Change
messages n a b p v = each_below n (λ _. message a b p v)
