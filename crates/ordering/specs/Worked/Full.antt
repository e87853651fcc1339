-- A pair that has all 1,024 messages of the desk: a worked run from the fresh state. Paper 02, change 3: "The unread count of a pair never
-- passes 1,024." It comes to that, and no further. Assumes nothing.
use Rattle.std.specs.Prelude.{◌≡◌, refl, true, List, [], ◌∷◌, ◌++◌, map, ℕ, zero, suc, ◌+◌, ◌<◌, ◌≤◌, replicate, set, Err}
use Rattle.std.proofs.Common.{sym, ap, ◌∙◌, arith}
use Rattle.std.proofs.lemmas.List.{map-append, length-map}
use Rattle.base.specs.Laws.Numbers.{up_from_long, up_from_append}
use Rattle.base.specs.Lists.{select, up_from}
use Rattle.transit.specs.Laws.Operations.{appends}
use Rattle.transit.specs.Message.{message, rank, between, pair_of}
use Rattle.transit.specs.Unread.{Unread, AfterAppend, limit, nothing}
use Rattle.transit.specs.declared.Message.{Message}
use Rattle.transit.specs.declared.Place.TheVariants.{Channel}
use Rattle.transit.specs.declared.Rank.{Rank}
use Rattle.protocol.proofs.Laws.Accepted.{SendFits}
use Rattle.protocol.proofs.Laws.Accepts.{send_accepted}
use Rattle.protocol.specs.Laws.Opened.{opened}
use Rattle.protocol.proofs.Laws.Step.{step_accepted, step_of_sound, step_keeps_sound}
use Rattle.protocol.specs.Messages.{send, unread_between}
use Rattle.record.specs.Record.{decode, record_of}
use Rattle.protocol.specs.Sound.{sound}
use Rattle.broker.specs.State.{State, fresh, with_unread}
use Rattle.protocol.specs.Step.{Outcome, apply}
use Rattle.answer.specs.declared.Refusal.TheVariants.{Full}
use Rattle.record.specs.declared.Record.TheVariants.{Start, Call, Route, Send, Move, Land, Part}
use Rattle.ordering.specs.Claim.{Reading, Entry, step_at, after, accepted}
use Rattle.ordering.specs.Laws.Counts.{count_never_passes}
use Rattle.ordering.specs.Laws.Runs.{fresh_sound, sound_after}
use Rattle.ordering.specs.Worked.Account.{Account, computed_from, computed, from_sound, from_fresh}
use Rattle.ordering.specs.Worked.Result.{whole, did, written, readings}

-- rank 0 and rank 1 are joined
abbrev joining : List Entry
joining =
    did (Start (rank 0) 0) 0 0 ∷
    did (Start (rank 1) 1) 1 0 ∷
    did (Call (rank 0) (rank 1)) 1 0 ∷
    did (Route (rank 0) (rank 1)) 0 1 ∷ []

abbrev joined : State
joined = (computed (readings joining)).end

-- a send from rank 0 to rank 1, and the message that it adds, with its running number
abbrev sending : Reading
sending = whole (written (Send (rank 0) (rank 1) 7))

abbrev letter : ℕ → Message
letter k = message (rank 0) (rank 1) Channel 7 k

-- the two ranks with so many messages sent and unread
abbrev mail : ℕ → List Message → Unread
mail n l = record { messages = l; count = n; sent = set nothing.sent (pair_of (rank 0) (rank 1)) n }

abbrev laden : ℕ → State
laden n = with_unread (mail n (map letter (up_from 1 n))) joined

-- A send can be made while fewer than 1,024 are unread.
send_fits : (n : ℕ) → n < limit → SendFits (laden n) (rank 0) (rank 1)
unfolding computed
send_fits n room =
    record {
      two = record { first = omega arith; second = omega arith; apart = refl; first_started = refl; second_started = refl };
      running = refl;
      line = refl;
      room = room;
      numbered = omega arith;
    }

-- The next message is behind those before it.
one_message : (n : ℕ) → map letter (up_from 1 n) ++ letter (n + 1) ∷ [] ≡ map letter (up_from 1 (n + 1))
unfolding up_from
one_message n =
    let next : 1 + n ≡ n + 1 = omega arith in
    sym (map-append letter (up_from 1 n) (up_from (n + 1) 1)) ∙ ap (map letter) (rw next at (up_from_append 1 n 1))

-- One more message is unread after a send.
one_more : (n : ℕ) → n < limit → sound (laden n) ≡ true → (step_at (laden n) sending).state ≡ laden (n + 1)
unfolding computed decode record_of apply send
one_more n room h =
    ap (λ (o : Outcome). o.state)
    (step_accepted (laden n) sending.log 0 (Send (rank 0) (rank 1) 7) 7 h refl
    (send_accepted (laden n) (rank 0) (rank 1) 7 (send_fits n room))) ∙
    ap (λ (u : AfterAppend). with_unread u.unread joined) (appends (laden n).unread (rank 0) (rank 1) Channel 7 room) ∙
    ap (λ (l : List Message). with_unread (mail (n + 1) l) joined) (one_message n)

-- So many more are unread after so many sends.
fills : (k n : ℕ) → n + k ≤ limit → sound (laden n) ≡ true → after (laden n) (replicate k sending) ≡ laden (n + k)
fills zero n room h = ap laden (omega arith)
fills (suc k) n room h =
    let more = one_more n (omega arith) h in
    let kept = rw more at (step_keeps_sound (laden n) sending.log 0 h) in
    let sum : n + 1 + k ≡ n + suc k = omega arith in
    ap (λ (s : State). after s (replicate k sending)) more ∙ fills k (n + 1) (omega arith) kept ∙ ap laden sum

-- the two are joined, and rank 0 sends so often
abbrev filling : ℕ → List Reading
filling n = readings joining ++ replicate n sending

-- Before the sends nothing is unread.
begins : after fresh (readings joining) ≡ laden 0
unfolding computed up_from
begins = ap (λ (t : Account). t.end) (from_fresh (readings joining))

-- Behind them as many messages are unread as were sent.
leaves : (n : ℕ) → n ≤ limit → after fresh (filling n) ≡ laden n
leaves n room =
    let start = rw begins at (sound_after (readings joining) fresh fresh_sound) in
    let sum : 0 + n ≡ n = omega arith in
    ap (λ (s : State). after s (replicate n sending)) begins ∙ fills n 0 (omega arith) start ∙ ap laden sum

-- All of them are of the pair.
of_the_pair : (l : List ℕ) → select (between (rank 0) (rank 1)) (map letter l) ≡ map letter l
of_the_pair [] = refl
of_the_pair (k ∷ l) = ap (λ (ms : List Message). letter k ∷ ms) (of_the_pair l)

-- After so many sends, up to 1,024, the pair has as many unread.
pub counts_them_all : (n : ℕ) → n ≤ limit → unread_between (rank 0) (rank 1) (after fresh (filling n)) ≡ n
counts_them_all n room = rw (leaves n room, of_the_pair (up_from 1 n), length-map) (up_from_long 1 n)

-- No list of steps leaves more to any pair than 1,024 sends leave to this one.
pub none_leaves_more : (xs : List Reading) (a b : Rank)
    → unread_between a b (after fresh xs) ≤ unread_between (rank 0) (rank 1) (after fresh (filling limit))
none_leaves_more xs a b = rw (counts_them_all limit (omega arith)) (count_never_passes xs a b)

-- The same of 1,024 sends; and the state is sound.
full_leaves : after fresh (filling limit) ≡ laden limit
full_leaves = leaves limit (omega arith)

full_sound : sound (after fresh (filling limit)) ≡ true
full_sound = sound_after (filling limit) fresh fresh_sound

-- One more send is refused with 24.
pub one_more_is_refused : (step_at (after fresh (filling limit)) sending).answer ≡ Err Full
unfolding computed_from computed up_from
one_more_is_refused =
    ap (λ (o : Outcome). o.answer) (step_of_sound (after fresh (filling limit)) sending.log 0 full_sound) ∙
    ap (λ (s : State). (opened s sending.log 0).answer) full_leaves

-- a part, a move and a landing, of which the first and the last count all 1,024
abbrev carrying : List Entry
carrying = did (Part (rank 1) (rank 0)) limit 0 ∷ did (Move (rank 1) 2) 2 0 ∷ did (Land (rank 1)) limit 0 ∷ []

pub all_are_carried : accepted (after fresh (filling limit)) (readings carrying) ≡ carrying
unfolding computed_from computed up_from
all_are_carried =
    ap (λ (t : Account). t.steps) (from_sound (after fresh (filling limit)) (readings carrying) full_sound) ∙
    ap (λ (s : State). (computed_from s (readings carrying)).steps) full_leaves
