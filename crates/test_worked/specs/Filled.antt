-- A state is sound whose messages could have been sent in a sound one: so a full desk need not be computed. Assumes nothing.
use Rattle.std.specs.Prelude.{◌≡◌, true, [], ◌∷◌, ◌++◌, ℕ, zero, suc, ◌+◌, ◌<◌, ◌≤◌, leb, ltb, length}
use Rattle.std.proofs.Math.Option.{none}
use Rattle.std.proofs.Common.{leb-true, lt-ltb, ltb-true, length-append, length-set, get_or-set_same}
use native.Mathlib.Omega.{arith}
use Rattle.base.specs.Below.{each_below}
use Rattle.transit.specs.Laws.Operations.{appends}
use Rattle.transit.specs.Message.{rank, pair_of}
use Rattle.transit.specs.Unread.{Unread, limit, most_sent, sent_at, one_message_more, next_message}
use Rattle.transit.specs.declared.Place.TheVariants.{Channel}
use Rattle.broker.specs.Names.{is_running}
use Rattle.broker.specs.State.{State, status, connection, with_unread}
use Rattle.broker.specs.declared.link.Connection.TheVariants.{Open}
use Rattle.protocol.specs.Checks.{refusal}
use Rattle.protocol.proofs.Laws.Accepted.{Two, send_fits}
use Rattle.protocol.proofs.Laws.Accepts.{send_accepted}
use Rattle.protocol.proofs.Laws.Kept.{sound_kept}
use Rattle.protocol.specs.Messages.{send, sent_between}
use Rattle.protocol.specs.Sound.{sound}
use Rattle.protocol.specs.Step.{apply}
use Rattle.record.specs.declared.Record.TheVariants.{Send}
use Rattle.test_worked.specs.Words.{message, messages}

-- rank a can send b so many messages over a plain line
record Sendable (a b n : ℕ) (s : State) : Type 0 where
  pub two : Two s (rank a) (rank b)
  pub running : is_running (status s (rank a)) ≡ true
  pub line : connection s (rank a) (rank b) ≡ Open
  pub counted : s.unread.count ≡ length s.unread.messages
  pub room : s.unread.count + n ≤ limit
  pub known : pair_of (rank a) (rank b) < length s.unread.sent
  pub numbers : sent_between (rank a) (rank b) s + n ≤ most_sent

-- what is unread is counted, and there is room for so many more messages, and numbers for them
abbrev Room : ℕ → ℕ → ℕ → Unread → Type 0
Room a b n u =
    (u.count ≡ length u.messages) × (leb (u.count + n) limit ≡ true) ×
    (leb (sent_at (rank a) (rank b) u.sent + n) most_sent ≡ true) × (ltb (pair_of (rank a) (rank b)) (length u.sent) ≡ true)

module _ (a b v : ℕ) where
  -- the state with one message more on the line
  abbrev grown : State → State
  grown s =
      with_unread
      (record {
        messages = s.unread.messages ++ (next_message (rank a) (rank b) Channel v s.unread.sent ∷ []);
        count = s.unread.count + 1;
        sent = one_message_more (rank a) (rank b) s.unread.sent;
      }) s

  module _ (n : ℕ) (s : State) (fits : Sendable a b (suc n) s) where
    is_grown : message a b 3 v s ≡ grown s
    is_grown = rw (lt-ltb a 16 fits.two.first, lt-ltb b 16 fits.two.second, fits.counted, length-append)

    -- It is sound, since a send leaves it.
    one_sound : sound s ≡ true → sound (grown s) ≡ true
    unfolding apply send
    one_sound h =
        let all = fits.room in
        let numbers = fits.numbers in
        let room : s.unread.count < limit = omega arith in
        let passes = send_accepted s (rank a) (rank b) v
        (record { two = fits.two; running = fits.running; line = rw fits.line; room = room; numbered = omega arith }) in
        rw (fits.line, appends s.unread (rank a) (rank b) Channel v room) at
        (sound_kept s (Send (rank a) (rank b) v) h passes)

    -- The others have room as before.
    one_less : Sendable a b n (grown s)
    one_less =
        let two = fits.two in
        let all = fits.room in
        let numbers = fits.numbers in
        let pair = pair_of (rank a) (rank b) in
        let next = get_or-set_same s.unread.sent pair (sent_between (rank a) (rank b) s + 1) 0 fits.known in
        record {
          two =
              record {
                first = two.first;
                second = two.second;
                apart = two.apart;
                first_started = two.first_started;
                second_started = two.second_started;
              };
          running = fits.running;
          line = fits.line;
          counted = rw (fits.counted, length-append);
          room = omega arith;
          known = rw length-set fits.known;
          numbers = rw next (omega arith);
        }

    one_more : sound s ≡ true → (sound (message a b 3 v s) ≡ true) × Sendable a b n (message a b 3 v s)
    one_more h = rw is_grown (one_sound h, one_less)

  -- So many more, one after the other.
  more : (k n : ℕ) (s : State) → sound s ≡ true → Sendable a b (k + n) s →
      (sound (each_below k (λ _. message a b 3 v) s) ≡ true) × Sendable a b n (each_below k (λ _. message a b 3 v) s)
  more zero n s h f = let same : 0 + n ≡ n = omega arith in (h, rw same at f)
  more (suc k) n s h f =
      let same : suc k + n ≡ k + suc n = omega arith in
      let before = more k (suc n) s h (rw same at f) in
      one_more n (each_below k (λ _. message a b 3 v) s) before.1 before.0

  -- A sound state in which rank a can send b a message over a plain line, and has room for k of them, is sound with them.
  pub filled : (k : ℕ) (s : State) → sound s ≡ true → refusal s (Send (rank a) (rank b) v) ≡ none
      → connection s (rank a) (rank b) ≡ Open → Room a b k s.unread → sound (messages k a b 3 v s) ≡ true
  filled k s h accepted line room =
      let one = send_fits s (rank a) (rank b) v accepted in
      let fits : Sendable a b k s =
      record {
        two = one.two;
        running = one.running;
        line = line;
        counted = room.0;
        room = leb-true _ _ room.1;
        known = ltb-true _ _ room.3;
        numbers = leb-true _ _ room.2;
      } in
      let same : k ≡ k + 0 = omega arith in
      (more k 0 s h (rw same at fits)).0
