-- The pass over the messages, by marks of their places and by their running numbers together: it begins with the answer open, a message
-- decides or is passed, and at the end they are sound. Assumes nothing.
use Rattle.std.specs.Prelude.{◌≡◌, refl, Bool, true, false, ◌&&◌, List, [], ◌∷◌, ℕ, ◌<◌, ◌≤◌, leb, get_or, set, replicate}
use Rattle.std.proofs.Math.Path.{sym}
use Rattle.std.proofs.Math.Bool.{and-false}
use Rattle.std.proofs.Common.{le-leb}
use Rattle.base.specs.Laws.Tests.{both, fails_left, fails_right}
use Rattle.transit.specs.Message.{place_index, cells}
use Rattle.transit.specs.Unread.{Unread, limit}
use Rattle.transit.specs.declared.Message.{Message}
use Rattle.protocol.specs.Laws.Sound.{is_named}
use Rattle.broker.specs.declared.link.Link.{Link}
use Rattle.broker.specs.declared.process.Process.{Process}
use Rattle.soundness_messages.specs.Laws.Marks.{Passing, mark_of, pass_begins, pass_unfit, pass_falls, pass_again, pass_next}
use Rattle.soundness_messages.specs.Laws.Messages.{pair_inside, has_cell, fit_alike}
use Rattle.soundness_messages.specs.Messages.{message_sound_at, pair_of, rises, within, places_rise, numbers_rise, messages_sound}

-- the pass stands before the rest of the messages
pub record MessagesPass (ps : List Process) (ls : List Link) (u : Unread) (last numbers : List ℕ) (rest : List Message) : Type 0 where
  pub places : Passing (message_sound_at ps ls) is_named pair_of place_index cells (places_rise ps ls u) last rest
  pub numbered : rises is_named (within u.sent) pair_of (λ m. m.sequence) numbers rest ≡ numbers_rise u

-- It begins with no message of any pair.
pub begins : (ps : List Process) (ls : List Link) (u : Unread) → MessagesPass ps ls u (replicate cells 0) (replicate cells 0) u.messages
begins ps ls u =
    record {
      places = pass_begins (message_sound_at ps ls) is_named pair_of place_index cells (has_cell ps ls) pair_inside _ _ refl;
      numbered = refl;
    }

-- Where it comes to the end, messages within the limit are sound.
pub ends : {ps : List Process} {ls : List Link} {u : Unread} {last numbers : List ℕ} → MessagesPass ps ls u last numbers []
    → u.count ≤ limit → true ≡ messages_sound ps ls u
unfolding messages_sound
ends p few = sym (both (both (le-leb _ _ few) (sym p.places.same)) (sym p.numbered))

-- the running number of a message may come after the last one of its pair
abbrev pub is_next : Unread → List ℕ → Message → Bool
is_next u numbers m = within u.sent (pair_of m) (get_or numbers (pair_of m) 0) m.sequence

module _ {ps : List Process} {ls : List Link} {u : Unread} {last numbers : List ℕ} {m : Message} {rest : List Message}
    (p : MessagesPass ps ls u last numbers (m ∷ rest)) where
  -- Where the places do not pass, the messages are not sound.
  places_decide : false ≡ places_rise ps ls u → false ≡ messages_sound ps ls u
  unfolding messages_sound
  places_decide fails = sym (fails_left (numbers_rise u) (fails_right (leb u.count limit) (sym fails)))

  -- A message that does not fit decides.
  pub unfit_decides : message_sound_at ps ls m ≡ false → false ≡ messages_sound ps ls u
  unfit_decides unfit = places_decide (pass_unfit p.places unfit)

  -- So does one at a place below the last one of its pair,
  pub fall_decides : mark_of place_index m < get_or last (pair_of m) 0 → false ≡ messages_sound ps ls u
  fall_decides falls = places_decide (pass_falls p.places falls)

  -- and one whose running number may not come after the last one of its pair.
  pub number_decides : is_next u numbers m ≡ false → false ≡ messages_sound ps ls u
  unfolding messages_sound
  number_decides outside =
      let fails = rw (outside, and-false) at p.numbered in
      sym (fails_right (leb u.count limit && places_rise ps ls u) (sym fails))

  -- A running number that may come next is passed.
  number_passes : is_named m ≡ true → is_next u numbers m ≡ true
      → rises is_named (within u.sent) pair_of (λ n. n.sequence) (set numbers (pair_of m) m.sequence) rest ≡ numbers_rise u
  number_passes named next = rw (named, next) at p.numbered

  -- A message at the last place of its pair is passed untested.
  pub passed_again : is_named m ≡ true → is_next u numbers m ≡ true → get_or last (pair_of m) 0 ≡ mark_of place_index m
      → MessagesPass ps ls u last (set numbers (pair_of m) m.sequence) rest
  passed_again named next mark = record { places = pass_again p.places named mark; numbered = number_passes named next }

  -- Any other that fits is passed.
  pub passed_next : is_named m ≡ true → is_next u numbers m ≡ true → message_sound_at ps ls m ≡ true
      → get_or last (pair_of m) 0 ≤ mark_of place_index m
      → MessagesPass ps ls u (set last (pair_of m) (mark_of place_index m)) (set numbers (pair_of m) m.sequence) rest
  passed_next named next fits above =
      record {
        places = pass_next p.places (has_cell ps ls) (fit_alike ps ls) fits above;
        numbered = number_passes named next;
      }
