-- The core of a state: standings with every migration read as done, the numbers drawn, the unread messages with their places forgotten,
-- and how many each pair has sent; and what each accepted record does to it. That this is so is `Laws/CoreStep`. Assumes nothing.
use Rattle.std.specs.Prelude.{◌≡◌, refl, true, ℕ, ◌+◌, ◌<◌, get_or, set}
use Rattle.std.proofs.Common.{sym}
use mathlib.Core.List.{List, [], ◌∷◌, ◌++◌, map, map-map, map_congr_left}
use Rattle.base.specs.Laws.Lists.{change_each_keeps, select_map}
use Rattle.transit.specs.Laws.Order.{place_order_is_list_order}
use Rattle.transit.specs.Laws.Pairs.{is_of_pair}
use Rattle.base.specs.Laws.Tests.{by_test}
use Rattle.base.specs.Lists.{select, without}
use Rattle.transit.specs.Message.{letter, between, picks, place_order, relabelled, ranks}
use Rattle.transit.specs.Unread.{each_to, first_to, next_message, one_message_more}
use Rattle.transit.specs.declared.Message.{Message}
use Rattle.transit.specs.declared.Place.{Place}
use Rattle.transit.specs.declared.Place.TheVariants.{EndList}
use Rattle.transit.specs.declared.Rank.{Rank}
use Rattle.transit.specs.declared.Selection.{Selection}
use Rattle.transit.specs.declared.Selection.TheVariants.{Between}
use Rattle.protocol.specs.Laws.Sound.{facts}
use Rattle.protocol.specs.Laws.Standings.{standings, standing_at}
use Rattle.broker.specs.Names.{vmid, endpoint}
use Rattle.protocol.specs.Sound.{sound}
use Rattle.broker.specs.State.{State, status, messages}
use Rattle.broker.specs.declared.process.Status.{Status}
use Rattle.broker.specs.declared.process.Status.TheVariants.{Unstarted, Running, Migrating, Ended}
use Rattle.record.specs.declared.Record.{Record}
use Rattle.record.specs.declared.Record.TheVariants.{Start, Call, Route, Send, Take, Move, Heed, Drain, Land, Part, End, Look}

-- a standing with its migration read as done
abbrev pub settled : Status → Status
settled Unstarted = Unstarted
settled (Running v) = Running v
settled (Migrating source target) = Running target
settled (Ended v) = Ended v

pub record Core : Type 0 where
  pub statuses : List Status
  pub drawn : List ℕ
  pub letters : List Message
  pub sent : List ℕ

abbrev pub core : State → Core
core s =
    record {
      statuses = standings settled s;
      drawn = s.drawn;
      letters = map letter (messages s);
      sent = s.unread.sent;
    }

-- the core with the standing of r changed, with other letters, and with one more sent from a to b
abbrev pub with_standing : Rank → Status → Core → Core
with_standing r t c =
    record { statuses = set c.statuses r.0 t; drawn = c.drawn; letters = c.letters; sent = c.sent }

abbrev pub with_letters : List Message → Core → Core
with_letters l c = record { statuses = c.statuses; drawn = c.drawn; letters = l; sent = c.sent }

abbrev pub with_one_more : Rank → Rank → Core → Core
with_one_more a b c = record { statuses = c.statuses; drawn = c.drawn; letters = c.letters; sent = one_message_more a b c.sent }

-- r comes to run under the next number of h
abbrev pub arrives : Rank → ℕ → Core → Core
arrives r h c =
    let n = get_or c.drawn h 0 + 1 in
    record {
      statuses = set c.statuses r.0 (Running (vmid h n));
      drawn = set c.drawn h n;
      letters = c.letters;
      sent = c.sent;
    }

-- what an accepted record does to the core: a move does what a start does, and seven kinds do nothing
abbrev pub core_step : Record → Core → Core
core_step (Start r h) c = arrives r h c
core_step (Call a b) c = c
core_step (Route a b) c = c
core_step (Send a b v) c =
    with_letters (c.letters ++ next_message a b EndList v c.sent ∷ []) (with_one_more a b c)
core_step (Take b a) c = with_letters (without (between a b) c.letters) c
core_step (Move r h) c = arrives r h c
core_step (Heed b r) c = c
core_step (Drain r p) c = c
core_step (Land r) c = c
core_step (Part a b) c = c
core_step (End r) c = with_standing r (Ended (endpoint (get_or c.statuses r.0 Unstarted))) c
core_step (Look r) c = c

-- a number of each of a pair's letters, in order; their values, and their running numbers
abbrev pub each_between : (Message → ℕ) → Rank → Rank → Core → List ℕ
each_between f a b c = is_of_pair f a b c.letters

abbrev pub values_between : Rank → Rank → Core → List ℕ
values_between = each_between (λ m. m.value)

abbrev pub sequences_between : Rank → Rank → Core → List ℕ
sequences_between = each_between (λ m. m.sequence)

-- Changes of place, of all that are selected or of the first, leave the letters.
pub each_to_letters : (s : Selection) (p : Place) (l : List Message) → map letter (each_to s p l) ≡ map letter l
each_to_letters s p [] = refl
each_to_letters s p (m ∷ l) = rw (change_each_keeps letter (picks s) (relabelled p) (λ x. refl) m, each_to_letters s p l)

pub first_to_letters : (s : Selection) (p : Place) (l : List Message) → map letter (first_to s p l) ≡ map letter l
first_to_letters s p [] = refl
first_to_letters s p (m ∷ l) = by_test (picks s m) (λ e. rw e) (λ e. rw (e, first_to_letters s p l))

-- A rank's standing in the core is its standing, settled, and its current end is the same.
pub core_status : (s : State) (r : Rank) → get_or (core s).statuses r.0 Unstarted ≡ settled (status s r)
core_status s r = standing_at settled s r

pub endpoint_settled : (t : Status) → endpoint (settled t) ≡ endpoint t
endpoint_settled Unstarted = refl
endpoint_settled (Running v) = refl
endpoint_settled (Migrating v w) = refl
endpoint_settled (Ended v) = refl

-- In a sound state place order is the order of sending, so the numbers of the unread messages that are not of their places are those of
-- the letters.
pub unread_each : (f : Message → ℕ) → ((m : Message) → f (letter m) ≡ f m)
    → (s : State) (a b : Rank) → sound s ≡ true → a.0 < ranks → b.0 < ranks
    → map f (place_order (Between a b) (messages s)) ≡ each_between f a b (core s)
unread_each f kept s a b h ha hb =
    rw (place_order_is_list_order (Between a b) (messages s) ((facts s h).mail.places_rise_lem a b ha hb))
    (rw (select_map (between a b) letter (λ m. refl) (messages s), map-map)
    (sym (map_congr_left {f = λ m. f (letter m)} {g = f} {l = select (between a b) (messages s)} (λ m _. kept m))))
