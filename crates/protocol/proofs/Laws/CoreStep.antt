-- Every accepted record changes the core of a sound state by its function of the core, and a take answers the value and the running number
-- of the first of its pair's letters. Assumes nothing.
use Rattle.std.specs.Prelude.{Option, Some, ◌≡◌, refl, false, eqb, ℕ, length}
use Rattle.std.proofs.Math.Path.{ap}
use Rattle.std.proofs.Common.{◌∙◌}
use Rattle.std.proofs.Math.Bool.{true}
use mathlib.Core.List.{List, [], ◌∷◌, map, map-append}
use Rattle.std.proofs.Math.Option.{none}
use Rattle.base.specs.Laws.Lists.{every_selected, select_map, without_head, without_map}
use Rattle.base.specs.Laws.Stores.{map_set}
use Rattle.transit.specs.Laws.Operations.{appends, relabels, relabels_first}
use Rattle.transit.specs.Laws.Removed.{removed_sent_first}
use Rattle.base.specs.Lists.{select, without}
use Rattle.transit.specs.Message.{message, letter, between}
use Rattle.transit.specs.Unread.{counted}
use Rattle.transit.specs.declared.Message.{Message}
use Rattle.transit.specs.declared.Place.TheVariants.{EndList}
use Rattle.transit.specs.declared.Rank.{Rank}
use Rattle.transit.specs.declared.Selection.TheVariants.{Between}
use Rattle.protocol.specs.Checks.{refusal}
use Rattle.protocol.specs.Connect.{part}
use Rattle.protocol.proofs.Laws.Accepted.{TakeFits, send_fits, take_fits, land_fits}
use Rattle.protocol.specs.Laws.Cases.{drain_cases}
use Rattle.protocol.specs.Laws.Core.{
  core,
  settled,
  core_step,
  each_between,
  values_between,
  sequences_between,
  each_to_letters,
  first_to_letters,
  core_status,
  endpoint_settled,
}
use Rattle.base.specs.Laws.Tests.{both_left, not_both}
use Rattle.protocol.specs.Laws.Links.{sender_of, receiver_of}
use Rattle.protocol.specs.Laws.Sound.{facts}
use Rattle.protocol.specs.Laws.Standings.{standings_with_status, standings_with_request, call_unseen, route_unseen}
use Rattle.protocol.specs.Life.{start, end}
use Rattle.protocol.specs.Messages.{place_over, send, take, look, after_take}
use Rattle.protocol.specs.Migrate.{move, heed, land}
use Rattle.broker.specs.Names.{endpoint, is_migrating}
use Rattle.protocol.specs.Sound.{sound}
use Rattle.broker.specs.State.{State, status, connection, messages, with_request}
use Rattle.protocol.specs.Step.{apply}
use Rattle.broker.specs.declared.process.Request.{Request}
use Rattle.broker.specs.declared.process.Status.{Status}
use Rattle.broker.specs.declared.process.Status.TheVariants.{Unstarted, Running, Migrating, Ended}
use Rattle.record.specs.declared.Record.{Record}
use Rattle.record.specs.declared.Record.TheVariants.{Start, Call, Route, Send, Take, Move, Heed, Drain, Land, Part, End, Look}

-- The core does not see calls, lines and tables.
core_with_request : (s : State) (r : Rank) (q : Option Request) → core (with_request r q s) ≡ core s
core_with_request s r q = rw (standings_with_request settled s r q)

-- A migration that is done is read as it was before.
landed_as : (t : Status) → is_migrating t ≡ true → settled (Running (endpoint t)) ≡ settled t
landed_as Unstarted h = absurd (not_both h refl)
landed_as (Running v) h = refl
landed_as (Migrating v w) h = refl
landed_as (Ended v) h = absurd (not_both h refl)

-- A take takes the first letter of its pair, and answers its value.
module _ (s : State) (b a : Rank) (h : sound s ≡ true) (f : TakeFits s b a) where
  record Taken : Type 0 where
    first : Message
    rest : List Message
    found : select (between a b) (messages s) ≡ first ∷ rest
    removes : after_take b a s ≡ record { found = Some first; unread = counted s.unread.sent (without (between a b) (messages s)) }

  taken : Taken
  taken = at (select (between a b) (messages s)) refl f.unread
    where
      at : (l : List Message) → select (between a b) (messages s) ≡ l → eqb (length l) 0 ≡ false → Taken
      at [] e n = absurd (not_both refl n)
      at (m ∷ l) e n =
          let rises = (facts s h).mail.places_rise_lem a b f.two.second f.two.first in
          record { first = m; rest = l; found = e; removes = removed_sent_first (Between a b) s.unread m l rises e }

  take_core : core (take b a s).state ≡ core_step (Take b a) (core s)
  unfolding take
  take_core = rw (taken.removes, without_map letter (between a b) (λ m. refl))

  -- a number of the letter that is taken, and behind it those of the letters that are left, are those before
  take_first : (f : Message → ℕ) → f (letter taken.first) ∷ each_between f a b (core_step (Take b a) (core s)) ≡ each_between f a b (core s)
  take_first f =
      let letters : select (between a b) (map letter (messages s)) ≡ map letter (taken.first ∷ taken.rest) =
      select_map (between a b) letter (λ m. refl) (messages s) ∙ ap (map letter) taken.found in
      rw (
        without_head (between a b) (map letter (messages s)) (letter taken.first) (map letter taken.rest) letters,
        letters,
      )

  -- the letter that is taken has the value and the running number that the take answers
  pub take_letter :
      (rest : List Message) ×
      (select (between a b) (map letter (messages s)) ≡
      message a b EndList (take b a s).values.0 (take b a s).values.2 ∷ rest)
  unfolding take
  take_letter =
      let own : between a b taken.first ≡ true =
      both_left _ _ (rw taken.found at (every_selected (between a b) (messages s))) in
      let same : letter taken.first ≡ message a b EndList taken.first.value taken.first.sequence =
      rw (sender_of a b taken.first own, receiver_of a b taken.first own) in (
        map letter taken.rest,
        select_map (between a b) letter (λ m. refl) (messages s) ∙ ap (map letter) taken.found ∙
            rw taken.removes (ap (λ (m : Message). m ∷ map letter taken.rest) same),
      )

  pub take_value : (take b a s).values.0 ∷ values_between a b (core_step (Take b a) (core s)) ≡ values_between a b (core s)
  unfolding take
  take_value = rw taken.removes (take_first (λ m. m.value))

  pub take_sequence : (take b a s).values.2 ∷ sequences_between a b (core_step (Take b a) (core s)) ≡ sequences_between a b (core s)
  unfolding take
  take_sequence = rw taken.removes (take_first (λ m. m.sequence))

pub core_step_lem : (s : State) (r : Record) → sound s ≡ true → refusal s r ≡ none
    → core (apply r s).state ≡ core_step r (core s)
unfolding apply look start send move heed land part end
core_step_lem s (Start r h) sd p = rw map_set
core_step_lem s (Call a b) sd p = call_unseen core core_with_request a b s
core_step_lem s (Route a b) sd p = route_unseen core core_with_request (λ t ls. refl) (λ t vs. refl) a b s
core_step_lem s (Send a b v) sd p =
    rw (appends s.unread a b (place_over (connection s a b)) v (send_fits s a b v p).room, map-append)
core_step_lem s (Take b a) sd p = take_core s b a sd (take_fits s b a p)
core_step_lem s (Move r h) sd p = rw (relabels, relabels, each_to_letters, each_to_letters, map_set)
core_step_lem s (Heed b r) sd p = rw (relabels, each_to_letters)
core_step_lem s (Drain r q) sd p = drain_cases (λ t. core t ≡ core s) r q s (rw (relabels_first, first_to_letters)) refl
core_step_lem s (Land r) sd p =
    let stays = landed_as (status s r) (land_fits s r p).migrating in
    rw (relabels, each_to_letters, standings_with_status settled s r (Running (endpoint (status s r))) stays)
core_step_lem s (Part a b) sd p = rw (relabels, relabels, each_to_letters, each_to_letters)
core_step_lem s (End r) sd p = rw (map_set, core_status s r, endpoint_settled)
core_step_lem s (Look r) sd p = refl
