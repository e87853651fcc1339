-- What is enough for a kind to be accepted: the facts of `Laws/Accepted`, read back as the rows of the table of checks.
-- Assumes nothing.
use Rattle.std.specs.Prelude.{◌≡◌, ℕ}
use Rattle.std.proofs.Math.Option.{none}
use Rattle.std.proofs.Common.{lt-ltb}
use Rattle.std.proofs.lemmas.Bool.{lt-leb}
use Rattle.transit.specs.declared.Rank.{Rank}
use Rattle.protocol.specs.Checks.{refusal}
use Rattle.protocol.proofs.Laws.Accepted.{
  StartFits,
  CallFits,
  RouteFits,
  SendFits,
  TakeFits,
  MoveFits,
  LandFits,
  PartFits,
  EndFits,
  LookFits,
  running_not_ended,
  running_not_migrating,
  migrating_not_ended,
  open_not_closed,
  open_not_closing,
}
use Rattle.protocol.specs.Laws.Opened.{opened_checks}
use Rattle.protocol.specs.Laws.Ranks.{every_rank_of}
use Rattle.broker.specs.Names.{is_closed, is_clear}
use Rattle.broker.specs.State.{State, status, connection, backlog}
use Rattle.record.specs.declared.Record.TheVariants.{Start, Call, Route, Send, Take, Move, Land, Part, End, Look}

pub start_accepted : (s : State) (r : Rank) (h : ℕ) → StartFits s r h → refusal s (Start r h) ≡ none
unfolding opened_checks
start_accepted s r h f = simp (lt-ltb _ _ f.in_range, lt-ltb _ _ f.host, f.unstarted, lt-leb _ _ f.room)

pub call_accepted : (s : State) (a b : Rank) → CallFits s a b → refusal s (Call a b) ≡ none
unfolding opened_checks
call_accepted s a b f =
    let two = f.two in
    simp (
      lt-ltb _ _ two.first,
      lt-ltb _ _ two.second,
      two.apart,
      two.first_started,
      two.second_started,
      running_not_ended (status s a) f.running,
      running_not_migrating (status s a) f.running,
      f.closed,
      f.idle,
    )

pub route_accepted : (s : State) (a b : Rank) → RouteFits s a b → refusal s (Route a b) ≡ none
unfolding opened_checks
route_accepted s a b f =
    let two = f.two in
    simp (
      lt-ltb _ _ two.first,
      lt-ltb _ _ two.second,
      two.apart,
      two.first_started,
      two.second_started,
      f.asks,
    )

pub send_accepted : (s : State) (a b : Rank) (v : ℕ) → SendFits s a b → refusal s (Send a b v) ≡ none
unfolding opened_checks
send_accepted s a b v f =
    let two = f.two in
    simp (
      lt-ltb _ _ two.first,
      lt-ltb _ _ two.second,
      two.apart,
      two.first_started,
      two.second_started,
      running_not_ended (status s a) f.running,
      running_not_migrating (status s a) f.running,
      f.line,
      lt-leb _ _ f.room,
      lt-leb _ _ f.numbered,
    )

pub take_accepted : (s : State) (b a : Rank) → TakeFits s b a → refusal s (Take b a) ≡ none
unfolding opened_checks
take_accepted s b a f =
    let two = f.two in
    simp (
      lt-ltb _ _ two.first,
      lt-ltb _ _ two.second,
      two.apart,
      two.first_started,
      two.second_started,
      running_not_ended (status s b) f.running,
      running_not_migrating (status s b) f.running,
      f.unread,
    )

pub move_accepted : (s : State) (r : Rank) (h : ℕ) → MoveFits s r h → refusal s (Move r h) ≡ none
unfolding opened_checks
move_accepted s r h f =
    simp (
      lt-ltb _ _ f.one.in_range,
      f.one.started,
      lt-ltb _ _ f.host,
      running_not_ended (status s r) f.running,
      running_not_migrating (status s r) f.running,
      f.idle,
      lt-leb _ _ f.room,
    )

pub land_accepted : (s : State) (r : Rank) → LandFits s r → refusal s (Land r) ≡ none
unfolding opened_checks
land_accepted s r f =
    simp (
      lt-ltb _ _ f.one.in_range,
      f.one.started,
      migrating_not_ended (status s r) f.migrating,
      f.migrating,
      every_rank_of (λ p. is_clear (backlog s r p)) f.clear,
    )

pub part_accepted : (s : State) (a b : Rank) → PartFits s a b → refusal s (Part a b) ≡ none
unfolding opened_checks
part_accepted s a b f =
    let two = f.two in
    simp (
      lt-ltb _ _ two.first,
      lt-ltb _ _ two.second,
      two.apart,
      two.first_started,
      two.second_started,
      running_not_ended (status s a) f.running,
      running_not_migrating (status s a) f.running,
      open_not_closed (connection s a b) f.plain,
      open_not_closing (connection s a b) f.plain,
    )

pub end_accepted : (s : State) (r : Rank) → EndFits s r → refusal s (End r) ≡ none
unfolding opened_checks
end_accepted s r f =
    simp (
      lt-ltb _ _ f.one.in_range,
      f.one.started,
      running_not_ended (status s r) f.running,
      running_not_migrating (status s r) f.running,
      every_rank_of (λ p. is_closed (connection s r p)) f.closed,
      f.idle,
      f.nothing,
    )

pub look_accepted : (s : State) (r : Rank) → LookFits s r → refusal s (Look r) ≡ none
unfolding opened_checks
look_accepted s r f =
    simp (
      lt-ltb _ _ f.one.in_range,
      f.one.started,
      running_not_ended (status s r) f.running,
      running_not_migrating (status s r) f.running,
      f.unread,
    )
