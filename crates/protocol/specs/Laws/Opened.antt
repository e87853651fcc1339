-- What soundness, a step and its checks are defined by, each to open in a proof by one name. Assumes nothing.
use Rattle.std.specs.Prelude.{Bool, List, ℕ}
use Rattle.std.proofs.Math.Option.{Option}
use Rattle.transit.specs.Opened.{opened_unread}
use Rattle.protocol.specs.Checks
use Rattle.protocol.specs.Connect
use Rattle.protocol.specs.Life
use Rattle.protocol.specs.Messages
use Rattle.protocol.specs.Migrate
use Rattle.broker.specs.Ranks.{every_rank, every_pair, count_ranks, each_rank}
use Rattle.record.specs.Record.{decode, record_of}
use Rattle.protocol.specs.Sound
use Rattle.broker.specs.State.{State}
use Rattle.protocol.specs.Step.{Outcome, step_sound, settle, apply}
use Rattle.answer.specs.declared.Refusal.{Refusal}
use Rattle.record.specs.declared.Record.{Record}

-- the refusal of a record; where this is opened, every row of the table of checks is open
unfoldable pub opened_checks : State → Record → Option Refusal
unfolding Checks.refusal Checks.checks Checks.rank_range Checks.host_range Checks.rank_twice Checks.not_started
    Checks.already_started Checks.has_ended Checks.first_migrating Checks.not_migrating Checks.connected Checks.request_open
    Checks.no_request Checks.not_connected Checks.peer_migrating Checks.no_notice Checks.backlog_left
    Checks.no_backlog Checks.nothing_to_drain Checks.nothing_unread Checks.unread_left Checks.full Checks.numbers_spent
    Checks.sequence_spent
opened_checks s r = Checks.refusal s r

-- the clauses on names, on pairs of ranks and on messages
unfoldable pub opened_names : State → Bool
unfolding Sound.names_sound Sound.numbers_in_range Sound.vmids_drawn Sound.calls_drawn Sound.tables_drawn Sound.vmids_apart
    every_rank every_pair
opened_names s = Sound.names_sound s

unfoldable pub opened_pairs : State → Bool
unfolding Sound.pairs_sound Sound.nothing_with_self Sound.lines_belong Sound.plain_both_sides Sound.notice_faces_none
    Sound.awaits_belong Sound.unheeded_is_notice Sound.calls_fit every_rank every_pair
opened_pairs s = Sound.pairs_sound s

unfoldable pub opened_messages : State → Bool
unfolding Sound.messages_sound Sound.few_unread Sound.messages_named Sound.ends_fit Sound.unheeded_places Sound.places_fit
    Sound.places_rise Sound.numbers_rise every_pair
opened_messages s = Sound.messages_sound s

-- whether a state is sound; where this is opened, every clause of soundness is open
unfoldable pub opened_sound : State → Bool
unfolding Sound.sound Sound.shaped opened_names opened_pairs opened_messages
opened_sound s = Sound.sound s

-- a step of a sound state; where this is opened, all that it computes with is open, and so the lower part's operations: for what is
-- computed alone, and for no law
unfoldable pub opened : State → List ℕ → ℕ → Outcome
unfolding step_sound settle apply decode record_of opened_checks opened_unread Life.announced Life.start Life.end Connect.call
    Connect.route Connect.part Messages.send Messages.take Messages.look Migrate.leave_all Migrate.move Migrate.heed
    Migrate.drain Migrate.land every_rank every_pair count_ranks each_rank
opened s log at = step_sound s log at
