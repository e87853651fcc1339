-- A restart, which is a move of a rank to the host where it runs: it is accepted like any other move and draws a number; and no answer has
-- the number 18. Paper 02, change 2. Assumes nothing.
use Rattle.std.specs.Prelude.{true, false, ◌&&◌, List, ◌≡◌, refl, ℕ, ◌+◌, ◌<◌, eqb, ltb, Result, Ok, Err}
use Rattle.std.proofs.Math.Bool.{and-false}
use Rattle.std.proofs.Math.Option.{none}
use Rattle.std.proofs.Common.{arith, ne_eqb, lt-ltb, ltb-true}
use Rattle.std.proofs.lemmas.Bool.{eqb-false, lt-leb}
use Rattle.answer.specs.declared.Values.{Values}
use Rattle.base.specs.Laws.Tests.{both_left}
use Rattle.transit.specs.Message.{ranks}
use Rattle.transit.specs.declared.Rank.{Rank}
use Rattle.answer.specs.Answer.{refusal_number, NeverEighteen}
use Rattle.protocol.specs.Checks.{refusal}
use Rattle.protocol.proofs.Laws.Accepts.{move_accepted}
use Rattle.protocol.specs.Laws.Names.{drawn_number}
use Rattle.protocol.specs.Laws.Opened.{opened_checks}
use Rattle.protocol.specs.Laws.Sound.{facts}
use Rattle.protocol.proofs.Laws.Step.{carried, step_accepted}
use Rattle.protocol.specs.Migrate.{move}
use Rattle.broker.specs.Names.{hosts, numbers, same_vmid, is_open_request}
use Rattle.record.specs.Record.{decode}
use Rattle.protocol.specs.Sound.{sound, is_drawn}
use Rattle.broker.specs.State.{State, status, request, drawn_on, next_vmid}
use Rattle.protocol.specs.Step.{apply, step}
use Rattle.answer.specs.declared.Refusal.{Refusal}
use Rattle.answer.specs.declared.Refusal.TheVariants.{
  Unsound,
  UnknownKind,
  CutShort,
  RankRange,
  HostRange,
  SameRank,
  NotStarted,
  AlreadyStarted,
  HasEnded,
  IsMigrating,
  NotMigrating,
  Connected,
  RequestOpen,
  NoRequest,
  NotConnected,
  PeerMigrating,
  NoNotice,
  BacklogLeft,
  NoBacklog,
  NothingToDrain,
  NothingUnread,
  UnreadLeft,
  Full,
  NumbersSpent,
  SequenceSpent,
}
use Rattle.broker.specs.declared.process.Status.TheVariants.{Running}
use Rattle.broker.specs.declared.process.Vmid.{Vmid}
use Rattle.record.specs.declared.Record.TheVariants.{Move}

-- "Number 18 is given no more": no refusal has it, and so no answer.
no_refusal : (n : Refusal) → eqb (refusal_number n) 18 ≡ false
no_refusal Unsound = refl
no_refusal UnknownKind = refl
no_refusal CutShort = refl
no_refusal RankRange = refl
no_refusal HostRange = refl
no_refusal SameRank = refl
no_refusal NotStarted = refl
no_refusal AlreadyStarted = refl
no_refusal HasEnded = refl
no_refusal IsMigrating = refl
no_refusal NotMigrating = refl
no_refusal Connected = refl
no_refusal RequestOpen = refl
no_refusal NoRequest = refl
no_refusal NotConnected = refl
no_refusal PeerMigrating = refl
no_refusal NoNotice = refl
no_refusal BacklogLeft = refl
no_refusal NoBacklog = refl
no_refusal NothingToDrain = refl
no_refusal NothingUnread = refl
no_refusal UnreadLeft = refl
no_refusal Full = refl
no_refusal NumbersSpent = refl
no_refusal SequenceSpent = refl

pub never_eighteen : (answer : Result Values Refusal) → NeverEighteen answer
unfolding NeverEighteen
never_eighteen (Ok v) = eqb-false 0 18 refl
never_eighteen (Err n) = eqb-false (refusal_number n) 18 (no_refusal n)

-- "like any other": of two hosts with numbers left, a move of a rank to the one is refused as one to the other, wherever the rank runs.
pub like_any_other :
    (s : State) (r : Rank) (h k : ℕ) → h < hosts → k < hosts → drawn_on s h < numbers → drawn_on s k < numbers →
    refusal s (Move r h) ≡ refusal s (Move r k)
unfolding opened_checks
like_any_other s r h k host host' room room' = simp (lt-ltb _ _ host, lt-ltb _ _ host', lt-leb _ _ room, lt-leb _ _ room')

-- a rank that runs, in a sound state
module _ (s : State) (r : Rank) (v : Vmid) (ok : sound s ≡ true) (in_range : r.0 < ranks) (runs : status s r ≡ Running v) where
  its_own : is_drawn s v ≡ true
  its_own = both_left (is_drawn s v) true (rw runs at ((facts s ok).names.vmids_drawn_lem r in_range))

  -- "draws a number": it is above the one that the rank runs with.
  pub restart_draws : v.1 < drawn_on s v.0 + 1
  restart_draws = omega (arith, drawn_number s v its_own)

  -- So the old process and the new one are told apart.
  pub restart_apart : same_vmid v (next_vmid s v.0) ≡ false
  restart_apart = rw (ne_eqb v.1 (drawn_on s v.0 + 1) (λ e. omega (arith, restart_draws))) (and-false (eqb v.0 v.0))

  -- with no call open, and with a number left on its host
  module _ (idle : is_open_request (request s r) ≡ false) (room : drawn_on s v.0 < numbers) where
    -- "A move to the rank's present host is accepted"
    pub restart_accepted : refusal s (Move r v.0) ≡ none
    restart_accepted =
        move_accepted s r v.0
        (record {
          one = record { in_range = in_range; started = rw runs };
          host = ltb-true v.0 hosts (both_left (ltb v.0 hosts) _ (both_left (ltb v.0 hosts && ltb 0 v.1) _ its_own));
          running = rw runs;
          idle = idle;
          room = room;
        })

    -- and carried out as a move: "the arrival gets h's next number"
    pub restart_carried_out :
        (log : List ℕ) (at next : ℕ) → decode log at ≡ Ok (Move r v.0, next) →
        step s log at ≡ carried (move r v.0 s) next
    unfolding apply
    restart_carried_out log at next read = step_accepted s log at _ next ok read restart_accepted
