-- Who migrates: an accepted move makes its rank migrate, its accepted landing ends that, and no other record changes it. Paper 01, "Lists
-- of steps": "A move is open from its accepted 06 until its accepted 09." Assumes nothing.
use Rattle.std.specs.Prelude.{◌≡◌, refl, Bool, true, false, cond, ◌&&◌, [], ◌∷◌, ◌<◌}
use Rattle.std.proofs.Common.{sym, ap}
use Rattle.std.proofs.Math.Option.{none}
use Rattle.base.specs.Laws.Stores.{store_unseen}
use Rattle.base.specs.Laws.Tests.{by_test, not_both}
use Rattle.transit.specs.Message.{is_same_rank, ranks}
use Rattle.transit.specs.declared.Rank.{Rank}
use Rattle.protocol.specs.Checks.{refusal}
use Rattle.record.specs.Parts.{is, of_first}
use Rattle.protocol.specs.Connect.{part}
use Rattle.record.specs.Kind
use Rattle.protocol.proofs.Laws.Accepted.{start_fits, move_fits, land_fits, end_fits, running_not_migrating, started_of_migrating}
use Rattle.protocol.specs.Laws.Cases.{drain_cases}
use Rattle.protocol.specs.Laws.Sound.{facts}
use Rattle.protocol.specs.Laws.Standings.{call_unseen, route_unseen}
use Rattle.protocol.specs.Laws.State.{status_with, status_with_request}
use Rattle.protocol.specs.Life.{start, end}
use Rattle.broker.specs.State.{next_vmid, State, idle, status, with_status}
use Rattle.protocol.specs.Messages.{send, take, look}
use Rattle.protocol.specs.Migrate.{move, heed, land}
use Rattle.broker.specs.Names.{endpoint, is_started, is_migrating}
use Rattle.protocol.specs.Sound.{sound}
use Rattle.protocol.specs.Step.{apply}
use Rattle.broker.specs.declared.process.Process.{Process}
use Rattle.broker.specs.declared.process.Status.{Status}
use Rattle.broker.specs.declared.process.Status.TheVariants.{Running, Migrating, Ended}
use Rattle.record.specs.declared.Record.{Record}
use Rattle.record.specs.declared.Record.TheVariants.{Start, Call, Route, Send, Take, Move, Heed, Drain, Land, Part, End, Look}

-- whether a move of r is open after an accepted record, by whether one was open before
abbrev pub open_after : Rank → Bool → Record → Bool
open_after r before x =
    cond (is (Kind.move ∷ []) x && of_first (is_same_rank r) x) true
    (cond (is (Kind.land ∷ []) x && of_first (is_same_rank r) x) false before)

unstarted_not_migrating : (t : Status) → is_started t ≡ false → is_migrating t ≡ false
unstarted_not_migrating t h = by_test (is_migrating t) (λ e. absurd (not_both (started_of_migrating t e) h)) (λ e. e)

-- The rank of an accepted record comes to stand so.
migrates_as : (s y : State) (p : Rank) (t : Status) → sound s ≡ true → p.0 < ranks → y.processes ≡ (with_status p t s).processes
    → (r : Rank) → is_migrating (status y r) ≡ cond (is_same_rank r p) (is_migrating t) (is_migrating (status s r))
migrates_as s y p t h hp same r =
    rw (same, status_with s p r t (facts s h).shape.processes_long hp) (by_test (is_same_rank r p) (λ e. rw e) (λ e. rw e))

-- It stands otherwise, and migrates no more and no less.
migrates_still : (s : State) (p : Rank) (t : Status) → is_migrating t ≡ is_migrating (status s p)
    → (r : Rank) → is_migrating (status (with_status p t s) r) ≡ is_migrating (status s r)
migrates_still s p t e r = store_unseen (λ (q : Process). is_migrating q.status) s.processes p.0 r.0 _ idle e

pub migrating_step : (s : State) (x : Record) (r : Rank) → sound s ≡ true → refusal s x ≡ none
    → is_migrating (status (apply x s).state r) ≡ open_after r (is_migrating (status s r)) x
unfolding apply start send take move heed land part end look
migrating_step s (Start p h) r sd k =
    let f = start_fits s p h k in
    migrates_still s p (Running (next_vmid s h)) (sym (unstarted_not_migrating (status s p) f.unstarted)) r
migrating_step s (Call a b) r sd k =
    call_unseen (λ t. is_migrating (status t r)) (λ t p q. ap is_migrating (status_with_request t p r q)) a b s
migrating_step s (Route a b) r sd k =
    let see : State → Bool = λ t. is_migrating (status t r) in
    route_unseen see (λ t p q. ap is_migrating (status_with_request t p r q)) (λ t ls. refl) (λ t vs. refl) a b s
migrating_step s (Send a b v) r sd k = refl
migrating_step s (Take b a) r sd k = refl
migrating_step s (Move p h) r sd k =
    let f = move_fits s p h k in
    migrates_as s (move p h s).state p (Migrating (endpoint (status s p)) (next_vmid s h)) sd f.one.in_range refl r
migrating_step s (Heed b p) r sd k = refl
migrating_step s (Drain p q) r sd k =
    drain_cases (λ t. is_migrating (status t r) ≡ is_migrating (status s r)) p q s refl refl
migrating_step s (Land p) r sd k =
    let f = land_fits s p k in
    migrates_as s (land p s).state p (Running (endpoint (status s p))) sd f.one.in_range refl r
migrating_step s (Part a b) r sd k = refl
migrating_step s (End p) r sd k =
    let f = end_fits s p k in
    migrates_still s p (Ended (endpoint (status s p))) (sym (running_not_migrating (status s p) f.running)) r
migrating_step s (Look p) r sd k = refl
