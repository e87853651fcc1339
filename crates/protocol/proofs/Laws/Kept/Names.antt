-- Every accepted record keeps the names sound: numbers in range, each vmid drawn, the tables, and no vmid of two processes.
-- Assumes nothing.
use Rattle.std.specs.Prelude.{◌≡◌, refl, true, false, not, cond, ◌&&◌, List, [], ◌∷◌, ℕ, ◌+◌, ◌<◌, ◌≤◌, eqb, get_or, set, Option, None}
use Rattle.std.proofs.Math.Option.{none}
use Rattle.std.proofs.Common.{arith, lt-ltb}
use Rattle.base.specs.Laws.Tests.{both, both_right, chosen, first_wider, eqb_swap}
use Rattle.base.specs.Lists.{every}
use Rattle.base.specs.Laws.Lists.{every_wider}
use Rattle.transit.specs.Message.{is_same_rank, is_rank, ranks, cells}
use Rattle.transit.specs.Unread.{Unread}
use Rattle.transit.specs.declared.Rank.{Rank}
use Rattle.protocol.specs.Connect.{call, part, withdraw}
use Rattle.protocol.proofs.Laws.Accepted.{
  One,
  start_fits,
  call_fits,
  route_fits,
  move_fits,
  land_fits,
  end_fits,
  running_not_ended,
  migrating_not_ended,
}
use Rattle.protocol.specs.Laws.Cases.{chosen_at, route_cases, drain_cases}
use Rattle.protocol.specs.Checks.{refusal}
use Rattle.base.specs.Laws.Stores.{long_set}
use Rattle.protocol.specs.Laws.Each.{announced_own, announced_other}
use Rattle.protocol.proofs.Laws.Kept.Shape.{shape_with_locations, shape_with_drawn, shape_connect, shape_withdraw}
use Rattle.protocol.specs.Laws.Names.{
  same_vmid_swap,
  none_shared_swap,
  next_apart,
  drawn_after,
  still_drawn,
  next_drawn,
  endpoint_in,
  processes_in,
  processes_all,
  of_call_wider,
}
use Rattle.protocol.specs.Laws.Sound.{Shape, Names, Facts}
use Rattle.protocol.specs.Laws.State.{
  same_rank_eq,
  same_rank_self,
  cell_set,
  status_with,
  request_with_status,
  request_with,
  status_with_request,
}
use Rattle.broker.specs.State.{
  next_vmid,
  draw,
  State,
  cell,
  status,
  request,
  location,
  drawn_on,
  with_status,
  with_request,
  with_locations,
  with_links,
  with_unread,
}
use Rattle.protocol.specs.Life.{announced, start, end}
use Rattle.protocol.specs.Messages.{send, take, look}
use Rattle.protocol.specs.Migrate.{move, heed, land}
use Rattle.broker.specs.Names.{numbers, unknown, same_vmid, is_started, is_ended, endpoint, processes_of, vmids_of, asks_for, posted}
use Rattle.protocol.specs.Sound.{is_drawn, of_call, none_shared, distinct}
use Rattle.protocol.specs.Step.{apply}
use Rattle.broker.specs.declared.link.Connection.TheVariants.{Open}
use Rattle.broker.specs.declared.link.Link.{Link}
use Rattle.broker.specs.declared.process.Request.{Request}
use Rattle.broker.specs.declared.process.Status.{Status}
use Rattle.broker.specs.declared.process.Status.TheVariants.{Running, Migrating, Ended}
use Rattle.broker.specs.declared.process.Vmid.{Vmid}
use Rattle.record.specs.declared.Record.{Record}
use Rattle.record.specs.declared.Record.TheVariants.{Start, Call, Route, Send, Take, Move, Heed, Drain, Land, Part, End, Look}

-- links and messages hold no names
names_elsewhere : {s : State} (ls : List Link) (u : Unread) → Names s → Names (with_links ls (with_unread u s))
names_elsewhere ls u n =
    record {
      numbers_in_range_lem = n.numbers_in_range_lem;
      vmids_drawn_lem = n.vmids_drawn_lem;
      calls_drawn_lem = n.calls_drawn_lem;
      tables_drawn_lem = n.tables_drawn_lem;
      vmids_apart_lem = n.vmids_apart_lem;
    }

module _ {s : State} (f : Shape s) (n : Names s) where
  -- a call to a rank in range, posted to a vmid that is drawn
  names_with_request : (r : Rank) (q : Option Request) → r.0 < ranks → of_call is_rank (is_drawn s) q ≡ true → Names (with_request r q s)
  names_with_request r q h e =
      record {
        numbers_in_range_lem = n.numbers_in_range_lem;
        vmids_drawn_lem = λ a ha. rw (status_with_request s r a q) (n.vmids_drawn_lem a ha);
        calls_drawn_lem =
            λ a ha.
            rw (request_with s r a q f.processes_long h)
            (chosen (λ x. of_call is_rank (is_drawn s) x ≡ true) (is_same_rank a r) q (request s a) (λ _. e) (λ _. n.calls_drawn_lem a ha));
        tables_drawn_lem = λ a b ha hb. rw (status_with_request s r b q) (n.tables_drawn_lem a b ha hb);
        vmids_apart_lem = λ a b ha hb. rw (status_with_request s r a q, status_with_request s r b q) (n.vmids_apart_lem a b ha hb);
      }

  -- a's entry for b, where b is started and the vmid is drawn
  names_with_location : (a b : Rank) (v : Vmid) → a.0 < ranks → b.0 < ranks → is_started (status s b) ≡ true → is_drawn s v ≡ true
      → Names (with_locations (set s.locations (cell a b) v) s)
  names_with_location a b v ha hb started drawn =
      record {
        numbers_in_range_lem = n.numbers_in_range_lem;
        vmids_drawn_lem = n.vmids_drawn_lem;
        calls_drawn_lem = n.calls_drawn_lem;
        vmids_apart_lem = n.vmids_apart_lem;
        tables_drawn_lem =
            λ p q hp hq.
            rw (cell_set s.locations a b p q v unknown f.locations_long ha hb hq)
            (chosen (λ w. cond (is_started (status s q)) (is_drawn s w) (same_vmid w unknown) ≡ true)
            (is_same_rank p a && is_same_rank q b) v
            (location s p q) (λ e. rw (same_rank_eq q b (both_right (is_same_rank p a) (is_same_rank q b) e), started) drawn)
            (λ _. n.tables_drawn_lem p q hp hq));
      }

  -- one more number on a host where there is room
  names_draw : (h : ℕ) → h < 8 → drawn_on s h < numbers → Names (draw h s)
  names_draw h host room =
      record {
        numbers_in_range_lem =
            λ k b.
            rw (drawn_after s h f.drawn_long host k)
            (chosen (λ (m : ℕ). m ≤ numbers) (eqb k h) (drawn_on s h + 1) (drawn_on s k) (λ _. omega arith)
            (λ _. n.numbers_in_range_lem k b));
        vmids_drawn_lem = λ r hr. every_wider (is_drawn s) (is_drawn (draw h s)) still (vmids_of (status s r)) (n.vmids_drawn_lem r hr);
        calls_drawn_lem = λ r hr. of_call_wider is_rank (is_drawn s) (is_drawn (draw h s)) still (request s r) (n.calls_drawn_lem r hr);
        tables_drawn_lem =
            λ a b ha hb.
            first_wider (is_started (status s b)) (is_drawn s (location s a b)) (is_drawn (draw h s) (location s a b))
            (same_vmid (location s a b) unknown) (still (location s a b)) (n.tables_drawn_lem a b ha hb);
        vmids_apart_lem = n.vmids_apart_lem;
      }
    where
      still : (v : Vmid) → is_drawn s v ≡ true → is_drawn (draw h s) v ≡ true
      still = still_drawn s h f.drawn_long host

  -- a host's next vmid is none of any rank's processes
  next_unshared : (h : ℕ) (b : Rank) → b.0 < ranks → every (λ w. not (same_vmid (next_vmid s h) w)) (processes_of (status s b)) ≡ true
  next_unshared h b hb =
      every_wider (is_drawn s) (λ w. not (same_vmid (next_vmid s h) w)) (next_apart s h) (processes_of (status s b))
      (processes_in (is_drawn s) (status s b) (n.vmids_drawn_lem b hb))

  -- a rank's standing, whose vmids are drawn and no other rank's, and the tables with it
  names_with_status : (r : Rank) (t : Status) (ls : List Vmid) → r.0 < ranks → is_started t ≡ true
      → every (is_drawn s) (vmids_of t) ≡ true → distinct (processes_of t) ≡ true
      → ((b : Rank) → b.0 < ranks → is_same_rank b r ≡ false → none_shared (processes_of t) (processes_of (status s b)) ≡ true)
      → ((a : Rank) → a.0 < ranks → is_drawn s (get_or ls (cell a r) unknown) ≡ true)
      → ((a b : Rank) → b.0 < ranks → is_same_rank b r ≡ false → get_or ls (cell a b) unknown ≡ location s a b)
      → Names (with_locations ls (with_status r t s))
  names_with_status r t ls in_range started drawn alone apart of_it of_others =
      record {
        numbers_in_range_lem = n.numbers_in_range_lem;
        vmids_drawn_lem =
            λ a ha.
            rw (after a)
            (chosen (λ x. every (is_drawn s) (vmids_of x) ≡ true) (is_same_rank a r) t (status s a) (λ _. drawn)
            (λ _. n.vmids_drawn_lem a ha));
        calls_drawn_lem = λ a ha. rw (request_with_status s r a t) (n.calls_drawn_lem a ha);
        tables_drawn_lem =
            λ a b ha hb.
            rw (after b)
            (chosen_at (told a) r b t (status s b) (rw started (of_it a ha))
            (λ e. rw (of_others a b hb e) (n.tables_drawn_lem a b ha hb)));
        vmids_apart_lem =
            λ a b ha hb.
            rw (after a, after b)
            (chosen_at (λ p x. separate p b x (cond (is_same_rank b r) t (status s b))) r a t (status s a)
            (chosen_at (λ q y. separate r q t y) r b t (status s b) (rw (same_rank_self r) alone)
            (λ e. rw (eqb_swap r.0 b.0, e) (apart b hb e)))
            (λ e. chosen_at (λ q y. separate a q (status s a) y) r b t (status s b)
            (rw e (none_shared_swap (processes_of t) (processes_of (status s a)) (apart a ha e))) (λ _. n.vmids_apart_lem a b ha hb)));
      }
    where
      after : (a : Rank) → status (with_status r t s) a ≡ cond (is_same_rank a r) t (status s a)
      after a = status_with s r a t f.processes_long in_range

      told : Rank → Rank → Status → Type 0
      told a b x = cond (is_started x) (is_drawn s (get_or ls (cell a b) unknown)) (same_vmid (get_or ls (cell a b) unknown) unknown) ≡ true

      separate : Rank → Rank → Status → Status → Type 0
      separate a b x y = cond (is_same_rank a b) (distinct (processes_of x)) (none_shared (processes_of x) (processes_of y)) ≡ true

  -- of a started rank: its current end is drawn and so is what the tables say of it, and where it has not ended no other has its end
  module _ (r : Rank) (in_range : r.0 < ranks) (started : is_started (status s r) ≡ true) where
    end_drawn : is_drawn s (endpoint (status s r)) ≡ true
    end_drawn = endpoint_in (is_drawn s) (status s r) started (n.vmids_drawn_lem r in_range)

    as_told : (a : Rank) → a.0 < ranks → is_drawn s (location s a r) ≡ true
    as_told a ha = rw started at (n.tables_drawn_lem a r ha in_range)

    end_unshared : is_ended (status s r) ≡ false → (b : Rank) → b.0 < ranks → is_same_rank b r ≡ false
        → every (λ w. not (same_vmid (endpoint (status s r)) w)) (processes_of (status s b)) ≡ true
    end_unshared live b hb e =
        endpoint_in (λ v. every (λ w. not (same_vmid v w)) (processes_of (status s b))) (status s r) started
        (rw (eqb_swap r.0 b.0, e, processes_all (status s r) live) at (n.vmids_apart_lem r b in_range hb))

  -- a started rank comes to stand so, with its current end as its only vmid
  names_at_end : (r : Rank) (t : Status) → One s r → is_started t ≡ true → vmids_of t ≡ endpoint (status s r) ∷ []
      → distinct (processes_of t) ≡ true
      → ((b : Rank) → b.0 < ranks → is_same_rank b r ≡ false → none_shared (processes_of t) (processes_of (status s b)) ≡ true)
      → Names (with_status r t s)
  names_at_end r t one started vmids alone apart =
      names_with_status r t s.locations one.in_range started
      (rw vmids (both (end_drawn r one.in_range one.started) refl)) alone apart
      (as_told r one.in_range one.started) (λ a b hb e. refl)

  -- a call that closes, if there is one
  names_withdraw : (a b : Rank) → a.0 < ranks → Names (withdraw a b s)
  names_withdraw a b ha =
      chosen Names (asks_for b (request s a)) (with_request a None s) s (λ _. names_with_request a None ha refl) (λ _. n)

-- every accepted record keeps the names sound
pub names_kept : (s : State) (r : Record) → Facts s → refusal s r ≡ none → Names (apply r s).state
unfolding apply start call send take move heed land part end look
names_kept s (Start r h) f p =
    let k = start_fits s r h p in
    let v = next_vmid s h in
    let drawn = next_drawn s h f.shape.drawn_long k.host in
    let long = f.shape.locations_long in
    names_with_status (shape_with_drawn h v.1 f.shape) (names_draw f.shape f.names h k.host k.room) r (Running v)
    (announced r v s.locations) k.in_range refl (both drawn refl) refl
    (λ b hb _. both (next_unshared f.shape f.names h b hb) refl)
    (λ a ha. rw (announced_own r v s.locations long a ha k.in_range) drawn)
    (λ a b hb. announced_other r v s.locations long a b hb k.in_range)
names_kept s (Call a b) f p =
    let two = (call_fits s a b p).two in
    names_with_request f.shape f.names a (posted b (location s a b)) two.first
    (both (lt-ltb b.0 ranks two.second) (as_told f.shape f.names b two.second two.second_started a two.first))
names_kept s (Route a b) f p =
    let two = (route_fits s a b p).two in
    let v = endpoint (status s b) in
    let drawn = end_drawn f.shape f.names b two.second two.second_started in
    let joined = shape_connect a b Open f.shape in
    let told = shape_with_locations _ (long_set cells s.locations (cell a b) v f.shape.locations_long) f.shape in
    route_cases Names a b s (names_with_request f.shape f.names a None two.first refl)
    (names_withdraw (shape_withdraw a b joined) (names_withdraw joined (names_elsewhere _ _ f.names) a b two.first) b a two.second)
    (names_with_request told
    (names_with_location f.shape f.names a b v two.first two.second two.second_started drawn) a (posted b v) two.first
    (both (lt-ltb b.0 ranks two.second) drawn))
names_kept s (Send a b v) f p = names_elsewhere _ _ f.names
names_kept s (Take b a) f p = names_elsewhere _ _ f.names
names_kept s (Move r h) f p =
    let k = move_fits s r h p in
    let one = k.one in
    let source = endpoint (status s r) in
    let target = next_vmid s h in
    let known = end_drawn f.shape f.names r one.in_range one.started in
    let still = still_drawn s h f.shape.drawn_long k.host source known in
    let shape = shape_with_drawn h target.1 f.shape in
    let names = names_draw f.shape f.names h k.host k.room in
    let live = running_not_ended (status s r) k.running in
    let unshared = end_unshared f.shape f.names r one.in_range one.started live in
    names_elsewhere _ _
    (names_with_status shape names r (Migrating source target) s.locations one.in_range refl
    (both still (both (next_drawn s h f.shape.drawn_long k.host) refl))
    (both (both (rw (same_vmid_swap target source) at (next_apart s h source known)) refl) refl)
    (λ b hb e. both (unshared b hb e) (both (next_unshared f.shape f.names h b hb) refl))
    (as_told shape names r one.in_range one.started) (λ a b hb e. refl))
names_kept s (Heed b r) f p = names_elsewhere _ _ f.names
names_kept s (Drain r q) f p = drain_cases Names r q s (names_elsewhere _ _ f.names) (names_elsewhere _ _ f.names)
names_kept s (Land r) f p =
    let k = land_fits s r p in
    let one = k.one in
    let live = migrating_not_ended (status s r) k.migrating in
    let unshared = end_unshared f.shape f.names r one.in_range one.started live in
    names_elsewhere _ _
    (names_at_end f.shape f.names r (Running (endpoint (status s r))) one refl refl refl (λ b hb e. both (unshared b hb e) refl))
names_kept s (Part a b) f p = names_elsewhere _ _ f.names
names_kept s (End r) f p =
    names_at_end f.shape f.names r (Ended (endpoint (status s r))) (end_fits s r p).one refl refl refl (λ b hb e. refl)
names_kept s (Look r) f p = f.names
