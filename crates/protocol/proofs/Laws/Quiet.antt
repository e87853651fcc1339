-- Quiet states, in which nobody migrates and no line, await or call stands; and the states that are quiet but for what is named. Start,
-- take and end leave quiet what was quiet, and so do a move with its landing, and a call, a route, a send and a parting together.
-- Assumes nothing.
use Rattle.std.specs.Prelude.{◌≡◌, Bool, true, false, cond, ◌&&◌, ℕ, ◌<◌, length, Option, None}
use Rattle.std.proofs.Math.Path.{refl}
use Rattle.std.proofs.Common.{ap, ◌∙◌, eq-eqb, length-set}
use Rattle.base.specs.Laws.Tests.{by_test, same_either}
use Rattle.transit.specs.Message.{is_same_rank, rank, ranks, cells}
use Rattle.transit.specs.declared.Rank.{Rank}
use Rattle.broker.specs.State.{connect, next_vmid, State, link_at, status, request, location, with_status, with_request, with_links}
use Rattle.protocol.specs.Connect.{connect_both, call, route, part, route_on}
use Rattle.base.specs.Laws.Stores.{long_set}
use Rattle.protocol.specs.Laws.State.{same_rank_self, link_set, status_with, request_with_status, request_with, status_with_request}
use Rattle.protocol.specs.Life.{start, end}
use Rattle.protocol.specs.Messages.{send, take}
use Rattle.protocol.specs.Migrate.{move, land, leave, leave_all}
use Rattle.broker.specs.Names.{same_vmid, endpoint, is_migrating, is_ended, posted}
use Rattle.broker.specs.Ranks.{each_rank}
use Rattle.base.specs.Laws.Below.{each_below_fixed}
use Rattle.protocol.specs.Sound.{sound}
use Rattle.broker.specs.declared.link.Backlog.TheVariants.{Clear}
use Rattle.broker.specs.declared.link.Connection.{Connection}
use Rattle.broker.specs.declared.link.Connection.TheVariants.{Closed, Open}
use Rattle.broker.specs.declared.link.Link.{Link}
use Rattle.broker.specs.declared.process.Request.{Request}
use Rattle.broker.specs.declared.process.Status.{Status}
use Rattle.broker.specs.declared.process.Status.TheVariants.{Running, Migrating, Ended}
use Rattle.broker.specs.declared.process.Vmid.{Vmid}

-- no backlog, and just these ranks migrating, these calls and these lines
pub record Calm (x : State) (moves : Rank → Bool) (asks : Rank → Option Request) (line : Rank → Rank → Connection) : Type 0 where
  pub processes_long : length x.processes ≡ ranks
  pub links_long : length x.links ≡ cells
  pub migrating : (r : Rank) → r.0 < ranks → is_migrating (status x r) ≡ moves r
  pub requests : (r : Rank) → r.0 < ranks → request x r ≡ asks r
  pub links : (a b : Rank) → a.0 < ranks → b.0 < ranks → link_at x.links a b ≡ record { connection = line a b; backlog = Clear }

abbrev pub nobody : Rank → Bool
nobody r = false

abbrev pub uncalled : Rank → Option Request
uncalled r = None

abbrev pub unlinked : Rank → Rank → Connection
unlinked a b = Closed

-- the functions with the value of a rank changed, and of a rank towards a rank
abbrev pub changed : {A : Type 0} → Rank → A → (Rank → A) → Rank → A
changed r v f p = cond (is_same_rank p r) v (f p)

abbrev pub changed_at : {A : Type 0} → Rank → Rank → A → (Rank → Rank → A) → Rank → Rank → A
changed_at r s v f p q = cond (is_same_rank p r && is_same_rank q s) v (f p q)

-- The same state in other words.
pub calm_as : {x : State} {m m' : Rank → Bool} {q q' : Rank → Option Request} {l l' : Rank → Rank → Connection} → Calm x m q l
    → ((r : Rank) → m r ≡ m' r) → ((r : Rank) → q r ≡ q' r) → ((a b : Rank) → l a b ≡ l' a b) → Calm x m' q' l'
calm_as c em eq el =
    record {
      processes_long = c.processes_long;
      links_long = c.links_long;
      migrating = λ r h. c.migrating r h ∙ em r;
      requests = λ r h. c.requests r h ∙ eq r;
      links = λ a b ha hb. c.links a b ha hb ∙ ap {B = Link} (λ t. record { connection = t; backlog = Clear }) (el a b);
    }

-- The changes of which the kinds are made, each as a change of what is named.
module _ {x : State} {m : Rank → Bool} {q : Rank → Option Request} {l : Rank → Rank → Connection} (c : Calm x m q l) where
  -- All but the processes and the links may change.
  calm_kept : (y : State) → y.processes ≡ x.processes → y.links ≡ x.links → Calm y m q l
  calm_kept y ep el =
      record {
        processes_long = rw ep c.processes_long;
        links_long = rw el c.links_long;
        migrating = λ r hr. rw ep (c.migrating r hr);
        requests = λ r hr. rw ep (c.requests r hr);
        links = λ a b ha hb. rw el (c.links a b ha hb);
      }

  -- One rank comes to stand so, or its call, or its line to another.
  calm_status : (r : Rank) (t : Status) → r.0 < ranks → Calm (with_status r t x) (changed r (is_migrating t) m) q l
  calm_status r t hr =
      record {
        processes_long = long_set ranks x.processes r.0 _ c.processes_long;
        links_long = c.links_long;
        links = c.links;
        migrating =
            λ p hp.
            rw (status_with x r p t c.processes_long hr) (by_test (is_same_rank p r) (λ e. rw e) (λ e. rw e (c.migrating p hp)));
        requests = λ p hp. request_with_status x r p t ∙ c.requests p hp;
      }

  calm_request : (r : Rank) (t : Option Request) → r.0 < ranks → Calm (with_request r t x) m (changed r t q) l
  calm_request r t hr =
      record {
        processes_long = long_set ranks x.processes r.0 _ c.processes_long;
        links_long = c.links_long;
        links = c.links;
        migrating = λ p hp. ap is_migrating (status_with_request x r p t) ∙ c.migrating p hp;
        requests =
            λ p hp.
            rw (request_with x r p t c.processes_long hr) (by_test (is_same_rank p r) (λ e. rw e) (λ e. rw e (c.requests p hp)));
      }

  calm_connect : (r p : Rank) (t : Connection) → r.0 < ranks → p.0 < ranks
      → Calm (with_links (connect r p t x.links) x) m q (changed_at r p t l)
  calm_connect r p t hr hp =
      record {
        processes_long = c.processes_long;
        links_long = simp length-set c.links_long;
        migrating = c.migrating;
        requests = c.requests;
        links =
            λ a b ha hb.
            rw (c.links r p hr hp, link_set x.links r p a b (record { connection = t; backlog = Clear }) c.links_long hr hp hb)
            (by_test (is_same_rank a r && is_same_rank b p) (λ e. rw e) (λ e. rw e (c.links a b ha hb)));
      }

-- nothing to name; r migrates; a's call to b is posted to v; a and b are joined by a plain line
abbrev pub AllQuiet : State → Type 0
AllQuiet x = Calm x nobody uncalled unlinked

abbrev pub Moving : State → Rank → Type 0
Moving x r = Calm x (changed r true nobody) uncalled unlinked

abbrev pub Calling : State → Rank → Rank → Vmid → Type 0
Calling x a b v = Calm x nobody (changed a (posted b v) uncalled) unlinked

abbrev pub Joined : State → Rank → Rank → Type 0
Joined x a b = Calm x nobody uncalled (changed_at b a Open (changed_at a b Open unlinked))

pub record Quiet (x : State) : Type 0 where
  pub is_sound : sound x ≡ true
  pub calm : AllQuiet x

-- Start, end and take leave all quiet.
pub start_calm : (x : State) (r : Rank) (h : ℕ) → AllQuiet x → r.0 < ranks → AllQuiet (start r h x).state
unfolding start
start_calm x r h c hr =
    calm_as (calm_kept (calm_status c r (Running (next_vmid x h)) hr) (start r h x).state refl refl)
    (λ p. same_either (is_same_rank p r) false) (λ p. refl) (λ p q. refl)

pub end_calm : (x : State) (r : Rank) → AllQuiet x → r.0 < ranks → AllQuiet (end r x).state
unfolding end
end_calm x r c hr =
    calm_as (calm_status c r (Ended (endpoint (status x r))) hr) (λ p. same_either (is_same_rank p r) false) (λ p. refl) (λ p q. refl)

pub take_calm : (x : State) (b a : Rank) → AllQuiet x → AllQuiet (take b a x).state
unfolding take
take_calm x b a c = calm_kept c (take b a x).state refl refl

-- A move from a quiet state awaits nothing, and its landing leaves all quiet.
pub move_calm : (x : State) (r : Rank) (h : ℕ) → AllQuiet x → r.0 < ranks → Moving (move r h x).state r
unfolding move leave_all each_rank
move_calm x r h c hr =
    calm_kept (calm_status c r (Migrating (endpoint (status x r)) (next_vmid x h)) hr) (move r h x).state refl
    (each_below_fixed ranks (λ k. leave r (rank k)) x.links (λ k hk. rw (c.links r (rank k) hr hk)))

pub land_calm : (x : State) (r : Rank) → Moving x r → r.0 < ranks → AllQuiet (land r x).state
unfolding land
land_calm x r c hr =
    calm_as (calm_kept (calm_status c r (Running (endpoint (status x r))) hr) (land r x).state refl refl)
    (λ p. by_test (is_same_rank p r) (λ e. rw e) (λ e. rw e)) (λ p. refl) (λ p q. refl)

-- A call from a quiet state is the only one.
pub call_calm : (x : State) (a b : Rank) → AllQuiet x → a.0 < ranks → Calling (call a b x).state a b (location x a b)
unfolding call
call_calm x a b c ha = calm_request c a (posted b (location x a b)) ha

-- A vmid is the same as itself.
pub same_vmid_self : (v : Vmid) → same_vmid v v ≡ true
same_vmid_self v = rw (eq-eqb v.0 v.0 refl, eq-eqb v.1 v.1 refl)

-- A route of the only call corrects the posted vmid, or joins the two.
module _ (x : State) (a b : Rank) (v : Vmid) (c : Calling x a b v) (ha : a.0 < ranks) (hb : b.0 < ranks)
    (runs : is_ended (status x b) ≡ false)
  where
    called : request x a ≡ posted b v
    called = c.requests a ha ∙ rw (same_rank_self a)

    pub route_corrects : same_vmid v (endpoint (status x b)) ≡ false → Calling (route a b x).state a b (endpoint (status x b))
    unfolding route
    route_corrects e =
        rw (runs, called, e)
        (calm_as
        (calm_kept (calm_request c a (posted b (endpoint (status x b))) ha) (route_on a b (endpoint (status x b)) x).state refl refl)
        (λ p. refl) (λ p. by_test (is_same_rank p a) (λ f. rw f) (λ f. rw f)) (λ p q. refl))

    pub route_joins : same_vmid v (endpoint (status x b)) ≡ true → Joined (route a b x).state a b
    unfolding route
    route_joins e =
        let joined : Joined (with_request a None (connect_both a b Open x)) a b =
        calm_as (calm_request (calm_connect (calm_connect c a b Open ha hb) b a Open hb ha) a None ha)
        (λ p. refl) (λ p. by_test (is_same_rank p a) (λ f. rw f) (λ f. rw f)) (λ p q. refl) in
        rw (runs, called, e, same_rank_self b, joined.requests b hb) joined

-- A send changes nothing of all that, and the parting of the only two that are joined leaves all quiet.
pub send_calm : (x : State) (a b : Rank) (v : ℕ) {l : Rank → Rank → Connection} → Calm x nobody uncalled l
    → Calm (send a b v x).state nobody uncalled l
unfolding send
send_calm x a b v c = calm_kept c (send a b v x).state refl refl

pub part_calm : (x : State) (a b : Rank) → Joined x a b → a.0 < ranks → b.0 < ranks → AllQuiet (part a b x).state
unfolding part
part_calm x a b c ha hb =
    calm_as (calm_kept (calm_connect (calm_connect c a b Closed ha hb) b a Closed hb ha) (part a b x).state refl refl)
    (λ p. refl) (λ p. refl)
    (λ p q.
    by_test (is_same_rank p b && is_same_rank q a) (λ e. rw e) (λ e. by_test (is_same_rank p a && is_same_rank q b)
    (λ f. rw (e, f)) (λ f. rw (e, f))))
