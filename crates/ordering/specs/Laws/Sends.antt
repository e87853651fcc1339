-- What stands in the second list for a send: a call, its route, once more where the posted vmid was not the current end, the send, and the
-- parting. Assumes nothing.
use Rattle.std.specs.Prelude.{◌≡◌, Bool, true, false, List, ◌∷◌, ℕ, Ok}
use Rattle.std.proofs.Math.Path.{refl, ap}
use Rattle.std.proofs.Common.{sym, ◌∙◌}
use Rattle.std.proofs.Math.Option.{none}
use Rattle.base.specs.Laws.Tests.{by_test}
use Rattle.transit.specs.declared.Rank.{Rank}
use Rattle.protocol.specs.Checks.{refusal}
use Rattle.record.specs.Kind
use Rattle.protocol.proofs.Laws.Accepted.{Two, send_fits}
use Rattle.protocol.proofs.Laws.Alike.{call_before, route_before, send_again, part_behind, receiver_runs, status_alike, same_standings}
use Rattle.protocol.specs.Laws.Core.{Core, core, core_step}
use Rattle.protocol.proofs.Laws.CoreStep.{core_step_lem}
use Rattle.protocol.proofs.Laws.Kept.{sound_kept}
use Rattle.protocol.proofs.Laws.Quiet.{Calling, Joined, Quiet, same_vmid_self, call_calm, route_corrects, route_joins, send_calm, part_calm}
use Rattle.broker.specs.Names.{same_vmid, endpoint, is_ended}
use Rattle.record.specs.Record.{decode, record_of}
use Rattle.protocol.specs.Sound.{sound}
use Rattle.broker.specs.State.{State, status, location}
use Rattle.protocol.specs.Step.{apply}
use Rattle.broker.specs.declared.process.Status.{Status}
use Rattle.broker.specs.declared.process.Vmid.{Vmid}
use Rattle.record.specs.declared.Record.{Record}
use Rattle.record.specs.declared.Record.TheVariants.{Call, Route, Send, Part}
use Rattle.ordering.specs.Claim.{Reading, is_byte, is_bytes}
use Rattle.ordering.specs.Laws.Following.{Following, step_follows}
use Rattle.ordering.specs.Laws.Stands.{Standing, of_two, two_is_bytes, quiet_after}

-- A send that s accepts, from a state with the same core.
module _ (s : State) (a b : Rank) (v : ℕ) (hs : sound s ≡ true) (p : refusal s (Send a b v) ≡ none) where
  two : Two s a b
  two = (send_fits s a b v p).two

  -- a record that names the two is in bytes
  named_in_bytes : (kind : ℕ) → is_byte kind ≡ true → is_bytes (of_two kind a b) ≡ true
  named_in_bytes kind known = two_is_bytes kind known a b two.first two.second

  -- the routes of a call, to a state in which the two ranks are joined: none of the five kinds, and no take
  record Way (x : State) : Type 0 where
    then : State
    is_sound : sound then ≡ true
    joined : Joined then a b
    alike : core then ≡ core s
    follows :
        (in_bytes : Bool) (five : List Record) (takes : Rank → Rank → List ℕ) (c : Core) →
        Following in_bytes none then five takes c →
        Following in_bytes none x five takes c

  -- One route.
  module _ (x : State) (u : Vmid) (calling : Calling x a b u) (h : sound x ≡ true) (same : core x ≡ core s) where
    routed : State
    routed = (apply (Route a b) x).state

    routes : refusal x (Route a b) ≡ none
    routes = route_before s a b v p x (same_standings same) u calling

    runs : is_ended (status x b) ≡ false
    runs = receiver_runs s a b v p x (same_standings same) calling hs

    routed_sound : sound routed ≡ true
    unfolding routed
    routed_sound = sound_kept x (Route a b) h routes

    routed_alike : core routed ≡ core s
    unfolding routed
    routed_alike = core_step_lem x (Route a b) h routes ∙ same

    routed_follows :
        (in_bytes : Bool) (five : List Record) (takes : Rank → Rank → List ℕ) (c : Core) →
        Following in_bytes none routed five takes c →
        Following in_bytes none x five takes c
    unfolding routed decode record_of
    routed_follows in_bytes five takes c f =
        step_follows x (of_two Kind.route a b) (Route a b) 3 (λ t. named_in_bytes Kind.route refl) refl h routes (λ l. refl) f

    -- A call that is posted to the current end is routed there.
    joins : same_vmid u (endpoint (status x b)) ≡ true → Way x
    unfolding routed apply
    joins e =
        record {
          then = routed;
          is_sound = routed_sound;
          joined = route_joins x a b u calling two.first two.second runs e;
          alike = routed_alike;
          follows = routed_follows;
        }

    -- Any other call is posted to the current end afterwards.
    corrects : same_vmid u (endpoint (status x b)) ≡ false → Calling routed a b (endpoint (status x b))
    unfolding routed apply
    corrects e = route_corrects x a b u calling two.first two.second runs e

  -- A call is routed once, or twice.
  way : (x : State) (u : Vmid) → Calling x a b u → sound x ≡ true → core x ≡ core s → Way x
  way x u calling h same =
      by_test (same_vmid u (endpoint (status x b)))
      (joins x u calling h same)
      (λ e.
      let y = routed x u calling h same in
      let again : Calling y a b (endpoint (status x b)) = corrects x u calling h same e in
      let same' : core y ≡ core s = routed_alike x u calling h same in
      let still : status y b ≡ status x b =
      status_alike s y (same_standings same') again b two.second ∙
      sym (status_alike s x (same_standings same) calling b two.second) in
      let current = ap (λ (t : Status). same_vmid (endpoint (status x b)) (endpoint t)) still ∙ same_vmid_self (endpoint (status x b)) in
      let w = joins y (endpoint (status x b)) again (routed_sound x u calling h same) same' current in
      record {
        then = w.then;
        is_sound = w.is_sound;
        joined = w.joined;
        alike = w.alike;
        follows =
            λ in_bytes five takes c f. routed_follows x u calling h same in_bytes five takes c (w.follows in_bytes five takes c f);
      })

  pub send_stands :
      (q : State) (x : Reading) (next : ℕ) →
      Quiet q →
      core q ≡ core s →
      decode x.log x.at ≡ Ok (Send a b v, next) →
      Standing s q x (Send a b v)
  unfolding apply decode record_of
  send_stands q x next quiet same reads =
      let calls = call_before s a b v p q (same_standings same) quiet.calm in
      let called = (apply (Call a b) q).state in
      let called_sound = sound_kept q (Call a b) quiet.is_sound calls in
      let calling : Calling called a b (location q a b) = call_calm q a b quiet.calm two.first in
      let w = way called (location q a b) calling called_sound (core_step_lem q (Call a b) quiet.is_sound calls ∙ same) in
      let sends = send_again s a b v p w.then (same_standings w.alike) w.joined w.alike w.is_sound hs in
      let sent = (apply (Send a b v) w.then).state in
      let sent_sound = sound_kept w.then (Send a b v) w.is_sound sends in
      let sent_joined : Joined sent a b = send_calm w.then a b v w.joined in
      let sent_core : core sent ≡ core_step (Send a b v) (core s) =
      core_step_lem w.then (Send a b v) w.is_sound sends ∙ ap (core_step (Send a b v)) w.alike in
      let parts = part_behind s a b v p sent (same_standings sent_core) sent_joined in
      record {
        then = (apply (Part a b) sent).state;
        quiet = quiet_after sent (Part a b) sent_sound parts (part_calm sent a b sent_joined two.first two.second);
        alike = core_step_lem sent (Part a b) sent_sound parts ∙ sent_core ∙ ap (core_step (Send a b v)) (sym same);
        follows =
            λ in_bytes bytes fs ts c f.
            step_follows q (of_two Kind.call a b) (Call a b) 3 (λ t. named_in_bytes Kind.call refl) refl quiet.is_sound calls (λ l. refl)
            (w.follows in_bytes (Send a b v ∷ fs) ts c
            (step_follows {then = none} w.then x (Send a b v) next bytes reads w.is_sound sends (λ l. refl)
            (step_follows sent (of_two Kind.part a b) (Part a b) 3 (λ t. named_in_bytes Kind.part refl) refl sent_sound parts (λ l. refl)
            f)));
      }
