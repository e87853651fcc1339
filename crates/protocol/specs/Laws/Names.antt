-- Vmids: whose number is drawn, which two lists do not share, and which a standing has.
-- Assumes nothing.
use Rattle.std.specs.Prelude.{◌≡◌, refl, Bool, true, false, not, cond, ◌&&◌, List, ℕ, ◌+◌, ◌<◌, ◌≤◌, eqb, ltb, length, Option, None, Some}
use Rattle.std.proofs.Common.{ap, ◌∙◌, arith, lt-ltb, leb-true, le-leb, eqb-true, eq-eqb}
use Rattle.base.specs.Laws.Stores.{get_d_set}
use Rattle.base.specs.Laws.Tests.{by_test, both, both_left, both_right, chosen, not_both, eqb_swap}
use Rattle.base.specs.Lists.{every}
use Rattle.base.specs.Laws.Lists.{every_swap}
use Rattle.transit.specs.declared.Rank.{Rank}
use Rattle.broker.specs.State.{next_vmid, draw, State, drawn_on}
use Rattle.broker.specs.Names.{hosts, same_vmid, is_started, is_ended, endpoint, processes_of, vmids_of}
use Rattle.protocol.specs.Sound.{is_drawn, of_call, none_shared}
use Rattle.broker.specs.declared.process.Request.{Request}
use Rattle.broker.specs.declared.process.Status.{Status}
use Rattle.broker.specs.declared.process.Status.TheVariants.{Unstarted, Running, Migrating, Ended}
use Rattle.broker.specs.declared.process.Vmid.{Vmid}

-- two vmids are the same where their hosts and numbers are, compared either way round
pub same_vmid_eq : (v w : Vmid) → same_vmid v w ≡ true → v ≡ w
same_vmid_eq v w h =
    let p : v.0 ≡ w.0 = eqb-true v.0 w.0 (both_left (eqb v.0 w.0) (eqb v.1 w.1) h) in
    let q : v.1 ≡ w.1 = eqb-true v.1 w.1 (both_right (eqb v.0 w.0) (eqb v.1 w.1) h) in
    λ i. record { 0 = p i; 1 = q i }

pub same_vmid_swap : (v w : Vmid) → same_vmid v w ≡ same_vmid w v
same_vmid_swap v w = rw (eqb_swap v.0 w.0, eqb_swap v.1 w.1)

-- what one list does not share with another, the other does not share with it
pub none_shared_swap : (vs ws : List Vmid) → none_shared vs ws ≡ true → none_shared ws vs ≡ true
none_shared_swap = every_swap (λ v w. not (same_vmid v w)) (λ v w. not (same_vmid v w)) (λ v w h. rw (same_vmid_swap w v) h)

-- a vmid that is drawn has a number up to the last that is drawn on its host
pub drawn_number : (s : State) (v : Vmid) → is_drawn s v ≡ true → v.1 ≤ drawn_on s v.0
drawn_number s v d = leb-true v.1 (drawn_on s v.0) (both_right (ltb v.0 hosts && ltb 0 v.1) _ d)

-- a host's next vmid is none of those that are drawn
pub next_apart : (s : State) (h : ℕ) (w : Vmid) → is_drawn s w ≡ true → not (same_vmid (next_vmid s h) w) ≡ true
next_apart s h w d =
    by_test (same_vmid (next_vmid s h) w)
    (λ e. let p = drawn_number s (next_vmid s h) (ap (is_drawn s) (same_vmid_eq (next_vmid s h) w e) ∙ d) in
    absurd (omega arith)) (λ e. rw e)

-- when one more number is drawn on a host: what was drawn stays so, and the next vmid is drawn then
module _ (s : State) (h : ℕ) (long : length s.drawn ≡ hosts) (host : h < 8) where
  pub drawn_after : (k : ℕ) → drawn_on (draw h s) k ≡ cond (eqb k h) (drawn_on s h + 1) (drawn_on s k)
  drawn_after k = get_d_set s.drawn h k (drawn_on s h + 1) 0 (rw long host)

  pub still_drawn : (v : Vmid) → is_drawn s v ≡ true → is_drawn (draw h s) v ≡ true
  still_drawn v d =
      let number = drawn_number s v d in
      both (both_left (ltb v.0 hosts && ltb 0 v.1) _ d)
      (le-leb v.1 (drawn_on (draw h s) v.0)
      (rw (drawn_after v.0)
      (chosen (λ (m : ℕ). v.1 ≤ m) (eqb v.0 h) (drawn_on s h + 1) (drawn_on s v.0)
      (λ e. let g = rw (eqb-true v.0 h e) at number in omega arith) (λ _. number))))

  pub next_drawn : is_drawn (draw h s) (next_vmid s h) ≡ true
  next_drawn =
      both (both (lt-ltb h hosts host) (lt-ltb 0 (drawn_on s h + 1) (omega arith)))
      (le-leb (drawn_on s h + 1) (drawn_on (draw h s) h) (rw (drawn_after h, eq-eqb h h refl) (omega arith)))

-- the current end is among a standing's vmids
pub endpoint_in : (p : Vmid → Bool) (t : Status) → is_started t ≡ true → every p (vmids_of t) ≡ true → p (endpoint t) ≡ true
endpoint_in p Unstarted a h = absurd (not_both a refl)
endpoint_in p (Running v) a h = both_left (p v) true h
endpoint_in p (Migrating v w) a h = both_left (p w) true (both_right (p v) (p w && true) h)
endpoint_in p (Ended v) a h = both_left (p v) true h

-- a standing's processes are among its vmids, and all of them where it has not ended
pub processes_in : (p : Vmid → Bool) (t : Status) → every p (vmids_of t) ≡ true → every p (processes_of t) ≡ true
processes_in p Unstarted h = h
processes_in p (Running v) h = h
processes_in p (Migrating v w) h = h
processes_in p (Ended v) h = refl

pub processes_all : (t : Status) → is_ended t ≡ false → processes_of t ≡ vmids_of t
processes_all Unstarted h = refl
processes_all (Running v) h = refl
processes_all (Migrating v w) h = refl
processes_all (Ended v) h = absurd (not_both refl h)

-- a wider test of vmids passes where a narrower does: of a call's vmid
pub of_call_wider : (f : Rank → Bool) (p q : Vmid → Bool) → ((v : Vmid) → p v ≡ true → q v ≡ true)
    → (c : Option Request) → of_call f p c ≡ true → of_call f q c ≡ true
of_call_wider f p q wider None h = h
of_call_wider f p q wider (Some c) h = both (both_left (f c.to) (p c.vmid) h) (wider c.vmid (both_right (f c.to) (p c.vmid) h))
