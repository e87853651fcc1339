-- Laws of the state's parts and their changes: what stands at each place after a change. Assumes nothing.
use Rattle.std.specs.Prelude.{◌≡◌, refl, true, false, cond, ◌&&◌, List, ℕ, ◌+◌, ◌<◌, eqb, length, get_or, set, Option}
use Rattle.std.proofs.Common.{ap, arith, eq-eqb, ne_eqb, eqb-true}
use Rattle.std.proofs.lemmas.Bool.{eqb-false}
use Rattle.base.specs.Laws.Stores.{get_d_set, store_unseen}
use Rattle.base.specs.Laws.Tests.{by_test, eqb_swap}
use Rattle.transit.specs.Message.{is_same_rank, ranks, cells}
use Rattle.transit.specs.Unread.{sent_at, one_message_more}
use Rattle.transit.specs.declared.Rank.{Rank}
use Rattle.broker.specs.State.{
  State,
  idle,
  apart,
  cell,
  link_at,
  set_link,
  process,
  status,
  request,
  with_process,
  with_status,
  with_request,
}
use Rattle.broker.specs.declared.link.Link.{Link}
use Rattle.broker.specs.declared.process.Process.{Process}
use Rattle.broker.specs.declared.process.Request.{Request}
use Rattle.broker.specs.declared.process.Status.{Status}

-- two ranks are the same where their numbers are
pub same_rank_eq : (a b : Rank) → is_same_rank a b ≡ true → a ≡ b
same_rank_eq a b h = ap {B = Rank} (λ n. record { 0 = n }) (eqb-true a.0 b.0 h)

pub same_rank_self : (a : Rank) → is_same_rank a a ≡ true
same_rank_self a = eq-eqb a.0 a.0 refl

pub same_rank_turned : (a b : Rank) → is_same_rank a b ≡ false → is_same_rank b a ≡ false
same_rank_turned a b d = rw (eqb_swap b.0 a.0) d

-- of two ranks that differ, a third is not both
pub other_rank : (x a b : Rank) → is_same_rank a b ≡ false → is_same_rank x a ≡ true → is_same_rank x b ≡ false
other_rank x a b d e = rw (same_rank_eq x a e) d

-- each rank and rank has a cell of its own
pub cell_same : (a b p q : Rank) → b.0 < ranks → q.0 < ranks → eqb (cell a b) (cell p q) ≡ (is_same_rank a p && is_same_rank b q)
cell_same a b p q hb hq =
    by_test (is_same_rank a p)
    (λ e. let g = eqb-true a.0 p.0 e in by_test (is_same_rank b q)
    (λ f. let h = eqb-true b.0 q.0 f in rw (e, f, eq-eqb (cell a b) (cell p q) (omega arith)))
    (λ f. rw (e, f, ne_eqb (cell a b) (cell p q) (λ c. eqb-false b.0 q.0 f (omega arith)))))
    (λ e. rw (e, ne_eqb (cell a b) (cell p q) (λ c. eqb-false a.0 p.0 e (omega arith))))

pub cell_below : (a b : Rank) → a.0 < ranks → b.0 < ranks → cell a b < cells
cell_below a b ha hb = omega arith

-- a table of a cell for each rank and rank, after a store
pub cell_set : {A : Type 0} (l : List A) (p q a b : Rank) (x d : A) → length l ≡ cells → p.0 < ranks → q.0 < ranks → b.0 < ranks
    → get_or (set l (cell p q) x) (cell a b) d ≡ cond (is_same_rank a p && is_same_rank b q) x (get_or l (cell a b) d)
cell_set l p q a b x d n hp hq hb =
    rw (get_d_set l (cell p q) (cell a b) x d (rw n (cell_below p q hp hq)), cell_same a b p q hb hq)

pub link_set : (ls : List Link) (p q a b : Rank) (l : Link) → length ls ≡ cells → p.0 < ranks → q.0 < ranks → b.0 < ranks
    → link_at (set_link ls p q l) a b ≡ cond (is_same_rank a p && is_same_rank b q) l (link_at ls a b)
link_set ls p q a b l n hp hq hb = cell_set ls p q a b l apart n hp hq hb

-- how many c has sent to d, once a has sent b one more
pub sent_after : (counts : List ℕ) (a b c d : Rank) → length counts ≡ cells → a.0 < ranks → b.0 < ranks → d.0 < ranks
    → sent_at c d (one_message_more a b counts) ≡ cond (is_same_rank a c && is_same_rank b d) (sent_at a b counts + 1) (sent_at c d counts)
sent_after counts a b c d long ha hb hd =
    rw (eqb_swap a.0 c.0, eqb_swap b.0 d.0) (cell_set counts a b c d (sent_at a b counts + 1) 0 long ha hb hd)

-- a rank's process, its standing and its call, after a change of one rank's
module _ (s : State) (r a : Rank) where
  process_with : (p : Process) → length s.processes ≡ ranks → r.0 < ranks
      → process (with_process r p s) a ≡ cond (is_same_rank a r) p (process s a)
  process_with p n h = get_d_set s.processes r.0 a.0 p idle (rw n h)

  pub status_with : (t : Status) → length s.processes ≡ ranks → r.0 < ranks
      → status (with_status r t s) a ≡ cond (is_same_rank a r) t (status s a)
  status_with t n h =
      rw (process_with (record { status = t; request = request s r }) n h, status) (by_test (is_same_rank a r) (λ e. rw e) (λ e. rw e))

  pub request_with : (q : Option Request) → length s.processes ≡ ranks → r.0 < ranks
      → request (with_request r q s) a ≡ cond (is_same_rank a r) q (request s a)
  request_with q n h =
      rw (process_with (record { status = status s r; request = q }) n h, request) (by_test (is_same_rank a r) (λ e. rw e) (λ e. rw e))

  -- a change of its standing leaves its call, and the other way round
  pub request_with_status : (t : Status) → request (with_status r t s) a ≡ request s a
  request_with_status t = store_unseen (λ (p : Process). p.request) s.processes r.0 a.0 _ idle refl

  pub status_with_request : (q : Option Request) → status (with_request r q s) a ≡ status s a
  status_with_request q = store_unseen (λ (p : Process). p.status) s.processes r.0 a.0 _ idle refl
