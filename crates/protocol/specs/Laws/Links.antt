-- Laws of links: what one link changed, and both links of a pair changed, leave at each pair of ranks. Assumes nothing.
use Rattle.std.specs.Prelude.{◌≡◌, refl, Bool, true, false, cond, ◌&&◌, List, ◌<◌, length}
use Rattle.std.proofs.Common.{◌∙◌, length-set}
use Rattle.std.proofs.Math.Bool.{and_comm}
use Rattle.base.specs.Laws.Tests.{by_test, both_left, both_right, fails_right}
use Rattle.transit.specs.Message.{is_same_rank, to, between, ranks, cells}
use Rattle.transit.specs.declared.Message.{Message}
use Rattle.transit.specs.declared.Rank.{Rank}
use Rattle.protocol.specs.Laws.State.{link_set, same_rank_eq, same_rank_turned, other_rank}
use Rattle.broker.specs.State.{link_at, set_link}
use Rattle.broker.specs.declared.link.Link.{Link}

-- a and b are p and q: of a message's receiver and sender what `between` says of the message
abbrev pub same_pair : Rank → Rank → Rank → Rank → Bool
same_pair p q a b = is_same_rank b q && is_same_rank a p

-- what holds of p and q holds of a pair that is p and q
pub of_pair : (P : Rank → Rank → Type 0) {p q : Rank} (a b : Rank) → P p q → same_pair p q a b ≡ true → P a b
of_pair P {p} {q} a b h e = rw (same_rank_eq a p (both_right (is_same_rank b q) _ e), same_rank_eq b q (both_left _ _ e)) h

-- a message of a pair is from its sender and to its receiver
pub sender_of : (a b : Rank) (m : Message) → between a b m ≡ true → m.sender ≡ a
sender_of a b m h = same_rank_eq m.sender a (both_left (is_same_rank m.sender a) (to b m) h)

pub receiver_of : (a b : Rank) (m : Message) → between a b m ≡ true → m.receiver ≡ b
receiver_of a b m h = same_rank_eq m.receiver b (both_right (is_same_rank m.sender a) (to b m) h)

-- no pair is p and q both ways round where they differ, and no rank is both
pub pair_once : (p q : Rank) → is_same_rank p q ≡ false → (a b : Rank) → same_pair p q a b ≡ true → same_pair p q b a ≡ false
pair_once p q d a b e = fails_right (is_same_rank a q) (other_rank b q p (same_rank_turned p q d) (both_left (is_same_rank b q) _ e))

pub not_twice : (p q x : Rank) → is_same_rank p q ≡ false → same_pair p q x x ≡ false
not_twice p q x d = by_test (is_same_rank x p) (λ e. rw (other_rank x p q d e)) (λ e. fails_right (is_same_rank x q) e)

-- one link changed
pub link_changed : (p q : Rank) → p.0 < ranks → q.0 < ranks → (ls : List Link) → length ls ≡ cells → (f : Link → Link) (a b : Rank)
    → b.0 < ranks → link_at (set_link ls p q (f (link_at ls p q))) a b ≡ cond (same_pair p q a b) (f (link_at ls a b)) (link_at ls a b)
link_changed p q hp hq ls long f a b hb =
    rw (link_set ls p q a b (f (link_at ls p q)) long hp hq hb, and_comm (is_same_rank a p) (is_same_rank b q))
    (by_test (same_pair p q a b) (λ e. rw e (of_pair (λ x y. f (link_at ls p q) ≡ f (link_at ls x y)) a b refl e)) (λ e. rw e))

-- both links of a pair changed, the one and then the other
module _ (p q : Rank) (hp : p.0 < ranks) (hq : q.0 < ranks) (ls : List Link) (long : length ls ≡ cells) (f g : Link → Link) where
  abbrev changed : List Link
  changed = set_link ls p q (f (link_at ls p q))

  pub both_changed : is_same_rank p q ≡ false → (a b : Rank) → a.0 < ranks → b.0 < ranks
      → link_at (set_link changed q p (g (link_at changed q p))) a b
      ≡ cond (same_pair p q a b) (f (link_at ls a b)) (cond (same_pair p q b a) (g (link_at ls a b)) (link_at ls a b))
  both_changed d a b ha hb =
      link_changed q p hq hp changed (simp length-set long) g a b hb ∙
      rw (link_changed p q hp hq ls long f a b hb, and_comm (is_same_rank b p) (is_same_rank a q))
      (by_test (same_pair p q a b) (λ e. rw (e, pair_once p q d a b e)) (λ e. rw e))
