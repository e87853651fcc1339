-- What a move leaves of the links: the mover's own by its line, the others' to it by the same line, and all the rest as they stood.
-- Assumes nothing.
use Rattle.std.specs.Prelude.{◌≡◌, refl, true, false, cond, ◌&&◌, List, ℕ, zero, suc, ◌<◌, ◌≤◌, ltb, length}
use Rattle.std.proofs.Common.{◌∙◌, arith, length-set}
use Rattle.std.proofs.Math.Bool.{and-true, and-false}
use borrow.Author.Tests.{lt-ltb, le-ltb, ltb-true, ltb-false, eqb-false}
use Rattle.base.specs.Laws.Tests.{by_test, not_both, same_either}
use Rattle.transit.specs.Message.{is_same_rank, rank, ranks, cells}
use Rattle.transit.specs.declared.Rank.{Rank}
use Rattle.protocol.specs.Laws.Changes.{connect_as, await_as, left_by, faced_by}
use Rattle.protocol.specs.Laws.Links.{same_pair, both_changed}
use Rattle.protocol.specs.Laws.Ranks.{each_rank_keeps}
use Rattle.protocol.specs.Laws.State.{same_rank_eq, same_rank_self}
use Rattle.protocol.specs.Migrate.{leave, leave_over, leave_all}
use Rattle.broker.specs.Names.{is_closed}
use Rattle.broker.specs.Ranks.{each_rank}
use Rattle.base.specs.Below.{each_below}
use Rattle.broker.specs.State.{link_at}
use Rattle.broker.specs.declared.link.Backlog.TheVariants.{Unheeded, Marked}
use Rattle.broker.specs.declared.link.Connection.{Connection}
use Rattle.broker.specs.declared.link.Connection.TheVariants.{Closed, Open, Closing}
use Rattle.broker.specs.declared.link.Link.{Link}

-- over one line: the length stays, and but for the two links between the ranks all links do
leave_over_long : (c : Connection) (r p : Rank) (ls : List Link) → length ls ≡ cells → length (leave_over c r p ls) ≡ cells
leave_over_long Closed r p ls long = long
leave_over_long Open r p ls long = simp length-set long
leave_over_long Closing r p ls long = simp length-set long

leave_over_lem : (c : Connection) (r p : Rank) → r.0 < ranks → p.0 < ranks → (is_closed c ≡ false → is_same_rank r p ≡ false)
    → (ls : List Link) → length ls ≡ cells → (a b : Rank) → a.0 < ranks → b.0 < ranks
    → link_at (leave_over c r p ls) a b
    ≡ cond (same_pair r p a b) (left_by c (link_at ls a b)) (cond (same_pair r p b a) (faced_by c (link_at ls a b)) (link_at ls a b))
leave_over_lem Closed r p hr hp d ls long a b ha hb = simp same_either
leave_over_lem Open r p hr hp d ls long a b ha hb =
    both_changed r p hr hp ls long (λ l. record { connection = Closed; backlog = Unheeded }) (connect_as Closing) (d refl) a b ha hb
leave_over_lem Closing r p hr hp d ls long a b ha hb =
    both_changed r p hr hp ls long (λ l. record { connection = Closed; backlog = Marked }) (await_as Marked) (d refl) a b ha hb

-- a closed line is left as it is
pub closed_stays : (c : Connection) (l : Link) → is_closed c ≡ true → left_by c l ≡ l
closed_stays Closed l h = refl
closed_stays Open l h = absurd (not_both h refl)
closed_stays Closing l h = absurd (not_both h refl)

ltb_skip : (b k : ℕ) → (b ≡ k → ⊥) → ltb b (suc k) ≡ ltb b k
ltb_skip b k d =
    by_test (ltb b k)
    (λ e. rw e (lt-ltb b (suc k) (omega (arith, ltb-true b k e))))
    (λ e. rw e (le-ltb b (suc k) (omega (arith, ltb-false b k e))))

pub leave_all_long : (r : Rank) (ls : List Link) → length ls ≡ cells → length (leave_all r ls) ≡ cells
unfolding leave_all
leave_all_long r ls long =
    each_rank_keeps (λ (l : List Link). length l ≡ cells) (leave r) ls long (λ p l. leave_over_long (link_at l r p).connection r p l)

-- over the lines to each rank in turn
module _ (r : Rank) (hr : r.0 < ranks) (ls : List Link) (long : length ls ≡ cells) (own : is_closed (link_at ls r r).connection ≡ true)
  where
    -- what stands where the lines to the ranks below k are left
    abbrev left : ℕ → Rank → Rank → Link
    left k a b =
        cond (is_same_rank a r && ltb b.0 k) (left_by (link_at ls a b).connection (link_at ls a b))
        (cond (is_same_rank b r && ltb a.0 k) (faced_by (link_at ls b a).connection (link_at ls a b)) (link_at ls a b))

    record SoFar (k : ℕ) (l : List Link) : Type 0 where
      is_long : length l ≡ cells
      links : (a b : Rank) → a.0 < ranks → b.0 < ranks → link_at l a b ≡ left k a b

    turn : (p : Rank) → p.0 < ranks → (l : List Link) → SoFar p.0 l → SoFar (suc p.0) (leave r p l)
    turn p hp l f =
        record {
          is_long = leave_over_long (link_at l r p).connection r p l f.is_long;
          links =
              λ a b ha hb.
              leave_over_lem (link_at l r p).connection r p hr hp other l f.is_long a b ha hb ∙
              by_test (is_same_rank a r)
              (λ i. by_test (is_same_rank b p)
              (λ v. rw (same_rank_eq a r i, same_rank_eq b p v, same_line, same_rank_self r, same_rank_self p, by_now))
              (λ v. by_test (is_same_rank b r)
              (λ j.
              let u : is_same_rank a p ≡ false = rw (same_rank_eq a r i, ← same_rank_eq b r j) v in
              simp (f.links a b ha hb, i, j, u, v, skip a u, skip b v))
              (λ j. simp (f.links a b ha hb, i, j, v, skip b v, and-false))))
              (λ i. by_test (is_same_rank b r)
              (λ j. by_test (is_same_rank a p)
              (λ u. let d : is_same_rank p r ≡ false = rw (← same_rank_eq a p u) i in
              rw (same_rank_eq a p u, same_rank_eq b r j, same_line, f.links p r hp hr, d, same_rank_self r, same_rank_self p)
              (rw (not_yet, by_now, and-false)))
              (λ u. simp (f.links a b ha hb, i, j, u, skip a u, and-false)))
              (λ j. simp (f.links a b ha hb, i, j, and-false)));
        }
      where
        skip : (q : Rank) → is_same_rank q p ≡ false → ltb q.0 (suc p.0) ≡ ltb q.0 p.0
        skip q d = ltb_skip q.0 p.0 (eqb-false q.0 p.0 d)

        not_yet : ltb p.0 p.0 ≡ false
        not_yet = le-ltb p.0 p.0 (omega arith)

        by_now : ltb p.0 (suc p.0) ≡ true
        by_now = lt-ltb p.0 (suc p.0) (omega arith)

        same_line : link_at l r p ≡ link_at ls r p
        same_line =
            f.links r p hr hp ∙
            by_test (is_same_rank p r) (λ e. rw (← same_rank_eq p r e, not_yet, and-false)) (λ e. rw (e, not_yet, and-false))

        other : is_closed (link_at l r p).connection ≡ false → is_same_rank r p ≡ false
        other stands = by_test (is_same_rank r p) (λ e. absurd (not_both (rw (same_line, ← same_rank_eq r p e) own) stands)) (λ e. e)

    turns : (k : ℕ) → k ≤ ranks → SoFar k (each_below k (λ i. leave r (rank i)) ls)
    turns zero h =
        record {
          is_long = long;
          links = λ a b ha hb. rw (le-ltb a.0 zero (omega arith), le-ltb b.0 zero (omega arith), and-false, and-false);
        }
    turns (suc k) h = turn (rank k) h _ (turns k (omega arith))

    -- every pair's link after the move
    pub leave_all_at : (a b : Rank) → a.0 < ranks → b.0 < ranks
        → link_at (leave_all r ls) a b
        ≡ cond (is_same_rank a r) (left_by (link_at ls a b).connection (link_at ls a b))
        (cond (is_same_rank b r) (faced_by (link_at ls b a).connection (link_at ls a b)) (link_at ls a b))
    unfolding leave_all each_rank
    leave_all_at a b ha hb =
        (turns ranks (omega arith)).links a b ha hb ∙ rw (lt-ltb a.0 ranks ha, lt-ltb b.0 ranks hb, and-true, and-true)
