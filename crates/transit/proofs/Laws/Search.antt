-- Walks along a pair's links, and what stands at their end.
-- Assumes nothing.
use Rattle.std.specs.Prelude.{List, ◌≢◌, ◌≡◌, ℕ, suc, ◌+◌, ◌<◌, ◌≤◌, get_or, set}
use Rattle.std.proofs.Common.{sym, ap, ◌∙◌, arith, eq-eqb, ne_eqb, length-set}
use Rattle.std.proofs.Math.ListN.{length}
use Rattle.transit.specs.Columns.{Columns, columns_of, PLACES, NEXT, FIRST, SLOTS}
use Rattle.transit.specs.Index.{Next, Index}
use Rattle.transit.specs.Mail.{messages_in, IsMail, FirstRelabelled}
use Rattle.transit.specs.Message.{place_number, picks, relabelled, ranks, cells, pair_of}
use Rattle.transit.specs.Search.{Walked, Reached}
use Rattle.transit.specs.Unread.{first_to}
use Rattle.transit.specs.declared.Place.{Place}
use Rattle.transit.specs.declared.Rank.{Rank}
use Rattle.transit.specs.declared.Selection.TheVariants.{BetweenAt}
use Rattle.transit.specs.Laws.Columns.{column_sizes, store_place, place_at, next_at, first_at}
use Rattle.transit.proofs.Laws.Earliest.{Earliest, earliest_nothing, earliest_changed}
use Rattle.base.specs.Laws.Lists.{length_change_first, change_first_unmet}
use Rattle.base.specs.Laws.Stores.{read_set}
use Rattle.base.specs.Laws.Tests.{by_equal, by_less, both}
use Rattle.transit.specs.Laws.Mail.{mail_places}
use Rattle.transit.specs.Laws.Messages.{pair_small}
use Rattle.transit.specs.Laws.Order.{place_below_four}
use Rattle.transit.specs.Laws.Places.{picks_pair}

module _ (s : List ℕ) (x : Index (columns_of s)) {p n : ℕ} (small : p < cells) where
  -- A walk begins at the pair's first slot.
  pub walk_first : Walked (columns_of s) p n (get_or s (FIRST + p) 0)
  walk_first =
      let f = x.firsts p small in
      rw (← first_at s p small)
      (record { within = f.within; own = f.here; none = λ k h mine. absurd (f.apart k (omega arith) h mine) })

  module _ {at : ℕ} (w : Walked (columns_of s) p n at) (inside : at < SLOTS) where
    -- The link of the slot.
    link : Next (columns_of s).pairs p (suc at) (get_or s (NEXT + at) 0)
    link = rw (next_at s at inside) at (x.nexts p at small inside (w.own inside))

    -- A link leads on.
    pub walk_on : at < get_or s (NEXT + at) 0
    walk_on = link.past

    -- A walk goes on from a slot that is at another place.
    pub walk_next : get_or s (PLACES + at) 0 ≢ n → Walked (columns_of s) p n (get_or s (NEXT + at) 0)
    walk_next other = record {
      within = link.within;
      own = link.here;
      none = λ k h mine. by_less k at
          (λ before. w.none k before mine)
          (λ past. by_equal k at
          (λ e. rw (e, place_at s at inside) other)
          (λ ne. absurd (link.apart k (omega (arith, ne)) h mine)));
    }

    -- It ends at a slot that is at the place.
    pub walk_there : get_or s (PLACES + at) 0 ≡ n → Reached (columns_of s) p n at
    walk_there is = record { walked = w; there = λ _. place_at s at inside ∙ is }

-- It ends at 2,048.
pub walk_over : {c : Columns} {p n at : ℕ} → Walked c p n at → SLOTS ≤ at → Reached c p n at
walk_over w end = record { walked = w; there = λ h. absurd (omega arith) }

module _ {s v : List ℕ} (d : IsMail s v) (a b : Rank) (small_a : a.0 < ranks) (small_b : b.0 < ranks) (place : Place) {at : ℕ}
    (r : Reached (columns_of s) (pair_of a b) (place_number place) at) where
  -- The slot reached is of the pair.
  live : at < SLOTS → get_or (columns_of s).pairs at 0 < cells
  live inside = omega (arith, r.walked.own inside, pair_small a b small_a small_b)

  -- It is the first slot of a message of the pair at the place.
  pub reached_earliest : Earliest s v (picks (BetweenAt a b place)) at
  reached_earliest =
      let c = columns_of s in
      record {
        live = live;
        passes = λ inside.
            picks_pair _ (get_or c.places at 0) (live inside) (d.placed at inside (live inside)) a b place small_a small_b
            ∙ both (eq-eqb (get_or c.pairs at 0) (pair_of a b) (r.walked.own inside))
            (eq-eqb (get_or c.places at 0) (place_number place) (r.there inside));
        others = λ k h slot alive.
            let p = get_or c.pairs k 0 in
            picks_pair p (get_or c.places k 0) alive (d.placed k slot alive) a b place small_a small_b
            ∙ by_equal p (pair_of a b)
            (λ e. rw (eq-eqb p (pair_of a b) e, ne_eqb (get_or c.places k 0) (place_number place) (r.walked.none k h e)))
            (λ ne. rw (ne_eqb p (pair_of a b) ne));
      }

  module _ (target : Place) where
    -- Where the slot reached goes to another place, the first selected message does.
    pub first_changed : at < SLOTS → FirstRelabelled (BetweenAt a b place) target s v (set s (PLACES + at) (place_number target))
    unfolding messages_in
    first_changed inside =
        let c = columns_of s in
        let n = place_number target in
        let changed = store_place s at n inside in
        let same : messages_in (set s (PLACES + at) n) v ≡ first_to (BetweenAt a b place) target (messages_in s v) =
        rw changed (earliest_changed d reached_earliest inside target) in
        record {
          kept =
              mail_places d (length-set s (PLACES + at) n ∙ d.slots_long) changed
              (λ k h alive. read_set c.places at n 0 (omega (arith, (column_sizes s d.slots_long).places_long)) (λ y. y < 4) k
              (λ _. place_below_four target) (λ _. d.placed k h alive))
              (ap length same ∙ length_change_first (picks (BetweenAt a b place)) (relabelled target) (messages_in s v));
          same = same;
        }

    -- Where the walk came to the end, nothing is selected, and nothing changes.
    pub first_unchanged : SLOTS ≤ at → FirstRelabelled (BetweenAt a b place) target s v s
    first_unchanged end = record {
      kept = d;
      same = sym (change_first_unmet _ (relabelled target) (messages_in s v) (earliest_nothing d reached_earliest end));
    }
