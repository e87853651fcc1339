-- Which messages of slots a selection picks, by the slot's numbers.
-- Assumes nothing.
use Rattle.std.specs.Prelude.{◌&&◌, ◌≡◌, ℕ, ◌+◌, ◌*◌, ◌/◌, ◌<◌, eqb}
use Rattle.std.proofs.Common.{arith, eq-eqb, ne_eqb, le-leb, lt-ltb, le-ltb}
use Rattle.std.proofs.lemmas.Bool.{lt-leb}
use Rattle.transit.specs.Message.{place_number, picks, ranks, cells, pair_of}
use Rattle.transit.specs.Pick.{picked, pick_between, pick_to}
use Rattle.transit.specs.Slots.{place_of, message_of}
use Rattle.transit.specs.declared.Place.{Place}
use Rattle.transit.specs.declared.Rank.{Rank}
use Rattle.transit.specs.declared.Selection.TheVariants.{ToAt, BetweenAt}
use Rattle.transit.specs.Laws.Messages.{between_pair}
use Rattle.base.specs.Laws.Tests.{by_equal, by_less}

-- A number below four is that of its place.
number_back : (n : ℕ) → n < 4 → place_number (place_of n) ≡ n
number_back n small =
    by_equal n 0 (λ e. rw e) (λ not_0. by_equal n 1 (λ e. rw e) (λ not_1. by_equal n 2 (λ e. rw e)
    (λ not_2. rw (ne_eqb n 0 not_0, ne_eqb n 1 not_1, ne_eqb n 2 not_2) (omega (arith, not_0, not_1, not_2)))))

module _ (p n : ℕ) (small : p < cells) (place_small : n < 4) where
  -- A message of a pair at a place is in a slot of those numbers.
  pub picks_pair : (a b : Rank) (place : Place) → a.0 < ranks → b.0 < ranks
      → picks (BetweenAt a b place) (message_of p n 0 0) ≡ (eqb p (pair_of a b) && eqb n (place_number place))
  picks_pair a b place small_a small_b = rw (between_pair a b small_a small_b p small, number_back n place_small)

  -- A pass over the slots of a pair at a place picks just those messages.
  pub picked_between : (a b : Rank) (place : Place) → a.0 < ranks → b.0 < ranks
      → picks (BetweenAt a b place) (message_of p n 0 0) ≡ picked (pick_between a b place) p n
  picked_between a b place small_a small_b =
      let low = ranks * a.0 in
      by_equal (p / ranks) a.0
      (λ e. rw (eq-eqb (p / ranks) a.0 e, number_back n place_small, le-leb low p (omega arith), lt-ltb p (low + ranks) (omega arith)))
      (λ ne. by_less p low
      (λ below. rw (ne_eqb (p / ranks) a.0 ne, lt-leb low p below))
      (λ above. rw (ne_eqb (p / ranks) a.0 ne, le-leb low p above, le-ltb p (low + ranks) (omega (arith, ne)))))

  -- A pass over the slots of all pairs to a receiver at a place picks just those messages.
  pub picked_to : (r : Rank) (place : Place) → picks (ToAt r place) (message_of p n 0 0) ≡ picked (pick_to r place) p n
  picked_to r place = rw (number_back n place_small, le-leb 0 p (omega arith), lt-ltb p cells small)
